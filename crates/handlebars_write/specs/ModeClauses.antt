-- What the methods of an output mode guarantee.
use Rattle.std.specs.Prelude.{◌≡◌, Bool, true, false, List, Option}
use Rattle.std.specs.declared.io.Error.{Error}
use denote.MutBor.{MutBor}
use denote.Triple.Both.{Both}
use Rattle.handlebars_base.specs.Bytes.{Text}
use Rattle.handlebars_base.specs.Outputs.{Held}
use Rattle.handlebars_scope.specs.LineView.{line_of}
use Rattle.handlebars_scope.specs.declared.line.LineState.{LineState}
use Rattle.handlebars_semantics.specs.Emitted.{Emitted, Kind, Provenance, provenance}
use Rattle.handlebars_semantics.specs.Pieces.{Origin, Piece}
use Rattle.handlebars_semantics.specs.State.{State}
use Rattle.handlebars_expand.specs.View.{with_line}
use Rattle.handlebars_write.specs.LocationView.{indent_in, provenance_in}
use Rattle.handlebars_write.specs.ModeView.{ModeView}
use Rattle.handlebars_write.specs.OutcomeView.{UnlessDone, outcome_answer}
use Rattle.handlebars_write.specs.View.{Answered, Moment, held_in, moment_at, text_only}
use Rattle.handlebars_write.specs.Writes.{EmitsPiece, Puts, PutsText, WritesAsIs, WritesText}
use Rattle.handlebars_write.specs.declared.location.ElementLocation.{ElementLocation}
use Rattle.handlebars_write.specs.declared.outcome.Outcome.{Outcome}
use Rattle.handlebars_write.specs.declared.sink.Sink.{Sink}

-- The statement holds of the moments before and after a call, in each state that has this indentation and the line that the call
-- was passed. The state afterwards has the line that the call has left.
abbrev pub InLine : {O T : Type 0} → ModeView O → Option Text → Both (MutBor LineState) (MutBor LineState)
    → Both (MutBor (Sink O T)) (MutBor (Sink O T)) → Outcome → (Moment → Answered → Moment → Type 0) → Type 0
InLine w indent line sink outcome Says =
    (s : State) → s.indent ≡ indent → s.line ≡ line_of line.entry.now
    → Says (moment_at s (held_in w sink.entry.now)) (outcome_answer outcome)
    (moment_at (with_line (line_of line.exit.now) s) (held_in w sink.exit.now))

-- A text of this kind and path was put from the location of an element. An origin has this kind, path and location if pieces are
-- received; otherwise it may be any.
abbrev pub PutsFrom : {O T : Type 0} → ModeView O → ElementLocation → Kind → Option (List Text) → Text
    → Both (MutBor LineState) (MutBor LineState) → Both (MutBor (Sink O T)) (MutBor (Sink O T)) → Outcome → Type 0
PutsFrom w x kind path text line sink outcome =
    (o : Origin) → (w.asks ≡ true → provenance o ≡ provenance_in x kind path)
    → InLine w (indent_in x) line sink outcome (Puts o text w.may_give)

-- Pieces were written as they are, and the state of the line was not updated.
abbrev pub WritesTo : {O T : Type 0} → ModeView O → List Piece → Bool → Both (MutBor (Sink O T)) (MutBor (Sink O T)) → Outcome → Type 0
WritesTo w ps at_boolean_text sink outcome =
    WritesAsIs ps at_boolean_text w.may_give (held_in w sink.entry.now) (outcome_answer outcome) (held_in w sink.exit.now)

-- The line is unchanged, unless the call succeeded.
abbrev pub IsLineUnchanged : Both (MutBor LineState) (MutBor LineState) → Outcome → Type 0
IsLineUnchanged line outcome = UnlessDone outcome (line.exit.now ≡ line.entry.now)

-- ---- outputs of text

-- A text was written to an output of text, or a prefix of it, and then the write error is reported.
abbrev pub TextWritten : Text → Bool → (Error → Type 0) → Held → Outcome → Held → Type 0
TextWritten t at_boolean_text may before outcome after =
    WritesText t at_boolean_text may (text_only before) (outcome_answer outcome) (text_only after)

-- A text was written to a sink of which no piece is received.
abbrev pub WritesTextTo : {O T : Type 0} → ModeView O → Text → Bool → Both (MutBor (Sink O T)) (MutBor (Sink O T)) → Outcome → Type 0
WritesTextTo w t at_boolean_text sink outcome =
    WritesText t at_boolean_text w.may_give (held_in w sink.entry.now) (outcome_answer outcome) (held_in w sink.exit.now)

-- A text was put to a sink of which no piece is received, with this indentation in force.
abbrev pub PutsTextIn : {O T : Type 0} → ModeView O → Option Text → Text → Both (MutBor LineState) (MutBor LineState)
    → Both (MutBor (Sink O T)) (MutBor (Sink O T)) → Outcome → Type 0
PutsTextIn w indent text line sink outcome = InLine w indent line sink outcome (PutsText text w.may_give)

-- ---- outputs of pieces

-- A piece was emitted to a sink that receives pieces, or it was not, and the output failed or memory ran out.
abbrev pub EmitsTo : {O T : Type 0} → ModeView O → Emitted → Bool → Both (MutBor (Sink O T)) (MutBor (Sink O T)) → Outcome → Type 0
EmitsTo w t at_boolean_text sink outcome =
    EmitsPiece t at_boolean_text w.may_give (held_in w sink.entry.now) (outcome_answer outcome) (held_in w sink.exit.now)

-- The pieces of an origin that is emitted as this one were written as they are.
abbrev pub WritesFrom : {O T : Type 0} → ModeView O → Provenance → (Origin → List Piece) → Both (MutBor (Sink O T)) (MutBor (Sink O T))
    → Outcome → Type 0
WritesFrom w from pieces sink outcome = (o : Origin) → provenance o ≡ from → WritesTo w (pieces o) false sink outcome
