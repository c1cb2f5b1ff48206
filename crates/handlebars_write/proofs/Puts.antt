-- What the calls that write a text guarantee.
use Rattle.std.proofs.Common.{◌≡◌, ◌≢◌, ◌<◌, Bool, true, false, List, map, [], ◌∷◌, ◌++◌, length, Option, None, Some, Ok, Err, refl, sym, ap, ◌∙◌, subst, append-nil, inl, inr, MatchResult, arith}
use Rattle.std.specs.Prelude.{unwrap_or, IfOk}
use Rattle.std.specs.declared.io.Error.{Error}
use Rattle.std.specs.declared.io.ErrorKind.TheVariants.{OutOfMemory}
use Rattle.std.specs.IoError.{error_kind}
use Rattle.handlebars_base.specs.Bytes.{Text}
use Rattle.handlebars_base.specs.Reasons.{Refusal, out_of_memory}
use Rattle.handlebars_base.specs.RenderRefusals.{cause_of, reason_in, refusal_of, plain_refusal}
use Rattle.handlebars_base.specs.declared.error.render_error.RenderError.{RenderError}
use Rattle.handlebars_base.specs.declared.error.render_error.RenderErrorReason.TheVariants.{IOError}
use Rattle.handlebars_base.specs.Outputs.{Held, IsWhole, IsWrittenInPart, held_of, write_reason}
use Rattle.handlebars_base.specs.Shown.{escaped_if}
use Rattle.handlebars_scope.specs.Indentation.{written_in}
use Rattle.handlebars_scope.specs.LineState.{LineState, line_after_text}
use Rattle.handlebars_scope.proofs.Indents.{written_in-none}
use Rattle.handlebars_scope.proofs.Lines.{line_after_text-escaped}
use Rattle.handlebars_semantics.specs.Pieces.{Origin, Piece, join, put}
use Rattle.handlebars_semantics.specs.Runs.{none, plain_write_error}
use Rattle.handlebars_semantics.specs.State.{State}
use Rattle.handlebars_semantics.specs.Emitted.{emitted}
use Rattle.handlebars_semantics.proofs.Pieces.{Prefix-of, join-put}
use Rattle.handlebars_expand.specs.PiecesView.{ahead_emitted, captured_emitted, plain_text}
use Rattle.handlebars_expand.specs.View.{AreCaptured, with_line, written_at}
use Rattle.handlebars_expand.specs.declared.ahead.Ahead as declared
use Rattle.handlebars_expand.specs.declared.ahead.Captured.{Captured}
use Rattle.handlebars_write.specs.View.{Answered, Holding, ReportsWriteError, boolean_text_reason, held_in, holding_ahead, emitted_if, moment_at, text_only, with_emitted}
use Rattle.handlebars_write.specs.ModeView.{ModeView}
use Rattle.handlebars_write.specs.OutcomeView.{Reports, memory_answer, outcome_answer}
use Rattle.handlebars_write.specs.Writes.{AreSome, Puts, PutsText, WritesPieces, WritesAsIs, WritesText, all_written, prefix_written, part_written, text_truncated, text_part, text_written}
use Rattle.handlebars_write.specs.declared.outcome.Outcome.{Outcome}
use Rattle.handlebars_write.specs.declared.outcome.Outcome.TheVariants as outcomes
use Rattle.handlebars_write.specs.declared.sink.Sink.{Sink}
use Rattle.handlebars_write.specs.declared.sink.Sink.TheVariants.{Out, Ahead}
use Rattle.handlebars_write.proofs.Refinement.{gains-none, memory_or}

-- without an indentation a text is written as it is
pub plain-at : (s : State) (t : Text) → s.indent ≡ None → t ≡ written_at s t
plain-at s t is = sym (written_in-none (unwrap_or s.indent []) s.line t (ap (λ (o : Option Text). unwrap_or o []) is))

-- and under one it is written with it
pub under-at : (s : State) (t i : Text) (line : LineState) → s.indent ≡ Some i → s.line ≡ line → written_in i line t ≡ written_at s t
under-at s t i line is same = ap (λ (z : LineState). written_in i z t) (sym same)
    ∙ ap (λ (o : Option Text). written_in (unwrap_or o []) s.line t) (sym is)

-- no entity ends a line
pub after-if : (escapes : Bool) (t : Text) (line : LineState) → line_after_text t line ≡ line_after_text (escaped_if escapes t) line
after-if true t line = sym (line_after_text-escaped t line)
after-if false t line = refl

-- ---- what an error reports of a write error

pub reports_write_error : (cause : Error) (e : RenderError) → refusal_of e ≡ plain_refusal (write_reason (error_kind cause))
    → (error_kind cause ≢ OutOfMemory → cause_of e ≡ IOError cause) → ReportsWriteError cause (plain_write_error false) e
reports_write_error cause e is unchanged = record {
  why = λ other. (
    ap (λ (r : Refusal). r.reason) is,
    unchanged (λ memory. other (ap (λ (r : Refusal). r.reason) is ∙ ap write_reason memory)),
  );
  where_it_is = λ other. ap (λ (r : Refusal). r.location) is;
}

-- out of memory is reported, at a boolean text too
reports-memory : (at_boolean_text : Bool) (cause : Error) (e : RenderError) → error_kind cause ≡ OutOfMemory
    → ReportsWriteError cause (plain_write_error at_boolean_text) e → reason_in e ≡ out_of_memory
reports-memory false cause e is reports = elim (memory_or (reason_in e)) [
  | inl memory ↦ memory
  | inr other ↦ (reports.why other).0 ∙ ap write_reason is
]
reports-memory true cause e is reports = elim (memory_or (reason_in e)) [
  | inl memory ↦ memory
  | inr other ↦ (reports.why other).1 ∙ ap (λ k. boolean_text_reason k (reports.why other).0) is
]

-- ---- what isn't emitted

-- if pieces aren't received, none were
pub none_emitted : {O T : Type 0} (w : ModeView O) (sink : Sink O T) → w.asks ≡ false → (held_in w sink).emitted ≡ None
none_emitted w (Out o x) is = ap (λ b. emitted_if b (w.emitted o.now)) is
none_emitted w (Ahead a) is = ap (λ b. emitted_if b (ahead_emitted a.now)) is

-- what is captured is then a text, and otherwise its pieces
pub captured_as_text : (ps : List Piece) (k : Captured) → AreCaptured false (Some ps) (Some k) → join ps ≡ plain_text k
captured_as_text ps k are = ap (λ o. unwrap_or o []) are

pub captured_as_pieces : (ps : List Piece) (k : Captured) → AreCaptured true (Some ps) (Some k) → map emitted ps ≡ captured_emitted k
captured_as_pieces ps k are = ap (λ o. unwrap_or o []) are

module _ (may : Error → Type 0) where
  -- ---- texts

  -- another text that is the same
  pub text_as : {x t : Text} {at_boolean_text : Bool} {h new : Holding} {r : Answered} → x ≡ t → WritesText x at_boolean_text may h r new
      → WritesText t at_boolean_text may h r new
  text_as {at_boolean_text = at_boolean_text} {h = h} {new = new} {r = r} same =
      subst (λ (z : Text). WritesText z at_boolean_text may h r new) same

  -- an output took all of a text
  pub text_all : {t : Text} {at_boolean_text : Bool} {u : Unit {0}} (h new : Held) → IsWhole t h new
      → WritesText t at_boolean_text may (text_only h) (Ok u) (text_only new)
  text_all h new whole = text_written (record { text = whole.text; write_errors = whole.write_errors })

  -- or a prefix of it, and its write error is reported
  pub text_error : {t : Text} {at_boolean_text : Bool} (h new : Held) (cause : Error) (e : RenderError) → IsWrittenInPart t h new → may cause
      → ReportsWriteError cause (plain_write_error at_boolean_text) e
      → WritesText t at_boolean_text may (text_only h) (Err e) (text_only new)
  text_error h new cause e cut given reports = text_truncated cause given (record {
    some = cut.some;
    prefix = cut.prefix;
    is_prefix = cut.is_prefix;
    text = cut.text;
    write_errors = cut.write_errors;
  }) reports

  pub text_reported : {t : Text} {at_boolean_text : Bool} (h new : Held) (cause : Error) (o : Outcome) → IsWrittenInPart t h new → may cause
      → Reports cause at_boolean_text o → WritesText t at_boolean_text may (text_only h) (outcome_answer o) (text_only new)
  text_reported {t = t} {at_boolean_text = at_boolean_text} h new cause o cut given reports = by_answer (outcome_answer o) reports
    where
      by_answer : (r : Answered) → MatchResult r (λ u. ⊥) (λ e. ReportsWriteError cause (plain_write_error at_boolean_text) e)
          → WritesText t at_boolean_text may (text_only h) r (text_only new)
      by_answer (Ok u) is = absurd is
      by_answer (Err e) is = text_error h new cause e cut given is

  -- A text that is rendered ahead fails when memory runs out, and counts no write errors.
  pub text_ahead : {t : Text} {at_boolean_text : Bool} {r : Answered} (a b : declared.Ahead)
      → WritesText t at_boolean_text (λ e. error_kind e ≡ OutOfMemory) (text_only (held_of a.text)) r (text_only (held_of b.text))
      → WritesText t at_boolean_text may (holding_ahead false a) r (holding_ahead false b)
  text_ahead a b (text_written all) = text_written (record { text = all.text; write_errors = refl })
  text_ahead {at_boolean_text = at_boolean_text} a b (text_truncated {e = e} cause given cut reports) = text_part (record {
    prefix = cut.prefix;
    is_prefix = cut.is_prefix;
    text = cut.text;
    write_errors = refl;
  }) (reports-memory at_boolean_text cause e given reports)
  text_ahead a b (text_part part memory) = text_part (record {
    prefix = part.prefix;
    is_prefix = part.is_prefix;
    text = part.text;
    write_errors = refl;
  }) memory

  -- ---- a text in a line

  -- it was written, and the state of the line is updated
  pub text_put : {x : Text} (t : Text) (s : State) (line next : LineState) {h new : Holding} {u : Unit {0}} → s.line ≡ line
      → next ≡ line_after_text t line → x ≡ written_at s t → WritesText x false may h (Ok u) new
      → PutsText t may (moment_at s h) (Ok u) (moment_at (with_line next s) new)
  text_put t s line next same after is written =
      (ap (λ (z : LineState). with_line z s) (after ∙ ap (λ (z : LineState). line_after_text t z) (sym same)), text_as is written)

  -- or not, and the state may be any
  pub text_failed : {x : Text} (t : Text) (s next : State) {h new : Holding} (o : Outcome) → o ≢ outcomes.Done → x ≡ written_at s t
      → WritesText x false may h (outcome_answer o) new
      → PutsText t may (moment_at s h) (outcome_answer o) (moment_at next new)
  text_failed t s next outcomes.Done failed is written = absurd (failed refl)
  text_failed t s next outcomes.OutOfMemory failed is written = (tt, text_as is written)
  text_failed t s next (outcomes.Error e) failed is written = (tt, text_as is written)

  -- nothing was written, when memory ran out
  pub text-no_memory : (t : Text) (s next : State) (h : Holding) → PutsText t may (moment_at s h) memory_answer (moment_at next h)
  text-no_memory t s next h = (
    tt,
    text_part (record {
      prefix = [];
      is_prefix = (_, refl);
      text = sym (append-nil h.text);
      write_errors = refl;
    }) refl,
  )

  -- ---- pieces of which a text is written

  some-pieces : (xs : List Piece) → 0 < length (join xs) → AreSome xs
  some-pieces [] lt = absurd (omega (arith, lt))
  some-pieces (x ∷ xs) lt = tt

  -- if none is received
  pub puts_pieces : (xs : List Piece) {t : Text} {at_boolean_text : Bool} {m next : State} {h new : Holding} {r : Answered}
      → join xs ≡ t → h.emitted ≡ None → new.emitted ≡ None → IfOk r (λ u. next ≡ m) → WritesText t at_boolean_text may h r new
      → WritesPieces xs at_boolean_text m may h r (moment_at next new)
  puts_pieces xs {h = h} same before after is (text_written all) =
      all_written is (record {
        text = all.text ∙ ap (λ z. h.text ++ z) (sym same);
        emitted = after ∙ sym (ap (with_emitted xs) before);
      }) all.write_errors
  puts_pieces xs {h = h} same before after is (text_truncated cause given cut reports) =
      let f = Prefix-of xs cut.prefix cut.is_prefix.0 (same ∙ cut.is_prefix.1) in
      prefix_written cause given (some-pieces xs (subst (λ (z : Text). 0 < length z) (sym same) cut.some)) f.1 (record {
        text = cut.text ∙ ap (λ z. h.text ++ z) (sym f.2);
        emitted = after ∙ sym (ap (with_emitted f.0) before);
      }) cut.write_errors reports
  puts_pieces xs {h = h} same before after is (text_part part memory) =
      let f = Prefix-of xs part.prefix part.is_prefix.0 (same ∙ part.is_prefix.1) in
      part_written f.1 (record {
        text = part.text ∙ ap (λ z. h.text ++ z) (sym f.2);
        emitted = after ∙ sym (ap (with_emitted f.0) before);
      }) part.write_errors memory

  if-same : (r : Answered) (s : State) → IfOk r (λ u. s ≡ s)
  if-same (Ok u) s = refl
  if-same (Err e) s = tt

  -- after which the state of the line is not updated
  pub text_as_is : (xs : List Piece) (at_boolean_text : Bool) {t : Text} {h new : Holding} {r : Answered} → join xs ≡ t → h.emitted ≡ None
      → new.emitted ≡ None → WritesText t at_boolean_text may h r new → WritesAsIs xs at_boolean_text may h r new
  text_as_is xs at_boolean_text {r = r} same before after w = λ s. puts_pieces xs same before after (if-same r s) w

  -- a text of an origin
  pub text_puts : (o : Origin) (t : Text) (s next : State) (h new : Holding) (r : Answered) → h.emitted ≡ None → new.emitted ≡ None
      → PutsText t may (moment_at s h) r (moment_at next new) → Puts o t may (moment_at s h) r (moment_at next new)
  text_puts o t s next h new r before after puts =
      puts_pieces (put o s.indent t s.line).0 (join-put o s.indent t s.line) before after (if-ok _ r puts.0) puts.1
    where
      if-ok : (P : Type 0) (r : Answered) → MatchResult r (λ _. P) (λ _. Unit {0}) → IfOk r (λ u. P)
      if-ok P (Ok u) h = h
      if-ok P (Err e) h = tt

  -- ---- pieces

  -- none is written, when memory runs out
  pub puts-no_memory : (o : Origin) (t : Text) (s next : State) (h : Holding) → Puts o t may (moment_at s h) memory_answer (moment_at next h)
  puts-no_memory o t s next h = part_written none (gains-none h) refl refl
