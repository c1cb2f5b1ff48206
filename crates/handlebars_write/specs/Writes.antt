-- What the calls that write guarantee.
use Rattle.std.specs.Prelude.{◌≡◌, ◌+◌, ◌^◌, ◌<◌, ◌++◌, ◌∷◌, [], length, Bool, false, List, Option, Some, None, Ok, Err, MatchResult}
use Rattle.std.specs.declared.io.Error.{Error}
use Rattle.handlebars_base.specs.Bytes.{Text}
use Rattle.handlebars_base.specs.Outputs.{IsPrefix}
use Rattle.handlebars_base.specs.Reasons.{out_of_memory}
use Rattle.handlebars_base.specs.RenderRefusals.{reason_in}
use Rattle.handlebars_base.specs.declared.error.render_error.RenderError.{RenderError}
use Rattle.handlebars_semantics.specs.Pieces.{Origin, Piece, put}
use Rattle.handlebars_semantics.specs.Runs.{Prefix, plain_write_error}
use Rattle.handlebars_semantics.specs.State.{State}
use Rattle.handlebars_semantics.specs.Emitted.{Emitted}
use Rattle.handlebars_expand.specs.View.{state_after, written_at}
use Rattle.handlebars_write.specs.View.{Answered, Gains, Holding, Moment, ReportsWriteError}

-- ---- texts, of which no piece is emitted

-- all of a text was written
pub record IsAll (t : Text) (before after : Holding) : Type 0 where
  pub text : after.text ≡ before.text ++ t
  pub write_errors : after.write_errors ≡ before.write_errors

-- A prefix of it was written, and the output failed, which is counted. Writing nothing never fails.
pub record IsTruncated (t : Text) (before after : Holding) : Type 0 where
  pub some : 0 < length t
  pub prefix : Text
  pub is_prefix : IsPrefix prefix t
  pub text : after.text ≡ before.text ++ prefix
  pub write_errors : before.write_errors + 1 < 2 ^ 64 → after.write_errors ≡ before.write_errors + 1

-- A prefix of it was written, and no write error is counted.
pub record IsTruncatedByMemory (t : Text) (before after : Holding) : Type 0 where
  pub prefix : Text
  pub is_prefix : IsPrefix prefix t
  pub text : after.text ≡ before.text ++ prefix
  pub write_errors : after.write_errors ≡ before.write_errors

-- A text was written; or a prefix of it was, and the output failed, at a boolean text or not, or memory ran out.
pub data WritesText (t : Text) (at_boolean_text : Bool) (may : Error → Type 0) (before : Holding) : Answered → Holding → Type 0 where
  text_written : {after : Holding} {u : Unit {0}} → IsAll t before after → WritesText t at_boolean_text may before (Ok u) after
  text_truncated : {after : Holding} {e : RenderError} (cause : Error) → may cause → IsTruncated t before after
      → ReportsWriteError cause (plain_write_error at_boolean_text) e → WritesText t at_boolean_text may before (Err e) after
  text_part : {after : Holding} {e : RenderError} → IsTruncatedByMemory t before after → reason_in e ≡ out_of_memory
      → WritesText t at_boolean_text may before (Err e) after

-- ---- pieces that are emitted

-- one piece that is emitted after others
abbrev pub and_emitted : Emitted → Option (List Emitted) → Option (List Emitted)
and_emitted t None = None
and_emitted t (Some ts) = Some (ts ++ t ∷ [])

-- A piece was emitted; or it was not, and the output failed, at a boolean text or not, or memory ran out.
pub data EmitsPiece (t : Emitted) (at_boolean_text : Bool) (may : Error → Type 0) (before : Holding) : Answered → Holding → Type 0 where
  piece_emitted : {after : Holding} {u : Unit {0}} → IsAll t.text before after → after.emitted ≡ and_emitted t before.emitted
      → EmitsPiece t at_boolean_text may before (Ok u) after
  piece_failed : {after : Holding} {e : RenderError} (cause : Error) → may cause → after.text ≡ before.text
      → after.emitted ≡ before.emitted → (before.write_errors + 1 < 2 ^ 64 → after.write_errors ≡ before.write_errors + 1)
      → ReportsWriteError cause (plain_write_error at_boolean_text) e → EmitsPiece t at_boolean_text may before (Err e) after
  piece_lost : {after : Holding} {e : RenderError} → after ≡ before → reason_in e ≡ out_of_memory
      → EmitsPiece t at_boolean_text may before (Err e) after

-- ---- pieces, emitted or not

abbrev pub AreSome : List Piece → Type 0
AreSome [] = ⊥
AreSome (p ∷ ps) = Unit {0}

-- Pieces were written, and this is the state after them; or a prefix of them was written, the last piece perhaps in part, and
-- the output failed, at a boolean text or not, or memory ran out. Writing nothing never fails.
pub data WritesPieces (ps : List Piece) (at_boolean_text : Bool) (next : State) (may : Error → Type 0) (before : Holding)
    : Answered → Moment → Type 0 where
  all_written : {after : Moment} {u : Unit {0}} → after.state ≡ next → Gains before ps after.held
      → after.held.write_errors ≡ before.write_errors → WritesPieces ps at_boolean_text next may before (Ok u) after
  prefix_written : {after : Moment} {e : RenderError} {ys : List Piece} (cause : Error) → may cause → AreSome ps
      → Prefix ys ps → Gains before ys after.held
      → (before.write_errors + 1 < 2 ^ 64 → after.held.write_errors ≡ before.write_errors + 1)
      → ReportsWriteError cause (plain_write_error at_boolean_text) e → WritesPieces ps at_boolean_text next may before (Err e) after
  part_written : {after : Moment} {e : RenderError} {ys : List Piece} → Prefix ys ps → Gains before ys after.held
      → after.held.write_errors ≡ before.write_errors → reason_in e ≡ out_of_memory → WritesPieces ps at_boolean_text next may before (Err e) after

-- A text of this origin was written, with the indentation in force, and the state of the line is updated.
abbrev pub Puts : Origin → Text → (Error → Type 0) → Moment → Answered → Moment → Type 0
Puts o t may before = WritesPieces (put o before.state.indent t before.state.line).0 false (state_after t before.state) may before.held

-- A text was written, with the indentation in force, and the state of the line is updated. Of pieces nothing is said.
abbrev pub PutsText : Text → (Error → Type 0) → Moment → Answered → Moment → Type 0
PutsText t may before r after =
    MatchResult r (λ _. after.state ≡ state_after t before.state) (λ _. Unit {0})
    × WritesText (written_at before.state t) false may before.held r after.held

-- Pieces were written as they are, and the state of the line is not updated.
abbrev pub WritesAsIs : List Piece → Bool → (Error → Type 0) → Holding → Answered → Holding → Type 0
WritesAsIs ps at_boolean_text may before r after =
    (s : State) → WritesPieces ps at_boolean_text s may before r (record { state = s; held = after })
