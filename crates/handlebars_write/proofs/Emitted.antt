-- What is emitted of pieces: texts joined.
use Rattle.std.proofs.Common.{MatchResult, ◌≡◌, Bool, true, List, [], ◌∷◌, ◌++◌, Some, refl, sym, ap, ◌∙◌, append_assoc, append-nil, Ok, Err}
use Rattle.std.specs.declared.io.Error.{Error}
use Rattle.handlebars_base.specs.Bytes.{Text}
use Rattle.handlebars_base.specs.Reasons.{out_of_memory}
use Rattle.handlebars_base.specs.RenderRefusals.{reason_in}
use Rattle.handlebars_base.specs.declared.error.render_error.RenderError.{RenderError}
use Rattle.handlebars_semantics.specs.Runs.{plain_write_error}
use Rattle.handlebars_semantics.specs.Emitted.{Emitted}
use Rattle.handlebars_expand.specs.PiecesView.{ahead_emitted, texts}
use Rattle.handlebars_expand.specs.Received.{IsAccepted, IsRejected, Received}
use Rattle.handlebars_write.specs.View.{Answered, ReportsWriteError, holding, holding_ahead}
use Rattle.handlebars_write.specs.ModeView.{piece_mode}
use Rattle.handlebars_write.specs.OutcomeView.{Reports, outcome_answer}
use Rattle.handlebars_write.specs.declared.outcome.Outcome.{Outcome}
use Rattle.handlebars_write.specs.Writes.{EmitsPiece, piece_lost, piece_failed, piece_emitted}
use Rattle.handlebars_expand.specs.declared.ahead.Ahead as declared

pub texts-append : (xs ys : List Emitted) → texts (xs ++ ys) ≡ texts xs ++ texts ys
texts-append [] ys = refl
texts-append (x ∷ xs) ys =
    ap (λ (z : Text). x.text ++ z) (texts-append xs ys) ∙ sym (append_assoc x.text (texts xs) (texts ys))

-- the text of what was emitted, with one more
pub texts-emitted : (xs : List Emitted) (t : Emitted) → texts (xs ++ t ∷ []) ≡ texts xs ++ t.text
texts-emitted xs t = texts-append xs (t ∷ []) ∙ ap (λ (z : Text). texts xs ++ z) (append-nil t.text)

-- ---- pieces that are emitted

module _ (may : Error → Type 0) (t : Emitted) (at_boolean_text : Bool) where
  -- to an output
  pub piece_out : {O : Type 0} (received : O → Received) (a b : O) {u : Unit {0}} → IsAccepted t (received a) (received b)
      → EmitsPiece t at_boolean_text may (holding (piece_mode received may) a) (Ok u) (holding (piece_mode received may) b)
  piece_out received a b is = piece_emitted (record {
    text = ap texts is.emitted ∙ texts-emitted (received a).emitted t;
    write_errors = is.write_errors;
  }) (ap (λ zs. Some zs) is.emitted)

  -- which rejects it
  pub piece_error : {O : Type 0} (received : O → Received) (a b : O) {e : RenderError} (cause : Error)
      → IsRejected (received a) (received b) → may cause → ReportsWriteError cause (plain_write_error at_boolean_text) e
      → EmitsPiece t at_boolean_text may (holding (piece_mode received may) a) (Err e) (holding (piece_mode received may) b)
  piece_error received a b cause is given reports =
      piece_failed cause given (ap texts is.emitted) (ap (λ zs. Some zs) is.emitted) is.write_errors reports

  pub piece_reported : {O : Type 0} (received : O → Received) (a b : O) (cause : Error) (o : Outcome)
      → IsRejected (received a) (received b) → may cause → Reports cause at_boolean_text o
      → EmitsPiece t at_boolean_text may (holding (piece_mode received may) a) (outcome_answer o) (holding (piece_mode received may) b)
  piece_reported received a b cause o is given reports = by_answer (outcome_answer o) reports
    where
      by_answer : (r : Answered) → MatchResult r (λ u. ⊥) (λ e. ReportsWriteError cause (plain_write_error at_boolean_text) e)
          → EmitsPiece t at_boolean_text may (holding (piece_mode received may) a) r (holding (piece_mode received may) b)
      by_answer (Ok u) so = absurd so
      by_answer (Err e) so = piece_error received a b cause is given so

  -- to what is rendered ahead
  pub piece_ahead : (a b : declared.Ahead) {u : Unit {0}} → ahead_emitted b ≡ ahead_emitted a ++ t ∷ []
      → EmitsPiece t at_boolean_text may (holding_ahead true a) (Ok u) (holding_ahead true b)
  piece_ahead a b is = piece_emitted (record {
    text = ap texts is ∙ texts-emitted (ahead_emitted a) t;
    write_errors = refl;
  }) (ap (λ zs. Some zs) is)

  -- for which memory runs out
  pub piece_ahead_lost : (a b : declared.Ahead) {e : RenderError} → ahead_emitted b ≡ ahead_emitted a
      → reason_in e ≡ out_of_memory → EmitsPiece t at_boolean_text may (holding_ahead true a) (Err e) (holding_ahead true b)
  piece_ahead_lost a b same memory =
      piece_lost (ap (λ ts. record { text = texts ts; write_errors = 0; emitted = Some ts }) same) memory
