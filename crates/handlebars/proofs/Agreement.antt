-- Calls that return a text and calls that write to a writer agree, in any pair.
use Rattle.std.proofs.Common.{◌≡◌, true, Option, None, Some, refl, sym, ap, ◌∙◌, subst}
use Rattle.std.proofs.Math.Bool.{Bool-set}
use Rattle.std.proofs.Math.Logic.{∥∥₁_elim, ∥∥₁_map}
use Rattle.std.proofs.lemmas.Slice.Eq.{bytes_eq-Decides}
use Rattle.std.specs.Prelude.{List, Ok, Err}
use Rattle.std.specs.Str.{bytes_eq}
use Rattle.handlebars_base.specs.Bytes.{Text}
use Rattle.handlebars_base.specs.Reasons.{Refusal}
use Rattle.handlebars_semantics.specs.Answer.{Beginning, RenderAnswers, HasOneAnswer}
use Rattle.handlebars_semantics.specs.Pieces.{Piece, join}
use Rattle.handlebars_semantics.specs.Runs.{Outcome, Ended, Failed, WriteFailed, NoMemory, IsStop}
use Rattle.handlebars_semantics.specs.State.{Setting}
use Rattle.handlebars_write.specs.View.{Answered}
use Rattle.handlebars.specs.Calls.{CallResult, returned, wrote, Gave, call_error, IsSameResult, ComesOfAnswer, CallsAgree, EndsUnbroken, IsUnbroken, Writes, all_written, failed_after, writer_failed, memory_failed}

same_text-merely : {A : Type 0} (x y : Text) → ∥ A ∥₁ → (A → x ≡ y) → x ≡ y
same_text-merely x y truncated same =
    (bytes_eq-Decides x y).0 (∥∥₁_elim truncated (Bool-set (bytes_eq x y) true) (λ a. (bytes_eq-Decides x y).1 (same a)))

-- the error that an answer is, if it is one
abbrev error_in : Outcome → Option Refusal
error_in (Ended s) = None
error_in (Failed r) = Some r
error_in (WriteFailed f) = None
error_in NoMemory = None

abbrev HasEnded : Answered → Type 0
HasEnded (Ok u) = Unit {0}
HasEnded (Err e) = ⊥

module _ (p : Setting) (begins : Beginning → Type 0) where
  -- the answer of which a call comes
  record HasAnswer (a : CallResult) : Type 0 where
    pieces : List Piece
    outcome : Outcome
    answers : RenderAnswers p begins pieces outcome
    whole : IsStop outcome → ⊥
    gave : Gave a (join pieces)
    error : call_error a ≡ error_in outcome

  answer_of_writer : (before after : Option Text) (r : Answered) (w : Writes p begins before after r) → IsUnbroken p begins w
      → HasAnswer (wrote before after r)
  answer_of_writer before after _ (all_written {ps = ps} {last = last} a w) h =
      record { pieces = ps; outcome = Ended last; answers = a; whole = λ s. s; gave = w; error = refl }
  answer_of_writer before after _ (failed_after {ps = ps} a w) h =
      record { pieces = ps; outcome = Failed _; answers = a; whole = λ s. s; gave = w; error = refl }
  answer_of_writer before after _ (writer_failed cause f a reports is w) h = absurd h
  answer_of_writer before after _ (memory_failed t memory is w) h = absurd h

  answer_of : (a : CallResult) → ComesOfAnswer p begins a → HasAnswer a
  answer_of (returned (Ok t)) g =
      record { pieces = g.pieces; outcome = Ended g.last; answers = g.answers; whole = λ s. s; gave = g.is; error = refl }
  answer_of (returned (Err q)) g =
      record { pieces = g.pieces; outcome = Failed q; answers = g.answers; whole = λ s. s; gave = tt; error = refl }
  answer_of (wrote before after r) g = answer_of_writer before after r g.0 g.1

  same_calls : HasOneAnswer p begins → (a b : CallResult) → HasAnswer a → HasAnswer b → IsSameResult a b
  same_calls one a b x y =
      let same = one x.pieces y.pieces x.outcome y.outcome x.answers y.answers x.whole y.whole in
      record {
        text = join x.pieces;
        of_first = x.gave;
        of_second = subst (λ (t : Text). Gave b t)
            (same_text-merely (join y.pieces) (join x.pieces) same (λ e. ap join (sym e.0))) y.gave;
        errors = ∥∥₁_map same (λ e. x.error ∙ ap error_in e.1 ∙ sym y.error);
      }

  pub calls_agree : HasOneAnswer p begins → CallsAgree p begins
  calls_agree one a b g h = same_calls one a b (answer_of a g) (answer_of b h)

  ended-unbroken : (before after : Option Text) (r : Answered) (w : Writes p begins before after r) → HasEnded r
      → IsUnbroken p begins w
  ended-unbroken before after _ (all_written a w) h = tt
  ended-unbroken before after _ (failed_after a w) h = tt
  ended-unbroken before after _ (writer_failed cause f a reports is w) h = h
  ended-unbroken before after _ (memory_failed t memory is w) h = h

  pub ends_unbroken : EndsUnbroken p begins
  ends_unbroken before after u w = ended-unbroken before after (Ok u) w tt
