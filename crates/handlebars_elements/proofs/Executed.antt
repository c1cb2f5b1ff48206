-- What is left of what helpers chose.
use Rattle.std.proofs.Common.{◌≡◌, Option, Result, Ok, Err, sym, ap, subst}
use Rattle.std.specs.Prelude.{IfOk, IfErr, unwrap_or}
use Rattle.std.specs.declared.io.Error.{Error}
use Rattle.serde_json.specs.Data.{Data, null}
use Rattle.handlebars_base.specs.Scoped.{Found, walked, value, missing, data_in, present_in}
use Rattle.handlebars_helpers.specs.CallView.{HelperView}
use Rattle.handlebars_semantics.specs.Occurrences.{Occurrence}
use Rattle.handlebars_semantics.specs.State.{Setting}
use Rattle.handlebars_semantics.specs.Steps.{Prog}
use Rattle.handlebars_expand.specs.Boxed.{answer_of, error_of}
use Rattle.handlebars_expand.specs.declared.boxed.BoxedError.{BoxedError}
use Rattle.handlebars_write.specs.OutcomeView.{outcome_answer}
use Rattle.handlebars_write.specs.View.{Answered, Moment, RefinesProg, goes_on}
use Rattle.handlebars_write.specs.declared.outcome.Outcome.{Outcome}
use Rattle.handlebars_elements.specs.Judgement.{LeadsTo}
use Rattle.handlebars_elements.specs.Left.{left_of}
use Rattle.handlebars_elements.specs.declared.next.Next.{Next}
use Rattle.handlebars_elements.specs.declared.next.Next.TheVariants as next

-- a value that is present, or null
pub data_in-present : (f : Found) (o : Option Data) → o ≡ present_in f → data_in f ≡ unwrap_or o null
data_in-present (walked d path) o is = ap (λ (z : Option Data). unwrap_or z null) (sym is)
data_in-present (value d) o is = ap (λ (z : Option Data). unwrap_or z null) (sym is)
data_in-present missing o is = ap (λ (z : Option Data). unwrap_or z null) (sym is)

module _ (p : Setting) (may : Error → Type 0) where
  leads-nothing : (m : Prog (Unit {0})) (occurrence : Occurrence) (h : HelperView) (x : Next) {before after : Moment}
      → x ≡ next.Nothing → RefinesProg p m may before (Ok tt) after
      → LeadsTo p may m before (left_of occurrence h) (Ok x) after
  leads-nothing m occurrence h x {before = before} {after = after} is (goes_on c) =
      subst (λ (z : Next). LeadsTo p may m before (left_of occurrence h) (Ok z) after) (sym is) c

  -- nothing is left of what was executed
  pub leads-done : (m : Prog (Unit {0})) (occurrence : Occurrence) (h : HelperView) (o : Outcome) (r : Result Next BoxedError)
      {before after : Moment} → IfOk r (λ x. (x ≡ next.Nothing) × (outcome_answer o ≡ Ok tt))
      → IfErr r (λ e. outcome_answer o ≡ Err (error_of e)) → RefinesProg p m may before (outcome_answer o) after
      → LeadsTo p may m before (left_of occurrence h) (answer_of r) after
  leads-done m occurrence h o (Ok x) {before = before} {after = after} ok err a =
      leads-nothing m occurrence h x ok.0 (subst (λ (z : Answered). RefinesProg p m may before z after) ok.1 a)
  leads-done m occurrence h o (Err e) {before = before} {after = after} ok err a =
      subst (λ (z : Answered). RefinesProg p m may before z after) err a
