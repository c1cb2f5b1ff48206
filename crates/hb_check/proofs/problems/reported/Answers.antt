use Rattle.std.proofs.Common.{arith, ◌≡◌, ◌∷◌, ◌++◌, List, length, map, ap, subst}
use Rattle.std.proofs.lemmas.List.Sorted.{IsPermutation-sym, IsPermutation-trans, IsPermutation-middle, IsPermutation-append_right}
use Rattle.std.specs.List.Sorted.{IsPermutation}
use Rattle.std.specs.Vec.Iter.{into_iter_items}
use Rattle.handlebars_report.specs.Problem.{Problem}
use Rattle.handlebars_report.specs.Report.{report_view}
use Rattle.handlebars_report.specs.View.{problem_view}
use Rattle.hb_check.proofs.problems.reported.Goals as goal

-- One problem less is left, and one more is reported.
reported-next : (all was rest before after : List Problem) (p : Problem) → was ≡ p ∷ rest → IsPermutation all (was ++ before)
    → IsPermutation (p ∷ before) after → IsPermutation all (rest ++ after)
reported-next all was rest before after p is left pushed =
    IsPermutation-trans all (p ∷ (rest ++ before)) (rest ++ after)
    (subst (λ (xs : List Problem). IsPermutation all (xs ++ before)) is left)
    (IsPermutation-trans (p ∷ (rest ++ before)) (rest ++ p ∷ before) (rest ++ after)
    (IsPermutation-sym (rest ++ p ∷ before) (p ∷ (rest ++ before)) (IsPermutation-middle rest p before))
    (IsPermutation-append_right rest (p ∷ before) after pushed))

pub problems-preserved : goal.problems-preserved
problems-preserved c =
    let was = c.problems.invariant.sized in
    let gone = c.in-Some.ensures.steps.1 in
    let short = ap length c.in-Some.ensures.steps.0 in
    record {
      left = reported-next _ _ (map problem_view (into_iter_items c.next.new.self)) (report_view c.problems.report) (report_view c.push.new.self)
          (problem_view c.in-Some.problem) (ap (map problem_view) c.in-Some.ensures.steps.0) c.problems.invariant.left c.in_ok-push.ensures.once;
      sized = omega arith;
    }
