use Rattle.std.proofs.Common.{insert, is_ok, map, subst, sym, ◌∷◌}
use Rattle.std.specs.List.Sorted.{IsPermutation, IsSortedByKey}
use Rattle.std.proofs.lemmas.Bool.{cond_both}
use Rattle.std.proofs.lemmas.List.Sorted.{IsPermutation-insert, IsPermutation-map}
use Rattle.handlebars_report.specs.Order.{problem_cmp}
use Rattle.handlebars_report.specs.Inserting.{IsIndexFor}
use Rattle.handlebars_report.specs.View.{problem_view}
use Rattle.handlebars_report.proofs.Orders.{IsSortedByKey-insert, problem_cmp-total}
use Rattle.handlebars_report.proofs.report.Report.push.Goals as goal

pub invariant_of-self : goal.invariant_of-self
invariant_of-self c =
    let problems = c.args.self.now.problems.items in
    let p = c.args.problem in
    let at = c.index_for-at.result in
    let place = subst (λ xs. IsIndexFor xs p at) c.deref.ensures.value c.index_for-at.ensures in
    let inserted = IsSortedByKey-insert problem_view problem_cmp-total problems at p c.args.self.now.ordered place.within place.after place.before in
    record {
      ordered = subst (IsSortedByKey problem_view problem_cmp) (sym c.insert.ensures.items)
          (cond_both (is_ok c.insert.result) (insert problems at p) problems (IsSortedByKey problem_view problem_cmp) (λ _. inserted) (λ _. c.args.self.now.ordered));
    }

pub returns-clause-once : goal.returns-clause-once
returns-clause-once c =
    let problems = c.args.self.now.problems.items in
    let p = c.args.problem in
    let once = IsPermutation-map problem_view (p ∷ problems) _ (IsPermutation-insert problems c.index_for-at.result p) in
    subst (λ xs. IsPermutation (problem_view p ∷ map problem_view problems) (map problem_view xs)) (sym c.in_ok-insert.ensures.items) once
