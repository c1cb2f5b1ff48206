use Rattle.std.proofs.Common.{◌≡◌, ◌<◌, ℕ, Bool, List, ap, arith, get_or, length, sym, ◌∙◌}
use Rattle.std.proofs.lemmas.List.{get_or_default}
use Rattle.std.specs.Ordering.{is_lt}
use Rattle.handlebars_report.specs.Inserting.{is_before}
use Rattle.handlebars_report.specs.declared.problem.Problem.{Problem}
use Rattle.handlebars_report.proofs.order.index_for.Goals as goal

-- the element at a place, whatever the default
is_before-get_or : (p q : Problem) (problems : List Problem) (i : ℕ) (before : Bool) (d : Problem) → i < length problems → q ≡ get_or problems i q
    → is_before p q ≡ before → is_before p (get_or problems i d) ≡ before
is_before-get_or p q problems i before d within is tested = ap (is_before p) (get_or_default problems i d q within ∙ sym is) ∙ tested

pub after-preserved : goal.after-preserved
after-preserved c = record {
  within = omega arith;
  before = λ d within. is_before-get_or c.args.problem.now c.index-problems-at.result c.args.problems.now _ _ d within c.index-problems-at.is
      (ap is_lt (sym c.compare.ensures) ∙ sym c.is_lt.ensures ∙ c.if-is_lt.true);
}

pub returns-else-is_lt : goal.returns-else-is_lt
returns-else-is_lt c = record {
  within = c.after.invariant.within;
  after = λ d some. is_before-get_or c.args.problem.now c.index-problems-at.result c.args.problems.now _ _ d (omega arith) c.index-problems-at.is
      (ap is_lt (sym c.compare.ensures) ∙ sym c.is_lt.ensures ∙ c.if-is_lt.false);
  before = c.after.invariant.before;
}
