use borrow.Author.Count.{below_more}
use Rattle.std.proofs.Common.{◌≡◌, ℕ, true, get_or, arith, sym, ◌∙◌}
use Rattle.std.proofs.lemmas.List.Sums.{prefix_len_is}
use Rattle.handlebars_syntax.specs.Range.{is_in_line}
use Rattle.handlebars_syntax.proofs.range.line_len.Goals as goal

pub returns-else-is_in_line : goal.returns-else-is_in_line
returns-else-is_in_line c = sym (prefix_len_is is_in_line c.args.text.now c.line.n 0 c.line.invariant.within c.line.invariant.pass (λ _. sym c.is_in_line.ensures ∙ c.if-is_in_line.false))

pub returns-after-line : goal.returns-after-line
returns-after-line c = sym (prefix_len_is is_in_line c.args.text.now c.line.n 0 c.line.invariant.within c.line.invariant.pass (λ lt. absurd (omega arith)))

pub line-preserved : goal.line-preserved
line-preserved c = record {
  within = omega arith;
  pass = below_more (λ (k : ℕ). is_in_line (get_or c.args.text.now k 0) ≡ true) c.line.n c.line.invariant.pass (sym c.is_in_line.ensures ∙ c.if-is_in_line.true);
}
