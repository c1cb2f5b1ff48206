use borrow.Author.Count.{below_more}
use Rattle.std.proofs.Common.{◌≡◌, ℕ, true, get_or, arith, sym, ◌∙◌}
use Rattle.std.proofs.lemmas.List.Sums.{prefix_len_is}
use Rattle.handlebars_expressions.specs.CloseName.{is_close_symbol}
use Rattle.handlebars_expressions.proofs.expression.close_name.close_symbols_len.Goals as goal

pub returns-else-is_close_symbol : goal.returns-else-is_close_symbol
returns-else-is_close_symbol c = sym (prefix_len_is is_close_symbol c.args.bytes.now c.symbols.n 0 c.symbols.invariant.within c.symbols.invariant.pass (λ _. sym c.is_close_symbol.ensures ∙ c.if-is_close_symbol.false))

pub returns-after-symbols : goal.returns-after-symbols
returns-after-symbols c = sym (prefix_len_is is_close_symbol c.args.bytes.now c.symbols.n 0 c.symbols.invariant.within c.symbols.invariant.pass (λ lt. absurd (omega arith)))

pub symbols-preserved : goal.symbols-preserved
symbols-preserved c = record {
  within = omega arith;
  pass = below_more (λ (k : ℕ). is_close_symbol (get_or c.args.bytes.now k 0) ≡ true) c.symbols.n c.symbols.invariant.pass (sym c.is_close_symbol.ensures ∙ c.if-is_close_symbol.true);
}
