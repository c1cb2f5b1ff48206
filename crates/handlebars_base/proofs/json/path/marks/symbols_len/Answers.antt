use Rattle.std.proofs.Common.{arith, sym, ◌∙◌}
use Rattle.std.proofs.lemmas.List.Sums.{prefix_len_is}
use Rattle.handlebars_base.specs.Bytes.{is_symbol}
use Rattle.handlebars_base.proofs.json.path.marks.symbols_len.Goals as goal

pub returns-else-is_symbol : goal.returns-else-is_symbol
returns-else-is_symbol c = sym (prefix_len_is is_symbol c.args.bytes.now c.loop-n.n 0 c.loop-n.invariant.within c.loop-n.invariant.pass (λ _. sym c.is_symbol.ensures ∙ c.if-is_symbol.false))

pub returns-after-loop-n : goal.returns-after-loop-n
returns-after-loop-n c = sym (prefix_len_is is_symbol c.args.bytes.now c.loop-n.n 0 c.loop-n.invariant.within c.loop-n.invariant.pass (λ lt. absurd (omega arith)))
