use Rattle.std.proofs.Common.{arith, drop, nat_eq}
use Rattle.std.proofs.lemmas.List.{length-drop}
use Rattle.std.proofs.lemmas.List.Sums.{common_prefix_len-le}
use Rattle.handlebars_data.proofs.toml_text.common_len.Goals as goal

pub returns-clause-common : goal.returns-clause-common
returns-clause-common c =
    let left = c.args.left.now in
    let right = c.args.right.now in
    let rest = common_prefix_len-le nat_eq (drop c.common.at left) (drop c.common.at right) in
    omega (arith, c.common.invariant, rest, c.min-shorter.ensures, c.common-test.false, length-drop c.common.at left, length-drop c.common.at right)
