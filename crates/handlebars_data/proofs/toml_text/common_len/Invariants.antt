use Rattle.std.proofs.Common.{◌≡◌, ◌+◌, drop, nat_eq}
use Rattle.std.specs.List.{common_prefix_len}
use Rattle.handlebars_data.proofs.toml_text.common_len.Given as goal

-- what is equal so far, and what the rest has in common
abbrev pub invariant-common : goal.invariant-common
invariant-common l = l.at + common_prefix_len nat_eq (drop l.at l.left) (drop l.at l.right) ≡ common_prefix_len nat_eq l.left l.right
