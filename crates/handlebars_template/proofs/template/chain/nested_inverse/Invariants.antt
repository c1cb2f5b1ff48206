use Rattle.std.proofs.Common.{◌≡◌, map, vec_len}
use Rattle.handlebars_template.specs.TreeView.{body_view}
use Rattle.handlebars_template.specs.Nest.{inverse_of}
use Rattle.handlebars_template.specs.NestView.{branch_view}
use Rattle.handlebars_template.proofs.template.chain.nested_inverse.Given as goal

abbrev pub invariant-branches : goal.invariant-branches
invariant-branches l = inverse_of (map branch_view l.branches.items) (body_view l.inverse) ≡ inverse_of (map branch_view l.fn.branches.items) (body_view l.fn.inverse)

abbrev pub decreases-branches : goal.decreases-branches
decreases-branches l = vec_len l.branches
