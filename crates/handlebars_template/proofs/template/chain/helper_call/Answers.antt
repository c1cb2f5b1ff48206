use Rattle.std.proofs.Common.{◌≡◌, ◌∙◌, ℕ, ap, arith, map, length, vec_len}
use Rattle.std.specs.Prelude.{◌==◌, not}
use Rattle.handlebars_template.specs.Nest.{is_chain}
use Rattle.handlebars_template.specs.NestView.{positioned_view, opening_view, branch_view}
use Rattle.handlebars_template.proofs.NestsBuilt.{block_call-along, is_chain-view}
use Rattle.handlebars_template.proofs.template.chain.helper_call.Goals as goal

pub returns : goal.returns
returns c =
    let bs = c.args.branches in
    let long : vec_len bs ≡ length bs.items = omega (arith, bs.ok.0) in
    let chain : not c.is_empty-chain.result ≡ is_chain (map branch_view bs.items) =
    ap not (c.is_empty-chain.ensures ∙ ap (λ (n : ℕ). n == 0) long) ∙ is_chain-view bs.items in
    c.block.ensures ∙ block_call-along (opening_view c.args.opening) (positioned_view c.args.first) c.in_ok-inverse.ensures chain
