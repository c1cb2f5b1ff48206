use Rattle.std.proofs.Common.{◌∙◌, ap, string_bytes}
use Rattle.serde_json.specs.View.{view}
use Rattle.handlebars_layers.specs.Chain.{frames_from, names_at}
use Rattle.handlebars_layers.specs.Destination.{given_in, route_names}
use Rattle.handlebars_layers.specs.Hits.{placed}
use Rattle.handlebars_layers.specs.LayerView.{after_names, chain_of, descent_names, kind_view}
use Rattle.handlebars_layers.proofs.Layers.{chain-At}
use Rattle.handlebars_layers.proofs.Nodes.{node-names, node-start, node-value}
use Rattle.handlebars_layers.proofs.Under.{found-further, found-member, past-member}
use Rattle.handlebars_layers.proofs.prefixes.longest.Goals as goal

pub returns-in-Some-clause-found : goal.returns-in-Some-clause-found
returns-in-Some-clause-found c =
    let at = c.in-At in
    let d = given_in c.args.scopes in
    let name = string_bytes c.args.name.now in
    let chain = chain_of c.layers.nearest.now in
    let is = ap chain_of at.is ∙ chain-At at.node at.start at.start_skipped at.descent at.kind at.outer in
    let base = names_at (frames_from (chain_of at.start.now) at.start_skipped) in
    let here = names_at (frames_from chain c.layers.skipped) in
    let same = node-names d chain (view at.node.now) (chain_of at.start.now) at.start_skipped (descent_names at.descent.now)
    (kind_view at.kind) (chain_of at.outer.now) is c.layers.skipped in
    let there = node-value d chain (view at.node.now) (chain_of at.start.now) at.start_skipped (descent_names at.descent.now)
    (kind_view at.kind) (chain_of at.outer.now) is c.layers.invariant.lead in
    found-further d (view at.node.now) name base (descent_names at.descent.now) (kind_view at.kind) here (after_names c.layers.further) same there (placed c.in-Some.hit) c.in-Some.ensures.found
    ∙ c.layers.invariant.found

pub returns-in-Some-at_member-clause-found : goal.returns-in-Some-at_member-clause-found
returns-in-Some-at_member-clause-found c =
    let at = c.in-At in
    let d = given_in c.args.scopes in
    let name = string_bytes c.args.name.now in
    let chain = chain_of c.layers.nearest.now in
    let is = ap chain_of at.is ∙ chain-At at.node at.start at.start_skipped at.descent at.kind at.outer in
    let base = names_at (frames_from (chain_of at.start.now) at.start_skipped) in
    let here = names_at (frames_from chain c.layers.skipped) in
    let same = node-names d chain (view at.node.now) (chain_of at.start.now) at.start_skipped (descent_names at.descent.now)
    (kind_view at.kind) (chain_of at.outer.now) is c.layers.skipped in
    let there = node-value d chain (view at.node.now) (chain_of at.start.now) at.start_skipped (descent_names at.descent.now)
    (kind_view at.kind) (chain_of at.outer.now) is c.layers.invariant.lead in
    found-member d (view at.node.now) name base (descent_names at.descent.now) (kind_view at.kind) here (after_names c.layers.further) same there
    (view c.in-Some-at_member.value.now) (route_names c.route_after.result) c.route_after.ensures.names c.in-Some-at_member.ensures
    c.in_default.ensures.found
    ∙ c.layers.invariant.found

pub layers-preserved : goal.layers-preserved
layers-preserved c =
    let at = c.in-At in
    let d = given_in c.args.scopes in
    let name = string_bytes c.args.name.now in
    let chain = chain_of c.layers.nearest.now in
    let is = ap chain_of at.is ∙ chain-At at.node at.start at.start_skipped at.descent at.kind at.outer in
    let base = names_at (frames_from (chain_of at.start.now) at.start_skipped) in
    let here = names_at (frames_from chain c.layers.skipped) in
    let same = node-names d chain (view at.node.now) (chain_of at.start.now) at.start_skipped (descent_names at.descent.now)
    (kind_view at.kind) (chain_of at.outer.now) is c.layers.skipped in
    let there = node-value d chain (view at.node.now) (chain_of at.start.now) at.start_skipped (descent_names at.descent.now)
    (kind_view at.kind) (chain_of at.outer.now) is c.layers.invariant.lead in
    record {
      found =
          past-member d (view at.node.now) name base (descent_names at.descent.now) (kind_view at.kind) here (after_names c.layers.further) same there c.in_default-at_member.ensures c.in_default.ensures.found
          ∙ c.layers.invariant.found;
      lead = node-start d chain (view at.node.now) (chain_of at.start.now) at.start_skipped (descent_names at.descent.now)
          (kind_view at.kind) (chain_of at.outer.now) is c.layers.invariant.lead;
    }
