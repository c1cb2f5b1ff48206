use Rattle.std.proofs.Common.{◌≡◌, ◌++◌, [], string_bytes}
use Rattle.handlebars_layers.specs.Chain.{NodesAreThere, frames_from, names_at}
use Rattle.handlebars_layers.specs.Destination.{frames_in, given_in}
use Rattle.handlebars_layers.specs.LayerView.{after_names, chain_of}
use Rattle.handlebars_layers.specs.Under.{under}
use Rattle.handlebars_layers.proofs.prefixes.longest.Given as goal

-- the longer prefixes of the whole base path have nothing, so those that are left decide
abbrev pub invariant-layers : goal.invariant-layers
invariant-layers l = record {
  found : under (given_in l.fn.scopes) [] (names_at (frames_from (chain_of l.nearest) l.skipped) ++ after_names l.further) (string_bytes l.name)
      ≡ under (given_in l.fn.scopes) [] (names_at (frames_in l.fn.scopes)) (string_bytes l.name);
  lead : NodesAreThere (given_in l.fn.scopes) (chain_of l.nearest);
}
