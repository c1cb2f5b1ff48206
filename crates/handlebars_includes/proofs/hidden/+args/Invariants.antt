use Rattle.std.proofs.Common.{drop, map}
use Rattle.handlebars_template.specs.TreeView.{hash_view, params_view}
use Rattle.handlebars_includes.specs.FrameView.{frame_of, hidden_of, location_of}
use Rattle.handlebars_includes.specs.Hidden.{hidden_in_hash, hidden_in_params}
use Rattle.handlebars_includes.proofs.Adding.{Accumulates}
use Rattle.handlebars_includes.proofs.hidden.+args.Given as goal

abbrev pub invariant-add_params-params : goal.invariant-add_params-params
invariant-add_params-params l =
    Accumulates hidden_of l.initial.names.items l.names.items
    (hidden_in_params (map frame_of l.frames) (location_of l.location) (params_view (drop l.param-index l.param-items)))
    (hidden_in_params (map frame_of l.frames) (location_of l.location) (params_view l.param-items))

abbrev pub invariant-add_hash-hash : goal.invariant-add_hash-hash
invariant-add_hash-hash l =
    Accumulates hidden_of l.initial.names.items l.names.items
    (hidden_in_hash (map frame_of l.frames) (location_of l.location) (hash_view l._key-iterator))
    (hidden_in_hash (map frame_of l.frames) (location_of l.location) (hash_view l.hash.entries))
