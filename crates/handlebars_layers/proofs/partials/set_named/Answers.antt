use Rattle.std.proofs.Common.{◌≡◌, Some, ap, option_map, string_bytes, bytes_eq, ◌∙◌}
use Rattle.std.proofs.lemmas.Map.Text.{btree_map_updates_text}
use Rattle.std.specs.BTreeMap.{get_by_text}
use Rattle.handlebars_base.proofs.OptionBinds.{option_map-cond}
use Rattle.handlebars_base.specs.Bytes.{Text}
use Rattle.handlebars_template.specs.TreeView.{tree_view}
use Rattle.handlebars_scope.specs.Scopes.{put_at}
use Rattle.handlebars_scope.specs.ScopeView.{partials_named}
use Rattle.handlebars_layers.proofs.partials.set_named.Goals as goal

pub returns-clause-ok : goal.returns-clause-ok
returns-clause-ok c =
    let map = c.args.by_name.now in
    let name = string_bytes c.args.name in
    let at : (k : Text) → option_map (λ t. tree_view t.value) (get_by_text c.insert.new.self k)
    ≡ put_at name (tree_view c.args.template.value) (partials_named map) k = λ k.
    ap (option_map (λ t. tree_view t.value))
    (btree_map_updates_text name map c.insert.new.self (Some c.args.template) c.in_ok-insert.ensures.updates k)
    ∙ option_map-cond (λ t. tree_view t.value) (bytes_eq name k) c.args.template (get_by_text map k) in
    λ i k. at k i
