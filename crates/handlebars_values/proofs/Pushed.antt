-- Hash arguments that are inserted in the order of their keys.
use Rattle.std.proofs.Common.{◌≡◌, ◌++◌, List, [], ◌∷◌, ap, ◌∙◌}
use Rattle.std.specs.BTreeMap.{insert_entry}
use denote.Ref.{Bor}
use Rattle.handlebars_base.specs.Bytes.{Text}
use Rattle.handlebars_expand.proofs.Ordered.{map-push, text_order}
use Rattle.handlebars_values.specs.ParamView.{argument_view}
use Rattle.handlebars_values.specs.View.{arguments_seen}
use Rattle.handlebars_values.specs.declared.param_value.Argument.{Argument}

-- the hash arguments after one more, which is inserted at the end
pub arguments_seen-inserted : (es new : List (Bor Text × Argument)) (k : Bor Text) (v : Argument) (t : Text)
    → new ≡ insert_entry text_order es k v → insert_entry text_order es k v ≡ es ++ (k, v) ∷ [] → k.now ≡ t
    → arguments_seen new ≡ arguments_seen es ++ (t, argument_view v) ∷ []
arguments_seen-inserted es new k v t is last same =
    map-push (λ h. (h.0.now, argument_view h.1)) es new (k, v) (is ∙ last)
    ∙ ap (λ (z : Text). arguments_seen es ++ (z, argument_view v) ∷ []) same
