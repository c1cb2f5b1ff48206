-- Hash arguments that are bound one after the other.
use Rattle.std.proofs.Common.{◌≡◌, ◌++◌, List, [], ◌∷◌, ap, ◌∙◌, append_assoc}
use denote.Ref.{Bor}
use Rattle.serde_json.specs.Data.{Data}
use Rattle.handlebars_base.specs.Bytes.{Text}
use Rattle.handlebars_expand.proofs.Ordered.{map-push}
use Rattle.handlebars_layers.specs.FrameValues.{hash_values, value_data}
use Rattle.handlebars_layers.specs.declared.destination.FrameValue.{FrameValue}

-- what is left after one more hash argument gives the whole
pub hash_values-push : (es new : List (Bor Text × FrameValue)) (k : Bor Text) (v : FrameValue) (rest : List (Text × Data)) {d : Data}
    → new ≡ es ++ (k, v) ∷ [] → value_data v ≡ d → hash_values new ++ rest ≡ hash_values es ++ (k.now, d) ∷ rest
hash_values-push es new k v rest is same =
    ap (λ z. z ++ rest) (map-push (λ h. (h.0.now, value_data h.1)) es new (k, v) is)
    ∙ append_assoc (hash_values es) ((k.now, value_data v) ∷ []) rest
    ∙ ap (λ (z : Data). hash_values es ++ (k.now, z) ∷ rest) same
