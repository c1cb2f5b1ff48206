-- What is registered under a name after a registration.
use Rattle.std.proofs.Common.{◌≡◌, Bool, true, false, cond, Option, None, Some, option_map, refl, ap, ◌∙◌, String, Global}
use Rattle.std.specs.Cmp.Lexicographic.{slice_cmp}
use Rattle.std.specs.Ordering.{nat_cmp}
use Rattle.std.specs.BTreeMap.{BTreeMap, UpdatesBy, get_by_text}
use Rattle.std.specs.Prelude.{string_bytes}
use Rattle.std.specs.Str.{bytes_eq}
use Rattle.std.specs.String.{string_cmp}
use Rattle.std.proofs.lemmas.Map.Text.{btree_map_updates_text}
use Rattle.handlebars_base.specs.Bytes.{Text}
use Rattle.handlebars_base.proofs.OptionBinds.{option_map-cond}

pub get_by_text-insert : {A B : Type 0} (f : A → B) (m n : BTreeMap (String Global) A) (key : String Global) (value : A) (name : Text) (t : B)
    → UpdatesBy string_cmp (string_cmp key) m n (Some value) → string_bytes key ≡ name → f value ≡ t
    → (other : Text) → option_map f (get_by_text n other) ≡ cond (bytes_eq name other) (Some t) (option_map f (get_by_text m other))
get_by_text-insert f m n key value name t updates is_name is_tree other =
    ap (option_map f) (btree_map_updates_text (string_bytes key) m n (Some value) updates other)
    ∙ option_map-cond f (bytes_eq (string_bytes key) other) value (get_by_text m other)
    ∙ ap (λ z. cond (bytes_eq z other) (Some (f value)) (option_map f (get_by_text m other))) is_name
    ∙ ap (λ z. cond (bytes_eq name other) (Some z) (option_map f (get_by_text m other))) is_tree

option_map-cond_none : {A B : Type 0} (f : A → B) (b : Bool) (o : Option A) → option_map f (cond b None o) ≡ cond b None (option_map f o)
option_map-cond_none f true o = refl
option_map-cond_none f false o = refl

pub get_by_text-removed : {A B : Type 0} (f : A → B) (m n : BTreeMap (String Global) A) (name : Text)
    → UpdatesBy string_cmp (λ k. slice_cmp nat_cmp name (string_bytes k)) m n None
    → (other : Text) → option_map f (get_by_text n other) ≡ cond (bytes_eq name other) None (option_map f (get_by_text m other))
get_by_text-removed f m n name updates other =
    ap (option_map f) (btree_map_updates_text name m n None updates other)
    ∙ option_map-cond_none f (bytes_eq name other) (get_by_text m other)
