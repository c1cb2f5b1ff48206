-- Maps of local helpers by name.
use Rattle.std.proofs.Common.{◌≡◌, Bool, true, false, cond, Option, Some, None, option_map, String, Global, string_bytes, string_cmp, nat_cmp, bytes_eq, refl, ap, ◌∙◌}
use Rattle.std.proofs.lemmas.Map.Text.{btree_map_updates_text}
use Rattle.std.specs.BTreeMap.{BTreeMap, Updates, UpdatesBy, get_by_text}
use Rattle.std.specs.Cmp.Lexicographic.{slice_cmp}
use Rattle.handlebars_base.specs.Bytes.{Text}
use Rattle.handlebars_base.proofs.OptionBinds.{option_map-cond}
use Rattle.handlebars_scope.specs.Scopes.{put_at}
use Rattle.handlebars_semantics.specs.State.{taken_from}

-- a map in which a value was put, as definitions see it
pub by_text-put : {X Y : Type 0} (f : X → Y) (m n : BTreeMap (String Global) X) (key : String Global) (x : X)
    → Updates string_cmp m n key (Some x)
    → (λ k. option_map f (get_by_text n k)) ≡ put_at (string_bytes key) (f x) (λ k. option_map f (get_by_text m k))
by_text-put f m n key x updates =
    let at : (k : Text) → option_map f (get_by_text n k)
    ≡ put_at (string_bytes key) (f x) (λ q. option_map f (get_by_text m q)) k = λ k.
    ap (option_map f) (btree_map_updates_text (string_bytes key) m n (Some x) updates k)
    ∙ option_map-cond f (bytes_eq (string_bytes key) k) x (get_by_text m k) in
    λ i k. at k i

taken-cond : {X Y : Type 0} (f : X → Y) (b : Bool) (o : Option X) → option_map f (cond b None o) ≡ cond b None (option_map f o)
taken-cond f true o = refl
taken-cond f false o = refl

-- and one from which a name was taken
pub by_text-taken : {X Y : Type 0} (f : X → Y) (m n : BTreeMap (String Global) X) (name : Text)
    → UpdatesBy string_cmp (λ k. slice_cmp nat_cmp name (string_bytes k)) m n None
    → (λ k. option_map f (get_by_text n k)) ≡ taken_from name (λ k. option_map f (get_by_text m k))
by_text-taken f m n name updates =
    let at : (k : Text) → option_map f (get_by_text n k) ≡ taken_from name (λ q. option_map f (get_by_text m q)) k = λ k.
    ap (option_map f) (btree_map_updates_text name m n None updates k)
    ∙ taken-cond f (bytes_eq name k) (get_by_text m k) in
    λ i k. at k i
