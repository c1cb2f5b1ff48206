-- Maps by name.
use Rattle.std.proofs.Common.{◌≡◌, ◌≢◌, Bool, true, false, cond, is_eq, List, [], ◌∷◌, length, is_some, Option, Some, None, option_map, String, Global, string_bytes, string_cmp, nat_cmp, bytes_eq, refl, sym, ap, ◌∙◌}
use Rattle.std.proofs.lemmas.Map.Text.{btree_map_updates_text, is_eq-slice_cmp}
use Rattle.std.proofs.lemmas.Slice.Eq.{bytes_eq-Decides}
use Rattle.std.specs.BTreeMap.{BTreeMap, IsClone, Updates, get_by_text, is_at}
use Rattle.std.specs.Cmp.Lexicographic.{slice_cmp}
use Rattle.std.specs.List.{AllZip}
use Rattle.std.specs.Map.{lookup}
use Rattle.handlebars_base.specs.Bytes.{Text}
use Rattle.handlebars_base.proofs.OptionBinds.{option_map-cond}
use Rattle.serde_json.specs.View.{view}
use Rattle.serde_json.specs.declared.value.Value.{Value}
use Rattle.handlebars_scope.specs.Scopes.{put_at}

-- an empty map has no value under any name
pub get_by_text-empty : {X Y : Type 0} (f : X → Y) (m : BTreeMap (String Global) X) → m.entries ≡ []
    → (name : Text) → option_map f (get_by_text m name) ≡ None
get_by_text-empty f m is name =
    ap (λ es. option_map f (lookup (is_at (λ k. slice_cmp nat_cmp name (string_bytes k))) es)) is

-- a map with an entry has a value under that entry's name
pub get_by_text-first : {X Y : Type 0} (f : X → Y) (m : BTreeMap (String Global) X) (es : List (String Global × X))
    → es ≡ m.entries → length es ≢ 0 → (name : Text) × (is_some (option_map f (get_by_text m name)) ≡ true)
get_by_text-first f m [] is some = absurd (some refl)
get_by_text-first f m (e ∷ es) is some =
    let name = string_bytes e.0 in
    let test = is_at (λ k. slice_cmp nat_cmp name (string_bytes k)) in (
      name,
      ap (λ all. is_some (option_map f (lookup test all))) (sym is)
          ∙ ap (λ b. is_some (option_map f (cond b (Some e.1) (lookup test es))))
          (is_eq-slice_cmp name name ∙ (bytes_eq-Decides name name).1 refl),
    )

-- a map in which a value was stored, as definitions see it
pub get_by_text-put : {X Y : Type 0} (f : X → Y) (m n : BTreeMap (String Global) X) (key : String Global) (name : Text)
    (x : X) → string_bytes key ≡ name → Updates string_cmp m n key (Some x)
    → (λ k. option_map f (get_by_text n k)) ≡ put_at name (f x) (λ k. option_map f (get_by_text m k))
get_by_text-put f m n key name x same updates =
    let at : (k : Text) → option_map f (get_by_text n k)
    ≡ put_at name (f x) (λ q. option_map f (get_by_text m q)) k = λ k.
    ap (option_map f) (btree_map_updates_text (string_bytes key) m n (Some x) updates k)
    ∙ option_map-cond f (bytes_eq (string_bytes key) k) x (get_by_text m k)
    ∙ ap (λ (t : Text). cond (bytes_eq t k) (Some (f x)) (option_map f (get_by_text m k))) same in
    λ i k. at k i

option_map-either : {X Y : Type 0} (f : X → Y) (b : Bool) (x y : X) (r s : Option X) → f y ≡ f x
    → option_map f s ≡ option_map f r → option_map f (cond b (Some y) s) ≡ option_map f (cond b (Some x) r)
option_map-either f true x y r s here more = ap Some here
option_map-either f false x y r s here more = more

lookup-copied : (name : Text) (es fs : List (String Global × Value))
    → AllZip (λ e f. (string_bytes f.0 ≡ string_bytes e.0) × (view f.1 ≡ view e.1)) es fs
    → option_map view (lookup (is_at (λ k. slice_cmp nat_cmp name (string_bytes k))) fs)
    ≡ option_map view (lookup (is_at (λ k. slice_cmp nat_cmp name (string_bytes k))) es)
lookup-copied name [] [] same = refl
lookup-copied name [] (f ∷ fs) same = absurd same
lookup-copied name (e ∷ es) [] same = absurd same
lookup-copied name (e ∷ es) (f ∷ fs) same =
    let test = is_at (λ (k : String Global). slice_cmp nat_cmp name (string_bytes k)) in
    ap (λ (t : Text). option_map view (cond (is_eq (slice_cmp nat_cmp name t)) (Some f.1) (lookup test fs))) same.0.0
    ∙ option_map-either view (test e.0) e.1 f.1 (lookup test es) (lookup test fs) same.0.1
    (lookup-copied name es fs same.1)

-- a copy of a map has the same value under each name
pub get_by_text-copied : (m n : BTreeMap (String Global) Value)
    → IsClone (λ s t. string_bytes t ≡ string_bytes s) (λ v w. view w ≡ view v) m n
    → (name : Text) → option_map view (get_by_text n name) ≡ option_map view (get_by_text m name)
get_by_text-copied m n same name = lookup-copied name m.entries n.entries same
