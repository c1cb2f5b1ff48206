-- A map that is made of another, in the order of its keys.
use Rattle.std.proofs.Common.{◌≡◌, ◌++◌, List, [], ◌∷◌, map, String, Global, string_bytes, string_cmp, nat_cmp, Ordering, Less, Greater, refl, sym, ap, ◌∙◌, subst, append_assoc}
use Rattle.std.proofs.lemmas.Cmp.{nat_list_cmp_total}
use Rattle.std.specs.BTreeMap.{insert_entry}
use Rattle.std.specs.Cmp.Lexicographic.{slice_cmp}
use Rattle.std.specs.List.{AllByRecursion}
use Rattle.std.specs.List.Sorted.{IsStrictlySortedBy}
use Rattle.std.specs.Map.{keys_of}
use Rattle.std.specs.Ordering.{ordering_reverse}
use denote.Ref.{Bor}
use Rattle.handlebars_base.specs.Bytes.{Text}

-- the keys of a map of borrowed keys, and those of entries that own theirs
abbrev pub borrowed : {X : Type 0} → List (Bor Text × X) → List Text
borrowed es = map (λ e. e.0.now) es

abbrev pub owned : {Y : Type 0} → List (String Global × Y) → List Text
owned es = map (λ e. string_bytes e.0) es

-- The map has the keys of the entries that are done, in order.
pub record Follows {X Y : Type 0} (es : List (Bor Text × X)) (all left : List (String Global × Y)) : Type 0 where
  pub done : List (String Global × Y)
  pub split : all ≡ done ++ left
  pub keys : borrowed es ≡ owned done

-- the order of borrowed keys
abbrev pub text_order : Bor Text → Bor Text → Ordering
text_order a b = slice_cmp nat_cmp a.now b.now

abbrev Above : Text → List Text → Type 0
Above t ts = AllByRecursion (λ u. slice_cmp nat_cmp t u ≡ Greater) ts

insert_entry-last : {X : Type 0} (es : List (Bor Text × X)) (k : Bor Text) (v : X) → Above k.now (borrowed es)
    → insert_entry text_order es k v ≡ es ++ (k, v) ∷ []
insert_entry-last [] k v above = refl
insert_entry-last (e ∷ es) k v above = rw above.0 (ap (λ z. e ∷ z) (insert_entry-last es k v above.1))

below-middle : {Y : Type 0} (first : String Global × Y) (es : List (String Global × Y)) (e : String Global × Y)
    (more : List (String Global × Y)) → AllByRecursion (λ y. string_cmp first.0 y ≡ Less) (keys_of (es ++ e ∷ more))
    → string_cmp first.0 e.0 ≡ Less
below-middle first [] e more h = h.0
below-middle first (x ∷ es) e more h = below-middle first es e more h.1

above-owned : {Y : Type 0} (es : List (String Global × Y)) (e : String Global × Y) (more : List (String Global × Y))
    → IsStrictlySortedBy string_cmp (keys_of (es ++ e ∷ more)) → Above (string_bytes e.0) (owned es)
unfolding IsStrictlySortedBy
above-owned [] e more h = tt
above-owned (first ∷ es) e more h = (
  nat_list_cmp_total.antisymm (string_bytes e.0) (string_bytes first.0)
      ∙ ap ordering_reverse (below-middle first es e more h.0),
  above-owned es e more h.1,
)

map-more : {A B : Type 0} (f : A → B) (xs : List A) (x : A) → map f (xs ++ x ∷ []) ≡ map f xs ++ f x ∷ []
map-more f [] x = refl
map-more f (y ∷ ys) x = ap (λ zs. f y ∷ zs) (map-more f ys x)

-- one more element, as definitions see it
pub map-push : {A B : Type 0} (f : A → B) (xs ys : List A) (x : A) → ys ≡ xs ++ x ∷ [] → map f ys ≡ map f xs ++ f x ∷ []
map-push f xs ys x is = ap (map f) is ∙ map-more f xs x

module _ {X Y : Type 0} {es : List (Bor Text × X)} {all left rest : List (String Global × Y)}
    (key : String Global) (q : Y) (k : Bor Text) (v : X) (here : left ≡ (key, q) ∷ rest) (same : k.now ≡ string_bytes key)
    (ordered : IsStrictlySortedBy string_cmp (keys_of all)) (f : Follows es all left) where
  pub inserted-last : insert_entry text_order es k v ≡ es ++ (k, v) ∷ []
  inserted-last =
      let split : all ≡ f.done ++ (key, q) ∷ rest = f.split ∙ ap (λ z. f.done ++ z) here in
      let above = above-owned f.done (key, q) rest
      (subst (λ z. IsStrictlySortedBy string_cmp (keys_of z)) split ordered) in
      insert_entry-last es k v (subst (λ (z : Text). Above z (borrowed es)) (sym same)
      (subst (λ z. Above (string_bytes key) z) (sym f.keys) above))

  pub follows-next : {new : List (Bor Text × X)} → new ≡ insert_entry text_order es k v → Follows new all rest
  follows-next is = record {
    done = f.done ++ (key, q) ∷ [];
    split = f.split ∙ ap (λ z. f.done ++ z) here ∙ sym (append_assoc f.done ((key, q) ∷ []) rest);
    keys = map-push (λ e. e.0.now) es _ (k, v) (is ∙ inserted-last)
        ∙ ap (λ z. z ++ k.now ∷ []) f.keys ∙ ap (λ (z : Text). owned f.done ++ z ∷ []) same
        ∙ sym (map-more (λ e. string_bytes e.0) f.done (key, q));
  }
