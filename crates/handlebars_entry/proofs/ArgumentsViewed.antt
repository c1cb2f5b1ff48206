-- The arguments of a call as its caller views it, one after the other, in order.
use Rattle.std.proofs.Common.{◌≡◌, ◌++◌, List, [], ◌∷◌, map, nat_cmp, Ordering, Less, Greater, refl, sym, ap, ◌∙◌, subst, append_assoc, append-nil}
use Rattle.std.proofs.lemmas.Cmp.{nat_list_cmp_total}
use Rattle.std.specs.BTreeMap.{insert_entry}
use Rattle.std.specs.Cmp.Lexicographic.{slice_cmp}
use Rattle.std.specs.List.{AllByRecursion}
use Rattle.std.specs.List.Sorted.{IsStrictlySortedBy}
use Rattle.std.specs.Map.{keys_of}
use Rattle.std.specs.Ordering.{ordering_reverse}
use denote.Ref.{Bor}
use Rattle.serde_json.specs.Data.{Data}
use Rattle.handlebars_base.specs.Bytes.{Text}
use Rattle.handlebars_base.specs.PathAndData.{path_and_data}
use Rattle.handlebars_base.specs.Scoped.{data_in}
use Rattle.handlebars_base.specs.declared.json.value.path_and_json.PathAndJson.{PathAndJson}
use Rattle.handlebars_semantics.specs.Inclusion.{hash_data}
use Rattle.handlebars_expand.proofs.Ordered.{map-push}
use Rattle.handlebars_values.specs.ParamView.{argument_view}
use Rattle.handlebars_values.specs.View.{arguments_seen}
use Rattle.handlebars_values.specs.declared.param_value.Argument.{Argument}
use Rattle.handlebars_entry.specs.Entry.{passed_seen}

-- the value of an argument; a missing one counts as null
abbrev pub data_of_argument : Argument → Data
data_of_argument a = data_in (argument_view a).found

abbrev pub data_passed : PathAndJson → Data
data_passed p = data_in (path_and_data p).found

-- ---- those that are done, followed by those that are left

pub viewed-more : {X Y D : Type 0} (f : X → D) (g : Y → D) (all : List D) (left rest : List Y) (xs new : List X) (x : X) (y : Y)
    → map f xs ++ map g left ≡ all → left ≡ y ∷ rest → f x ≡ g y → new ≡ xs ++ x ∷ [] → map f new ++ map g rest ≡ all
viewed-more f g all left rest xs new x y whole here same added =
    ap (λ z. z ++ map g rest) (map-push f xs new x added)
    ∙ append_assoc (map f xs) (f x ∷ []) (map g rest) ∙ ap (λ d. map f xs ++ d ∷ map g rest) same
    ∙ ap (λ z. map f xs ++ map g z) (sym here) ∙ whole

pub viewed-all : {X Y D : Type 0} (f : X → D) (g : Y → D) (all : List D) (xs : List X) (left : List Y)
    → map f xs ++ map g left ≡ all → left ≡ [] → map f xs ≡ all
viewed-all f g all xs left whole none =
    sym (append-nil (map f xs)) ∙ ap (λ z. map f xs ++ map g z) (sym none) ∙ whole

-- ---- the order of keys

abbrev text_order : Bor Text → Bor Text → Ordering
text_order a b = slice_cmp nat_cmp a.now b.now

-- the entries with the texts of their keys, and their values as definitions see them
abbrev pub seen : {X D : Type 0} → (X → D) → List (Bor Text × X) → List (Text × D)
seen f es = map (λ e. (e.0.now, f e.1)) es

below-seen : {X D : Type 0} (f : X → D) (t : Text) (es : List (Bor Text × X))
    → AllByRecursion (λ k. slice_cmp nat_cmp t k.now ≡ Less) (keys_of es)
    → AllByRecursion (λ u. slice_cmp nat_cmp t u ≡ Less) (keys_of (seen f es))
below-seen f t [] h = tt
below-seen f t (e ∷ es) h = (h.0, below-seen f t es h.1)

sorted-seen : {X D : Type 0} (f : X → D) (es : List (Bor Text × X)) → IsStrictlySortedBy text_order (keys_of es)
    → IsStrictlySortedBy (slice_cmp nat_cmp) (keys_of (seen f es))
unfolding IsStrictlySortedBy
sorted-seen f [] h = tt
sorted-seen f (e ∷ es) h = (below-seen f e.0.now es h.0, sorted-seen f es h.1)

below-middle : {D : Type 0} (t : Text) (ps : List (Text × D)) (p : Text × D) (more : List (Text × D))
    → AllByRecursion (λ u. slice_cmp nat_cmp t u ≡ Less) (keys_of (ps ++ p ∷ more)) → slice_cmp nat_cmp t p.0 ≡ Less
below-middle t [] p more h = h.0
below-middle t (q ∷ ps) p more h = below-middle t ps p more h.1

-- a key that comes after others in order is above each of them
above-seen : {X D : Type 0} (f : X → D) (es : List (Bor Text × X)) (p : Text × D) (more : List (Text × D))
    → IsStrictlySortedBy (slice_cmp nat_cmp) (keys_of (seen f es ++ p ∷ more))
    → AllByRecursion (λ k. slice_cmp nat_cmp p.0 k.now ≡ Greater) (keys_of es)
unfolding IsStrictlySortedBy
above-seen f [] p more h = tt
above-seen f (e ∷ es) p more h = (
  nat_list_cmp_total.antisymm p.0 e.0.now ∙ ap ordering_reverse (below-middle e.0.now (seen f es) p more h.0),
  above-seen f es p more h.1,
)

-- a key above all others is inserted at the end
insert_entry-last : {X : Type 0} (es : List (Bor Text × X)) (k : Bor Text) (v : X)
    → AllByRecursion (λ q. slice_cmp nat_cmp k.now q.now ≡ Greater) (keys_of es)
    → insert_entry text_order es k v ≡ es ++ (k, v) ∷ []
insert_entry-last [] k v above = refl
insert_entry-last (e ∷ es) k v above = rw above.0 (ap (λ z. e ∷ z) (insert_entry-last es k v above.1))

-- one more of the hash arguments
pub viewed-next : {X Y D : Type 0} (f : X → D) (g : Y → D) (all left rest : List (Bor Text × Y))
    (es new : List (Bor Text × X)) (k : Bor Text) (v : X) (y : Y) → IsStrictlySortedBy text_order (keys_of all)
    → seen f es ++ seen g left ≡ seen g all → left ≡ (k, y) ∷ rest → f v ≡ g y → new ≡ insert_entry text_order es k v
    → seen f new ++ seen g rest ≡ seen g all
viewed-next f g all left rest es new k v y ordered whole here same added =
    let whole_here : seen f es ++ (k.now, g y) ∷ seen g rest ≡ seen g all = ap (λ z. seen f es ++ seen g z) (sym here) ∙ whole in
    let above = above-seen f es (k.now, g y) (seen g rest)
    (subst (λ z. IsStrictlySortedBy (slice_cmp nat_cmp) (keys_of z)) (sym whole_here) (sorted-seen g all ordered)) in
    viewed-more (λ e. (e.0.now, f e.1)) (λ e. (e.0.now, g e.1)) (seen g all) left rest es new (k, v) (k, y)
    whole here (ap (λ d. (k.now, d)) same) (added ∙ insert_entry-last es k v above)

-- ---- the values of hash arguments

data-arguments : (es : List (Bor Text × Argument)) → hash_data (arguments_seen es) ≡ seen data_of_argument es
data-arguments [] = refl
data-arguments (e ∷ es) = ap (λ (hs : List (Text × Data)). (e.0.now, data_of_argument e.1) ∷ hs) (data-arguments es)

data-passed : (es : List (Bor Text × PathAndJson)) → hash_data (passed_seen es) ≡ seen data_passed es
data-passed [] = refl
data-passed (e ∷ es) = ap (λ (hs : List (Text × Data)). (e.0.now, data_passed e.1) ∷ hs) (data-passed es)

pub hash-viewed : (es : List (Bor Text × Argument)) (all : List (Bor Text × PathAndJson)) → seen data_of_argument es ≡ seen data_passed all
    → hash_data (arguments_seen es) ≡ hash_data (passed_seen all)
hash-viewed es all is = data-arguments es ∙ is ∙ sym (data-passed all)
