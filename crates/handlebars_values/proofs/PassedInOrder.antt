-- Parameters and hash arguments that are passed one after the other, in order.
use Rattle.std.proofs.Common.{◌≡◌, ◌++◌, List, [], ◌∷◌, length, map, nat_cmp, Ordering, Less, Greater, refl, sym, ap, ◌∙◌, subst, append_assoc, append-nil, arith}
use Rattle.std.proofs.lemmas.Cmp.{nat_list_cmp_total}
use Rattle.std.specs.BTreeMap.{insert_entry}
use Rattle.std.specs.Cmp.Lexicographic.{slice_cmp}
use Rattle.std.specs.List.{AllByRecursion}
use Rattle.std.specs.List.Sorted.{IsStrictlySortedBy}
use Rattle.std.specs.Map.{keys_of}
use Rattle.std.specs.Ordering.{ordering_reverse}
use denote.Ref.{Bor}
use Rattle.handlebars_base.specs.Bytes.{Text}
use Rattle.handlebars_base.specs.PathAndData.{PathAndData, path_and_data}
use Rattle.handlebars_base.specs.declared.json.value.path_and_json.PathAndJson.{PathAndJson}
use Rattle.handlebars_values.specs.ParamView.{argument_view}
use Rattle.handlebars_values.specs.Passed.{call_of}
use Rattle.handlebars_values.specs.View.{arguments_seen}
use Rattle.handlebars_values.specs.declared.param_value.Argument.{Argument}

-- the order of borrowed keys
abbrev text_order : Bor Text → Bor Text → Ordering
text_order a b = slice_cmp nat_cmp a.now b.now

-- the entries with the texts of their keys, and their values as definitions see them
abbrev seen : {X D : Type 0} → (X → D) → List (Bor Text × X) → List (Text × D)
seen f es = map (λ e. (e.0.now, f e.1)) es

below-seen : {X D : Type 0} (f : X → D) (t : Text) (es : List (Bor Text × X))
    → AllByRecursion (λ k. slice_cmp nat_cmp t k.now ≡ Less) (keys_of es)
    → AllByRecursion (λ u. slice_cmp nat_cmp t u ≡ Less) (keys_of (seen f es))
below-seen f t [] h = tt
below-seen f t (e ∷ es) h = (h.0, below-seen f t es h.1)

sorted-seen : {X D : Type 0} (f : X → D) (es : List (Bor Text × X)) → IsStrictlySortedBy text_order (keys_of es)
    → IsStrictlySortedBy (slice_cmp nat_cmp) (keys_of (seen f es))
unfolding IsStrictlySortedBy
sorted-seen f [] h = tt
sorted-seen f (e ∷ es) h = (below-seen f e.0.now es h.0, sorted-seen f es h.1)

below-middle : {D : Type 0} (t : Text) (ps : List (Text × D)) (p : Text × D) (more : List (Text × D))
    → AllByRecursion (λ u. slice_cmp nat_cmp t u ≡ Less) (keys_of (ps ++ p ∷ more)) → slice_cmp nat_cmp t p.0 ≡ Less
below-middle t [] p more h = h.0
below-middle t (q ∷ ps) p more h = below-middle t ps p more h.1

-- a key that comes after others in order is above each of them
above-seen : {X D : Type 0} (f : X → D) (es : List (Bor Text × X)) (p : Text × D) (more : List (Text × D))
    → IsStrictlySortedBy (slice_cmp nat_cmp) (keys_of (seen f es ++ p ∷ more))
    → AllByRecursion (λ k. slice_cmp nat_cmp p.0 k.now ≡ Greater) (keys_of es)
unfolding IsStrictlySortedBy
above-seen f [] p more h = tt
above-seen f (e ∷ es) p more h = (
  nat_list_cmp_total.antisymm p.0 e.0.now ∙ ap ordering_reverse (below-middle e.0.now (seen f es) p more h.0),
  above-seen f es p more h.1,
)

-- a key above all others is inserted at the end
insert_entry-last : {X : Type 0} (es : List (Bor Text × X)) (k : Bor Text) (v : X)
    → AllByRecursion (λ q. slice_cmp nat_cmp k.now q.now ≡ Greater) (keys_of es)
    → insert_entry text_order es k v ≡ es ++ (k, v) ∷ []
insert_entry-last [] k v above = refl
insert_entry-last (e ∷ es) k v above = rw above.0 (ap (λ z. e ∷ z) (insert_entry-last es k v above.1))

-- ---- what is passed, followed by what is left, is all

pub nothing_left : {X : Type 0} (xs : List X) → length xs ≡ 0 → xs ≡ []
nothing_left [] none = refl
nothing_left (x ∷ xs) none = absurd (omega (arith, none))

pub passed-begin : {X Y D : Type 0} (f : X → D) (g : Y → D) (all left : List Y) (xs : List X) → xs ≡ [] → left ≡ all
    → map f xs ++ map g left ≡ map g all
passed-begin f g all left xs none is = ap (λ z. map f z ++ map g left) none ∙ ap (map g) is

map-last : {X D : Type 0} (f : X → D) (xs : List X) (x : X) → map f (xs ++ x ∷ []) ≡ map f xs ++ f x ∷ []
map-last f [] x = refl
map-last f (y ∷ xs) x = ap (λ z. f y ∷ z) (map-last f xs x)

-- one more
pub passed-more : {X Y D : Type 0} (f : X → D) (g : Y → D) (all : List D) (left rest : List Y) (xs new : List X) (x : X) (y : Y)
    → map f xs ++ map g left ≡ all → left ≡ y ∷ rest → f x ≡ g y → new ≡ xs ++ x ∷ [] → map f new ++ map g rest ≡ all
passed-more f g all left rest xs new x y whole here same added =
    ap (λ z. map f z ++ map g rest) added ∙ ap (λ z. z ++ map g rest) (map-last f xs x)
    ∙ append_assoc (map f xs) (f x ∷ []) (map g rest) ∙ ap (λ d. map f xs ++ d ∷ map g rest) same
    ∙ ap (λ z. map f xs ++ map g z) (sym here) ∙ whole

pub passed-all : {X Y D : Type 0} (f : X → D) (g : Y → D) (all : List D) (xs : List X) (left : List Y)
    → map f xs ++ map g left ≡ all → left ≡ [] → map f xs ≡ all
passed-all f g all xs left whole none =
    sym (append-nil (map f xs)) ∙ ap (λ z. map f xs ++ map g z) (sym none) ∙ whole

-- one more of the hash arguments, which are passed in the order of their keys
pub passed-next : {X Y D : Type 0} (f : X → D) (g : Y → D) (all left rest : List (Bor Text × Y))
    (es new : List (Bor Text × X)) (k : Bor Text) (v : X) (y : Y) → IsStrictlySortedBy text_order (keys_of all)
    → seen f es ++ seen g left ≡ seen g all → left ≡ (k, y) ∷ rest → f v ≡ g y → new ≡ insert_entry text_order es k v
    → seen f new ++ seen g rest ≡ seen g all
passed-next f g all left rest es new k v y ordered whole here same added =
    let whole_here : seen f es ++ (k.now, g y) ∷ seen g rest ≡ seen g all = ap (λ z. seen f es ++ seen g z) (sym here) ∙ whole in
    let above = above-seen f es (k.now, g y) (seen g rest)
    (subst (λ z. IsStrictlySortedBy (slice_cmp nat_cmp) (keys_of z)) (sym whole_here) (sorted-seen g all ordered)) in
    passed-more (λ e. (e.0.now, f e.1)) (λ e. (e.0.now, g e.1)) (seen g all) left rest es new (k, v) (k, y)
    whole here (ap (λ d. (k.now, d)) same) (added ∙ insert_entry-last es k v above)

-- ---- the view of a call

pub call_of-passed : (name : Text) (ps : List PathAndJson) (qs : List Argument) (hs : List (Bor Text × PathAndJson))
    (gs : List (Bor Text × Argument)) → map path_and_data ps ≡ map argument_view qs
    → map (λ h. (h.0.now, path_and_data h.1)) hs ≡ arguments_seen gs
    → call_of name (map path_and_data ps) (map (λ h. (h.0.now, path_and_data h.1)) hs)
    ≡ call_of name (map argument_view qs) (arguments_seen gs)
call_of-passed name ps qs hs gs params hash =
    ap (λ (z : List PathAndData). call_of name z (map (λ h. (h.0.now, path_and_data h.1)) hs)) params
    ∙ ap (λ (z : List (Text × PathAndData)). call_of name (map argument_view qs) z) hash
