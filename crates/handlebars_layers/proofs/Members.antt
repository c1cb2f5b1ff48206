-- The members of a value that is iterated over, and the layers of its iterations.
use Rattle.std.proofs.Common.{◌≡◌, ◌+◌, ◌<◌, ◌^◌, ℕ, suc, true, false, length, List, [], ◌∷◌, ◌++◌, Option, Some, String, Global, append_assoc, arith, decimal, string_bytes, string_cmp, refl, sym, ap, ◌∙◌, subst}
use Rattle.std.specs.Cmp.Lexicographic.{slice_cmp}
use Rattle.std.specs.List.{AllByRecursion}
use Rattle.std.specs.List.Sorted.{IsStrictlySortedBy}
use Rattle.std.specs.Map.{keys_of}
use Rattle.std.specs.Ordering.{match_ordering, nat_cmp, ordering_reverse}
use Rattle.std.specs.declared.cmp.Ordering.TheVariants.{Less, Greater}
use Rattle.std.proofs.lemmas.Cmp.{nat_list_cmp_total, tied_itself}
use Rattle.std.proofs.lemmas.List.{append-nil}
use Rattle.serde_json.specs.Data.{Data, null, boolean, number, string, array, object, Items, no_items, item, Members, no_members, member}
use Rattle.serde_json.specs.Find.{get_item, get_member}
use Rattle.serde_json.specs.View.{items_view, members_view, view}
use Rattle.serde_json.specs.declared.value.Value.{Value}
use Rattle.handlebars_base.specs.Answers.{gives}
use Rattle.handlebars_base.specs.Bytes.{Text}
use Rattle.handlebars_scope.specs.Resolve.{item_at, member_at, then_at, value_at}
use Rattle.handlebars_scope.proofs.IndexNames.{index_of-decimal}
use Rattle.handlebars_scope.proofs.Resolutions.{value_at-on}
use Rattle.handlebars_helpers.specs.Iterations.{Iteration, item_count, item_iterations, iteration_name, iterations_of, member_count, member_iterations}
use Rattle.handlebars_layers.specs.Chain.{BlockNames, Chain, IsValue, NodesAreThere, names_from, node_layer}
use Rattle.handlebars_layers.specs.Layering.{iteration_kind_by_names}
use Rattle.handlebars_layers.specs.Members.{AllKeyed, AllMembers, IsMember, has_keys}
use Rattle.handlebars_layers.proofs.Nodes.{layer-there, leads, leads-of}

-- ---- keys

keyed-items : (n i : ℕ) (ds : Items) → AllKeyed false (item_iterations n i ds)
keyed-items n i no_items = tt
keyed-items n i (item d ds) = (refl, keyed-items n (i + 1) ds)

keyed-members : (n i : ℕ) (ms : Members) → AllKeyed true (member_iterations n i ms)
keyed-members n i no_members = tt
keyed-members n i (member k d ms) = (refl, keyed-members n (i + 1) ms)

pub all-keyed : (v : Data) → AllKeyed (has_keys v) (iterations_of v)
all-keyed null = tt
all-keyed (boolean b) = tt
all-keyed (number n) = tt
all-keyed (string s) = tt
all-keyed (array ds) = keyed-items (item_count ds) 0 ds
all-keyed (object ms) = keyed-members (member_count ms) 0 ms

-- ---- items

item-at : (all : Items) (name : Text) (i : ℕ) (d : Data) → i < 2 ^ 64 → name ≡ decimal i → get_item i all ≡ Some d
    → member_at (array all) name ≡ gives (Some d)
item-at all name i d small is there =
    ap (member_at (array all)) is ∙ ap (item_at all (decimal i)) (index_of-decimal i small) ∙ ap gives there

-- the items from an index on
items-from : (all : Items) (n i : ℕ) (ds : Items) → i + item_count ds < 2 ^ 64 → ((j : ℕ) → get_item (i + j) all ≡ get_item j ds)
    → AllMembers (array all) (item_iterations n i ds)
items-from all n i no_items small rest = tt
items-from all n i (item d ds) small rest =
    let less : i + (item_count ds + 1) < 2 ^ 64 = small in
    let here : i + 0 ≡ i = omega arith in (
      item-at all (decimal i) i d (omega arith) refl (ap (λ m. get_item m all) (sym here) ∙ rest 0),
      items-from all n (i + 1) ds (omega arith) (λ j.
          let next : (i + 1) + j ≡ i + suc j = omega arith in
          ap (λ m. get_item m all) next ∙ rest (suc j)),
    )

pub item_count-items_view : (vs : List Value) → item_count (items_view vs) ≡ length vs
item_count-items_view [] = refl
item_count-items_view (v ∷ vs) =
    let rest = item_count-items_view vs in
    let count : item_count (items_view (v ∷ vs)) ≡ item_count (items_view vs) + 1 = refl in
    omega arith

pub all-items : (vs : List Value) (n : ℕ) → n ≡ length vs → n < 2 ^ 64
    → AllMembers (array (items_view vs)) (iterations_of (array (items_view vs)))
all-items vs n count small =
    let ds = items_view vs in
    let all : item_count ds ≡ length vs = item_count-items_view vs in
    items-from ds (item_count ds) 0 ds (omega arith) (λ j. let same : 0 + j ≡ j = omega arith in ap (λ m. get_item m ds) same)

-- ---- members

abbrev Entry : Type 0
Entry = String Global × Value

-- a key that is above another one is not found at it
not-below : (k l : Text) (here rest : Option Data) → slice_cmp nat_cmp l k ≡ Less
    → match_ordering (slice_cmp nat_cmp k l) rest here rest ≡ rest
not-below k l here rest less =
    let above : slice_cmp nat_cmp k l ≡ Greater = nat_list_cmp_total.antisymm k l ∙ ap ordering_reverse less in
    ap (λ o. match_ordering o rest here rest) above

below-middle : (first : Entry) (done : List Entry) (e : Entry) (more : List Entry)
    → AllByRecursion (λ k. string_cmp first.0 k ≡ Less) (keys_of (done ++ e ∷ more)) → string_cmp first.0 e.0 ≡ Less
below-middle first [] e more below = below.0
below-middle first (x ∷ done) e more below = below-middle first done e more below.1

-- the members before a key are below it
past-members : (done : List Entry) (e : Entry) (more : List Entry) → IsStrictlySortedBy string_cmp (keys_of (done ++ e ∷ more))
    → get_member (string_bytes e.0) (members_view (done ++ e ∷ more)) ≡ Some (view e.1)
unfolding IsStrictlySortedBy
past-members [] e more sorted =
    ap (λ o. match_ordering o (get_member (string_bytes e.0) (members_view more)) (Some (view e.1)) (get_member (string_bytes e.0) (members_view more)))
    (tied_itself nat_list_cmp_total (string_bytes e.0))
past-members (first ∷ done) e more sorted =
    not-below (string_bytes e.0) (string_bytes first.0) (Some (view first.1))
    (get_member (string_bytes e.0) (members_view (done ++ e ∷ more))) (below-middle first done e more sorted.0)
    ∙ past-members done e more sorted.1

members-from : (all done es : List Entry) (n i : ℕ) → all ≡ done ++ es → IsStrictlySortedBy string_cmp (keys_of all)
    → AllMembers (object (members_view all)) (member_iterations n i (members_view es))
members-from all done [] n i split sorted = tt
members-from all done (e ∷ es) n i split sorted = (
  ap gives (ap (λ (xs : List Entry). get_member (string_bytes e.0) (members_view xs)) split
      ∙ past-members done e es (subst (λ (xs : List Entry). IsStrictlySortedBy string_cmp (keys_of xs)) split sorted)),
  members-from all (done ++ e ∷ []) es n (i + 1) (split ∙ sym (append_assoc done (e ∷ []) es)) sorted,
)

pub all-members : (es : List (String Global × Value)) → IsStrictlySortedBy string_cmp (keys_of es)
    → AllMembers (object (members_view es)) (iterations_of (object (members_view es)))
all-members es sorted = members-from es [] es (member_count (members_view es)) 0 refl sorted

-- ---- one after another

-- ---- in the data

pub member-there : (d v : Data) (names : List Text) (t : Iteration) → IsValue (value_at d names) v → IsMember v t
    → IsValue (value_at d (names ++ iteration_name t ∷ [])) t.member
member-there d v names t is leads_on =
    leads-of (value_at d (names ++ iteration_name t ∷ [])) t.member
    (value_at-on d v names (iteration_name t ∷ []) (leads (value_at d names) v is)
    ∙ ap (λ a. then_at a (λ e. gives (Some e))) leads_on)

-- a kind without a member adds no name
pub value-there : (d v : Data) (names : List Text) → IsValue (value_at d names) v → IsValue (value_at d (names ++ [])) v
value-there d v names is = subst (λ all. IsValue (value_at d all) v) (sym (append-nil names)) is

module _ (d v : Data) (start outer : Chain) (n : ℕ) (names : List Text) (block : BlockNames)
    (is : IsValue (value_at d (names_from start n names)) v) (started : NodesAreThere d start) (around : NodesAreThere d outer) where
  pub iteration-there : (t : Iteration) → IsMember v t
      → NodesAreThere d (node_layer t.member start n names (iteration_kind_by_names block t) outer)
  iteration-there t leads_on =
      layer-there d t.member start outer n names (iteration_kind_by_names block t) (member-there d v (names_from start n names) t is leads_on)
      started around
