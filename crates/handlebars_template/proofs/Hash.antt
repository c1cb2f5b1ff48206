-- The hash arguments of a call, in the order of their keys.
use Rattle.std.proofs.Common.{◌≡◌, List, [], ◌∷◌, ◌++◌, String, Global, Less, Greater, string_cmp, nat_cmp, refl, ap, ◌∙◌}
use Rattle.std.proofs.lemmas.Cmp.{nat_list_cmp_total}
use Rattle.std.specs.Cmp.Lexicographic.{slice_cmp}
use Rattle.std.specs.List.{AllByRecursion}
use Rattle.std.specs.List.Sorted.{IsStrictlySortedBy}
use Rattle.std.specs.Map.{keys_of}
use Rattle.std.specs.Ordering.{ordering_reverse}
use Rattle.handlebars_template.specs.Tree.{hash_pair}
use Rattle.handlebars_template.specs.TreeView.{text, param_view, hash_view}
use Rattle.handlebars_template.specs.Calls.{put_hash_pair}
use Rattle.handlebars_template.specs.declared.template.tree.Parameter.{Parameter}

abbrev pub HashEntry : Type 0
HashEntry = String Global × Parameter

first-below : (first : HashEntry) (done : List HashEntry) (e : HashEntry) (rest : List HashEntry)
    → AllByRecursion (λ key. string_cmp first.0 key ≡ Less) (keys_of (done ++ e ∷ rest)) → string_cmp first.0 e.0 ≡ Less
first-below first [] e rest below = below.0
first-below first (x ∷ done) e rest below = first-below first done e rest below.1

-- A hash argument whose key is above all keys goes after them.
pub put_hash_pair-above : (done : List HashEntry) (e : HashEntry) (rest : List HashEntry)
    → IsStrictlySortedBy string_cmp (keys_of (done ++ e ∷ rest))
    → put_hash_pair (text e.0) (param_view e.1) (hash_view done) ≡ hash_view (done ++ e ∷ [])
unfolding IsStrictlySortedBy
put_hash_pair-above [] e rest sorted = refl
put_hash_pair-above (first ∷ done) e rest sorted =
    let above : slice_cmp nat_cmp (text e.0) (text first.0) ≡ Greater =
    nat_list_cmp_total.antisymm (text e.0) (text first.0) ∙ ap ordering_reverse (first-below first done e rest sorted.0) in
    rw above (ap (hash_pair (text first.0) (param_view first.1)) (put_hash_pair-above done e rest sorted.1))
