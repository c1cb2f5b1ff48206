-- The order of problems, and a problem put in its place in it.
use Rattle.std.proofs.Common.{◌≡◌, ℕ, ◌+◌, ◌-◌, ◌<◌, ◌≤◌, Bool, true, false, List, length, get_or, insert, ap, sym, ◌∙◌, ⊎_elim, arith, refl}
use Rattle.std.specs.declared.cmp.Ordering.{Ordering}
use Rattle.std.specs.declared.cmp.Ordering.TheVariants.{Less, Equal, Greater}
use Rattle.std.specs.Ordering.{is_lt, ordering_reverse}
use Rattle.std.specs.Cmp.{IsTotalOrder, nat_cmp_total, on_total, then_total}
use Rattle.std.specs.Cmp.Lexicographic.{nat_list_cmp_total}
use Rattle.std.specs.List.Sorted.{IsSortedByKey}
use Rattle.std.proofs.lemmas.Bool.{cases_order}
use Rattle.std.proofs.lemmas.List.Edits.{length-insert, get_or-insert_above, get_or-insert_at, get_or-insert_below}
use Rattle.handlebars_report.specs.Order.{problem_cmp}
use Rattle.handlebars_report.specs.Problem.{Problem}

pub problem_cmp-total : IsTotalOrder problem_cmp
problem_cmp-total =
    then_total (on_total (λ (p : Problem). p.place.path) nat_list_cmp_total)
    (then_total (on_total (λ (p : Problem). p.place.start.offset) nat_cmp_total) (on_total (λ (p : Problem). p.code) nat_list_cmp_total))

is_lt-reverse : (o : Ordering) → is_lt o ≡ true → is_lt (ordering_reverse o) ≡ false
is_lt-reverse Less lt = refl
is_lt-reverse Equal lt = refl
is_lt-reverse Greater lt = cc

module _ {X K : Type 0} (key : X → K) {R : K → K → Ordering} (o : IsTotalOrder R) where
  abbrev is_before : X → X → Bool
  is_before x y = is_lt (R (key x) (key y))

  not-after : (x y : X) → is_before x y ≡ true → is_before y x ≡ false
  not-after x y lt = ap is_lt (o.antisymm (key y) (key x)) ∙ is_lt-reverse (R (key x) (key y)) lt

  -- the element at a place is not before the one at the place that precedes it
  abbrev Follows : List X → ℕ → X → Type 0
  Follows xs k d = is_before (get_or xs (k + 1) d) (get_or xs k d) ≡ false

  module _ (xs : List X) (i : ℕ) (y : X) (sorted : IsSortedByKey key R xs) (within : i ≤ length xs) (k : ℕ) (d : X) where
    follows-below : k + 1 < i → Follows (insert xs i y) k d
    follows-below lt =
        (λ j. is_before (get_or-insert_below xs i y d (k + 1) lt within j) (get_or-insert_below xs i y d k (omega arith) within j))
        ∙ sorted k d (omega arith) (omega arith)

    follows-inserted : k + 1 ≡ i → ((d : X) → 0 < i → is_before y (get_or xs (i - 1) d) ≡ false) → Follows (insert xs i y) k d
    follows-inserted e after =
        let here = ap (λ n. get_or (insert xs i y) n d) e ∙ get_or-insert_at xs i y d within in
        let same : k ≡ i - 1 = omega arith in
        let previous = get_or-insert_below xs i y d k (omega arith) within ∙ ap (λ n. get_or xs n d) same in
        (λ j. is_before (here j) (previous j)) ∙ after d (omega arith)

    inserted-follows : k ≡ i → k < length xs → ((d : X) → i < length xs → is_before y (get_or xs i d) ≡ true) → Follows (insert xs i y) k d
    inserted-follows e less before =
        let next = get_or-insert_above xs i y d k (omega arith) within ∙ ap (λ n. get_or xs n d) e in
        let here = ap (λ n. get_or (insert xs i y) n d) e ∙ get_or-insert_at xs i y d within in
        (λ j. is_before (next j) (here j)) ∙ not-after y (get_or xs i d) (before d (omega arith))

    follows-above : i < k → k < length xs → Follows (insert xs i y) k d
    follows-above gt less =
        let same : k - 1 + 1 ≡ k = omega arith in
        let next = get_or-insert_above xs i y d k (omega arith) within ∙ ap (λ n. get_or xs n d) (sym same) in
        let here = ap (λ n. get_or (insert xs i y) n d) (sym same) ∙ get_or-insert_above xs i y d (k - 1) (omega arith) within in
        (λ j. is_before (next j) (here j)) ∙ sorted (k - 1) d (omega arith) (omega arith)

  -- an element is inserted after all that it is not before
  pub IsSortedByKey-insert : (xs : List X) (i : ℕ) (y : X) → IsSortedByKey key R xs → i ≤ length xs
      → ((d : X) → 0 < i → is_before y (get_or xs (i - 1) d) ≡ false) → ((d : X) → i < length xs → is_before y (get_or xs i d) ≡ true)
      → IsSortedByKey key R (insert xs i y)
  IsSortedByKey-insert xs i y sorted within after before k d low more =
      let long = length-insert xs i y within in
      ⊎_elim (λ e. follows-inserted xs i y sorted within k d e after)
      (⊎_elim (λ lt. follows-below xs i y sorted within k d lt)
      (λ gt. ⊎_elim (λ e. inserted-follows xs i y sorted within k d e (omega arith) before)
      (⊎_elim (λ lt. absurd (omega arith)) (λ gt. follows-above xs i y sorted within k d gt (omega arith))) (cases_order k i)))
      (cases_order (k + 1) i)
