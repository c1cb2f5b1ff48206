-- One more item is counted.
use Rattle.std.proofs.Common.{◌≡◌, ◌∙◌, ℕ, ◌+◌, Bool, false, cond, List, [], ◌∷◌, ◌++◌, Option, Some, None, refl, sym, ap, arith}
use Rattle.std.specs.Option.{option_map_or}
use Rattle.std.proofs.lemmas.List.Sums.{sum_by-append}
use Rattle.hb_build.specs.Items.{Fate, Item, Counts, created, changed, unchanged, failed, count_of, counted, is_created, is_changed, is_unchanged, is_failed, outcome_of}
use Rattle.hb_build.specs.declared.outcome.Summary.{Summary}

-- the summary with one more item, if it is of the shard
abbrev pub counted_with : Option Fate → Summary → Summary
counted_with None summary = summary
counted_with (Some fate) summary = counted (outcome_of fate) summary

-- what an item adds to such a count
one : (Fate → Bool) → Option Fate → ℕ
one test fate = cond (option_map_or test fate false) 1 0

pub count_of-push : (test : Fate → Bool) (items : List Item) (i : Item) → count_of test (items ++ i ∷ []) ≡ count_of test items + cond (option_map_or test i.fate false) 1 0
count_of-push test items i =
    let f = λ (item : Item). cond (option_map_or test item.fate false) 1 0 in
    let joined = sum_by-append f items (i ∷ []) in
    omega (arith, joined)

created_with : (fate : Option Fate) (s : Summary) → (counted_with fate s).created ≡ s.created + one is_created fate
unfolding one
created_with None s = omega arith
created_with (Some (created _)) s = refl
created_with (Some (changed _)) s = omega arith
created_with (Some (unchanged _)) s = omega arith
created_with (Some (failed _)) s = omega arith

changed_with : (fate : Option Fate) (s : Summary) → (counted_with fate s).changed ≡ s.changed + one is_changed fate
unfolding one
changed_with None s = omega arith
changed_with (Some (created _)) s = omega arith
changed_with (Some (changed _)) s = refl
changed_with (Some (unchanged _)) s = omega arith
changed_with (Some (failed _)) s = omega arith

unchanged_with : (fate : Option Fate) (s : Summary) → (counted_with fate s).unchanged ≡ s.unchanged + one is_unchanged fate
unfolding one
unchanged_with None s = omega arith
unchanged_with (Some (created _)) s = omega arith
unchanged_with (Some (changed _)) s = omega arith
unchanged_with (Some (unchanged _)) s = refl
unchanged_with (Some (failed _)) s = omega arith

failed_with : (fate : Option Fate) (s : Summary) → (counted_with fate s).failed ≡ s.failed + one is_failed fate
unfolding one
failed_with None s = omega arith
failed_with (Some (created _)) s = omega arith
failed_with (Some (changed _)) s = omega arith
failed_with (Some (unchanged _)) s = omega arith
failed_with (Some (failed _)) s = refl

module _ (items : List Item) (i : Item) (old now : Summary) (h : Counts items old) (e : now ≡ counted_with i.fate old) where
  step : (test : Fate → Bool) (before after : ℕ) → before ≡ count_of test items → after ≡ before + one test i.fate → after ≡ count_of test (items ++ i ∷ [])
  unfolding one
  step test before after was is = is ∙ ap (λ n. n + cond (option_map_or test i.fate false) 1 0) was ∙ sym (count_of-push test items i)

  pub Counts-push : Counts (items ++ i ∷ []) now
  Counts-push = record {
    created = step is_created old.created now.created h.created (ap (λ s. s.created) e ∙ created_with i.fate old);
    changed = step is_changed old.changed now.changed h.changed (ap (λ s. s.changed) e ∙ changed_with i.fate old);
    unchanged = step is_unchanged old.unchanged now.unchanged h.unchanged (ap (λ s. s.unchanged) e ∙ unchanged_with i.fate old);
    failed = step is_failed old.failed now.failed h.failed (ap (λ s. s.failed) e ∙ failed_with i.fate old);
  }
