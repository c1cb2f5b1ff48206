-- All items of a shard are counted.
use Rattle.std.proofs.Common.{◌≡◌, ◌∙◌, ℕ, ◌+◌, ◌-◌, ◌%◌, Bool, false, cond, eqb, List, [], ◌∷◌, Option, Some, None, length, refl, arith}
use Rattle.std.specs.Option.{option_map_or}
use Rattle.std.proofs.lemmas.List.Sums.{sum_by-cons}
use Rattle.std.proofs.lemmas.Bool.{eq-eqb, ne_eqb}
use Rattle.hb_build.specs.Name.{Name}
use Rattle.hb_build.specs.Items.{Fate, Item, Counts, created, changed, unchanged, failed, count_of, is_created, is_changed, is_unchanged, is_failed}
use Rattle.hb_build.specs.Passes.{HasItems, IsPassed, share_of}
use Rattle.hb_build.specs.declared.source.Pages as pages
use Rattle.hb_build.specs.declared.files.Store as stores
use Rattle.hb_build.specs.declared.outcome.Summary.{Summary}
use Rattle.hb_build.specs.declared.options.Settings.{Settings}

all_of : List Item → ℕ
all_of items = count_of is_created items + count_of is_changed items + count_of is_unchanged items + count_of is_failed items

sums : (a b c d : ℕ) (items : List Item) (m n : ℕ) → a + b + c + d ≡ m → all_of items ≡ n
    → (a + count_of is_created items) + (b + count_of is_changed items) + (c + count_of is_unchanged items) + (d + count_of is_failed items) ≡ m + n
unfolding all_of
sums a b c d items m n h e = omega (arith, h, e)

one : (Fate → Bool) → Option Fate → ℕ
one test fate = cond (option_map_or test fate false) 1 0

count_of-cons : (test : Fate → Bool) (name : Name) (fate : Option Fate) (items : List Item)
    → count_of test (record { name = name; fate = fate } ∷ items) ≡ one test fate + count_of test items
unfolding one
count_of-cons test name fate items = sum_by-cons (λ (item : Item). cond (option_map_or test item.fate false) 1 0) (record { name = name; fate = fate }) items

-- the counts with one item more, each by itself
split : (name : Name) (fate : Option Fate) (items : List Item) → all_of (record { name = name; fate = fate } ∷ items)
    ≡ (one is_created fate + count_of is_created items) + (one is_changed fate + count_of is_changed items)
    + (one is_unchanged fate + count_of is_unchanged items) + (one is_failed fate + count_of is_failed items)
unfolding all_of
split name fate items =
    let a = count_of-cons is_created name fate items in
    let b = count_of-cons is_changed name fate items in
    let c = count_of-cons is_unchanged name fate items in
    let d = count_of-cons is_failed name fate items in
    omega (arith, a, b, c, d)

module _ {P S : Type 0} (p : pages.Ghosts P) (s : stores.Ghosts S) (settings : Settings) (names : List Name) where
  in_shard : ℕ → Bool
  in_shard k = eqb (k % settings.shard.count) (settings.shard.number - 1)

  all_of-cons : (k : ℕ) (t u : P) (name : Name) (fate : Option Fate) (items : List Item) (n : ℕ) → IsPassed p s settings names k t name fate u → all_of items ≡ n
      → all_of (record { name = name; fate = fate } ∷ items) ≡ cond (in_shard k) 1 0 + n
  unfolding all_of in_shard one
  all_of-cons k t u name None items n passed e = rw (ne_eqb (k % settings.shard.count) (settings.shard.number - 1) passed.0) (split name None items ∙ sums 0 0 0 0 items 0 n refl e)
  all_of-cons k t u name (Some (created x)) items n passed e = rw (eq-eqb (k % settings.shard.count) (settings.shard.number - 1) passed.0) (split name (Some (created x)) items ∙ sums 1 0 0 0 items 1 n refl e)
  all_of-cons k t u name (Some (changed x)) items n passed e = rw (eq-eqb (k % settings.shard.count) (settings.shard.number - 1) passed.0) (split name (Some (changed x)) items ∙ sums 0 1 0 0 items 1 n refl e)
  all_of-cons k t u name (Some (unchanged x)) items n passed e = rw (eq-eqb (k % settings.shard.count) (settings.shard.number - 1) passed.0) (split name (Some (unchanged x)) items ∙ sums 0 0 1 0 items 1 n refl e)
  all_of-cons k t u name (Some (failed x)) items n passed e = rw (eq-eqb (k % settings.shard.count) (settings.shard.number - 1) passed.0) (split name (Some (failed x)) items ∙ sums 0 0 0 1 items 1 n refl e)

  all_of-share : (k : ℕ) (t v : P) (items : List Item) → HasItems p s settings names k t items v → all_of items ≡ share_of settings.shard k (length items)
  unfolding all_of in_shard
  all_of-share k t v [] h = refl
  all_of-share k t v (i ∷ items) h = all_of-cons k t h.0 i.name i.fate items (share_of settings.shard (k + 1) (length items)) h.1.passed
      (all_of-share (k + 1) h.0 v items h.2)

  -- the numbers of a summary add up to the share
  pub Counts-total : (t v : P) (items : List Item) (summary : Summary) → HasItems p s settings names 0 t items v → Counts items summary
      → summary.created + summary.changed + summary.unchanged + summary.failed ≡ share_of settings.shard 0 (length items)
  unfolding all_of
  Counts-total t v items summary h counts = rw (counts.created, counts.changed, counts.unchanged, counts.failed) (all_of-share 0 t v items h)
