-- The fields of a row, one after another.
use Rattle.std.proofs.Common.{◌≡◌, ℕ, zero, suc, ◌+◌, ◌≤◌, List, [], ◌∷◌, length, drop, Option, Some, None, refl, sym, ◌∙◌, add-one}
use Rattle.std.proofs.Math.ListN.{drop_of_length-le}
use Rattle.csv.specs.Records.{field_at}
use Rattle.serde_json.specs.Data.{Members, put}
use Rattle.handlebars_data.specs.Rows.{row_members}
use Rattle.handlebars_data.specs.RowsView.{with_field}

row_members-no_fields : (names : List (List ℕ)) (ms : Members) → row_members names [] ms ≡ ms
row_members-no_fields [] ms = refl
row_members-no_fields (name ∷ names) ms = refl

with_field-none : (name : Option (List ℕ)) (ms : Members) → with_field name None ms ≡ ms
with_field-none None ms = refl
with_field-none (Some name) ms = refl

row_members-at : (i : ℕ) (names fields : List (List ℕ)) (ms : Members)
    → row_members (drop i names) (drop i fields) ms ≡ row_members (drop (suc i) names) (drop (suc i) fields) (with_field (field_at names i) (field_at fields i) ms)
unfolding field_at
row_members-at zero [] fields ms = refl
row_members-at (suc i) [] fields ms = refl
row_members-at zero (name ∷ names) [] ms = sym (row_members-no_fields names ms)
row_members-at (suc i) (name ∷ names) [] ms =
    rw (with_field-none (field_at names i) ms, row_members-no_fields (drop i names) ms, row_members-no_fields (drop (suc i) names) ms)
row_members-at zero (name ∷ names) (field ∷ fields) ms = refl
row_members-at (suc i) (name ∷ names) (field ∷ fields) ms = row_members-at i names fields ms

-- the next field goes in
pub next_field : (i : ℕ) (names fields : List (List ℕ)) (name field : Option (List ℕ)) (ms new all : Members) → name ≡ field_at names i → field ≡ field_at fields i
    → new ≡ with_field name field ms → row_members (drop i names) (drop i fields) ms ≡ all → row_members (drop (i + 1) names) (drop (i + 1) fields) new ≡ all
next_field i names fields name field ms new all first second put so_far =
    rw (put, first, second, add-one) (sym (row_members-at i names fields ms) ∙ so_far)

-- none is left
pub last_field : (i : ℕ) (names fields : List (List ℕ)) (ms all : Members) → length names ≤ i → row_members (drop i names) (drop i fields) ms ≡ all → ms ≡ all
last_field i names fields ms all end so_far =
    let none : drop i names ≡ [] = drop_of_length-le names end in
    rw none at so_far
