-- Rows that are read into the same object.
use Rattle.std.proofs.Common.{◌≡◌, ℕ, List, [], ◌∷◌, length, Ordering, Less, Equal, Greater, nat_cmp, is_eq, ◌⊎◌, inl, inr, refl, sym, ap, ◌∙◌, arith}
use Rattle.std.proofs.lemmas.Cmp.{nat_list_cmp_total}
use Rattle.std.proofs.lemmas.Map.Text.{is_eq-slice_cmp}
use Rattle.std.proofs.lemmas.Slice.Eq.{bytes_eq-Decides}
use Rattle.std.specs.Cmp.Lexicographic.{slice_cmp}
use Rattle.std.specs.Prelude.{⊤}
use Rattle.std.specs.Ordering.{match_ordering, ordering_reverse}
use Rattle.serde_json.specs.Data.{Data, null, object, string, Members, no_members, member, put}
use Rattle.handlebars_data.specs.Rows.{members_in, row_members}
use Rattle.handlebars_data.specs.RowLaws.{IsAsNew, ReplacesEarlierRow}
use Rattle.handlebars_data.proofs.Puts.{put-put}

above : (k l : List ℕ) → slice_cmp nat_cmp k l ≡ Less → slice_cmp nat_cmp l k ≡ Greater
above k l less = nat_list_cmp_total.antisymm l k ∙ ap ordering_reverse less

-- ---- values at two keys go in in either order

module _ (k l : List ℕ) (d e : Data) (less : slice_cmp nat_cmp k l ≡ Less) where
  over_at : (o : Ordering) (m : List ℕ) (f : Data) (ms : Members) → slice_cmp nat_cmp k m ≡ o → slice_cmp nat_cmp l m ≡ Greater → put k d (put l e ms) ≡ put l e (put k d ms)
      → match_ordering o (member k d (member m f (put l e ms))) (member m d (put l e ms)) (member m f (put k d (put l e ms)))
      ≡ put l e (match_ordering o (member k d (member m f ms)) (member m d ms) (member m f (put k d ms)))
  over_at Less m f ms is high later = rw (above k l less, high)
  over_at Equal m f ms is high later = rw high
  over_at Greater m f ms is high later = rw (high, later)

  low_at : (o : Ordering) (m : List ℕ) (f : Data) (ms : Members) → slice_cmp nat_cmp l m ≡ o → put k d (put l e ms) ≡ put l e (put k d ms)
      → put k d (match_ordering o (member l e (member m f ms)) (member m e ms) (member m f (put l e ms))) ≡ put l e (put k d (member m f ms))
  low_at Less m f ms is later =
      let low : slice_cmp nat_cmp k m ≡ Less = nat_list_cmp_total.trans k l m less is in
      rw (less, low, above k l less, is)
  low_at Equal m f ms is later =
      let same : l ≡ m = (bytes_eq-Decides l m).0 (sym (is_eq-slice_cmp l m) ∙ ap is_eq is) in
      let low : slice_cmp nat_cmp k m ≡ Less = ap (slice_cmp nat_cmp k) (sym same) ∙ less in
      rw (low, above k l less, is)
  low_at Greater m f ms is later = over_at _ m f ms refl is later

  put-put_above : (ms : Members) → put k d (put l e ms) ≡ put l e (put k d ms)
  put-put_above no_members = rw (less, above k l less)
  put-put_above (member m f ms) = low_at _ m f ms refl (put-put_above ms)

-- ---- a value under the name of a column

-- a key that is one of the names
abbrev IsName : List ℕ → List (List ℕ) → Type 0
IsName k [] = ⊥
IsName k (name ∷ names) = (k ≡ name) ⊎ IsName k names

abbrev AreNames : List (List ℕ) → List (List ℕ) → Type 0
AreNames [] names = ⊤
AreNames (k ∷ ks) names = IsName k names × AreNames ks names

more_names : (ks names : List (List ℕ)) (name : List ℕ) → AreNames ks names → AreNames ks (name ∷ names)
more_names [] names name are = tt
more_names (k ∷ ks) names name are = (inr are.0, more_names ks names name are.1)

own_names : (names : List (List ℕ)) → AreNames names names
own_names [] = tt
own_names (name ∷ names) = (inl refl, more_names names names name (own_names names))

equal_at : (names fields : List (List ℕ)) (name field k : List ℕ) (d : Data) (ms : Members) → k ≡ name
    → row_members names fields (put name (string field) (put k d ms)) ≡ row_members names fields (put name (string field) ms)
equal_at names fields name field k d ms same = ap (row_members names fields) (rw same (put-put name (string field) d ms))

overwritten_at : (o : Ordering) (names fields : List (List ℕ)) (name field k : List ℕ) (d : Data) (ms : Members) → slice_cmp nat_cmp k name ≡ o
    → row_members names fields (put k d (put name (string field) ms)) ≡ row_members names fields (put name (string field) ms)
    → row_members names fields (put name (string field) (put k d ms)) ≡ row_members names fields (put name (string field) ms)
overwritten_at Less names fields name field k d ms is later =
    ap (row_members names fields) (sym (put-put_above k name d (string field) is ms)) ∙ later
overwritten_at Equal names fields name field k d ms is later =
    equal_at names fields name field k d ms ((bytes_eq-Decides k name).0 (sym (is_eq-slice_cmp k name) ∙ ap is_eq is))
overwritten_at Greater names fields name field k d ms is later =
    let less : slice_cmp nat_cmp name k ≡ Less = nat_list_cmp_total.antisymm name k ∙ ap ordering_reverse is in
    ap (row_members names fields) (put-put_above name k (string field) d less ms) ∙ later

-- a row leaves nothing of a value under one of its names
overwritten : (names fields : List (List ℕ)) (k : List ℕ) (d : Data) (ms : Members) → IsName k names → length fields ≡ length names
    → row_members names fields (put k d ms) ≡ row_members names fields ms
overwritten [] fields k d ms is same = absurd is
overwritten (name ∷ names) [] k d ms is same = absurd (omega (arith, same))
overwritten (name ∷ names) (field ∷ fields) k d ms (inl is) same = equal_at names fields name field k d ms is
overwritten (name ∷ names) (field ∷ fields) k d ms (inr is) same =
    overwritten_at _ names fields name field k d ms refl (overwritten names fields k d (put name (string field) ms) is (omega (arith, same)))

-- nor of a row under some of them
all_overwritten : (ks earlier names later : List (List ℕ)) (ms : Members) → AreNames ks names → length later ≡ length names
    → row_members names later (row_members ks earlier ms) ≡ row_members names later ms
all_overwritten [] earlier names later ms are same = refl
all_overwritten (k ∷ ks) [] names later ms are same = refl
all_overwritten (k ∷ ks) (field ∷ fields) names later ms are same =
    all_overwritten ks fields names later (put k (string field) ms) are.1 same ∙ overwritten names later k (string field) ms are.0 same

pub replaces_earlier_row : ReplacesEarlierRow
replaces_earlier_row names earlier later d same = ap object (all_overwritten names earlier names later (members_in d) (own_names names) same)

pub is_as_new : IsAsNew
is_as_new names earlier later same = replaces_earlier_row names earlier later null same
