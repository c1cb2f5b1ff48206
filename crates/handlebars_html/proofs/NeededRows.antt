-- What is read by rows that are needed, as the code finds it.
use Rattle.std.proofs.Common.{◌≡◌, ℕ, zero, suc, ◌<◌, ◌==◌, Bool, true, false, if◌then◌else◌, List, [], ◌∷◌, map, length, get_or, refl, sym, ap, ◌∙◌, subst, Some, arith}
use Rattle.std.specs.Prelude.{slice_get, option_map}
use Rattle.std.specs.List.{Contains}
use Rattle.std.specs.Str.{bytes_eq}
use Rattle.std.proofs.lemmas.List.{length-map, get_or-map}
use Rattle.std.proofs.lemmas.Bool.Decides.{nat_tests}
use Rattle.std.proofs.lemmas.Option.{slice_get-map, slice_get_read}
use Rattle.handlebars_base.specs.Bytes.{Text}
use Rattle.handlebars_template.specs.Tree.{Tree}
use Rattle.handlebars_html.specs.Html.{Html}
use Rattle.handlebars_html.specs.Same.{is_same}
use Rattle.handlebars_html.specs.Rows.{Row, entering, leaving, is_at, has_entering}
use Rattle.handlebars_html.specs.RowsView.{row_of, fault_of}
use Rattle.handlebars_html.specs.Check.{Findings, no_findings}
use Rattle.handlebars_html.specs.FoundView.{found_of, with_findings, collected, AddsFindings}
use Rattle.handlebars_html.specs.Registry.{UserDefined}
use Rattle.handlebars_html.specs.Search.{Pages, round, AreNeeded, IsVerdict, verdict_in}
use Rattle.handlebars_html.specs.declared.found.Found.{Found}
use Rattle.handlebars_html.specs.declared.rows.Row as code
use Rattle.handlebars_html.proofs.StateLists.{and-true, is-same}
use Rattle.handlebars_html.proofs.CleanFindings.{text-self}
use Rattle.handlebars_html.proofs.Rounds.{needed-none, needed-missing, needed-round, round-decides}

-- There is none if the test for none passes.
pub none-there : (b : Bool) (n m : ℕ) → b ≡ (n == 0) → b ≡ true → n ≡ m → m ≡ 0
none-there b n m test is long = grind (arith, nat_tests)

-- What is read from a list is in it, as definitions view them.
pub read-contained : {A B : Type 0} (f : A → B) (xs : List A) (i : ℕ) (x : A) → i < length xs → x ≡ get_or xs i x
    → Contains (map f xs) (f x)
read-contained f xs i x within is =
    (i, subst (λ (z : ℕ). i < z) (sym (length-map xs f)) within, get_or-map f xs i x (f x) within ∙ ap f (sym is))

-- The rows say what one of them says.
entering-at : (rows : List Row) (i : ℕ) (n : Text) (h : Html) → slice_get rows i ≡ Some (entering n h)
    → has_entering rows n h ≡ true
entering-at [] i n h is = cc
entering-at (leaving m g x ∷ rows) zero n h is = cc
entering-at (entering m g ∷ rows) zero n h is =
    let name : m ≡ n = cc in
    let state : g ≡ h = cc in
    let name_is : bytes_eq m n ≡ true = subst (λ (z : Text). bytes_eq m z ≡ true) name (text-self m) in
    ap (λ (z : Bool). if z then true else has_entering rows n h)
    (and-true (bytes_eq m n) (is_same g h) name_is (is-same g h state))
entering-at (leaving m g x ∷ rows) (suc i) n h is = entering-at rows i n h is
entering-at (entering m g ∷ rows) (suc i) n h is = by (is_at m g n h) (entering-at rows i n h is)
  where
    by : (b : Bool) → has_entering rows n h ≡ true → (if b then true else has_entering rows n h) ≡ true
    by true has = refl
    by false has = has

pub entering-read : (rows : List code.Row) (i : ℕ) (r : code.Row) (n : Text) (h : Html) → i < length rows
    → r ≡ get_or rows i r → row_of r ≡ entering n h → has_entering (map row_of rows) n h ≡ true
entering-read rows i r n h within is at =
    entering-at (map row_of rows) i n h
    (slice_get-map row_of rows i ∙ ap (option_map row_of) (slice_get_read rows (length rows) i r refl within is) ∙ ap Some at)

module _ (u : UserDefined) (templates : List (Text × Tree)) (pages : Pages) where
  -- Where nothing was found, no rows are needed.
  pub needed-nothing : (none : Found) → found_of none ≡ no_findings → AreNeeded u templates pages (map row_of none.rows.items)
  needed-nothing none empty =
      subst (λ (z : Findings). AreNeeded u templates pages z.rows) (sym empty) (needed-none u templates pages)

  module _ (rows : List Row) where
    -- The rows are needed that are found in a part that needs its rows, if nothing was found before.
    pub needed-part : (none part : Found) (x : Findings) → found_of none ≡ no_findings → AddsFindings rows none part x
        → AreNeeded u templates pages x.rows → AreNeeded u templates pages (map row_of part.rows.items)
    needed-part none part x empty adds needed =
        subst (λ (z : Findings). AreNeeded u templates pages z.rows)
        (sym (adds ∙ ap (λ (z : Findings). with_findings rows z x) empty)) (needed-missing u templates pages rows x.rows needed)

    -- So are those that a round finds by rows that are needed.
    pub needed-found : (found : Found) → AreNeeded u templates pages rows
        → found_of found ≡ collected rows no_findings (round u rows templates pages)
        → AreNeeded u templates pages (map row_of found.rows.items)
    needed-found found needed is =
        subst (λ (z : Findings). AreNeeded u templates pages z.rows) (sym is)
        (needed-missing u templates pages rows (round u rows templates pages).rows (needed-round u templates pages rows needed))

    -- If it finds none, it decides.
    pub found-decides : (found : Found) → AreNeeded u templates pages rows
        → found_of found ≡ collected rows no_findings (round u rows templates pages) → map row_of found.rows.items ≡ []
        → IsVerdict u templates pages (verdict_in (map fault_of found.faults.items))
    found-decides found needed is none =
        subst (λ (z : Findings). IsVerdict u templates pages (verdict_in z.faults)) (sym is)
        (round-decides u templates pages rows needed (sym (ap (λ (z : Findings). z.rows) is) ∙ none))
