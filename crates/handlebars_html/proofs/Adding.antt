-- Lists to which elements are added one after another: of states, of rows and of faults; and when nothing is added.
use Rattle.std.proofs.Common.{◌≡◌, ◌≤◌, Bool, true, false, ◌&&◌, if◌then◌else◌, List, [], ◌∷◌, ◌++◌, length, refl, ap, ◌∙◌, arith}
use Rattle.std.specs.List.{list_all}
use Rattle.std.proofs.lemmas.List.{length-append}
use Rattle.handlebars_html.specs.Html.{Html}
use Rattle.handlebars_html.specs.Rows.{with_state, with_states, Row, has_row}
use Rattle.handlebars_html.specs.Search.{has_none, accepts_findings}
use Rattle.handlebars_html.specs.Check.{Findings, both_findings}
use Rattle.handlebars_html.specs.Faults.{Fault, has_fault, with_fault, with_faults}
use Rattle.handlebars_html.specs.FoundView.{with_missing, with_findings}
use Rattle.handlebars_html.proofs.StateLists.{by_both, and-true}

-- ---- two lists, one after the other

pub with_states-append : (hs gs ks : List Html) → with_states hs (gs ++ ks) ≡ with_states (with_states hs gs) ks
with_states-append hs [] ks = refl
with_states-append hs (g ∷ gs) ks = with_states-append (with_state hs g) gs ks

pub with_missing-append : (table rows xs ys : List Row)
    → with_missing table rows (xs ++ ys) ≡ with_missing table (with_missing table rows xs) ys
with_missing-append table rows [] ys = refl
with_missing-append table rows (x ∷ xs) ys =
    with_missing-append table (if has_row table x then rows else rows ++ x ∷ []) xs ys

with_faults-append : (zs xs ys : List Fault) → with_faults zs (xs ++ ys) ≡ with_faults (with_faults zs xs) ys
with_faults-append zs [] ys = refl
with_faults-append zs (x ∷ xs) ys = with_faults-append (with_fault zs x) xs ys

-- what is found in two parts, one after the other
pub with_findings-both : (table : List Row) (z x y : Findings)
    → with_findings table z (both_findings x y) ≡ with_findings table (with_findings table z x) y
with_findings-both table z x y =
    ap (λ (rows : List Row). record { rows = rows; faults = with_faults z.faults (x.faults ++ y.faults) })
    (with_missing-append table z.rows x.rows y.rows)
    ∙ ap (λ (faults : List Fault). record { rows = with_missing table (with_missing table z.rows x.rows) y.rows; faults = faults })
    (with_faults-append z.faults x.faults y.faults)

-- ---- what is added is found

list_all-append : {X : Type 0} (test : X → Bool) (xs ys : List X) → list_all test xs ≡ true → list_all test ys ≡ true
    → list_all test (xs ++ ys) ≡ true
list_all-append test [] ys first later = later
list_all-append test (x ∷ xs) ys first later =
    by_both (test x) (list_all test xs) first (λ here rest.
    and-true (test x) (list_all test (xs ++ ys)) here (list_all-append test xs ys rest later))

-- A test passes for the rows that were missing if it does for those before and for all that were found.
pub with_missing-all : (test : Row → Bool) (table rows rs : List Row) → list_all test rows ≡ true → list_all test rs ≡ true
    → list_all test (with_missing table rows rs) ≡ true
with_missing-all test table rows [] before all = before
with_missing-all test table rows (r ∷ rs) before all =
    by_both (test r) (list_all test rs) all (λ here rest.
    with_missing-all test table (if has_row table r then rows else rows ++ r ∷ []) rs (by (has_row table r) here) rest)
  where
    by : (b : Bool) → test r ≡ true → list_all test (if b then rows else rows ++ r ∷ []) ≡ true
    by true here = before
    by false here = list_all-append test rows (r ∷ []) before (and-true (test r) true here refl)

-- ---- nothing is added

with_missing-length : (table rows rs : List Row) → length rows ≤ length (with_missing table rows rs)
with_missing-length table rows [] = omega arith
with_missing-length table rows (r ∷ rs) = by (has_row table r) (λ xs. with_missing-length table xs rs)
  where
    by : (b : Bool) → ((xs : List Row) → length xs ≤ length (with_missing table xs rs))
        → length rows ≤ length (with_missing table (if b then rows else rows ++ r ∷ []) rs)
    by true longer = longer rows
    by false longer = let more = longer (rows ++ r ∷ []) in let one = length-append rows (r ∷ []) in omega arith

-- The table has all rows if none was missing.
pub with_missing-none : (table rs : List Row) → with_missing table [] rs ≡ [] → list_all (has_row table) rs ≡ true
with_missing-none table [] is = refl
with_missing-none table (r ∷ rs) is = by (has_row table r) refl is (with_missing-none table rs)
  where
    never : length (r ∷ []) ≤ length (with_missing table (r ∷ []) rs)
        → length (with_missing table (r ∷ []) rs) ≡ length {A = Row} [] → ⊥
    never more is = omega arith

    by : (b : Bool) → has_row table r ≡ b → with_missing table (if b then [] else r ∷ []) rs ≡ []
        → (with_missing table [] rs ≡ [] → list_all (has_row table) rs ≡ true)
        → (has_row table r && list_all (has_row table) rs) ≡ true
    by true e is rest = and-true (has_row table r) (list_all (has_row table) rs) e (rest is)
    by false e is rest =
        absurd (never (with_missing-length table (r ∷ []) rs) (ap (λ (ys : List Row). length ys) is))

with_fault-length : (ys : List Fault) (x : Fault) → length ys ≤ length (with_fault ys x)
with_fault-length ys x = by (has_fault ys x)
  where
    by : (b : Bool) → length ys ≤ length (if b then ys else ys ++ x ∷ [])
    by true = omega arith
    by false = let longer = length-append ys (x ∷ []) in omega arith

with_faults-length : (ys xs : List Fault) → length ys ≤ length (with_faults ys xs)
with_faults-length ys [] = omega arith
with_faults-length ys (x ∷ xs) =
    let first = with_fault-length ys x in let rest = with_faults-length (with_fault ys x) xs in omega arith

-- If no fault was added to none, there was none.
pub with_faults-none : (xs : List Fault) → with_faults [] xs ≡ [] → xs ≡ []
with_faults-none [] is = refl
with_faults-none (x ∷ xs) is = absurd (never (with_faults-length (x ∷ []) xs) (ap (λ (ys : List Fault). length ys) is))
  where
    never : length (x ∷ []) ≤ length (with_faults (x ∷ []) xs) → length (with_faults (x ∷ []) xs) ≡ length {A = Fault} [] → ⊥
    never more is = omega arith

-- A round accepts the rows if it finds no fault, and no row that is missing.
pub accepts-none : (rows : List Row) (x : Findings) → with_missing rows [] x.rows ≡ [] → x.faults ≡ []
    → accepts_findings rows x ≡ true
accepts-none rows x missing none =
    ap (λ (faults : List Fault). has_none faults && list_all (has_row rows) x.rows) none
    ∙ with_missing-none rows x.rows missing
