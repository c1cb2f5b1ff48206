-- Findings with no faults and with rows that a table has.
use Rattle.std.proofs.Common.{◌≡◌, Bool, true, false, if◌then◌else◌, List, [], ◌∷◌, ◌++◌, refl, ap, subst, Option, None, Some}
use Rattle.std.specs.List.{AllByRecursion}
use Rattle.std.specs.Str.{bytes_eq}
use Rattle.std.proofs.lemmas.Slice.Eq.{bytes_eq-Decides}
use Rattle.handlebars_base.specs.Bytes.{Text}
use Rattle.handlebars_template.specs.Position.{Position}
use Rattle.handlebars_html.specs.Html.{Html}
use Rattle.handlebars_html.specs.Same.{is_same}
use Rattle.handlebars_html.specs.Rule.{Registered, Table, IsNamed}
use Rattle.handlebars_html.specs.Safety.{html_rule}
use Rattle.handlebars_html.specs.Rows.{Row, entering, leaving, is_at, has_entering, leaving_states, has_row, with_row, with_rows, leavings, table_of, IsInTable}
use Rattle.handlebars_html.specs.Faults.{Why, Fault, faults_at, with_faults}
use Rattle.handlebars_html.specs.Check.{Findings, both_findings, found_faults, each_once, findings_of_each, Ends, ends_in, found_before, either_ends, may_name, findings_of_entering, findings_of_entered}
use Rattle.handlebars_html.proofs.Adding.{with_faults-none}
use Rattle.handlebars_html.proofs.StateLists.{by_both, same-is, All-first, All-later, All-append, All-of_map, All-to_map, empty-first, empty-later, empty-append, empty-of_map, with_states-has, with_states-all}

-- No fault is found, and the table has the rows.
pub record IsClean (table : Table html_rule) (x : Findings) : Type 0 where
  pub rows : AllByRecursion (IsInTable table) x.rows
  pub faults : x.faults ≡ []

-- In all states the end holds.
pub record IsFine (table : Table html_rule) (end : Html → Type 0) (x : Ends) : Type 0 where
  pub states : AllByRecursion end x.states
  pub clean : IsClean table x.findings

pub text-is : (n m : Text) → bytes_eq n m ≡ true → n ≡ m
text-is n m is = (bytes_eq-Decides n m).0 is

pub text-self : (n : Text) → bytes_eq n n ≡ true
text-self n = (bytes_eq-Decides n n).1 refl

-- ---- findings of parts

module _ (table : Table html_rule) where
  pub clean-first : (x y : Findings) → IsClean table (both_findings x y) → IsClean table x
  clean-first x y clean = record {
    rows = All-first (IsInTable table) x.rows y.rows clean.rows;
    faults = empty-first x.faults y.faults clean.faults;
  }

  pub clean-later : (x y : Findings) → IsClean table (both_findings x y) → IsClean table y
  clean-later x y clean = record {
    rows = All-later (IsInTable table) x.rows y.rows clean.rows;
    faults = empty-later x.faults y.faults clean.faults;
  }

  pub clean-both : (x y : Findings) → IsClean table x → IsClean table y → IsClean table (both_findings x y)
  clean-both x y first later = record {
    rows = All-append (IsInTable table) x.rows y.rows first.rows later.rows;
    faults = empty-append x.faults y.faults first.faults later.faults;
  }

  pub clean-once : (x : Findings) → IsClean table (each_once x) → IsClean table x
  clean-once x clean = record { rows = clean.rows; faults = with_faults-none x.faults clean.faults }

  pub once-clean : (x : Findings) → IsClean table x → IsClean table (each_once x)
  once-clean x clean = record { rows = clean.rows; faults = ap (λ (xs : List Fault). with_faults [] xs) clean.faults }

  pub clean-of_each : (f : Html → Findings) (hs : List Html) → IsClean table (findings_of_each f hs)
      → AllByRecursion (λ h. IsClean table (f h)) hs
  clean-of_each f [] clean = tt
  clean-of_each f (h ∷ hs) clean =
      (clean-first (f h) (findings_of_each f hs) clean, clean-of_each f hs (clean-later (f h) (findings_of_each f hs) clean))

  pub clean-to_each : (f : Html → Findings) (hs : List Html) → AllByRecursion (λ h. IsClean table (f h)) hs
      → IsClean table (findings_of_each f hs)
  clean-to_each f [] all = record { rows = tt; faults = refl }
  clean-to_each f (h ∷ hs) all = clean-both (f h) (findings_of_each f hs) all.0 (clean-to_each f hs all.1)

  -- of faults at a position
  pub clean-whys : (n : Option Text) (p : Option Position) (ws : List Why) → IsClean table (found_faults (faults_at n p ws))
      → ws ≡ []
  clean-whys n p ws clean = empty-of_map _ ws clean.faults

  pub whys-clean : (n : Option Text) (p : Option Position) (ws : List Why) → ws ≡ []
      → IsClean table (found_faults (faults_at n p ws))
  whys-clean n p ws is = record { rows = tt; faults = ap (λ (vs : List Why). faults_at n p vs) is }

  -- ---- ends of parts

  module _ (end : Html → Type 0) where
    pub fine-states : (hs : List Html) → AllByRecursion end hs → IsFine table end (ends_in hs)
    fine-states hs all = record { states = all; clean = record { rows = tt; faults = refl } }

    pub fine-before : (x : Findings) (y : Ends) → IsFine table end (found_before x y) → IsClean table x × IsFine table end y
    fine-before x y fine = (
      clean-first x y.findings fine.clean,
      record { states = fine.states; clean = clean-later x y.findings fine.clean },
    )

    pub before-fine : (x : Findings) (y : Ends) → IsClean table x → IsFine table end y → IsFine table end (found_before x y)
    before-fine x y clean fine = record { states = fine.states; clean = clean-both x y.findings clean fine.clean }

    pub fine-either : (x y : Ends) → IsFine table end (either_ends x y) → IsFine table end x × IsFine table end y
    fine-either x y fine =
        let states = with_states-has end x.states y.states fine.states in (
          record { states = states.0; clean = clean-first x.findings y.findings fine.clean },
          record { states = states.1; clean = clean-later x.findings y.findings fine.clean },
        )

    pub either-fine : (x y : Ends) → IsFine table end x → IsFine table end y → IsFine table end (either_ends x y)
    either-fine x y first later = record {
      states = with_states-all end x.states y.states first.states later.states;
      clean = clean-both x.findings y.findings first.clean later.clean;
    }

  -- ---- what is included

  entering-of_clean : (n : Text) (h : Html) (x : Ends) → IsClean table (findings_of_entering n h x)
      → IsFine table (table.leaves n h) x
  entering-of_clean n h x clean =
      let rows = clean-later x.findings (record { rows = leavings n h x.states; faults = [] }) clean in record {
        states = All-of_map (IsInTable table) (λ g. leaving n h g) x.states rows.rows;
        clean = clean-first x.findings (record { rows = leavings n h x.states; faults = [] }) clean;
      }

  pub entering-to_clean : (n : Text) (h : Html) (x : Ends) → IsFine table (table.leaves n h) x
      → IsClean table (findings_of_entering n h x)
  entering-to_clean n h x fine =
      clean-both x.findings (record { rows = leavings n h x.states; faults = [] }) fine.clean (record {
        rows = All-to_map (IsInTable table) (λ g. leaving n h g) x.states fine.states;
        faults = refl;
      })

  -- Where a row says that something is included, it ends as the table has it.
  pub entered-of_clean : (rows : List Row) (f : Text → Html → Ends) → IsClean table (findings_of_entered rows f)
      → (n : Text) (h : Html) → has_entering rows n h ≡ true → IsFine table (table.leaves n h) (f n h)
  entered-of_clean [] f clean n h has = cc
  entered-of_clean (leaving m g x ∷ rows) f clean n h has = entered-of_clean rows f clean n h has
  entered-of_clean (entering m g ∷ rows) f clean n h has =
      choose (entered-of_clean rows f (clean-later (findings_of_entering m g (f m g)) (findings_of_entered rows f) clean) n h)
      (is_at m g n h) refl has
    where
      first : IsFine table (table.leaves m g) (f m g)
      first =
          entering-of_clean m g (f m g) (clean-first (findings_of_entering m g (f m g)) (findings_of_entered rows f) clean)

      choose : (has_entering rows n h ≡ true → IsFine table (table.leaves n h) (f n h)) → (b : Bool) → is_at m g n h ≡ b
          → (if b then true else has_entering rows n h) ≡ true → IsFine table (table.leaves n h) (f n h)
      choose rest true e has = by_both (bytes_eq m n) (is_same g h) e (λ a b.
          subst (λ (z : Text). IsFine table (table.leaves z h) (f z h)) (text-is m n a)
          (subst (λ (z : Html). IsFine table (table.leaves m z) (f m z)) (same-is g h b) first))
      choose rest false e has = rest has

  pub entered-to_clean : (rows : List Row) (f : Text → Html → Ends) → AllByRecursion (IsInTable table) rows
      → ((n : Text) (h : Html) → table.enters n h → IsFine table (table.leaves n h) (f n h))
      → IsClean table (findings_of_entered rows f)
  entered-to_clean [] f all to = record { rows = tt; faults = refl }
  entered-to_clean (leaving m g x ∷ rows) f all to = entered-to_clean rows f all.1 to
  entered-to_clean (entering m g ∷ rows) f all to =
      clean-both (findings_of_entering m g (f m g)) (findings_of_entered rows f)
      (entering-to_clean m g (f m g) (to m g all.0)) (entered-to_clean rows f all.1 to)

  -- ---- rows

  pub entering-known : (rows : List Row) → AllByRecursion (IsInTable table) rows → (n : Text) (h : Html)
      → has_entering rows n h ≡ true → table.enters n h
  entering-known [] all n h has = cc
  entering-known (leaving m g x ∷ rows) all n h has = entering-known rows all.1 n h has
  entering-known (entering m g ∷ rows) all n h has = choose (entering-known rows all.1 n h) (is_at m g n h) refl has
    where
      choose : (has_entering rows n h ≡ true → table.enters n h) → (b : Bool) → is_at m g n h ≡ b
          → (if b then true else has_entering rows n h) ≡ true → table.enters n h
      choose rest true e has = by_both (bytes_eq m n) (is_same g h) e (λ a b.
          subst (λ (z : Text). table.enters z h) (text-is m n a)
          (subst (λ (z : Html). table.enters m z) (same-is g h b) all.0))
      choose rest false e has = rest has

  pub leaving_states-all : (rows : List Row) → AllByRecursion (IsInTable table) rows → (n : Text) (h : Html)
      → AllByRecursion (table.leaves n h) (leaving_states rows n h)
  leaving_states-all [] all n h = tt
  leaving_states-all (entering m g ∷ rows) all n h = leaving_states-all rows all.1 n h
  leaving_states-all (leaving m g x ∷ rows) all n h = choose (leaving_states-all rows all.1 n h) (is_at m g n h) refl
    where
      choose : AllByRecursion (table.leaves n h) (leaving_states rows n h) → (b : Bool) → is_at m g n h ≡ b
          → AllByRecursion (table.leaves n h) (if b then x ∷ leaving_states rows n h else leaving_states rows n h)
      choose rest true e = (
        by_both (bytes_eq m n) (is_same g h) e (λ a b.
            subst (λ (z : Text). table.leaves z h x) (text-is m n a)
            (subst (λ (z : Html). table.leaves m z x) (same-is g h b) all.0)),
        rest,
      )
      choose rest false e = rest

  with_row-all : (rows : List Row) (r : Row) → AllByRecursion (IsInTable table) rows → IsInTable table r
      → AllByRecursion (IsInTable table) (with_row rows r)
  with_row-all rows r all one = choose (has_row rows r)
    where
      choose : (b : Bool) → AllByRecursion (IsInTable table) (if b then rows else rows ++ r ∷ [])
      choose true = all
      choose false = All-append (IsInTable table) rows (r ∷ []) all (one, tt)

  pub with_rows-all : (rows rs : List Row) → AllByRecursion (IsInTable table) rows → AllByRecursion (IsInTable table) rs
      → AllByRecursion (IsInTable table) (with_rows rows rs)
  with_rows-all rows [] all others = all
  with_rows-all rows (r ∷ rs) all others = with_rows-all (with_row rows r) rs (with_row-all rows r all others.0) others.1

pub has_row-is : (registered : Text → Registered) (rows : List Row) (r : Row) → has_row rows r ≡ true
    → IsInTable (table_of registered rows) r
has_row-is registered rows (entering n h) is = is
has_row-is registered rows (leaving n h g) is = is

-- ---- names

pub named-may : (o : Option Text) (n : Text) → IsNamed o n → may_name o n ≡ true
named-may None n is = refl
named-may (Some m) n is = (bytes_eq-Decides n m).1 is

pub may-named : (o : Option Text) (n : Text) → may_name o n ≡ true → IsNamed o n
may-named None n is = tt
may-named (Some m) n is = text-is n m is
