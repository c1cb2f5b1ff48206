-- What a round collects, part after part.
use Rattle.std.proofs.Common.{◌≡◌, Bool, true, false, if◌then◌else◌, List, [], ◌∷◌, ◌++◌, append-nil, sym, ap, ◌∙◌}
use Rattle.std.proofs.lemmas.List.{append_assoc}
use Rattle.handlebars_html.specs.Rows.{Row, has_row}
use Rattle.handlebars_html.specs.Faults.{Fault}
use Rattle.handlebars_html.specs.Check.{Findings, both_findings}
use Rattle.handlebars_html.specs.FoundView.{found_of, with_missing, collected, Collects}
use Rattle.handlebars_html.specs.declared.found.Found.{Found}
use Rattle.handlebars_html.proofs.Adding.{with_missing-append}

module _ (table : List Row) where
  -- What is missing comes after what was there.
  with_missing-after : (rows rs : List Row) → with_missing table rows rs ≡ rows ++ with_missing table [] rs
  with_missing-after rows [] = sym (append-nil rows)
  with_missing-after rows (r ∷ rs) = by (has_row table r) (λ xs. with_missing-after xs rs)
    where
      by : (b : Bool) → ((xs : List Row) → with_missing table xs rs ≡ xs ++ with_missing table [] rs)
          → with_missing table (if b then rows else rows ++ r ∷ []) rs ≡ rows ++ with_missing table (if b then [] else r ∷ []) rs
      by true after = after rows
      by false after =
          after (rows ++ r ∷ []) ∙ append_assoc rows (r ∷ []) (with_missing table [] rs)
          ∙ ap (λ (xs : List Row). rows ++ xs) (sym (after (r ∷ [])))

  missing-append : (xs ys : List Row)
      → with_missing table [] (xs ++ ys) ≡ with_missing table [] xs ++ with_missing table [] ys
  missing-append xs ys = with_missing-append table [] xs ys ∙ with_missing-after (with_missing table [] xs) ys

  collected-both : (z x y : Findings) → collected table z (both_findings x y) ≡ collected table (collected table z x) y
  collected-both z x y =
      ap (λ (rows : List Row). record { rows = rows; faults = z.faults ++ (x.faults ++ y.faults) })
      (ap (λ (rows : List Row). z.rows ++ rows) (missing-append x.rows y.rows)
      ∙ sym (append_assoc z.rows (with_missing table [] x.rows) (with_missing table [] y.rows)))
      ∙ ap (λ (faults : List Fault). record {
        rows = (z.rows ++ with_missing table [] x.rows) ++ with_missing table [] y.rows;
        faults = faults;
      }) (sym (append_assoc z.faults x.faults y.faults))

  pub collects-both : (a b c : Found) (x y : Findings) → Collects table a b x → Collects table b c y
      → Collects table a c (both_findings x y)
  collects-both a b c x y first later =
      later ∙ ap (λ (z : Findings). collected table z y) first ∙ sym (collected-both (found_of a) x y)

  -- What is collected so far, with what the rest gives, is what there was first, with all.
  abbrev pub CollectsFrom : Found → Found → Findings → Findings → Type 0
  CollectsFrom first now rest all = collected table (found_of now) rest ≡ collected table (found_of first) all

  pub collects-go : (first now next : Found) (x rest all : Findings) → CollectsFrom first now (both_findings x rest) all
      → Collects table now next x → CollectsFrom first next rest all
  collects-go first now next x rest all l collects =
      ap (λ (z : Findings). collected table z rest) collects ∙ sym (collected-both (found_of now) x rest) ∙ l
