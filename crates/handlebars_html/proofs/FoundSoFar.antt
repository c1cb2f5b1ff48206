-- What loops find, one part after another.
use Rattle.std.proofs.Common.{◌≡◌, ℕ, suc, ◌+◌, ◌<◌, ◌≤◌, List, [], ◌∷◌, ◌++◌, map, length, get_or, drop, sym, ap, subst, ◌∙◌, add-one}
use Rattle.std.specs.List.{flat_map}
use Rattle.std.proofs.Math.ListN.{drop_of_length-le}
use Rattle.std.proofs.Math.Seq.{drop-cons}
use Rattle.std.proofs.lemmas.List.{map-append}
use Rattle.handlebars_html.specs.Html as html
use Rattle.handlebars_html.specs.Rows.{Row, with_states}
use Rattle.handlebars_html.specs.Check.{Findings, no_findings, found_faults, both_findings, Ends, ends_in, found_before, either_ends}
use Rattle.handlebars_html.specs.Faults.{Why, Fault}
use Rattle.handlebars_html.specs.HtmlView.{html_of}
use Rattle.handlebars_html.specs.FoundView.{found_of, with_findings, AddsFindings, EndsIn, findings_in, AddsFaults}
use Rattle.handlebars_html.specs.declared.found.Found.{Found}
use Rattle.handlebars_html.specs.declared.found.Location.{Location}
use Rattle.handlebars_html.specs.declared.html.Html.{Html}
use Rattle.handlebars_html.proofs.Adding.{with_findings-both}

pub read : {A : Type 0} (xs : List A) (i : ℕ) (x : A) → i < length xs → x ≡ get_or xs i x → drop i xs ≡ x ∷ drop (i + 1) xs
read xs i x h is = drop-cons xs i x h ∙ rw (add-one) (ap (λ z. z ∷ drop (suc i) xs) (sym is))

module _ (table : List Row) where
  -- What was found so far, with what the rest gives, is what there was first, with all.
  abbrev pub Accumulates : Found → Found → Findings → Findings → Type 0
  Accumulates first now rest all = with_findings table (found_of now) rest ≡ with_findings table (found_of first) all

  pub accumulates-go : (first now next : Found) (x rest all : Findings) → Accumulates first now (both_findings x rest) all
      → AddsFindings table now next x → Accumulates first next rest all
  accumulates-go first now next x rest all l adds =
      ap (λ (z : Findings). with_findings table z rest) adds ∙ sym (with_findings-both table (found_of now) x rest) ∙ l

  -- The part of one element is found after those before it, where a list's is its first element's and the others'.
  pub accumulates-each : {A : Type 0} (part : A → Findings) (parts : List A → Findings)
      → ((x : A) (xs : List A) → parts (x ∷ xs) ≡ both_findings (part x) (parts xs)) → (xs : List A) (i : ℕ) (x : A)
      → (first now next : Found) → i < length xs → x ≡ get_or xs i x
      → Accumulates first now (parts (drop i xs)) (parts xs) → AddsFindings table now next (part x)
      → Accumulates first next (parts (drop (i + 1) xs)) (parts xs)
  accumulates-each part parts each xs i x first now next within is l adds =
      accumulates-go first now next (part x) (parts (drop (i + 1) xs)) (parts xs)
      (sym (ap (λ (z : Findings). with_findings table (found_of now) z)
      (ap parts (read xs i x within is) ∙ each x (drop (i + 1) xs))) ∙ l) adds

  -- After the last element all is found.
  pub accumulates-end : {A : Type 0} (parts : List A → Findings) → parts [] ≡ no_findings → (xs : List A) (i : ℕ)
      → (first now : Found) → length xs ≤ i → Accumulates first now (parts (drop i xs)) (parts xs)
      → AddsFindings table first now (parts xs)
  accumulates-end parts none xs i first now past l =
      sym (ap (λ (z : Findings). with_findings table (found_of now) z) (ap parts (drop_of_length-le xs past) ∙ none)) ∙ l

  -- ---- the same, said otherwise

  pub adds-same : (a b : Found) (x y : Findings) → x ≡ y → AddsFindings table a b x → AddsFindings table a b y
  adds-same a b x y is adds = subst (λ (z : Findings). AddsFindings table a b z) is adds

  pub ends-same : (a b : Found) (hs : List Html) (x y : Ends) → x ≡ y → EndsIn table a b hs x → EndsIn table a b hs y
  ends-same a b hs x y is ends = subst (λ (z : Ends). EndsIn table a b hs z) is ends

  -- from what has found the same
  pub ends-from : (a b c : Found) (hs : List Html) (x : Ends) → found_of b ≡ found_of a → EndsIn table b c hs x
      → EndsIn table a c hs x
  ends-from a b c hs x same ends =
      (ends.0, ends.1 ∙ ap (λ (z : Findings). with_findings table z x.findings) same)

  -- ---- two parts, one after the other

  pub adds-both : (a b c : Found) (x y : Findings) → AddsFindings table a b x → AddsFindings table b c y
      → AddsFindings table a c (both_findings x y)
  adds-both a b c x y first later =
      later ∙ ap (λ (z : Findings). with_findings table z y) first ∙ sym (with_findings-both table (found_of a) x y)

  pub ends-then : (a b c : Found) (hs : List Html) (x : Findings) (y : Ends) → AddsFindings table a b x
      → EndsIn table b c hs y → EndsIn table a c hs (found_before x y)
  ends-then a b c hs x y first ends = (ends.0, adds-both a b c x y.findings first ends.1)

  pub ends-either : (a b c : Found) (hs gs : List Html) (x y : Ends) → EndsIn table a b hs x
      → EndsIn table b c gs (either_ends (ends_in (map html_of hs)) y) → EndsIn table a c gs (either_ends x y)
  ends-either a b c hs gs x y first later = (
    later.0 ∙ ap (λ (zs : List html.Html). with_states zs y.states) first.0,
    adds-both a b c x.findings y.findings first.1 later.1,
  )

pub findings_in-append : (s : Location) (ws vs : List Why)
    → findings_in s (ws ++ vs) ≡ both_findings (findings_in s ws) (findings_in s vs)
findings_in-append s ws vs = ap (λ (xs : List Fault). found_faults xs) (map-append _ ws vs)

-- ---- the reasons in a list of states

module _ (s : Location) (f : html.Html → List Why) (hs : List Html) where
  -- the reasons in the states from an index on
  abbrev pub ReasonsFrom : ℕ → Found → Found → Type 0
  ReasonsFrom i first now =
      Accumulates [] first now (findings_in s (flat_map f (map html_of (drop i hs)))) (findings_in s (flat_map f (map html_of hs)))

  pub reasons-go : (i : ℕ) (h : Html) (first now next : Found) → i < length hs → h ≡ get_or hs i h → ReasonsFrom i first now
      → AddsFaults now next s (f (html_of h)) → ReasonsFrom (i + 1) first next
  reasons-go i h first now next within is l adds =
      accumulates-go [] first now next (findings_in s (f (html_of h)))
      (findings_in s (flat_map f (map html_of (drop (i + 1) hs)))) (findings_in s (flat_map f (map html_of hs)))
      (sym (ap (λ (z : Findings). with_findings [] (found_of now) z)
      (ap (λ (gs : List Html). findings_in s (flat_map f (map html_of gs))) (read hs i h within is)
      ∙ findings_in-append s (f (html_of h)) (flat_map f (map html_of (drop (i + 1) hs))))) ∙ l) adds
