-- What is included by a name in each of a list of states.
use Rattle.std.proofs.Common.{◌≡◌, ℕ, ◌+◌, ◌<◌, List, [], ◌∷◌, map, length, get_or, drop, sym, ap, ◌∙◌}
use Rattle.std.specs.List.{flat_map}
use Rattle.handlebars_base.specs.Bytes.{Text}
use Rattle.handlebars_html.specs.Html as html
use Rattle.handlebars_html.specs.Rows.{Row, entering, leaving_states, with_states}
use Rattle.std.specs.Prelude.{Bool, false, if◌then◌else◌, Some}
use Rattle.std.specs.Str.{bytes_eq}
use Rattle.handlebars_semantics.specs.Including.{partial_block_name}
use Rattle.handlebars_html.specs.Check.{found_rows, Ends, ends_in, included_ends}
use Rattle.handlebars_html.specs.HtmlView.{html_of}
use Rattle.handlebars_html.specs.FoundView.{found_of, with_findings, AddsFindings}
use Rattle.handlebars_html.specs.declared.found.Found.{Found}
use Rattle.handlebars_html.specs.declared.html.Html.{Html}
use Rattle.handlebars_html.proofs.Adding.{with_states-append}
use Rattle.handlebars_html.proofs.FoundSoFar.{Accumulates, read, accumulates-go}

module _ (n : Text) (rows : List Row) (hs : List Html) where
  -- the ends from an index on, with the rows for them
  abbrev pub NamedFrom : ℕ → List Html → Found → Found → Type 0
  NamedFrom i gs first now =
      (with_states (map html_of gs) (flat_map (leaving_states rows n) (map html_of (drop i hs)))
      ≡ with_states [] (flat_map (leaving_states rows n) (map html_of hs)))
      × Accumulates rows first now (found_rows (map (λ h. entering n h) (map html_of (drop i hs))))
      (found_rows (map (λ h. entering n h) (map html_of hs)))

  pub named-go : (i : ℕ) (h : Html) (gs ks : List Html) (first now next : Found) → i < length hs → h ≡ get_or hs i h
      → NamedFrom i gs first now → AddsFindings rows now next (found_rows (entering n (html_of h) ∷ []))
      → map html_of ks ≡ with_states (map html_of gs) (leaving_states rows n (html_of h)) → NamedFrom (i + 1) ks first next
  named-go i h gs ks first now next within is l adds added = (
    ap (λ (zs : List html.Html). with_states zs (flat_map (leaving_states rows n) (map html_of (drop (i + 1) hs)))) added
        ∙ sym (with_states-append (map html_of gs) (leaving_states rows n (html_of h))
        (flat_map (leaving_states rows n) (map html_of (drop (i + 1) hs))))
        ∙ sym (ap (λ (zs : List Html). with_states (map html_of gs) (flat_map (leaving_states rows n) (map html_of zs))) (read hs i h within is))
        ∙ l.0,
    accumulates-go rows first now next (found_rows (entering n (html_of h) ∷ []))
        (found_rows (map (λ h. entering n h) (map html_of (drop (i + 1) hs)))) (found_rows (map (λ h. entering n h) (map html_of hs)))
        (sym (ap (λ (zs : List Html). with_findings rows (found_of now) (found_rows (map (λ h. entering n h) (map html_of zs)))) (read hs i h within is)) ∙ l.1)
        adds,
  )

abbrev pub table_ends : List Row → Text → List html.Html → Ends
table_ends rows n hs = record {
  states = with_states [] (flat_map (leaving_states rows n) hs);
  findings = found_rows (map (λ h. entering n h) hs);
}

-- what is included by another name than that of captured text
pub included_ends-other : (rows : List Row) (n : Text) (hs : List html.Html) → bytes_eq partial_block_name n ≡ false
    → included_ends rows (Some n) hs ≡ table_ends rows n hs
included_ends-other rows n hs other = ap (λ (b : Bool). if b then ends_in hs else table_ends rows n hs) other
