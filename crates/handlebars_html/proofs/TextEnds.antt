-- A text that is read from each of a list of states.
use Rattle.std.proofs.Common.{◌≡◌, ℕ, ◌+◌, ◌<◌, Bool, true, false, not, if◌then◌else◌, cond, List, [], ◌∷◌, ◌++◌, map, length, get_or, drop, sym, ap, ◌∙◌, subst}
use Rattle.std.specs.List.{filter}
use Rattle.handlebars_base.specs.Bytes.{Text, space}
use Rattle.handlebars_html.specs.Tokenizer.{is_refused}
use Rattle.handlebars_html.specs.Html as html
use Rattle.handlebars_html.specs.Faults.{changed_text, unless}
use Rattle.handlebars_html.specs.Same.{is_same}
use Rattle.handlebars_html.specs.Rows.{with_state, with_states, each_state}
use Rattle.handlebars_html.specs.Check.{is_in_time, why_refused, whys_of_text}
use Rattle.handlebars_html.specs.HtmlView.{html_of, tokenizer_of}
use Rattle.handlebars_html.specs.FoundView.{AddsFaults, findings_in}
use Rattle.handlebars_html.specs.declared.found.Found.{Found}
use Rattle.handlebars_html.specs.declared.found.Location.{Location}
use Rattle.handlebars_html.specs.declared.html.Html.{Html}
use Rattle.handlebars_html.proofs.FoundSoFar.{ReasonsFrom, adds-both, adds-same, findings_in-append, read, reasons-go}

module _ (s : Location) (t : Text) (hs : List Html) where
  -- the ends from an index on, with what is found on the text there
  abbrev pub TextFrom : ℕ → List Html → Found → Found → Type 0
  TextFrom i gs first now =
      (with_states (map html_of gs) (map (λ h. html.after h t) (filter (is_in_time t) (map html_of (drop i hs))))
      ≡ each_state (λ h. html.after h t) (filter (is_in_time t) (map html_of hs)))
      × ReasonsFrom s (whys_of_text t) hs i first now

  one-more : (b : Bool) (gs ks ws : List html.Html) (x : html.Html) → ks ≡ (if b then gs else with_state gs (html.after x t))
      → with_states ks (map (λ h. html.after h t) ws) ≡ with_states gs (map (λ h. html.after h t) (cond (not b) (x ∷ ws) ws))
  one-more true gs ks ws x is = ap (λ (zs : List html.Html). with_states zs (map (λ h. html.after h t) ws)) is
  one-more false gs ks ws x is = ap (λ (zs : List html.Html). with_states zs (map (λ h. html.after h t) ws)) is

  pub text-go : (i : ℕ) (h e : Html) (gs ks : List Html) (first now next : Found) → i < length hs → h ≡ get_or hs i h
      → TextFrom i gs first now → html_of e ≡ html.after (html_of h) t
      → AddsFaults now next s (whys_of_text t (html_of h))
      → map html_of ks ≡ (if is_refused (tokenizer_of e.tokenizer) then map html_of gs else with_state (map html_of gs) (html_of e))
      → TextFrom (i + 1) ks first next
  text-go i h e gs ks first now next within is l end adds added = (
    one-more (is_refused (html.after (html_of h) t).tokenizer) (map html_of gs) (map html_of ks)
        (filter (is_in_time t) (map html_of (drop (i + 1) hs))) (html_of h)
        (added ∙ ap (λ (z : html.Html). if is_refused z.tokenizer then map html_of gs else with_state (map html_of gs) z) end)
        ∙ (sym (ap (λ (zs : List Html). with_states (map html_of gs) (map (λ h. html.after h t) (filter (is_in_time t) (map html_of zs))))
        (read hs i h within is)) ∙ l.0),
    reasons-go s (whys_of_text t) hs i h first now next within is l.1 adds,
  )

-- What is found on a text in a state, and then at its end, is what is wrong with it.
pub text-found : (s : Location) (t : Text) (h e : html.Html) (a b c : Found) → e ≡ html.after h t
    → AddsFaults a b s (unless (is_same (html.after (html.step h space) t) e) (changed_text h))
    → AddsFaults b c s (unless (not (is_refused e.tokenizer)) (why_refused e.tokenizer)) → AddsFaults a c s (whys_of_text t h)
text-found s t h e a b c is blank refused =
    let changed = λ (z : html.Html). unless (is_same (html.after (html.step h space) t) z) (changed_text h) in
    let misled = λ (z : html.Html). unless (not (is_refused z.tokenizer)) (why_refused z.tokenizer) in
    subst (λ (z : html.Html). AddsFaults a c s (changed z ++ misled z)) is
    (adds-same [] a c _ _ (sym (findings_in-append s (changed e) (misled e)))
    (adds-both [] a b c (findings_in s (changed e)) (findings_in s (misled e)) blank refused))
