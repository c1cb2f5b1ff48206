-- What blanks do to a state.
use Rattle.std.proofs.Common.{◌≡◌, ℕ, ◌==◌, Bool, true, false, ◌||◌, [], ◌∷◌, ◌++◌, refl, ap, ◌∙◌, ◌⊎◌, inl, inr}
use Rattle.std.specs.List.{list_all}
use Rattle.std.proofs.lemmas.Bool.{eqb-true}
use Rattle.handlebars_base.specs.Bytes.{Text}
use Rattle.handlebars_html.specs.Addresses.{harmless, forbidden, followed, loaded, loaded_slash, loaded_authority, loaded_host}
use Rattle.handlebars_html.specs.Tokenizer.{Tokenizer, quoted, in_url, text_end_name, script_end_name, next}
use Rattle.handlebars_html.specs.Html.{Html, step, after, is_unmarked, is_blank}
use Rattle.handlebars_html.proofs.Data.{both, after-append}

-- After a newline a blank leaves each state as it is.
newline-blank : (t : Tokenizer) → (next (next t 10) 32 ≡ next t 10) × (next (next t 10) 9 ≡ next t 10)
unfolding next
newline-blank (quoted true tag harmless) = (refl, refl)
newline-blank (quoted true tag forbidden) = (refl, refl)
newline-blank (quoted true tag (followed [])) = (refl, refl)
newline-blank (quoted true tag (followed (c ∷ t))) = (refl, refl)
newline-blank (quoted true tag (loaded [])) = (refl, refl)
newline-blank (quoted true tag (loaded (c ∷ t))) = (refl, refl)
newline-blank (quoted true tag loaded_slash) = (refl, refl)
newline-blank (quoted true tag loaded_authority) = (refl, refl)
newline-blank (quoted true tag loaded_host) = (refl, refl)
newline-blank (quoted false tag harmless) = (refl, refl)
newline-blank (quoted false tag forbidden) = (refl, refl)
newline-blank (quoted false tag (followed [])) = (refl, refl)
newline-blank (quoted false tag (followed (c ∷ t))) = (refl, refl)
newline-blank (quoted false tag (loaded [])) = (refl, refl)
newline-blank (quoted false tag (loaded (c ∷ t))) = (refl, refl)
newline-blank (quoted false tag loaded_slash) = (refl, refl)
newline-blank (quoted false tag loaded_authority) = (refl, refl)
newline-blank (quoted false tag loaded_host) = (refl, refl)
newline-blank (in_url true tag) = (refl, refl)
newline-blank (in_url false tag) = (refl, refl)
newline-blank (text_end_name []) = (refl, refl)
newline-blank (text_end_name (c ∷ cs)) = (refl, refl)
newline-blank (script_end_name []) = (refl, refl)
newline-blank (script_end_name (c ∷ cs)) = (refl, refl)
newline-blank t = (refl, refl)

-- A blank after a space does nothing, and a tab does what a space does.
space-blank : (t : Tokenizer)
    → (next (next t 32) 32 ≡ next t 32) × (next (next t 32) 9 ≡ next t 32) × (next t 9 ≡ next t 32)
unfolding next
space-blank (quoted true tag harmless) = (refl, refl, refl)
space-blank (quoted true tag forbidden) = (refl, refl, refl)
space-blank (quoted true tag (followed [])) = (refl, refl, refl)
space-blank (quoted true tag (followed (c ∷ t))) = (refl, refl, refl)
space-blank (quoted true tag (loaded [])) = (refl, refl, refl)
space-blank (quoted true tag (loaded (c ∷ t))) = (refl, refl, refl)
space-blank (quoted true tag loaded_slash) = (refl, refl, refl)
space-blank (quoted true tag loaded_authority) = (refl, refl, refl)
space-blank (quoted true tag loaded_host) = (refl, refl, refl)
space-blank (quoted false tag harmless) = (refl, refl, refl)
space-blank (quoted false tag forbidden) = (refl, refl, refl)
space-blank (quoted false tag (followed [])) = (refl, refl, refl)
space-blank (quoted false tag (followed (c ∷ t))) = (refl, refl, refl)
space-blank (quoted false tag (loaded [])) = (refl, refl, refl)
space-blank (quoted false tag (loaded (c ∷ t))) = (refl, refl, refl)
space-blank (quoted false tag loaded_slash) = (refl, refl, refl)
space-blank (quoted false tag loaded_authority) = (refl, refl, refl)
space-blank (quoted false tag loaded_host) = (refl, refl, refl)
space-blank (in_url true tag) = (refl, refl, refl)
space-blank (in_url false tag) = (refl, refl, refl)
space-blank (text_end_name []) = (refl, refl, refl)
space-blank (text_end_name (c ∷ cs)) = (refl, refl, refl)
space-blank (script_end_name []) = (refl, refl, refl)
space-blank (script_end_name (c ∷ cs)) = (refl, refl, refl)
space-blank t = (refl, refl, refl)

-- ---- texts

blank_is : (b : ℕ) → is_blank b ≡ true → (b ≡ 32) ⊎ (b ≡ 9)
unfolding is_blank
blank_is b h = by (b == 32) (b == 9) refl refl h
  where
    by : (x y : Bool) → (b == 32) ≡ x → (b == 9) ≡ y → (x || y) ≡ true → (b ≡ 32) ⊎ (b ≡ 9)
    by true y i j e = inl (eqb-true b 32 i)
    by false true i j e = inr (eqb-true b 9 j)
    by false false i j e = cc

pub after-blanks : (h : Html) → step h 32 ≡ h → step h 9 ≡ h → (t : Text) → list_all is_blank t ≡ true → after h t ≡ h
after-blanks h x y [] is = refl
after-blanks h x y (b ∷ t) is =
    let each = both (is_blank b) (list_all is_blank t) is in
    let same : step h b ≡ h = elim (blank_is b each.0) [
      | inl e ↦ ap (step h) e ∙ x
      | inr e ↦ ap (step h) e ∙ y
    ] in
    ap (λ (g : Html). after g t) same ∙ after-blanks h x y t each.1

with_tokenizer : Html → Tokenizer → Html
with_tokenizer h t = record h { tokenizer = t }

-- After a newline blanks change nothing.
pub after_newline-blanks : (h : Html) (t : Text) → list_all is_blank t ≡ true → after (step h 10) t ≡ step h 10
unfolding step with_tokenizer
after_newline-blanks h t is =
    after-blanks (step h 10) (ap (with_tokenizer h) (newline-blank h.tokenizer).0)
    (ap (with_tokenizer h) (newline-blank h.tokenizer).1) t is

-- Blanks before a text that doesn't mind a space before it change nothing.
pub after_blanks-text : (h : Html) (w t : Text) → list_all is_blank w ≡ true → after (step h 32) t ≡ after h t
    → after h (w ++ t) ≡ after h t
unfolding step with_tokenizer
after_blanks-text h [] t is same = refl
after_blanks-text h (b ∷ w) t is same =
    let each = both (is_blank b) (list_all is_blank w) is in
    let blanks = space-blank h.tokenizer in
    let first : step h b ≡ step h 32 = elim (blank_is b each.0) [
      | inl e ↦ ap (step h) e
      | inr e ↦ ap (step h) e ∙ ap (with_tokenizer h) blanks.2
    ] in
    ap (λ (g : Html). after g (w ++ t)) first ∙ after-append (step h 32) w t
    ∙ ap (λ (g : Html). after g t)
    (after-blanks (step h 32) (ap (with_tokenizer h) blanks.0) (ap (with_tokenizer h) blanks.1) w each.1) ∙ same

blank-unmarked : (b : ℕ) → is_blank b ≡ true → is_unmarked b ≡ true
unfolding is_unmarked
blank-unmarked b is = elim (blank_is b is) [
  | inl e ↦ ap is_unmarked e
  | inr e ↦ ap is_unmarked e
]

pub blanks-unmarked : (t : Text) → list_all is_blank t ≡ true → list_all is_unmarked t ≡ true
blanks-unmarked [] is = refl
blanks-unmarked (b ∷ t) is =
    let each = both (is_blank b) (list_all is_blank t) is in
    rw (blank-unmarked b each.0) (blanks-unmarked t each.1)
