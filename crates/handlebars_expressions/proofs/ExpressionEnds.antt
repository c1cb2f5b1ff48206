-- Where an expression ends there is no item: `as` and a bar after it are none.
use Rattle.std.proofs.Common.{◌≡◌, ℕ, Bool, true, false, List, [], ◌∷◌, ◌++◌, None, Some, refl, sym, ap, ◌∙◌, inl, inr}
use Rattle.std.specs.Prelude.{◌==◌}
use Rattle.std.proofs.lemmas.Bool.{cases_Bool}
use Rattle.handlebars_base.specs.Bytes.{after_white, is_symbol}
use Rattle.handlebars_base.specs.Path.{plain, in_parts, IsPath, Reference, meaning}
use Rattle.handlebars_base.specs.PathReading.{path_token_at}
use Rattle.handlebars_base.proofs.References.{ends_reference}
use Rattle.handlebars_base.specs.Texts.{IsWhite, starts, after_symbols}
use Rattle.handlebars_base.proofs.Prefixes.{after_white-append, starts-other, after_byte-not}
use Rattle.handlebars_base.proofs.Bytes.{other_byte}
use Rattle.handlebars_base.proofs.Runs.{run-rest}
use Rattle.handlebars_expressions.specs.Runs.{goes, stuck}
use Rattle.handlebars_expressions.specs.Literal.{Literal, quoted, single_quoted, number, word, empty, filled, array, object, is_number, is_word, IsLiteralAt, continues_literal}
use Rattle.handlebars_expressions.specs.LiteralReading.{run_of}
use Rattle.handlebars_expressions.specs.Binding.{begins_binding}
use Rattle.handlebars_expressions.specs.Expression.{Enclosure, in_tag, in_block, in_parentheses, ends_tag, is_end}
use Rattle.handlebars_expressions.specs.ExpressionReading.{Event, ExpressionState, key_and_equals_at, parameter_step, item_step}
use Rattle.handlebars_expressions.proofs.Prefixes.{run_of-append, white_goes_on}
use Rattle.handlebars_expressions.proofs.Plain.{number_goes_on, word_goes_on}
use Rattle.handlebars_expressions.proofs.Endings.{goes-not_stuck}
use Rattle.handlebars_expressions.proofs.ExpressionMarks.{path_token_at-stops, literal_at-missing, key_and_equals_at-none}
use Rattle.handlebars_expressions.proofs.ExpressionPrefixes.{begins, begins_no_white, white_stops}
use Rattle.handlebars_expressions.proofs.Bindings.{no_symbols-white, binding_begins}

-- ---- `as` and a bar are no item

bar_goes_on : (w r : List ℕ) → IsWhite w → starts continues_literal (w ++ 124 ∷ r) ≡ false
bar_goes_on [] r white = refl
bar_goes_on (b ∷ w) r white = white_goes_on b white.0

bar_stops : (w r : List ℕ) → IsWhite w → ends_reference (w ++ 124 ∷ r) ≡ true
bar_stops [] r white = refl
bar_stops (b ∷ w) r white = rw (white_stops b white.0) refl

as_run : (w r : List ℕ) → IsWhite w → run_of (97 ∷ 115 ∷ (w ++ 124 ∷ r)) ≡ 97 ∷ 115 ∷ []
as_run w r white = run_of-append (97 ∷ 115 ∷ []) (w ++ 124 ∷ r) (refl, (refl, tt)) (bar_goes_on w r white)

-- whether a byte is at the start
abbrev begins_so : List ℕ → Bool
begins_so t = starts (λ b. b == 97) t

as_no_literal : (w r : List ℕ) → IsWhite w → (l : Literal) (after : List ℕ) → IsLiteralAt (97 ∷ 115 ∷ (w ++ 124 ∷ r)) l after → ⊥
as_no_literal w r white (quoted t) after at = let no : true ≡ false = ap begins_so at.whole in absurd cc
as_no_literal w r white (single_quoted t) after at = let no : true ≡ false = ap begins_so at.whole in absurd cc
as_no_literal w r white (number t) after at =
    let same : t ≡ 97 ∷ 115 ∷ [] = sym (run_of-append t after (number_goes_on t at.fits).all at.stops) ∙ ap run_of (sym at.whole) ∙ as_run w r white in
    let no : true ≡ false = sym at.fits ∙ ap is_number same in
    absurd cc
as_no_literal w r white (word t) after at =
    let same : t ≡ 97 ∷ 115 ∷ [] = sym (run_of-append t after (word_goes_on t at.fits).all at.stops) ∙ ap run_of (sym at.whole) ∙ as_run w r white in
    let no : true ≡ false = sym at.fits ∙ ap is_word same in
    absurd cc
as_no_literal w r white (empty array v) after at = let no : true ≡ false = ap begins_so at.whole in absurd cc
as_no_literal w r white (empty object v) after at = let no : true ≡ false = ap begins_so at.whole in absurd cc
as_no_literal w r white (filled array lead l v more) after at = let no : true ≡ false = ap begins_so at.whole in absurd cc
as_no_literal w r white (filled object lead l v more) after at = let no : true ≡ false = ap begins_so at.whole in absurd cc

as_slice : (w r : List ℕ) → IsWhite w → path_token_at (97 ∷ 115 ∷ (w ++ 124 ∷ r)) ≡ Some (97 ∷ 115 ∷ [], w ++ 124 ∷ r)
as_slice w r white =
    let name : List ℕ = 97 ∷ 115 ∷ [] in
    let means : Reference = meaning name (in_parts false (plain name) []) in
    let is : IsPath name means = record {
      shape = in_parts false (plain name) [];
      fits = ((λ e. absurd cc, (refl, (refl, tt))), tt);
      spells = refl;
      gives = refl;
    } in
    path_token_at-stops name (w ++ 124 ∷ r) means is (bar_stops w r white)

as_no_key : (w r : List ℕ) → IsWhite w → key_and_equals_at (97 ∷ 115 ∷ (w ++ 124 ∷ r)) ≡ None
as_no_key w r white =
    let rest = run-rest is_symbol (97 ∷ 115 ∷ []) (w ++ 124 ∷ r) (refl, (refl, tt)) (no_symbols-white w 124 r white refl) in
    let sign : starts (λ b. b == 61) (after_white (after_symbols (97 ∷ 115 ∷ (w ++ 124 ∷ r)))) ≡ false = rw (rest, after_white-append w (124 ∷ r) white refl) refl in
    key_and_equals_at-none (97 ∷ 115 ∷ (w ++ 124 ∷ r)) sign

as_stuck : (n : ℕ) (w r : List ℕ) → IsWhite w → item_step n (97 ∷ 115 ∷ (w ++ 124 ∷ r)) ≡ stuck
unfolding item_step parameter_step
as_stuck n w r white =
    let no_literal = literal_at-missing (97 ∷ 115 ∷ (w ++ 124 ∷ r)) (as_no_literal w r white) in
    let no_inner = after_byte-not 40 (97 ∷ 115 ∷ (w ++ 124 ∷ r)) refl in
    rw (as_no_key w r white, no_inner, no_literal, as_slice w r white) refl

-- ---- where there is an item the expression does not end

tag_no_end : (t : List ℕ) → starts begins t ≡ true → starts ends_tag t ≡ false
tag_no_end t start = starts-other begins ends_tag t (λ b h. rw (other_byte begins 126 refl b h, other_byte begins 125 refl b h) refl) start

item_no_binding : (n : ℕ) (w t : List ℕ) (x : Event) (s' : ExpressionState) (t' : List ℕ) → after_white (w ++ t) ≡ t → item_step n t ≡ goes x s' t' → begins_binding (w ++ t) ≡ false
item_no_binding n w t x s' t' dark e = elim (cases_Bool (begins_binding (w ++ t))) [
  | inl begun ↦
      let b = binding_begins (w ++ t) begun in
      let whole : t ≡ 97 ∷ 115 ∷ (b.1.between ++ 124 ∷ b.0) = sym dark ∙ b.1.after in
      goes-not_stuck (item_step n t) x s' t' e (ap (item_step n) whole ∙ as_stuck n b.1.between b.0 b.1.is_between)
  | inr other ↦ other
]

pub item_no_end : (around : Enclosure) (n : ℕ) (w t : List ℕ) (x : Event) (s' : ExpressionState) (t' : List ℕ) → IsWhite w → starts begins t ≡ true → item_step n t ≡ goes x s' t' → is_end around (w ++ t) ≡ false
item_no_end in_tag n w t x s' t' white start e = rw (after_white-append w t white (begins_no_white t start)) (tag_no_end t start)
item_no_end in_block n w t x s' t' white start e =
    let dark = after_white-append w t white (begins_no_white t start) in
    rw (dark, tag_no_end t start) (item_no_binding n w t x s' t' dark e)
item_no_end in_parentheses n w t x s' t' white start e =
    rw (after_white-append w t white (begins_no_white t start)) (starts-other begins (λ b. b == 41) t (other_byte begins 41 refl) start)
