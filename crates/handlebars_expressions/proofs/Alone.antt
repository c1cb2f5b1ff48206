-- A path alone is an expression, and so is one path after a name.
use Rattle.std.proofs.Common.{◌≡◌, ℕ, ◌<◌, Bool, true, false, List, [], ◌∷◌, ◌++◌, length, Some, None, refl, sym, ap, subst, ◌∙◌, append_assoc, arith}
use Rattle.std.specs.Prelude.{◌||◌, ◌==◌, not}
use Rattle.std.specs.List.{prefix_len, list_all}
use Rattle.std.proofs.lemmas.List.{take-append-drop, append-nil}
use Rattle.std.proofs.lemmas.Bool.{or_right}
use Rattle.handlebars_base.specs.Bytes.{dot, slash, at_sign, left_bracket, is_symbol, is_white, after_white}
use Rattle.handlebars_base.specs.Path.{IsIdentifier, IsPath, plain, in_parts, meaning}
use Rattle.handlebars_base.specs.PathReading.{path_token_at}
use Rattle.handlebars_base.proofs.References.{ends_reference}
use Rattle.handlebars_base.specs.Texts.{starts, symbols_of, after_symbols}
use Rattle.handlebars_base.proofs.Prefixes.{after_white-skips, white_some, dark_after}
use Rattle.handlebars_base.proofs.Runs.{prefix_pass, after_symbols-stops}
use Rattle.handlebars_expressions.specs.Alone.{is_path_mark, IsAlone, IsNamed}
use Rattle.handlebars_expressions.specs.LiteralReading.{literal_at}
use Rattle.handlebars_expressions.specs.Parameter.{path_term, name_term, no_terms, term, path_shape, no_items, parameter_item, is_reserved}
use Rattle.handlebars_expressions.specs.Expression.{identifier_name, value_name, plain_name, term_name, Enclosure, is_end, IsExpression}
use Rattle.handlebars_expressions.specs.ExpressionLaws.{HasExpression}
use Rattle.handlebars_expressions.proofs.ExpressionMarks.{path_token_at-some, path_token_at-stops}
use Rattle.handlebars_expressions.proofs.ExpressionsRead.{path_chosen}

no_marks : (s d l a b : Bool) → s ≡ false → (d || (l || (a || b))) ≡ false → not ((s || (d || (l || a))) || b) ≡ true
no_marks false false false false false e f = refl
no_marks false false false false true e f = absurd cc
no_marks false false false true b e f = absurd cc
no_marks false false true a b e f = absurd cc
no_marks false true l a b e f = absurd cc
no_marks true d l a b e f = absurd cc

ends_reference-mark : (t : List ℕ) → starts is_symbol t ≡ false → starts is_path_mark t ≡ false → ends_reference t ≡ true
ends_reference-mark [] e f = refl
ends_reference-mark (x ∷ t) e f = no_marks (is_symbol x) (x == dot) (x == slash) (x == at_sign) (x == left_bracket) e f

pub name_path : (s : List ℕ) → IsIdentifier s → IsPath s (meaning s (in_parts false (plain s) []))
name_path s id = record { shape = in_parts false (plain s) []; fits = (id, tt); spells = sym (append-nil s); gives = refl }

pub symbols_name : (t : List ℕ) → 0 < length (symbols_of t) → IsIdentifier (symbols_of t)
symbols_name t some = ((λ e. absurd (omega (arith, some, ap length e))), prefix_pass is_symbol t)

-- a name after which no path continues
pub name_token : (t : List ℕ) → 0 < length (symbols_of t) → starts is_path_mark (after_symbols t) ≡ false → path_token_at t ≡ Some (symbols_of t, after_symbols t)
name_token t some stop =
    let s = symbols_of t in
    let r = after_symbols t in
    let is = name_path s (symbols_name t some) in
    subst (λ (z : List ℕ). path_token_at z ≡ Some (s, r)) (take-append-drop (prefix_len is_symbol t) t)
    (path_token_at-stops s r (meaning s (in_parts false (plain s) [])) is (ends_reference-mark r (after_symbols-stops t) stop))

pub is_alone : (around : Enclosure) (t raw rest : List ℕ) → path_token_at t ≡ Some (raw, rest) → is_end around rest ≡ true → IsAlone around t raw rest
is_alone around t raw rest e closes =
    let takes = path_token_at-some t (raw, rest) e in
    record { means = takes.means; whole = takes.whole; is_path = takes.is; closes = closes }

pub alone_expression : (around : Enclosure) (t raw rest : List ℕ) (h : IsAlone around t raw rest)
    → IsExpression value_name around t (record { name = path_term h.means; terms = no_terms; depth = 0 }) rest
alone_expression around t raw rest h = record {
  name = term_name (path_shape raw h.means);
  items = no_items;
  whole = h.whole;
  is_name = (or_right (list_all is_symbol raw) true refl, h.is_path);
  are_items = tt;
  closes = h.closes;
  gives = refl;
}

pub alone_has_expression : (around : Enclosure) (t raw rest : List ℕ) → IsAlone around t raw rest → HasExpression value_name around t 0 rest
alone_has_expression around t raw rest h = record { expression = record { name = path_term h.means; terms = no_terms; depth = 0 }; is = alone_expression around t raw rest h; deep = refl }

-- ---- one path after a name

pub is_named : (around : Enclosure) (t raw rest : List ℕ) → 0 < length (symbols_of t) → starts is_white (after_symbols t) ≡ true
    → path_token_at (after_white (after_symbols t)) ≡ Some (raw, rest) → literal_at (after_white (after_symbols t)) ≡ None → is_reserved raw ≡ false
    → is_end around rest ≡ true → IsNamed around t (symbols_of t) raw rest
is_named around t raw rest some blank e none free closes =
    let after = after_symbols t in
    let takes = path_token_at-some (after_white after) (raw, rest) e in
    let skips = after_white-skips after in
    record {
      white = skips.white;
      means = takes.means;
      whole =
          sym (take-append-drop (prefix_len is_symbol t) t)
          ∙ ap (λ (z : List ℕ). symbols_of t ++ z) (skips.whole ∙ ap (λ (z : List ℕ). skips.white ++ z) takes.whole);
      is_name = symbols_name t some;
      is_white = skips.is;
      some_white = white_some after skips.white (after_white after) blank skips.whole (dark_after after);
      is_free = free;
      is_chosen = path_chosen raw rest takes.means (ap literal_at (sym takes.whole) ∙ none);
      is_path = takes.is;
      closes = closes;
    }

pub named_expression : (around : Enclosure) (t name raw rest : List ℕ) (h : IsNamed around t name raw rest)
    → IsExpression identifier_name around t (record { name = name_term name; terms = term None (path_term h.means) no_terms; depth = 0 }) rest
named_expression around t name raw rest h = record {
  name = plain_name name;
  items = parameter_item h.white (path_shape raw h.means) no_items;
  whole = h.whole ∙ ap (λ (z : List ℕ). name ++ z) (sym (append_assoc h.white (raw ++ []) rest ∙ ap (λ (z : List ℕ). h.white ++ (z ++ rest)) (append-nil raw)));
  is_name = h.is_name;
  are_items = (h.is_white, h.some_white, h.is_free, h.is_chosen, h.is_path, tt);
  closes = h.closes;
  gives = refl;
}

pub named_has_expression : (around : Enclosure) (t name raw rest : List ℕ) → IsNamed around t name raw rest → HasExpression identifier_name around t 0 rest
named_has_expression around t name raw rest h =
    record { expression = record { name = name_term name; terms = term None (path_term h.means) no_terms; depth = 0 }; is = named_expression around t name raw rest h; deep = refl }
