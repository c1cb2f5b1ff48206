-- How far a step of an expression goes, and how high.
use Rattle.std.proofs.Common.{◌≡◌, ◌≢◌, ℕ, suc, ◌+◌, ◌<◌, ◌≤◌, List, [], ◌∷◌, ◌++◌, length, Option, Some, None, refl, sym, ap, ◌∙◌, append_assoc, arith, length-append}
use Rattle.handlebars_base.proofs.Prefixes.{starts-length}
use Rattle.handlebars_expressions.specs.Runs.{goes}
use Rattle.handlebars_expressions.specs.Literal.{Bracket, spelled_lead, Literal, quoted, single_quoted, number, word, empty, filled, Entries, closing, another, spelled_literal, spelled_entries, literal_depth, entries_depth}
use Rattle.handlebars_expressions.specs.Expression.{NameMode, identifier_name, value_name, close_name, opening_name, IsPlainName, Enclosure}
use Rattle.handlebars_expressions.specs.ExpressionReading.{Event, ExpressionState, expression_step, height}
use Rattle.handlebars_expressions.proofs.Stepping.{Shortens}
use Rattle.handlebars_expressions.proofs.ExpressionPrefixes.{begins_single, path_begins, literal_begins}
use Rattle.handlebars_expressions.proofs.ExpressionSteps.{ParameterStepped, to_nested, to_literal, to_path, ExpressionStepped, to_inner, to_plain, to_name, to_section, to_parameter, to_hash_pair, to_closed, expression_stepped}

-- ---- a literal is as long as it is deep

mutual
  literal_depth-le : (l : Literal) → literal_depth l ≤ length (spelled_literal l)
  literal_depth-le (quoted t) = omega arith
  literal_depth-le (single_quoted t) = omega arith
  literal_depth-le (number t) = omega arith
  literal_depth-le (word t) = omega arith
  literal_depth-le (empty k w) = omega arith
  literal_depth-le (filled k lead l w more) =
      let outer = length-append (spelled_lead lead) (spelled_literal l ++ (w ++ spelled_entries k more)) in
      let inner = length-append (spelled_literal l) (w ++ spelled_entries k more) in
      let last = length-append w (spelled_entries k more) in
      omega (arith, outer, inner, last, literal_depth-le l, entries_depth-le k more)

  entries_depth-le : (k : Bracket) (es : Entries) → entries_depth es ≤ length (spelled_entries k es)
  entries_depth-le k closing = omega arith
  entries_depth-le k (another lead l w more) =
      let outer = length-append (spelled_lead lead) (spelled_literal l ++ (w ++ spelled_entries k more)) in
      let inner = length-append (spelled_literal l) (w ++ spelled_entries k more) in
      let last = length-append w (spelled_entries k more) in
      omega (arith, outer, inner, last, literal_depth-le l, entries_depth-le k more)

-- ---- how far a step goes

pub record ExpressionBounds (n : ℕ) (t : List ℕ) (x : Event) (s' : ExpressionState) (t' : List ℕ) : Type 0 where
  pub shorter : length t' < length t
  pub level_within : s'.level + length t' ≤ n + length t
  pub height_within : height x + length t' ≤ n + length t

parameter_bounds : (key : Option (List ℕ)) (n : ℕ) (t : List ℕ) (x : Event) (s' : ExpressionState) (t' : List ℕ) → ParameterStepped key n t x s' t' → ExpressionBounds n t x s' t'
parameter_bounds key n t x s' t' (to_nested w is ev white whole) =
    let long : length t ≡ suc (length w + length t') = ap length whole ∙ omega (arith, length-append w t') in
    rw (is, ev) (record { shorter = omega arith; level_within = omega arith; height_within = omega arith })
parameter_bounds key n t x s' t' (to_literal l is ev at) =
    let long = ap length at.whole ∙ length-append (spelled_literal l) t' in
    let first = starts-length begins_single (spelled_literal l) (literal_begins l at.fits) in
    rw (is, ev) (record { shorter = omega (arith, long, first); level_within = omega (arith, long, first); height_within = omega (arith, long, literal_depth-le l) })
parameter_bounds key n t x s' t' (to_path raw means is ev whole h other fine) =
    let long = ap length whole ∙ length-append raw t' in
    let first = starts-length begins_single raw (path_begins raw means h) in
    rw (is, ev) (record { shorter = omega (arith, long, first); level_within = omega (arith, long, first); height_within = omega (arith, long, first) })

-- as far after more text
after_prefix : (n : ℕ) (w r t : List ℕ) (x : Event) (s' : ExpressionState) (t' : List ℕ) → t ≡ w ++ r → ExpressionBounds n r x s' t' → ExpressionBounds n t x s' t'
after_prefix n w r t x s' t' whole b =
    let long = ap length whole ∙ length-append w r in
    record { shorter = omega (arith, long, b.shorter); level_within = omega (arith, long, b.level_within); height_within = omega (arith, long, b.height_within) }

after_key : (key u v r : List ℕ) → key ++ (u ++ 61 ∷ (v ++ r)) ≡ (key ++ (u ++ 61 ∷ v)) ++ r
after_key key u v r = simp append_assoc

some_length : (t : List ℕ) → t ≢ [] → 0 < length t
some_length [] some = absurd (some refl)
some_length (b ∷ t) some = omega arith

plain_length : (mode : NameMode) (t rest : List ℕ) → IsPlainName mode t rest → 0 < length t
plain_length identifier_name t rest h = some_length t h.0
plain_length value_name t rest h = absurd h
plain_length close_name t rest h = some_length t h.0
plain_length opening_name t rest h = some_length t h.0

step_bounds : (s : ExpressionState) (t : List ℕ) (x : Event) (s' : ExpressionState) (t' : List ℕ) → ExpressionStepped s t x s' t' → ExpressionBounds s.level t x s' t'
step_bounds s t x s' t' (to_inner mode n w takes is is' ev white whole) =
    let long : length t ≡ suc (length w + length t') = ap length whole ∙ omega (arith, length-append w t') in
    rw (is, is', ev) (record { shorter = omega arith; level_within = omega arith; height_within = omega arith })
step_bounds s t x s' t' (to_plain mode n raw is is' ev whole h) =
    let long = ap length whole ∙ length-append raw t' in
    let first = plain_length mode raw t' h in
    rw (is, is', ev) (record { shorter = omega (arith, long, first); level_within = omega (arith, long, first); height_within = omega (arith, long, first) })
step_bounds s t x s' t' (to_name n raw means is is' ev whole h) =
    let long = ap length whole ∙ length-append raw t' in
    let first = starts-length begins_single raw (path_begins raw means h) in
    rw (is, is', ev) (record { shorter = omega (arith, long, first); level_within = omega (arith, long, first); height_within = omega (arith, long, first) })
step_bounds s t x s' t' (to_section n raw means is is' ev whole h opens) =
    let long = ap length whole ∙ length-append raw t' in
    let first = starts-length begins_single raw (path_begins raw means h) in
    rw (is, is', ev) (record { shorter = omega (arith, long, first); level_within = omega (arith, long, first); height_within = omega (arith, long, first) })
step_bounds s t x s' t' (to_parameter n w r is white some whole p) =
    rw is (after_prefix n w r t x s' t' whole (parameter_bounds None n r x s' t' p))
step_bounds s t x s' t' (to_hash_pair n w key u v r is white some id white-u white-v whole p) =
    let from : List ℕ = key ++ (u ++ 61 ∷ (v ++ r)) in
    let inner : ExpressionBounds n from x s' t' = after_prefix n (key ++ (u ++ 61 ∷ v)) r from x s' t' (after_key key u v r) (parameter_bounds (Some key) n r x s' t' p) in
    rw is (after_prefix n w from t x s' t' whole inner)
step_bounds s t x s' t' (to_closed n st w is other is' ev white whole) =
    let long : length t ≡ length w + suc (length t') = ap length whole ∙ length-append w (41 ∷ t') in
    rw (is, is', ev) (record { shorter = omega arith; level_within = omega arith; height_within = omega arith })

pub expression_bounds : (around : Enclosure) (s : ExpressionState) (t : List ℕ) (x : Event) (s' : ExpressionState) (t' : List ℕ) → goes x s' t' ≡ expression_step around s t → ExpressionBounds s.level t x s' t'
expression_bounds around s t x s' t' is = step_bounds s t x s' t' (expression_stepped around s t x s' t' (sym is))

pub expression_shortens : (around : Enclosure) → Shortens (expression_step around)
expression_shortens around s t x s' t' is = (expression_bounds around s t x s' t' (sym is)).shorter
