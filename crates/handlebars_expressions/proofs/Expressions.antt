-- An expression is at the start exactly if the steps come to an end, and there is one at most. Also what loops over the steps
-- preserve.
use Rattle.std.proofs.Common.{◌≡◌, ℕ, ◌+◌, ◌≤◌, List, [], ◌++◌, length, Some, refl, sym, ap, subst, ◌∙◌, arith, max}
use Rattle.std.proofs.lemmas.Option.{same_Some}
use Rattle.handlebars_expressions.specs.Runs.{goes, ends, stuck}
use Rattle.handlebars_expressions.specs.Parameter.{Term, Terms, Items, terms_of, items_depth}
use Rattle.handlebars_expressions.specs.Expression.{NameMode, NameShape, term_of_name, name_depth, Enclosure, Expression, IsExpression, NoExpression}
use Rattle.handlebars_expressions.specs.ExpressionReading.{Event, at_name, ExpressionState, expression_state, expression_step, height, first_expressions}
use Rattle.handlebars_expressions.specs.ExpressionLaws.{HasExpression, OneExpression}
use Rattle.handlebars_expressions.proofs.Stepping.{StepsTo, last, none, Still, still-goes}
use Rattle.handlebars_expressions.proofs.Endings.{one_end, not_both}
use Rattle.handlebars_expressions.proofs.ExpressionsRead.{name_events, item_events, runs_read}
use Rattle.handlebars_expressions.proofs.ExpressionsFound.{expression_runs}
use Rattle.handlebars_expressions.proofs.ExpressionEvents.{most_open-expression, whole_expressions, build-expression, most_open, build_all, expression_from}
use Rattle.handlebars_expressions.proofs.ExpressionBounds.{expression_bounds, expression_shortens}

-- ---- an expression is what the steps find

abbrev pub expression_events : NameShape → Items → List Event
expression_events name items = name_events 0 name ++ (item_events 0 items ++ [])

-- what is built, with how deep it is
from_built : (xs : List Event) (name : Term) (terms : Terms) (depth : ℕ) → build_all first_expressions xs ≡ Some (whole_expressions name terms) → most_open 0 xs ≡ depth → expression_from xs ≡ Some (record { name = name; terms = terms; depth = depth })
from_built xs name terms depth built deep = rw (built, deep) refl

pub record FindsExpression (mode : NameMode) (around : Enclosure) (t : List ℕ) (expression : Expression) (left : List ℕ) : Type 0 where
  pub events : List Event
  pub runs : StepsTo (expression_step around) (expression_state (at_name mode) 0) t events left
  pub deep : most_open 0 events ≡ expression.depth
  pub built : build_all first_expressions events ≡ Some (whole_expressions expression.name expression.terms)
  pub from : expression_from events ≡ Some expression

pub expression_found : (mode : NameMode) (around : Enclosure) (t : List ℕ) (expression : Expression) (left : List ℕ) → IsExpression mode around t expression left → FindsExpression mode around t expression left
expression_found mode around t expression left h =
    let xs : List Event = expression_events h.name h.items in
    let deep = most_open-expression h.name h.items in
    let built = build-expression mode h.name h.items (_) left h.is_name h.are_items in
    record {
      events = xs;
      runs = subst (λ (z : List ℕ). StepsTo (expression_step around) (expression_state (at_name mode) 0) z xs left) (sym h.whole) (expression_runs around mode h.name h.items left h.is_name h.are_items h.closes);
      deep = deep ∙ ap (λ (z : Expression). z.depth) (sym h.gives);
      built = built ∙ ap (λ (z : Expression). Some (whole_expressions z.name z.terms)) (sym h.gives);
      from = from_built xs (term_of_name h.name) (terms_of h.items) (max (name_depth h.name) (items_depth h.items)) built deep ∙ ap (λ (z : Expression). Some z) (sym h.gives);
    }

pub record MakesExpression (mode : NameMode) (around : Enclosure) (t : List ℕ) (xs : List Event) (left : List ℕ) : Type 0 where
  pub expression : Expression
  pub is : IsExpression mode around t expression left
  pub deep : expression.depth ≡ most_open 0 xs
  pub built : build_all first_expressions xs ≡ Some (whole_expressions expression.name expression.terms)
  pub from : expression_from xs ≡ Some expression

pub expression_made : (mode : NameMode) (around : Enclosure) (t : List ℕ) (xs : List Event) (left : List ℕ) → StepsTo (expression_step around) (expression_state (at_name mode) 0) t xs left → MakesExpression mode around t xs left
expression_made mode around t xs left runs =
    let h = runs_read around (expression_state (at_name mode) 0) t xs left runs in
    let c = h.shuts in
    let all : xs ≡ expression_events h.name h.items = h.found ∙ ap (λ (z : List Event). name_events 0 h.name ++ (item_events 0 h.items ++ z)) c.2 in
    let deep : most_open 0 xs ≡ max (name_depth h.name) (items_depth h.items) = ap (most_open 0) all ∙ most_open-expression h.name h.items in
    let built : build_all first_expressions xs ≡ Some (whole_expressions (term_of_name h.name) (terms_of h.items)) = ap (build_all first_expressions) all ∙ build-expression mode h.name h.items (_) h.rest h.is_name h.are_items in
    subst (λ (z : List ℕ). MakesExpression mode around t xs z) c.1 (record {
      expression = record { name = term_of_name h.name; terms = terms_of h.items; depth = max (name_depth h.name) (items_depth h.items) };
      is = record {
        name = h.name;
        items = h.items;
        whole = h.whole;
        is_name = h.is_name;
        are_items = h.are_items;
        closes = c.0;
        gives = refl;
      };
      deep = sym deep;
      built = built;
      from = from_built xs (term_of_name h.name) (terms_of h.items) (max (name_depth h.name) (items_depth h.items)) built deep;
    })

pub one_expression : OneExpression
one_expression mode around t a b left left' h g =
    let x = expression_found mode around t a left h in
    let y = expression_found mode around t b left' g in
    let one = one_end (expression_step around) (expression_shortens around) (expression_state (at_name mode) 0) t x.events y.events left left' x.runs y.runs in
    (same_Some a b (sym x.from ∙ ap expression_from one.events ∙ y.from), one.lefts)

-- ---- the loop that measures

-- what it preserves: the steps so far, and the greatest height of them
pub record Measures (mode : NameMode) (around : Enclosure) (t : List ℕ) (s : ExpressionState) (rest : List ℕ) (depth : ℕ) : Type 0 where
  pub still : Still (expression_step around) (expression_state (at_name mode) 0) t (most_open 0) s rest (most_open depth)
  pub level_within : s.level + length rest ≤ length t
  pub depth_within : depth + length rest ≤ length t

pub measure-goes : (mode : NameMode) (around : Enclosure) (t : List ℕ) (s : ExpressionState) (rest : List ℕ) (depth : ℕ) (x : Event) (s' : ExpressionState) (rest' : List ℕ) (depth' : ℕ) → goes x s' rest' ≡ expression_step around s rest → depth' ≡ max depth (height x)
    → Measures mode around t s rest depth → Measures mode around t s' rest' depth'
measure-goes mode around t s rest depth x s' rest' depth' is more h =
    let bounds = expression_bounds around s rest x s' rest' is in
    record {
      still = still-goes (expression_step around) (expression_state (at_name mode) 0) t (most_open 0) s rest (most_open depth) x s' rest' (most_open depth') (sym is) (λ xs. ap (λ (z : ℕ). most_open z xs) (sym more)) h.still;
      level_within = omega (arith, bounds.level_within, h.level_within);
      depth_within = omega (arith, more, bounds.shorter, bounds.height_within, h.level_within, h.depth_within);
    }

pub measure-ends : (mode : NameMode) (around : Enclosure) (t : List ℕ) (s : ExpressionState) (rest : List ℕ) (depth : ℕ) → ends ≡ expression_step around s rest → Measures mode around t s rest depth → HasExpression mode around t depth rest
measure-ends mode around t s rest depth is h =
    let back = h.still.ran [] rest (last (sym is)) in
    let made = expression_made mode around t back.0 rest back.1 in
    record { expression = made.expression; is = made.is; deep = made.deep ∙ back.2 }

pub measure-stuck : (mode : NameMode) (around : Enclosure) (t : List ℕ) (s : ExpressionState) (rest : List ℕ) (depth : ℕ) → stuck ≡ expression_step around s rest → Measures mode around t s rest depth → NoExpression mode around t
measure-stuck mode around t s rest depth is h expression left l =
    let f = expression_found mode around t expression left l in
    not_both (expression_step around) (expression_shortens around) (expression_state (at_name mode) 0) t f.events left f.runs (h.still.failed (none (sym is)))
