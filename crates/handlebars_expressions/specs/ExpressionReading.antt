-- Reading an expression from left to right, step by step, with a count of the open parentheses, as functions on lists.
use Rattle.std.specs.Prelude.{ℕ, suc, ◌+◌, ◌-◌, Bool, false, ◌==◌, if◌then◌else◌, length, List, [], ◌∷◌, Option, Some, None}
use Rattle.std.specs.Option.{option_map}
use Rattle.std.specs.List.{prefix_len, list_all}
use Rattle.handlebars_base.specs.Bytes.{Text, equals_sign, is_white, after_white, is_symbol}
use Rattle.handlebars_base.specs.PathReading.{path_of, path_token_at}
use Rattle.handlebars_base.specs.Optional.{◌>>=◌, with_or}
use Rattle.handlebars_base.specs.Texts.{starts, after_byte, symbols_of, after_symbols}
use Rattle.handlebars_expressions.specs.Runs.{ReadingStep, goes, ends, stuck}
use Rattle.handlebars_expressions.specs.LiteralReading.{literal_at}
use Rattle.handlebars_expressions.specs.Parameter.{left_parenthesis, right_parenthesis, Term, literal_term, path_term, name_term, call_term, Terms, no_terms, term, is_reserved}
use Rattle.handlebars_expressions.specs.CloseName.{close_name_at, is_close_name}
use Rattle.handlebars_expressions.specs.Expression.{NameMode, identifier_name, value_name, close_name, opening_name, Enclosure, is_end}

-- ---- what steps take

-- What a step takes: an opening parenthesis, a literal by its text, or a path by its text, each after a key or not; a name by
-- its text, outside parentheses; or a closing parenthesis. The numbers say how many parentheses and brackets are then open at
-- once.
pub data Event : Type 0 where
  opened : Option Text → ℕ → Event
  literal_event : Option Text → Text → ℕ → Event
  path_event : Option Text → Text → ℕ → Event
  name_event : Text → Event
  closed : Event

-- at the beginning of an expression of this mode; after a part that items may follow; or after a path that is alone in its
-- expression
pub data Phase : Type 0 where
  at_name : NameMode → Phase
  at_items : Phase
  at_end : Phase

-- the phase, and how many parentheses are open
pub record ExpressionState : Type 0 where
  pub phase : Phase
  pub level : ℕ

abbrev pub expression_state : Phase → ℕ → ExpressionState
expression_state s n = record { phase = s; level = n }

-- ---- marks

-- a key, and what follows its `=` and whitespace
unfoldable pub key_and_equals_at : Text → Option (Text × Text)
key_and_equals_at t =
    if prefix_len is_symbol t == 0
    then None
    else (after_byte equals_sign (after_white (after_symbols t)) >>= λ r. Some (symbols_of t, after_white r))

-- ---- steps

-- items follow only an identifier
abbrev pub after_name : Text → Phase
after_name raw = if list_all is_symbol raw then at_items else at_end

abbrev pub open_step : Option Text → ℕ → Text → ReadingStep Event ExpressionState
open_step key n r = goes (opened key (suc n)) (expression_state (at_name value_name) (suc n)) (after_white r)

-- a name by its text, if it isn't empty, and what follows it
abbrev pub plain_step : ℕ → Text × Text → ReadingStep Event ExpressionState
plain_step n p = if length p.0 == 0 then stuck else goes (name_event p.0) (expression_state at_items n) p.1

-- a path that a closing tag may name, with nothing after it
abbrev pub section_step : ℕ → Text × Text → ReadingStep Event ExpressionState
section_step n p = if is_close_name p.0 then goes (path_event None p.0 n) (expression_state at_end n) p.1 else stuck

-- by the path at the start, and what follows it: an identifier is a name by its text
abbrev pub opening_step : ℕ → Text × Text → ReadingStep Event ExpressionState
opening_step n p =
    if list_all is_symbol p.0 then goes (name_event p.0) (expression_state at_items n) p.1 else section_step n p

unfoldable pub name_step : NameMode → ℕ → Text → ReadingStep Event ExpressionState
name_step identifier_name n t = plain_step n (symbols_of t, after_symbols t)
name_step value_name n t =
    with_or (after_byte left_parenthesis t) (open_step None n)
    (with_or (path_token_at t) (λ p. goes (path_event None p.0 n) (expression_state (after_name p.0) n) p.1) stuck)
name_step close_name n t = with_or (after_byte left_parenthesis t) (open_step None n) (plain_step n (close_name_at t))
name_step opening_name n t = with_or (path_token_at t) (opening_step n) stuck

-- a reserved word that no key precedes
abbrev pub is_excluded : Option Text → Text → Bool
is_excluded None raw = is_reserved raw
is_excluded (Some key) raw = false

unfoldable pub parameter_step : Option Text → ℕ → Text → ReadingStep Event ExpressionState
parameter_step key n t =
    with_or (after_byte left_parenthesis t) (open_step key n)
    (with_or (literal_at t) (λ l. goes (literal_event key l.raw (n + l.depth)) (expression_state at_items n) l.rest)
    (with_or (path_token_at t)
    (λ p. if is_excluded key p.0 then stuck else goes (path_event key p.0 n) (expression_state at_items n) p.1) stuck))

unfoldable pub item_step : ℕ → Text → ReadingStep Event ExpressionState
item_step n t = with_or (key_and_equals_at t) (λ k. parameter_step (Some k.0) n k.1) (parameter_step None n t)

-- an item after whitespace, where items may follow
abbrev pub next_step : Phase → ℕ → Text → ReadingStep Event ExpressionState
next_step (at_name mode) n t = stuck
next_step at_items n t = if starts is_white t then item_step n (after_white t) else stuck
next_step at_end n t = stuck

-- the end if no parenthesis is open, a closing one if one is open, or an item
unfoldable pub after_step : Enclosure → Phase → ℕ → Text → ReadingStep Event ExpressionState
after_step around s n t =
    if n == 0
    then (if is_end around t then ends else next_step s 0 t)
    else
    with_or (after_byte right_parenthesis (after_white t))
    (λ r. goes closed (expression_state at_items (n - 1)) r) (next_step s n t)

abbrev pub step_at : Enclosure → Phase → ℕ → Text → ReadingStep Event ExpressionState
step_at around (at_name mode) n t = name_step mode n t
step_at around at_items n t = after_step around at_items n t
step_at around at_end n t = after_step around at_end n t

unfoldable pub expression_step : Enclosure → ExpressionState → Text → ReadingStep Event ExpressionState
expression_step around s t = step_at around s.phase s.level t

-- ---- what was taken

abbrev pub height : Event → ℕ
height (opened key n) = n
height (literal_event key raw n) = n
height (path_event key raw n) = n
height (name_event raw) = 0
height closed = 0

-- an expression that is not yet closed: the key before it, its name, and the terms so far
pub record OpenExpression : Type 0 where
  pub key : Option Text
  pub name : Option Term
  pub terms : Terms

abbrev pub joined : Terms → Terms → Terms
joined no_terms more = more
joined (term key t rest) more = term key t (joined rest more)

abbrev pub begun_expression : Option Text → OpenExpression
begun_expression key = record { key = key; name = None; terms = no_terms }

-- The first term is the name.
abbrev pub add_term : Option Text → Term → OpenExpression → OpenExpression
add_term key t f =
    with_or f.name
    (λ name. record { key = f.key; name = Some name; terms = joined f.terms (term key t no_terms) })
    (record { key = f.key; name = Some t; terms = f.terms })

-- the innermost expression, and those around it
pub record OpenExpressions : Type 0 where
  pub top : OpenExpression
  pub around : List OpenExpression

abbrev pub first_expressions : OpenExpressions
first_expressions = record { top = begun_expression None; around = [] }

abbrev pub opened_in : Option Text → OpenExpressions → OpenExpressions
opened_in key fs = record { top = begun_expression key; around = fs.top ∷ fs.around }

abbrev pub added_in : Option Text → Term → OpenExpressions → OpenExpressions
added_in key t fs = record { top = add_term key t fs.top; around = fs.around }

-- the innermost expression becomes a term of the one around it
abbrev pub closed_in : OpenExpression → List OpenExpression → Option OpenExpressions
closed_in f [] = None
closed_in f (g ∷ gs) =
    option_map (λ name. record { top = add_term f.key (call_term name f.terms) g; around = gs }) f.name

abbrev pub build : OpenExpressions → Event → Option OpenExpressions
build fs (opened key n) = Some (opened_in key fs)
build fs (literal_event key raw n) = Some (added_in key (literal_term raw) fs)
build fs (path_event key raw n) = option_map (λ means. added_in key (path_term means) fs) (path_of raw)
build fs (name_event raw) = Some (added_in None (name_term raw) fs)
build fs closed = closed_in fs.top fs.around
