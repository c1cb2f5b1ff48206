-- Expressions: a name, and parameters and hash arguments after it. The mode of an expression says what its name may be. Any
-- expression in parentheses has the mode of a value.
use Rattle.std.specs.Prelude.{◌≡◌, ◌≢◌, ℕ, Bool, true, false, not, ◌&&◌, ◌||◌, ◌==◌, max, [], ◌++◌}
use Rattle.std.specs.List.{list_all}
use Rattle.handlebars_base.specs.Bytes.{Text, is_symbol, right_brace, after_white}
use Rattle.handlebars_base.specs.Path.{IsIdentifier}
use Rattle.handlebars_base.specs.Texts.{starts}
use Rattle.handlebars_expressions.specs.Binding.{begins_binding}
use Rattle.handlebars_expressions.specs.CloseName.{close_name_at, is_close_name}
use Rattle.handlebars_expressions.specs.Parameter.{right_parenthesis, Term, name_term, Terms, TermShape, literal_shape, path_shape, nested_shape, Items, spelled_shape, spelled_items, is_name, lacks_items, Fits, AreItems, term_of, terms_of, depth_of, items_depth}

abbrev pub tilde : ℕ
tilde = 126

-- where an expression is: in a tag, in the tag of a block, or in parentheses
pub data Enclosure : Type 0 where
  in_tag : Enclosure
  in_block : Enclosure
  in_parentheses : Enclosure

-- a tilde or a brace ends the expression of a tag
abbrev pub ends_tag : ℕ → Bool
ends_tag b = (b == tilde) || (b == right_brace)

-- What ends an expression: in a tag, the byte that ends it, after optional whitespace; in the tag of a block, also the
-- beginning of block parameters, with its own whitespace before it; in parentheses, the closing one, after optional whitespace.
abbrev pub is_end : Enclosure → Text → Bool
is_end in_tag left = starts ends_tag (after_white left)
is_end in_block left = starts ends_tag (after_white left) || begins_binding left
is_end in_parentheses left = starts (λ b. b == right_parenthesis) (after_white left)

abbrev pub Closes : Enclosure → Text → Type 0
Closes around left = is_end around left ≡ true

-- ---- the name

-- What the name of an expression may be: an identifier, as for a raw block; an identifier or, with nothing after it, a path, as
-- for a value; the name in a closing tag; or an identifier or, with nothing after it, a path that a closing tag may name, as
-- for a block. Instead of a value's name or the name in a closing tag, an expression in parentheses is allowed.
pub data NameMode : Type 0 where
  identifier_name : NameMode
  value_name : NameMode
  close_name : NameMode
  opening_name : NameMode

-- a name by its text, or spelled as a parameter
pub data NameShape : Type 0 where
  plain_name : Text → NameShape
  term_name : TermShape → NameShape

abbrev pub spelled_name : NameShape → Text
spelled_name (plain_name t) = t
spelled_name (term_name p) = spelled_shape p

-- a name by its text, before the rest
abbrev pub IsPlainName : NameMode → Text → Text → Type 0
IsPlainName identifier_name t rest = IsIdentifier t
IsPlainName value_name t rest = ⊥
IsPlainName close_name t rest = (t ≢ []) × (close_name_at (t ++ rest) ≡ (t, rest))
IsPlainName opening_name t rest = IsIdentifier t

abbrev pub is_nested : TermShape → Bool
is_nested (literal_shape l) = false
is_nested (path_shape t means) = false
is_nested (nested_shape w name items v) = true

-- If there are sections, a path may name a block: one that has no items after it, is no identifier, and may be named by a
-- closing tag, too.
abbrev pub opens_section : TermShape → Items → Bool
opens_section (literal_shape l) items = false
opens_section (path_shape t means) items = lacks_items items && (not (list_all is_symbol t) && is_close_name t)
opens_section (nested_shape w name inner v) items = false

-- a name that is spelled as a parameter, with these items after it
abbrev pub is_term_name : NameMode → TermShape → Items → Bool
is_term_name identifier_name p items = false
is_term_name value_name p items = is_name p items
is_term_name close_name p items = is_nested p
is_term_name opening_name p items = opens_section p items

-- the name of an expression with these items, before the rest
abbrev pub IsName : NameMode → NameShape → Items → Text → Type 0
IsName mode (plain_name t) items rest = IsPlainName mode t rest
IsName mode (term_name p) items rest = (is_term_name mode p items ≡ true) × Fits p rest

abbrev pub term_of_name : NameShape → Term
term_of_name (plain_name t) = name_term t
term_of_name (term_name p) = term_of p

abbrev pub name_depth : NameShape → ℕ
name_depth (plain_name t) = 0
name_depth (term_name p) = depth_of p

-- ---- the expression

-- what an expression means: its name, the terms after it, and the greatest number of parentheses and brackets open at once in
-- it
pub record Expression : Type 0 where
  pub name : Term
  pub terms : Terms
  pub depth : ℕ

-- The text begins with an expression of this mode that means this, and what is left ends it in this enclosure.
pub record IsExpression (mode : NameMode) (around : Enclosure) (text : Text) (expression : Expression) (left : Text) : Type 0 where
  pub name : NameShape
  pub items : Items
  pub whole : text ≡ spelled_name name ++ (spelled_items items ++ left)
  pub is_name : IsName mode name items (spelled_items items ++ left)
  pub are_items : AreItems items left
  pub closes : Closes around left
  pub gives : expression ≡ record { name = term_of_name name; terms = terms_of items; depth = max (name_depth name) (items_depth items) }

-- no expression is at the start of the text, however deep
abbrev pub NoExpression : NameMode → Enclosure → Text → Type 0
NoExpression mode around text = (expression : Expression) (left : Text) → IsExpression mode around text expression left → ⊥
