-- The parameters of tags: what each spells, when it fits, what it means, and how deep it nests. Parameters and expressions
-- contain each other, so what both need is here.
use Rattle.std.specs.Prelude.{◌≡◌, ◌≢◌, ℕ, suc, Bool, true, false, ◌||◌, max, [], ◌∷◌, ◌++◌, codes, Option, Some, None, ⊤}
use Rattle.std.specs.List.{list_all}
use Rattle.std.specs.Str.{bytes_eq}
use Rattle.handlebars_base.specs.Bytes.{Text, equals_sign, is_symbol}
use Rattle.handlebars_base.specs.Path.{IsIdentifier, IsPath, Reference}
use Rattle.handlebars_base.specs.Texts.{IsWhite, starts}
use Rattle.handlebars_expressions.specs.Literal.{Literal, spelled_literal, IsLiteral, literal_depth, continues_literal, IsLiteralAt}

abbrev pub left_parenthesis : ℕ
left_parenthesis = 40

abbrev pub right_parenthesis : ℕ
right_parenthesis = 41

-- ---- what a parameter means

-- a literal by its text; a path; a name by its text; or a call by its name and the terms after it
mutual
  pub data Term : Type 0 where
    literal_term : Text → Term
    path_term : Reference → Term
    name_term : Text → Term
    call_term : Term → Terms → Term

  -- parameters, and hash arguments by their keys, in the order of the text
  pub data Terms : Type 0 where
    no_terms : Terms
    term : Option Text → Term → Terms → Terms

-- ---- what a parameter spells

-- A literal; a path with what it means; or an expression in parentheses, with optional whitespace on either side of it.
mutual
  pub data TermShape : Type 0 where
    literal_shape : Literal → TermShape
    path_shape : Text → Reference → TermShape
    nested_shape : Text → TermShape → Items → Text → TermShape

  -- What follows a name: parameters, each after whitespace, and hash arguments, each after whitespace: a key, and its
  -- parameter, with optional whitespace on either side of the `=`.
  pub data Items : Type 0 where
    no_items : Items
    parameter_item : Text → TermShape → Items → Items
    hash_item : Text → Text → Text → Text → TermShape → Items → Items

abbrev mutual
  pub spelled_shape : TermShape → Text
  spelled_shape (literal_shape l) = spelled_literal l
  spelled_shape (path_shape t means) = t
  spelled_shape (nested_shape w name items v) =
      left_parenthesis ∷ (w ++ (spelled_shape name ++ (spelled_items items ++ (v ++ right_parenthesis ∷ []))))

  pub spelled_items : Items → Text
  spelled_items no_items = []
  spelled_items (parameter_item w p more) = w ++ (spelled_shape p ++ spelled_items more)
  spelled_items (hash_item w key u v p more) =
      w ++ (key ++ (u ++ equals_sign ∷ (v ++ (spelled_shape p ++ spelled_items more))))

-- ---- when it fits

abbrev pub lacks_items : Items → Bool
lacks_items no_items = true
lacks_items (parameter_item w p more) = false
lacks_items (hash_item w key u v p more) = false

-- what may be the name of a value's expression: an expression in parentheses, an identifier, or, with no items after it, any
-- path
abbrev pub is_name : TermShape → Items → Bool
is_name (literal_shape l) items = false
is_name (path_shape t means) items = list_all is_symbol t || lacks_items items
is_name (nested_shape w name inner v) items = true

-- `as` and `else`, in exactly these spellings
abbrev pub is_reserved : Text → Bool
is_reserved t = bytes_eq t (codes "as") || bytes_eq t (codes "else")

-- A path that is a reserved word is no parameter after a name. After a key it is one.
abbrev pub IsFree : TermShape → Type 0
IsFree (literal_shape l) = ⊤
IsFree (path_shape t means) = is_reserved t ≡ false
IsFree (nested_shape w name items v) = ⊤

-- If a literal is at the start, it is the parameter, and no path is. A literal doesn't continue in the rest.
abbrev pub IsChosen : TermShape → Text → Type 0
IsChosen (literal_shape l) rest = starts continues_literal rest ≡ false
IsChosen (path_shape t means) rest = (l : Literal) (after : Text) → IsLiteralAt (t ++ rest) l after → ⊥
IsChosen (nested_shape w name items v) rest = ⊤

-- its parts fit, before the rest
abbrev mutual
  pub Fits : TermShape → Text → Type 0
  Fits (literal_shape l) rest = IsLiteral l
  Fits (path_shape t means) rest = IsPath t means
  Fits (nested_shape w name items v) rest =
      IsWhite w × (is_name name items ≡ true) ×
      Fits name (spelled_items items ++ (v ++ right_parenthesis ∷ rest)) ×
      AreItems items (v ++ right_parenthesis ∷ rest) × IsWhite v

  pub AreItems : Items → Text → Type 0
  AreItems no_items rest = ⊤
  AreItems (parameter_item w p more) rest =
      IsWhite w × (w ≢ []) × IsFree p × IsChosen p (spelled_items more ++ rest) ×
      Fits p (spelled_items more ++ rest) × AreItems more rest
  AreItems (hash_item w key u v p more) rest =
      IsWhite w × (w ≢ []) × IsIdentifier key × IsWhite u × IsWhite v × IsChosen p (spelled_items more ++ rest) ×
      Fits p (spelled_items more ++ rest) × AreItems more rest

-- ---- from the shape to the meaning

abbrev mutual
  pub term_of : TermShape → Term
  term_of (literal_shape l) = literal_term (spelled_literal l)
  term_of (path_shape t means) = path_term means
  term_of (nested_shape w name items v) = call_term (term_of name) (terms_of items)

  pub terms_of : Items → Terms
  terms_of no_items = no_terms
  terms_of (parameter_item w p more) = term None (term_of p) (terms_of more)
  terms_of (hash_item w key u v p more) = term (Some key) (term_of p) (terms_of more)

-- the greatest number of parentheses and brackets of literals open at once
abbrev mutual
  pub depth_of : TermShape → ℕ
  depth_of (literal_shape l) = literal_depth l
  depth_of (path_shape t means) = 0
  depth_of (nested_shape w name items v) = suc (max (depth_of name) (items_depth items))

  pub items_depth : Items → ℕ
  items_depth no_items = 0
  items_depth (parameter_item w p more) = max (depth_of p) (items_depth more)
  items_depth (hash_item w key u v p more) = max (depth_of p) (items_depth more)

-- ---- a parameter alone

-- The whole text is a parameter that means this, with this depth.
pub record IsParameter (text : Text) (means : Term) (depth : ℕ) : Type 0 where
  pub shape : TermShape
  pub spells : text ≡ spelled_shape shape
  pub chosen : IsChosen shape []
  pub fits : Fits shape []
  pub gives : means ≡ term_of shape
  pub deep : depth ≡ depth_of shape

-- the text is no parameter, however deep
abbrev pub NoParameter : Text → Type 0
NoParameter text = (means : Term) (depth : ℕ) → IsParameter text means depth → ⊥
