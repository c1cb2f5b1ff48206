-- What a tag is, given by the token that spells it and what follows the token.
use Rattle.std.specs.Prelude.{◌≡◌, ◌≢◌, ℕ, Bool, true, false, [], ◌++◌, Some}
use Rattle.handlebars_base.specs.Bytes.{Text, is_white, after_white}
use Rattle.handlebars_base.specs.Texts.{starts, symbols_of, after_symbols}
use Rattle.handlebars_base.specs.Path.{raw_of}
use Rattle.handlebars_expressions.specs.Parameter.{Term, literal_term, path_term, name_term, call_term, Terms}
use Rattle.handlebars_expressions.specs.CloseName.{close_name_at}
use Rattle.handlebars_expressions.specs.Expression.{NameMode, identifier_name, value_name, close_name, opening_name, Expression, in_tag, in_block, IsExpression}
use Rattle.handlebars_expressions.specs.Binding.{BoundNames, unbound, IsBinding}
use Rattle.handlebars_lexer.specs.Kind.{TagKind, escaped_kind, html_kind, html_sign_kind, block_kind, close_kind, inverse_kind, else_kind, raw_kind, raw_close_kind, decorator_kind, decorator_block_kind, partial_kind, partial_block_kind, comment_kind, TagBeginning, beginning_of, closing_of}
use Rattle.handlebars_lexer.specs.Comment.{IsComment}

-- ---- what tags say

-- the expression of a block or of a decorator: its name, the terms after it, the names that it binds, and the greatest number
-- of parentheses and brackets open at once in it
pub record BlockExpression : Type 0 where
  pub name : Term
  pub terms : Terms
  pub binding : BoundNames
  pub depth : ℕ

-- a literal, a path or a name as it is written; a call has no such text
abbrev pub written_name : Term → Text
written_name (literal_term raw) = raw
written_name (path_term r) = raw_of r
written_name (name_term t) = t
written_name (call_term t terms) = []

-- a value or a call, escaped or raw; a block, its inverse, a chained inverse and its end, with the name that closes it,
-- possibly empty; a raw block and its end; a decorator, alone or with a block; a partial, alone or with a block; a comment by
-- its text
pub data Tag : Type 0 where
  escaped_tag : Expression → Tag
  html_tag : Expression → Tag
  block_tag : BlockExpression → Tag
  inverse_tag : Tag
  chain_tag : BlockExpression → Tag
  close_tag : Text → Tag
  raw_tag : BlockExpression → Tag
  raw_close_tag : Text → Tag
  decorator_tag : BlockExpression → Tag
  decorator_block_tag : BlockExpression → Tag
  partial_tag : Expression → Tag
  partial_block_tag : Expression → Tag
  comment_tag : Text → Tag

-- whether a tilde follows the opening braces, and whether one precedes the closing braces
pub record Tildes : Type 0 where
  pub left : Bool
  pub right : Bool

-- the greatest number of parentheses and brackets of literals open at once
abbrev pub tag_depth : Tag → ℕ
tag_depth (escaped_tag expression) = expression.depth
tag_depth (html_tag expression) = expression.depth
tag_depth (block_tag expression) = expression.depth
tag_depth (chain_tag expression) = expression.depth
tag_depth (raw_tag expression) = expression.depth
tag_depth (decorator_tag expression) = expression.depth
tag_depth (decorator_block_tag expression) = expression.depth
tag_depth (partial_tag expression) = expression.depth
tag_depth (partial_block_tag expression) = expression.depth
tag_depth t = 0

-- ---- what is between the marks

-- an expression with a name of this mode, and optional block parameters
pub record IsBlockExpression (mode : NameMode) (text : Text) (means : BlockExpression) (rest : Text) : Type 0 where
  pub after : Text
  pub is_expression : IsExpression mode in_block text (record { name = means.name; terms = means.terms; depth = means.depth }) after
  pub binds : IsBinding after means.binding rest

-- The name of a block is an identifier. If there are sections, it may be a path, too.
abbrev pub block_mode : Bool → NameMode
block_mode true = opening_name
block_mode false = identifier_name

-- the expression of a decorator: its name is an identifier, and it has no block parameters
pub record IsDecoratorExpression (text : Text) (means : BlockExpression) (rest : Text) : Type 0 where
  pub is_expression : IsBlockExpression identifier_name text means rest
  pub binds_none : means.binding ≡ unbound

-- Says sections kind inside tag rest: the inside of a tag of this kind begins with the content of this tag, and the rest
-- follows the content. It matters only for the opening tag of a block whether there are sections.
pub data Says (sections : Bool) : TagKind → Text → Tag → Text → Type 0 where
  a_value : {t rest : Text} {expression : Expression} → IsExpression value_name in_tag t expression rest → Says sections escaped_kind t (escaped_tag expression) rest
  a_raw_value : {t rest : Text} {expression : Expression} → IsExpression value_name in_tag t expression rest → Says sections html_kind t (html_tag expression) rest
  a_signed_value : {t rest : Text} {expression : Expression} → IsExpression value_name in_tag t expression rest → Says sections html_sign_kind t (html_tag expression) rest
  a_block : {t rest : Text} {expression : BlockExpression} → IsBlockExpression (block_mode sections) t expression rest → Says sections block_kind t (block_tag expression) rest
  a_close : (t : Text) → Says sections close_kind t (close_tag (close_name_at t).0) (close_name_at t).1
  an_inverse : (t : Text) → Says sections inverse_kind t inverse_tag t
  an_else : (t : Text) → Says sections else_kind t inverse_tag t
  -- `else`, whitespace, and an expression named by an identifier
  a_chain : {t rest : Text} {expression : BlockExpression} → starts is_white t ≡ true → IsBlockExpression identifier_name (after_white t) expression rest
      → Says sections else_kind t (chain_tag expression) rest
  a_raw_block : {t rest : Text} {expression : BlockExpression} → IsBlockExpression identifier_name t expression rest → Says sections raw_kind t (raw_tag expression) rest
  a_raw_close : (t : Text) → symbols_of t ≢ [] → Says sections raw_close_kind t (raw_close_tag (symbols_of t)) (after_symbols t)
  a_decorator : {t rest : Text} {expression : BlockExpression} → IsDecoratorExpression t expression rest → Says sections decorator_kind t (decorator_tag expression) rest
  a_decorator_block : {t rest : Text} {expression : BlockExpression} → IsDecoratorExpression t expression rest
      → Says sections decorator_block_kind t (decorator_block_tag expression) rest
  -- The name of a partial is written as in a closing tag, or is an expression in parentheses.
  a_partial : {t rest : Text} {expression : Expression} → IsExpression close_name in_tag t expression rest → Says sections partial_kind t (partial_tag expression) rest
  a_partial_block : {t rest : Text} {expression : Expression} → IsExpression close_name in_tag t expression rest
      → Says sections partial_block_kind t (partial_block_tag expression) rest
  a_comment : {t rest comment_text : Text} → IsComment t comment_text rest → Says sections comment_kind t (comment_tag comment_text) rest

-- ---- tags

-- Before the rest, the token spells the tag with these tildes: its beginning, its content, and what closes it. The rest is a
-- parameter, because the meaning of an expression depends on what follows it.
pub record IsTag (sections : Bool) (token rest : Text) (tag : Tag) (tildes : Tildes) : Type 0 where
  pub begins : TagBeginning
  pub after : Text
  pub is_beginning : beginning_of (token ++ rest) ≡ Some begins
  pub left : begins.tilde ≡ tildes.left
  pub says : Says sections begins.kind begins.inside tag after
  pub closes : closing_of begins.kind after ≡ Some (tildes.right, rest)

-- No tag is at the start of the text.
abbrev pub NoTag : Bool → Text → Type 0
NoTag sections left =
    (token rest : Text) (t : Tag) (tildes : Tildes) → left ≡ token ++ rest → IsTag sections token rest t tildes → ⊥

-- At most one tag is at the start of what is left of a source, and the rest after it is unique.
abbrev pub OneTag : Type 0
OneTag = (sections : Bool) (left token token' rest rest' : Text) (t t' : Tag) (tildes tildes' : Tildes)
    → left ≡ token ++ rest → left ≡ token' ++ rest'
    → IsTag sections token rest t tildes → IsTag sections token' rest' t' tildes'
    → (token ≡ token') × (rest ≡ rest') × (t ≡ t') × (tildes ≡ tildes')

-- the end of a raw block
abbrev pub is_raw_close : Tag → Bool
is_raw_close (raw_close_tag n) = true
is_raw_close t = false
