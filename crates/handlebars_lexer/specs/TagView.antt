-- What the program's tags stand for.
use Rattle.std.specs.Prelude.{◌≡◌, ℕ, Bool, true, false, ◌++◌, Some, IfSome}
use Rattle.handlebars_base.specs.Bytes.{Text}
use Rattle.handlebars_base.specs.Path.{IsIdentifier}
use Rattle.handlebars_expressions.specs.Alone.{IsAlone, IsNamed}
use Rattle.handlebars_expressions.specs.Expression.{NameMode, identifier_name, value_name, close_name, opening_name, Expression, in_tag, in_block, IsExpression}
use Rattle.handlebars_expressions.specs.Binding.{unbound}
use Rattle.handlebars_expressions.specs.BindingView.{bound_names_of}
use Rattle.handlebars_lexer.specs.Kind.{TagKind, escaped_kind, html_kind, html_sign_kind, closing_of}
use Rattle.handlebars_lexer.specs.Tag.{BlockExpression, written_name, IsBlockExpression, Tag, escaped_tag, html_tag, block_tag, inverse_tag, chain_tag, close_tag, raw_tag, raw_close_tag, decorator_tag, decorator_block_tag, partial_tag, partial_block_tag, comment_tag, tag_depth, Says, IsTag}
use Rattle.handlebars_lexer.specs.declared.tag.inside.PathToken.{PathToken}
use Rattle.handlebars_lexer.specs.declared.tag.inside.BlockToken.{BlockToken}
use Rattle.handlebars_lexer.specs.declared.tag.inside.Content.{Content}
use Rattle.handlebars_lexer.specs.declared.tag.inside.Content.TheVariants as content
use Rattle.handlebars_lexer.specs.declared.tag.inside.BlockRead.{BlockRead}
use Rattle.handlebars_lexer.specs.declared.tag.inside.Inside.{Inside}
use Rattle.handlebars_lexer.specs.declared.tag.TagToken.{TagToken}

-- ---- what is inside tags, with what closes it

-- The inside of a tag of this kind begins with the content of this tag. What closes the tag, with a tilde or without, follows
-- the content, and the rest follows that.
pub record IsClosed (sections : Bool) (kind : TagKind) (inside : Text) (tag : Tag) (right : Bool) (rest : Text) : Type 0 where
  pub after : Text
  pub says : Says sections kind inside tag after
  pub closes : closing_of kind after ≡ Some (right, rest)

-- no content with what closes it is there, in the language with sections, which the program reads
abbrev pub NoneClosed : TagKind → Text → Type 0
NoneClosed kind inside = (tag : Tag) (right : Bool) (rest : Text) → IsClosed true kind inside tag right rest → ⊥

-- no expression of a block with a name of this mode is there
abbrev pub NoBlockExpression : NameMode → Text → Type 0
NoBlockExpression mode t = (expression : BlockExpression) (rest : Text) → IsBlockExpression mode t expression rest → ⊥

-- no expression with a name of this mode is there, or it isn't closed
abbrev pub NoClosedExpression : TagKind → NameMode → Text → Type 0
NoClosedExpression kind mode t = (expression : Expression) (after : Text) (right : Bool) (rest : Text) →
    IsExpression mode in_tag t expression after → closing_of kind after ≡ Some (right, rest) → ⊥

-- ---- what the program reads

-- A text begins with an expression of a tag, with a name of this mode, and the tag has that expression.
pub record HoldsExpression (mode : NameMode) (of : Expression → Tag) (text : Text) (tag : Tag) : Type 0 where
  pub expression : Expression
  pub after : Text
  pub is_expression : IsExpression mode in_tag text expression after
  pub gives : tag ≡ of expression

-- a value or a call, escaped or raw
abbrev pub value_tag : Bool → Expression → Tag
value_tag true = escaped_tag
value_tag false = html_tag

-- the kinds of values, and the kind of escaped values
abbrev pub is_value_kind : TagKind → Bool
is_value_kind escaped_kind = true
is_value_kind html_kind = true
is_value_kind html_sign_kind = true
is_value_kind kind = false

abbrev pub is_escaped_kind : TagKind → Bool
is_escaped_kind escaped_kind = true
is_escaped_kind kind = false

-- A path is alone in an expression of a tag, and the tag has that expression.
pub record HoldsPath (token : PathToken) (tag : Tag) : Type 0 where
  pub text : Text
  pub expression : Expression
  pub after : Text
  pub left : Text
  pub is_expression : IsExpression value_name in_tag text expression after
  pub is_alone : IsAlone in_tag text token.raw.now left
  pub is_name : token.is_name ≡ true → IsIdentifier token.raw.now
  pub gives : tag ≡ value_tag token.is_escaped expression

-- A text begins with a name and this one path after it, and they are the expression of a block.
pub record HasNamed (text raw : Text) : Type 0 where
  pub name : Text
  pub left : Text
  pub is : IsNamed in_block text name raw left

-- The token has the parts of the expression of a block or of a decorator: the text that begins with the expression, its name as
-- it is written, the one path after the name, if it is given, and what the expression binds. If only an identifier may be the
-- name, the expression means the same.
pub record IsBlockToken (token : BlockToken) (expression : BlockExpression) (rest : Text) : Type 0 where
  pub is_expression : IsBlockExpression opening_name token.expression.now expression rest
  pub is_name : written_name expression.name ≡ token.name.now
  pub is_path : IfSome token.path (λ raw. HasNamed token.expression.now raw.now)
  pub is_binding : expression.binding ≡ bound_names_of token.binding

pub record HoldsBlock (of : BlockExpression → Tag) (token : BlockToken) (tag : Tag) : Type 0 where
  pub expression : BlockExpression
  pub rest : Text
  pub is_token : IsBlockToken token expression rest
  pub gives : tag ≡ of expression

-- the tag has this content, which is given by its parts of the source
abbrev pub Holds : Content → Tag → Type 0
Holds (content.Expression text) tag = HoldsExpression value_name escaped_tag text.now tag
Holds (content.Html text) tag = HoldsExpression value_name html_tag text.now tag
Holds (content.Path token) tag = HoldsPath token tag
Holds (content.Block token) tag = HoldsBlock block_tag token tag
Holds content.Inverse tag = tag ≡ inverse_tag
Holds (content.Chain token) tag = HoldsBlock chain_tag token tag
Holds (content.Close name) tag = tag ≡ close_tag name.now
Holds (content.RawBlock token) tag = HoldsBlock raw_tag token tag
Holds (content.RawClose name) tag = tag ≡ raw_close_tag name.now
Holds (content.Decorator token) tag = HoldsBlock decorator_tag token tag
Holds (content.DecoratorBlock token) tag = HoldsBlock decorator_block_tag token tag
Holds (content.Partial text) tag = HoldsExpression close_name partial_tag text.now tag
Holds (content.PartialBlock text) tag = HoldsExpression close_name partial_block_tag text.now tag
Holds (content.Comment text) tag = tag ≡ comment_tag text.now

-- `read` is what was read of the expression of a block, with a name of this mode.
pub record HasBlock (mode : NameMode) (text : Text) (read : BlockRead) : Type 0 where
  pub expression : BlockExpression
  pub is_expression : IsBlockExpression mode text expression read.rest.now
  pub is_token : IsBlockToken read.token expression read.rest.now
  pub deep : expression.depth ≡ read.depth

-- This closes a tag of the kind after its content, which has this depth.
pub record HasClosing (kind : TagKind) (after : Text) (content : Content) (depth : ℕ) (read : Inside) : Type 0 where
  pub closes : closing_of kind after ≡ Some (read.right, read.rest.now)
  pub is_content : read.content ≡ content
  pub deep : read.depth ≡ depth
  pub ahead : read.long_ahead ≡ true

-- An expression of a tag, with a name of this mode, is at the start of the text, and is closed.
pub record HasClosedExpression (kind : TagKind) (mode : NameMode) (text : Text) (content : Content) (read : Inside) : Type 0 where
  pub expression : Expression
  pub after : Text
  pub is_expression : IsExpression mode in_tag text expression after
  pub closing : HasClosing kind after content expression.depth read

-- `read` is what was read of the expression of a decorator.
pub record HasDecorator (text : Text) (read : BlockRead) : Type 0 where
  pub has : HasBlock identifier_name text read
  pub binds_none : bound_names_of read.token.binding ≡ unbound

-- `read` is what was read of the inside of a tag of this kind, with what closes it.
pub record HasInside (kind : TagKind) (inside : Text) (read : Inside) : Type 0 where
  pub tag : Tag
  pub is : IsClosed true kind inside tag read.right read.rest.now
  pub deep : tag_depth tag ≡ read.depth
  pub holds : Holds read.content tag

-- Such a tag is at the start of the text, in the language with sections.
pub record HasTag (left : Text) (read : TagToken) : Type 0 where
  pub token : Text
  pub tag : Tag
  pub whole : left ≡ token ++ read.rest.now
  pub is_tag : IsTag true token read.rest.now tag (record { left = read.left; right = read.right })
  pub deep : tag_depth tag ≡ read.depth
  pub holds : Holds read.content tag
