-- The content inside tags, with what closes it: if it isn't read, it isn't there, and it is unique.
use Rattle.std.proofs.Common.{◌≡◌, ◌≢◌, Bool, true, false, [], Some, None, refl, sym, ap, ◌∙◌, ◌⊎◌, inl, inr}
use Rattle.std.proofs.lemmas.Option.{none-some}
use Rattle.handlebars_base.specs.Bytes.{Text, after_white, is_white}
use Rattle.handlebars_base.specs.Texts.{starts, symbols_of, after_symbols}
use Rattle.handlebars_expressions.specs.Expression.{NameMode, identifier_name, value_name, close_name, opening_name, Expression, in_tag, IsExpression}
use Rattle.handlebars_expressions.proofs.Expressions.{one_expression}
use Rattle.handlebars_lexer.specs.Kind.{TagKind, escaped_kind, html_kind, html_sign_kind, block_kind, close_kind, inverse_kind, else_kind, raw_kind, raw_close_kind, decorator_kind, decorator_block_kind, partial_kind, partial_block_kind, comment_kind, closing_of}
use Rattle.handlebars_lexer.specs.Comment.{IsComment, NoComment}
use Rattle.handlebars_expressions.specs.CloseName.{close_name_at}
use Rattle.handlebars_lexer.specs.Tag.{Tag, escaped_tag, html_tag, block_tag, inverse_tag, chain_tag, close_tag, raw_tag, raw_close_tag, decorator_tag, decorator_block_tag, partial_tag, partial_block_tag, comment_tag, BlockExpression, IsBlockExpression, block_mode, IsDecoratorExpression, Says, a_value, a_raw_value, a_signed_value, a_block, a_close, an_inverse, an_else, a_chain, a_raw_block, a_raw_close, a_decorator, a_decorator_block, a_partial, a_partial_block, a_comment}
use Rattle.handlebars_lexer.specs.TagView.{NoBlockExpression, NoClosedExpression, IsClosed, NoneClosed}
use Rattle.handlebars_lexer.proofs.BlockExpressions.{one_block_expression}
use Rattle.handlebars_lexer.proofs.DecoratorExpressions.{NoDecoratorExpression}

-- ---- the content, kind by kind

pub record ExpressionSaid (mode : NameMode) (of : Expression → Tag) (t : Text) (tag : Tag) (rest : Text) : Type 0 where
  pub expression : Expression
  pub is : IsExpression mode in_tag t expression rest
  pub gives : tag ≡ of expression

pub record BlockSaid (mode : NameMode) (of : BlockExpression → Tag) (t : Text) (tag : Tag) (rest : Text) : Type 0 where
  pub expression : BlockExpression
  pub is : IsBlockExpression mode t expression rest
  pub gives : tag ≡ of expression

pub record TextSaid (tag tag' : Tag) (rest rest' : Text) : Type 0 where
  pub gives : tag ≡ tag'
  pub rests : rest ≡ rest'

pub record ChainSaid (t : Text) (tag : Tag) (rest : Text) : Type 0 where
  pub white : starts is_white t ≡ true
  pub said : BlockSaid identifier_name chain_tag (after_white t) tag rest

pub record RawCloseSaid (t : Text) (tag : Tag) (rest : Text) : Type 0 where
  pub some : symbols_of t ≢ []
  pub said : TextSaid tag (raw_close_tag (symbols_of t)) rest (after_symbols t)

pub record DecoratorSaid (of : BlockExpression → Tag) (t : Text) (tag : Tag) (rest : Text) : Type 0 where
  pub said : BlockSaid identifier_name of t tag rest
  pub is : IsDecoratorExpression t said.expression rest

pub record CommentSaid (t : Text) (tag : Tag) (rest : Text) : Type 0 where
  pub comment_text : Text
  pub is : IsComment t comment_text rest
  pub gives : tag ≡ comment_tag comment_text

abbrev pub Said : Bool → TagKind → Text → Tag → Text → Type 0
Said sections escaped_kind t tag rest = ExpressionSaid value_name escaped_tag t tag rest
Said sections html_kind t tag rest = ExpressionSaid value_name html_tag t tag rest
Said sections html_sign_kind t tag rest = ExpressionSaid value_name html_tag t tag rest
Said sections block_kind t tag rest = BlockSaid (block_mode sections) block_tag t tag rest
Said sections close_kind t tag rest = TextSaid tag (close_tag (close_name_at t).0) rest (close_name_at t).1
Said sections inverse_kind t tag rest = TextSaid tag inverse_tag rest t
Said sections else_kind t tag rest = TextSaid tag inverse_tag rest t ⊎ ChainSaid t tag rest
Said sections raw_kind t tag rest = BlockSaid identifier_name raw_tag t tag rest
Said sections raw_close_kind t tag rest = RawCloseSaid t tag rest
Said sections decorator_kind t tag rest = DecoratorSaid decorator_tag t tag rest
Said sections decorator_block_kind t tag rest = DecoratorSaid decorator_block_tag t tag rest
Said sections partial_kind t tag rest = ExpressionSaid close_name partial_tag t tag rest
Said sections partial_block_kind t tag rest = ExpressionSaid close_name partial_block_tag t tag rest
Said sections comment_kind t tag rest = CommentSaid t tag rest

pub said : (sections : Bool) (k : TagKind) (t : Text) (tag : Tag) (rest : Text) → Says sections k t tag rest → Said sections k t tag rest
said _ _ _ _ _ (a_value {expression = expression} is) = record { expression = expression; is = is; gives = refl }
said _ _ _ _ _ (a_raw_value {expression = expression} is) = record { expression = expression; is = is; gives = refl }
said _ _ _ _ _ (a_signed_value {expression = expression} is) = record { expression = expression; is = is; gives = refl }
said _ _ _ _ _ (a_block {expression = expression} is) = record { expression = expression; is = is; gives = refl }
said _ _ _ _ _ (a_close t) = record { gives = refl; rests = refl }
said _ _ _ _ _ (an_inverse t) = record { gives = refl; rests = refl }
said _ _ _ _ _ (an_else t) = inl (record { gives = refl; rests = refl })
said _ _ _ _ _ (a_chain {expression = expression} white is) = inr (record { white = white; said = record { expression = expression; is = is; gives = refl } })
said _ _ _ _ _ (a_raw_block {expression = expression} is) = record { expression = expression; is = is; gives = refl }
said _ _ _ _ _ (a_raw_close t some) = record { some = some; said = record { gives = refl; rests = refl } }
said _ _ _ _ _ (a_decorator {expression = expression} is) = record { said = record { expression = expression; is = is.is_expression; gives = refl }; is = is }
said _ _ _ _ _ (a_decorator_block {expression = expression} is) = record { said = record { expression = expression; is = is.is_expression; gives = refl }; is = is }
said _ _ _ _ _ (a_partial {expression = expression} is) = record { expression = expression; is = is; gives = refl }
said _ _ _ _ _ (a_partial_block {expression = expression} is) = record { expression = expression; is = is; gives = refl }
said _ _ _ _ _ (a_comment {comment_text = comment_text} is) = record { comment_text = comment_text; is = is; gives = refl }

-- ---- the expressions of blocks inside tags

pub record BlockClosed (k : TagKind) (mode : NameMode) (of : BlockExpression → Tag) (t : Text) (tag : Tag) (right : Bool) (rest : Text) : Type 0 where
  pub after : Text
  pub said : BlockSaid mode of t tag after
  pub closes : closing_of k after ≡ Some (right, rest)

-- the inside is the expression of a block alone
abbrev pub OnlyBlock : TagKind → NameMode → (BlockExpression → Tag) → Text → Text → Type 0
OnlyBlock k mode of t inside = (tag : Tag) (right : Bool) (rest : Text) → IsClosed true k inside tag right rest → BlockClosed k mode of t tag right rest

pub only_block : (t : Text) → OnlyBlock block_kind opening_name block_tag t t
only_block t tag right rest h = record { after = h.after; said = said true block_kind t tag h.after h.says; closes = h.closes }

pub only_raw : (t : Text) → OnlyBlock raw_kind identifier_name raw_tag t t
only_raw t tag right rest h = record { after = h.after; said = said true raw_kind t tag h.after h.says; closes = h.closes }

pub only_decorator : (t : Text) → OnlyBlock decorator_kind identifier_name decorator_tag t t
only_decorator t tag right rest h = let s = said true decorator_kind t tag h.after h.says in record { after = h.after; said = s.said; closes = h.closes }

pub only_decorator_block : (t : Text) → OnlyBlock decorator_block_kind identifier_name decorator_block_tag t t
only_decorator_block t tag right rest h = let s = said true decorator_block_kind t tag h.after h.says in record { after = h.after; said = s.said; closes = h.closes }

-- if nothing closes the `else`
open_else : (t : Text) (tag : Tag) (right : Bool) (rest : Text) → closing_of else_kind t ≡ None → (h : IsClosed true else_kind t tag right rest) → ChainSaid t tag h.after
open_else t tag right rest none h = elim (said true else_kind t tag h.after h.says) [
  | inl inverse ↦ absurd (none-some (right, rest) (sym none ∙ ap (closing_of else_kind) (sym inverse.rests) ∙ h.closes))
  | inr chain ↦ chain
]

pub only_chain : (t : Text) → closing_of else_kind t ≡ None → OnlyBlock else_kind identifier_name chain_tag (after_white t) t
only_chain t none tag right rest h =
    let chain = open_else t tag right rest none h in
    record { after = h.after; said = chain.said; closes = h.closes }

pub none-chain : (t : Text) → closing_of else_kind t ≡ None → starts is_white t ≡ false → NoneClosed else_kind t
none-chain t none dark tag right rest h = let chain = open_else t tag right rest none h in let white : starts is_white t ≡ true = chain.white in absurd cc

pub none-block : (k : TagKind) (mode : NameMode) (of : BlockExpression → Tag) (t inside : Text) → OnlyBlock k mode of t inside → NoBlockExpression mode t → NoneClosed k inside
none-block k mode of t inside only none tag right rest h = let b = only tag right rest h in none b.said.expression b.after b.said.is

pub none_closing-block : (k : TagKind) (mode : NameMode) (of : BlockExpression → Tag) (t inside left : Text) (expression : BlockExpression) → OnlyBlock k mode of t inside → IsBlockExpression mode t expression left → closing_of k left ≡ None → NoneClosed k inside
none_closing-block k mode of t inside left expression only is none tag right rest h =
    let b = only tag right rest h in
    let one = one_block_expression mode t expression b.said.expression left b.after is b.said.is in
    none-some (right, rest) (sym none ∙ ap (closing_of k) one.1 ∙ b.closes)

pub none-decorator : (t : Text) → NoDecoratorExpression t → NoneClosed decorator_kind t
none-decorator t none tag right rest h = let s = said true decorator_kind t tag h.after h.says in none s.said.expression h.after s.is

pub none-decorator_block : (t : Text) → NoDecoratorExpression t → NoneClosed decorator_block_kind t
none-decorator_block t none tag right rest h = let s = said true decorator_block_kind t tag h.after h.says in none s.said.expression h.after s.is

-- ---- values and partials

pub record ExpressionClosed (k : TagKind) (mode : NameMode) (t : Text) (right : Bool) (rest : Text) : Type 0 where
  pub expression : Expression
  pub after : Text
  pub is : IsExpression mode in_tag t expression after
  pub closes : closing_of k after ≡ Some (right, rest)

none-expression : (k : TagKind) (mode : NameMode) (t : Text) → ((tag : Tag) (right : Bool) (rest : Text) → IsClosed true k t tag right rest → ExpressionClosed k mode t right rest) → NoClosedExpression k mode t → NoneClosed k t
none-expression k mode t only none tag right rest h = let v = only tag right rest h in none v.expression v.after right rest v.is v.closes

pub none-escaped_expression : (t : Text) → NoClosedExpression escaped_kind value_name t → NoneClosed escaped_kind t
none-escaped_expression t none = none-expression escaped_kind value_name t (λ tag right rest h. let s = said true escaped_kind t tag h.after h.says in record { expression = s.expression; after = h.after; is = s.is; closes = h.closes }) none

pub none-html : (t : Text) → NoClosedExpression html_kind value_name t → NoneClosed html_kind t
none-html t none = none-expression html_kind value_name t (λ tag right rest h. let s = said true html_kind t tag h.after h.says in record { expression = s.expression; after = h.after; is = s.is; closes = h.closes }) none

pub none-html_sign : (t : Text) → NoClosedExpression html_sign_kind value_name t → NoneClosed html_sign_kind t
none-html_sign t none = none-expression html_sign_kind value_name t (λ tag right rest h. let s = said true html_sign_kind t tag h.after h.says in record { expression = s.expression; after = h.after; is = s.is; closes = h.closes }) none

pub none-partial : (t : Text) → NoClosedExpression partial_kind close_name t → NoneClosed partial_kind t
none-partial t none = none-expression partial_kind close_name t (λ tag right rest h. let s = said true partial_kind t tag h.after h.says in record { expression = s.expression; after = h.after; is = s.is; closes = h.closes }) none

pub none-partial_block : (t : Text) → NoClosedExpression partial_block_kind close_name t → NoneClosed partial_block_kind t
none-partial_block t none = none-expression partial_block_kind close_name t (λ tag right rest h. let s = said true partial_block_kind t tag h.after h.says in record { expression = s.expression; after = h.after; is = s.is; closes = h.closes }) none

pub none-closed_expression : (k : TagKind) (mode : NameMode) (t left : Text) (expression : Expression) → IsExpression mode in_tag t expression left → closing_of k left ≡ None → NoClosedExpression k mode t
none-closed_expression k mode t left expression is none expression' after right rest is' closes =
    let one = one_expression mode in_tag t expression expression' left after is is' in
    none-some (right, rest) (sym none ∙ ap (closing_of k) one.1 ∙ closes)

-- ---- texts

none-text : (k : TagKind) (left inside : Text) → ((tag : Tag) (after : Text) → Says true k inside tag after → after ≡ left) → closing_of k left ≡ None → NoneClosed k inside
none-text k left inside only none tag right rest h = none-some (right, rest) (sym none ∙ ap (closing_of k) (sym (only tag h.after h.says)) ∙ h.closes)

pub none-close : (t : Text) → closing_of close_kind (close_name_at t).1 ≡ None → NoneClosed close_kind t
none-close t none = none-text close_kind (close_name_at t).1 t (λ tag after says. let s = said true close_kind t tag after says in s.rests) none

pub none-inverse : (t : Text) → closing_of inverse_kind t ≡ None → NoneClosed inverse_kind t
none-inverse t none = none-text inverse_kind t t (λ tag after says. let s = said true inverse_kind t tag after says in s.rests) none

pub none-raw_close : (t : Text) → closing_of raw_close_kind (after_symbols t) ≡ None → NoneClosed raw_close_kind t
none-raw_close t none = none-text raw_close_kind (after_symbols t) t (λ tag after says. let s = said true raw_close_kind t tag after says in s.said.rests) none

pub none-comment : (t : Text) → NoComment t → NoneClosed comment_kind t
none-comment t none tag right rest h = let s = said true comment_kind t tag h.after h.says in none s.comment_text h.after s.is
