-- What is read inside tags is there.
use Rattle.std.proofs.Common.{◌≡◌, ◌≢◌, ℕ, Bool, true, false, [], Option, Some, None, refl, sym, ap, subst, ◌∙◌}
use Rattle.std.specs.Option.{MatchOption}
use denote.Ref.{Bor}
use Rattle.handlebars_base.specs.Bytes.{Text}
use Rattle.handlebars_expressions.specs.Expression.{NameMode, value_name, close_name, Expression, in_tag, IsExpression}
use Rattle.handlebars_lexer.specs.Kind.{TagKind, escaped_kind, html_kind, html_sign_kind, close_kind, inverse_kind, raw_close_kind, partial_kind, partial_block_kind, comment_kind, closing_of}
use Rattle.handlebars_expressions.specs.CloseName.{close_name_at}
use Rattle.handlebars_lexer.specs.Tag.{Tag, tag_depth, escaped_tag, html_tag, BlockExpression, IsBlockExpression, Says, a_value, a_raw_value, a_signed_value, inverse_tag, close_tag, raw_close_tag, a_close, a_raw_close, an_inverse, partial_tag, partial_block_tag, a_partial, a_partial_block, comment_tag, a_comment}
use Rattle.handlebars_lexer.specs.Comment.{IsComment}
use Rattle.handlebars_lexer.specs.TagView.{NoClosedExpression, NoneClosed, Holds, HoldsExpression, HoldsBlock, HasBlock, HasClosing, HasClosedExpression, HasInside}
use Rattle.handlebars_lexer.specs.declared.tag.inside.Inside.{Inside}
use Rattle.handlebars_lexer.specs.declared.tag.inside.Content.{Content}
use Rattle.handlebars_lexer.specs.declared.tag.inside.Content.TheVariants.{Expression as ExpressionContent, Html, Inverse, Close, RawClose, Partial, PartialBlock, Comment}
use Rattle.handlebars_base.specs.Texts.{symbols_of, after_symbols}
use Rattle.handlebars_expressions.specs.ExpressionView.{texts_of}
use Rattle.handlebars_expressions.specs.BindingView.{bound_names_of}
use Rattle.handlebars_lexer.specs.declared.tag.inside.BlockRead.{BlockRead}
use Rattle.handlebars_lexer.proofs.Insides.{OnlyBlock, none-closed_expression, none-escaped_expression, none-html, none-html_sign, none-partial, none-partial_block, none_closing-block, none-close, none-raw_close, none-inverse}

-- ---- values and partials

pub expression_is_read : (k : TagKind) (mode : NameMode) (t left : Text) (expression : Expression) (content : Content) (depth : ℕ) (r : Option Inside) → IsExpression mode in_tag t expression left → expression.depth ≡ depth
    → MatchOption r (closing_of k left ≡ None) (λ i. HasClosing k left content depth i) → MatchOption r (NoClosedExpression k mode t) (λ i. HasClosedExpression k mode t content i)
expression_is_read k mode t left expression content depth None is deep none = none-closed_expression k mode t left expression is none
expression_is_read k mode t left expression content depth (Some i) is deep h = record {
  expression = expression;
  after = left;
  is_expression = is;
  closing = record { closes = h.closes; is_content = h.is_content; deep = h.deep ∙ sym deep; ahead = h.ahead };
}

pub expression_inside : (k : TagKind) (mode : NameMode) (of : Expression → Tag) (t : Text) (content : Content) (i : Inside) → ((expression : Expression) → tag_depth (of expression) ≡ expression.depth)
    → ((expression : Expression) (rest : Text) → IsExpression mode in_tag t expression rest → Says true k t (of expression) rest) → ((tag : Tag) → HoldsExpression mode of t tag → Holds content tag)
    → HasClosedExpression k mode t content i → HasInside k t i
expression_inside k mode of t content i deep says holds h = record {
  tag = of h.expression;
  is = record { after = h.after; says = says h.expression h.after h.is_expression; closes = h.closing.closes };
  deep = deep h.expression ∙ sym h.closing.deep;
  holds = subst (λ (z : Content). Holds z (of h.expression)) (sym h.closing.is_content) (holds (of h.expression) (record { expression = h.expression; after = h.after; is_expression = h.is_expression; gives = refl }));
}

pub escaped_read : (t : Bor Text) (r : Option Inside) → MatchOption r (NoClosedExpression escaped_kind value_name t.now) (λ i. HasClosedExpression escaped_kind value_name t.now (ExpressionContent t) i)
    → MatchOption r (NoneClosed escaped_kind t.now) (λ i. HasInside escaped_kind t.now i)
escaped_read t None none = none-escaped_expression t.now none
escaped_read t (Some i) h = expression_inside escaped_kind value_name escaped_tag t.now (ExpressionContent t) i (λ expression. refl) (λ expression rest is. a_value is) (λ tag holds. holds) h

pub html_read : (t : Bor Text) (r : Option Inside) → MatchOption r (NoClosedExpression html_kind value_name t.now) (λ i. HasClosedExpression html_kind value_name t.now (Html t) i)
    → MatchOption r (NoneClosed html_kind t.now) (λ i. HasInside html_kind t.now i)
html_read t None none = none-html t.now none
html_read t (Some i) h = expression_inside html_kind value_name html_tag t.now (Html t) i (λ expression. refl) (λ expression rest is. a_raw_value is) (λ tag holds. holds) h

pub html_sign_read : (t : Bor Text) (r : Option Inside) → MatchOption r (NoClosedExpression html_sign_kind value_name t.now) (λ i. HasClosedExpression html_sign_kind value_name t.now (Html t) i)
    → MatchOption r (NoneClosed html_sign_kind t.now) (λ i. HasInside html_sign_kind t.now i)
html_sign_read t None none = none-html_sign t.now none
html_sign_read t (Some i) h = expression_inside html_sign_kind value_name html_tag t.now (Html t) i (λ expression. refl) (λ expression rest is. a_signed_value is) (λ tag holds. holds) h

pub partial_read : (t : Bor Text) (r : Option Inside) → MatchOption r (NoClosedExpression partial_kind close_name t.now) (λ i. HasClosedExpression partial_kind close_name t.now (Partial t) i)
    → MatchOption r (NoneClosed partial_kind t.now) (λ i. HasInside partial_kind t.now i)
partial_read t None none = none-partial t.now none
partial_read t (Some i) h = expression_inside partial_kind close_name partial_tag t.now (Partial t) i (λ expression. refl) (λ expression rest is. a_partial is) (λ tag holds. holds) h

pub partial_block_read : (t : Bor Text) (r : Option Inside) → MatchOption r (NoClosedExpression partial_block_kind close_name t.now) (λ i. HasClosedExpression partial_block_kind close_name t.now (PartialBlock t) i)
    → MatchOption r (NoneClosed partial_block_kind t.now) (λ i. HasInside partial_block_kind t.now i)
partial_block_read t None none = none-partial_block t.now none
partial_block_read t (Some i) h = expression_inside partial_block_kind close_name partial_block_tag t.now (PartialBlock t) i (λ expression. refl) (λ expression rest is. a_partial_block is) (λ tag holds. holds) h

-- ---- blocks

-- how the tag of a kind is made of the expression of a block
pub record Blocks (k : TagKind) (mode : NameMode) (of : BlockExpression → Tag) (t inside : Text) (content : Content) (read : BlockRead) : Type 0 where
  pub only : OnlyBlock k mode of t inside
  pub deep : (expression : BlockExpression) → tag_depth (of expression) ≡ expression.depth
  pub says : (expression : BlockExpression) (rest : Text) → IsBlockExpression mode t expression rest → expression.binding ≡ bound_names_of read.token.binding → Says true k inside (of expression) rest
  pub holds : (tag : Tag) → HoldsBlock of read.token tag → Holds content tag

pub block_read : (k : TagKind) (mode : NameMode) (of : BlockExpression → Tag) (t inside : Text) (content : Content) (read : BlockRead) (r : Option Inside) → Blocks k mode of t inside content read → HasBlock mode t read
    → MatchOption r (closing_of k read.rest.now ≡ None) (λ i. HasClosing k read.rest.now content read.depth i)
    → MatchOption r (NoneClosed k inside) (λ i. HasInside k inside i × (i.long_ahead ≡ true))
block_read k mode of t inside content read None b has none = none_closing-block k mode of t inside read.rest.now has.expression b.only has.is_expression none
block_read k mode of t inside content read (Some i) b has h = (
  record {
    tag = of has.expression;
    is = record { after = read.rest.now; says = b.says has.expression read.rest.now has.is_expression has.is_token.is_binding; closes = h.closes };
    deep = b.deep has.expression ∙ has.deep ∙ sym h.deep;
    holds = subst (λ (z : Content). Holds z (of has.expression)) (sym h.is_content) (b.holds (of has.expression) (record { expression = has.expression; rest = read.rest.now; is_token = has.is_token; gives = refl }));
  },
  h.ahead,
)

-- ---- texts

pub text_read : (k : TagKind) (t after : Text) (tag : Tag) (content : Content) (i : Inside) → Says true k t tag after → tag_depth tag ≡ 0 → Holds content tag → HasClosing k after content 0 i
    → HasInside k t i × (i.long_ahead ≡ true)
text_read k t after tag content i says deep holds h = (
  record {
    tag = tag;
    is = record { after = after; says = says; closes = h.closes };
    deep = deep ∙ sym h.deep;
    holds = subst (λ (z : Content). Holds z tag) (sym h.is_content) holds;
  },
  h.ahead,
)

pub close_read : (t : Text) (name after : Bor Text) (r : Option Inside) → texts_of (name, after) ≡ close_name_at t
    → MatchOption r (closing_of close_kind after.now ≡ None) (λ i. HasClosing close_kind after.now (Close name) 0 i)
    → MatchOption r (NoneClosed close_kind t) (λ i. HasInside close_kind t i × (i.long_ahead ≡ true))
close_read t name after None e none = none-close t (ap (λ (p : Text × Text). closing_of close_kind p.1) (sym e) ∙ none)
close_read t name after (Some i) e h =
    let names : name.now ≡ (close_name_at t).0 = ap (λ (p : Text × Text). p.0) e in
    let behinds : after.now ≡ (close_name_at t).1 = ap (λ (p : Text × Text). p.1) e in
    text_read close_kind t (close_name_at t).1 (close_tag (close_name_at t).0) (Close name) i (a_close t) refl (ap close_tag (sym names))
    (subst (λ (z : Text). HasClosing close_kind z (Close name) 0 i) behinds h)

pub raw_close_read : (t : Text) (name after : Bor Text) (r : Option Inside) → name.now ≡ symbols_of t → after.now ≡ after_symbols t → name.now ≢ []
    → MatchOption r (closing_of raw_close_kind after.now ≡ None) (λ i. HasClosing raw_close_kind after.now (RawClose name) 0 i)
    → MatchOption r (NoneClosed raw_close_kind t) (λ i. HasInside raw_close_kind t i × (i.long_ahead ≡ true))
raw_close_read t name after None n b some none = none-raw_close t (ap (closing_of raw_close_kind) (sym b) ∙ none)
raw_close_read t name after (Some i) n b some h =
    text_read raw_close_kind t (after_symbols t) (raw_close_tag (symbols_of t)) (RawClose name) i (a_raw_close t (λ e. some (n ∙ e))) refl (ap raw_close_tag (sym n))
    (subst (λ (z : Text). HasClosing raw_close_kind z (RawClose name) 0 i) b h)

pub inverse_read : (t : Text) (r : Option Inside) → MatchOption r (closing_of inverse_kind t ≡ None) (λ i. HasClosing inverse_kind t Inverse 0 i)
    → MatchOption r (NoneClosed inverse_kind t) (λ i. HasInside inverse_kind t i)
inverse_read t None none = none-inverse t none
inverse_read t (Some i) h = (text_read inverse_kind t t inverse_tag Inverse i (an_inverse t) refl refl h).0

-- ---- comments

comment_closes : (t : Text) → closing_of comment_kind t ≡ Some (false, t)
unfolding closing_of
comment_closes t = refl

pub comment_read : (t : Text) (text rest : Bor Text) (long_ahead : Bool) → IsComment t text.now rest.now
    → HasInside comment_kind t (record { content = Comment text; right = false; depth = 0; rest = rest; long_ahead = long_ahead })
comment_read t text rest long_ahead is = record {
  tag = comment_tag text.now;
  is = record { after = rest.now; says = a_comment is; closes = comment_closes rest.now };
  deep = refl;
  holds = refl;
}
