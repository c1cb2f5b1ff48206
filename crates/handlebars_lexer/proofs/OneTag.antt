-- At most one tag is at the start of a text.
use Rattle.std.proofs.Common.{◌≡◌, Bool, true, ◌++◌, Some, None, refl, sym, ap, ◌∙◌, inl, inr}
use Rattle.std.specs.Prelude.{◌==◌}
use Rattle.std.proofs.lemmas.Option.{same_Some, none-some}
use Rattle.std.proofs.lemmas.List.{append_cancel_right}
use Rattle.handlebars_base.specs.Bytes.{Text, right_brace, after_white}
use Rattle.handlebars_base.specs.Texts.{starts, after_byte}
use Rattle.handlebars_base.proofs.Prefixes.{starts-other, after_byte-not}
use Rattle.handlebars_base.proofs.Bytes.{other_byte}
use Rattle.handlebars_expressions.specs.Expression.{NameMode, identifier_name, value_name, close_name, Expression, in_tag, tilde}
use Rattle.handlebars_expressions.proofs.ExpressionPrefixes.{begins}
use Rattle.handlebars_expressions.proofs.Expressions.{one_expression}
use Rattle.handlebars_lexer.specs.Kind.{TagKind, escaped_kind, html_kind, html_sign_kind, block_kind, close_kind, inverse_kind, else_kind, raw_kind, raw_close_kind, decorator_kind, decorator_block_kind, partial_kind, partial_block_kind, comment_kind, beginning_of, closing_of}
use Rattle.handlebars_lexer.specs.Tag.{Tag, comment_tag, BlockExpression, IsBlockExpression, block_mode, Tildes, OneTag}
use Rattle.handlebars_lexer.specs.TagView.{IsClosed}
use Rattle.handlebars_lexer.proofs.ExpressionNames.{expression_starts}
use Rattle.handlebars_lexer.proofs.BlockExpressions.{one_block_expression}
use Rattle.handlebars_lexer.proofs.Comments.{one_comment}
use Rattle.handlebars_lexer.proofs.Insides.{ExpressionSaid, BlockSaid, TextSaid, Said, said}
use Rattle.handlebars_lexer.proofs.Tags.{tag-closed}

-- ---- an `else` with an expression isn't closed

expression_open : (t : Text) → starts begins (after_white t) ≡ true → closing_of else_kind t ≡ None
unfolding closing_of
expression_open t h =
    let no_tilde : after_byte tilde (after_white t) ≡ None = after_byte-not tilde (after_white t) (starts-other begins (λ b. b == 126) (after_white t) (other_byte begins 126 refl) h) in
    let no_brace : after_byte right_brace (after_white t) ≡ None = after_byte-not right_brace (after_white t) (starts-other begins (λ b. b == 125) (after_white t) (other_byte begins 125 refl) h) in
    rw (no_tilde, no_brace) refl

-- ---- the content is unique

record OneSaid (tag tag' : Tag) (rest rest' : Text) : Type 0 where
  tags : tag ≡ tag'
  rests : rest ≡ rest'

one_named : (mode : NameMode) (of : Expression → Tag) (t : Text) (tag tag' : Tag) (rest rest' : Text) → ExpressionSaid mode of t tag rest → ExpressionSaid mode of t tag' rest' → OneSaid tag tag' rest rest'
one_named mode of t tag tag' rest rest' h k =
    let one = one_expression mode in_tag t h.expression k.expression rest rest' h.is k.is in
    record { tags = h.gives ∙ ap of one.0 ∙ sym k.gives; rests = one.1 }

one_block : (mode : NameMode) (of : BlockExpression → Tag) (t : Text) (tag tag' : Tag) (rest rest' : Text) → BlockSaid mode of t tag rest → BlockSaid mode of t tag' rest' → OneSaid tag tag' rest rest'
one_block mode of t tag tag' rest rest' h k =
    let one = one_block_expression mode t h.expression k.expression rest rest' h.is k.is in
    record { tags = h.gives ∙ ap of one.0 ∙ sym k.gives; rests = one.1 }

one_text : (tag tag' said : Tag) (rest rest' left : Text) → TextSaid tag said rest left → TextSaid tag' said rest' left → OneSaid tag tag' rest rest'
one_text tag tag' said rest rest' left h k = record { tags = h.gives ∙ sym k.gives; rests = h.rests ∙ sym k.rests }

closed_expression : {A : Type 0} (t rest : Text) (expression : BlockExpression) (p : Bool × Text) → closing_of else_kind t ≡ Some p → IsBlockExpression identifier_name (after_white t) expression rest → A
closed_expression t rest expression p e h = absurd (none-some p (sym (expression_open t (expression_starts h.is_expression)) ∙ e))

-- both are closed
one_said : (sections : Bool) (k : TagKind) (t : Text) (tag tag' : Tag) (rest rest' : Text) (p q : Bool × Text) → closing_of k rest ≡ Some p → closing_of k rest' ≡ Some q → Said sections k t tag rest → Said sections k t tag' rest'
    → OneSaid tag tag' rest rest'
one_said sections escaped_kind t tag tag' rest rest' p q e f h k = one_named value_name _ t tag tag' rest rest' h k
one_said sections html_kind t tag tag' rest rest' p q e f h k = one_named value_name _ t tag tag' rest rest' h k
one_said sections html_sign_kind t tag tag' rest rest' p q e f h k = one_named value_name _ t tag tag' rest rest' h k
one_said sections block_kind t tag tag' rest rest' p q e f h k = one_block (block_mode sections) _ t tag tag' rest rest' h k
one_said sections close_kind t tag tag' rest rest' p q e f h k = one_text tag tag' _ rest rest' _ h k
one_said sections inverse_kind t tag tag' rest rest' p q e f h k = one_text tag tag' _ rest rest' _ h k
one_said sections else_kind t tag tag' rest rest' p q e f (inl h) (inl k) = one_text tag tag' _ rest rest' _ h k
one_said sections else_kind t tag tag' rest rest' p q e f (inl h) (inr k) = closed_expression t rest' k.said.expression p (ap (closing_of else_kind) (sym h.rests) ∙ e) k.said.is
one_said sections else_kind t tag tag' rest rest' p q e f (inr h) (inl k) = closed_expression t rest h.said.expression q (ap (closing_of else_kind) (sym k.rests) ∙ f) h.said.is
one_said sections else_kind t tag tag' rest rest' p q e f (inr h) (inr k) = one_block identifier_name _ (after_white t) tag tag' rest rest' h.said k.said
one_said sections raw_kind t tag tag' rest rest' p q e f h k = one_block identifier_name _ t tag tag' rest rest' h k
one_said sections raw_close_kind t tag tag' rest rest' p q e f h k = one_text tag tag' _ rest rest' _ h.said k.said
one_said sections decorator_kind t tag tag' rest rest' p q e f h k = one_block identifier_name _ t tag tag' rest rest' h.said k.said
one_said sections decorator_block_kind t tag tag' rest rest' p q e f h k = one_block identifier_name _ t tag tag' rest rest' h.said k.said
one_said sections partial_kind t tag tag' rest rest' p q e f h k = one_named close_name _ t tag tag' rest rest' h k
one_said sections partial_block_kind t tag tag' rest rest' p q e f h k = one_named close_name _ t tag tag' rest rest' h k
one_said sections comment_kind t tag tag' rest rest' p q e f h k =
    let one = one_comment t h.comment_text k.comment_text rest rest' h.is k.is in
    record { tags = h.gives ∙ ap comment_tag one.0 ∙ sym k.gives; rests = one.1 }

-- ---- the tag is unique

record OneClosed (tag tag' : Tag) (right right' : Bool) (rest rest' : Text) : Type 0 where
  tags : tag ≡ tag'
  rights : right ≡ right'
  rests : rest ≡ rest'

one_closed : (sections : Bool) (k : TagKind) (t : Text) (tag tag' : Tag) (right right' : Bool) (rest rest' : Text) → IsClosed sections k t tag right rest → IsClosed sections k t tag' right' rest' → OneClosed tag tag' right right' rest rest'
one_closed sections k t tag tag' right right' rest rest' h g =
    let one = one_said sections k t tag tag' h.after g.after (right, rest) (right', rest') h.closes g.closes (said sections k t tag h.after h.says) (said sections k t tag' g.after g.says) in
    let ends : ◌≡◌ {A = Bool × Text} (right, rest) (right', rest') = same_Some (right, rest) (right', rest') (sym h.closes ∙ ap (closing_of k) one.rests ∙ g.closes) in
    record { tags = one.tags; rights = ap (λ (p : Bool × Text). p.0) ends; rests = ap (λ (p : Bool × Text). p.1) ends }

pub one_tag : OneTag
one_tag sections left token token' rest rest' t t' tildes tildes' e f h g =
    let begins : beginning_of left ≡ Some h.begins = ap beginning_of e ∙ h.is_beginning in
    let first = tag-closed sections left token rest h.begins t tildes begins e h in
    let second = tag-closed sections left token' rest' h.begins t' tildes' begins f g in
    let one = one_closed sections h.begins.kind h.begins.inside t t' tildes.right tildes'.right rest rest' first.0 second.0 in
    let lefts : tildes.left ≡ tildes'.left = sym first.1 ∙ second.1 in
    let tokens : token ++ rest' ≡ token' ++ rest' = ap (λ (z : Text). token ++ z) (sym one.rests) ∙ sym e ∙ f in
    (append_cancel_right token token' rest' tokens, one.rests, one.tags, same_tildes tildes tildes' lefts one.rights)
  where
    same_tildes : (a b : Tildes) → a.left ≡ b.left → a.right ≡ b.right → a ≡ b
    same_tildes a b l r = ap (λ (z : Bool). let m : Tildes = record { left = z; right = a.right } in m) l ∙ ap (λ (z : Bool). let m : Tildes = record { left = b.left; right = z } in m) r
