-- Reads a source by functions, so that running them computes what a worked example compiles to.
use Rattle.std.proofs.Common.{◌≡◌, ℕ, suc, Bool, true, false, cond, Option, Some, None, [], ◌∷◌, ◌++◌, length, refl, sym, ap, ◌∙◌, subst, arith, inl, inr}
use Rattle.std.proofs.lemmas.Option.{same_Some, none-some}
use Rattle.handlebars_base.specs.Bytes.{Text, is_white, after_white}
use Rattle.handlebars_base.specs.Optional.{◌>>=◌}
use Rattle.handlebars_base.proofs.OptionBinds.{bind_some, cond_is}
use Rattle.handlebars_base.specs.Texts.{starts, symbols_of, after_symbols}
use Rattle.handlebars_expressions.specs.Runs.{read_all as steps}
use Rattle.handlebars_expressions.specs.CloseName.{close_name_at}
use Rattle.handlebars_expressions.specs.Expression.{NameMode, identifier_name, value_name, close_name, Enclosure, in_tag, in_block, Expression, IsExpression, NoExpression}
use Rattle.handlebars_expressions.specs.ExpressionReading.{expression_state, at_name, expression_step}
use Rattle.handlebars_expressions.proofs.ExpressionEvents.{expression_from}
use Rattle.handlebars_expressions.specs.Binding.{BoundNames, unbound, bound, both_bound}
use Rattle.handlebars_expressions.proofs.Stepping.{read_all-runs, read_all-some}
use Rattle.handlebars_expressions.proofs.Expressions.{expression_made, expression_found}
use Rattle.handlebars_expressions.proofs.ExpressionBounds.{expression_shortens}
use Rattle.handlebars_expressions.proofs.BindingReading.{binding_at}
use Rattle.handlebars_expressions.proofs.Bindings.{binding_at-takes}
use Rattle.handlebars_lexer.specs.Text.{Braces, IsText, at_end, at_tag, a_byte, braces, before_braces}
use Rattle.handlebars_lexer.specs.Kind.{TagKind, escaped_kind, html_kind, html_sign_kind, block_kind, close_kind, inverse_kind, else_kind, raw_kind, raw_close_kind, decorator_kind, decorator_block_kind, partial_kind, partial_block_kind, comment_kind, TagBeginning, beginning, beginning_of, closing_of}
use Rattle.handlebars_lexer.specs.Tag.{BlockExpression, Tag, escaped_tag, html_tag, block_tag, inverse_tag, chain_tag, close_tag, raw_tag, raw_close_tag, decorator_tag, decorator_block_tag, partial_tag, partial_block_tag, Tildes, IsBlockExpression, block_mode, IsDecoratorExpression, Says, a_value, a_raw_value, a_signed_value, a_block, a_close, an_inverse, an_else, a_chain, a_raw_block, a_raw_close, a_decorator, a_decorator_block, a_partial, a_partial_block, IsTag, NoTag}

-- a value, if a test holds
abbrev pub guarded : {A : Type 0} → Bool → A → Option A
guarded true x = Some x
guarded false x = None

pub guarded_some : {A : Type 0} (b : Bool) (x y : A) → guarded b x ≡ Some y → (b ≡ true) × (x ≡ y)
guarded_some true x y e = (refl, same_Some x y e)
guarded_some false x y e = absurd (none-some y e)

-- ---- expressions

abbrev pub parsed_expression : NameMode → Enclosure → Text → Option (Expression × Text)
parsed_expression mode around t = steps (expression_step around) (suc (length t)) (expression_state (at_name mode) 0) t >>= λ r. expression_from r.0 >>= λ expression. Some (expression, r.1)

parsed_expression-is : (mode : NameMode) (around : Enclosure) (t : Text) (q : Expression × Text) → parsed_expression mode around t ≡ Some q → IsExpression mode around t q.0 q.1
parsed_expression-is mode around t q e =
    let r = bind_some (steps (expression_step around) (suc (length t)) (expression_state (at_name mode) 0) t) _ q e in
    let l = bind_some (expression_from r.0.0) _ q r.2 in
    let made = expression_made mode around t r.0.0 r.0.1 (read_all-runs (expression_step around) (suc (length t)) (expression_state (at_name mode) 0) t r.0 r.1) in
    let same : (made.expression, r.0.1) ≡ q = ap (λ (z : Expression). (z, r.0.1)) (same_Some made.expression l.0 (sym made.from ∙ l.1)) ∙ same_Some (l.0, r.0.1) q l.2 in
    subst (λ (z : Expression × Text). IsExpression mode around t z.0 z.1) same made.is

abbrev block_with : Expression → BoundNames × Text → BlockExpression × Text
block_with expression b = (record { name = expression.name; terms = expression.terms; binding = b.0; depth = expression.depth }, b.1)

abbrev pub block_expression_at : NameMode → Text → Option (BlockExpression × Text)
block_expression_at mode t = parsed_expression mode in_block t >>= λ l. binding_at l.1 >>= λ b. Some (block_with l.0 b)

block_expression_at-is : (mode : NameMode) (t : Text) (q : BlockExpression × Text) → block_expression_at mode t ≡ Some q → IsBlockExpression mode t q.0 q.1
block_expression_at-is mode t q e =
    let l = bind_some (parsed_expression mode in_block t) _ q e in
    let b = bind_some (binding_at l.0.1) _ q l.2 in
    subst (λ (z : BlockExpression × Text). IsBlockExpression mode t z.0 z.1) (same_Some (block_with l.0.0 b.0) q b.2) (record {
      after = l.0.1;
      is_expression = parsed_expression-is mode in_block t l.0 l.1;
      binds = binding_at-takes l.0.1 b.0 b.1;
    })

abbrev binds_none : BoundNames → Bool
binds_none unbound = true
binds_none (bound x) = false
binds_none (both_bound x y) = false

binds_none-is : (b : BoundNames) → binds_none b ≡ true → b ≡ unbound
binds_none-is unbound e = refl
binds_none-is (bound x) e = absurd cc
binds_none-is (both_bound x y) e = absurd cc

abbrev decorator_expression_at : Text → Option (BlockExpression × Text)
decorator_expression_at t = block_expression_at identifier_name t >>= λ l. guarded (binds_none l.0.binding) l

decorator_expression_at-is : (t : Text) (q : BlockExpression × Text) → decorator_expression_at t ≡ Some q → IsDecoratorExpression t q.0 q.1
decorator_expression_at-is t q e =
    let l = bind_some (block_expression_at identifier_name t) _ q e in
    let g = guarded_some (binds_none l.0.0.binding) l.0 q l.2 in
    subst (λ (z : BlockExpression × Text). IsDecoratorExpression t z.0 z.1) g.1 (record { is_expression = block_expression_at-is identifier_name t l.0 l.1; binds_none = binds_none-is l.0.0.binding g.0 })

-- ---- tags

abbrev tagged : (Expression → Tag) → Option (Expression × Text) → Option (Tag × Text)
tagged f o = o >>= λ l. Some (f l.0, l.1)

abbrev block_tagged : (BlockExpression → Tag) → Option (BlockExpression × Text) → Option (Tag × Text)
block_tagged f o = o >>= λ l. Some (f l.0, l.1)

abbrev else_at : Option (Bool × Text) → Text → Option (Tag × Text)
else_at None t = cond (starts is_white t) (block_tagged chain_tag (block_expression_at identifier_name (after_white t))) None
else_at (Some c) t = Some (inverse_tag, t)

abbrev raw_close_at : Text → Text → Option (Tag × Text)
raw_close_at [] rest = None
raw_close_at (b ∷ n) rest = Some (raw_close_tag (b ∷ n), rest)

abbrev pub says_at : Bool → TagKind → Text → Option (Tag × Text)
says_at sections escaped_kind t = tagged escaped_tag (parsed_expression value_name in_tag t)
says_at sections html_kind t = tagged html_tag (parsed_expression value_name in_tag t)
says_at sections html_sign_kind t = tagged html_tag (parsed_expression value_name in_tag t)
says_at sections block_kind t = block_tagged block_tag (block_expression_at (block_mode sections) t)
says_at sections close_kind t = Some (close_tag (close_name_at t).0, (close_name_at t).1)
says_at sections inverse_kind t = Some (inverse_tag, t)
says_at sections else_kind t = else_at (closing_of else_kind t) t
says_at sections raw_kind t = block_tagged raw_tag (block_expression_at identifier_name t)
says_at sections raw_close_kind t = raw_close_at (symbols_of t) (after_symbols t)
says_at sections decorator_kind t = block_tagged decorator_tag (decorator_expression_at t)
says_at sections decorator_block_kind t = block_tagged decorator_block_tag (decorator_expression_at t)
says_at sections partial_kind t = tagged partial_tag (parsed_expression close_name in_tag t)
says_at sections partial_block_kind t = tagged partial_block_tag (parsed_expression close_name in_tag t)
says_at sections comment_kind t = None

abbrev SaysSo : Bool → TagKind → Text → Tag × Text → Type 0
SaysSo sections k t q = Says sections k t q.0 q.1

tagged-is : (sections : Bool) (k : TagKind) (mode : NameMode) (f : Expression → Tag) (t : Text) (q : Tag × Text) → tagged f (parsed_expression mode in_tag t) ≡ Some q
    → ((expression : Expression) (rest : Text) → IsExpression mode in_tag t expression rest → Says sections k t (f expression) rest) → Says sections k t q.0 q.1
tagged-is sections k mode f t q e says =
    let l = bind_some (parsed_expression mode in_tag t) _ q e in
    subst (SaysSo sections k t) (same_Some (f l.0.0, l.0.1) q l.2) (says l.0.0 l.0.1 (parsed_expression-is mode in_tag t l.0 l.1))

block_tagged-is : (sections : Bool) (k : TagKind) (mode : NameMode) (f : BlockExpression → Tag) (t inside : Text) (q : Tag × Text) → block_tagged f (block_expression_at mode t) ≡ Some q
    → ((expression : BlockExpression) (rest : Text) → IsBlockExpression mode t expression rest → Says sections k inside (f expression) rest) → Says sections k inside q.0 q.1
block_tagged-is sections k mode f t inside q e says =
    let l = bind_some (block_expression_at mode t) _ q e in
    subst (SaysSo sections k inside) (same_Some (f l.0.0, l.0.1) q l.2) (says l.0.0 l.0.1 (block_expression_at-is mode t l.0 l.1))

decorator_tagged-is : (sections : Bool) (k : TagKind) (f : BlockExpression → Tag) (t : Text) (q : Tag × Text) → block_tagged f (decorator_expression_at t) ≡ Some q
    → ((expression : BlockExpression) (rest : Text) → IsDecoratorExpression t expression rest → Says sections k t (f expression) rest) → Says sections k t q.0 q.1
decorator_tagged-is sections k f t q e says =
    let l = bind_some (decorator_expression_at t) _ q e in
    subst (SaysSo sections k t) (same_Some (f l.0.0, l.0.1) q l.2) (says l.0.0 l.0.1 (decorator_expression_at-is t l.0 l.1))

else_at-is : (sections : Bool) (o : Option (Bool × Text)) (t : Text) (q : Tag × Text) → else_at o t ≡ Some q → Says sections else_kind t q.0 q.1
else_at-is sections (Some c) t q e = subst (SaysSo sections else_kind t) (same_Some (inverse_tag, t) q e) (an_else t)
else_at-is sections None t q e = elim (cond_is (starts is_white t) (block_tagged chain_tag (block_expression_at identifier_name (after_white t))) None (Some q) e) [
  | inl white ↦ block_tagged-is sections else_kind identifier_name chain_tag (after_white t) t q white.1 (λ expression rest is. a_chain white.0 is)
  | inr other ↦ absurd (none-some q other.1)
]

raw_close_at-is : (sections : Bool) (n t : Text) (q : Tag × Text) → n ≡ symbols_of t → raw_close_at n (after_symbols t) ≡ Some q → Says sections raw_close_kind t q.0 q.1
raw_close_at-is sections [] t q is e = absurd (none-some q e)
raw_close_at-is sections (b ∷ n) t q is e =
    subst (SaysSo sections raw_close_kind t) (ap (λ (z : Text). (raw_close_tag z, after_symbols t)) (sym is) ∙ same_Some (raw_close_tag (b ∷ n), after_symbols t) q e)
    (a_raw_close t (λ none. cons-nil b n (is ∙ none)))
  where
    cons-nil : (b : ℕ) (n : Text) → b ∷ n ≡ [] → ⊥
    cons-nil b n same = absurd cc

says_at-is : (sections : Bool) (k : TagKind) (t : Text) (q : Tag × Text) → says_at sections k t ≡ Some q → Says sections k t q.0 q.1
says_at-is sections escaped_kind t q e = tagged-is sections escaped_kind value_name escaped_tag t q e (λ expression rest is. a_value is)
says_at-is sections html_kind t q e = tagged-is sections html_kind value_name html_tag t q e (λ expression rest is. a_raw_value is)
says_at-is sections html_sign_kind t q e = tagged-is sections html_sign_kind value_name html_tag t q e (λ expression rest is. a_signed_value is)
says_at-is sections block_kind t q e = block_tagged-is sections block_kind (block_mode sections) block_tag t t q e (λ expression rest is. a_block is)
says_at-is sections close_kind t q e = subst (SaysSo sections close_kind t) (same_Some (close_tag (close_name_at t).0, (close_name_at t).1) q e) (a_close t)
says_at-is sections inverse_kind t q e = subst (SaysSo sections inverse_kind t) (same_Some (inverse_tag, t) q e) (an_inverse t)
says_at-is sections else_kind t q e = else_at-is sections (closing_of else_kind t) t q e
says_at-is sections raw_kind t q e = block_tagged-is sections raw_kind identifier_name raw_tag t t q e (λ expression rest is. a_raw_block is)
says_at-is sections raw_close_kind t q e = raw_close_at-is sections (symbols_of t) t q refl e
says_at-is sections decorator_kind t q e = decorator_tagged-is sections decorator_kind decorator_tag t q e (λ expression rest is. a_decorator is)
says_at-is sections decorator_block_kind t q e = decorator_tagged-is sections decorator_block_kind decorator_block_tag t q e (λ expression rest is. a_decorator_block is)
says_at-is sections partial_kind t q e = tagged-is sections partial_kind close_name partial_tag t q e (λ expression rest is. a_partial is)
says_at-is sections partial_block_kind t q e = tagged-is sections partial_block_kind close_name partial_block_tag t q e (λ expression rest is. a_partial_block is)
says_at-is sections comment_kind t q e = absurd (none-some q e)

pub record TagFound : Type 0 where
  pub tag : Tag
  pub tildes : Tildes
  pub rest : Text

abbrev tag_found : Bool → Tag → Bool × Text → TagFound
tag_found l t c = record { tag = t; tildes = record { left = l; right = c.0 }; rest = c.1 }

abbrev pub tag_at : Bool → Text → Option TagFound
tag_at sections t = beginning_of t >>= λ b. says_at sections b.kind b.inside >>= λ s. closing_of b.kind s.1 >>= λ c. Some (tag_found b.tilde s.0 c)

pub tag_at-is : (sections : Bool) (token rest : Text) (f : TagFound) → tag_at sections (token ++ rest) ≡ Some f → f.rest ≡ rest → IsTag sections token rest f.tag f.tildes
tag_at-is sections token rest f e is =
    let b = bind_some (beginning_of (token ++ rest)) _ f e in
    let s = bind_some (says_at sections b.0.kind b.0.inside) _ f b.2 in
    let c = bind_some (closing_of b.0.kind s.0.1) _ f s.2 in
    let same = same_Some (tag_found b.0.tilde s.0.0 c.0) f c.2 in
    let after : c.0.1 ≡ rest = ap (λ (z : TagFound). z.rest) same ∙ is in
    subst (λ (z : TagFound). IsTag sections token rest z.tag z.tildes) same (record {
      begins = b.0;
      after = s.0.1;
      is_beginning = b.1;
      left = refl;
      says = says_at-is sections b.0.kind b.0.inside s.0 s.1;
      closes = c.1 ∙ ap (λ (z : Text). Some (c.0.0, z)) after;
    })

-- ---- where no tag is read

pub no_expression_at : (mode : NameMode) (around : Enclosure) (t : Text) → steps (expression_step around) (suc (length t)) (expression_state (at_name mode) 0) t ≡ None → NoExpression mode around t
no_expression_at mode around t stops expression left is =
    let found = expression_found mode around t expression left is in
    none-some (found.events, left) (sym stops ∙ read_all-some (expression_step around) (expression_shortens around) (suc (length t)) (expression_state (at_name mode) 0) t found.events left (omega arith) found.runs)

no_value : (sections : Bool) (inside : Text) (tag : Tag) (after : Text) → NoExpression value_name in_tag inside → Says sections escaped_kind inside tag after → ⊥
no_value sections inside tag after none (a_value {expression = expression} is) = none expression after is

pub no_value_tag : {sections : Bool} (left inside : Text) (tilde : Bool) → beginning_of left ≡ Some (beginning escaped_kind tilde inside) → NoExpression value_name in_tag inside → NoTag sections left
no_value_tag {sections} left inside tilde o none token rest t tildes is tag =
    let same = same_Some (beginning escaped_kind tilde inside) tag.begins (sym o ∙ ap beginning_of is ∙ tag.is_beginning) in
    no_value sections inside t tag.after none (subst (λ (z : TagBeginning). Says sections z.kind z.inside t tag.after) (sym same) tag.says)

-- ---- texts without escapes

abbrev longer : ℕ → Text × Text → Text × Text
longer b q = (b ∷ q.0, q.1)

-- a text up to braces or the end, and what follows it
abbrev pub parsed_text : Braces → Text → Option (Text × Text)
parsed_text w [] = Some ([], [])
parsed_text w (b ∷ t) = cond (braces w (b ∷ t)) (Some ([], b ∷ t)) (cond (before_braces w (b ∷ t)) None (parsed_text w t >>= λ q. Some (longer b q)))

pub record FoundText (w : Braces) (t : Text) (q : Text × Text) : Type 0 where
  pub whole : t ≡ q.0 ++ q.1
  pub is_text : IsText w q.1 q.0 q.0

pub parsed_text-is : (w : Braces) (t : Text) (q : Text × Text) → parsed_text w t ≡ Some q → FoundText w t q
parsed_text-is w [] q e = subst (FoundText w []) (same_Some ([], []) q e) (record { whole = refl; is_text = at_end refl })
parsed_text-is w (b ∷ t) q e = elim (cond_is (braces w (b ∷ t)) (Some ([], b ∷ t)) (cond (before_braces w (b ∷ t)) None (parsed_text w t >>= λ q. Some (longer b q))) (Some q) e) [
  | inl here ↦ subst (FoundText w (b ∷ t)) (same_Some ([], b ∷ t) q here.1) (record { whole = refl; is_text = at_tag 0 here.0 (λ same. absurd (omega (arith, same))) })
  | inr on ↦ elim (cond_is (before_braces w (b ∷ t)) None (parsed_text w t >>= λ q. Some (longer b q)) (Some q) on.1) [
    | inl marks ↦ absurd (none-some q marks.1)
    | inr clear ↦
        let r = bind_some (parsed_text w t) (λ (q : Text × Text). Some (longer b q)) q clear.1 in
        let h = parsed_text-is w t r.0 r.1 in
        subst (FoundText w (b ∷ t)) (same_Some (longer b r.0) q r.2) (record {
          whole = ap (λ (z : Text). b ∷ z) h.whole;
          is_text = a_byte b (ap (λ (z : Text). before_braces w (b ∷ z)) (sym h.whole) ∙ clear.0) h.is_text;
        })
  ]
]
