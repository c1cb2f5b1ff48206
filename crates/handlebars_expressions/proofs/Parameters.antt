-- A parameter alone: an expression in parentheses, a literal, or a path if no literal is at the start.
use Rattle.std.proofs.Common.{◌≡◌, ℕ, suc, List, [], ◌∷◌, ◌++◌, Option, Some, None, refl, sym, ap, subst, ◌∙◌, append-nil, max}
use Rattle.std.specs.Prelude.{◌==◌}
use Rattle.std.proofs.lemmas.Option.{same_Some, none-some}
use Rattle.handlebars_base.specs.Path.{Reference}
use Rattle.handlebars_base.specs.PathReading.{path_of}
use Rattle.handlebars_base.proofs.PathShapes.{path_known, path_is}
use Rattle.handlebars_base.proofs.Prefixes.{after_byte_takes, after_white-skips, after_white-append, after_byte-same}
use Rattle.handlebars_base.specs.Texts.{starts, after_byte}
use Rattle.handlebars_base.specs.Bytes.{after_white}
use Rattle.handlebars_expressions.specs.Literal.{spelled_literal, IsLiteralAt}
use Rattle.handlebars_expressions.specs.LiteralReading.{LiteralToken, literal_at}
use Rattle.handlebars_expressions.specs.Parameter.{Term, literal_term, path_term, call_term, TermShape, literal_shape, path_shape, nested_shape, spelled_shape, spelled_items, IsChosen, Fits, AreItems, term_of, terms_of, depth_of, items_depth, IsParameter, NoParameter}
use Rattle.handlebars_expressions.specs.Expression.{value_name, NameShape, plain_name, term_name, spelled_name, IsName, term_of_name, name_depth, in_parentheses, Expression, IsExpression, NoExpression}
use Rattle.handlebars_expressions.specs.ExpressionLaws.{HasExpression, OneParameter}
use Rattle.handlebars_expressions.proofs.LiteralsFound.{literal_at-some}
use Rattle.handlebars_expressions.proofs.ExpressionMarks.{literal_at-finds, literal_at-missing}
use Rattle.handlebars_expressions.proofs.ExpressionPrefixes.{begins_no_white, path_begins, literal_begins, shape_starts, single_no_parenthesis}
use Rattle.handlebars_expressions.proofs.ExpressionsRead.{path_chosen}
use Rattle.handlebars_expressions.proofs.Expressions.{one_expression}

-- ---- an expression in parentheses

-- after the opening parenthesis
pub record NestedParameter (r : List ℕ) (means : Term) (depth : ℕ) : Type 0 where
  pub expression : Expression
  pub left : List ℕ
  pub is : IsExpression value_name in_parentheses (after_white r) expression left
  pub closes : after_byte 41 (after_white left) ≡ Some []
  pub gives : means ≡ call_term expression.name expression.terms
  pub deep : depth ≡ suc expression.depth

pub nested-is : (text r : List ℕ) (expression : Expression) (left : List ℕ) → after_byte 40 text ≡ Some r → IsExpression value_name in_parentheses (after_white r) expression left → after_byte 41 (after_white left) ≡ Some [] → IsParameter text (call_term expression.name expression.terms) (suc expression.depth)
nested-is text r expression left opens h closes = on h.name h.is_name h.whole h.gives
  where
    on : (name : NameShape) → IsName value_name name h.items (spelled_items h.items ++ left) → after_white r ≡ spelled_name name ++ (spelled_items h.items ++ left)
        → expression ≡ record { name = term_of_name name; terms = terms_of h.items; depth = max (name_depth name) (items_depth h.items) } → IsParameter text (call_term expression.name expression.terms) (suc expression.depth)
    on (plain_name t) named whole gives = absurd named
    on (term_name p) named whole gives =
        let before = after_white-skips r in
        let last = after_white-skips left in
        let end : left ≡ last.white ++ 41 ∷ [] = last.whole ∙ ap (λ (z : List ℕ). last.white ++ z) (after_byte_takes 41 (after_white left) [] closes) in
        let inside : after_white r ≡ spelled_shape p ++ (spelled_items h.items ++ (last.white ++ 41 ∷ [])) = whole ∙ ap (λ (z : List ℕ). spelled_shape p ++ (spelled_items h.items ++ z)) end in
        record {
          shape = nested_shape before.white p h.items last.white;
          spells = after_byte_takes 40 text r opens ∙ ap (λ (z : List ℕ). 40 ∷ z) (before.whole ∙ ap (λ (z : List ℕ). before.white ++ z) inside);
          chosen = tt;
          fits = (before.is, named.0, subst (λ (z : List ℕ). Fits p (spelled_items h.items ++ z)) end named.1, subst (AreItems h.items) end h.are_items, last.is);
          gives = ap (λ (z : Expression). call_term z.name z.terms) gives;
          deep = ap (λ (z : Expression). suc z.depth) gives;
        }

-- by how deep the expression is
pub nested-has : (text r : List ℕ) (depth : ℕ) (left : List ℕ) → after_byte 40 text ≡ Some r → (h : HasExpression value_name in_parentheses (after_white r) depth left) → after_byte 41 (after_white left) ≡ Some [] → IsParameter text (call_term h.expression.name h.expression.terms) (suc depth)
nested-has text r depth left opens h closes =
    subst (λ (z : ℕ). IsParameter text (call_term h.expression.name h.expression.terms) (suc z)) h.deep (nested-is text r h.expression left opens h.is closes)

pub nested-read : (text r : List ℕ) (means : Term) (depth : ℕ) → after_byte 40 text ≡ Some r → IsParameter text means depth → NestedParameter r means depth
nested-read text r means depth opens h = on h.shape h.spells h.fits h.gives h.deep
  where
    never : (t : List ℕ) → text ≡ t → after_byte 40 t ≡ None → NestedParameter r means depth
    never t same none = absurd (none-some r (sym none ∙ ap (after_byte 40) (sym same) ∙ opens))

    on : (p : TermShape) → text ≡ spelled_shape p → Fits p [] → means ≡ term_of p → depth ≡ depth_of p → NestedParameter r means depth
    on (literal_shape l) spells fits gives deep = never (spelled_literal l) spells (single_no_parenthesis (spelled_literal l) (literal_begins l fits))
    on (path_shape t m) spells fits gives deep = never t spells (single_no_parenthesis t (path_begins t m fits))
    on (nested_shape w name items v) spells fits gives deep =
        let end : List ℕ = v ++ 41 ∷ [] in
        let inside : List ℕ = spelled_shape name ++ (spelled_items items ++ end) in
        let after : r ≡ w ++ inside = same_Some r (w ++ inside) (sym opens ∙ ap (after_byte 40) spells ∙ after_byte-same 40 (w ++ inside)) in
        let dark = begins_no_white inside (shape_starts name (spelled_items items ++ end) (spelled_items items ++ end) fits.2) in
        let white : after_white end ≡ 41 ∷ [] = after_white-append v (41 ∷ []) fits.4 refl in
        record {
          expression = record { name = term_of name; terms = terms_of items; depth = max (depth_of name) (items_depth items) };
          left = end;
          is = record {
            name = term_name name;
            items = items;
            whole = ap after_white after ∙ after_white-append w inside fits.0 dark;
            is_name = (fits.1, fits.2);
            are_items = fits.3;
            closes = ap (starts (λ b. b == 41)) white;
            gives = refl;
          };
          closes = ap (after_byte 41) white ∙ after_byte-same 41 [];
          gives = gives;
          deep = deep;
        }

pub nested-no_expression : (text r : List ℕ) → after_byte 40 text ≡ Some r → NoExpression value_name in_parentheses (after_white r) → NoParameter text
nested-no_expression text r opens none means depth h =
    let n = nested-read text r means depth opens h in
    none n.expression n.left n.is

-- more than a closing parenthesis is left
pub nested-goes_on : (text r : List ℕ) (depth : ℕ) (left : List ℕ) → after_byte 40 text ≡ Some r → HasExpression value_name in_parentheses (after_white r) depth left → (after_byte 41 (after_white left) ≡ Some [] → ⊥) → NoParameter text
nested-goes_on text r depth left opens expression more means deep h =
    let n = nested-read text r means deep opens h in
    let one = one_expression value_name in_parentheses (after_white r) n.expression expression.expression n.left left n.is expression.is in
    more (subst (λ (z : List ℕ). after_byte 41 (after_white z) ≡ Some []) one.1 n.closes)

-- ---- a literal, or a path

pub literal-is : (text : List ℕ) (f : LiteralToken) → literal_at text ≡ Some f → f.rest ≡ [] → IsParameter text (literal_term f.raw) f.depth
literal-is text f e whole =
    let h = literal_at-some text f e in
    record {
      shape = literal_shape h.literal;
      spells = h.is.whole ∙ ap (λ (z : List ℕ). spelled_literal h.literal ++ z) whole ∙ append-nil (spelled_literal h.literal);
      chosen = refl;
      fits = h.is.fits;
      gives = ap literal_term h.raw;
      deep = h.depth;
    }

pub path-is : (text : List ℕ) (means : Reference) → literal_at text ≡ None → path_of text ≡ Some means → IsParameter text (path_term means) 0
path-is text means none e = record {
  shape = path_shape text means;
  spells = refl;
  chosen = path_chosen text [] means (ap literal_at (append-nil text) ∙ none);
  fits = path_is text means e;
  gives = refl;
  deep = refl;
}

-- what begins with no parenthesis
pub data SingleParameter (text : List ℕ) (means : Term) (depth : ℕ) : Type 0 where
  single_literal : (f : LiteralToken) → literal_at text ≡ Some f → f.rest ≡ [] → means ≡ literal_term f.raw → depth ≡ f.depth → SingleParameter text means depth
  single_path : (m : Reference) → literal_at text ≡ None → path_of text ≡ Some m → means ≡ path_term m → depth ≡ 0 → SingleParameter text means depth

pub single-read : (text : List ℕ) (means : Term) (depth : ℕ) → after_byte 40 text ≡ None → IsParameter text means depth → SingleParameter text means depth
single-read text means depth closed h = on h.shape h.spells h.chosen h.fits h.gives h.deep
  where
    on : (p : TermShape) → text ≡ spelled_shape p → IsChosen p [] → Fits p [] → means ≡ term_of p → depth ≡ depth_of p → SingleParameter text means depth
    on (literal_shape l) spells chosen fits gives deep =
        let at : IsLiteralAt text l [] = record { whole = spells ∙ sym (append-nil (spelled_literal l)); fits = fits; stops = chosen } in
        let f = literal_at-finds text l [] at in
        single_literal f.token f.found f.rest (gives ∙ ap literal_term (sym f.raw)) (deep ∙ sym f.depth)
    on (path_shape t m) spells chosen fits gives deep =
        let none : literal_at text ≡ None = ap literal_at (spells ∙ sym (append-nil t)) ∙ literal_at-missing (t ++ []) chosen in
        single_path m none (ap path_of spells ∙ path_known t m fits) gives deep
    on (nested_shape w name items v) spells chosen fits gives deep =
        absurd (none-some _ (sym closed ∙ ap (after_byte 40) spells ∙ after_byte-same 40 _))

-- a literal at the start is not the whole
pub single-goes_on : (text : List ℕ) (f : LiteralToken) → after_byte 40 text ≡ None → literal_at text ≡ Some f → (f.rest ≡ [] → ⊥) → NoParameter text
single-goes_on text f closed e more means depth h = on (single-read text means depth closed h)
  where
    on : SingleParameter text means depth → ⊥
    on (single_literal g is whole gives deep) = more (ap (λ (z : LiteralToken). z.rest) (same_Some f g (sym e ∙ is)) ∙ whole)
    on (single_path m none is gives deep) = none-some f (sym none ∙ e)

-- and neither a literal nor a path
pub single-no_path : (text : List ℕ) → after_byte 40 text ≡ None → literal_at text ≡ None → path_of text ≡ None → NoParameter text
single-no_path text closed e no_path means depth h = on (single-read text means depth closed h)
  where
    on : SingleParameter text means depth → ⊥
    on (single_literal g is whole gives deep) = none-some g (sym e ∙ is)
    on (single_path m none is gives deep) = none-some m (sym no_path ∙ is)

-- ---- one meaning

nested-one : (text r : List ℕ) (a b : Term) (depth depth' : ℕ) → after_byte 40 text ≡ Some r → IsParameter text a depth → IsParameter text b depth' → (a ≡ b) × (depth ≡ depth')
nested-one text r a b depth depth' opens h g =
    let x = nested-read text r a depth opens h in
    let y = nested-read text r b depth' opens g in
    let one = one_expression value_name in_parentheses (after_white r) x.expression y.expression x.left y.left x.is y.is in
    (x.gives ∙ ap (λ (z : Expression). call_term z.name z.terms) one.0 ∙ sym y.gives, x.deep ∙ ap (λ (z : Expression). suc z.depth) one.0 ∙ sym y.deep)

single-one : (text : List ℕ) (a b : Term) (depth depth' : ℕ) → SingleParameter text a depth → SingleParameter text b depth' → (a ≡ b) × (depth ≡ depth')
single-one text a b depth depth' (single_literal f e whole gives deep) (single_literal g e' whole' gives' deep') =
    let same = same_Some f g (sym e ∙ e') in
    (gives ∙ ap (λ (z : LiteralToken). literal_term z.raw) same ∙ sym gives', deep ∙ ap (λ (z : LiteralToken). z.depth) same ∙ sym deep')
single-one text a b depth depth' (single_literal f e whole gives deep) (single_path m none is gives' deep') = absurd (none-some f (sym none ∙ e))
single-one text a b depth depth' (single_path m none is gives deep) (single_literal g e whole gives' deep') = absurd (none-some g (sym none ∙ e))
single-one text a b depth depth' (single_path m none is gives deep) (single_path m' none' is' gives' deep') =
    (gives ∙ ap path_term (same_Some m m' (sym is ∙ is')) ∙ sym gives', deep ∙ sym deep')

pub one_parameter : OneParameter
one_parameter text a b depth depth' h g = on (after_byte 40 text) refl
  where
    on : (o : Option (List ℕ)) → after_byte 40 text ≡ o → (a ≡ b) × (depth ≡ depth')
    on (Some r) opens = nested-one text r a b depth depth' opens h g
    on None closed = single-one text a b depth depth' (single-read text a depth closed h) (single-read text b depth' closed g)
