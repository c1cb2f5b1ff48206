-- The names of the expressions of blocks, as they are written, and what such expressions begin with.
use Rattle.std.proofs.Common.{◌≡◌, Bool, true, false, [], ◌++◌, Some, None, refl, sym, ap, subst, ◌∙◌}
use Rattle.std.proofs.lemmas.Bool.{false≢true}
use Rattle.std.proofs.lemmas.Option.{same_Some, none-some}
use Rattle.handlebars_base.specs.Bytes.{Text}
use Rattle.handlebars_base.specs.Path.{Reference, raw_of, Shape, itself, at_root, at_name, in_parts, plain, meaning, IsPath}
use Rattle.handlebars_base.specs.PathReading.{path_token_at}
use Rattle.handlebars_base.specs.Texts.{starts}
use Rattle.handlebars_expressions.specs.Parameter.{TermShape, literal_shape, path_shape, nested_shape, spelled_shape, spelled_items, term_of, Fits}
use Rattle.handlebars_expressions.specs.Expression.{identifier_name, opening_name, opens_section, NameShape, plain_name, term_name, spelled_name, IsName, term_of_name, Expression, Enclosure, in_block, IsExpression}
use Rattle.handlebars_expressions.proofs.Alone.{name_path}
use Rattle.handlebars_expressions.proofs.ExpressionPrefixes.{begins, key_starts, items_follow, Follows, follows_stops}
use Rattle.handlebars_expressions.proofs.ExpressionMarks.{path_token_at-stops}
use Rattle.handlebars_expressions.proofs.OpeningNames.{expression_stays}
use Rattle.handlebars_lexer.specs.Tag.{written_name, block_mode}

-- ---- a name alone

pub expression_starts : {around : Enclosure} {t left : Text} {expression : Expression} → IsExpression identifier_name around t expression left → starts begins t ≡ true
expression_starts {t = t} {left = left} x = on x.name x.is_name x.whole
  where
    after : Text
    after = spelled_items x.items ++ left

    on : (name : NameShape) → IsName identifier_name name x.items after → t ≡ spelled_name name ++ after → starts begins t ≡ true
    on (plain_name n) is whole = subst (λ (z : Text). starts begins z ≡ true) (sym whole) (key_starts n after is)
    on (term_name p) is whole = absurd (false≢true is.0)

-- it is allowed whether or not a section may be opened there
pub to_block : (sections : Bool) (t left : Text) (expression : Expression) → IsExpression identifier_name in_block t expression left → IsExpression (block_mode sections) in_block t expression left
to_block true t left expression x = expression_stays in_block t expression left x
to_block false t left expression x = x

pub to_opening : (sections : Bool) (t left : Text) (expression : Expression) → IsExpression (block_mode sections) in_block t expression left → IsExpression opening_name in_block t expression left
to_opening true t left expression x = x
to_opening false t left expression x = expression_stays in_block t expression left x

-- ---- the name as it is written

raw_of-meaning : (t : Text) (s : Shape) → raw_of (meaning t s) ≡ t
raw_of-meaning t itself = refl
raw_of-meaning t (at_root ss) = refl
raw_of-meaning t (at_name n name ss) = refl
raw_of-meaning t (in_parts b p ss) = refl

raw_of-path : (t : Text) (means : Reference) → IsPath t means → raw_of means ≡ t
raw_of-path t means is = ap raw_of is.gives ∙ raw_of-meaning t is.shape

-- It is the path at the start of the expression.
record IsNamePrefix (t : Text) (expression : Expression) : Type 0 where
  after : Text
  is : path_token_at t ≡ Some (written_name expression.name, after)

path_prefix : (t r after : Text) (means : Reference) → IsPath r means → Follows after → t ≡ r ++ after → path_token_at t ≡ Some (r, after)
path_prefix t r after means is follows whole = ap path_token_at whole ∙ path_token_at-stops r after means is (follows_stops after follows)

name_prefix : {around : Enclosure} {t left : Text} {expression : Expression} → IsExpression opening_name around t expression left → IsNamePrefix t expression
name_prefix {around} {t} {left} {expression} x = subst (IsNamePrefix t) (sym x.gives) (record { after = after; is = on x.name x.is_name x.whole })
  where
    after : Text
    after = spelled_items x.items ++ left

    follows : Follows after
    follows = items_follow around x.items left x.are_items x.closes

    of_term : (p : TermShape) → opens_section p x.items ≡ true → Fits p after → t ≡ spelled_shape p ++ after → path_token_at t ≡ Some (written_name (term_of p), after)
    of_term (literal_shape l) opens is whole = absurd (false≢true opens)
    of_term (path_shape r means) opens is whole =
        path_prefix t r after means is follows whole ∙ ap (λ (z : Text). Some (z, after)) (sym (raw_of-path r means is))
    of_term (nested_shape w name inner v) opens is whole = absurd (false≢true opens)

    on : (name : NameShape) → IsName opening_name name x.items after → t ≡ spelled_name name ++ after → path_token_at t ≡ Some (written_name (term_of_name name), after)
    on (plain_name n) is whole = path_prefix t n after (meaning n (in_parts false (plain n) [])) (name_path n is) follows whole
    on (term_name p) is whole = of_term p is.0 is.1 whole

pub written-prefix : {around : Enclosure} {t left name rest : Text} {expression : Expression} → IsExpression opening_name around t expression left → path_token_at t ≡ Some (name, rest) → written_name expression.name ≡ name
written-prefix {name = name} {rest = rest} {expression = expression} x e =
    let f = name_prefix x in
    let same = same_Some (written_name expression.name, f.after) (name, rest) (sym f.is ∙ e) in
    ap (λ (p : Text × Text). p.0) same

pub none-prefix : {A : Type 0} {around : Enclosure} {t left : Text} {expression : Expression} → IsExpression opening_name around t expression left → None ≡ path_token_at t → A
none-prefix x e = let f = name_prefix x in absurd (none-some _ (e ∙ f.is))
