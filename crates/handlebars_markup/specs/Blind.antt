-- Templates that are blind to the texts of their data: what they do with a value doesn't depend on what its texts are, except
-- where the value is written, escaped.
use Rattle.std.specs.Prelude.{◌≡◌, Bool, true, false, [], unwrap_or}
use Rattle.handlebars_base.specs.Bytes.{Text}
use Rattle.handlebars_base.specs.EscapeLaws.{marks_in}
use Rattle.handlebars_base.specs.Optional.{with_or}
use Rattle.handlebars_base.specs.Path.{raw_of}
use Rattle.handlebars_base.specs.Values.{rendered}
use Rattle.handlebars_template.specs.Tree.{Tree, tree, Elements, no_elements, element, Element, raw_string, html_expression, escaped_expression, helper_block, decorator_expression, decorator_block, partial_expression, partial_block, comment, Call, call, Decorator, decorator, DecoratorMarks, Args, args, args_params, args_hash, Param, name, path, literal, subexpression, Params, no_params, param, Hash, no_hash, hash_pair, lacks_hash, Bodies, bodies, Body, no_body, body}
use Rattle.handlebars_helpers.specs.Callee.{Callee, built, user}
use Rattle.handlebars_helpers.specs.Choice.{BuiltInKind, kind_if, kind_unless, kind_each, kind_with, kind_lookup, kind_raw, kind_log, kind_eq, kind_ne, kind_gt, kind_gte, kind_lt, kind_lte, kind_and, kind_or, kind_not, kind_len}
use Rattle.handlebars_helpers.specs.Decoration.{DecoratorKind, kind_inline, kind_user}
use Rattle.handlebars_helpers.specs.Escaping.{for_html}
use Rattle.handlebars_helpers.specs.UserAnswers.{Registrations}
use Rattle.handlebars_semantics.specs.State.{hook}

-- ---- helpers and decorators

-- A helper that makes the same choice for values that are equal up to texts. Among the others, for example, `eq` and `lookup`
-- read what a text is, and `len` how long it is.
abbrev pub is_blind : BuiltInKind → Bool
is_blind kind_if = true
is_blind kind_unless = true
is_blind kind_each = true
is_blind kind_with = true
is_blind kind_raw = true
is_blind kind_and = true
is_blind kind_or = true
is_blind kind_not = true
is_blind kind_lookup = false
is_blind kind_log = false
is_blind kind_eq = false
is_blind kind_ne = false
is_blind kind_gt = false
is_blind kind_gte = false
is_blind kind_lt = false
is_blind kind_lte = false
is_blind kind_len = false

-- Nothing is known of a user-defined helper.
abbrev pub is_blind_callee : Callee → Bool
is_blind_callee (built k) = is_blind k
is_blind_callee (user n) = false

abbrev pub is_blind_decorator : DecoratorKind → Bool
is_blind_decorator kind_inline = true
is_blind_decorator (kind_user n) = false

module _ (r : Registrations) where
  -- What is registered under a name, if anything is, is blind. If nothing is, a block may be a section, which calls `if`,
  -- `each` or `with`: these are blind, and values that are equal up to texts call the same one.
  abbrev pub calls_blind : Text → Bool
  calls_blind n = with_or (r.helper n) is_blind_callee true

  abbrev pub decorates_blind : Text → Bool
  decorates_blind n = with_or (r.decorator n) is_blind_decorator true

-- ---- templates

-- The name is written, and this holds of it. It isn't made in parentheses, which could make it of a text. Of a path this
-- holds of its text: what is registered under that text is called before the path is followed.
abbrev pub IsStaticName : (Text → Bool) → Param → Type 0
IsStaticName test (name n) = test n ≡ true
IsStaticName test (path p) = test (raw_of p) ≡ true
IsStaticName test (literal d) = test (rendered d) ≡ true
IsStaticName test (subexpression e) = ⊥

-- The first parameter, if there is one, is a literal: `inline` takes it for a name.
abbrev pub IsLiteralFirst : Params → Type 0
IsLiteralFirst no_params = Unit {0}
IsLiteralFirst (param (name n) qs) = ⊥
IsLiteralFirst (param (path p) qs) = ⊥
IsLiteralFirst (param (literal d) qs) = Unit {0}
IsLiteralFirst (param (subexpression e) qs) = ⊥

-- Indentation is written once for each line, and there may be as many lines as a text has.
abbrev pub IsUnmarkedIndent : DecoratorMarks → Type 0
IsUnmarkedIndent m = marks_in (unwrap_or m.indent []) ≡ []

module _ (r : Registrations) where
  abbrev mutual
    pub IsBlindTree : Tree → Type 0
    IsBlindTree (tree n es positions) = AreBlindElements es

    pub AreBlindElements : Elements → Type 0
    AreBlindElements no_elements = Unit {0}
    AreBlindElements (element e es) = IsBlindElement e × AreBlindElements es

    -- An html expression writes the marks of its value.
    pub IsBlindElement : Element → Type 0
    IsBlindElement (raw_string t) = Unit {0}
    IsBlindElement (html_expression c) = ⊥
    IsBlindElement (escaped_expression c) = IsBlindCall c
    IsBlindElement (helper_block c) = IsBlindCall c
    IsBlindElement (decorator_expression t) = IsBlindTag t
    IsBlindElement (decorator_block t) = IsBlindTag t
    IsBlindElement (partial_expression t) = IsBlindInclusion t
    IsBlindElement (partial_block t) = IsBlindInclusion t
    IsBlindElement (comment t) = Unit {0}

    pub IsBlindCall : Call → Type 0
    IsBlindCall (call n xs b t m) = IsStaticName (calls_blind r) n × AreBlindArgs xs × AreBlindBodies t

    pub IsBlindTag : Decorator → Type 0
    IsBlindTag (decorator n xs b m) =
        IsStaticName (decorates_blind r) n × IsLiteralFirst (args_params xs) × AreBlindArgs xs × IsBlindBody b

    -- Hash arguments are merged into the value, where a text counts as its characters.
    pub IsBlindInclusion : Decorator → Type 0
    IsBlindInclusion (decorator n xs b m) =
        IsStaticName (λ t. true) n × (lacks_hash (args_hash xs) ≡ true) × IsUnmarkedIndent m × AreBlindArgs xs
        × IsBlindBody b

    pub AreBlindArgs : Args → Type 0
    AreBlindArgs (args ps hs) = AreBlindParams ps × IsBlindHash hs

    -- In parentheses there is a call, without bodies; nothing else has a value there.
    pub IsBlindInner : Element → Type 0
    IsBlindInner (raw_string t) = Unit {0}
    IsBlindInner (html_expression c) = Unit {0}
    IsBlindInner (escaped_expression c) = IsBlindInnerCall c
    IsBlindInner (helper_block c) = Unit {0}
    IsBlindInner (decorator_expression t) = Unit {0}
    IsBlindInner (decorator_block t) = Unit {0}
    IsBlindInner (partial_expression t) = Unit {0}
    IsBlindInner (partial_block t) = Unit {0}
    IsBlindInner (comment t) = Unit {0}

    pub IsBlindInnerCall : Call → Type 0
    IsBlindInnerCall (call n xs b t m) = IsStaticName (calls_blind r) n × AreBlindArgs xs

    pub IsBlindParam : Param → Type 0
    IsBlindParam (name n) = Unit {0}
    IsBlindParam (path p) = Unit {0}
    IsBlindParam (literal d) = Unit {0}
    IsBlindParam (subexpression e) = IsBlindInner e

    pub AreBlindParams : Params → Type 0
    AreBlindParams no_params = Unit {0}
    AreBlindParams (param q qs) = IsBlindParam q × AreBlindParams qs

    pub IsBlindHash : Hash → Type 0
    IsBlindHash no_hash = Unit {0}
    IsBlindHash (hash_pair k q hs) = IsBlindParam q × IsBlindHash hs

    pub AreBlindBodies : Bodies → Type 0
    AreBlindBodies (bodies b i) = IsBlindBody b × IsBlindBody i

    pub IsBlindBody : Body → Type 0
    IsBlindBody no_body = Unit {0}
    IsBlindBody (body t) = IsBlindTree t

-- ---- registries

-- Values are escaped for html, and the hooks, which are called if a name has no helper, are blind.
pub record HasBlindParts (r : Registrations) : Type 0 where
  pub escape : r.escape ≡ for_html
  pub hooks : (block : Bool) → calls_blind r (hook block) ≡ true
