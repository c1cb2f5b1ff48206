-- Edge cases of the definitions.
use Rattle.std.proofs.Common.{◌≡◌, Bool, true, false, [], ◌∷◌, None, codes, refl}
use Rattle.serde_json.specs.Data.{Data, string, array, no_items, item}
use Rattle.handlebars_base.specs.Bytes.{Text}
use Rattle.handlebars_base.specs.EscapeLaws.{marks_in}
use Rattle.handlebars_base.specs.Path.{named, relative}
use Rattle.handlebars_template.specs.Tree.{Tree, tree, no_elements, element, raw_string, html_expression, escaped_expression, helper_block, call, Call, args, no_arguments, Param, name, path, literal, subexpression, no_params, param, no_hash, no_binding, bodies, no_body, body, CallMarks}
use Rattle.handlebars_scope.specs.Scopes.{put_at}
use Rattle.handlebars_helpers.specs.Callee.{built, first_callee}
use Rattle.handlebars_helpers.specs.Choice.{kind_each, kind_len}
use Rattle.handlebars_helpers.specs.Decoration.{built_in_decorator}
use Rattle.handlebars_helpers.specs.Escaping.{for_html}
use Rattle.handlebars_helpers.specs.UserAnswers.{Registrations}
use Rattle.handlebars_semantics.specs.Sections.{section_kind}
use Rattle.handlebars_semantics.specs.State.{hook}
use Rattle.handlebars_markup.specs.Alike.{AreAlikeTexts, AreAlike}
use Rattle.handlebars_markup.specs.Blind.{calls_blind, IsBlindTree, HasBlindParts}

-- ---- values

quotes_are_alike : AreAlike (string (codes "x")) (string (codes "\"><"))
quotes_are_alike = tt

empty_is_alone : (t : Text) → AreAlikeTexts [] t → t ≡ []
empty_is_alone [] h = refl
empty_is_alone (b ∷ t) h = absurd h

-- ---- marks

marks_of_tag : marks_in (codes "a<b>") ≡ codes "<>"
marks_of_tag = refl

-- ---- templates, where nothing is registered but what is built in

abbrev first : Registrations
first = record { helper = first_callee; decorator = built_in_decorator; escape = for_html }

abbrev inline_marks : CallMarks
inline_marks = record { block = false; chain = false; indent_before_write = false }

abbrev block_marks : CallMarks
block_marks = record { block = true; chain = false; indent_before_write = false }

-- the path `a`
abbrev a : Param
a = path (relative (named (codes "a") ∷ []) (codes "a"))

-- `a` as a value
abbrev a_value : Call
a_value = call a no_arguments no_binding (bodies no_body no_body) inline_marks

-- `eq a "x"`
abbrev a_is_x : Call
a_is_x =
    call (name (codes "eq")) (args (param a (param (literal (string (codes "x"))) no_params)) no_hash) no_binding
    (bodies no_body no_body) inline_marks

-- a block of `if` with this condition, around the tree
abbrev if_block : Param → Tree → Tree
if_block condition t =
    tree None (element (helper_block (call (name (codes "if")) (args (param condition no_params) no_hash) no_binding
    (bodies (body t) no_body) block_marks)) no_elements) []

-- `<p title="{{a}}">`
abbrev title : Tree
title =
    tree None (element (raw_string (codes "<p title=\"")) (element (escaped_expression a_value)
    (element (raw_string (codes "\">")) no_elements))) []

parts_are_blind : HasBlindParts first
parts_are_blind = record { escape = refl; hooks = hooks_are_blind }
  where
    hooks_are_blind : (block : Bool) → calls_blind first (hook block) ≡ true
    hooks_are_blind true = refl
    hooks_are_blind false = refl

-- `{{#if a}}<p title="{{a}}">{{/if}}` is blind.
if_is_blind : IsBlindTree first (if_block a title)
if_is_blind = ((refl, ((tt, tt), tt), ((tt, ((refl, (tt, tt), (tt, tt)), (tt, tt))), tt)), tt)

-- `{{#if (eq a "x")}}..{{/if}}` is not: it compares a text.
eq_is_not_blind : IsBlindTree first (if_block (subexpression (escaped_expression a_is_x)) title) → ⊥
eq_is_not_blind h = let is : false ≡ true = h.0.1.0.0.0 in cc

-- Nor is `{{{a}}}`, which writes the marks of its value.
html_is_not_blind : IsBlindTree first (tree None (element (html_expression a_value) no_elements) []) → ⊥
html_is_not_blind h = h.0

-- ---- sections

-- a block with no parameters and no hash arguments, of this name, around the tree
abbrev section : Param → Tree → Tree
section n t =
    tree None (element (helper_block (call n no_arguments no_binding (bodies (body t) no_body) block_marks)) no_elements) []

-- the path `a.b`
abbrev a_b : Param
a_b = path (relative (named (codes "a") ∷ named (codes "b") ∷ []) (codes "a.b"))

abbrev list_of : Data → Data
list_of d = array (item d no_items)

-- Over lists of one text each `{{#a}}..{{/a}}` takes one iteration, whatever the texts say, and it is blind.
lists_are_alike : AreAlike (list_of (string (codes "x"))) (list_of (string (codes "\"><")))
lists_are_alike = (tt, tt)

list_iterates : (d : Data) → section_kind (list_of d) ≡ kind_each
list_iterates d = refl

section_is_blind : IsBlindTree first (section (name (codes "a")) title)
section_is_blind = ((refl, (tt, tt), ((tt, ((refl, (tt, tt), (tt, tt)), (tt, tt))), tt)), tt)

-- `{{#len}}..{{/len}}` is not: the helper of the name is called, and reads how long a text is.
len_is_not_blind : IsBlindTree first (section (name (codes "len")) title) → ⊥
len_is_not_blind h = let is : false ≡ true = h.0.0 in cc

-- `{{#a.b}}..{{/a.b}}` is blind, and isn't if such a helper is registered under `a.b`.
path_is_blind : IsBlindTree first (section a_b title)
path_is_blind = ((refl, (tt, tt), ((tt, ((refl, (tt, tt), (tt, tt)), (tt, tt))), tt)), tt)

abbrev with_reader : Registrations
with_reader = record first { helper = put_at (codes "a.b") (built kind_len) first_callee }

named_path_is_not_blind : IsBlindTree with_reader (section a_b title) → ⊥
named_path_is_not_blind h = let is : false ≡ true = h.0.0 in cc
