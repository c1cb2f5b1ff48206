-- A worked example that is blind to the texts of its data, and one that isn't.
use Rattle.std.specs.Prelude.{◌≡◌, false, [], ◌∷◌, codes}
use Rattle.serde_json.specs.Data.{Data, string, object, member, no_members}
use Rattle.handlebars_base.specs.Bytes.{Text}
use Rattle.handlebars_base.specs.EscapeLaws.{marks_in}
use Rattle.handlebars_base.specs.Path.{named}
use Rattle.handlebars_lexer.specs.Options.{no_options}
use Rattle.handlebars_template.specs.Compile.{Compiles, compiled}
use Rattle.handlebars_template.specs.Nest.{block_of}
use Rattle.handlebars_template.specs.Calls.{plain_call}
use Rattle.handlebars_template.specs.Tree.{Tree, escaped_expression, args, no_params, param, no_hash, name, literal, subexpression, no_body}
use Rattle.handlebars_helpers.specs.Callee.{first_callee}
use Rattle.handlebars_helpers.specs.Decoration.{built_in_decorator}
use Rattle.handlebars_helpers.specs.Escaping.{for_html}
use Rattle.handlebars_helpers.specs.UserAnswers.{Registrations}
use Rattle.handlebars_markup.specs.Alike.{AreAlike}
use Rattle.handlebars_markup.specs.Blind.{IsBlindTree, HasBlindParts}
use Rattle.handlebars_examples.specs.Examples.{over}
use Rattle.handlebars_examples.specs.ScopeExamples.{Gives}
use Rattle.handlebars_examples.specs.SourceExamples.{alone_at_start, at, if_a, if_of, path_expression, path_to, text_element}

-- a text in an attribute, if there is one
abbrev pub title_source : Text
title_source = codes "{{#if a}}<p title=\"{{a}}\">{{/if}}"

abbrev pub title_tree : Tree
title_tree =
    alone_at_start
    (block_of (if_a false)
    (text_element 1 10 (codes "<p title=\"")
    ∷ record { position = at 1 20; element = path_expression (named (codes "a") ∷ []) (codes "a") }
    ∷ text_element 1 25 (codes "\">") ∷ []) [] no_body)

abbrev pub TitleSourceExample : Type 0
TitleSourceExample = Compiles title_source no_options (compiled title_tree)

-- what a new registry has
pub record IsFirst (r : Registrations) : Type 0 where
  pub helpers : (name : Text) → r.helper name ≡ first_callee name
  pub decorators : (name : Text) → r.decorator name ≡ built_in_decorator name
  pub escape : r.escape ≡ for_html

-- With a new registry the source is blind, and so is the registry.
abbrev pub BlindExample : Type 0
BlindExample = (r : Registrations) → IsFirst r → IsBlindTree r title_tree × HasBlindParts r

-- a mark that is written only if a text has one content
abbrev pub reading_source : Text
reading_source = codes "{{#if (eq a \"x\")}}<{{/if}}"

abbrev pub reading_tree : Tree
reading_tree =
    alone_at_start
    (block_of
    (if_of false
    (subexpression
    (escaped_expression
    (plain_call (name (codes "eq"))
    (args (param (path_to (codes "a")) (param (literal (string (codes "x"))) no_params)) no_hash)))))
    (text_element 1 19 (codes "<") ∷ []) [] no_body)

abbrev pub ReadingSourceExample : Type 0
ReadingSourceExample = Compiles reading_source no_options (compiled reading_tree)

abbrev pub ReadsTextsExample : Type 0
ReadsTextsExample = (r : Registrations) → IsFirst r → IsBlindTree r reading_tree → ⊥

-- ---- values

abbrev pub a_is : Text → Data
a_is t = object (member (codes "a") (string t) no_members)

-- Data are equal up to texts if one has a text and the other a text that would end the attribute, but not if the other text
-- is empty.
abbrev pub AlikeExample : Type 0
AlikeExample = AreAlike (a_is (codes "x")) (a_is (codes "\"><"))

abbrev pub EmptyTextExample : Type 0
EmptyTextExample = AreAlike (a_is (codes "x")) (a_is []) → ⊥

abbrev pub MarksExample : Type 0
MarksExample = marks_in (codes "<p title=\"x\">") ≡ codes "<=\"\">"

-- Over two values that are equal up to texts, the answers to the source that isn't blind have different markup.
abbrev pub ReadingAnswersExample : Type 0
ReadingAnswersExample =
    AreAlike (a_is (codes "x")) (a_is (codes "y"))
    × (Gives (over (a_is (codes "x"))) reading_source (codes "<") × Gives (over (a_is (codes "y"))) reading_source [])
