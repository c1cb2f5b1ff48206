-- Worked premises of laws are met, and the laws are drawn from them.
use Rattle.std.proofs.Common.{◌≡◌, true, false, Bool, cond, Option, None, Some, refl, sym, ap, ◌∙◌, subst, codes}
use Rattle.std.specs.Str.{bytes_eq, chars}
use Rattle.serde_json.specs.Data.{Data}
use Rattle.handlebars_base.specs.Bytes.{Text}
use Rattle.handlebars_base.specs.Texts as texts
use Rattle.handlebars_base.specs.EscapeLaws.{IsUnmarked, BeginsEntities}
use Rattle.handlebars_base.specs.Optional.{with_or}
use Rattle.handlebars_base.specs.Path.{raw_of}
use Rattle.handlebars_base.specs.Values.{rendered}
use Rattle.handlebars_expressions.specs.ExpressionReading as expressions
use Rattle.handlebars_lexer.specs.Kind.{beginning_of, closing_of}
use Rattle.handlebars_lexer.specs.Options.{no_options, named_options}
use Rattle.handlebars_template.specs.Tree.{Tree, tree, Elements, no_elements, element, Element, raw_string, html_expression, escaped_expression, helper_block, decorator_expression, decorator_block, partial_expression, partial_block, comment, Call, call, Param, name, path, literal, subexpression}
use Rattle.handlebars_template.proofs.Outcomes.{compilation_of-compiles}
use Rattle.handlebars_helpers.specs.Callee.{first_callee}
use Rattle.handlebars_helpers.specs.UserAnswers.{Registrations}
use Rattle.handlebars_semantics.specs.Answer.{Beginning, a_tree, no_tree, FromName, is_stored, has_begun, RenderAnswers}
use Rattle.handlebars_semantics.specs.Marked.{AllAsCompiled}
use Rattle.handlebars_semantics.specs.Means.{render_tree}
use Rattle.handlebars_semantics.specs.State.{IsLawful, first_state}
use Rattle.handlebars_semantics.specs.Steps.{◌>>=◌, ◌>>◌}
use Rattle.handlebars_laws.proofs.CompiledTrees.{compiles_so}
use Rattle.handlebars_laws.proofs.MarkedPieces.{name-indents_are_blank, name-data_is_no_markup}
use Rattle.handlebars_laws.proofs.OtherTemplates.{named_answer_only_by_names}
use Rattle.handlebars_laws.proofs.RenamedRuns.{named_answer_as_source}
use Rattle.handlebars_markup.specs.Blind.{calls_blind, is_blind_callee, IsStaticName, IsBlindTree, AreBlindElements, IsBlindElement, IsBlindCall, AreBlindArgs, AreBlindBodies}
use Rattle.handlebars_markup.specs.TwoRuns.{registrations}
use Rattle.handlebars_markup.proofs.FixedMarkup.{two_runs}
use Rattle.handlebars_examples.specs.Examples.{first_parts}
use Rattle.handlebars_examples.specs.LawExamples.{over_stored, IsOfSource, titles, NamesNoHelper, IsPlainCall, IsPlain, ArePlain, IsPlainTree, begins_with, main_tree, partials, OfSourcesExample, TitlesExample, NoOtherMarksExample, BlankIndentsExample, HelloExample, PlainTreesExample, PlainRegistryExample, PlainMarkupExample, MainSourceExample, OthersExample, SourceAgreesExample}
use Rattle.handlebars_examples.specs.MarkupExamples.{IsFirst, title_source, title_tree}
use Rattle.handlebars_examples.proofs.Answered.{no_user_parts}
use Rattle.handlebars_examples.proofs.MarkupExamples.{hooks-first, title_source_example}
use Rattle.handlebars_examples.proofs.RunOf.{RunFrom, tree_run}

-- ---- where marks are

pub of_sources_example : OfSourcesExample
of_sources_example templates are d = record {
  stored = λ n t is. let x = are n t is in compiles_so x.source x.options t x.compiles;
  passed = λ name q steps f answers among n t is. cc;
}

title_is_of_source : IsOfSource title_tree
title_is_of_source = record { source = title_source; options = no_options; compiles = title_source_example }

of_one : (b : Bool) (x t : Tree) → cond b (Some x) None ≡ Some t → IsOfSource x → IsOfSource t
of_one true x t is h = subst IsOfSource (cc) h
of_one false x t is h = absurd (cc)

pub titles_example : TitlesExample
titles_example n t is = of_one (bytes_eq n (codes "page")) title_tree t is title_is_of_source

titles_compiled : (d : Data) → AllAsCompiled (over_stored titles d)
titles_compiled d = of_sources_example titles titles_example d

pub no_other_marks_example : IsUnmarked → BeginsEntities → NoOtherMarksExample
no_other_marks_example unmarked entities d ps o a =
    name-data_is_no_markup unmarked entities (over_stored titles d) (codes "page") refl
    (titles_compiled d) ps o a

pub blank_indents_example : BlankIndentsExample
blank_indents_example d ps o a = name-indents_are_blank (over_stored titles d) (codes "page") (titles_compiled d) ps o a

-- ---- what is blind

module _ (r : Registrations) (first : IsFirst r) where
  blind_under : (n : Text) → first_callee n ≡ None → calls_blind r n ≡ true
  blind_under n none = ap (λ o. with_or o is_blind_callee true) (first.helpers n ∙ none)

  name_is_blind : (q : Param) → NamesNoHelper q → IsStaticName (calls_blind r) q
  name_is_blind (name n) none = blind_under n none
  name_is_blind (path p) none = blind_under (raw_of p) none
  name_is_blind (literal d) none = blind_under (rendered d) none
  name_is_blind (subexpression e) none = absurd none

  call_is_blind : (c : Call) → IsPlainCall c → IsBlindCall r c
  call_is_blind (call n xs b t m) h = (
    name_is_blind n h.0,
    subst (AreBlindArgs r) (sym h.1) (tt, tt),
    subst (AreBlindBodies r) (sym h.2) (tt, tt),
  )

  element_is_blind : (e : Element) → IsPlain e → IsBlindElement r e
  element_is_blind (raw_string t) h = tt
  element_is_blind (html_expression c) h = absurd h
  element_is_blind (escaped_expression c) h = call_is_blind c h
  element_is_blind (helper_block c) h = absurd h
  element_is_blind (decorator_expression t) h = absurd h
  element_is_blind (decorator_block t) h = absurd h
  element_is_blind (partial_expression t) h = absurd h
  element_is_blind (partial_block t) h = absurd h
  element_is_blind (comment t) h = tt

  elements_are_blind : (es : Elements) → ArePlain es → AreBlindElements r es
  elements_are_blind no_elements h = tt
  elements_are_blind (element e es) h = (element_is_blind e h.0, elements_are_blind es h.1)

  tree_is_blind : (t : Tree) → IsPlainTree t → IsBlindTree r t
  tree_is_blind (tree n es positions) h = elements_are_blind es h

pub plain_trees_example : PlainTreesExample
plain_trees_example r first t h = tree_is_blind r first t h

is_first : IsFirst (registrations first_parts)
is_first = record { helpers = λ name. refl; decorators = λ name. refl; escape = refl }

pub plain_registry_example : PlainRegistryExample
plain_registry_example templates plain = record {
  parts = record { escape = refl; hooks = hooks-first (registrations first_parts) is_first };
  stored = λ n t is. tree_is_blind (registrations first_parts) is_first t (plain n t is);
}

pub hello_example : HelloExample
hello_example = (tt, ((refl, refl, refl), tt))

tree_or : Tree → Beginning → Tree
tree_or t (a_tree u) = u
tree_or t (no_tree r) = t

lawful : (templates : Text → Option Tree) (d : Data) → IsLawful (over_stored templates d).parts
lawful templates d = record {
  helpers = λ called. record { steps = λ q x y i j. ∣ i ∙ sym j ∣₁; offer = λ q x y i j. ∣ i ∙ sym j ∣₁ };
  decorators = λ called q x y i j. ∣ i ∙ sym j ∣₁;
  escape = λ t x y i j. ∣ i ∙ sym j ∣₁;
}

pub plain_markup_example : PlainMarkupExample
unfolding tree_or
plain_markup_example templates plain t is one other alike =
    two_runs (over_stored templates one) (lawful templates one) (begins_with t) (λ a b x y. x ∙ sym y)
    (plain_registry_example templates plain)
    (λ u same. tree_is_blind (registrations first_parts) is_first u (subst IsPlainTree (sym (ap (tree_or t) same)) is))
    other alike

-- ---- what doesn't matter

pub main_source_example : MainSourceExample
unfolding beginning_of closing_of chars expressions.name_step expressions.after_step expressions.expression_step texts.after_byte
main_source_example = compilation_of-compiles (named_options (codes "main")) 1 _ _ refl

main_run : (d : Data) → RunFrom (over_stored partials d) (render_tree main_tree) (first_state false)
main_run d = tree_run (over_stored partials d) no_user_parts main_tree

pub others_example : OthersExample
unfolding ◌>>=◌ ◌>>◌ main_run
others_example templates main p d = record {
  pieces = (main_run d).pieces;
  last = _;
  answers = named_answer_only_by_names (over_stored partials d) (codes "main") _ _
      (has_begun (is_stored refl) (main_run d).runs) templates main (p, tt);
  is = refl;
}

pub source_agrees_example : SourceAgreesExample
unfolding ◌>>=◌ ◌>>◌ main_run
source_agrees_example d =
    let a : RenderAnswers (over_stored partials d) (FromName partials (codes "main")) (main_run d).pieces (main_run d).outcome =
    has_begun (is_stored refl) (main_run d).runs in (
      (main_run d).pieces,
      (main_run d).outcome,
      a,
      named_answer_as_source (over_stored partials d) (codes "main") _ no_options main_tree refl main_source_example _ _ a
          ((λ e. cc), tt),
    )
