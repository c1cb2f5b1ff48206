-- The worked example is blind with a new registry.
use Rattle.std.proofs.Common.{◌≡◌, Bool, true, false, refl, sym, ap, ◌∙◌, codes}
use Rattle.handlebars_base.specs.Bytes.{Text}
use Rattle.handlebars_base.specs.Optional.{with_or}
use Rattle.handlebars_expressions.specs.Binding.{after_bar, after_beginning}
use Rattle.handlebars_lexer.specs.Options.{no_options}
use Rattle.handlebars_template.proofs.Outcomes.{compilation_of-compiles}
use Rattle.handlebars_helpers.specs.Callee.{first_callee}
use Rattle.handlebars_helpers.specs.UserAnswers.{Registrations}
use Rattle.handlebars_semantics.specs.Answer.{compiles}
use Rattle.handlebars_semantics.specs.State.{hook}
use Rattle.handlebars_semantics.specs.Steps.{◌>>=◌, ◌>>◌}
use Rattle.handlebars_markup.specs.Blind.{calls_blind, is_blind_callee}
use Rattle.handlebars_examples.specs.MarkupExamples.{IsFirst, TitleSourceExample, BlindExample, ReadingSourceExample, ReadsTextsExample, AlikeExample, EmptyTextExample, MarksExample, ReadingAnswersExample}
use Rattle.handlebars_examples.proofs.Answered.{no_user_parts}
use Rattle.handlebars_examples.proofs.HelperTrees.{on_expressions, on_literals, on_parameters}
use Rattle.handlebars_examples.proofs.RunOf.{tree_run, gives_text}

pub title_source_example : TitleSourceExample
unfolding on_expressions on_parameters after_bar after_beginning
title_source_example = compilation_of-compiles no_options 3 _ _ refl

calls_blind-first : (r : Registrations) → IsFirst r → (n : Text)
    → calls_blind r n ≡ with_or (first_callee n) is_blind_callee true
calls_blind-first r h n = ap (λ o. with_or o is_blind_callee true) (h.helpers n)

pub hooks-first : (r : Registrations) → IsFirst r → (block : Bool) → calls_blind r (hook block) ≡ true
hooks-first r h true = calls_blind-first r h (hook true)
hooks-first r h false = calls_blind-first r h (hook false)

pub blind_example : BlindExample
blind_example r h = (
  (
    (
      calls_blind-first r h (codes "if"),
      ((tt, tt), tt),
      ((tt, ((calls_blind-first r h (codes "a"), (tt, tt), (tt, tt)), (tt, tt))), tt),
    ),
    tt,
  ),
  record { escape = h.escape; hooks = hooks-first r h },
)

pub reading_source_example : ReadingSourceExample
unfolding on_expressions on_parameters after_bar after_beginning on_literals
reading_source_example = compilation_of-compiles no_options 2 _ _ refl

pub reads_texts_example : ReadsTextsExample
reads_texts_example r h blind =
    let none : false ≡ true = sym (calls_blind-first r h (codes "eq")) ∙ blind.0.1.0.0.0 in cc

pub alike_example : AlikeExample
alike_example = (refl, tt, tt)

pub empty_text_example : EmptyTextExample
empty_text_example h = h.1

pub marks_example : MarksExample
marks_example = refl

pub reading_answers_example : ReadingAnswersExample
unfolding ◌>>=◌ ◌>>◌
reading_answers_example = (
  (refl, tt, tt),
  (
    gives_text (compiles reading_source_example) (tree_run _ no_user_parts _) refl,
    gives_text (compiles reading_source_example) (tree_run _ no_user_parts _) refl,
  ),
)
