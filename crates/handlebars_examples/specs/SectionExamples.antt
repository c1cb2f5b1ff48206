-- Worked blocks whose name has no helper: sections, each with its outcome over data, and blocks that fail.
use Rattle.std.specs.Prelude.{[], ◌∷◌, codes, true, false}
use Rattle.serde_json.specs.Data.{Data, null, boolean}
use Rattle.handlebars_base.specs.Reasons.{helper_not_found}
use Rattle.handlebars_base.specs.RenderRefusals.{plain_refusal}
use Rattle.handlebars_template.specs.Tree.{Body}
use Rattle.handlebars_semantics.specs.Answer.{RenderAnswers}
use Rattle.handlebars_semantics.specs.Laws.{alone, with_sections}
use Rattle.handlebars_semantics.specs.Runs.{Failed}
use Rattle.handlebars_examples.specs.HelperExamples.{RenderingFailsAt}
use Rattle.handlebars_examples.specs.Examples.{with, over, from_registered, block}
use Rattle.handlebars_examples.specs.ScopeExamples.{natural, array_of, with_two, Gives}

-- For an array a section renders its body for each item.
abbrev pub ArrayExample : Type 0
ArrayExample =
    Gives (over (with (codes "a") (array_of (with (codes "x") (natural 1) ∷ with (codes "x") (natural 2) ∷ []))))
    (codes "{{#a}}{{x}},{{/a}}") (codes "1,2,")

-- For an object it renders its body with the object as value.
abbrev pub ObjectExample : Type 0
ObjectExample = Gives (over (with (codes "a") (with (codes "x") (natural 5)))) (codes "{{#a}}{{x}}{{/a}}") (codes "5")

-- For true it renders its body in the scope around it.
abbrev pub BooleanExample : Type 0
BooleanExample = Gives (over (with_two (codes "a") (boolean true) (codes "x") (natural 3)))
    (codes "{{#a}}{{x}}{{/a}}") (codes "3")

-- If its value is missing, nothing is written.
abbrev pub NoValueExample : Type 0
NoValueExample = Gives (over null) (codes "{{#none}}x{{/none}}") []

-- A block with a parameter is no section: if no helper has its name, it fails, over any data.
abbrev pub ParameterExample : Type 0
ParameterExample = (given : Data) → RenderingFailsAt (over given) (codes "{{#a 1}}x{{/a}}") [] 1 (helper_not_found (codes "a"))

-- If there are no sections, every block whose name has no helper fails: {{#a}}..{{/a}}.
abbrev pub NoSectionsExample : Type 0
NoSectionsExample = (given : Data) (b i : Body)
    → RenderAnswers (with_sections false (over given)) (from_registered (alone (block (codes "a") [] b i))) []
    (Failed (plain_refusal (helper_not_found (codes "a"))))
