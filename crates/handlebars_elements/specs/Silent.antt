-- What is executed with nothing written: decorators, and evaluation.
use Rattle.std.specs.Prelude.{◌≡◌, ◌≢◌, List, [], Ok, Err}
use Rattle.handlebars_base.specs.Reasons.{Refusal, out_of_memory}
use Rattle.handlebars_base.specs.RenderRefusals.{reason_in, refusal_of}
use Rattle.handlebars_template.specs.Tree.{Decorator}
use Rattle.handlebars_helpers.specs.CallView.{CallView}
use Rattle.handlebars_helpers.specs.Decoration.{DecoratorKind, DecoratorView}
use Rattle.handlebars_semantics.specs.Means.{do_actions, shown_tag}
use Rattle.handlebars_semantics.specs.Questions.{decorator_of, actions_of}
use Rattle.handlebars_semantics.specs.Runs.{Ended, Failed, Runs}
use Rattle.handlebars_semantics.specs.State.{Setting, State}
use Rattle.handlebars_semantics.specs.Steps.{Steps, Prog, ask, state, ◌>>=◌}
use Rattle.handlebars_expand.specs.View.{ValueFails}
use Rattle.handlebars_write.specs.View.{Answered}

-- From this state, with nothing written, the program leads to the next state, or it fails.
abbrev pub Does : Setting → Prog (Unit {0}) → State → Answered → State → Type 0
Does p m s (Ok u) next = (k : Unit {0} → Steps) (ps : List _) (o : _) → Runs p (k tt) next ps o → Runs p (m k) s ps o
Does p m s (Err e) next = reason_in e ≢ out_of_memory → ValueFails p m s (refusal_of e)

-- From this state, with nothing written, the steps end in the next state, or they fail. The error is the refusal, mapped by
-- `seen`.
abbrev pub Evals : Setting → Steps → (Refusal → Refusal) → State → Answered → State → Type 0
Evals p k seen s (Ok u) next = Runs p k s [] (Ended next)
Evals p k seen s (Err e) next =
    reason_in e ≢ out_of_memory → (r : Refusal) × Runs p k s [] (Failed r) × (refusal_of e ≡ seen r)

-- a decorator is asked for its actions, and they are executed
abbrev pub decorate_by : DecoratorKind → DecoratorView → Prog (Unit {0})
decorate_by kind v = ask (actions_of kind v) >>= do_actions v.body

-- the same for the decorator of the tag's name
abbrev pub decorate_as : DecoratorView → Prog (Unit {0})
decorate_as v = ask (decorator_of v.call.name) >>= (λ kind. decorate_by kind v)

-- the same for a tag whose values are known
abbrev pub decorate_tag : Decorator → CallView → Prog (Unit {0})
decorate_tag t v = state >>= (λ s. decorate_as (shown_tag s.indent t v))
