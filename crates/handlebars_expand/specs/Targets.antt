-- The targets of calls.
use Rattle.std.specs.Prelude.{Bool}
use Rattle.handlebars_base.specs.Answers.{Answer}
use Rattle.handlebars_base.specs.Bytes.{Text}
use Rattle.handlebars_helpers.specs.CallView.{HelperView}
use Rattle.handlebars_helpers.specs.Callee.{Callee, built, user, Target, calls_registered, calls_local}
use Rattle.handlebars_helpers.specs.Choice.{Choice}
use Rattle.handlebars_helpers.specs.View.{built_in_kind}
use Rattle.handlebars_semantics.specs.Questions.{HasChoice, HasRegisteredChoice}
use Rattle.handlebars_semantics.specs.State.{Setting, State, hook}
use Rattle.handlebars_expand.specs.declared.registered.Target as declared
use Rattle.handlebars_expand.specs.declared.registered.Target.TheVariants.{Built, Named, Hooked, Local}

-- the definition's target for a call by this name, of a block or not
abbrev pub target_in : Bool → Text → declared.Target → Target
target_in block name (Built b) = calls_registered (built (built_in_kind b))
target_in block name Named = calls_registered (user name)
target_in block name Hooked = calls_registered (user (hook block))
target_in block name Local = calls_local name

-- Whatever the callee chooses for the first view, the target chooses for the second one.
abbrev pub ChoosesFor : Setting → State → Callee → HelperView → Target → HelperView → Type 0
ChoosesFor p s k w target h = (a : Answer Choice) → HasRegisteredChoice p s k w a → HasChoice p s target h a
