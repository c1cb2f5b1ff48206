-- How the definitions view what the code says of the effect of a block.
use Rattle.handlebars_html.specs.Rule as rule
use Rattle.handlebars_html.specs.declared.effect.Effect.{Effect}
use Rattle.handlebars_html.specs.declared.effect.Effect.TheVariants as effect
use Rattle.handlebars_html.specs.declared.effect.Registered.{Registered}
use Rattle.handlebars_html.specs.declared.effect.Registered.TheVariants as registered

abbrev pub registered_view : Registered → rule.Registered
registered_view registered.AsFirst = rule.as_first
registered_view registered.UserValues = rule.user_values
registered_view registered.UserUrls = rule.user_urls

abbrev pub effect_view : Effect → rule.Effect
effect_view effect.OneBranch = rule.one_branch
effect_view effect.Iterations = rule.iterations
effect_view effect.Value = rule.a_value
effect_view effect.NoOutput = rule.no_output
