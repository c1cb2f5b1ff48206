use Rattle.std.proofs.Common.{◌∙◌, ap, string_bytes}
use Rattle.handlebars_base.specs.Answers.{gives}
use Rattle.handlebars_layers.specs.Chain.{names_at}
use Rattle.handlebars_layers.specs.Destination.{frames_in, given_in, route_names}
use Rattle.handlebars_layers.specs.Under.{found_hit}
use Rattle.handlebars_layers.specs.declared.destination.Destination.TheVariants.{Node}
use Rattle.handlebars_layers.proofs.Destinations.{destination-by}
use Rattle.handlebars_layers.proofs.Under.{under-found}
use Rattle.handlebars_layers.proofs.prefixes.under_prefix.Goals as goal

pub returns-in-Some : goal.returns-in-Some
returns-in-Some c =
    destination-by (Node c.in-Some.node) (route_names c.in-Some.field-0-1) _ (ap (λ h. gives (found_hit h)) c.in-Some.ensures.found
    ∙ ap gives (under-found (given_in c.args.scopes) (names_at (frames_in c.args.scopes)) (string_bytes c.args.name.now)))

pub returns-in-None : goal.returns-in-None
returns-in-None c =
    ap (λ h. gives (found_hit h)) c.in-None.ensures.found
    ∙ ap gives (under-found (given_in c.args.scopes) (names_at (frames_in c.args.scopes)) (string_bytes c.args.name.now))
