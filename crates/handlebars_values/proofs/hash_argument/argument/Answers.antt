use Rattle.std.proofs.Common.{◌∙◌, ap, option_map}
use Rattle.handlebars_values.specs.ParamView.{argument_view}
use Rattle.handlebars_values.proofs.ByKey.{option_map-now, option_map-lookup}
use Rattle.handlebars_values.proofs.hash_argument.argument.Goals as goal

pub returns : goal.returns
returns c =
    option_map-now argument_view c.get.result ∙ ap (option_map argument_view) c.get.ensures.value
    ∙ option_map-lookup argument_view c.args.key.now c.args.hash.now.entries
