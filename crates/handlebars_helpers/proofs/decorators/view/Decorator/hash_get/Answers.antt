use Rattle.std.proofs.Common.{◌∙◌, ap, option_map}
use Rattle.handlebars_base.specs.PathAndData.{path_and_data}
use Rattle.handlebars_helpers.proofs.Hash.{option_map-now, option_map-lookup}
use Rattle.handlebars_helpers.proofs.decorators.view.Decorator.hash_get.Goals as goal

pub returns : goal.returns
returns c =
    option_map-now path_and_data c.get.result ∙ ap (option_map path_and_data) c.get.ensures.value
    ∙ option_map-lookup path_and_data c.args.key.now c.args.self.now.hash.entries
