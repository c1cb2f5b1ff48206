use Rattle.std.proofs.Common.{ap, ◌∙◌, option_map}
use Rattle.handlebars_names.specs.NamesView.{scope_of}
use Rattle.handlebars_names.proofs.Places.{copied-scope, scope-found}
use Rattle.handlebars_names.proofs.table.scope_at.Goals as goal

pub returns : goal.returns
returns c =
    copied-scope c.get.result ∙ ap (option_map scope_of) c.get.ensures.value
    ∙ scope-found c.args.name.now c.args.table.now.entries
