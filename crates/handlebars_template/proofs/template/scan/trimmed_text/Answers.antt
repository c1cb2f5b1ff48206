use Rattle.std.proofs.Common.{refl}
use Rattle.handlebars_template.specs.OptionsView.{options_view}
use Rattle.handlebars_template.proofs.template.scan.trimmed_text.Goals as goal

pub returns : goal.returns
returns c = c.trimmed.ensures (options_view c.args.options.now) refl
