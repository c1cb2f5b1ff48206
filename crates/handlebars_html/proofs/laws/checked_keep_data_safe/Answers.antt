use Rattle.handlebars_html.proofs.FunctionRegistries.{checked_keep_data_safe}
use Rattle.handlebars_html.proofs.laws.checked_keep_data_safe.Goals as goal

pub returns : goal.returns
returns c = checked_keep_data_safe
