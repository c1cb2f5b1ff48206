use Rattle.handlebars_html.proofs.Sample.{safe_pages_keep_data_safe}
use Rattle.handlebars_html.proofs.laws.safe_pages_keep_data_safe.Goals as goal

pub returns : goal.returns
returns c = safe_pages_keep_data_safe
