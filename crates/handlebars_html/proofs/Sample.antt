-- The law at one registry.
use Rattle.std.proofs.Common.{refl}
use Rattle.serde_json.specs.Data.{Data}
use Rattle.handlebars_html.specs.Usual.{IsUsual, IsClosed}
use Rattle.handlebars_html.specs.Safety.{html_rule}
use Rattle.handlebars_html.specs.Sample.{first_setting, empty_table, SafePagesKeepDataSafe}
use Rattle.handlebars_html.proofs.Calls.{none-some}
use Rattle.handlebars_html.proofs.Safety.{data_stands_safely}

first_is_usual : (d : Data) → IsUsual (first_setting d) empty_table.registered
first_is_usual d = record { helpers = λ n. refl; hooks = λ block. refl; decorators = λ n. refl }

first_is_closed : (d : Data) → IsClosed (first_setting d) html_rule empty_table
first_is_closed d n t is h enters = none-some is

pub safe_pages_keep_data_safe : SafePagesKeepDataSafe
safe_pages_keep_data_safe t leads d recursive ps o r =
    data_stands_safely (first_setting d) refl empty_table (first_is_usual d) (first_is_closed d) t leads recursive ps o r
