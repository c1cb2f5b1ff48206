-- What user-defined parts are passed of a call.
use Rattle.std.specs.Prelude.{List, map}
use Rattle.handlebars_base.specs.Bytes.{Text}
use Rattle.handlebars_base.specs.PathAndData.{PathAndData, path_and_data}
use Rattle.handlebars_helpers.specs.CallView.{CallView}
use Rattle.handlebars_values.specs.declared.passed.Passed.{Passed}

-- the view of a call by its parts
abbrev pub call_of : Text → List PathAndData → List (Text × PathAndData) → CallView
call_of name params hash = record { name = name; params = params; hash = hash }

-- the view of a call by its name, and by what is passed of its parameters and hash arguments
abbrev pub passed_view : Text → Passed → CallView
passed_view name p = call_of name (map path_and_data p.params.items) (map (λ h. (h.0.now, path_and_data h.1)) p.hash.entries)
