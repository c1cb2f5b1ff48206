-- The base of a partial call's scope frame.
use Rattle.std.specs.Prelude.{◌≡◌, ◌≢◌, Result, Ok, Err}
use Rattle.serde_json.specs.Data.{Data}
use Rattle.serde_json.specs.View.{view}
use Rattle.handlebars_base.specs.Reasons.{out_of_memory}
use Rattle.handlebars_base.specs.RenderRefusals.{reason_in, refusal_of}
use Rattle.handlebars_base.specs.declared.error.render_error.RenderError.{RenderError}
use Rattle.handlebars_scope.specs.Merged.{merge}
use Rattle.handlebars_helpers.specs.CallView.{CallView}
use Rattle.handlebars_semantics.specs.Inclusion.{hash_data}
use Rattle.handlebars_semantics.specs.Including.{base_value}
use Rattle.handlebars_semantics.specs.State.{Setting, State}
use Rattle.handlebars_expand.specs.View.{GivesValue, ValueFails}
use Rattle.handlebars_values.specs.declared.inclusion.PartialBase.{PartialBase}
use Rattle.handlebars_values.specs.declared.inclusion.PartialBase.TheVariants.{Borrowed, Owned}

-- the value of a base
abbrev pub base_data : PartialBase → Data
base_data (Borrowed v) = view v.now
base_data (Owned v) = view v

-- The value is the base value of a partial call, merged with the hash arguments. On an error (other than out of memory) the base
-- value fails with it.
abbrev pub HasBase : {T : Type 0} → Setting → CallView → State → (T → Data) → Result T RenderError → Type 0
HasBase p v s seen (Ok x) = (d : Data) × GivesValue p (base_value v.params) s d × (seen x ≡ merge d (hash_data v.hash))
HasBase p v s seen (Err e) = reason_in e ≢ out_of_memory → ValueFails p (base_value v.params) s (refusal_of e)
