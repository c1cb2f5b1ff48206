-- How a value is shown.
use Rattle.std.specs.Prelude.{◌≡◌, Bool, true, false, List, Option, Some, None}
use denote.MutBor.{MutBor}
use denote.Triple.Both.{Both}
use Rattle.serde_json.specs.Data.{Data}
use Rattle.handlebars_base.specs.Bytes.{Text}
use Rattle.handlebars_base.specs.Scoped.{Found, path_in}
use Rattle.handlebars_helpers.specs.Escaping.{Escaping, for_html, for_plain, by_user}
use Rattle.handlebars_scope.specs.declared.line.LineState.{LineState}
use Rattle.handlebars_semantics.specs.Emitted.{Kind, escaped_value, raw_value}
use Rattle.handlebars_semantics.specs.Pieces.{Origin, of_raw, of_value}
use Rattle.handlebars_semantics.specs.Occurrences.{Occurrence}
use Rattle.handlebars_semantics.specs.State.{Parts}
use Rattle.handlebars_semantics.specs.Writing.{write_value}
use Rattle.handlebars_write.specs.LocationView.{IsAt, indent_in}
use Rattle.handlebars_write.specs.ModeClauses.{InLine}
use Rattle.handlebars_write.specs.ModeView.{ModeView}
use Rattle.handlebars_write.specs.View.{RefinesProg}
use Rattle.handlebars_write.specs.declared.location.ElementLocation.{ElementLocation}
use Rattle.handlebars_write.specs.declared.outcome.Outcome.{Outcome}
use Rattle.handlebars_write.specs.declared.sink.Sink.{Sink}

-- the kind of the pieces of a value, where escaping is on or off
abbrev pub value_kind : Bool → Kind
value_kind true = escaped_value
value_kind false = raw_value

-- the origin of a value that is written escaped, or as it is
abbrev pub value_origin : Occurrence → Found → Bool → Origin
value_origin occurrence v true = of_value occurrence v
value_origin occurrence v false = of_raw occurrence v

-- Whether entities are written, if that is known before the value is. A user-defined escape function has to be asked.
abbrev pub entities_by : Escaping → Bool → Option Bool
entities_by for_html escapes = Some escapes
entities_by for_plain escapes = Some false
entities_by by_user true = None
entities_by by_user false = Some false

-- In a state with this escaping the program that writes a value was executed, with what is registered and any given data. The
-- value is one that was found by this path, if pieces are received, and that is as the fact says.
abbrev pub ShowsValue : {O T : Type 0} → Parts → ModeView O → ElementLocation → Bool → (Found → Type 0) → Option (List Text)
    → Both (MutBor LineState) (MutBor LineState) → Both (MutBor (Sink O T)) (MutBor (Sink O T)) → Outcome → Type 0
ShowsValue parts w x escapes Is path line sink outcome =
    (occurrence : Occurrence) → IsAt w.asks x occurrence
    → (found : Found) → Is found → (w.asks ≡ true → path_in found ≡ path)
    → (given : Data) → InLine w (indent_in x) line sink outcome
    (λ before answer after. before.state.escapes ≡ escapes
    → RefinesProg (record { given = given; parts = parts }) (write_value occurrence found) w.may_give before answer after)
