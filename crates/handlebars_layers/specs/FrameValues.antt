-- Values that frames have.
use Rattle.std.specs.Prelude.{List, map, true, false}
use denote.Ref.{Bor}
use Rattle.serde_json.specs.Data.{Data, boolean, number, unsigned, string}
use Rattle.serde_json.specs.View.{view}
use Rattle.handlebars_base.specs.Bytes.{Text}
use Rattle.handlebars_layers.specs.declared.destination.FrameValue.{FrameValue}
use Rattle.handlebars_layers.specs.declared.destination.FrameValue.TheVariants.{Json, Index, True, False, Key}

abbrev pub value_data : FrameValue → Data
value_data (Json v) = view v.now
value_data (Index i) = number (unsigned i)
value_data True = boolean true
value_data False = boolean false
value_data (Key k) = string k.now

-- hash arguments by their keys
abbrev pub hash_values : List (Bor Text × FrameValue) → List (Text × Data)
hash_values hs = map (λ h. (h.0.now, value_data h.1)) hs
