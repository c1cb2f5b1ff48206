use Rattle.std.proofs.Common.{◌≡◌, length, map, option_map}
use denote.Text.{Utf8}
use denote.Shadow.{shadow}
use Rattle.serde_json.specs.View.{view}
use Rattle.handlebars_data.specs.JsonText.{text_data}
use Rattle.handlebars_data.specs.Lines.{texts_in, values_of}
use Rattle.handlebars_data.proofs.LineTexts.{Passed, with_items}
use Rattle.handlebars_data.proofs.lines.read_lines.Given as goal

-- what is left gives the rest of the whole
abbrev pub invariant-lines : goal.invariant-lines
invariant-lines l = record {
  text : shadow (Utf8 l.rest);
  whole : option_map (with_items (map view l.items.items)) (values_of (text_data l.fn.numbers) (texts_in l.rest)) ≡ values_of (text_data l.fn.numbers) (texts_in l.fn.text);
  passed : Passed (text_data l.fn.numbers) l.fn.text l.rest l.number;
}

abbrev pub decreases-lines : goal.decreases-lines
decreases-lines l = length l.rest
