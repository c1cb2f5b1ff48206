use Rattle.std.proofs.Common.{◌≡◌, ◌≤◌, ◌++◌, drop, string_bytes}
use Rattle.std.specs.List.{slice_range}
use Rattle.std.specs.Str.{IsCharBoundary}
use Rattle.handlebars_data.specs.TomlFloats.{quote_floats, quoted_floats}
use Rattle.handlebars_data.proofs.TomlScans.{AreInWord}
use Rattle.handlebars_data.proofs.toml_floats.quoted_floats.Given as goal

-- what is written, what is copied next, and what the rest gives, are the whole
abbrev pub invariant-bytes : goal.invariant-bytes
invariant-bytes l = record {
  order : l.copied ≤ l.word;
  up_to : l.word ≤ l.at;
  start : IsCharBoundary l.text l.copied;
  words : AreInWord l.text l.word l.at;
  depth : l.place.depth ≤ l.at;
  whole : string_bytes l.quoted ++ (slice_range l.text l.copied l.word ++ quote_floats l.place (slice_range l.text l.word l.at) (drop l.at l.text)) ≡ quoted_floats l.fn.text;
}
