use Rattle.std.proofs.Common.{◌≡◌, ◌++◌, string_bytes, length}
use denote.Text.{Utf8}
use denote.Shadow.{shadow}
use Rattle.handlebars_expressions.specs.LiteralValue.{plain_singles}
use Rattle.handlebars_expressions.proofs.literal_value.plain_singles.Given as goal

abbrev pub invariant-pieces : goal.invariant-pieces
invariant-pieces l = record {
  text : shadow (Utf8 l.rest);
  same : string_bytes l.plain ++ plain_singles l.rest ≡ plain_singles l.fn.text;
}

abbrev pub decreases-pieces : goal.decreases-pieces
decreases-pieces l = length l.rest
