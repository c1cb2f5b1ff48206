use Rattle.std.proofs.Common.{◌≡◌, ◌++◌, string_bytes, length}
use denote.Text.{Utf8}
use denote.Shadow.{shadow}
use Rattle.handlebars_expressions.specs.LiteralValue.{escaped_doubles}
use Rattle.handlebars_expressions.proofs.literal_value.push_escaped.Given as goal

abbrev pub invariant-pieces : goal.invariant-pieces
invariant-pieces l = record {
  text : shadow (Utf8 l.rest);
  same : string_bytes l.out ++ escaped_doubles l.rest ≡ string_bytes l.fn.out ++ escaped_doubles l.fn.text;
}

abbrev pub decreases-pieces : goal.decreases-pieces
decreases-pieces l = length l.rest
