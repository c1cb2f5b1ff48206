use Rattle.std.proofs.Common.{◌≡◌, length}
use denote.Text.{Utf8}
use denote.Shadow.{shadow}
use Rattle.handlebars_lexer.specs.Trim.{after_blanks}
use Rattle.handlebars_lexer.proofs.trim.after_blanks.Given as goal

abbrev pub invariant-prefix : goal.invariant-prefix
invariant-prefix l = record {
  text : shadow (Utf8 l.rest);
  same : after_blanks l.rest ≡ after_blanks l.fn.text;
}

abbrev pub decreases-prefix : goal.decreases-prefix
decreases-prefix l = length l.rest
