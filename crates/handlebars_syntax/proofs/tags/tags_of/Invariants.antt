use denote.Text.{Utf8}
use denote.Shadow.{shadow}
use Rattle.std.proofs.Common.{length}
use Rattle.handlebars_lexer.specs.Comment.{HasNoLong}
use Rattle.handlebars_syntax.proofs.tags.tags_of.Given as goal

abbrev pub invariant-tags : goal.invariant-tags
invariant-tags l = record {
  token_utf8 : shadow (Utf8 l.prefix.token.now);
  rest_utf8 : shadow (Utf8 l.prefix.rest.now);
  no_long : HasNoLong l.long_ahead l.prefix.rest.now;
}

abbrev pub decreases-tags : goal.decreases-tags
decreases-tags l = length l.prefix.rest.now
