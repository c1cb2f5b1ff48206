use Rattle.std.proofs.Common.{length, string_bytes}
use denote.Text.{Utf8}
use denote.Shadow.{shadow}
use Rattle.handlebars_lexer.specs.Comment.{HasNoLong}
use Rattle.handlebars_lexer.specs.TrimView.{control_view}
use Rattle.handlebars_template.specs.OptionsView.{options_view}
use Rattle.handlebars_template.specs.TreeView.{position_of}
use Rattle.handlebars_template.specs.NestView.{positioned_view, open_blocks, late_of}
use Rattle.handlebars_template.proofs.Scan.{Scans}
use Rattle.handlebars_template.proofs.template.scan.scan.Given as goal

abbrev pub invariant-tags : goal.invariant-tags
invariant-tags l = record {
  token_utf8 : shadow (Utf8 l.prefix.token.now);
  rest_utf8 : shadow (Utf8 l.prefix.rest.now);
  no_long : HasNoLong l.long_ahead l.prefix.rest.now;
  scans : Scans l.source (options_view l.options) l.prefix.token.now (string_bytes l.prefix.unescaped) l.prefix.rest.now (position_of l.position) l.fresh (control_view l.control) (late_of l.nesting) l.nesting.depth (open_blocks l.nesting) (positioned_view l.nesting.elements);
}

abbrev pub decreases-tags : goal.decreases-tags
decreases-tags l = length l.prefix.rest.now
