use Rattle.std.proofs.Common.{length, ◌-◌}
use Rattle.handlebars_lexer.proofs.Texts.{ClearUpTo}
use Rattle.handlebars_lexer.specs.TextView.{braces_of}
use Rattle.handlebars_lexer.proofs.text.clear_from.Given as goal

abbrev pub invariant-bytes : goal.invariant-bytes
invariant-bytes l = ClearUpTo (braces_of l.until) l.text l.clear l.at

abbrev pub decreases-bytes : goal.decreases-bytes
decreases-bytes l = length l.text - l.at
