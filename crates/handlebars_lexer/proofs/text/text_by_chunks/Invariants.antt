use Rattle.std.proofs.Common.{length, string_bytes}
use denote.Text.{Utf8}
use denote.Shadow.{shadow}
use Rattle.handlebars_lexer.specs.TextReading.{GoesOn}
use Rattle.handlebars_lexer.specs.TextView.{braces_of}
use Rattle.handlebars_lexer.proofs.text.text_by_chunks.Given as goal

abbrev pub invariant-chunks : goal.invariant-chunks
invariant-chunks l = record { utf8 : shadow (Utf8 l.left); so_far : GoesOn (braces_of l.until) l.source (string_bytes l.unescaped) l.left }

abbrev pub decreases-chunks : goal.decreases-chunks
decreases-chunks l = length l.left
