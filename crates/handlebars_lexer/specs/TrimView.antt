-- What the program's whitespace control stands for.
use Rattle.handlebars_lexer.specs.Trim.{WhitespaceControl}
use Rattle.handlebars_lexer.specs.declared.trim.WhitespaceControl.{WhitespaceControl as ReadWhitespaceControl}

abbrev pub control_view : ReadWhitespaceControl → WhitespaceControl
control_view e = record {
  standalone = e.standalone;
  blanks = e.blanks.now;
  left = e.left;
  right = e.right;
  is_raw = e.is_raw;
  takes_blanks = e.takes_blanks;
}
