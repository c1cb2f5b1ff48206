use Rattle.std.proofs.Common.{◌≡◌, IfSome}
use Rattle.handlebars_data.specs.LinesView.{lines_failure, lines_numbers, lines_reader, lines_taken}
use Rattle.handlebars_data.proofs.LineReads.{HasTexts}
use Rattle.handlebars_data.proofs.lines.Lines.take_text.Given as goal

-- the lines that were taken are blank
abbrev pub invariant-lines : goal.invariant-lines
invariant-lines g l = record {
  numbers : lines_numbers l.self ≡ lines_numbers l.fn.self;
  failure : lines_failure l.self ≡ lines_failure l.fn.self;
  texts : IfSome (g.R.Read.remaining (lines_reader l.fn.self))
      (λ bytes. HasTexts bytes (lines_taken l.fn.self) (lines_taken l.self) (g.R.Read.remaining (lines_reader l.self)));
}
