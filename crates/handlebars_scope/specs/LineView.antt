-- What the code's state of a line represents.
use Rattle.handlebars_scope.specs.LineState.{LineState}
use Rattle.handlebars_scope.specs.declared.line.LineState.{LineState as CodeLine}

abbrev pub line_of : CodeLine → LineState
line_of l = record { before = l.before; trailing = l.trailing; produced = l.produced }
