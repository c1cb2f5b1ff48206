use Rattle.std.proofs.Common.{◌≡◌, ◌++◌, map, take}
use Rattle.json.specs.Token.{string}
use Rattle.handlebars_scope.specs.ResolutionView.{names_in}
use Rattle.hb_origins.proofs.line.write_names.Given as goal

abbrev pub invariant-loop-name : goal.invariant-loop-name
invariant-loop-name l = record {
  tokens : l.writer.tokens ≡ l.initial.writer.tokens ++ map string (names_in (take l.name-index l.names));
  before : l.writer.before ≡ l.initial.writer.before;
}
