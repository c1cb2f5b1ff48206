use Rattle.std.proofs.Common.{◌≡◌, ◌++◌, decimal, map, take}
use Rattle.json.specs.Token.{number}
use Rattle.hb_origins.proofs.line.write_iterations.Given as goal

abbrev pub invariant-loop-iteration : goal.invariant-loop-iteration
invariant-loop-iteration l = record {
  tokens : l.writer.tokens ≡ l.initial.writer.tokens ++ map (λ iteration. number (decimal iteration)) (take l.iteration-index l.iterations);
  before : l.writer.before ≡ l.initial.writer.before;
}
