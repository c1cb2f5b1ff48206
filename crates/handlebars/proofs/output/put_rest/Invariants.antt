use Rattle.std.proofs.Common.{◌≡◌, ◌++◌, length}
use Rattle.handlebars_base.specs.Bytes.{Text}
use Rattle.handlebars.specs.Writers.{TakesText}
use Rattle.handlebars.proofs.output.put_rest.Given as goal

-- what was taken comes before what is left
abbrev pub invariant-writes : goal.invariant-writes
invariant-writes g l =
    let contents = g.W.Write.contents in
    (prefix : Text) × (l.bytes ≡ prefix ++ l.rest)
    × TakesText prefix (contents l.fn.writer) l.fn.taken.text (contents l.writer) l.taken.text

abbrev pub decreases-writes : goal.decreases-writes
decreases-writes g l = length l.rest
