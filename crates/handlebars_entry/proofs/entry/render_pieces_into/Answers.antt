use Rattle.std.proofs.Common.{rules}
use Rattle.handlebars_entry.proofs.Restored.{prog-restored}
use Rattle.handlebars_entry.proofs.entry.render_pieces_into.Goals as goal

pub returns-in-Out-clause-renders : goal.returns-in-Out-clause-renders
returns-in-Out-clause-renders g c = λ at first.
    let z = rw c.in-Out.is at (c.render_outermost-outcome.ensures.renders at (λ on. first)) in
    prog-restored _ _ c.take-blocks.ensures.state c.restore.ensures.state c.into_result.ensures
    (let same = rw c.in-Out.is at c.render_outermost-outcome.ensures.stays.same in search rules) z

pub returns-in-Out-clause-unchanged : goal.returns-in-Out-clause-unchanged
returns-in-Out-clause-unchanged g c =
    let u = c.render_outermost-outcome.ensures.stays.unchanged in
    c.restore.ensures.unchanged c.args.rc.now c.take-blocks.result.1 c.take-blocks.ensures (record { recursive = u.recursive; escapes = u.escapes })
