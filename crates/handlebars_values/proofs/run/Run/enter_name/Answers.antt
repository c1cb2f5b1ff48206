use Rattle.std.proofs.Common.{Some, string_bytes, ap, ◌∙◌}
use Rattle.handlebars_semantics.specs.State.{State}
use Rattle.handlebars_layers.proofs.Settings.{on-err}
use Rattle.handlebars_values.specs.RunView.{run_state}
use Rattle.handlebars_values.proofs.run.Run.enter_name.Goals as goal

pub returns-in_err-copy-clause-err : goal.returns-in_err-copy-clause-err
returns-in_err-copy-clause-err c = λ fs. on-err c.from_residual.result (c.copy_of.ensures.run fs)

pub returns-clause-ok : goal.returns-clause-ok
returns-clause-ok c = λ fs.
    c.leave.ensures.run fs
    ∙ ap (λ (s : State). record s { current = Some (string_bytes c.in_ok-copy.copy) }) (c.copy_of.ensures.run fs)
    ∙ ap (λ t. record (run_state fs c.args.self.now) { current = Some t }) c.in_ok-copy.ensures.copy
