use Rattle.std.proofs.Common.{Option, String, Global, option_map, string_bytes, sym, ap, ◌∙◌}
use Rattle.handlebars_values.specs.RunView.{run_state}
use Rattle.handlebars_values.proofs.run.Run.enter.Goals as goal

pub returns-in-None-clause-ok : goal.returns-in-None-clause-ok
returns-in-None-clause-ok c = λ fs.
    c.leave.ensures.run fs
    ∙ ap (λ (o : Option (String Global)). record (run_state fs c.args.self.now) { current = option_map string_bytes o }) (sym c.in-None.is)
