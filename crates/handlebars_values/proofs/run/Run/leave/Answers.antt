use Rattle.std.proofs.Common.{Option, String, Global, option_map, string_bytes, ap, ◌∙◌}
use Rattle.handlebars_values.specs.RunView.{run_state}
use Rattle.handlebars_values.proofs.run.Run.leave.Goals as goal

pub returns-in-Some-clause-run : goal.returns-in-Some-clause-run
returns-in-Some-clause-run c = λ fs.
    c.keep.ensures.run fs
    ∙ ap (λ (o : Option (String Global)). record (run_state fs c.args.self.now) { current = option_map string_bytes o }) c.replace.ensures.after
