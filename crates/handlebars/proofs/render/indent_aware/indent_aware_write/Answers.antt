use Rattle.std.proofs.Common.{refl, sym, ◌∙◌}
use Rattle.handlebars_context.specs.View.{state_of}
use Rattle.handlebars.proofs.render.indent_aware.indent_aware_write.Goals as goal

pub returns-in-Ok-clause-puts : goal.returns-in-Ok-clause-puts
returns-in-Ok-clause-puts g c =
    let puts = c.in-Ok.ensures.puts (state_of c.args.rc.now) refl (sym c.line_in-line.ensures) in
    (c.set_line.ensures.state ∙ puts.0, puts.1)

pub returns-in-Err-clause-puts : goal.returns-in-Err-clause-puts
returns-in-Err-clause-puts g c = c.in-Err.ensures.puts (state_of c.args.rc.now) refl (sym c.line_in-line.ensures)
