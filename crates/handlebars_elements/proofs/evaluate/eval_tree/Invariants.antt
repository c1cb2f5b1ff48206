use Rattle.std.proofs.Common.{map}
use Rattle.handlebars_template.specs.TreeView.{position_of}
use Rattle.handlebars_values.specs.View.{setting_in, state_with, CapturedIn, within}
use Rattle.handlebars_elements.specs.View.{IsUnchanged}
use Rattle.handlebars_elements.proofs.Evaluated.{SilentLeft, alone_view}
use Rattle.handlebars_elements.proofs.evaluate.eval_tree.Given as goal

-- A run that ends so from here ends so from the start, with nothing written.
abbrev pub invariant-elements : goal.invariant-elements
invariant-elements g l =
    ((captured : CapturedIn (within l.environment)) → SilentLeft (setting_in g.P.Registered.parts l.environment) (map alone_view l.element-items)
    (map position_of l.template.mapping.items) l.index (state_with captured l.fn.run) (state_with captured l.run))
    × IsUnchanged l.fn.run l.run
