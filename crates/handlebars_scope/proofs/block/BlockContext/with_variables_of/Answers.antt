use Rattle.std.proofs.Common.{ap, ◌∙◌}
use Rattle.handlebars_scope.specs.Scopes.{Frame, empty_frame}
use Rattle.handlebars_scope.specs.ScopeView.{variables_of}
use Rattle.handlebars_scope.proofs.block.BlockContext.with_variables_of.Goals as goal

pub returns : goal.returns
returns c =
    ap (λ (f : Frame). record f { variable = variables_of c.in_ok-copy.field-0 }) c.new-copy.ensures
    ∙ ap {B = Frame} (λ v. record empty_frame { variable = v }) c.in_ok-copy.ensures
