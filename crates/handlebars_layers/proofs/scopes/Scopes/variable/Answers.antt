use Rattle.std.proofs.Common.{◌∙◌, ap, sym}
use Rattle.handlebars_scope.specs.ScopeView.{frame_of}
use Rattle.handlebars_semantics.specs.State.{nearest_variables}
use Rattle.handlebars_layers.specs.Chain.{frames, frames_from}
use Rattle.handlebars_layers.specs.LayerView.{chain_of}
use Rattle.handlebars_layers.proofs.Frames.{variable-of, variables-none}
use Rattle.handlebars_layers.proofs.Layers.{chain-At, chain-Value, first-Outside}
use Rattle.handlebars_layers.proofs.scopes.Scopes.variable.Goals as goal

pub returns-in-Some : goal.returns-in-Some
returns-in-Some c = c.variable_in.ensures ∙ variable-of _ (frame_of c.in-Some.frame.now) c.args.name.now
    (c.in-Some.ensures ∙ first-Outside _ c.in-Outside.frames c.loop-here.skipped c.in-Outside.is) ∙ c.loop-here.invariant

pub returns-in-None : goal.returns-in-None
returns-in-None c =
    variables-none _ c.args.name.now (c.in-None.ensures ∙ first-Outside _ c.in-Outside.frames c.loop-here.skipped c.in-Outside.is)
    ∙ c.loop-here.invariant

pub returns-in-Some-variable : goal.returns-in-Some-variable
returns-in-Some-variable c =
    let at = c.in-At in
    sym (c.in-Some-variable.ensures (frames (chain_of at.outer.now)))
    ∙ sym (ap (λ x. nearest_variables (frames_from x c.loop-here.skipped) c.args.name.now)
    (ap chain_of at.is ∙ chain-At at.node at.start at.skipped at.descent at.kind at.outer))
    ∙ c.loop-here.invariant

pub returns-in-Some-variable-2 : goal.returns-in-Some-variable-2
returns-in-Some-variable-2 c =
    let at = c.in-Value in
    sym (c.in-Some-variable-2.ensures (frames (chain_of at.outer.now)))
    ∙ sym (ap (λ x. nearest_variables (frames_from x c.loop-here.skipped) c.args.name.now)
    (ap chain_of at.is ∙ chain-Value at.value at.kind at.outer))
    ∙ c.loop-here.invariant
