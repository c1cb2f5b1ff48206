use Rattle.std.proofs.Common.{[], ◌++◌, ◌∙◌, ap, reverse, sym}
use Rattle.handlebars_scope.specs.ResolutionView.{names_in}
use Rattle.handlebars_scope.specs.ScopeView.{frame_of}
use Rattle.handlebars_layers.proofs.Frames.{names-none, names-of}
use Rattle.handlebars_layers.proofs.Layers.{first-Outside}
use Rattle.handlebars_layers.proofs.Names.{ok-path}
use Rattle.handlebars_layers.proofs.made.path_of.Goals as goal

pub returns-in-Some : goal.returns-in-Some
returns-in-Some c =
    ok-path c.finished-in-Some.result (names_in c.deref.result.now) (reverse (names_in c.loop-here.path.items)) _
    c.finished-in-Some.ensures
    (ap (λ base. base ++ reverse (names_in c.loop-here.path.items))
    (ap names_in c.deref.ensures.value ∙ c.base_path.ensures ∙ names-of _ (frame_of c.in-Some.frame.now)
    (c.in-Some.ensures ∙ first-Outside _ c.in-Outside.frames c.loop-here.skipped c.in-Outside.is))
    ∙ c.loop-here.invariant)

pub returns-in-None : goal.returns-in-None
returns-in-None c =
    ok-path c.finished-in-None.result [] (reverse (names_in c.loop-here.path.items)) _
    c.finished-in-None.ensures
    (ap (λ base. base ++ reverse (names_in c.loop-here.path.items))
    (sym (names-none _ (c.in-None.ensures ∙ first-Outside _ c.in-Outside.frames c.loop-here.skipped c.in-Outside.is)))
    ∙ c.loop-here.invariant)
