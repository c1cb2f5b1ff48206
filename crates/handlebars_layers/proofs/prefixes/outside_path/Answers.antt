use Rattle.std.proofs.Common.{◌∙◌, ap, drop, sym}
use Rattle.handlebars_scope.specs.ResolutionView.{names_in}
use Rattle.handlebars_scope.specs.ScopeView.{frame_of, frames_of}
use Rattle.handlebars_layers.proofs.Frames.{first-drop, names-none, names-of}
use Rattle.handlebars_layers.proofs.prefixes.outside_path.Goals as goal

pub returns-in-Some : goal.returns-in-Some
returns-in-Some c =
    let fs = frames_of c.args.frames.now.items in
    ap names_in c.deref.ensures.value
    ∙ c.base_path.ensures
    ∙ names-of (drop c.args.skipped fs) (frame_of c.in-Some.frame.now) (c.in-Some.ensures ∙ sym (first-drop c.args.skipped fs))

pub returns-in-None : goal.returns-in-None
returns-in-None c =
    let fs = frames_of c.args.frames.now.items in
    sym (names-none (drop c.args.skipped fs) (c.in-None.ensures ∙ sym (first-drop c.args.skipped fs)))
