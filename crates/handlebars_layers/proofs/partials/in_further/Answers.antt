use Rattle.std.proofs.Common.{◌+◌, ◌∙◌, ap, drop, sym}
use Rattle.handlebars_scope.specs.Resolve.{or_else}
use Rattle.handlebars_scope.specs.ScopeView.{frame_of, frames_of}
use Rattle.handlebars_semantics.specs.State.{partial_in}
use Rattle.handlebars_layers.proofs.Frames.{drop-here, drop-none}
use Rattle.handlebars_layers.proofs.partials.in_further.Goals as goal

pub returns-in-Some-get_local_partial : goal.returns-in-Some-get_local_partial
returns-in-Some-get_local_partial c =
    let fs = frames_of c.args.frames.now.items in
    let name = c.args.name.now in
    ap (λ o. or_else o (partial_in (drop (c.frames.here + 1) fs) name)) c.in-Some-get_local_partial.ensures
    ∙ sym (ap (λ gs. partial_in gs name) (drop-here c.frames.here fs (frame_of c.in-Some.frame.now) c.in-Some.ensures))
    ∙ c.frames.invariant

pub frames-preserved : goal.frames-preserved
frames-preserved c =
    let fs = frames_of c.args.frames.now.items in
    let name = c.args.name.now in
    ap (λ o. or_else o (partial_in (drop (c.frames.here + 1) fs) name)) c.in_default-get_local_partial.ensures
    ∙ sym (ap (λ gs. partial_in gs name) (drop-here c.frames.here fs (frame_of c.in-Some.frame.now) c.in-Some.ensures))
    ∙ c.frames.invariant

pub returns : goal.returns
returns c =
    let fs = frames_of c.args.frames.now.items in
    sym (ap (λ gs. partial_in gs c.args.name.now) (drop-none c.frames.here fs c.in_default.ensures)) ∙ c.frames.invariant
