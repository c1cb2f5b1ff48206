use Rattle.std.proofs.Common.{◌≡◌, ◌∙◌, ℕ, arith, refl, subst, suc, sym}
use Rattle.std.proofs.lemmas.List.{nil_from_length}
use Rattle.std.proofs.lemmas.Result.{on_err_weaker, on_ok_weaker}
use Rattle.handlebars_layers.specs.LayerView.{chain_of}
use Rattle.handlebars_scope.specs.ScopeView.{partials_named}
use Rattle.handlebars_layers.specs.PartialsView.{partials_of}
use Rattle.handlebars_layers.specs.RisingDepths.{AllBefore}
use Rattle.handlebars_layers.proofs.InnermostFrame.{entered-frame, entered-with-none, frames-around}
use Rattle.handlebars_layers.proofs.Settings.{deeper-dropped, deepest-kept, entries-unchanged, layer-of, none-named, outer-kept, outer-pushed}
use Rattle.handlebars_layers.proofs.partials.Partials.enter_frame.Goals as goal

-- ---- the frame has no partial

pub returns-then-is_empty-clause-around : goal.returns-then-is_empty-clause-around
returns-then-is_empty-clause-around c =
    frames-around (partials_of c.drop_deeper.new.self) (partials_of c.args.self.now) (chain_of c.args.innermost.nearest.now)
    c.args.innermost.depth c.args.innermost.deep
    (outer-kept c.drop_deeper.new.self c.args.self.now c.args.innermost.depth c.drop_deeper.ensures.ground c.drop_deeper.ensures.all)

pub returns-then-is_empty-clause-frame : goal.returns-then-is_empty-clause-frame
returns-then-is_empty-clause-frame c =
    let kept = c.drop_deeper.new.self in
    let old = c.args.self.now in
    let depth = c.args.innermost.depth in
    let empty = nil_from_length c.args.partials.entries (c.is_empty.ensures.0 c.if-is_empty.true) in
    entered-frame (partials_of kept) (partials_of old) (chain_of c.args.innermost.nearest.now) depth c.args.innermost.deep
    (partials_named c.args.partials) (suc depth) refl
    (outer-kept kept old depth c.drop_deeper.ensures.ground c.drop_deeper.ensures.all)
    (deeper-dropped kept old depth c.drop_deeper.ensures.ground c.drop_deeper.ensures.all (suc depth) (omega arith)
    ∙ sym (none-named c.args.partials empty))

pub returns-then-is_empty-clause-depths : goal.returns-then-is_empty-clause-depths
returns-then-is_empty-clause-depths c =
    outer-kept c.drop_deeper.new.self c.args.self.now c.args.innermost.depth c.drop_deeper.ensures.ground c.drop_deeper.ensures.all

-- ---- its partials are those of the layer

pub push-requires-clause-deepest : goal.push-requires-clause-deepest
push-requires-clause-deepest c =
    let kept = c.drop_deeper.new.self in
    let is = c.in-Some.ensures.1 in
    let next : c.in-Some.depth ≡ suc c.args.innermost.depth = omega arith in
    subst (λ (d : ℕ). AllBefore d kept.all.items) (sym next)
    (deepest-kept kept c.args.self.now c.args.innermost.depth c.drop_deeper.ensures.ground c.drop_deeper.ensures.all)

pub returns-in-Some-clause-around : goal.returns-in-Some-clause-around
returns-in-Some-clause-around c =
    let new = c.push.new.self in
    let kept = c.drop_deeper.new.self in
    let old = c.args.self.now in
    let depth = c.args.innermost.depth in
    let is = c.in-Some.ensures.1 in
    frames-around (partials_of new) (partials_of old) (chain_of c.args.innermost.nearest.now) depth c.args.innermost.deep (λ d near.
    outer-pushed new kept c.in-Some.depth c.push.ensures.ground c.push.ensures.outer d (omega arith)
    ∙ outer-kept kept old depth c.drop_deeper.ensures.ground c.drop_deeper.ensures.all d near)

pub returns-in-Some-clause-frame : goal.returns-in-Some-clause-frame
returns-in-Some-clause-frame c =
    let new = c.push.new.self in
    let kept = c.drop_deeper.new.self in
    let old = c.args.self.now in
    let depth = c.args.innermost.depth in
    let is = c.in-Some.ensures.1 in
    let next : c.in-Some.depth ≡ suc depth = omega arith in
    on_ok_weaker c.push.result (λ own.
    entered-frame (partials_of new) (partials_of old) (chain_of c.args.innermost.nearest.now) depth c.args.innermost.deep
    (partials_named c.args.partials) c.in-Some.depth next (λ d near.
    outer-pushed new kept c.in-Some.depth c.push.ensures.ground c.push.ensures.outer d (omega arith)
    ∙ outer-kept kept old depth c.drop_deeper.ensures.ground c.drop_deeper.ensures.all d near)
    (layer-of new c.in-Some.depth (omega arith) ∙ own)) c.push.ensures.own

pub returns-in-Some-clause-err : goal.returns-in-Some-clause-err
returns-in-Some-clause-err c =
    let new = c.push.new.self in
    let kept = c.drop_deeper.new.self in
    let old = c.args.self.now in
    let depth = c.args.innermost.depth in
    on_err_weaker c.push.result (λ unchanged.
    entered-with-none (partials_of new) (partials_of old) (chain_of c.args.innermost.nearest.now) depth c.args.innermost.deep
    (λ d near. entries-unchanged new kept c.push.ensures.ground unchanged d
    ∙ outer-kept kept old depth c.drop_deeper.ensures.ground c.drop_deeper.ensures.all d near)
    (λ d deep. entries-unchanged new kept c.push.ensures.ground unchanged d
    ∙ deeper-dropped kept old depth c.drop_deeper.ensures.ground c.drop_deeper.ensures.all d deep)) c.push.ensures.err

pub returns-in-Some-clause-depths : goal.returns-in-Some-clause-depths
returns-in-Some-clause-depths c = λ d near.
    let kept = c.drop_deeper.new.self in
    let is = c.in-Some.ensures.1 in
    outer-pushed c.push.new.self kept c.in-Some.depth c.push.ensures.ground c.push.ensures.outer d (omega arith)
    ∙ outer-kept kept c.args.self.now c.args.innermost.depth c.drop_deeper.ensures.ground c.drop_deeper.ensures.all d near

-- ---- there are 2^64 - 1 layers already

pub returns-in-None-clause-around : goal.returns-in-None-clause-around
returns-in-None-clause-around c =
    frames-around (partials_of c.drop_deeper.new.self) (partials_of c.args.self.now) (chain_of c.args.innermost.nearest.now)
    c.args.innermost.depth c.args.innermost.deep
    (outer-kept c.drop_deeper.new.self c.args.self.now c.args.innermost.depth c.drop_deeper.ensures.ground c.drop_deeper.ensures.all)

pub returns-in-None-clause-err : goal.returns-in-None-clause-err
returns-in-None-clause-err c =
    let kept = c.drop_deeper.new.self in
    let old = c.args.self.now in
    let depth = c.args.innermost.depth in
    entered-with-none (partials_of kept) (partials_of old) (chain_of c.args.innermost.nearest.now) depth c.args.innermost.deep
    (outer-kept kept old depth c.drop_deeper.ensures.ground c.drop_deeper.ensures.all)
    (deeper-dropped kept old depth c.drop_deeper.ensures.ground c.drop_deeper.ensures.all)

pub returns-in-None-clause-depths : goal.returns-in-None-clause-depths
returns-in-None-clause-depths c =
    outer-kept c.drop_deeper.new.self c.args.self.now c.args.innermost.depth c.drop_deeper.ensures.ground c.drop_deeper.ensures.all
