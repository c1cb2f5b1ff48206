use Rattle.std.proofs.Common.{◌≡◌, ◌+◌, ◌++◌, ◌∷◌, ◌∙◌, [], List, ap, append_assoc, arith, string_bytes, subst, sym, take}
use Rattle.std.proofs.lemmas.List.{take_all, take_more}
use Rattle.handlebars_base.specs.Bytes.{Text}
use Rattle.handlebars_base.specs.PathView.{segments_of}
use Rattle.handlebars_base.specs.declared.json.path.PathSeg.{PathSeg}
use Rattle.handlebars_scope.specs.Resolve.{names_of}
use Rattle.handlebars_scope.specs.ResolutionView.{names_in}
use Rattle.handlebars_layers.specs.Hits.{Walked}
use Rattle.handlebars_layers.specs.LayerView.{after_names}
use Rattle.handlebars_layers.specs.declared.descents.Walk.{Walk}
use Rattle.handlebars_layers.proofs.DescentNames.{names-past-name, names-past-rule, names-to-segment}
use Rattle.handlebars_layers.proofs.descents.along_segments.Goals as goal
use Rattle.handlebars_layers.proofs.descents.along_segments.Goals.{in-Named, in-Ruled}

pub segments-preserved : goal.segments-preserved
segments-preserved c = λ d walked.
    let rest = c.args.rest.now in
    let k = c.segments.index in
    let segment = c.index-rest-index.result in
    let before = after_names c.args.after ++ names_in c.args.bound.now in
    let name = string_bytes c.args.name.now in
    let cut : take (k + 1) rest ≡ take k rest ++ segment ∷ [] =
    take_more rest k segment c.segments-test.true ∙ ap (λ (s : PathSeg). take k rest ++ s ∷ []) (sym c.index-rest-index.is) in
    elim c.match-segment.branch [
      | in-Named w ↦
          let link = w.in-Named.link in
          let to_link = cut ∙ ap (λ (s : PathSeg). take k rest ++ s ∷ []) w.in-Named.is in
          subst (λ (walk : Walk). Walked d name (before ++ names_of (segments_of (take (k + 1) rest))) walk) (sym w.here-is)
          (subst (λ (xs : List Text). Walked d name xs w.step-here.result)
          (append_assoc before (names_of (segments_of (take k rest))) (string_bytes link ∷ [])
          ∙ ap (λ ys. before ++ ys) (names-past-name rest k link to_link))
          (w.step-here.ensures d (before ++ names_of (segments_of (take k rest)))
          (names-to-segment c.args.after c.args.bound rest _ k link c.args.name to_link) (c.segments.invariant d walked)))
      | in-Ruled w ↦
          let to_rule = cut ∙ ap (λ (s : PathSeg). take k rest ++ s ∷ []) w.in-Ruled.is in
          subst (λ (walk : Walk). Walked d name (before ++ names_of (segments_of (take (k + 1) rest))) walk) (sym w.here-is)
          (subst (λ (xs : List Text). Walked d name (before ++ xs) c.segments.here)
          (names-past-rule rest k w.in-Ruled.field-0 to_rule) (c.segments.invariant d walked))
    ]

pub returns : goal.returns
returns c = λ d walked.
    subst (λ (xs : List PathSeg). Walked d (string_bytes c.args.name.now)
    ((after_names c.args.after ++ names_in c.args.bound.now) ++ names_of (segments_of xs)) c.segments.here)
    (take_all c.segments.index c.args.rest.now (omega arith)) (c.segments.invariant d walked)
