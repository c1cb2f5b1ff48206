use Rattle.std.proofs.Common.{◌≡◌, ◌∙◌, List, ◌∷◌, ◌++◌, [], ap, sym, rules}
use Rattle.std.specs.Prelude.{None, Some, if◌then◌else◌}
use Rattle.std.specs.Option.{option_or}
use Rattle.handlebars_base.specs.Bytes.{Text}
use Rattle.handlebars_template.specs.TreeView.{position_of}
use Rattle.handlebars_template.specs.Nest.{PositionedElement, closes, mismatched, names_and_literals, may_close}
use Rattle.handlebars_template.specs.Machine.{BlockSoFar, open_in, goes, closed_block, late_in}
use Rattle.handlebars_template.specs.NestView.{positioned_view, open_block_view, stack_view, open_blocks, late_of, late_view}
use Rattle.handlebars_template.proofs.NestsBuilt.{stack_view_push}
use Rattle.handlebars_template.proofs.NestsDone.{closes-goes}
use Rattle.std.proofs.lemmas.Result.{on_ok_weaker}
use Rattle.handlebars_template.proofs.template.nest.Nesting.close.Goals as goal

pub returns : goal.returns
returns c =
    let old = c.args.self.now in
    let f = open_block_view c.in-Some.block in
    let after = stack_view c.pop.new.self.items in
    let head_is : open_blocks old ≡ f ∷ after = search (rules, stack_view_push) in
    let elements : positioned_view c.replace-elements.result ≡ positioned_view old.elements = search rules in
    let outside : positioned_view c.replace-elements.new.dest ≡ f.outside = search rules in
    let last = positioned_view c.end.new.outside in
    let m = c.args.name.now in
    let p = position_of c.args.position in
    let name : late_view c.in_ok-name_error.field-0 ≡ late_in (open_in (open_blocks old)) (closes p c.args.is_raw m) =
    c.in_ok-name_error.ensures ∙ ap (λ (n : Text). if may_close names_and_literals n m then None else Some (mismatched f.opening.kind n m p)) c.as_str.ensures.value
    ∙ ap (λ (z : List BlockSoFar). late_in (open_in z) (closes p c.args.is_raw m)) (sym head_is) in
    on_ok_weaker c.end.result
    (λ made may.
    let whole : last ≡ f.outside ++ closed_block f (positioned_view old.elements) ∷ [] = made ∙ ap (λ (o : List PositionedElement). o ++ closed_block f (positioned_view c.replace-elements.result) ∷ []) outside
    ∙ ap (λ (es : List PositionedElement). f.outside ++ closed_block f es ∷ []) elements in
    record {
      goes_on = closes-goes p c.args.is_raw m old.depth f (open_blocks old) after (positioned_view old.elements) last head_is whole
          ∙ ap (λ (z : List BlockSoFar). goes f.around z last) (sym c.record_late.ensures.open_blocks);
      late = c.record_late.ensures.late ∙ ap (option_or (late_of old)) name;
    })
    c.end.ensures
