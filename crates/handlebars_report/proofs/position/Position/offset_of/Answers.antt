use Rattle.std.proofs.Common.{◌≡◌, ◌++◌, ◌∷◌, ap, arith, chars, drop, length, subst, suc, sym, ◌∙◌}
use Rattle.std.proofs.lemmas.Iterator.{YieldsList-from_chars}
use Rattle.std.proofs.lemmas.Iterator.Consumers.{YieldsList-end, YieldsList-so_far, YieldsList-turn}
use Rattle.handlebars_report.specs.Position.{IsAfter, IsOffsetOf, IsUpTo, position_after}
use Rattle.handlebars_report.specs.Stepping.{HasRoom, stepped}
use Rattle.handlebars_report.proofs.Offsets.{IsOffsetOf-all, IsOffsetOf-before, parts-at}
use Rattle.handlebars_report.proofs.Positions.{HasRoom-so_far, map-same, position_after-push}
use Rattle.handlebars_report.proofs.position.Position.offset_of.Goals as goal

pub step-next-requires : goal.step-next-requires
step-next-requires c =
    let cs = c.chars.yielded in
    let so_far = YieldsList-so_far (YieldsList-from_chars c.args.text.now c.utf8.text cc) cs _ c.chars.yielded_by in
    subst HasRoom (sym c.chars.invariant.reached) (HasRoom-so_far c.args.text.now cs c.utf8.text (sym (map-same cs) ∙ so_far) (omega arith))

pub chars-preserved : goal.chars-preserved
chars-preserved c = record {
  reached = c.step-next.ensures ∙ ap (λ p. stepped p c.in-Some.c) c.chars.invariant.reached ∙ sym (position_after-push c.chars.yielded c.in-Some.c);
  up_to = c.if-is_after.ensures;
}

pub returns-then-is_after : goal.returns-then-is_after
returns-then-is_after c =
    let text = c.args.text.now in
    let cs = c.chars.yielded in
    let x = c.in-Some.c in
    let list = YieldsList-from_chars text c.utf8.text cc in
    let so_far = YieldsList-so_far list cs _ c.chars.yielded_by in
    let turn = YieldsList-turn list cs _ c.chars.yielded_by _ _ x c.in-Some.is c.next.ensures.steps in
    let parts : chars text ≡ cs ++ x ∷ drop (suc (length cs)) (chars text) =
    parts-at (chars text) (length cs) x turn.0 turn.1 ∙ ap (λ xs. xs ++ x ∷ drop (suc (length cs)) (chars text)) (sym so_far ∙ map-same cs) in
    let up_to = subst (IsUpTo c.args.line c.args.column) c.chars.invariant.reached c.chars.invariant.up_to in
    let after = subst (IsAfter c.args.line c.args.column) (c.step-next.ensures ∙ ap (λ p. stepped p x) c.chars.invariant.reached) c.if-is_after.ensures in
    subst (IsOffsetOf text c.args.line c.args.column) (ap (λ p. p.offset) (sym c.chars.invariant.reached))
    (IsOffsetOf-before text c.args.line c.args.column cs _ x parts up_to after)

pub returns : goal.returns
returns c =
    let text = c.args.text.now in
    let all = YieldsList-end (YieldsList-from_chars text c.utf8.text cc) c.chars.yielded _ c.chars.yielded_by _ _ c.in-None.is c.next.ensures.steps in
    let reached = c.chars.invariant.reached ∙ ap position_after (sym (map-same c.chars.yielded) ∙ all.0) in
    subst (IsOffsetOf text c.args.line c.args.column) (ap (λ p. p.offset) (sym reached))
    (IsOffsetOf-all text c.args.line c.args.column (subst (IsUpTo c.args.line c.args.column) reached c.chars.invariant.up_to))
