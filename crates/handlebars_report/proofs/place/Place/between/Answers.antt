use Rattle.std.proofs.Common.{ap, chars, take, subst, sym, ◌≡◌, ◌∙◌, arith, IsCharBoundary}
use Rattle.std.proofs.lemmas.Grind.{common_steps}
use Rattle.handlebars_report.specs.Position.{position_after}
use Rattle.handlebars_report.proofs.Positions.{offset-position_after}
use Rattle.handlebars_report.proofs.place.Place.between.Goals as goal

before-start : (c : goal.In_ok-from_str-2) → c.range.result.now ≡ take c.args.start c.args.text.now
before-start c = grind (arith, common_steps)

before-end : (c : goal.In_ok-from_str-2) → c.range-2.result.now ≡ take c.args.end c.args.text.now
before-end c = grind (arith, common_steps)

start-is : (c : goal.In_ok-from_str-2) → c.after-start.result ≡ position_after (chars (take c.args.start c.args.text.now))
start-is c = c.after-start.ensures ∙ ap (λ text. position_after (chars text)) (before-start c)

end-is : (c : goal.In_ok-from_str-2) → c.after-end.result ≡ position_after (chars (take c.args.end c.args.text.now))
end-is c = c.after-end.ensures ∙ ap (λ text. position_after (chars text)) (before-end c)

pub returns-clause-start : goal.returns-clause-start
returns-clause-start c =
    ap (λ p. p.offset) (start-is c) ∙ offset-position_after c.args.text.now c.args.start c.utf8.text c.requires.starts

pub returns-clause-end : goal.returns-clause-end
returns-clause-end c =
    ap (λ p. p.offset) (end-is c) ∙ offset-position_after c.args.text.now c.args.end c.utf8.text c.requires.ends

pub returns-clause-lies : goal.returns-clause-lies
returns-clause-lies c =
    let text = c.args.text.now in
    let start : c.after-start.result.offset ≡ c.args.start = returns-clause-start c in
    let end : c.after-end.result.offset ≡ c.args.end = returns-clause-end c in
    record {
      in_file = c.in_ok-from_str.ensures.ok;
      ordered = omega arith;
      starts = subst (IsCharBoundary text) (sym start) c.requires.starts;
      ends = subst (IsCharBoundary text) (sym end) c.requires.ends;
      start = start-is c ∙ ap (λ n. position_after (chars (take n text))) (sym start);
      end = end-is c ∙ ap (λ n. position_after (chars (take n text))) (sym end);
      line = c.in_ok-from_str-2.ensures.ok ∙ c.line_of.ensures;
    }
