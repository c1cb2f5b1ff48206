use Rattle.std.proofs.Common.{ap, ◌∙◌, arith, option_map}
use Rattle.handlebars_template.specs.Tree.{subexpression}
use Rattle.handlebars_template.specs.ParameterParsing.{unreadable}
use Rattle.handlebars_template.proofs.Levels.{param_view-Subexpression}
use Rattle.handlebars_template.proofs.ParametersParsed.{parses_deep, parses_lost, parses_worthless, parses_call}
use Rattle.handlebars_template.proofs.template.parameter.read_nested.Goals as goal

pub returns-in_default : goal.returns-in_default
returns-in_default c opens = unreadable ((rw c.in_default.is at c.in_ok-depth.ensures) c.args.text.now opens)

pub returns-then-depth-ge-MAX_NESTING : goal.returns-then-depth-ge-MAX_NESTING
returns-then-depth-ge-MAX_NESTING c opens =
    parses_deep c.args.text.now c.args.inside.now c.in-Some.depth opens (rw c.in-Some.is at c.in_ok-depth.ensures) (omega (arith, c.if-depth-ge-MAX_NESTING.true))

pub returns-in_default-2 : goal.returns-in_default-2
returns-in_default-2 c opens =
    parses_lost c.args.inside.now c.in-Some.depth (rw c.in-Some.is at c.in_ok-depth.ensures)
    (rw c.after_white-expression.ensures at (rw c.in_default-2.is at c.in_ok-built.ensures))

pub returns-in-Some-rejected : goal.returns-in-Some-rejected
returns-in-Some-rejected c opens =
    parses_worthless c.args.text.now c.args.inside.now c.in-Some-rejected.raw.now c.in-Some.depth c.in-Some-2.built opens (rw c.in-Some.is at c.in_ok-depth.ensures) (omega (arith, c.if-depth-ge-MAX_NESTING.false))
    (rw c.after_white-expression.ensures at (rw c.in-Some-2.is at c.in_ok-built.ensures)) (ap (option_map (λ t. t.now)) c.in-Some-rejected.is)

pub returns : goal.returns
returns c opens =
    parses_call c.args.text.now c.args.inside.now c.in-Some.depth c.in-Some-2.built _ opens (rw c.in-Some.is at c.in_ok-depth.ensures) (omega (arith, c.if-depth-ge-MAX_NESTING.false))
    (rw c.after_white-expression.ensures at (rw c.in-Some-2.is at c.in_ok-built.ensures)) (ap (option_map (λ t. t.now)) c.in_default-rejected.is)
    (param_view-Subexpression c.in_ok-call.call ∙ ap subexpression c.in_ok-call.ensures)
