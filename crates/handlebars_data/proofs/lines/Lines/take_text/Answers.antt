use Rattle.std.proofs.Common.{◌∙◌, ap, sym, ◌≡◌, ◌+◌, true, false}
use Rattle.handlebars_data.specs.Counts.{counted}
use Rattle.handlebars_data.specs.Lines.{is_blank}
use Rattle.handlebars_data.specs.LinesView.{lines_taken}
use Rattle.handlebars_data.proofs.LineReads.{blank_taken, has_all, text_found}
use Rattle.handlebars_data.proofs.lines.Lines.take_text.Goals as goal

pub lines-init : goal.lines-init
lines-init g c = record {
  numbers = search;
  failure = search;
  texts = has_all (lines_taken c.args.self.now) _;
}

pub returns-then-not-is_blank-clause-next : goal.returns-then-not-is_blank-clause-next
returns-then-not-is_blank-clause-next g c =
    let full : is_blank c.take_line.new.self.line.items ≡ false = ap is_blank (sym c.deref.ensures.value) ∙ sym c.is_blank.ensures ∙ c.if-not-is_blank.true in
    let one : lines_taken c.take_line.new.self ≡ counted (lines_taken c.lines.self + 1) = rw c.if-not-branch.false at c.in_ok-take_line.ensures.count in
    text_found _ _ _ _ _ _ _ c.in_ok-take_line.field-0 c.if-not-branch.false c.lines.invariant.texts c.in_ok-take_line.ensures.taken full one

pub lines-preserved : goal.lines-preserved
lines-preserved g c = record {
  numbers = c.in_ok-take_line.ensures.numbers ∙ c.lines.invariant.numbers;
  failure = c.in_ok-take_line.ensures.failure ∙ c.lines.invariant.failure;
  texts = let blank : is_blank c.take_line.new.self.line.items ≡ true = ap is_blank (sym c.deref.ensures.value) ∙ sym c.is_blank.ensures ∙ c.if-not-is_blank.false in
      let one : lines_taken c.take_line.new.self ≡ counted (lines_taken c.lines.self + 1) = rw c.if-not-branch.false at c.in_ok-take_line.ensures.count in
      blank_taken _ _ _ _ _ _ c.take_line.new.self.line.items c.in_ok-take_line.field-0 c.if-not-branch.false c.lines.invariant.texts c.in_ok-take_line.ensures.taken blank one;
}
