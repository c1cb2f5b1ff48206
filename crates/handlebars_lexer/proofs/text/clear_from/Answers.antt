use Rattle.std.proofs.Common.{◌∙◌, sym, ap, arith}
use Rattle.handlebars_lexer.specs.Text.{braces}
use Rattle.handlebars_lexer.proofs.Texts.{ClearUpTo-from, clear_len-stops, clear_len-ends, ClearUpTo-backslash, ClearUpTo-other}
use Rattle.handlebars_lexer.specs.TextView.{braces_of}
use Rattle.handlebars_lexer.proofs.text.clear_from.Goals as goal
use Rattle.handlebars_lexer.proofs.text.clear_from.Goals.{then-text-at-ne92, else-text-at-ne92}

pub bytes-init : goal.bytes-init
bytes-init c = ClearUpTo-from (braces_of c.args.until) c.args.text.now c.args.from c.requires.within c.requires.clear

pub returns-then-has_braces : goal.returns-then-has_braces
returns-then-has_braces c =
    sym (clear_len-stops (braces_of c.args.until) c.args.text.now c.bytes.clear c.bytes.at c.bytes.invariant (ap (braces (braces_of c.args.until)) (sym c.tail.ensures) ∙ sym c.has_braces.ensures ∙ c.if-has_braces.true))

pub bytes-preserved : goal.bytes-preserved
bytes-preserved c =
    elim c.if-text-at-ne92.branch [
      | then-text-at-ne92 w ↦ rw w.clear-is (ClearUpTo-other (braces_of c.args.until) c.args.text.now c.bytes.clear c.bytes.at c.bytes.invariant c.bytes-test.true w.if-text-at-ne92.true (ap (braces (braces_of c.args.until)) (sym c.tail.ensures) ∙ sym c.has_braces.ensures ∙ c.if-has_braces.false))
      | else-text-at-ne92 w ↦ rw w.clear-is (ClearUpTo-backslash (braces_of c.args.until) c.args.text.now c.bytes.clear c.bytes.at c.bytes.invariant c.bytes-test.true w.if-text-at-ne92.false)
    ]

pub returns : goal.returns
returns c = sym (clear_len-ends (braces_of c.args.until) c.args.text.now c.bytes.clear c.bytes.at c.bytes.invariant (omega (arith, c.bytes.invariant.within)))
