use Rattle.std.proofs.Common.{◌∙◌, ap, sym, ◌≡◌, false, drop}
use Rattle.std.specs.List.{slice_range}
use Rattle.handlebars_data.specs.TomlFloats.{is_float_value}
use Rattle.handlebars_data.proofs.TomlScans.{no_push, plain_word}
use Rattle.handlebars_data.proofs.toml_floats.push_word.Goals as goal

pub returns-then-word-at : goal.returns-then-word-at
returns-then-word-at c =
    no_push c.args.text.now c.args.copied c.args.word c.args.at _ c.requires.order c.if-word-at.true c.requires.start

pub returns-then-not-branch : goal.returns-then-not-branch
returns-then-not-branch c =
    let plain : is_float_value (slice_range c.args.text.now c.args.word c.args.at) (drop c.args.at c.args.text.now) ≡ false =
    ap (λ w. is_float_value w (drop c.args.at c.args.text.now)) (sym c.range.ensures.value) ∙ ap (is_float_value c.range.result.now) (sym c.range_from.ensures.value)
    ∙ sym c.in_ok-is_float_value.ensures ∙ c.if-not-branch.true in
    plain_word c.args.text.now c.args.copied c.args.word c.args.at _ c.requires.order c.requires.up_to c.requires.start plain
