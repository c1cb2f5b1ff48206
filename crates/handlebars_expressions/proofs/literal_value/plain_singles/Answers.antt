use Rattle.std.proofs.Common.{rules, arith, sym, ap, ◌∙◌, ◌++◌, List, ℕ, string_bytes}
use Rattle.handlebars_expressions.specs.LiteralValue.{plain_singles}
use Rattle.handlebars_expressions.proofs.Quotes.{is_split_at_first, lacks_mark, plain_singles-none, plain_iteration-retained, plain_iteration-dropped}
use Rattle.handlebars_expressions.proofs.literal_value.plain_singles.Goals as goal

pub pieces-preserved-in_ok-push_str-2 : goal.pieces-preserved-in_ok-push_str-2
pieces-preserved-in_ok-push_str-2 c =
    let b = c.in-Some.ensures.byte (omega arith) (λ w o h. h) in
    let around = is_split_at_first 92 c.pieces.rest.now c.in-Some.prefix.now c.in-Some.after.now b.2 b.0 b.1 in
    let more = c.in_ok-push_str.ensures.bytes in
    let last = c.in_ok-push_str-2.ensures.bytes in
    record {
      text = search rules;
      same = rw (last, more) (plain_iteration-retained (string_bytes c.pieces.plain) (plain_singles c.args.text.now) c.pieces.rest.now c.in-Some.prefix.now c.in-Some.after.now c.pieces.invariant.same around (sym c.starts_single.ensures ∙ c.if-not-starts_single.true));
    }

pub pieces-preserved : goal.pieces-preserved
pieces-preserved c =
    let b = c.in-Some.ensures.byte (omega arith) (λ w o h. h) in
    let around = is_split_at_first 92 c.pieces.rest.now c.in-Some.prefix.now c.in-Some.after.now b.2 b.0 b.1 in
    let more = c.in_ok-push_str.ensures.bytes in
    record {
      text = search rules;
      same = rw more (plain_iteration-dropped (string_bytes c.pieces.plain) (plain_singles c.args.text.now) c.pieces.rest.now c.in-Some.prefix.now c.in-Some.after.now c.pieces.invariant.same around (sym c.starts_single.ensures ∙ c.if-not-starts_single.false));
    }

pub returns : goal.returns
returns c =
    let b = c.in_default.ensures.byte (omega arith) (λ w o h. h) in
    let left = plain_singles-none c.pieces.rest.now (lacks_mark 92 c.pieces.rest.now b) in
    c.in_ok-push_str-3.ensures.bytes ∙ ap (λ (z : List ℕ). string_bytes c.pieces.plain ++ z) (sym left) ∙ c.pieces.invariant.same
