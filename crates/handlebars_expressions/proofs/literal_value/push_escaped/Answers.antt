use Rattle.std.proofs.Common.{rules, arith, sym, ap, ◌∙◌, ◌++◌, List, ℕ, string_bytes}
use Rattle.handlebars_expressions.specs.LiteralValue.{escaped_doubles}
use Rattle.handlebars_expressions.proofs.Quotes.{is_split_at_first, lacks_mark, escaped_doubles-none, escaped_iteration}
use Rattle.handlebars_expressions.proofs.literal_value.push_escaped.Goals as goal

pub pieces-preserved : goal.pieces-preserved
pieces-preserved c =
    let b = c.in-Some.ensures.byte (omega arith) (λ w o h. h) in
    let around = is_split_at_first 34 c.pieces.rest.now c.in-Some.prefix.now c.in-Some.after.now b.2 b.0 b.1 in
    let more = c.in_ok-push_str.ensures.bytes in
    let last = c.in_ok-push_str-2.ensures.bytes in
    record {
      text = search rules;
      same = rw (last, more) (escaped_iteration (string_bytes c.pieces.out) (string_bytes c.args.out.now ++ escaped_doubles c.args.text.now) c.pieces.rest.now c.in-Some.prefix.now c.in-Some.after.now c.pieces.invariant.same around);
    }

pub returns : goal.returns
returns c =
    let b = c.in_default.ensures.byte (omega arith) (λ w o h. h) in
    let left = escaped_doubles-none c.pieces.rest.now (lacks_mark 34 c.pieces.rest.now b) in
    c.in_ok-push_str-3.ensures.bytes ∙ ap (λ (z : List ℕ). string_bytes c.pieces.out ++ z) (sym left) ∙ c.pieces.invariant.same
