use Rattle.std.proofs.Common.{◌∙◌, ap, sym, arith, rules, map, Some, option_map}
use Rattle.std.proofs.lemmas.Result.{err_from_is_err_and}
use Rattle.serde_json.specs.Data.{array}
use Rattle.serde_json.specs.View.{items_of, view}
use Rattle.serde_json.proofs.Views.{view-Array}
use Rattle.handlebars_data.specs.JsonText.{text_data}
use Rattle.handlebars_data.proofs.LineTexts.{bad_line, last_bad, none_passed, one_passed, next_values, next_refused, last_values, last_refused}
use Rattle.handlebars_data.proofs.lines.read_lines.Goals as goal

pub returns-in_err-push_line-clause-err : goal.returns-in_err-push_line-clause-err
returns-in_err-push_line-clause-err c =
    let p = err_from_is_err_and c.from_residual.result c.from_residual.ensures.1 in
    let around = c.in-Some.ensures.byte (omega arith) (λ w o h. h) in
    rw (p.1, p.2) (λ other. ap (option_map array) (next_refused (text_data c.args.numbers) (map view c.lines.items.items) c.lines.rest.now c.in-Some.line.now c.in-Some.after.now _
    around.2 around.0 around.1 (c.in_err-push_line.ensures.err other).0 c.lines.invariant.whole))

pub lines-init : goal.lines-init
lines-init c = record {
  text = search rules;
  whole = search rules;
  passed = none_passed (text_data c.args.numbers) c.args.text.now;
}

pub returns-in_err-push_line-clause-line : goal.returns-in_err-push_line-clause-line
returns-in_err-push_line-clause-line c =
    let p = err_from_is_err_and c.from_residual.result c.from_residual.ensures.1 in
    let around = c.in-Some.ensures.byte (omega arith) (λ w o h. h) in
    rw (p.1, p.2) (λ other. bad_line c.args.numbers c.args.text.now c.lines.rest.now c.in-Some.line.now c.in-Some.after.now _ _
    around.2 around.0 around.1 (c.in_err-push_line.ensures.err other) c.lines.invariant.passed)

pub returns-in_err-push_line-2-clause-line : goal.returns-in_err-push_line-2-clause-line
returns-in_err-push_line-2-clause-line c =
    let p = err_from_is_err_and c.from_residual-in_err-push_line-2.result c.from_residual-in_err-push_line-2.ensures.1 in
    let none = c.in_default.ensures.byte (omega arith) (λ w o h. h) in
    rw (p.1, p.2) (λ other. last_bad c.args.numbers c.args.text.now c.lines.rest.now _ _ none (c.in_err-push_line-2.ensures.err other) c.lines.invariant.passed)

pub lines-preserved : goal.lines-preserved
lines-preserved c =
    let around = c.in-Some.ensures.byte (omega arith) (λ w o h. h) in
    let pushed = c.in_ok-push_line.ensures.ok in
    record {
      text = search rules;
      whole = rw pushed.2 (next_values (text_data c.args.numbers) (map view c.lines.items.items) pushed.0 c.lines.rest.now c.in-Some.line.now c.in-Some.after.now _
          around.2 around.0 around.1 pushed.1 c.lines.invariant.whole);
      passed = one_passed (text_data c.args.numbers) c.args.text.now c.lines.rest.now c.in-Some.line.now c.in-Some.after.now pushed.0 c.lines.number _
          around.2 around.0 around.1 pushed.1 c.saturating_add-number.ensures c.lines.invariant.passed;
    }

pub returns-in_err-push_line-2-clause-err : goal.returns-in_err-push_line-2-clause-err
returns-in_err-push_line-2-clause-err c =
    let p = err_from_is_err_and c.from_residual-in_err-push_line-2.result c.from_residual-in_err-push_line-2.ensures.1 in
    let none = c.in_default.ensures.byte (omega arith) (λ w o h. h) in
    rw (p.1, p.2) (λ other. ap (option_map array) (last_refused (text_data c.args.numbers) (map view c.lines.items.items) c.lines.rest.now _
    none (c.in_err-push_line-2.ensures.err other).0 c.lines.invariant.whole))

pub returns-clause-ok : goal.returns-clause-ok
returns-clause-ok c =
    let none = c.in_default.ensures.byte (omega arith) (λ w o h. h) in
    let pushed = c.in_ok-push_line-2.ensures.ok in
    let all = last_values (text_data c.args.numbers) (map view c.lines.items.items) pushed.0 c.lines.rest.now _ none pushed.1 c.lines.invariant.whole in
    ap (option_map array) all ∙ ap (λ ds. Some (array (items_of ds))) (sym pushed.2) ∙ ap Some (sym (view-Array c.push_line-2.new.items))
