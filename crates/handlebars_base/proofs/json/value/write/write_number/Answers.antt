use Rattle.std.proofs.Common.{sym, ◌∙◌, rules, w64, SFits, to_z-of_z}
use Rattle.serde_json.specs.View.{number_view}
use Rattle.handlebars_base.proofs.ShownValues.{shown-unsigned, shown-negative, shown-float}
use Rattle.handlebars_base.proofs.Writes.{whole-nil, written_is}
use Rattle.handlebars_base.proofs.json.value.write.write_number.Goals as goal

pub returns-in-Some-clause-written : goal.returns-in-Some-clause-written
returns-in-Some-clause-written g c = λ escapes.
    written_is _ _ _ (c.format.ensures.text ∙ sym (shown-unsigned escapes (number_view c.args.number.now) c.in-Some.n c.in-Some.ensures)) c.write.ensures.written

pub returns-in-Some-as_i64-clause-written : goal.returns-in-Some-as_i64-clause-written
returns-in-Some-as_i64-clause-written g c = λ escapes.
    let fits : SFits w64 c.in-Some-as_i64.n = search rules in
    let text = simp to_z-of_z at c.format-in-Some-as_i64.ensures.text in
    written_is _ _ _ (text ∙ sym (shown-negative escapes (number_view c.args.number.now) c.in-Some-as_i64.n c.in_default.ensures c.in-Some-as_i64.ensures))
    c.write-in-Some-as_i64.ensures.written

pub returns-in_default-as_i64-clause-written : goal.returns-in_default-as_i64-clause-written
returns-in_default-as_i64-clause-written g c = λ escapes.
    rw (shown-float escapes (number_view c.args.number.now) c.in_default.ensures c.in_default-as_i64.ensures) (whole-nil _)
