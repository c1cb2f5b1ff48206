use Rattle.std.proofs.Common.{sym, ◌∙◌, rules, w64, SFits, to_z-of_z}
use Rattle.serde_json.specs.View.{number_view}
use Rattle.handlebars_base.proofs.ShownValues.{shown-unsigned, shown-negative, shown-float}
use Rattle.handlebars_write.proofs.plain.number_text.Goals as goal

pub returns-in-Some : goal.returns-in-Some
returns-in-Some c = λ entities. shown-unsigned entities (number_view c.args.number.now) c.in-Some.n c.in-Some.ensures ∙ sym c.format.ensures.text

pub returns-in-Some-as_i64 : goal.returns-in-Some-as_i64
returns-in-Some-as_i64 c = λ entities.
    let fits : SFits w64 c.in-Some-as_i64.n = search rules in
    shown-negative entities (number_view c.args.number.now) c.in-Some-as_i64.n c.in_default.ensures c.in-Some-as_i64.ensures
    ∙ sym (simp to_z-of_z at c.format-in-Some-as_i64.ensures.text)

pub returns-in_default-as_i64 : goal.returns-in_default-as_i64
returns-in_default-as_i64 c = λ entities. shown-float entities (number_view c.args.number.now) c.in_default.ensures c.in_default-as_i64.ensures
