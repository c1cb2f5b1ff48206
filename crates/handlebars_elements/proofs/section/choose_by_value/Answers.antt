use Rattle.handlebars_values.specs.ParamView.{value_found}
use Rattle.handlebars_elements.proofs.SectionChoices.{section-decided}
use Rattle.handlebars_elements.proofs.section.choose_by_value.Goals as goal

pub returns-clause-chooses : goal.returns-clause-chooses
returns-clause-chooses g c = rw (section-decided c.args.helper.now _ c.section_kind.result _ (value_found c.args.value) c.is_some.ensures c.is_some-2.ensures
    c.section_kind.ensures) (rw c.strict.ensures at c.decide_by_first.ensures.decides)
