-- The name of a registered template.
use Rattle.handlebars_base.specs.Bytes.{Text}
use Rattle.handlebars_html.specs.declared.search.NamedTemplate.{NamedTemplate}

abbrev pub name_of_template : NamedTemplate → Text
name_of_template t = t.name.now
