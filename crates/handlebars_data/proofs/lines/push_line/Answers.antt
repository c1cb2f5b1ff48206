use Rattle.std.proofs.Common.{◌∷◌, [], ◌∙◌, ap, sym}
use Rattle.serde_json.specs.View.{view}
use Rattle.handlebars_data.specs.JsonText.{text_data}
use Rattle.handlebars_data.specs.Lines.{is_blank}
use Rattle.handlebars_data.proofs.LineTexts.{value_of_text, map-push}
use Rattle.handlebars_data.proofs.lines.push_line.Goals as goal

pub returns-clause-ok : goal.returns-clause-ok
returns-clause-ok c = (
  view c.in_ok-value.value ∷ [],
  value_of_text (text_data c.args.numbers) c.args.line.now (view c.in_ok-value.value)
      (ap is_blank (sym c.as_bytes.ensures.value) ∙ sym c.is_blank.ensures ∙ c.if-is_blank.false) c.in_ok-value.ensures.ok,
  map-push c.push.new.self.items c.args.items.now.items c.in_ok-value.value c.in_ok-push.ensures.items,
)
