use Rattle.std.proofs.Common.{sym, ◌∙◌}
use Rattle.std.specs.Cmp.Lexicographic.{same_text}
use Rattle.handlebars_html.specs.SearchView.{template_of}
use Rattle.handlebars_html.proofs.NeededRows.{read-contained}
use Rattle.handlebars_html.proofs.search.names.Names.find.Goals as goal

pub returns-then-eq : goal.returns-then-eq
returns-then-eq c = (
  read-contained template_of c.args.checked.templates.now c.in_ok-place.field-0.now c.in_ok-named.field-0.now
      c.in_ok-named.ensures.lookup.3.0 c.in_ok-named.ensures.lookup.1,
  same_text c.in_ok-named.field-0.now.name.now c.args.name.now (sym c.if-eq.true ∙ c.eq.ensures),
)
