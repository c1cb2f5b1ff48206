use Rattle.std.proofs.Common.{◌≡◌, List, map, true, sym, ap, ◌∙◌, subst}
use Rattle.handlebars_base.specs.Bytes.{Text}
use Rattle.handlebars_html.specs.Check.{findings_of_entering}
use Rattle.handlebars_html.specs.HtmlView.{html_of}
use Rattle.handlebars_html.specs.Rows as rows
use Rattle.handlebars_html.specs.Rows.{entering, has_entering}
use Rattle.handlebars_html.specs.RowsView.{row_of, rows_of}
use Rattle.handlebars_html.specs.SearchView.{AreNeededAt, pages_at, template_at, template_of, templates_at, user_at}
use Rattle.handlebars_html.specs.declared.found.Found.{Found}
use Rattle.handlebars_html.proofs.NeededRows.{entering-read, needed-nothing, needed-part}
use Rattle.handlebars_html.proofs.Rounds.{needed-entering}
use Rattle.handlebars_html.proofs.search.explore.read_row.Goals.{in-Some-Entering+in-Some+in_ok-read_at-in-Some, in-Some-Entering+in-None-find+in_ok-add_inlines-in-None-find, in-Some-Leaving, in-None}
use Rattle.handlebars_html.proofs.search.explore.read_row.Goals as goal

pub returns : goal.returns
returns c = λ needed.
    let u = user_at c.args.checked in
    let templates = templates_at c.args.checked in
    let pages = pages_at c.args.checked in
    let table = rows_of c.args.table.now in
    let nothing = needed-nothing u templates pages c.new-found.result c.new-found.ensures in
    let Finds = λ (f : Found). AreNeededAt c.args.checked (map row_of f.rows.items) in
    elim c.match-get.branch [
      | in-Some-Entering+in-Some+in_ok-read_at-in-Some w ↦
          let named = w.in-Some.named in
          let h = html_of w.in-Some-Entering.state in
          let row = w.in-Some-Entering.field-0.now in
          let at = ap row_of w.in-Some-Entering.field-0-is
          ∙ ap (λ (z : Text). entering z h) (sym (w.in-Some.ensures.1 ∙ w.as_str.ensures.value)) in
          let has = subst (λ (zs : List rows.Row). has_entering zs named.name.now h ≡ true) c.rows.ensures
          (entering-read c.rows.result.now c.args.place row named.name.now h w.in-Some-Entering.ensures.lookup.3.0
          w.in-Some-Entering.ensures.lookup.1 at) in
          subst Finds (sym w.found-is)
          (needed-part u templates pages table c.new-found.result w.read_at.new.found
          (findings_of_entering named.name.now h (template_at c.args.checked table named h)) c.new-found.ensures
          w.in_ok-read_at-in-Some.ensures
          (needed-entering u templates pages table needed (template_of named) w.in-Some.ensures.0 h has))
      | in-Some-Entering+in-None-find+in_ok-add_inlines-in-None-find w ↦ subst Finds (sym w.found-is) nothing
      | in-Some-Leaving w ↦ subst Finds (sym w.found-is) nothing
      | in-None w ↦ subst Finds (sym w.found-is) nothing
    ]
