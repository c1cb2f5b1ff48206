-- How the definitions view what the code checks, and what it says.
use Rattle.std.specs.Str.{bytes_eq}
use Rattle.std.specs.Prelude.{if◌then◌else◌, List, [], ◌∷◌, Some, map, string_bytes}
use Rattle.handlebars_base.specs.Bytes.{Text}
use Rattle.handlebars_template.specs.Tree.{Tree}
use Rattle.handlebars_template.specs.TreeView.{tree_view}
use Rattle.handlebars_helpers.specs.EscapeView.{escaping_of}
use Rattle.handlebars_html.specs.Check.{Findings, Ends, ends_in, tree_ends}
use Rattle.handlebars_html.specs.Html.{Html}
use Rattle.handlebars_html.specs.Registry as registry
use Rattle.handlebars_html.specs.Rows.{Row}
use Rattle.handlebars_html.specs.RowsView.{fault_of}
use Rattle.handlebars_html.specs.Search as search
use Rattle.handlebars_html.specs.declared.search.Checked.{Checked}
use Rattle.handlebars_html.specs.declared.search.NamedTemplate.{NamedTemplate}
use Rattle.handlebars_html.specs.declared.search.Pages.{Pages}
use Rattle.handlebars_html.specs.declared.search.Pages.TheVariants as pages
use Rattle.handlebars_html.specs.declared.search.Verdict.{Verdict}
use Rattle.handlebars_html.specs.declared.search.Verdict.TheVariants as verdict
use Rattle.handlebars_html.specs.declared.user.UserDefined.{UserDefined}
use Rattle.handlebars_html.specs.declared.user.OtherHelper.{OtherHelper}
use Rattle.handlebars_html.specs.declared.user.OtherKind.{OtherKind}
use Rattle.handlebars_html.specs.declared.user.OtherKind.TheVariants as kind

abbrev pub kind_of : OtherKind → registry.OtherKind
kind_of kind.GivesUrls = registry.gives_urls
kind_of kind.GivesValues = registry.gives_values
kind_of kind.MayHaveSteps = registry.may_have_steps
kind_of kind.Misplaced = registry.misplaced

abbrev pub helper_of : OtherHelper → Text × registry.OtherKind
helper_of h = (string_bytes h.name, kind_of h.kind)

abbrev pub user_defined_of : UserDefined → registry.UserDefined
user_defined_of u = record {
  escape = escaping_of u.escape;
  helpers = map helper_of u.helpers.items;
  decorators = map string_bytes u.decorators.items;
}

abbrev pub template_of : NamedTemplate → Text × Tree
template_of t = (t.name.now, tree_view t.template.now)

abbrev pub pages_of : Pages → search.Pages
pages_of (pages.Source t) = search.source (tree_view t.now)
pages_of pages.AllTemplates = search.all_templates

abbrev pub verdict_of : Verdict → search.Verdict
verdict_of verdict.NoFaults = search.no_faults
verdict_of (verdict.Faults fs) = search.some_faults (map fault_of fs.items)
verdict_of verdict.Undecided = search.undecided

module _ (c : Checked) where
  abbrev pub user_at : registry.UserDefined
  user_at = user_defined_of c.user.now

  abbrev pub templates_at : List (Text × Tree)
  templates_at = map template_of c.templates.now

  abbrev pub pages_at : search.Pages
  pages_at = pages_of c.pages

  -- a template, from the state in which it is included
  abbrev pub template_at : List Row → NamedTemplate → Html → Ends
  template_at rows t h =
      tree_ends (registry.registered_in user_at) rows (Some t.name.now) (tree_view t.template.now) (h ∷ [])

  -- a template, where something is included by a name in a state
  abbrev pub included_at : List Row → Text × Tree → Text → Html → Ends
  included_at rows x n h =
      if bytes_eq n x.0 then tree_ends (registry.registered_in user_at) rows (Some x.0) x.1 (h ∷ []) else ends_in []

  abbrev pub round_at : List Row → Findings
  round_at rows = search.round user_at rows templates_at pages_at

  abbrev pub AreNeededAt : List Row → Type 0
  AreNeededAt rows = search.AreNeeded user_at templates_at pages_at rows

  abbrev pub IsVerdictAt : search.Verdict → Type 0
  IsVerdictAt v = search.IsVerdict user_at templates_at pages_at v
