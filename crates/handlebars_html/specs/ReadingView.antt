-- How the definitions view what a template is read by, and its ends then.
use Rattle.std.specs.Prelude.{if◌then◌else◌, List, [], ◌∷◌, Option, option_map}
use Rattle.handlebars_base.specs.Bytes.{Text}
use Rattle.handlebars_template.specs.Position.{Position}
use Rattle.handlebars_template.specs.Tree.{Tree, Element, Call, Bodies, Body, Decorator, decorator_args, decorator_body, decorator_marks}
use Rattle.handlebars_template.specs.TreeView.{position_of}
use Rattle.handlebars_html.specs.Html.{Html, beginning}
use Rattle.handlebars_html.specs.Rule.{Registered, Effect, inline_name}
use Rattle.handlebars_html.specs.Rows.{Row, without_state}
use Rattle.handlebars_html.specs.Check as check
use Rattle.handlebars_html.specs.Registry.{registered_in}
use Rattle.handlebars_html.specs.RowsView.{rows_of}
use Rattle.handlebars_html.specs.SearchView.{user_defined_of}
use Rattle.handlebars_html.specs.declared.reading.Reading.{Reading}

module _ (r : Reading) where
  -- what is registered under the names of helpers
  abbrev pub registered_at : Text → Registered
  registered_at = registered_in (user_defined_of r.user.now)

  -- the rows of its table
  abbrev pub rows_at : List Row
  rows_at = rows_of r.table.now

  -- the name of the template, if it has one
  abbrev pub name_at : Option Text
  name_at = option_map (λ n. n.now) r.location.template_name

  -- the position of an element, if it is known
  abbrev pub position_at : Option Position
  position_at = option_map position_of r.location.position

  -- ---- ends

  abbrev pub tree_ends_at : Tree → List Html → check.Ends
  tree_ends_at t hs = check.tree_ends registered_at rows_at name_at t hs

  abbrev pub element_ends_at : Element → List Html → check.Ends
  element_ends_at e hs = check.element_ends registered_at rows_at name_at position_at e hs

  abbrev pub expression_ends_at : Call → List Html → check.Ends
  expression_ends_at c hs = check.expression_ends registered_at rows_at name_at position_at c hs

  abbrev pub block_ends_at : Call → List Html → check.Ends
  block_ends_at c hs = check.block_ends registered_at rows_at name_at position_at c hs

  abbrev pub bodies_ends_at : Bodies → Effect → List Html → check.Ends
  bodies_ends_at t e hs = check.bodies_ends registered_at rows_at name_at position_at t e hs

  abbrev pub branch_ends_at : Body → List Html → check.Ends
  branch_ends_at b hs = check.branch_ends registered_at rows_at name_at b hs

  abbrev pub own_ends_at : Body → List Html → check.Ends
  own_ends_at b hs = check.own_ends registered_at rows_at name_at b hs

  abbrev pub decorator_ends_at : Decorator → List Html → check.Ends
  decorator_ends_at t hs = check.decorator_ends registered_at rows_at name_at t hs

  abbrev pub inclusion_ends_at : Decorator → List Html → check.Ends
  inclusion_ends_at t hs = check.inclusion_ends registered_at rows_at name_at position_at t hs

  -- the block of an inclusion as it is captured, with what is wrong with its ends
  abbrev pub captured_at : Decorator → check.Ends
  captured_at t =
      let x = own_ends_at (decorator_body t) (beginning ∷ []) in record {
        states = x.states;
        findings = check.both_findings x.findings
            (check.findings_at registered_at rows_at name_at position_at (check.whys_of_captured x.states));
      }

  -- an inclusion, with its name, if that is written
  abbrev pub named_inclusion_at : Decorator → Option Text → List Html → check.Ends
  named_inclusion_at t n hs =
      check.inclusion_parts registered_at rows_at name_at position_at n (decorator_marks t) hs
      (own_ends_at (decorator_body t) (beginning ∷ [])) (own_ends_at (decorator_body t) (without_state hs beginning))

  -- an inline partial, where something is included by a name in a state
  abbrev pub inline_at : Decorator → Text → Html → check.Ends
  inline_at t n h =
      if check.may_name (inline_name (decorator_args t)) n then own_ends_at (decorator_body t) (h ∷ []) else check.ends_in []

  -- what is found in one iteration of a body from a state
  abbrev pub iteration_at : Body → Html → check.Findings
  iteration_at b h = check.iteration_findings registered_at rows_at name_at position_at h (branch_ends_at b (h ∷ []))
