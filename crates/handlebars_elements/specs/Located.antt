-- The error of a tree: what went wrong within an element, with its position and the name of the tree.
use Rattle.std.specs.Prelude.{◌≡◌, ◌≢◌, Option, Err}
use Rattle.handlebars_base.specs.Bytes.{Text}
use Rattle.handlebars_base.specs.Reasons.{out_of_memory}
use Rattle.handlebars_base.specs.RenderRefusals.{cause_of, location_of, reason_in}
use Rattle.handlebars_base.specs.declared.error.render_error.RenderError.{RenderError}
use Rattle.handlebars_template.specs.Position.{Position}
use Rattle.handlebars_semantics.specs.Runs.{named_as, positioned_at}
use Rattle.handlebars_write.specs.OutcomeView.{outcome_answer}
use Rattle.handlebars_write.specs.declared.outcome.Outcome.{Outcome}

-- The outcome is the error, with this position if it had none, and then with this name if it had none. If the name can't be
-- copied, the outcome is out of memory instead. Of the location of out of memory nothing is said.
pub record IsLocated (position : Option Position) (name : Option Text) (e : RenderError) (outcome : Outcome) : Type 0 where
  pub of_element : RenderError
  pub of_tree : RenderError
  pub answer : outcome_answer outcome ≡ Err of_tree
  pub positioned : reason_in of_element ≢ out_of_memory → location_of of_element ≡ positioned_at position (location_of e)
  pub cause : cause_of of_element ≡ cause_of e
  pub named : reason_in of_tree ≢ out_of_memory → location_of of_tree ≡ named_as name (location_of of_element)
  pub same_cause : reason_in of_tree ≢ out_of_memory → cause_of of_tree ≡ cause_of of_element
  pub memory : reason_in of_element ≡ out_of_memory → reason_in of_tree ≡ out_of_memory
