-- What a render context has, as definitions see it.
use Rattle.std.specs.Prelude.{◌≡◌, List, map, Option, option_map, string_bytes, Bool}
use Rattle.handlebars_base.specs.Bytes.{Text}
use Rattle.handlebars_scope.specs.Scopes.{Frame, nothing_at}
use Rattle.handlebars_scope.specs.ScopeView.{frames_of}
use Rattle.handlebars_scope.specs.declared.block.BlockContext.{BlockContext}
use Rattle.handlebars_semantics.specs.State.{State}
use Rattle.handlebars_layers.specs.Chain.{outside}
use Rattle.handlebars_values.specs.RunView.{run_state}
use Rattle.handlebars_values.specs.View.{frames_in_run}
use Rattle.handlebars_values.specs.declared.run.Run.{Run}
use Rattle.handlebars_context.specs.declared.context.RenderContext.{RenderContext}

-- A context determines a state except for what holds within an inclusion. This is its state outside of every inclusion.
abbrev pub state_of : RenderContext → State
state_of rc = run_state (frames_of rc.blocks.items) rc.run

-- the name of the template that the run began with, if it has one
abbrev pub root_of : RenderContext → Option Text
root_of rc = option_map string_bytes rc.root_template

abbrev pub has_failed : RenderContext → Bool
has_failed rc = rc.failed

-- the frame without its partials, which a decorator in a template may set
abbrev pub without_partial : Frame → Frame
without_partial f = record f { partial = nothing_at }

abbrev pub without_partials : List Frame → List Frame
without_partials fs = map without_partial fs

-- what no rendering changes: the first template's name, the scope frames but for their partials, whether lookup is
-- recursive and escaping is on, and, until the run is over, whether the context has failed
pub record IsUnchanged (before after : RenderContext) : Type 0 where
  pub root : root_of after ≡ root_of before
  pub blocks : without_partials (state_of after).blocks ≡ without_partials (state_of before).blocks
  pub recursive : (state_of after).recursive ≡ (state_of before).recursive
  pub escapes : (state_of after).escapes ≡ (state_of before).escapes
  pub failed : has_failed after ≡ has_failed before

-- the state of a run over these frames from outside, of which the nearest one has the partials that are set in the run
abbrev pub state_over : List BlockContext → Run → State
state_over blocks r = run_state (frames_in_run (outside (frames_of blocks)) r) r

-- These frames and this run were taken out of a context, which became another one.
pub record IsTaken (before : RenderContext) (blocks : List BlockContext) (r : Run) (after : RenderContext) : Type 0 where
  pub state : state_over blocks r ≡ state_of before
  pub root : root_of after ≡ root_of before
  pub failed : has_failed after ≡ has_failed before

-- Whether lookup is recursive and whether escaping is on are the same in two runs.
pub record HasSameModes (before after : Run) : Type 0 where
  pub recursive : after.recursive_lookup ≡ before.recursive_lookup
  pub escapes : after.escapes ≡ before.escapes
