-- What a run reads and changes, as the code represents it.
use Rattle.std.specs.Prelude.{ℕ, List, map, Option, option_map}
use Rattle.std.specs.Cow.{cow_str_bytes}
use denote.Ref.{Bor}
use Rattle.handlebars_base.specs.Bytes.{Text}
use Rattle.handlebars_base.specs.PathAndData.{PathAndData}
use Rattle.handlebars_scope.specs.Contexts.{data_of}
use Rattle.handlebars_scope.specs.Scopes.{Frame}
use Rattle.handlebars_helpers.specs.CallView.{CallView}
use Rattle.handlebars_semantics.specs.State.{CapturedBlocks, Parts, Setting, State}
use Rattle.handlebars_layers.specs.Chain.{Chain, frames}
use Rattle.handlebars_layers.specs.LayerView.{chain_of}
use Rattle.handlebars_layers.specs.PartialsView.{partials_of}
use Rattle.handlebars_layers.specs.ScopeFrames.{scope_frames}
use Rattle.handlebars_expand.specs.declared.ahead.Captured.{Captured}
use Rattle.handlebars_values.specs.ParamView.{argument_view}
use Rattle.handlebars_values.specs.RunView.{run_state}
use Rattle.handlebars_values.specs.declared.called.Called.{Called}
use Rattle.handlebars_values.specs.declared.param_value.Argument.{Argument}
use Rattle.handlebars_values.specs.declared.environment.Environment as declared
use Rattle.handlebars_values.specs.declared.run.Run.{Run}

-- ---- what a run reads and changes

-- the setting of a run, as the code of a rendering represents it, with what it sees of a registry
abbrev pub setting_in : {P : Type 0} → (P → Parts) → declared.Environment P → Setting
setting_in parts x = record { given = data_of x.innermost.given.now; parts = parts x.inclusion.now.parts.now }

-- the view of a call or of another tag
abbrev pub arguments_seen : List (Bor Text × Argument) → List (Text × PathAndData)
arguments_seen hs = map (λ h. (h.0.now, argument_view h.1)) hs

abbrev pub called_view : Called → CallView
called_view c = record {
  name = cow_str_bytes c.name;
  params = map argument_view c.params.items;
  hash = arguments_seen c.hash.entries;
}

-- ---- what holds within an inclusion

-- What the code has of it: what is captured for partial blocks, if anything is; how many inclusions are being rendered; the
-- indentation in force, if there is one; and the layers around the element.
pub record Within : Type 0 where
  pub captured : Option Captured
  pub inclusions : ℕ
  pub indent : Option Text
  pub layers : Chain

abbrev pub within : {P : Type 0} → declared.Environment P → Within
within x = record {
  captured = option_map (λ k. k.now) x.inclusion.now.captured;
  inclusions = x.inclusion.now.inclusions;
  indent = option_map (λ t. t.now) x.inclusion.now.placement.indent;
  layers = chain_of x.innermost.nearest.now;
}

-- The code has the newest capture alone, while a state has the pieces of all captures.
pub record CapturedIn (w : Within) : Type 0 where
  pub pieces : CapturedBlocks

-- the scope frames that paths are resolved in, without the partials that decorators set in them
abbrev pub scopes_of : {P : Type 0} → declared.Environment P → List Frame
scopes_of x = frames (chain_of x.innermost.nearest.now)

-- the scope frames of a run in these layers: each with the partials that decorators set in it
abbrev pub frames_in_run : Chain → Run → List Frame
frames_in_run layers r = scope_frames (partials_of r.partials) layers

abbrev pub with_captured : {w : Within} → CapturedIn w → State → State
with_captured {w = w} captured s = record s { indent = w.indent; captured = captured.pieces; inclusions = w.inclusions }

-- the state of a run within an inclusion, with these captured pieces
abbrev pub state_with : {w : Within} → CapturedIn w → Run → State
state_with {w = w} captured r = with_captured captured (run_state (frames_in_run w.layers r) r)
