-- The layers of iterations, the routes to values, and what is rendered in a layer.
use Rattle.std.specs.Prelude.{◌≡◌, ◌++◌, ◌∷◌, [], ℕ, Bool, true, Option, None, Some}
use denote.MutBor.{MutBor}
use denote.Ref.{Bor}
use denote.Triple.Both.{Both}
use Rattle.serde_json.specs.Data.{Data}
use Rattle.serde_json.specs.View.{view}
use Rattle.serde_json.specs.declared.value.Value as json
use Rattle.handlebars_scope.specs.Resolve.{value_at}
use Rattle.handlebars_layers.specs.Chain.{Chain, IsValue, LayerKind, node_layer, value_layer}
use Rattle.handlebars_layers.specs.Destination.{given_in, route_names}
use Rattle.handlebars_helpers.specs.View.{iteration_view}
use Rattle.handlebars_helpers.specs.declared.iteration.Iteration as declared_iteration
use Rattle.handlebars_layers.specs.LayerView.{chain_of, descent_names, names_seen}
use Rattle.handlebars_layers.specs.Layering.{iteration_kind_by_names}
use Rattle.handlebars_layers.specs.declared.layer.BlockNames.{BlockNames}
use Rattle.handlebars_layers.specs.declared.destination.Route.{Route}
use Rattle.handlebars_expand.specs.PiecesView.{template_seen}
use Rattle.handlebars_semantics.specs.Execute.{change}
use Rattle.handlebars_semantics.specs.Occurrences.{TreeOccurrence, around}
use Rattle.handlebars_semantics.specs.State.{Parts, pop_frame}
use Rattle.handlebars_semantics.specs.Steps.{Prog, ◌>>◌}
use Rattle.handlebars_values.specs.RunView.{run_state}
use Rattle.handlebars_values.specs.View.{CapturedIn, frames_in_run, setting_in, with_captured, within}
use Rattle.handlebars_values.specs.declared.environment.Environment as declared
use Rattle.handlebars_values.specs.declared.run.Run.{Run}
use Rattle.handlebars_write.specs.LocationView.{indexes_of}
use Rattle.handlebars_write.specs.ModeView.{ModeView}
use Rattle.handlebars_write.specs.OutcomeView.{outcome_answer}
use Rattle.handlebars_write.specs.View.{RefinesProg, held_in, moment_at}
use Rattle.handlebars_write.specs.declared.outcome.Outcome.{Outcome}
use Rattle.handlebars_write.specs.declared.sink.Sink.{Sink}
use Rattle.handlebars_elements.specs.View.{Captures, moment}

-- The names of the route lead to the value in these data.
abbrev pub IsRouteTo : Data → Bor json.Value → Bor Route → Type 0
IsRouteTo d v r = IsValue (value_at d (route_names r.now)) (view v.now) × (given_in r.now.start ≡ d)

-- The route leads to the value, if there is one.
abbrev pub IsRouteIfAny : Data → Bor json.Value → Option (Bor Route) → Type 0
IsRouteIfAny d v None = Unit {0}
IsRouteIfAny d v (Some r) = IsRouteTo d v r

-- the layer of an iteration at a member: of a value that this route leads to, or of a value that has no path
abbrev pub iteration_chain : Data → Option (Bor Route) → LayerKind → Chain → Chain
iteration_chain member None kind outer = value_layer member kind outer
iteration_chain member (Some r) kind outer = node_layer member (chain_of r.now.start.nearest.now) r.now.start.skipped
    (descent_names r.now.descent) kind outer

-- The program was executed, beginning in the scope frames of these layers, and then the innermost of them was left. The run ends
-- in the scope frames of the environment.
abbrev pub RefinesInLayer : {P O T : Type 0} → (P → Parts) → ModeView O → declared.Environment P → Chain
    → Both (MutBor Run) (MutBor Run) → Both (MutBor (Sink O T)) (MutBor (Sink O T)) → Outcome → Prog (Unit {0}) → Type 0
RefinesInLayer parts w x layers run sink outcome m =
    (captured : CapturedIn (within x)) → Captures w.asks captured → RefinesProg (setting_in parts x) (m >> change pop_frame) w.may_give
    (moment_at (with_captured captured (run_state (frames_in_run layers run.entry.now) run.entry.now)) (held_in w sink.entry.now))
    (outcome_answer outcome) (moment captured run.exit.now (held_in w sink.exit.now))

-- The program was executed, beginning and ending in the scope frames of these layers.
abbrev pub RefinesInFrames : {P O T : Type 0} → (P → Parts) → ModeView O → declared.Environment P → Chain
    → Both (MutBor Run) (MutBor Run) → Both (MutBor (Sink O T)) (MutBor (Sink O T)) → Outcome → Prog (Unit {0}) → Type 0
RefinesInFrames parts w x layers run sink outcome m =
    (captured : CapturedIn (within x)) → Captures w.asks captured → RefinesProg (setting_in parts x) m w.may_give
    (moment_at (with_captured captured (run_state (frames_in_run layers run.entry.now) run.entry.now)) (held_in w sink.entry.now))
    (outcome_answer outcome)
    (moment_at (with_captured captured (run_state (frames_in_run layers run.exit.now) run.exit.now)) (held_in w sink.exit.now))

-- the layer of an iteration in an environment
abbrev pub iteration_in : {P : Type 0} → declared.Environment P → Option (Bor Route) → BlockNames → declared_iteration.Iteration → Chain
iteration_in x route names t = iteration_chain (view t.member.now) route (iteration_kind_by_names (names_seen names) (iteration_view t))
    (chain_of x.innermost.nearest.now)

-- The code knows what is around the tree that is rendered in the iteration of this index, if pieces are emitted.
abbrev pub KnowsIteration : {P : Type 0} → Bool → declared.Environment P → ℕ → TreeOccurrence → Type 0
KnowsIteration asks x index at = asks ≡ true
    → around at ≡ record { template = template_seen x.inclusion.now.placement.template; iterations = indexes_of x.iterations.now ++ index ∷ [] }
