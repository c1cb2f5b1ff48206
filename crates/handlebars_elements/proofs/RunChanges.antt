-- What actions of decorators change in a run.
use Rattle.std.proofs.Common.{◌≡◌, List, [], Option, Some, None, option_map, refl, ap, ◌∙◌}
use denote.Ref.{Bor}
use Rattle.handlebars_base.specs.Bytes.{Text}
use Rattle.handlebars_template.specs.Tree.{Tree}
use Rattle.handlebars_scope.specs.Contexts.{data_of}
use Rattle.handlebars_scope.specs.Scopes.{Frame}
use Rattle.handlebars_scope.specs.declared.context.Context.{Context}
use Rattle.handlebars_layers.specs.PartialsView.{partials_of}
use Rattle.handlebars_layers.specs.ScopeFrames.{scope_frames}
use Rattle.handlebars_layers.specs.declared.partials.Partials.{Partials}
use Rattle.handlebars_semantics.specs.State.{State, nearest_as, with_nearest, with_partial}
use Rattle.handlebars_values.specs.RunView.{HasSamePartials, run_state}
use Rattle.handlebars_values.specs.View.{CapturedIn, Within, frames_in_run, state_with, with_captured}
use Rattle.handlebars_values.specs.declared.run.Run.{Run}
use Rattle.handlebars_elements.specs.View.{IsUnchanged}

-- a borrow of changed data is of the same data
pub changed-seen : (borrowed : Option (Bor Context)) {changed : Option Context} → option_map (λ c. c.now) borrowed ≡ changed
    → option_map (λ c. data_of c.now) borrowed ≡ option_map data_of changed
changed-seen None is = ap (option_map data_of) is
changed-seen (Some c) is = ap (option_map data_of) is

pub unchanged-refl : (r : Run) → IsUnchanged r r
unchanged-refl r = record { recursive = refl; escapes = refl }

pub unchanged-trans : {a b c : Run} → IsUnchanged a b → IsUnchanged b c → IsUnchanged a c
unchanged-trans f g = record { recursive = g.recursive ∙ f.recursive; escapes = g.escapes ∙ f.escapes }

-- what changes neither lookup nor escaping, by the states of the run
pub unchanged-by : (new old : Run) (f : State → State) → ((s : State) → (f s).recursive ≡ s.recursive)
    → ((s : State) → (f s).escapes ≡ s.escapes) → ((fs : List Frame) → run_state fs new ≡ f (run_state fs old)) → IsUnchanged old new
unchanged-by new old f recursive escapes is = record {
  recursive = ap (λ (s : State). s.recursive) (is []) ∙ recursive (run_state [] old);
  escapes = ap (λ (s : State). s.escapes) (is []) ∙ escapes (run_state [] old);
}

-- a run that is changed but for the partials of scope frames
pub state-changed : {w : Within} (captured : CapturedIn w) (new old : Run) (f : State → State) → HasSamePartials old new
    → ((fs : List Frame) → run_state fs new ≡ f (run_state fs old))
    → state_with captured new ≡ with_captured captured (f (run_state (frames_in_run w.layers old) old))
state-changed {w = w} captured new old f same is =
    ap (with_captured captured) (is (frames_in_run w.layers new)
    ∙ ap (λ (partials : Partials). f (run_state (scope_frames (partials_of partials) w.layers) old)) same)

-- a partial that is set in the nearest scope frame
pub partial-set : (s : State) (fs : List Frame) (name : Text) (t u : Tree) → t ≡ u → fs ≡ nearest_as (with_partial name t) s.blocks
    → record s { blocks = fs } ≡ with_nearest (with_partial name u) s
partial-set s fs name t u same is =
    ap (λ (z : List Frame). record s { blocks = z }) (is ∙ ap (λ (z : Tree). nearest_as (with_partial name z) s.blocks) same)
