-- What the loop over iterations executes: each iteration is in a layer of its own, which is the one scope frame of `each`, set up
-- once more.
use Rattle.std.proofs.Common.{◌≡◌, ℕ, List, [], ◌∷◌, Option, None, Some, Err, refl, sym, ap, ◌∙◌, subst, ◌++◌, Bool, true, rules}
use Rattle.std.specs.Prelude.{is_some, option_map}
use denote.Ref.{Bor}
use Rattle.std.specs.declared.io.Error.{Error}
use Rattle.serde_json.specs.Data.{Data}
use Rattle.serde_json.specs.View.{view}
use Rattle.serde_json.specs.declared.value.Value as json
use Rattle.handlebars_base.specs.Bytes.{Text}
use Rattle.handlebars_base.specs.declared.error.render_error.RenderError.{RenderError}
use Rattle.handlebars_template.specs.Tree.{Binding}
use Rattle.handlebars_scope.specs.Scopes.{Frame, empty_frame}
use Rattle.handlebars_helpers.specs.Iterations.{Iteration, iteration_frame}
use Rattle.handlebars_semantics.specs.Execute.{in_scope_frame}
use Rattle.handlebars_semantics.specs.Occurrences.{Around, Occurrence, Template, around, as_iteration, body_at, whereabouts}
use Rattle.handlebars_semantics.specs.State.{Setting, State, nearest_as, outer_frames, pop_frame, push_frame}
use Rattle.handlebars_semantics.specs.Steps.{Prog}
use Rattle.handlebars_layers.specs.Chain.{BlockNames, Chain, NodesAreThere}
use Rattle.handlebars_layers.specs.Destination.{route_names}
use Rattle.handlebars_layers.specs.LayerView.{chain_of, descent_names}
use Rattle.handlebars_layers.specs.Layering.{bound_names, iteration_kind, iteration_kind_by_names}
use Rattle.handlebars_layers.specs.Members.{AllKeyed, AllMembers, IsMember}
use Rattle.handlebars_layers.specs.ScopeFrames.{ByDepth, IsEntered, scope_frames}
use Rattle.handlebars_layers.specs.declared.destination.Route.{Route}
use Rattle.handlebars_layers.proofs.Entering.{enters-iterations, enters-next-iteration}
use Rattle.handlebars_layers.proofs.Members.{iteration-there}
use Rattle.handlebars_layers.proofs.ScopeFrames.{leaves-outer}
use Rattle.handlebars_write.specs.View.{Holding, RefinesProg, moment_at}
use Rattle.handlebars_write.specs.LocationView.{indexes_of}
use Rattle.handlebars_write.specs.declared.location.IterationsAround.{IterationsAround, the_lemmas}
use Rattle.handlebars_write.specs.declared.location.IterationsAround.TheVariants as around_variants
use Rattle.handlebars_write.proofs.Refinement.{refines_prog-elsewhere, refines_prog-in_block}
use Rattle.handlebars_elements.specs.Iterating.{IsRouteIfAny, iteration_chain}

-- the names that lead to what is iterated over, if it is a value of the data
abbrev pub path_of : Option (Bor Route) → Option (List Text)
path_of route = option_map (λ r. route_names r.now) route

-- ---- the scope frame of `each`

-- The layer of an iteration that is left is this frame, once it is set up for the iteration; the frames around it are those of the
-- layers around.
pub record IsFrame (at : ByDepth) (outer : Chain) (route : Option (Bor Route)) (binding : Binding) (keyed : Bool) (fs : List Frame)
    : Type 0 where
  pub sets : (t : Iteration) → is_some t.key ≡ keyed
      → scope_frames at (iteration_chain t.member route (iteration_kind binding t) outer)
      ≡ nearest_as (iteration_frame (path_of route) binding t) fs
  pub around : outer_frames fs ≡ scope_frames at outer

pub first-frame : (new old : ByDepth) (c : Chain) (route : Option (Bor Route)) (binding : Binding) (keyed : Bool) → IsEntered new old c
    → IsFrame new c route binding keyed (empty_frame ∷ scope_frames old c)
first-frame new old c None binding keyed entered = record {
  sets = λ t is. (enters-iterations new old c c 0 [] binding t entered).1;
  around = sym entered.around;
}
first-frame new old c (Some r) binding keyed entered = record {
  sets = λ t is. (enters-iterations new old c (chain_of r.now.start.nearest.now) r.now.start.skipped (descent_names r.now.descent)
      binding t entered).0;
  around = sym entered.around;
}

pub next-frame : (at : ByDepth) (c : Chain) (route : Option (Bor Route)) (binding : Binding) (keyed : Bool) (before : Iteration)
    → is_some before.key ≡ keyed
    → IsFrame at c route binding keyed (scope_frames at (iteration_chain before.member route (iteration_kind binding before) c))
next-frame at c None binding keyed before has = record {
  sets = λ t is. (enters-next-iteration at c c 0 [] binding before t (has ∙ sym is)).1;
  around = leaves-outer at (iteration_chain before.member None (iteration_kind binding before) c) c refl;
}
next-frame at c (Some r) binding keyed before has = record {
  sets = λ t is. (enters-next-iteration at c (chain_of r.now.start.nearest.now) r.now.start.skipped (descent_names r.now.descent)
      binding before t (has ∙ sym is)).0;
  around = leaves-outer at (iteration_chain before.member (Some r) (iteration_kind binding before) c) c refl;
}

-- the frame of the iteration before, in the layer that the code made
pub next-frame-in : (at : ByDepth) (c layer : Chain) (route : Option (Bor Route)) (binding : Binding) (bound : BlockNames) (keyed : Bool)
    (before : Iteration) → bound ≡ bound_names binding
    → layer ≡ iteration_chain before.member route (iteration_kind_by_names bound before) c → is_some before.key ≡ keyed
    → IsFrame at c route binding keyed (scope_frames at layer)
next-frame-in at c layer route binding bound keyed before same is has =
    subst (λ (l : Chain). IsFrame at c route binding keyed (scope_frames at l))
    (sym (is ∙ ap (λ (b : BlockNames). iteration_chain before.member route (iteration_kind_by_names b before) c) same))
    (next-frame at c route binding keyed before has)

-- the frame that is set up, in the layer that the code made
pub set-frame : (at : ByDepth) (c layer : Chain) (route : Option (Bor Route)) (binding : Binding) (bound : BlockNames) (keyed : Bool)
    (fs : List Frame) (t : Iteration) → IsFrame at c route binding keyed fs → bound ≡ bound_names binding
    → layer ≡ iteration_chain t.member route (iteration_kind_by_names bound t) c → is_some t.key ≡ keyed
    → scope_frames at layer ≡ nearest_as (iteration_frame (path_of route) binding t) fs
set-frame at c layer route binding bound keyed fs t frame same is has =
    ap (scope_frames at) (is ∙ ap (λ (b : BlockNames). iteration_chain t.member route (iteration_kind_by_names b t) c) same)
    ∙ frame.sets t has

-- where the layer of an iteration is
pub lead-iteration : (d : Data) (value : Bor json.Value) (route : Option (Bor Route)) (bound : BlockNames) (t : Iteration) (c layer : Chain)
    → IsRouteIfAny d value route → IsMember (view value.now) t → NodesAreThere d c
    → layer ≡ iteration_chain t.member route (iteration_kind_by_names bound t) c → NodesAreThere d layer
lead-iteration d value None bound t c layer leads member around is = subst (NodesAreThere d) (sym is) around
lead-iteration d value (Some r) bound t c layer leads member around is =
    subst (NodesAreThere d) (sym is)
    (iteration-there d (view value.now) (chain_of r.now.start.nearest.now) c r.now.start.skipped (descent_names r.now.descent) bound
    leads.0 (subst (λ (e : Data). NodesAreThere e (chain_of r.now.start.nearest.now)) leads.1 r.now.start.lead) around t member)

-- ---- the iterations that are left

pub members-rest : (v : Data) (all : List Iteration) {t : Iteration} {more : List Iteration} → all ≡ t ∷ more → AllMembers v all
    → AllMembers v more
members-rest v all is has = (subst (AllMembers v) is has).1

pub members-first : (v : Data) (all : List Iteration) {t : Iteration} {more : List Iteration} → all ≡ t ∷ more → AllMembers v all
    → IsMember v t
members-first v all is has = (subst (AllMembers v) is has).0

-- those that are left have keys alike
pub keyed-rest : (keyed : Bool) (all : List Iteration) {t : Iteration} {more : List Iteration} → all ≡ t ∷ more → AllKeyed keyed all
    → AllKeyed keyed more
keyed-rest keyed all is has = (subst (AllKeyed keyed) is has).1

pub keyed-first : (keyed : Bool) (all : List Iteration) {t : Iteration} {more : List Iteration} → all ≡ t ∷ more → AllKeyed keyed all
    → is_some t.key ≡ keyed
keyed-first keyed all is has = (subst (AllKeyed keyed) is has).0

-- ---- the first frame, in the layers of a run that entered it

pub entered-frame : (new old : ByDepth) (c : Chain) (route : Option (Bor Route)) (binding : Binding) (keyed : Bool) → IsEntered new old c
    → IsFrame new c route binding keyed (empty_frame ∷ scope_frames new c)
entered-frame new old c route binding keyed entered =
    subst (λ (fs : List Frame). IsFrame new c route binding keyed (empty_frame ∷ fs)) (sym entered.around)
    (first-frame new old c route binding keyed entered)

-- the indexes of the iterations around an element of one more iteration
pub indexes-within : (index : ℕ) (outer : Bor IterationsAround) → indexes_of (around_variants.Within index outer) ≡ indexes_of outer.now ++ index ∷ []
indexes-within index outer = search (rules, the_lemmas)

pub around-within : {asks : Bool} {z : Around} {template : Template} (index : ℕ) (outer : Bor IterationsAround)
    → (asks ≡ true → z ≡ record { template = template; iterations = indexes_of outer.now ++ index ∷ [] })
    → asks ≡ true → z ≡ record { template = template; iterations = indexes_of (around_variants.Within index outer) }
around-within {template = template} index outer known is =
    known is ∙ ap (λ (ts : List ℕ). record { template = template; iterations = ts }) (sym (indexes-within index outer))

pub around-iteration : {asks : Bool} {v : Around} (occurrence : Occurrence) (i index : ℕ)
    → (asks ≡ true → (whereabouts occurrence).around ≡ v) → asks ≡ true
    → around (body_at occurrence (as_iteration i index)) ≡ record { template = v.template; iterations = v.iterations ++ index ∷ [] }
around-iteration occurrence i index known is =
    ap (λ (z : Around). record { template = z.template; iterations = z.iterations ++ index ∷ [] }) (known is)

-- ---- programs

module _ (p : Setting) (may : Error → Type 0) where
  -- the scope frame of `each`, around its iterations
  pub each-over : (m : Prog (Unit {0})) {s mid next last : State} {h new : Holding} {e : RenderError} → mid ≡ push_frame empty_frame s
      → RefinesProg p m may (moment_at mid h) (Err e) (moment_at next new)
      → RefinesProg p (in_scope_frame empty_frame m) may (moment_at s h) (Err e) (moment_at last new)
  each-over m {next = next} starts x =
      refines_prog-elsewhere p may (refines_prog-in_block p may empty_frame m {last = pop_frame next} starts refl x)
