-- Calls and lone expressions do the same, up to texts, in states that are equal up to texts.
use Rattle.std.proofs.Common.{◌≡◌, ℕ, ◌+◌, Bool, true, false, List, [], ◌∷◌, Option, Some, None, refl, sym, ap, subst}
use Rattle.handlebars_base.specs.Answers.{gives}
use Rattle.handlebars_base.specs.Bytes.{Text}
use Rattle.handlebars_base.specs.Scoped.{Found, walked, value, missing}
use Rattle.handlebars_template.specs.Tree.{Call, call_name, call_args, call_binding, call_body, call_inverse, call_marks, is_value}
use Rattle.handlebars_scope.specs.Scopes.{empty_frame, Base}
use Rattle.handlebars_helpers.specs.CallView.{CallView, HelperView}
use Rattle.handlebars_helpers.specs.Callee.{built, user, Target, calls_registered, calls_local}
use Rattle.handlebars_helpers.specs.Choice.{Choice, the_body, the_inverse, body_in_block, body_in_iterations, the_value, the_boolean, nothing, built_in_choice}
use Rattle.handlebars_helpers.specs.Iterations.{Iteration, iteration_frame, with_frame}
use Rattle.handlebars_semantics.specs.Execute.{view_with_bodies, render_body, render_branch, run_iterations, render_with, render_boolean, execute}
use Rattle.handlebars_semantics.specs.Means.{line_in, render_chosen, render_helped, render_call, render_hook, render_found, render_lone_as, render_lone, render_expression}
use Rattle.handlebars_semantics.specs.Questions.{IsAnswered, HasChoice, value_of, view_of, helper_of, called_as, hook_for, choice_of, hook_or_refusal}
use Rattle.handlebars_semantics.specs.Occurrences.{as_iteration, as_part, body_at, inverse_at, Occurrence, TreeOccurrence}
use Rattle.handlebars_semantics.specs.State.{Setting, State, push_frame, with_nearest, nearest_variables, helper_named}
use Rattle.handlebars_semantics.specs.Steps.{◌>>=◌, ◌>>◌}
use Rattle.handlebars_markup.specs.Blind.{calls_blind, IsStaticName, AreBlindArgs, IsBlindBody}
use Rattle.handlebars_markup.specs.TwoRuns.{registrations}
use Rattle.handlebars_markup.proofs.Alikeness.{AreAlikeLists, AreAlikeFound, AreAlikeBases, AreAlikeViews, AreAlikeIterations, AreAlikeChoices}
use Rattle.handlebars_markup.proofs.AlikeRuns.{DoAlike}
use Rattle.handlebars_markup.proofs.Asked.{AreAnswered, only-answered, AreAnswered-weaker}
use Rattle.handlebars_markup.proofs.Choices.{built_in_choice-alike}
use Rattle.handlebars_markup.proofs.Frames.{empty_frame-alike, iteration_frame-alike, with_frame-alike, nearest_variables-alike}
use Rattle.handlebars_markup.proofs.Programs.{AreSides, LeadAlike, ask-alike, if-alike, write_value-alike, in_scope_frame-alike, on_line-alike, render_branch-alike}
use Rattle.handlebars_markup.proofs.Sections.{AreAlikeCalls, called_as-alike}
use Rattle.handlebars_markup.proofs.States.{empty_frame-blind, iteration_frame-blind, with_frame-blind, push_frame-alike, with_nearest-alike}
use Rattle.handlebars_markup.proofs.Targets.{IsBlindTarget, AreSameTargets, helper_named-alike, hook_or_refusal-alike}
use Rattle.handlebars_markup.proofs.TwoSettings.{HasTwin, twin}
use Rattle.handlebars_markup.proofs.Views.{AreValuesOf, AreViewsOf, IsStaticName-param, HasValue-alike, HasView-alike}

-- ---- what a helper chooses, executed

module _ (p : Setting) (w : HasTwin p) (occurrence : Occurrence) (block : Bool) (c : Call)
    (blind_body : IsBlindBody (registrations p.parts) (call_body c))
    (blind_inverse : IsBlindBody (registrations p.parts) (call_inverse c)) where
  -- the call's view with its bodies
  abbrev seen : CallView → HelperView
  seen v = view_with_bodies block c v

  -- the body, in iterations over members of one index
  render_iteration-alike : (at there : TreeOccurrence) → at ≡ there → (s t : State) → AreSides p w s t
      → LeadAlike p w s (render_branch at (call_body c)) t (render_branch there (call_body c))
  render_iteration-alike at there same s t h =
      subst (λ (z : TreeOccurrence). LeadAlike p w s (render_branch at (call_body c)) t (render_branch z (call_body c))) same
      (render_branch-alike p w s t at (call_body c) h blind_body)

  run_iterations-alike : (s t : State) (v u : CallView) (i : ℕ) (path : Option (List Text)) (ts us : List Iteration)
      → AreSides p w s t → AreAlikeLists AreAlikeIterations ts us
      → LeadAlike p w s (run_iterations occurrence i (seen v) path ts) t (run_iterations occurrence i (seen u) path us)
  unfolding ◌>>=◌ ◌>>◌
  run_iterations-alike s t v u i path [] [] h k next next' g = g s t h
  run_iterations-alike s t v u i path (x ∷ xs) (y ∷ ys) h k next next' g =
      let first = iteration_frame path (call_binding c) x in
      let second = iteration_frame path (call_binding c) y in
      render_iteration-alike (body_at occurrence (as_iteration i x.index)) (body_at occurrence (as_iteration i y.index))
      (sym (ap (λ (z : Iteration). body_at occurrence (as_iteration i z.index)) k.0.1)) (with_nearest first s) (with_nearest second t)
      (with_nearest-alike (registrations p.parts) s t first second h
      (λ f f' e. iteration_frame-alike path (call_binding c) x y f f' k.0 e)
      (iteration_frame-blind (registrations p.parts) path (call_binding c) x))
      (λ z. run_iterations occurrence (i + 1) (seen v) path xs next) (λ z. run_iterations occurrence (i + 1) (seen u) path ys next')
      (λ n n' e. run_iterations-alike n n' v u (i + 1) path xs ys e k.1 next next' g)
  run_iterations-alike s t v u i path ts us h k next next' g = absurd k

  render_boolean-alike : (s t : State) (v u : CallView) (is_block b : Bool) → AreSides p w s t
      → LeadAlike p w s (render_boolean occurrence (seen v) is_block b) t (render_boolean occurrence (seen u) is_block b)
  render_boolean-alike s t v u false b h next next' g = (record { marks = refl; fixed = refl }, g s t h)
  render_boolean-alike s t v u true true h next next' g =
      render_branch-alike p w s t (body_at occurrence (as_part 0)) (call_body c) h blind_body next next' g
  render_boolean-alike s t v u true false h next next' g =
      render_branch-alike p w s t (inverse_at occurrence 0) (call_inverse c) h blind_inverse next next' g

  render_with-alike : (s t : State) (v u : CallView) (base other : Base) → AreSides p w s t → AreAlikeBases base other
      → LeadAlike p w s (render_with occurrence (seen v) base) t (render_with occurrence (seen u) other)
  unfolding ◌>>=◌
  render_with-alike s t v u base other h k next next' g =
      let f = with_frame base (call_binding c) (nearest_variables s.blocks) in
      let f' = with_frame other (call_binding c) (nearest_variables t.blocks) in
      in_scope_frame-alike p w s t f f' (render_body occurrence 0 (seen v)) (render_body occurrence 0 (seen u))
      (render_branch-alike p w (push_frame f s) (push_frame f' t) (body_at occurrence (as_part 0)) (call_body c)
      (push_frame-alike (registrations p.parts) s t f f' h
      (with_frame-alike base other (call_binding c) (nearest_variables s.blocks) (nearest_variables t.blocks) k
      (nearest_variables-alike s.blocks t.blocks h.blocks))
      (with_frame-blind (registrations p.parts) base (call_binding c) (nearest_variables s.blocks))) blind_body) next next' g

  render_each-alike : (s t : State) (v u : CallView) (path : Option (List Text)) (ts us : List Iteration) → AreSides p w s t
      → AreAlikeLists AreAlikeIterations ts us
      → LeadAlike p w s (execute occurrence (seen v) (body_in_iterations path ts)) t (execute occurrence (seen u) (body_in_iterations path us))
  render_each-alike s t v u path ts us h k next next' g =
      in_scope_frame-alike p w s t empty_frame empty_frame (run_iterations occurrence 0 (seen v) path ts) (run_iterations occurrence 0 (seen u) path us)
      (run_iterations-alike (push_frame empty_frame s) (push_frame empty_frame t) v u 0 path ts us
      (push_frame-alike (registrations p.parts) s t empty_frame empty_frame h empty_frame-alike
      (empty_frame-blind (registrations p.parts))) k) next next' g

  execute-alike : (s t : State) (v u : CallView) (x y : Choice) → AreSides p w s t → AreAlikeChoices x y
      → LeadAlike p w s (execute occurrence (seen v) x) t (execute occurrence (seen u) y)
  execute-alike s t v u the_body the_body h k next next' g =
      render_branch-alike p w s t (body_at occurrence (as_part 0)) (call_body c) h blind_body next next' g
  execute-alike s t v u the_inverse the_inverse h k next next' g =
      render_branch-alike p w s t (inverse_at occurrence 0) (call_inverse c) h blind_inverse next next' g
  execute-alike s t v u (body_in_block base) (body_in_block other) h k next next' g =
      render_with-alike s t v u base other h k next next' g
  execute-alike s t v u (body_in_iterations path ts) (body_in_iterations other us) h k next next' g =
      subst (λ (z : Option (List Text)). DoAlike p w s (execute occurrence (seen v) (body_in_iterations path ts) next) t
      (execute occurrence (seen u) (body_in_iterations z us) next')) k.0 (render_each-alike s t v u path ts us h k.1 next next' g)
  execute-alike s t v u (the_value d) (the_value e) h k next next' g =
      write_value-alike p w s t occurrence (value d) (value e) h next next' g
  execute-alike s t v u (the_boolean b) (the_boolean b') h k next next' g =
      subst (λ (z : Bool). DoAlike p w s (render_boolean occurrence (seen v) block b next) t (render_boolean occurrence (seen u) block z next'))
      k (render_boolean-alike s t v u block b h next next' g)
  execute-alike s t v u nothing nothing h k next next' g = g s t h
  execute-alike s t v u x y h k next next' g = absurd k

  -- ---- helpers

  HasChoice-alike : (s t : State) (v u : CallView) → AreAlikeViews v u → (k : Target) → IsBlindTarget (Some k)
      → AreAnswered AreAlikeChoices (HasChoice p s k (seen v)) (HasChoice (twin p w) t k (seen u))
  HasChoice-alike s t v u e (calls_registered (built kind)) blind =
      only-answered AreAlikeChoices (built_in_choice p.parts.strict kind (seen v))
      (built_in_choice p.parts.strict kind (seen u))
      (built_in_choice-alike p.parts.strict (call_binding c) (call_body c) (call_inverse c) block v u e kind blind)
  HasChoice-alike s t v u e (calls_registered (user n)) blind = cc
  HasChoice-alike s t v u e (calls_local n) blind = absurd blind

  pub render_chosen-alike : (s t : State) (v u : CallView) (k : Target) → AreSides p w s t → AreAlikeViews v u
      → IsBlindTarget (Some k) → LeadAlike p w s (render_chosen occurrence k (seen v)) t (render_chosen occurrence k (seen u))
  unfolding ◌>>=◌
  render_chosen-alike s t v u k h e blind next next' g =
      ask-alike p w AreAlikeChoices s t (IsAnswered p s (choice_of k (seen v)))
      (IsAnswered (twin p w) t (choice_of k (seen u))) (λ x. execute occurrence (seen v) x next)
      (λ y. execute occurrence (seen u) y next') (HasChoice-alike s t v u e k blind)
      (λ x y a. execute-alike s t v u x y h a next next' g)

  pub render_helped-alike : (s t : State) (v u : CallView) (k : Target) → AreSides p w s t → AreAlikeViews v u
      → IsBlindTarget (Some k) → LeadAlike p w s (render_helped occurrence block c k v) t (render_helped occurrence block c k u)
  render_helped-alike s t v u k h e blind =
      let enter = line_in (call_marks c).indent_before_write in
      on_line-alike p w s t enter (render_chosen occurrence k (seen v)) (render_chosen occurrence k (seen u))
      (render_chosen-alike (record s { line = enter s.line }) (record t { line = enter t.line }) v u k h e blind)

-- ---- calls

module _ (p : Setting) (w : HasTwin p) (occurrence : Occurrence) (c : Call)
    (written : IsStaticName (calls_blind (registrations p.parts)) (call_name c))
    (blind_args : AreBlindArgs (registrations p.parts) (call_args c))
    (blind_body : IsBlindBody (registrations p.parts) (call_body c))
    (blind_inverse : IsBlindBody (registrations p.parts) (call_inverse c)) where
  abbrev AreViews : CallView → CallView → Type 0
  AreViews v u = AreViewsOf (calls_blind (registrations p.parts)) (call_args c) v u

  pub render_call-alike : (s t : State) (block : Bool) → AreSides p w s t
      → LeadAlike p w s (render_call occurrence block c) t (render_call occurrence block c)
  unfolding ◌>>=◌
  render_call-alike s t block h next next' g =
      ask-alike p w AreViews s t (IsAnswered p s (view_of (call_name c) (call_args c)))
      (IsAnswered (twin p w) t (view_of (call_name c) (call_args c))) _ _
      (HasView-alike p w s t h (calls_blind (registrations p.parts)) (call_name c) (call_args c) written blind_args)
      (λ v u e. ask-alike p w AreAlikeCalls s t (IsAnswered p s (called_as block c v))
      (IsAnswered (twin p w) t (called_as block c u)) (λ x. render_helped occurrence block c x.0 x.1 next)
      (λ y. render_helped occurrence block c y.0 y.1 next') (called_as-alike p w s t h v u e.views block c e.passes)
      (λ x y same. subst (λ (z : Target). DoAlike p w s (render_helped occurrence block c x.0 x.1 next) t
      (render_helped occurrence block c z y.1 next')) same.0.0
      (render_helped-alike p w occurrence block c blind_body blind_inverse s t x.1 y.1 x.0 h same.1 same.0.1 next next' g)))

  -- ---- lone expressions

  render_hook-alike : (s t : State) (v u : CallView) (o : Option Target) → AreSides p w s t → AreAlikeViews v u
      → IsBlindTarget o → LeadAlike p w s (render_hook occurrence c v o) t (render_hook occurrence c u o)
  render_hook-alike s t v u None h e blind next next' g = g s t h
  render_hook-alike s t v u (Some k) h e blind next next' g =
      render_chosen-alike p w occurrence false c blind_body blind_inverse s t v u k h e blind next next' g

  render_found-alike : (s t : State) (v u : CallView) (x y : Found) → AreSides p w s t → AreAlikeViews v u
      → AreAlikeFound x y → LeadAlike p w s (render_found occurrence c v x) t (render_found occurrence c u y)
  unfolding ◌>>=◌
  render_found-alike s t v u (walked d ns) (walked e ms) h k a next next' g =
      write_value-alike p w s t occurrence (walked d ns) (walked e ms) h next next' g
  render_found-alike s t v u (value d) (value e) h k a next next' g =
      write_value-alike p w s t occurrence (value d) (value e) h next next' g
  render_found-alike s t v u missing missing h k a next next' g =
      ask-alike p w AreSameTargets s t (IsAnswered p s (hook_for (call_name c)))
      (IsAnswered (twin p w) t (hook_for (call_name c))) (λ o. render_hook occurrence c v o next)
      (λ o. render_hook occurrence c u o next')
      (only-answered AreSameTargets (hook_or_refusal p.parts (call_name c)) (hook_or_refusal p.parts (call_name c))
      (hook_or_refusal-alike p.parts w.blind.parts (call_name c)))
      (λ o q same. subst (λ (z : Option Target). DoAlike p w s (render_hook occurrence c v o next) t
      (render_hook occurrence c u z next')) same.0 (render_hook-alike s t v u o h k same.1 next next' g))
  render_found-alike s t v u x y h k a next next' g = absurd a

  render_lone_as-alike : (s t : State) (v u : CallView) (o : Option Target) → AreSides p w s t → AreAlikeViews v u
      → IsBlindTarget o → LeadAlike p w s (render_lone_as occurrence c v o) t (render_lone_as occurrence c u o)
  unfolding ◌>>=◌
  render_lone_as-alike s t v u None h e blind next next' g =
      let itself = IsStaticName-param (calls_blind (registrations p.parts)) p (call_name c) written in
      ask-alike p w AreAlikeFound s t (IsAnswered p s (value_of (call_name c)))
      (IsAnswered (twin p w) t (value_of (call_name c))) (λ x. render_found occurrence c v x next)
      (λ y. render_found occurrence c u y next')
      (AreAnswered-weaker (AreValuesOf (call_name c)) AreAlikeFound (IsAnswered p s (value_of (call_name c)))
      (IsAnswered (twin p w) t (value_of (call_name c))) (HasValue-alike p w s t h (call_name c) itself) (λ x y a. a.0))
      (λ x y a. render_found-alike s t v u x y h e a next next' g)
  render_lone_as-alike s t v u (Some k) h e blind next next' g =
      render_helped-alike p w occurrence false c blind_body blind_inverse s t v u k h e blind next next' g

  render_lone-alike : (s t : State) → AreSides p w s t → LeadAlike p w s (render_lone occurrence c) t (render_lone occurrence c)
  unfolding ◌>>=◌
  render_lone-alike s t h next next' g =
      ask-alike p w AreViews s t (IsAnswered p s (view_of (call_name c) (call_args c)))
      (IsAnswered (twin p w) t (view_of (call_name c) (call_args c))) _ _
      (HasView-alike p w s t h (calls_blind (registrations p.parts)) (call_name c) (call_args c) written blind_args)
      (λ v u e. ask-alike p w AreSameTargets s t (IsAnswered p s (helper_of v.name))
      (IsAnswered (twin p w) t (helper_of u.name)) (λ o. render_lone_as occurrence c v o next)
      (λ o. render_lone_as occurrence c u o next')
      (only-answered AreSameTargets (gives (helper_named p.parts s v.name)) (gives (helper_named p.parts t u.name))
      (helper_named-alike p.parts s t h v.name u.name e.views.name e.passes))
      (λ o q same. subst (λ (z : Option Target). DoAlike p w s (render_lone_as occurrence c v o next) t
      (render_lone_as occurrence c u z next')) same.0 (render_lone_as-alike s t v u o h e.views same.1 next next' g)))

  pub render_expression-alike : (s t : State) → AreSides p w s t
      → LeadAlike p w s (render_expression occurrence c) t (render_expression occurrence c)
  render_expression-alike s t h = if-alike p w (is_value c) s t (render_lone occurrence c) (render_call occurrence false c)
      (render_lone-alike s t h) (render_call-alike s t false h)
