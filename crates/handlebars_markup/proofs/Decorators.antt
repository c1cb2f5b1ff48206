-- Decorators do the same, up to texts, in states that are equal up to texts.
use Rattle.std.proofs.Common.{List, [], ◌∷◌, refl, subst}
use Rattle.std.specs.List.{AllByRecursion}
use Rattle.handlebars_base.specs.Bytes.{Text}
use Rattle.handlebars_template.specs.Tree.{args_params, Decorator, decorator_name, decorator_args, decorator_body, Body, no_body, body}
use Rattle.handlebars_helpers.specs.Decoration.{Action, sets_data, binds, unbinds, sets_partial}
use Rattle.handlebars_semantics.specs.Means.{shown_tag, set_partial, do_actions, render_decorator}
use Rattle.handlebars_semantics.specs.Questions.{IsAnswered, view_of, decorator_of, actions_of, decorator_or_refusal}
use Rattle.handlebars_semantics.specs.State.{Setting, State, with_nearest, with_partial}
use Rattle.handlebars_semantics.specs.Steps.{◌>>=◌, ◌>>◌}
use Rattle.handlebars_markup.specs.Blind.{decorates_blind, IsStaticName, IsLiteralFirst, AreBlindArgs, IsBlindBody}
use Rattle.handlebars_markup.specs.TwoRuns.{registrations}
use Rattle.handlebars_markup.proofs.AlikeRuns.{DoAlike}
use Rattle.handlebars_markup.proofs.Asked.{only-answered}
use Rattle.handlebars_markup.proofs.Actions.{IsSetPartial, AreSameActions, HasActions-alike}
use Rattle.handlebars_markup.proofs.Frames.{with_partial-alike}
use Rattle.handlebars_markup.proofs.Programs.{AreSides, LeadAlike, ask-alike}
use Rattle.handlebars_markup.proofs.States.{with_partial-blind, with_nearest-alike}
use Rattle.handlebars_markup.proofs.Targets.{IsSameDecorator, decorator_or_refusal-alike}
use Rattle.handlebars_markup.proofs.TwoSettings.{HasTwin, twin}
use Rattle.handlebars_markup.proofs.Views.{AreViewsOf, HasView-alike}

module _ (p : Setting) (w : HasTwin p) where
  set_partial-alike : (s t : State) (n : Text) (b : Body) → AreSides p w s t → IsBlindBody (registrations p.parts) b
      → LeadAlike p w s (set_partial n b) t (set_partial n b)
  unfolding ◌>>=◌ ◌>>◌
  set_partial-alike s t n no_body h k next next' g = refl
  set_partial-alike s t n (body x) h k next next' g =
      g (with_nearest (with_partial n x) s) (with_nearest (with_partial n x) t)
      (with_nearest-alike (registrations p.parts) s t (with_partial n x) (with_partial n x) h (with_partial-alike n x)
      (with_partial-blind (registrations p.parts) n x k))

  do_actions-alike : (s t : State) (b : Body) (ds : List Action) → AreSides p w s t → IsBlindBody (registrations p.parts) b
      → AllByRecursion IsSetPartial ds → LeadAlike p w s (do_actions b ds) t (do_actions b ds)
  unfolding ◌>>◌
  do_actions-alike s t b [] h k sets next next' g = g s t h
  do_actions-alike s t b (sets_partial n ∷ ds) h k sets next next' g =
      set_partial-alike s t n b h k (λ z. do_actions b ds next) (λ z. do_actions b ds next')
      (λ m m' a. do_actions-alike m m' b ds a k sets.1 next next' g)
  do_actions-alike s t b (sets_data d ∷ ds) h k sets next next' g = absurd sets.0
  do_actions-alike s t b (binds n l ∷ ds) h k sets next next' g = absurd sets.0
  do_actions-alike s t b (unbinds n ∷ ds) h k sets next next' g = absurd sets.0

  -- The tags' indentations are the same, and no blind decorator looks at them.
  pub render_decorator-alike : (s t : State) (x : Decorator) → AreSides p w s t
      → IsStaticName (decorates_blind (registrations p.parts)) (decorator_name x)
      → IsLiteralFirst (args_params (decorator_args x)) → AreBlindArgs (registrations p.parts) (decorator_args x)
      → IsBlindBody (registrations p.parts) (decorator_body x) → LeadAlike p w s (render_decorator x) t (render_decorator x)
  unfolding ◌>>=◌
  render_decorator-alike s t x h written literal blind_args blind_body next next' g =
      let test = decorates_blind (registrations p.parts) in
      ask-alike p w (AreViewsOf test (decorator_args x)) s t
      (IsAnswered p s (view_of (decorator_name x) (decorator_args x)))
      (IsAnswered (twin p w) t (view_of (decorator_name x) (decorator_args x))) _ _
      (HasView-alike p w s t h test (decorator_name x) (decorator_args x) written blind_args)
      (λ v u e. ask-alike p w IsSameDecorator s t (IsAnswered p s (decorator_of v.name))
      (IsAnswered (twin p w) t (decorator_of u.name)) _ _
      (only-answered IsSameDecorator (decorator_or_refusal v.name (p.parts.decorator v.name))
      (decorator_or_refusal u.name (p.parts.decorator u.name))
      (decorator_or_refusal-alike p.parts v.name u.name e.views.name e.passes))
      (λ k l same. ask-alike p w AreSameActions s t (IsAnswered p s (actions_of k (shown_tag s.indent x v)))
      (IsAnswered (twin p w) t (actions_of l (shown_tag t.indent x u))) (λ ds. do_actions (decorator_body x) ds next)
      (λ ds. do_actions (decorator_body x) ds next')
      (HasActions-alike p (twin p w) s t k l (shown_tag s.indent x v) (shown_tag t.indent x u) same refl (e.first literal))
      (λ ds es found. subst (λ (z : List Action). DoAlike p w s (do_actions (decorator_body x) ds next) t
      (do_actions (decorator_body x) z next')) found.0
      (do_actions-alike s t (decorator_body x) ds h blind_body found.1 next next' g))))
