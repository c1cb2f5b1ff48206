-- What a law says holds of calls: of what helpers choose, and of lone expressions.
use Rattle.std.proofs.Common.{◌≡◌, ℕ, ◌+◌, List, [], ◌∷◌, Bool, true, false, refl, ap, ◌∙◌, subst, Option, Some, None, arith}
use Rattle.std.specs.List.{slice_get}
use Rattle.handlebars_base.specs.Answers.{Answer, gives, fails}
use Rattle.handlebars_base.specs.Bytes.{Text}
use Rattle.handlebars_base.specs.Reasons.{Refusal}
use Rattle.handlebars_base.specs.Scoped.{Found, walked, value, missing, present_in}
use Rattle.handlebars_base.specs.Values.{boolean_text}
use Rattle.handlebars_template.specs.Tree.{Element, Call, call_name, call_args, call_body, call_inverse, call_marks, is_value}
use Rattle.handlebars_scope.specs.LineState.{LineState}
use Rattle.handlebars_scope.specs.Scopes.{empty_frame, Base}
use Rattle.handlebars_helpers.specs.CallView.{CallView, HelperView}
use Rattle.handlebars_helpers.specs.Callee.{Callee, built, user, Target, calls_registered, calls_local}
use Rattle.handlebars_helpers.specs.Choice.{Choice, the_body, the_inverse, body_in_block, body_in_iterations, the_value, the_boolean, the_line, the_steps, nothing}
use Rattle.handlebars_helpers.specs.UserHelper.{Step, writes, renders_body, renders_inverse, renders_body_in}
use Rattle.handlebars_helpers.specs.Iterations.{Iteration, iteration_frame, with_frame}
use Rattle.handlebars_semantics.specs.Asks.{goes_on, first_fails}
use Rattle.handlebars_semantics.specs.Execute.{view_with_bodies, render_branch, render_body, run_iterations, render_with, render_boolean, take_step, take_steps, execute}
use Rattle.handlebars_semantics.specs.Means.{line_in, render_chosen, render_helped, render_call, render_hook, render_found, render_lone_as, render_lone, render_expression}
use Rattle.handlebars_semantics.specs.Origins.{body_tree, element_call, is_block, shown_call, is_lone, IsValue, Calls, by_name, as_called, by_hook, Chooses, WritesValue, of_itself, of_helper}
use Rattle.handlebars_semantics.specs.Pieces.{of_value, of_raw, of_boolean_text}
use Rattle.handlebars_semantics.specs.Questions.{IsAnswered, value_of, view_of, helper_of, called_as, hook_for, choice_of, escape_of, steps_or_offer, HasRegisteredChoice, HasChoice}
use Rattle.handlebars_semantics.specs.Occurrences.{as_iteration, as_part, Time, ordinal_of, body_at, inverse_at, Occurrence}
use Rattle.handlebars_semantics.specs.State.{Setting, State, push_frame, with_nearest, nearest_variables}
use Rattle.handlebars_semantics.specs.Steps.{Task, One, Prog, ◌>>=◌, ◌>>◌}
use Rattle.handlebars_semantics.specs.Writing.{rendered_if_any, write_rendered, write_value}
use Rattle.handlebars_laws.proofs.Failures.{for_view, for_call, for_value, for_hook, for_choice, for_escape}
use Rattle.handlebars_laws.proofs.Closed.{ComesToCall, call_of-shown, element_body-call, element_inverse-call, Closed}
use Rattle.handlebars_laws.proofs.Law.{Law}
use Rattle.handlebars_laws.proofs.Programs.{upto, any, LeadsThrough, LeadsThrough-any, ask-holds, return-holds, write_text-holds, in_scope_frame-holds, on_line-holds, render_branch-holds}
use Rattle.handlebars_laws.proofs.Within.{StepsFrom, step_there, steps_after}

-- ---- what a helper chooses doesn't depend on the line

module _ (p : Setting) (s : State) (line : LineState) where
  steps_or_offer-line : (called : Text) (h : HelperView) (steps : Option (List Step)) (a : Answer Choice)
      → steps_or_offer p (record s { line = line }) called h steps a → steps_or_offer p s called h steps a
  steps_or_offer-line called h None a is = is
  steps_or_offer-line called h (Some steps) a is = is

  HasRegisteredChoice-line : (k : Callee) (h : HelperView) (a : Answer Choice)
      → HasRegisteredChoice p (record s { line = line }) k h a → HasRegisteredChoice p s k h a
  HasRegisteredChoice-line (built kind) h a is = is
  HasRegisteredChoice-line (user called) h _ (goes_on {x = steps} {a = a} is next) =
      goes_on is (steps_or_offer-line called h steps a next)
  HasRegisteredChoice-line (user called) h _ (first_fails is) = first_fails is

  HasChoice-line : (k : Target) (h : HelperView) (a : Answer Choice)
      → HasChoice p (record s { line = line }) k h a → HasChoice p s k h a
  HasChoice-line (calls_registered k) h a is = HasRegisteredChoice-line k h a is
  HasChoice-line (calls_local called) h _ (goes_on {x = c} {a = a} is next) =
      goes_on is (HasRegisteredChoice-line c.0 c.1 a next)
  HasChoice-line (calls_local called) h _ (first_fails is) = first_fails is

-- the question for the helper of a name doesn't fail
no_failure : {A P : Type 0} {x : A} {r : Refusal} → fails r ≡ gives x → P
no_failure is = cc

-- ---- calls, by the element at an occurrence to which the run came in a state before

module _ (p : Setting) (law : Law) (closed : Closed p law) (occurrence : Occurrence) (e : Element) where
  abbrev this : Task
  this = One occurrence e

  -- steps of the element
  abbrev Goes : ℕ → (ℕ → Type 0) → State → Prog (Unit {0}) → Type 1
  Goes n to s m = LeadsThrough p law this n to s m

  module _ (block : Bool) (c : Call) (shown : shown_call e ≡ Some (block, c)) (before : State)
      (comes : law.ComesTo occurrence e before) where
    -- with its own view, and with the one that its helper is shown
    module _ (v : CallView) (viewed : IsAnswered p before (view_of (call_name c) (call_args c)) (gives v))
        (seen : CallView) where
      abbrev view : HelperView
      view = view_with_bodies block c seen

      called : ComesToCall p law occurrence e block c before v
      called = record { comes = comes; shown = shown; viewed = viewed }

      -- ---- bodies

      render_body_at-holds : (time : Time) (s : State) → law.Fits occurrence before s
          → Goes (ordinal_of time) (upto (ordinal_of time + 1)) s (render_branch (body_at occurrence time) (call_body c))
      render_body_at-holds time s fits =
          render_branch-holds p law closed this (ordinal_of time) (body_at occurrence time) (call_body c) s
          (λ t is h. closed.body_part time comes (call_of-shown (is_block e) block (element_call e) c shown)
          (element_body-call e block c shown ∙ ap body_tree is) fits h)
          (λ t is z over. closed.body_next comes (call_of-shown (is_block e) block (element_call e) c shown)
          (element_body-call e block c shown ∙ ap body_tree is) over)

      render_body-holds : (i : ℕ) (s : State) → law.Fits occurrence before s → Goes i (upto (i + 1)) s (render_body occurrence i view)
      render_body-holds i = render_body_at-holds (as_part i)

      render_inverse-holds : (i : ℕ) (s : State) → law.Fits occurrence before s
          → Goes i (upto (i + 1)) s (render_branch (inverse_at occurrence i) (call_inverse c))
      render_inverse-holds i s fits =
          render_branch-holds p law closed this i (inverse_at occurrence i) (call_inverse c) s
          (λ t is h. closed.inverse_part i comes (element_inverse-call e block c shown ∙ ap body_tree is) fits h)
          (λ t is z over. closed.inverse_next comes (element_inverse-call e block c shown ∙ ap body_tree is) over)

      -- as the one part that is rendered
      render_body-any : (s : State) → law.Fits occurrence before s → Goes 0 any s (render_body occurrence 0 view)
      render_body-any s fits = LeadsThrough-any p law this (render_body occurrence 0 view) (render_body-holds 0 s fits)

      render_inverse-any : (s : State) → law.Fits occurrence before s → Goes 0 any s (render_branch (inverse_at occurrence 0) (call_inverse c))
      render_inverse-any s fits = LeadsThrough-any p law this (render_branch (inverse_at occurrence 0) (call_inverse c))
          (render_inverse-holds 0 s fits)

      render_with-holds : (s : State) (base : Base) → law.Fits occurrence before s → Goes 0 any s (render_with occurrence view base)
      unfolding ◌>>=◌
      render_with-holds s base fits h end i le next g =
          in_scope_frame-holds p law closed this s (with_frame base view.binding (nearest_variables s.blocks))
          (render_body occurrence 0 view) (closed.with_enters _ _ _) (render_body-any _ (closed.block_fits fits)) h end i le next g

      run_iterations-hold : (i : ℕ) (path : Option (List Text)) (ts : List Iteration) (s : State) → law.Fits occurrence before s
          → Goes i any s (run_iterations occurrence i view path ts)
      unfolding ◌>>=◌ ◌>>◌
      run_iterations-hold i path [] s fits h end l le next g = g l s tt (closed.same_next h)
      run_iterations-hold i path (t ∷ ts) s fits h end l le next g =
          let first = closed.iteration_next path view.binding t h in
          render_body_at-holds (as_iteration i t.index) (with_nearest (iteration_frame path view.binding t) s) (closed.next_fits fits first)
          (closed.next_well first) end l le (λ u. run_iterations occurrence (i + 1) view path ts next) (λ j n far is.
          run_iterations-hold (i + 1) path ts n (closed.next_fits fits (closed.then_next first is)) (closed.next_well is) end j
          far next (λ k z to same. g k z to (closed.then_next first (closed.then_next is same))))

      -- ---- values

      write_rendered-holds : (s : State) (found : Found) (b : Bool) → s.escapes ≡ b → law.Fits occurrence before s
          → WritesValue p block c before v found → Goes 0 any s (write_rendered occurrence found b)
      unfolding ◌>>=◌
      write_rendered-holds s found true is fits has = λ h end i le next g.
          ask-holds p law this end i s (escape_of (rendered_if_any (present_in found))) _
          (λ r failed. closed.fails comes (for_escape _ r failed)) (λ t shows.
          write_text-holds p law closed this s (of_value occurrence found) t
          (closed.value_written t called has fits is shows) h end i le next g)
      write_rendered-holds s found false is fits has =
          write_text-holds p law closed this s (of_raw occurrence found) (rendered_if_any (present_in found))
          (closed.raw_written called has fits is)

      write_value-holds : (s : State) (found : Found) → law.Fits occurrence before s → WritesValue p block c before v found
          → Goes 0 any s (write_value occurrence found)
      unfolding ◌>>=◌
      write_value-holds s found fits has = write_rendered-holds s found s.escapes refl fits has

      -- ---- what the helper that is called chose

      module _ (k : Target) (calls : Calls p block c before v k seen) where
        abbrev Chose : Choice → Type 0
        Chose choice = IsAnswered p before (choice_of k view) (gives choice)

        chooses : (choice : Choice) → Chose choice → Chooses p block c before v choice
        chooses choice chose = record { target = k; shown = seen; calls = calls; chooses = chose }

        -- only an expression writes a boolean text
        MayWrite-boolean_text : (b : Bool) → block ≡ false → Chose (the_boolean b)
            → law.MayWrite (record { origin = of_boolean_text occurrence b; text = boolean_text b } ∷ [])
        MayWrite-boolean_text b plain chose =
            closed.boolean_text_written b (subst (λ (z : Bool). ComesToCall p law occurrence e z c before v) plain called)
            (subst (λ (z : Bool). Chooses p z c before v (the_boolean b)) plain (chooses (the_boolean b) chose))

        render_boolean-holds : (s : State) (tag b : Bool) → block ≡ tag → law.Fits occurrence before s → Chose (the_boolean b)
            → Goes 0 any s (render_boolean occurrence view tag b)
        render_boolean-holds s false b is fits chose = λ h end i le next g.
            (MayWrite-boolean_text b is chose, g i s tt (closed.same_next h))
        render_boolean-holds s true true is fits chose = render_body-any s fits
        render_boolean-holds s true false is fits chose = render_inverse-any s fits

        module _ (all : List Step) (chose : Chose (the_steps all)) where
          take_step-holds : (s : State) (i : ℕ) (step : Step) → law.Fits occurrence before s → slice_get all i ≡ Some step
              → Goes i (upto (i + 1)) s (take_step occurrence view i step)
          take_step-holds s i (writes t) fits is = λ h end l le next g. (
            closed.step_written i t called (chooses (the_steps all) chose) is,
            g l s (omega (arith, le)) (closed.same_next h),
          )
          take_step-holds s i renders_body fits is = render_body-holds i s fits
          take_step-holds s i renders_inverse fits is = render_inverse-holds i s fits
          take_step-holds s i (renders_body_in f) fits is =
              in_scope_frame-holds p law closed this s f (render_body occurrence i view)
              (closed.passed_enters i called (chooses (the_steps all) chose) is)
              (render_body-holds i (push_frame f s) (closed.block_fits fits))

          take_steps-hold : (s : State) (i : ℕ) (steps : List Step) → law.Fits occurrence before s → StepsFrom all i steps
              → Goes i any s (take_steps occurrence view i steps)
          unfolding ◌>>◌
          take_steps-hold s i [] fits from h end l le next g = g l s tt (closed.same_next h)
          take_steps-hold s i (step ∷ steps) fits from h end l le next g =
              take_step-holds s i step fits (step_there all i step steps from) h end l le
              (λ u. take_steps occurrence view (i + 1) steps next) (λ j n far is.
              take_steps-hold n (i + 1) steps (closed.next_fits fits is) (steps_after all i step steps from)
              (closed.next_well is) end j far next (λ k z to same. g k z to (closed.then_next is same)))

        execute-holds : (s : State) (choice : Choice) → law.Fits occurrence before s → Chose choice
            → Goes 0 any s (execute occurrence view choice)
        execute-holds s the_body fits chose = render_body-any s fits
        execute-holds s the_inverse fits chose = render_inverse-any s fits
        execute-holds s (body_in_block base) fits chose = render_with-holds s base fits
        execute-holds s (body_in_iterations path ts) fits chose =
            in_scope_frame-holds p law closed this s empty_frame (run_iterations occurrence 0 view path ts)
            closed.empty_enters (run_iterations-hold 0 path ts (push_frame empty_frame s) (closed.block_fits fits))
        execute-holds s (the_value d) fits chose =
            write_value-holds s (value d) fits (of_helper (chooses (the_value d) chose))
        execute-holds s (the_boolean b) fits chose = render_boolean-holds s block b refl fits chose
        execute-holds s (the_line level text) fits chose = return-holds p law closed this s
        execute-holds s (the_steps steps) fits chose = take_steps-hold steps chose s 0 steps fits ([], refl, refl)
        execute-holds s nothing fits chose = return-holds p law closed this s

        -- asked in a state in which it chooses as in the one before
        render_chosen-holds : (s : State) → law.Fits occurrence before s
            → ((a : Answer Choice) → IsAnswered p s (choice_of k view) a → IsAnswered p before (choice_of k view) a)
            → Goes 0 any s (render_chosen occurrence k view)
        unfolding ◌>>=◌
        render_chosen-holds s fits same h end i le next g =
            ask-holds p law this end i s (choice_of k view) _
            (λ r failed. closed.fails comes (for_choice r shown viewed calls (same _ failed))) (λ choice chose.
            execute-holds s choice fits (same _ chose) h end i le next g)

        render_helped-holds : law.Fits occurrence before before → Goes 0 any before (render_helped occurrence block c k seen)
        render_helped-holds fits h =
            let enter = line_in (call_marks c).indent_before_write in
            on_line-holds p law closed this before enter (render_chosen occurrence k view)
            (render_chosen-holds (record before { line = enter before.line })
            (closed.next_fits fits (closed.line_next _ h)) (HasChoice-line p before (enter before.line) k view)) h

    pub render_call-holds : is_lone block c ≡ false → law.Fits occurrence before before → Goes 0 any before (render_call occurrence block c)
    unfolding ◌>>=◌
    render_call-holds not_lone fits h end i le next g =
        ask-holds p law this end i before (view_of (call_name c) (call_args c)) _
        (λ r failed. closed.fails comes (for_view r shown failed)) (λ v viewed.
        ask-holds p law this end i before (called_as block c v) _
        (λ r failed. closed.fails comes (for_call r shown viewed not_lone failed)) (λ x is.
        render_helped-holds v viewed x.1 x.0 (as_called not_lone is) fits h end i le next g))

  -- ---- expressions

  module _ (c : Call) (shown : shown_call e ≡ Some (false, c)) (s : State) (comes : law.ComesTo occurrence e s)
      (fits : law.Fits occurrence s s) where
    module _ (lone : is_value c ≡ true) where
      module _ (v : CallView) (viewed : IsAnswered p s (view_of (call_name c) (call_args c)) (gives v)) where
        render_hook-holds : (o : Option Target) → IsAnswered p s (hook_for (call_name c)) (gives o)
            → IsValue p false c s v missing → Goes 0 any s (render_hook occurrence c v o)
        render_hook-holds None is has = return-holds p law closed this s
        render_hook-holds (Some k) is has =
            render_chosen-holds false c shown s comes v viewed v k (by_hook has is) s fits (λ a same. same)

        render_found-holds : (found : Found) → IsValue p false c s v found → Goes 0 any s (render_found occurrence c v found)
        unfolding ◌>>=◌
        render_found-holds (walked d path) has =
            write_value-holds false c shown s comes v viewed v s (walked d path) fits (of_itself tt has)
        render_found-holds (value d) has = write_value-holds false c shown s comes v viewed v s (value d) fits (of_itself tt has)
        render_found-holds missing has = λ h end i le next g.
            ask-holds p law this end i s (hook_for (call_name c)) _
            (λ r failed. closed.fails comes (for_hook r shown lone failed)) (λ o is.
            render_hook-holds o is has h end i le next g)

        render_lone_as-holds : (o : Option Target) → IsAnswered p s (helper_of v.name) (gives o)
            → Goes 0 any s (render_lone_as occurrence c v o)
        unfolding ◌>>=◌
        render_lone_as-holds None without = λ h end i le next g.
            ask-holds p law this end i s (value_of (call_name c)) _
            (λ r failed. closed.fails comes (for_value r shown lone failed)) (λ found has.
            render_found-holds found (record { lone = lone; no_helper = without; has = has }) h end i le next g)
        render_lone_as-holds (Some k) helps = render_helped-holds false c shown s comes v viewed v k (by_name lone helps) fits

      render_lone-holds : Goes 0 any s (render_lone occurrence c)
      unfolding ◌>>=◌
      render_lone-holds h end i le next g =
          ask-holds p law this end i s (view_of (call_name c) (call_args c)) _
          (λ r failed. closed.fails comes (for_view r shown failed)) (λ v viewed.
          ask-holds p law this end i s (helper_of v.name) _ (λ r failed. no_failure failed) (λ o is.
          render_lone_as-holds v viewed o is h end i le next g))

    render_expression-as : (b : Bool) → is_value c ≡ b → Goes 0 any s (render_expression occurrence c)
    render_expression-as true is h end i le next g = rw is (render_lone-holds is h end i le next g)
    render_expression-as false is h end i le next g =
        rw is (render_call-holds false c shown s comes is fits h end i le next g)

    pub render_expression-holds : Goes 0 any s (render_expression occurrence c)
    render_expression-holds = render_expression-as (is_value c) refl
