-- Two runs of the same steps whose states differ in the current name alone: all that templates do is the same in both, as
-- long as no inclusion names what distinguishes them.
use Rattle.std.proofs.Common.{◌≡◌, ◌≢◌, ℕ, ◌+◌, List, [], ◌∷◌, Bool, true, false, if◌then◌else◌, refl, subst, Option, None, Some}
use Rattle.std.specs.Str.{bytes_eq}
use Rattle.serde_json.specs.Data.{Data}
use Rattle.handlebars_base.specs.Answers.{Answer, gives, fails}
use Rattle.handlebars_base.specs.Bytes.{Text}
use Rattle.handlebars_base.specs.PathAndData.{PathAndData}
use Rattle.handlebars_base.specs.Reasons.{Refusal}
use Rattle.handlebars_base.specs.Scoped.{Found, walked, value, missing, data_in, present_in}
use Rattle.handlebars_template.specs.Position.{Position}
use Rattle.handlebars_template.specs.Tree.{Tree, tree, tree_name, Elements, no_elements, element, Element, raw_string, html_expression, escaped_expression, helper_block, decorator_expression, decorator_block, partial_expression, partial_block, comment, Call, call_marks, is_value, Decorator, decorator_body, decorator_marks, Body, no_body, body}
use Rattle.handlebars_scope.specs.LineState.{LineState}
use Rattle.handlebars_scope.specs.Scopes.{Frame, empty_frame, Base}
use Rattle.handlebars_helpers.specs.CallView.{CallView, HelperView}
use Rattle.handlebars_helpers.specs.Callee.{Target}
use Rattle.handlebars_helpers.specs.Choice.{Choice, the_body, the_inverse, body_in_block, body_in_iterations, the_value, the_boolean, the_line, the_steps, nothing}
use Rattle.handlebars_helpers.specs.Decoration.{DecoratorView, Action, sets_data, binds, unbinds, sets_partial}
use Rattle.handlebars_helpers.specs.UserHelper.{Step, writes, renders_body, renders_inverse, renders_body_in}
use Rattle.handlebars_helpers.specs.Iterations.{Iteration, iteration_frame, with_frame}
use Rattle.handlebars_semantics.specs.Execute.{in_scope_frame, view_with_bodies, render_branch, render_body, run_iterations, render_with, render_boolean, take_step, take_steps, execute}
use Rattle.handlebars_semantics.specs.Including.{render_own_block, write_captured, partial_block_name, base_value, render_ahead, include_tree, include_partial, include_other, include_named, include}
use Rattle.handlebars_semantics.specs.Inclusion.{Partial, is_local, is_registered, is_own_block, is_nowhere, partial_for, is_current, newest, named_as_before, end_inclusion}
use Rattle.handlebars_semantics.specs.Means.{without_escaping, on_line, line_in, line_at, render_chosen, render_helped, render_call, render_hook, render_found, render_lone_as, render_lone, shown_tag, set_partial, do_action, do_actions, render_decorator, include_tag, render_partial, render_expression, render_element, render_elements, todo}
use Rattle.handlebars_semantics.specs.Pieces.{Origin, of_text, of_value, of_raw, Piece}
use Rattle.handlebars_semantics.specs.Questions.{Question, Reply}
use Rattle.handlebars_semantics.specs.Occurrences.{as_iteration, as_part, TreeOccurrence, body_at, inverse_at, included_at, Occurrence}
use Rattle.handlebars_semantics.specs.State.{Setting, State, push_frame, pop_frame, with_nearest, nearest_variables}
use Rattle.handlebars_semantics.specs.Steps.{Task, One, Whole, Steps, Done, Fail, Write, Get, Set, Ask, Do, Capture, Find, CheckLimit, Prog, return, ◌>>=◌, ◌>>◌, answer}
use Rattle.handlebars_semantics.specs.Writing.{write_text, rendered_if_any, write_rendered, write_value}

-- Two current names agree except for an inclusion of this name.
abbrev pub NamesAgree : Text → Option Text → Option Text → Type 0
NamesAgree n a b = (m : Text) → m ≢ n → is_current m a ≡ is_current m b

abbrev pub renamed_state : Option Text → State → State
renamed_state c s = record s { current = c }

-- Steps from a state and from the one with this name instead of its own do the same.
pub data Twin (p : Setting) (n : Text) : State → Option Text → Steps → Steps → Type 0 where
  both_end : {s : State} {c : Option Text} → NamesAgree n s.current c → Twin p n s c Done Done
  both_fail : {s : State} {c : Option Text} {r : Refusal} → Twin p n s c (Fail r) (Fail r)
  both_write : {s : State} {c : Option Text} {w : Bool} {xs : List Piece} {k l : Steps} → Twin p n s c k l
      → Twin p n s c (Write w xs k) (Write w xs l)
  both_get : {s : State} {c : Option Text} {f g : State → Steps} → Twin p n s c (f s) (g (renamed_state c s))
      → Twin p n s c (Get f) (Get g)
  both_set : {s z : State} {c d : Option Text} {k l : Steps} → Twin p n z d k l → Twin p n s c (Set z k) (Set (renamed_state d z) l)
  both_ask : {s : State} {c : Option Text} {q : Question} {f g : Answer (Reply q) → Steps}
      → ((a : Answer (Reply q)) → Twin p n s c (f a) (g a)) → Twin p n s c (Ask q f) (Ask q g)
  both_do : {s : State} {c : Option Text} {t : Task} {k l : Steps} → NamesAgree n s.current c
      → ((z : State) (d : Option Text) → NamesAgree n z.current d → Twin p n z d k l) → Twin p n s c (Do t k) (Do t l)
  -- the only steps that are captured are a part of a run
  both_capture : {s : State} {c : Option Text} {t : Task} {f g : List Piece → Steps} → NamesAgree n s.current c
      → ((z : State) (d : Option Text) (ps : List Piece) → NamesAgree n z.current d → Twin p n z d (f ps) (g ps))
      → Twin p n s c (Capture (Do t Done) f) (Capture (Do t Done) g)
  both_find : {s : State} {c : Option Text} {m : Text} {b : Body} {f g : Partial → Steps}
      → (m ≢ n → Twin p n s c (f (partial_for p.parts s m b)) (g (partial_for p.parts s m b)))
      → Twin p n s c (Find m b f) (Find m b g)
  both_check : {s : State} {c : Option Text} {k l : Steps} → Twin p n s c k l
      → Twin p n s c (CheckLimit k) (CheckLimit l)

module _ (p : Setting) (n : Text) where
  -- what comes next is the same in both, wherever the programs before it come
  abbrev Next : (Unit {0} → Steps) → (Unit {0} → Steps) → Type 0
  Next k l = (z : State) (d : Option Text) → NamesAgree n z.current d → Twin p n z d (k tt) (l tt)

  abbrev Goes : State → Option Text → Prog (Unit {0}) → Prog (Unit {0}) → Type 0
  Goes s c m o = NamesAgree n s.current c → (k l : Unit {0} → Steps) → Next k l → Twin p n s c (m k) (o l)

  -- ---- programs

  answer-twin : {A : Type 0} (s : State) (c : Option Text) (f g : A → Steps) → ((x : A) → Twin p n s c (f x) (g x))
      → (a : Answer A) → Twin p n s c (answer a f) (answer a g)
  answer-twin s c f g h (gives x) = h x
  answer-twin s c f g h (fails r) = both_fail

  return-goes : (s : State) (c : Option Text) → Goes s c (return tt) (return tt)
  return-goes s c h k l g = g s c h

  if-goes : (b : Bool) (m o : Prog (Unit {0})) (s : State) (c : Option Text) → Goes s c m m → Goes s c o o
      → Goes s c (if b then m else o) (if b then m else o)
  if-goes true m o s c f g = f
  if-goes false m o s c f g = g

  write_text-goes : (o : Origin) (t : Text) (s : State) (c : Option Text) → Goes s c (write_text o t) (write_text o t)
  unfolding ◌>>=◌ ◌>>◌
  write_text-goes o t s c h k l g = both_get (both_write (both_set (g _ c h)))

  in_scope_frame-goes : (f : Frame) (m : Prog (Unit {0})) (s : State) (c : Option Text) → Goes (push_frame f s) c m m
      → Goes s c (in_scope_frame f m) (in_scope_frame f m)
  unfolding ◌>>=◌ ◌>>◌
  in_scope_frame-goes f m s c inner h k l g =
      both_get (both_set (inner h _ _ (λ z d is. both_get (both_set (g (pop_frame z) d is)))))

  on_line-goes : (enter : LineState → LineState) (m : Prog (Unit {0})) (s : State) (c : Option Text)
      → Goes (record s { line = enter s.line }) c m m → Goes s c (on_line enter m) (on_line enter m)
  unfolding ◌>>=◌ ◌>>◌
  on_line-goes enter m s c inner h k l g =
      both_get (both_set (inner h _ _ (λ z d is. both_get (both_set (g _ d is)))))

  without_escaping-goes : (m : Prog (Unit {0})) (s : State) (c : Option Text) → Goes (record s { escapes = false }) c m m
      → Goes s c (without_escaping m) (without_escaping m)
  unfolding ◌>>=◌ ◌>>◌
  without_escaping-goes m s c inner h k l g =
      both_get (both_set (inner h _ _ (λ z d is. both_get (both_set (g _ d is)))))

  render_branch-goes : (at : TreeOccurrence) (b : Body) (s : State) (c : Option Text)
      → Goes s c (render_branch at b) (render_branch at b)
  render_branch-goes at no_body s c h k l g = g s c h
  render_branch-goes at (body t) s c h k l g = both_do h g

  module _ (occurrence : Occurrence) where
    -- ---- values

    write_rendered-goes : (found : Found) (b : Bool) (s : State) (c : Option Text)
        → Goes s c (write_rendered occurrence found b) (write_rendered occurrence found b)
    unfolding ◌>>=◌
    write_rendered-goes found true s c h k l g =
        both_ask (answer-twin s c _ _ (λ t. write_text-goes (of_value occurrence found) t s c h k l g))
    write_rendered-goes found false s c h k l g =
        write_text-goes (of_raw occurrence found) (rendered_if_any (present_in found)) s c h k l g

    write_value-goes : (found : Found) (s : State) (c : Option Text)
        → Goes s c (write_value occurrence found) (write_value occurrence found)
    unfolding ◌>>=◌
    write_value-goes found s c h k l g = both_get (write_rendered-goes found s.escapes s c h k l g)

    -- ---- what helpers choose

    module _ (x : HelperView) where
      run_iterations-goes : (i : ℕ) (path : Option (List Text)) (ts : List Iteration) (s : State) (c : Option Text)
          → Goes s c (run_iterations occurrence i x path ts) (run_iterations occurrence i x path ts)
      unfolding ◌>>=◌ ◌>>◌
      run_iterations-goes i path [] s c h k l g = g s c h
      run_iterations-goes i path (t ∷ ts) s c h k l g =
          both_get (both_set (render_branch-goes (body_at occurrence (as_iteration i t.index)) x.body (with_nearest (iteration_frame path x.binding t) s) c h
          _ _ (λ z d is. run_iterations-goes (i + 1) path ts z d is k l g)))

      render_with-goes : (base : Base) (s : State) (c : Option Text)
          → Goes s c (render_with occurrence x base) (render_with occurrence x base)
      unfolding ◌>>=◌
      render_with-goes base s c h k l g =
          both_get (in_scope_frame-goes (with_frame base x.binding (nearest_variables s.blocks)) (render_body occurrence 0 x) s c
          (render_branch-goes (body_at occurrence (as_part 0)) x.body _ c) h k l g)

      render_boolean-goes : (block b : Bool) (s : State) (c : Option Text)
          → Goes s c (render_boolean occurrence x block b) (render_boolean occurrence x block b)
      render_boolean-goes false b s c h k l g = both_write (g s c h)
      render_boolean-goes true true s c h k l g = render_branch-goes (body_at occurrence (as_part 0)) x.body s c h k l g
      render_boolean-goes true false s c h k l g = render_branch-goes (inverse_at occurrence 0) x.inverse s c h k l g

      take_step-goes : (i : ℕ) (step : Step) (s : State) (c : Option Text)
          → Goes s c (take_step occurrence x i step) (take_step occurrence x i step)
      take_step-goes i (writes t) s c h k l g = both_write (g s c h)
      take_step-goes i renders_body s c h k l g = render_branch-goes (body_at occurrence (as_part i)) x.body s c h k l g
      take_step-goes i renders_inverse s c h k l g = render_branch-goes (inverse_at occurrence i) x.inverse s c h k l g
      take_step-goes i (renders_body_in f) s c h k l g =
          in_scope_frame-goes f (render_body occurrence i x) s c (render_branch-goes (body_at occurrence (as_part i)) x.body _ c) h k l g

      take_steps-goes : (i : ℕ) (steps : List Step) (s : State) (c : Option Text)
          → Goes s c (take_steps occurrence x i steps) (take_steps occurrence x i steps)
      unfolding ◌>>◌
      take_steps-goes i [] s c h k l g = g s c h
      take_steps-goes i (step ∷ steps) s c h k l g =
          take_step-goes i step s c h _ _ (λ z d is. take_steps-goes (i + 1) steps z d is k l g)

      execute-goes : (choice : Choice) (s : State) (c : Option Text)
          → Goes s c (execute occurrence x choice) (execute occurrence x choice)
      execute-goes the_body s c h k l g = render_branch-goes (body_at occurrence (as_part 0)) x.body s c h k l g
      execute-goes the_inverse s c h k l g = render_branch-goes (inverse_at occurrence 0) x.inverse s c h k l g
      execute-goes (body_in_block base) s c h k l g = render_with-goes base s c h k l g
      execute-goes (body_in_iterations path ts) s c h k l g =
          in_scope_frame-goes empty_frame (run_iterations occurrence 0 x path ts) s c (run_iterations-goes 0 path ts _ c) h k l g
      execute-goes (the_value d) s c h k l g = write_value-goes (value d) s c h k l g
      execute-goes (the_boolean b) s c h k l g = render_boolean-goes x.block b s c h k l g
      execute-goes (the_line level text) s c h k l g = g s c h
      execute-goes (the_steps steps) s c h k l g = take_steps-goes 0 steps s c h k l g
      execute-goes nothing s c h k l g = g s c h

      render_chosen-goes : (target : Target) (s : State) (c : Option Text)
          → Goes s c (render_chosen occurrence target x) (render_chosen occurrence target x)
      unfolding ◌>>=◌
      render_chosen-goes target s c h k l g =
          both_ask (answer-twin s c _ _ (λ choice. execute-goes choice s c h k l g))

    -- ---- calls

    render_helped-goes : (block : Bool) (e : Call) (target : Target) (v : CallView) (s : State) (c : Option Text)
        → Goes s c (render_helped occurrence block e target v) (render_helped occurrence block e target v)
    render_helped-goes block e target v s c =
        on_line-goes (line_in (call_marks e).indent_before_write) (render_chosen occurrence target (view_with_bodies block e v)) s c
        (render_chosen-goes (view_with_bodies block e v) target _ c)

    render_call-goes : (block : Bool) (e : Call) (s : State) (c : Option Text)
        → Goes s c (render_call occurrence block e) (render_call occurrence block e)
    unfolding ◌>>=◌
    render_call-goes block e s c h k l g = both_ask (answer-twin s c _ _ (λ v.
        both_ask (answer-twin s c _ _ (λ x. render_helped-goes block e x.0 x.1 s c h k l g))))

    render_hook-goes : (e : Call) (v : CallView) (o : Option Target) (s : State) (c : Option Text)
        → Goes s c (render_hook occurrence e v o) (render_hook occurrence e v o)
    render_hook-goes e v None s c h k l g = g s c h
    render_hook-goes e v (Some target) s c h k l g = render_chosen-goes (view_with_bodies false e v) target s c h k l g

    render_found-goes : (e : Call) (v : CallView) (found : Found) (s : State) (c : Option Text)
        → Goes s c (render_found occurrence e v found) (render_found occurrence e v found)
    unfolding ◌>>=◌
    render_found-goes e v (walked d path) s c h k l g = write_value-goes (walked d path) s c h k l g
    render_found-goes e v (value d) s c h k l g = write_value-goes (value d) s c h k l g
    render_found-goes e v missing s c h k l g =
        both_ask (answer-twin s c _ _ (λ o. render_hook-goes e v o s c h k l g))

    render_lone_as-goes : (e : Call) (v : CallView) (o : Option Target) (s : State) (c : Option Text)
        → Goes s c (render_lone_as occurrence e v o) (render_lone_as occurrence e v o)
    unfolding ◌>>=◌
    render_lone_as-goes e v None s c h k l g =
        both_ask (answer-twin s c _ _ (λ found. render_found-goes e v found s c h k l g))
    render_lone_as-goes e v (Some target) s c h k l g = render_helped-goes false e target v s c h k l g

    render_lone-goes : (e : Call) (s : State) (c : Option Text) → Goes s c (render_lone occurrence e) (render_lone occurrence e)
    unfolding ◌>>=◌
    render_lone-goes e s c h k l g = both_ask (answer-twin s c _ _ (λ v.
        both_ask (answer-twin s c _ _ (λ o. render_lone_as-goes e v o s c h k l g))))

    render_expression-goes : (e : Call) (s : State) (c : Option Text)
        → Goes s c (render_expression occurrence e) (render_expression occurrence e)
    render_expression-goes e s c = if-goes (is_value e) (render_lone occurrence e) (render_call occurrence false e) s c
        (render_lone-goes e s c) (render_call-goes false e s c)

    -- ---- inclusions

    render_own_block-goes : (b : Body) (s : State) (c : Option Text)
        → Goes s c (render_own_block occurrence b s) (render_own_block occurrence b (renamed_state c s))
    unfolding ◌>>=◌ ◌>>◌
    render_own_block-goes no_body s c h k l g = both_fail
    render_own_block-goes (body t) s c h k l g =
        both_do h (λ z d is. both_get (both_set (g (named_as_before s z) c h)))

    write_captured-goes : (b : Body) (captured : Option (List Piece)) (s : State) (c : Option Text)
        → Goes s c (write_captured occurrence b s captured) (write_captured occurrence b (renamed_state c s) captured)
    write_captured-goes b None s c h k l g = render_own_block-goes b s c h k l g
    write_captured-goes b (Some ps) s c h k l g = both_write (g s c h)

    base_value-twin : (xs : List PathAndData) (s : State) (c : Option Text) (f g : Data → Steps)
        → ((d : Data) → Twin p n s c (f d) (g d)) → Twin p n s c (base_value xs f) (base_value xs g)
    unfolding ◌>>=◌
    base_value-twin [] s c f g h = both_ask (answer-twin s c _ _ (λ found. h (data_in found)))
    base_value-twin (x ∷ xs) s c f g h = h (data_in x.found)

    abbrev GoesAhead : Prog (Option (List Piece)) → Type 0
    GoesAhead m = (s : State) (c : Option Text) → NamesAgree n s.current c → (f g : Option (List Piece) → Steps)
        → ((captured : Option (List Piece)) (z : State) (d : Option Text) → NamesAgree n z.current d → Twin p n z d (f captured) (g captured))
        → Twin p n s c (m f) (m g)

    render_ahead-goes : (b : Body) → GoesAhead (render_ahead occurrence b)
    unfolding ◌>>=◌
    render_ahead-goes no_body s c h f g next = next None s c h
    render_ahead-goes (body t) s c h f g next = both_capture h (λ z d ps is. next (Some ps) z d is)

    include_tree-goes : (v : DecoratorView) (at : TreeOccurrence) (t : Tree) (ahead : Prog (Option (List Piece))) → GoesAhead ahead
        → (s : State) (c : Option Text) → Goes s c (include_tree v at t ahead) (include_tree v at t ahead)
    unfolding ◌>>=◌ ◌>>◌
    include_tree-goes v at t ahead goes s c h k l g = both_check (both_get (base_value-twin v.call.params s c _ _ (λ d.
        both_get (both_set (goes _ c h _ _ (λ captured z e is. both_get (both_set (both_do is (λ y i last.
        both_get (both_set (g (end_inclusion s y) c h)))))))))))

    include_partial-goes : (v : DecoratorView) (found : Partial) (s : State) (c : Option Text)
        → Goes s c (include_partial occurrence v found) (include_partial occurrence v found)
    include_partial-goes v (is_local t) s c =
        include_tree-goes v (included_at occurrence (tree_name t) t) t (render_ahead occurrence v.body) (render_ahead-goes v.body) s c
    include_partial-goes v (is_registered t) s c =
        include_tree-goes v (included_at occurrence (Some v.call.name) t) t (render_ahead occurrence v.body) (render_ahead-goes v.body) s c
    include_partial-goes v (is_own_block t) s c =
        include_tree-goes v (body_at occurrence (as_part 0)) t (return None) (λ z d is f g next. next None z d is) s c
    include_partial-goes v is_nowhere s c = λ h k l g. both_fail

    include_other-goes : (v : DecoratorView) (found : Partial) (b : Bool) (s : State) (c : Option Text)
        → Goes s c (include_other occurrence v found s b) (include_other occurrence v found (renamed_state c s) b)
    include_other-goes v found true s c = write_captured-goes v.body (newest s.captured) s c
    include_other-goes v found false s c = include_partial-goes v found s c

    include_named-goes : (v : DecoratorView) (found : Partial) (b : Bool) (s : State) (c : Option Text)
        → Goes s c (include_named occurrence v found s b) (include_named occurrence v found (renamed_state c s) b)
    include_named-goes v found true s c = λ h k l g. both_fail
    include_named-goes v found false s c = include_other-goes v found (bytes_eq partial_block_name v.call.name) s c

    include-goes : (v : DecoratorView) (s : State) (c : Option Text) → Goes s c (include occurrence v) (include occurrence v)
    unfolding ◌>>=◌
    include-goes v s c h k l g = both_find (λ apart. both_get (subst (λ (b : Bool). Twin p n s c
        (include_named occurrence v (partial_for p.parts s v.call.name v.body) s (is_current v.call.name s.current) k)
        (include_named occurrence v (partial_for p.parts s v.call.name v.body) (renamed_state c s) b l)) (h v.call.name apart)
        (include_named-goes v (partial_for p.parts s v.call.name v.body) (is_current v.call.name s.current) s c h k l g)))

    include_tag-goes : (t : Decorator) (v : CallView) (s : State) (c : Option Text)
        → Goes s c (include_tag occurrence t v) (include_tag occurrence t v)
    unfolding ◌>>=◌
    include_tag-goes t v s c h k l g = both_get (include-goes (shown_tag s.indent t v) s c h k l g)

    render_partial-goes : (t : Decorator) (s : State) (c : Option Text)
        → Goes s c (render_partial occurrence t) (render_partial occurrence t)
    unfolding ◌>>=◌
    render_partial-goes t s c h k l g = both_ask (answer-twin s c _ _ (λ v.
        on_line-goes (line_at (decorator_marks t)) (include_tag occurrence t v) s c (include_tag-goes t v _ c) h k l g))

  -- ---- decorators

  set_partial-goes : (name : Text) (b : Body) (s : State) (c : Option Text)
      → Goes s c (set_partial name b) (set_partial name b)
  unfolding ◌>>=◌
  set_partial-goes name no_body s c h k l g = both_fail
  set_partial-goes name (body t) s c h k l g = both_get (both_set (g _ c h))

  do_action-goes : (b : Body) (action : Action) (s : State) (c : Option Text) → Goes s c (do_action b action) (do_action b action)
  unfolding ◌>>=◌
  do_action-goes b (sets_data d) s c h k l g = both_get (both_set (g _ c h))
  do_action-goes b (binds name x) s c h k l g = both_get (both_set (g _ c h))
  do_action-goes b (unbinds name) s c h k l g = both_get (both_set (g _ c h))
  do_action-goes b (sets_partial name) s c h k l g = set_partial-goes name b s c h k l g

  do_actions-goes : (b : Body) (actions : List Action) (s : State) (c : Option Text)
      → Goes s c (do_actions b actions) (do_actions b actions)
  unfolding ◌>>◌
  do_actions-goes b [] s c h k l g = g s c h
  do_actions-goes b (action ∷ actions) s c h k l g =
      do_action-goes b action s c h _ _ (λ z d is. do_actions-goes b actions z d is k l g)

  render_decorator-goes : (t : Decorator) (s : State) (c : Option Text)
      → Goes s c (render_decorator t) (render_decorator t)
  unfolding ◌>>=◌
  render_decorator-goes t s c h k l g = both_ask (answer-twin s c _ _ (λ v. both_get (
      both_ask (answer-twin s c _ _ (λ kind. both_ask (answer-twin s c _ _ (λ actions.
      do_actions-goes (decorator_body t) actions s c h k l g)))))))

  -- ---- elements and trees

  render_element-goes : (occurrence : Occurrence) (e : Element) (s : State) (c : Option Text)
      → Goes s c (render_element occurrence e) (render_element occurrence e)
  render_element-goes occurrence (raw_string t) s c = write_text-goes (of_text occurrence) t s c
  render_element-goes occurrence (html_expression e) s c =
      without_escaping-goes (render_expression occurrence e) s c (render_expression-goes occurrence e _ c)
  render_element-goes occurrence (escaped_expression e) s c = render_expression-goes occurrence e s c
  render_element-goes occurrence (helper_block e) s c = render_call-goes occurrence true e s c
  render_element-goes occurrence (decorator_expression t) s c = render_decorator-goes t s c
  render_element-goes occurrence (decorator_block t) s c = render_decorator-goes t s c
  render_element-goes occurrence (partial_expression t) s c = render_partial-goes occurrence t s c
  render_element-goes occurrence (partial_block t) s c = render_partial-goes occurrence t s c
  render_element-goes occurrence (comment t) s c = return-goes s c

  pub render_elements-goes : (at : TreeOccurrence) (i : ℕ) (es : Elements) (positions : List Position) (s : State) (c : Option Text)
      → Goes s c (render_elements at i es positions) (render_elements at i es positions)
  unfolding ◌>>◌
  render_elements-goes at i no_elements positions s c h k l g = g s c h
  render_elements-goes at i (element e es) positions s c h k l g =
      both_do h (λ z d is. render_elements-goes at (i + 1) es positions z d is k l g)

  pub todo-twin : (t : Task) (s : State) (c : Option Text) → NamesAgree n s.current c → Twin p n s c (todo t) (todo t)
  unfolding ◌>>=◌ ◌>>◌
  todo-twin (One occurrence e) s c h =
      render_element-goes occurrence e s c h (λ u. Done) (λ u. Done) (λ z d is. both_end is)
  todo-twin (Whole at (tree m es positions)) s c h =
      both_get (both_set (render_elements-goes at 0 es positions (record s { current = m }) m (λ x apart. refl) (λ u. Done)
      (λ u. Done) (λ z d is. both_end is)))
