-- The walk through all that a template can say: what a closed law says holds of each element and of each tree.
use Rattle.std.proofs.Common.{◌≡◌, ℕ, suc, ◌+◌, ◌≤◌, List, [], ◌∷◌, true, false, refl, sym, ap, ◌∙◌, Option, Some, None, arith}
use Rattle.std.specs.List.{Contains}
use Rattle.std.proofs.lemmas.List.Elements.{Contains-append_right}
use Rattle.handlebars_base.specs.Answers.{gives}
use Rattle.handlebars_base.specs.Bytes.{Text}
use Rattle.handlebars_template.specs.Position.{Position}
use Rattle.handlebars_template.specs.Tree.{Tree, tree, Elements, no_elements, element, Element, raw_string, html_expression, escaped_expression, helper_block, decorator_expression, decorator_block, partial_expression, partial_block, comment, Decorator, decorator_name, decorator_args, decorator_body, Body, no_body, body}
use Rattle.handlebars_helpers.specs.CallView.{CallView}
use Rattle.handlebars_helpers.specs.Decoration.{DecoratorKind, Action, sets_data, binds, unbinds, sets_partial}
use Rattle.handlebars_semantics.specs.Means.{shown_tag, set_partial, do_action, do_actions, render_expression, render_decorator, render_element, render_elements}
use Rattle.handlebars_semantics.specs.Origins.{nth, element_decorator, SetsPartial}
use Rattle.handlebars_semantics.specs.Pieces.{of_text}
use Rattle.handlebars_semantics.specs.Questions.{view_of, decorator_of, actions_of, IsAnswered}
use Rattle.handlebars_semantics.specs.Occurrences.{TreeOccurrence, Occurrence}
use Rattle.handlebars_semantics.specs.State.{Setting, State}
use Rattle.handlebars_semantics.specs.Steps.{Task, One, Whole, Steps, Done, Prog, run, ◌>>=◌, ◌>>◌}
use Rattle.handlebars_laws.proofs.Calls.{render_call-holds, render_expression-holds}
use Rattle.handlebars_laws.proofs.Failures.{Acts, for_decorator_view, for_decorator, for_actions, for_content}
use Rattle.handlebars_laws.proofs.Closed.{ComesToTag, after_action, after_actions, Closed}
use Rattle.handlebars_laws.proofs.Inclusions.{render_partial-holds}
use Rattle.handlebars_laws.proofs.Law.{Law, HoldsThrough, PlanHolds}
use Rattle.handlebars_laws.proofs.Programs.{any, LeadsThrough, ask-holds, return-holds, write_text-holds, without_escaping-holds}

module _ (p : Setting) (law : Law) (closed : Closed p law) where
  -- ---- decorators

  module _ (occurrence : Occurrence) (e : Element) (t : Decorator) (before : State)
      (comes : law.ComesTo occurrence e before) (tag : element_decorator e ≡ Some t) where
    abbrev this : Task
    this = One occurrence e

    -- the actions that its decorator answers for a view of the tag
    module _ (v : CallView) (viewed : IsAnswered p before (view_of (decorator_name t) (decorator_args t)) (gives v))
        (kind : DecoratorKind) (named : IsAnswered p before (decorator_of v.name) (gives kind)) (all : List Action)
        (answers : IsAnswered p before (actions_of kind (shown_tag before.indent t v)) (gives all)) where
      acts : Acts p t before v all
      acts = record { kind = kind; named = named; answers = answers }

      tagged : ComesToTag p law occurrence e element_decorator t before v
      tagged = record { comes = comes; tag = tag; viewed = viewed }

      sets : (name : Text) (x : Tree) → Contains all (sets_partial name) → decorator_body t ≡ body x
          → SetsPartial p t before v name x
      sets name x has is =
          record { kind = kind; named = named; actions = all; answers = answers; sets = has; is = is }

      set_partial-holds : (name : Text) (b : Body) → Contains all (sets_partial name) → decorator_body t ≡ b → (s : State)
          → law.IsWell s → (end : ℕ → State → Type 0) (i : ℕ) (next : Unit {0} → Steps)
          → (law.IsNext s (after_action b (sets_partial name) s)
          → HoldsThrough p law this end i (after_action b (sets_partial name) s) (next tt))
          → HoldsThrough p law this end i s (set_partial name b next)
      unfolding ◌>>=◌
      set_partial-holds name no_body has is s h end i next g = closed.fails comes (for_content tag viewed acts has is)
      set_partial-holds name (body x) has is s h end i next g = g (closed.partial_next tagged (sets name x has is) h)

      do_action-holds : (action : Action) → Contains all action → (s : State) → law.IsWell s → (end : ℕ → State → Type 0)
          (i : ℕ) (next : Unit {0} → Steps) → (law.IsNext s (after_action (decorator_body t) action s)
          → HoldsThrough p law this end i (after_action (decorator_body t) action s) (next tt))
          → HoldsThrough p law this end i s (do_action (decorator_body t) action next)
      unfolding ◌>>=◌
      do_action-holds (sets_data d) has s h end i next g = g (closed.data_next d h)
      do_action-holds (binds name l) has s h end i next g = g (closed.local_next name l tagged acts has h)
      do_action-holds (unbinds name) has s h end i next g = g (closed.no_local_next name tagged acts has h)
      do_action-holds (sets_partial name) has s h end i next g =
          set_partial-holds name (decorator_body t) has refl s h end i next g

      -- In which state the actions end is known.
      do_actions-hold : (actions : List Action) → ((action : Action) → Contains actions action → Contains all action) → (s : State)
          → law.IsWell s → (end : ℕ → State → Type 0) (i : ℕ) (next : Unit {0} → Steps)
          → (law.IsNext s (after_actions (decorator_body t) actions s)
          → HoldsThrough p law this end i (after_actions (decorator_body t) actions s) (next tt))
          → HoldsThrough p law this end i s (do_actions (decorator_body t) actions next)
      unfolding ◌>>◌
      do_actions-hold [] are s h end i next g = g (closed.same_next h)
      do_actions-hold (action ∷ actions) are s h end i next g =
          do_action-holds action (are action (0, omega arith, refl)) s h end i
          (λ u. do_actions (decorator_body t) actions next) (λ is.
          do_actions-hold actions (λ d has. are d (Contains-append_right (action ∷ []) actions d has))
          (after_action (decorator_body t) action s) (closed.next_well is) end i next
          (λ same. g (closed.then_next is same)))

    render_decorator-holds : law.IsWell before → (end : ℕ → State → Type 0) (i : ℕ)
        → ((z : State) → law.IsAfter this before z → end i z)
        → HoldsThrough p law this end i before (render_decorator t (λ u. Done))
    unfolding ◌>>=◌
    render_decorator-holds h end i g =
        ask-holds p law this end i before (view_of (decorator_name t) (decorator_args t)) _
        (λ r failed. closed.fails comes (for_decorator_view r tag failed)) (λ v viewed.
        ask-holds p law this end i before (decorator_of v.name) _
        (λ r failed. closed.fails comes (for_decorator r tag viewed failed)) (λ k named.
        ask-holds p law this end i before (actions_of k (shown_tag before.indent t v)) _
        (λ r failed. closed.fails comes (for_actions r tag viewed named failed)) (λ actions answers.
        do_actions-hold v viewed k named actions answers actions (λ d has. has) before h end i (λ u. Done)
        (λ is. g _ (closed.decorator_after (tagged v viewed k named actions answers) (acts v viewed k named actions answers) is)))))

  -- ---- elements

  -- A part begins with an element to which the run comes, and is over where its steps end.
  module _ (occurrence : Occurrence) (s : State) (well : law.IsWell s) where
    abbrev ElementHolds : Element → Type 0
    ElementHolds e = HoldsThrough p law (One occurrence e) (λ n z. law.IsAfter (One occurrence e) s z) 0 s (run (render_element occurrence e))

    -- Steps that lead to a next state are over there, unless the element is a decorator's tag.
    over-holds : (e : Element) → law.ComesTo occurrence e s → element_decorator e ≡ None → (m : Prog (Unit {0}))
        → LeadsThrough p law (One occurrence e) 0 any s m
        → HoldsThrough p law (One occurrence e) (λ n z. law.IsAfter (One occurrence e) s z) 0 s (run m)
    over-holds e comes plain m leads =
        leads well (λ n z. law.IsAfter (One occurrence e) s z) 0 (omega arith) (λ u. Done)
        (λ j z to is. closed.element_after comes plain is)

    render_element-holds : (e : Element) → law.Begins (One occurrence e) s → law.ComesTo occurrence e s → ElementHolds e
    render_element-holds (raw_string t) begins comes =
        over-holds (raw_string t) comes refl (render_element occurrence (raw_string t))
        (write_text-holds p law closed (One occurrence (raw_string t)) s (of_text occurrence) t (closed.text_written comes (closed.begins_fits begins refl)))
    render_element-holds (html_expression c) begins comes =
        over-holds (html_expression c) comes refl (render_element occurrence (html_expression c))
        (without_escaping-holds p law closed (One occurrence (html_expression c)) s (render_expression occurrence c)
        (render_expression-holds p law closed occurrence (html_expression c) c refl (record s { escapes = false })
        (closed.raw_comes comes) (closed.begins_raw begins)))
    render_element-holds (escaped_expression c) begins comes =
        over-holds (escaped_expression c) comes refl (render_element occurrence (escaped_expression c))
        (render_expression-holds p law closed occurrence (escaped_expression c) c refl s comes (closed.begins_fits begins refl))
    render_element-holds (helper_block c) begins comes =
        over-holds (helper_block c) comes refl (render_element occurrence (helper_block c))
        (render_call-holds p law closed occurrence (helper_block c) true c refl s comes refl (closed.begins_fits begins refl))
    render_element-holds (decorator_expression t) begins comes =
        render_decorator-holds occurrence (decorator_expression t) t s comes refl well
        (λ n z. law.IsAfter (One occurrence (decorator_expression t)) s z) 0 (λ z is. is)
    render_element-holds (decorator_block t) begins comes =
        render_decorator-holds occurrence (decorator_block t) t s comes refl well
        (λ n z. law.IsAfter (One occurrence (decorator_block t)) s z) 0 (λ z is. is)
    render_element-holds (partial_expression t) begins comes =
        over-holds (partial_expression t) comes refl (render_element occurrence (partial_expression t))
        (render_partial-holds p law closed occurrence (partial_expression t) t refl s comes (closed.begins_fits begins refl))
    render_element-holds (partial_block t) begins comes =
        over-holds (partial_block t) comes refl (render_element occurrence (partial_block t))
        (render_partial-holds p law closed occurrence (partial_block t) t refl s comes (closed.begins_fits begins refl))
    render_element-holds (comment t) begins comes =
        over-holds (comment t) comes refl (render_element occurrence (comment t))
        (return-holds p law closed (One occurrence (comment t)) s)

  -- ---- trees

  -- these are the elements from an index on
  AreFrom : Elements → ℕ → Elements → Type 0
  AreFrom all i es = (k : ℕ) → nth es k ≡ nth all (i + k)

  render_elements-hold : (at : TreeOccurrence) (n : Option Text) (all : Elements) (positions : List Position) (s : State)
      → law.Begins (Whole at (tree n all positions)) s → (i : ℕ) (es : Elements) → AreFrom all i es → (z : State)
      → law.IsAmid (Whole at (tree n all positions)) i s z → (l : ℕ) → l ≤ i
      → HoldsThrough p law (Whole at (tree n all positions)) (λ j y. law.IsAfter (Whole at (tree n all positions)) s y) l z
      (run (render_elements at i es positions))
  unfolding AreFrom ◌>>◌
  render_elements-hold at n all positions s begins i no_elements are z amid l le =
      closed.amid_last i amid (ap (nth all) (omega arith) ∙ sym (are 0))
  render_elements-hold at n all positions s begins i (element e es) are z amid l le = (
    i,
    le,
    closed.element_part i begins (ap (nth all) (omega arith) ∙ sym (are 0)) amid,
    λ y over. render_elements-hold at n all positions s begins (i + 1) es (λ k. are (suc k) ∙ ap (nth all) (omega arith)) y
        (closed.amid_next i amid (ap (nth all) (omega arith) ∙ sym (are 0)) over) (i + 1) (omega arith),
  )

  pub todo-holds : PlanHolds p law
  unfolding ◌>>=◌ ◌>>◌ AreFrom
  todo-holds (One occurrence e) s begins known =
      render_element-holds occurrence s (closed.begins_well begins) e begins (closed.begins_comes begins known)
  todo-holds (Whole at (tree n es positions)) s begins known =
      render_elements-hold at n es positions s begins 0 es (λ k. ap (nth es) (omega arith)) (record s { current = n })
      (closed.amid_first begins) 0 (omega arith)
