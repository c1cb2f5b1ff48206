-- Blocks and expressions that lead as a rule has it go on so.
use Rattle.std.proofs.Common.{◌≡◌, ℕ, ◌+◌, Bool, true, false, not, ◌&&◌, List, [], ◌∷◌, refl, sym, ap, ◌∙◌, subst, Option, None, Some}
use Rattle.handlebars_base.specs.Answers.{gives}
use Rattle.handlebars_base.specs.Bytes.{Text}
use Rattle.handlebars_base.specs.Optional.{with_or}
use Rattle.handlebars_base.specs.Scoped.{Found, walked, value, missing}
use Rattle.serde_json.specs.Data.{Data}
use Rattle.handlebars_template.specs.Tree.{Tree, Call, call, call_name, call_args, call_body, call_inverse, call_marks, is_value, bodies, Body, no_body, body}
use Rattle.handlebars_scope.specs.Scopes.{Frame, empty_frame, Base, at_path, at_value, frame_at}
use Rattle.handlebars_helpers.specs.CallView.{CallView, HelperView}
use Rattle.handlebars_helpers.specs.Callee.{Target}
use Rattle.handlebars_helpers.specs.Choice.{Choice, the_body, the_inverse, body_in_block, body_in_iterations, the_value, the_boolean, the_line, the_steps, nothing}
use Rattle.handlebars_helpers.specs.Iterations.{Iteration, iteration_base, iteration_frame, with_frame}
use Rattle.handlebars_semantics.specs.Execute.{view_with_bodies, in_scope_frame, render_branch, render_body, run_iterations, render_with, render_boolean, execute}
use Rattle.handlebars_semantics.specs.Means.{line_in, render_chosen, render_helped, render_call, render_hook, render_found, render_lone_as, render_lone, render_expression}
use Rattle.handlebars_semantics.specs.Occurrences.{as_part, as_iteration, TreeOccurrence, body_at, inverse_at, Occurrence}
use Rattle.handlebars_semantics.specs.Questions.{value_of, view_of, helper_of, called_as, hook_for, choice_of, IsAnswered}
use Rattle.handlebars_semantics.specs.State.{Setting, State, push_frame, with_nearest, nearest_variables}
use Rattle.handlebars_semantics.specs.Steps.{Prog, return, ◌>>=◌, ◌>>◌}
use Rattle.handlebars_html.specs.Rule.{Rule, Table, Effect, one_branch, iterations, a_value, no_output, effect_named, written_name, are_urls, writes_url, IsNamed, LacksBody, ValueLeads, ExpressionLeads, BlockLeads, BodiesLead, BranchLeads}
use Rattle.handlebars_html.specs.Usual.{IsUsual}
use Rattle.handlebars_html.proofs.Effects.{Fits, IsNoSteps, IsUrl}
use Rattle.handlebars_html.proofs.Plans.{Meaning, IsWellFrame, Plan}
use Rattle.handlebars_html.proofs.Programs.{Goes, blocks-well, nearest-well, answer-goes, return-goes, same-goes, no_value-goes, in_scope_frame-goes, on_line-goes, no_url-goes, render_branch-goes, write_value-goes, write_url-goes, write_boolean_text-goes}
use Rattle.handlebars_html.proofs.Targets.{IsBuilt, called-url, called-block, called-expression, helper_of-built, hook_for-none, view-named}

-- ---- frames without partials

pub none-some : {P : Type 0} {t : Tree} → None ≡ Some t → P
none-some e = cc

frame_at-partial : (base : Base) (f : Frame) (n : Text) → (frame_at base f).partial n ≡ f.partial n
frame_at-partial (at_path names) f n = refl
frame_at-partial (at_value d) f n = refl

module _ (p : Setting) (rule : Rule) (table : Table rule) (meaning : Meaning p rule) where
  abbrev Frames-well : Frame → Type 0
  Frames-well f = IsWellFrame p rule table meaning f

  pub empty-frame : Frames-well empty_frame
  empty-frame n t e = none-some e

  with-frame : (base : Base) (v : HelperView) (variables : Text → Option Data) → Frames-well (with_frame base v.binding variables)
  with-frame base v variables n t is = none-some (sym (frame_at-partial base empty_frame n) ∙ is)

  iteration-frame : (names : Option (List Text)) (v : HelperView) (t : Iteration) (f : Frame) → Frames-well f
      → Frames-well (iteration_frame names v.binding t f)
  iteration-frame names v t f well n x is = well n x (sym (frame_at-partial (iteration_base names t) f n) ∙ is)

  -- ---- what is done for a choice

  -- a body that goes on so, wherever and however often it is rendered
  abbrev BodyGoes : Bool → (rule.Known → Type 0) → rule.Known → Body → Type 1
  BodyGoes e end h b = (s : State) (at : TreeOccurrence) → Goes p rule table meaning e end h s (render_branch at b)

  branch-goes : (end : rule.Known → Type 0) (h : rule.Known) (b : Body) → BranchLeads rule table b h end → BodyGoes true end h b
  branch-goes end h b leads s at = render_branch-goes p rule table meaning end h s at b leads

  lacking-goes : (e : Bool) (h : rule.Known) (b : Body) → LacksBody b → BodyGoes e (λ g. g ≡ h) h b
  lacking-goes e h no_body lacks s at = return-goes p rule table meaning e _ h s refl
  lacking-goes e h (body t) lacks s at = absurd lacks

  module _ (e : Bool) (end : rule.Known → Type 0) (h : rule.Known) (occurrence : Occurrence) (v : HelperView) where
    render_with-goes : (s : State) (base : Base) → BodyGoes e end h v.body
        → Goes p rule table meaning e end h s (render_with occurrence v base)
    unfolding ◌>>=◌
    render_with-goes s base inner w last next g =
        in_scope_frame-goes p rule table meaning e end h s (with_frame base v.binding (nearest_variables s.blocks))
        (render_body occurrence 0 v) (with-frame base v (nearest_variables s.blocks)) (inner _ _) w last next g

    render_boolean-goes : (s : State) (block b : Bool) → block ≡ true → BodyGoes e end h v.body → BodyGoes e end h v.inverse
        → Goes p rule table meaning e end h s (render_boolean occurrence v block b)
    render_boolean-goes s true true is x y = x s (body_at occurrence (as_part 0))
    render_boolean-goes s true false is x y = y s (inverse_at occurrence 0)
    render_boolean-goes s false b is x y = cc

  -- Each iteration comes back to the state in which the first begins.
  run_iterations-goes : (e : Bool) (h : rule.Known) (occurrence : Occurrence) (v : HelperView) → BodyGoes e (λ g. g ≡ h) h v.body
      → (names : Option (List Text)) (ts : List Iteration) (i : ℕ) (s : State)
      → Goes p rule table meaning e (λ g. g ≡ h) h s (run_iterations occurrence i v names ts)
  unfolding ◌>>=◌ ◌>>◌
  run_iterations-goes e h occurrence v inner names [] i s w last next g = g h s refl w
  run_iterations-goes e h occurrence v inner names (t ∷ ts) i s w last next g =
      inner (with_nearest (iteration_frame names v.binding t) s) (body_at occurrence (as_iteration i t.index))
      (blocks-well p rule table meaning _ w (nearest-well p rule table meaning (iteration_frame names v.binding t) s.blocks
      (iteration-frame names v t) w.frames)) last
      (λ u. run_iterations occurrence (i + 1) v names ts next)
      (λ y z same wz. subst (λ (x : rule.Known). Plan p rule table meaning last x z (run_iterations occurrence (i + 1) v names ts next))
      (sym same) (run_iterations-goes e h occurrence v inner names ts (i + 1) z wz last next g))

  iterations-go : (e : Bool) (h : rule.Known) (occurrence : Occurrence) (v : HelperView) → BodyGoes e (λ g. g ≡ h) h v.body
      → (names : Option (List Text)) (ts : List Iteration) (s : State)
      → Goes p rule table meaning e (λ g. g ≡ h) h s (in_scope_frame empty_frame (run_iterations occurrence 0 v names ts))
  iterations-go e h occurrence v inner names ts s =
      in_scope_frame-goes p rule table meaning e (λ g. g ≡ h) h s empty_frame (run_iterations occurrence 0 v names ts) empty-frame
      (run_iterations-goes e h occurrence v inner names ts 0 (push_frame empty_frame s))

  -- ---- blocks

  module _ (end : rule.Known → Type 0) (h : rule.Known) (occurrence : Occurrence) (v : HelperView) (block : v.block ≡ true) where
    -- what fits the effect of a block's name is executed
    execute-block : (effect : Effect) → BodiesLead rule table (bodies v.body v.inverse) effect h end → (c : Choice)
        → Fits effect c → (s : State) → Goes p rule table meaning true end h s (execute occurrence v c)
    execute-block one_branch is the_body fit s = branch-goes end h v.body is.0 s (body_at occurrence (as_part 0))
    execute-block one_branch is the_inverse fit s = branch-goes end h v.inverse is.1 s (inverse_at occurrence 0)
    execute-block one_branch is (body_in_block base) fit s =
        render_with-goes true end h occurrence v s base (branch-goes end h v.body is.0)
    execute-block one_branch is (the_boolean b) fit s =
        render_boolean-goes true end h occurrence v s v.block b block (branch-goes end h v.body is.0)
        (branch-goes end h v.inverse is.1)
    execute-block one_branch is c fit s = absurd fit
    execute-block iterations is the_body fit s =
        same-goes p rule table meaning true end h s (execute occurrence v the_body) is.0
        (branch-goes (λ g. g ≡ h) h v.body is.1 s (body_at occurrence (as_part 0)))
    execute-block iterations is the_inverse fit s = branch-goes end h v.inverse is.2 s (inverse_at occurrence 0)
    execute-block iterations is (body_in_block base) fit s =
        same-goes p rule table meaning true end h s (execute occurrence v (body_in_block base)) is.0
        (render_with-goes true (λ g. g ≡ h) h occurrence v s base (branch-goes (λ g. g ≡ h) h v.body is.1))
    execute-block iterations is (body_in_iterations names ts) fit s =
        same-goes p rule table meaning true end h s (execute occurrence v (body_in_iterations names ts)) is.0
        (iterations-go true h occurrence v (branch-goes (λ g. g ≡ h) h v.body is.1) names ts s)
    execute-block iterations is nothing fit s = return-goes p rule table meaning true end h s is.0
    execute-block iterations is c fit s = absurd fit
    execute-block a_value is (the_value d) fit s =
        write_value-goes p rule table meaning true end h s occurrence (value d) is.0 is.1
    execute-block a_value is nothing fit s =
        no_value-goes p rule table meaning true end h s (execute occurrence v nothing) is.0 is.1 (return-goes p rule table meaning true (λ g. g ≡ h) h s refl)
    execute-block a_value is c fit s = absurd fit
    execute-block no_output is (the_line level text) fit s = return-goes p rule table meaning true end h s is
    execute-block no_output is c fit s = absurd fit

  -- ---- expressions

  module _ (e : Bool) (end : rule.Known → Type 0) (h : rule.Known) (occurrence : Occurrence) (v : HelperView) (plain : v.block ≡ false)
      (may : rule.MayValue e h) (is : end (rule.after_value e h)) (lacks_body : LacksBody v.body)
      (lacks_inverse : LacksBody v.inverse) where
    -- nothing is written
    unwritten : (s : State) (m : Prog (Unit {0})) → Goes p rule table meaning e (λ g. g ≡ h) h s m
        → Goes p rule table meaning e end h s m
    unwritten s m inner = no_value-goes p rule table meaning e end h s m may is inner

    boolean-goes : (s : State) (block b : Bool) → block ≡ false
        → Goes p rule table meaning e end h s (render_boolean occurrence v block b)
    boolean-goes s false b same = write_boolean_text-goes p rule table meaning e end h s occurrence b may is
    boolean-goes s true b same = cc

    -- It writes a value or a boolean text, or nothing.
    execute-expression : (c : Choice) → IsNoSteps c → (s : State) → Goes p rule table meaning e end h s (execute occurrence v c)
    execute-expression the_body lone s =
        unwritten s (execute occurrence v the_body) (lacking-goes e h v.body lacks_body s (body_at occurrence (as_part 0)))
    execute-expression the_inverse lone s = unwritten s (execute occurrence v the_inverse) (lacking-goes e h v.inverse lacks_inverse s (inverse_at occurrence 0))
    execute-expression (body_in_block base) lone s =
        unwritten s (execute occurrence v (body_in_block base)) (render_with-goes e (λ g. g ≡ h) h occurrence v s base (lacking-goes e h v.body lacks_body))
    execute-expression (body_in_iterations names ts) lone s =
        unwritten s (execute occurrence v (body_in_iterations names ts)) (iterations-go e h occurrence v (lacking-goes e h v.body lacks_body) names ts s)
    execute-expression (the_value d) lone s = write_value-goes p rule table meaning e end h s occurrence (value d) may is
    execute-expression (the_boolean b) lone s = boolean-goes s v.block b plain
    execute-expression (the_line level text) lone s = unwritten s (execute occurrence v (the_line level text)) (return-goes p rule table meaning e (λ g. g ≡ h) h s refl)
    execute-expression (the_steps steps) lone s = absurd lone
    execute-expression nothing lone s = unwritten s (execute occurrence v nothing) (return-goes p rule table meaning e (λ g. g ≡ h) h s refl)

  -- ---- calls

  module _ (usual : IsUsual p table.registered) where
    -- what is called chooses what fits, and that is executed
    chosen-goes : (e : Bool) (end : rule.Known → Type 0) (h : rule.Known) (occurrence : Occurrence) (k : Target) (v : HelperView)
        (fits : Choice → Type 0) → IsBuilt p table.registered usual fits k
        → ((c : Choice) → fits c → (s : State) → Goes p rule table meaning e end h s (execute occurrence v c)) → (s : State)
        → Goes p rule table meaning e end h s (render_chosen occurrence k v)
    unfolding ◌>>=◌
    chosen-goes e end h occurrence k v fits is_built inner s w last next g =
        answer-goes p rule table meaning last h s (choice_of k v) _ (λ c chose. inner c (is_built s v c chose) s w last next g)

    pub render_block-goes : (end : rule.Known → Type 0) (h : rule.Known) (s : State) (occurrence : Occurrence) (c : Call)
        → BlockLeads rule table c h end → Goes p rule table meaning true end h s (render_call occurrence true c)
    unfolding ◌>>=◌
    render_block-goes end h s occurrence (call n xs b (bodies x y) marks) leads w last next g =
        let c : Call = call n xs b (bodies x y) marks in
        answer-goes p rule table meaning last h s (view_of n xs) _ (λ v viewed.
        answer-goes p rule table meaning last h s (called_as true c v) _ (λ k called.
        let named = view-named p table.registered usual s w.local n xs v viewed in
        let same : v.name ≡ leads.0 = subst (λ (o : Option Text). IsNamed o v.name) leads.1 named in
        on_line-goes p rule table meaning true end h s (line_in marks.indent_before_write)
        (render_chosen occurrence k.0 (view_with_bodies true c k.1))
        (chosen-goes true end h occurrence k.0 (view_with_bodies true c k.1) (Fits (effect_named table.registered v.name))
        (called-block p table.registered usual s w.local c v k called)
        (λ choice fit z. execute-block end h occurrence (view_with_bodies true c k.1) refl (effect_named table.registered v.name)
        (subst (λ (m : Text). BodiesLead rule table (bodies x y) (effect_named table.registered m) h end) (sym same) leads.2) choice fit z) _)
        w last next g))

    module _ (e : Bool) (end : rule.Known → Type 0) (h : rule.Known) (occurrence : Occurrence) (c : Call)
        (may : rule.MayValue e h) (is_end : end (rule.after_value e h)) (lacks : LacksBody (call_body c) × LacksBody (call_inverse c))
      where
        executed : (v : CallView) (choice : Choice) → IsNoSteps choice → (s : State)
            → Goes p rule table meaning e end h s (execute occurrence (view_with_bodies false c v) choice)
        executed v choice lone s =
            execute-expression e end h occurrence (view_with_bodies false c v) refl may is_end
            lacks.0 lacks.1 choice lone s

        helped-goes : (k : Target) (v : CallView) (s : State) → IsBuilt p table.registered usual IsNoSteps k
            → Goes p rule table meaning e end h s (render_helped occurrence false c k v)
        helped-goes k v s is_built =
            on_line-goes p rule table meaning e end h s (line_in (call_marks c).indent_before_write)
            (render_chosen occurrence k (view_with_bodies false c v))
            (chosen-goes e end h occurrence k (view_with_bodies false c v) IsNoSteps is_built (executed v) _)

        render_hook-goes : (s : State) (v : CallView) (o : Option Target) → ((k : Target) → o ≡ Some k → ⊥)
            → Goes p rule table meaning e end h s (render_hook occurrence c v o)
        render_hook-goes s v None never =
            no_value-goes p rule table meaning e end h s (return tt) may is_end
            (return-goes p rule table meaning e (λ g. g ≡ h) h s refl)
        render_hook-goes s v (Some k) never = absurd (never k refl)

        render_found-goes : (s : State) (v : CallView) (found : Found)
            → Goes p rule table meaning e end h s (render_found occurrence c v found)
        unfolding ◌>>=◌
        render_found-goes s v (walked d names) =
            write_value-goes p rule table meaning e end h s occurrence (walked d names) may is_end
        render_found-goes s v (value d) =
            write_value-goes p rule table meaning e end h s occurrence (value d) may is_end
        render_found-goes s v missing = λ w last next g.
            answer-goes p rule table meaning last h s (hook_for (call_name c)) _ (λ o is.
            render_hook-goes s v o (λ k same. hook_for-none p table.registered usual s (call_name c) k
            (subst (λ (x : Option Target). IsAnswered p s (hook_for (call_name c)) (gives x)) same is)) w last next g)

        render_lone_as-goes : (s : State) → ((n : Text) → s.local n ≡ None) → (v : CallView) (o : Option Target)
            → IsAnswered p s (helper_of v.name) (gives o) → Goes p rule table meaning e end h s (render_lone_as occurrence c v o)
        unfolding ◌>>=◌
        render_lone_as-goes s local v None is = λ w last next g.
            answer-goes p rule table meaning last h s (value_of (call_name c)) _ (λ found has.
            render_found-goes s v found w last next g)
        render_lone_as-goes s local v (Some k) is =
            helped-goes k v s (helper_of-built p table.registered usual s local v.name k is)

        render_lone-goes : (s : State) → Goes p rule table meaning e end h s (render_lone occurrence c)
        unfolding ◌>>=◌
        render_lone-goes s w last next g =
            answer-goes p rule table meaning last h s (view_of (call_name c) (call_args c)) _ (λ v viewed.
            answer-goes p rule table meaning last h s (helper_of v.name) _ (λ o is.
            render_lone_as-goes s w.local v o is w last next g))

        render_called-goes : (s : State) → Goes p rule table meaning e end h s (render_call occurrence false c)
        unfolding ◌>>=◌
        render_called-goes s w last next g =
            answer-goes p rule table meaning last h s (view_of (call_name c) (call_args c)) _ (λ v viewed.
            answer-goes p rule table meaning last h s (called_as false c v) _ (λ k is.
            helped-goes k.0 k.1 s (called-expression p table.registered usual s w.local c v k is) w last next g))

        render_expression-as : (b : Bool) → is_value c ≡ b → (s : State)
            → Goes p rule table meaning e end h s (render_expression occurrence c)
        render_expression-as true is s w last next g = rw is (render_lone-goes s w last next g)
        render_expression-as false is s w last next g = rw is (render_called-goes s w last next g)

        render_value-goes : (s : State) → Goes p rule table meaning e end h s (render_expression occurrence c)
        render_value-goes s = render_expression-as (is_value c) refl s

    -- ---- expressions that write addresses

    module _ (end : rule.Known → Type 0) (h : rule.Known) (occurrence : Occurrence) (c : Call) (may : rule.MayUrl h)
        (is_end : end (rule.after_url h)) where
      execute-url : (v : HelperView) (choice : Choice) → IsUrl choice → (s : State)
          → Goes p rule table meaning true end h s (execute occurrence v choice)
      execute-url v (the_value d) is s = write_url-goes p rule table meaning end h s occurrence (value d) is may is_end
      execute-url v nothing is s =
          no_url-goes p rule table meaning end h s (execute occurrence v nothing) may is_end
          (return-goes p rule table meaning true (λ g. g ≡ h) h s refl)
      execute-url v choice is s = absurd is

      render_url-goes : is_value c ≡ false → (n : Text) → written_name (call_name c) ≡ Some n → are_urls (table.registered n) ≡ true
          → (s : State) → Goes p rule table meaning true end h s (render_expression occurrence c)
      unfolding ◌>>=◌
      render_url-goes plain n written urls s w last next g = rw plain (
          answer-goes p rule table meaning last h s (view_of (call_name c) (call_args c)) _ (λ v viewed.
          let named = view-named p table.registered usual s w.local (call_name c) (call_args c) v viewed in
          let same : v.name ≡ n = subst (λ (o : Option Text). IsNamed o v.name) written named in
          answer-goes p rule table meaning last h s (called_as false c v) _ (λ k is.
          on_line-goes p rule table meaning true end h s (line_in (call_marks c).indent_before_write)
          (render_chosen occurrence k.0 (view_with_bodies false c k.1))
          (chosen-goes true end h occurrence k.0 (view_with_bodies false c k.1) IsUrl
          (called-url p table.registered usual s w.local c v k (ap (λ (m : Text). are_urls (table.registered m)) same ∙ urls) is)
          (execute-url (view_with_bodies false c k.1)) _) w last next g)))

    -- ---- all expressions

    and-parts : (x y : Bool) → (x && y) ≡ true → (x ≡ true) × (y ≡ true)
    and-parts true y is = (refl, is)
    and-parts false y is = cc

    not-is : (x : Bool) → not x ≡ true → x ≡ false
    not-is true is = cc
    not-is false is = refl

    pub render_expression-goes : (e : Bool) (end : rule.Known → Type 0) (h : rule.Known) (occurrence : Occurrence) (c : Call)
        → ExpressionLeads rule table c e h end → (s : State)
        → Goes p rule table meaning e end h s (render_expression occurrence c)
    render_expression-goes e end h occurrence (call n xs b (bodies x y) marks) leads s =
        by (e && writes_url table.registered c) refl leads.0
      where
        c : Call
        c = call n xs b (bodies x y) marks

        named : (o : Option Text) → written_name n ≡ o → with_or o (λ m. are_urls (table.registered m)) false ≡ true
            → is_value c ≡ false → rule.MayUrl h × end (rule.after_url h)
            → Goes p rule table meaning true end h s (render_expression occurrence c)
        named None is urls plain v = cc
        named (Some m) is urls plain v = render_url-goes end h occurrence c v.0 v.1 plain m is urls s

        by : (url : Bool) → (e && writes_url table.registered c) ≡ url → ValueLeads rule table url e h end
            → Goes p rule table meaning e end h s (render_expression occurrence c)
        by false is v = render_value-goes e end h occurrence c v.0 v.1 (leads.1, leads.2) s
        by true is v =
            let both = and-parts e (writes_url table.registered c) is in
            let parts = and-parts (not (is_value c)) (with_or (written_name n) (λ m. are_urls (table.registered m)) false) both.1 in
            subst (λ (z : Bool). Goes p rule table meaning z end h s (render_expression occurrence c)) (sym both.0)
            (named (written_name n) refl parts.1 (not-is (is_value c) parts.0) v)
