-- What is executed with nothing written.
use Rattle.std.proofs.Common.{◌≡◌, ◌≢◌, ℕ, List, [], ◌∷◌, None, Result, Ok, Err, refl, sym, ◌∙◌, subst}
use Rattle.std.specs.declared.io.Error.{Error}
use Rattle.handlebars_base.specs.Answers.{gives, fails, IsRefusal}
use Rattle.handlebars_base.specs.Bytes.{Text}
use Rattle.handlebars_base.specs.Reasons.{Refusal, block_content_required, out_of_memory}
use Rattle.handlebars_base.specs.RenderRefusals.{plain_refusal, reason_in, refusal_of}
use Rattle.handlebars_base.specs.declared.error.render_error.RenderError.{RenderError}
use Rattle.handlebars_template.specs.Tree.{Tree, Body, no_body, body, Element, Decorator, decorator_args, decorator_name}
use Rattle.handlebars_helpers.specs.CallView.{CallView}
use Rattle.handlebars_helpers.specs.Decoration.{Action, DecoratorView}
use Rattle.handlebars_semantics.specs.Execute.{change}
use Rattle.handlebars_semantics.specs.Means.{do_action, do_actions, render_decorator, render_element, set_partial, shown_tag}
use Rattle.handlebars_semantics.specs.Questions.{IsAnswered, Question, Reply, view_of}
use Rattle.handlebars_semantics.specs.Runs.{Ended, Failed, Runs, done, failed, got, set, asked, did, did_over}
use Rattle.handlebars_semantics.specs.Occurrences.{TreeOccurrence, element_in}
use Rattle.handlebars_semantics.specs.State.{Setting, State, with_nearest, with_partial}
use Rattle.handlebars_semantics.specs.Steps.{One, Steps, Done, Do, Prog, ask, return, state, ◌>>=◌, ◌>>◌}
use Rattle.handlebars_semantics.specs.Values.{HasView}
use Rattle.std.specs.Result.{IsErrAnd}
use Rattle.handlebars_expand.specs.Boxed.{IsPropagated, answer_of, error_of}
use Rattle.handlebars_expand.specs.declared.boxed.BoxedError.{BoxedError}
use Rattle.handlebars_elements.specs.Silent.{Does, Evals, decorate_as, decorate_tag}
use Rattle.handlebars_write.specs.View.{Answered, RefinesProg, Holding, goes_on, is_over, moment_at}
use Rattle.handlebars_expand.proofs.Asked.{fails-ask, fails-bind}
use Rattle.handlebars_expand.proofs.Propagated.{propagated-refusal, fails-propagated}
use Rattle.handlebars_write.proofs.Refinement.{refines-no_value}

module _ (p : Setting) where
  -- ---- what is asked first

  -- what is executed with an answer
  pub does-asked : (q : Question) (a : Reply q) (f : Reply q → Prog (Unit {0})) (s next : State) (r : Answered)
      → IsAnswered p s q (gives a) → Does p (f a) s r next → Does p (ask q >>= f) s r next
  unfolding ◌>>=◌
  does-asked q a f s next (Ok u) has d = λ k ps o r. asked (gives a) has (d k ps o r)
  does-asked q a f s next (Err e) has d = λ other k. asked (gives a) has (d other k)

  -- an answer that is an error, propagated
  pub does-failed : (q : Question) (f : Reply q → Prog (Unit {0})) {s : State} (e d : RenderError) → IsPropagated e d
      → (reason_in e ≢ out_of_memory → IsAnswered p s q (fails (refusal_of e))) → Does p (ask q >>= f) s (Err d) s
  does-failed q f e d h is = fails-propagated p (ask q >>= f) e d h
      (λ other. fails-bind p (ask q) f (fails-ask p q (is other)))

  -- the same for an error that is known
  pub does-failed_as : (q : Question) (f : Reply q → Prog (Unit {0})) {s : State} (r : Refusal) (e : RenderError)
      → IsRefusal r e → IsAnswered p s q (fails r) → Does p (ask q >>= f) s (Err e) s
  does-failed_as q f {s = s} r e why is = λ other. fails-bind p (ask q) f
      (fails-ask p q (subst (λ (z : Refusal). IsAnswered p s q (fails z)) (sym (why other)) is))

  -- what reads the state
  does-get : (f : State → Prog (Unit {0})) (s next : State) (r : Answered) → Does p (f s) s r next → Does p (state >>= f) s r next
  unfolding ◌>>=◌
  does-get f s next (Ok u) d = λ k ps o r. got (d k ps o r)
  does-get f s next (Err e) d = λ other k. got (d other k)

  -- a tag, as its decorator sees it
  pub does-tag : (t : Decorator) (v : CallView) (w : DecoratorView) (s next : State) (r : Answered) → w ≡ shown_tag s.indent t v
      → HasView p s (decorator_name t) (decorator_args t) (gives v) → Does p (decorate_as w) s r next
      → Does p (render_decorator t) s r next
  does-tag t v w s next r same has d = does-asked (view_of (decorator_name t) (decorator_args t)) v (decorate_tag t)
      s next r has (does-get (λ z. decorate_as (shown_tag z.indent t v)) s next r
      (subst (λ (z : DecoratorView). Does p (decorate_as z) s r next) same d))

  -- an error that is out of memory, as `?` propagates it
  pub does-no_memory : (m : Prog (Unit {0})) (s next : State) (r : Result (Unit {0}) BoxedError)
      → IsErrAnd r (λ e. reason_in (error_of e) ≡ out_of_memory) → Does p m s (answer_of r) next
  does-no_memory m s next (Ok u) is = absurd is
  does-no_memory m s next (Err e) is = λ other. absurd (other is)

  -- an error that `?` propagates
  pub does-propagated : (m : Prog (Unit {0})) (s next : State) (r : Result (Unit {0}) BoxedError) (e : BoxedError)
      → IsErrAnd r (λ d. d ≡ e) → Does p m s (Err (error_of e)) s → Does p m s (answer_of r) next
  does-propagated m s next (Ok u) e is does = absurd is
  does-propagated m s next (Err d) e is does = subst (λ (z : BoxedError). Does p m s (Err (error_of z)) s) (sym is) does

  -- ---- actions

  pub does-change : (f : State → State) {s next : State} {u : Unit {0}} → next ≡ f s → Does p (change f) s (Ok u) next
  unfolding ◌>>=◌
  does-change f is = λ k ps o r. got (set (subst (λ (z : State). Runs p (k tt) z ps o) is r))

  pub does-partial : (name : Text) (b : Body) (t : Tree) {s next : State} {u : Unit {0}} → body t ≡ b
      → next ≡ with_nearest (with_partial name t) s → Does p (set_partial name b) s (Ok u) next
  does-partial name b t {s = s} {next = next} {u = u} same is =
      subst (λ (z : Body). Does p (set_partial name z) s (Ok u) next) same
      (does-change (with_nearest (with_partial name t)) {u = u} is)

  pub fails-partial : (name : Text) (b : Body) {s : State} (e : RenderError) → no_body ≡ b
      → IsRefusal (plain_refusal block_content_required) e → Does p (set_partial name b) s (Err e) s
  fails-partial name b {s = s} e same why = λ other k.
      subst (λ (z : Body). Runs p (set_partial name z k) s [] (Failed (refusal_of e))) same
      (subst (λ (z : Refusal). Runs p (set_partial name no_body k) s [] (Failed z)) (sym (why other)) failed)

  -- an action alone
  pub does-alone : (m : Prog (Unit {0})) (s next : State) (r : Answered) → Does p m s r next
      → Does p (m >> return tt) s r next
  unfolding ◌>>◌
  does-alone m s next (Ok u) d = λ k ps o r. d (λ v. k tt) ps o r
  does-alone m s next (Err e) d = λ other k. d other (λ v. k tt)

  -- What the actions that are left do from now on, all of them do from the first state on.
  abbrev pub ActionsLeft : Body → List Action → List Action → State → State → Type 0
  ActionsLeft b all rest s now = (k : Unit {0} → Steps) (ps : List _) (o : _)
      → Runs p (do_actions b rest k) now ps o → Runs p (do_actions b all k) s ps o

  pub actions-go : (b : Body) (all : List Action) {rest more : List Action} {action : Action} {s now next : State} {u : Unit {0}}
      → rest ≡ action ∷ more → ActionsLeft b all rest s now → Does p (do_action b action) now (Ok u) next
      → ActionsLeft b all more s next
  unfolding ◌>>◌
  actions-go b all {more = more} {now = now} is left d = λ k ps o r. left k ps o
      (subst (λ (ds : List Action). Runs p (do_actions b ds k) now ps o) (sym is) (d (λ v. do_actions b more k) ps o r))

  pub actions-over : (b : Body) (all : List Action) {rest more : List Action} {action : Action} {s now : State}
      (e : RenderError) → rest ≡ action ∷ more → ActionsLeft b all rest s now → Does p (do_action b action) now (Err e) now
      → Does p (do_actions b all) s (Err e) s
  unfolding ◌>>◌
  actions-over b all {more = more} {now = now} e is left d = λ other k. left k [] (Failed (refusal_of e))
      (subst (λ (ds : List Action). Runs p (do_actions b ds k) now [] (Failed (refusal_of e))) (sym is)
      (d other (λ v. do_actions b more k)))

  pub actions-end : (b : Body) (all : List Action) {rest : List Action} {s now : State} {u : Unit {0}} → rest ≡ []
      → ActionsLeft b all rest s now → Does p (do_actions b all) s (Ok u) now
  actions-end b all {now = now} is left = λ k ps o r. left k ps o
      (subst (λ (ds : List Action). Runs p (do_actions b ds k) now ps o) (sym is) r)

-- What is executed silently is executed, and the output holds what it held.
pub refines_prog-does : (p : Setting) (may : Error → Type 0) (m : Prog (Unit {0})) {s next : State} {h : Holding} (r : Answered)
    → Does p m s r next → RefinesProg p m may (moment_at s h) r (moment_at next h)
refines_prog-does p may m (Ok u) d = goes_on (λ k r last c. record {
  pieces = c.pieces;
  outcome = c.outcome;
  runs = d k c.pieces c.outcome c.runs;
  gains = c.gains;
  reports = c.reports;
})
refines_prog-does p may m (Err e) d = is_over (λ k. refines-no_value p may m k e d)

-- an element alone, without a position, which leaves its errors unchanged
pub evals-does : (p : Setting) (at : TreeOccurrence) (i : ℕ) (x : Element) (s next : State) (r : Answered)
    → Does p (render_element (element_in at i None) x) s r next
    → Evals p (Do (One (element_in at i None) x) Done) (λ q. q) s r next
evals-does p at i x s next (Ok u) d = did (d (λ v. Done) [] (Ended next) done) done
evals-does p at i x s next (Err e) d = λ other. (refusal_of e, did_over (d other (λ v. Done)) tt, refl)

-- an error propagated, perhaps in another state
pub evals-propagated : (p : Setting) (k : Steps) (seen : Refusal → Refusal) (s next last : State) (e d : RenderError)
    → IsPropagated e d → Evals p k seen s (Err e) next → Evals p k seen s (Err d) last
evals-propagated p k seen s next last e d h evals = λ other.
    let x = evals (λ memory. other (h.memory memory)) in (x.0, x.1, propagated-refusal e d h other ∙ x.2)
