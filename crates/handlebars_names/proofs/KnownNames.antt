-- Where names are known, runs fail only for what is still possible: a law of the walk through all that templates do.
use Rattle.std.proofs.Common.{◌≡◌, ℕ, Bool, true, false, if◌then◌else◌, List, [], ◌∷◌, refl, sym, ap, ◌∙◌, subst, None, Some, arith}
use Rattle.std.specs.List.{slice_get}
use Rattle.std.specs.Str.{bytes_eq}
use Rattle.handlebars_base.specs.Answers.{fails}
use Rattle.handlebars_base.specs.Bytes.{Text}
use Rattle.handlebars_base.specs.Path.{relative}
use Rattle.handlebars_base.specs.Reasons.{Reason, Refusal}
use Rattle.handlebars_template.specs.Tree.{Tree, tree_name, Element, Call, call_name, decorator_expression, decorator_block, Decorator, decorator_name, decorator_args, decorator_body, Body, no_body, body}
use Rattle.handlebars_scope.specs.Scopes.{Frame, empty_frame}
use Rattle.handlebars_helpers.specs.CallView.{CallView}
use Rattle.handlebars_helpers.specs.Choice.{the_steps}
use Rattle.handlebars_helpers.specs.Decoration.{binds, unbinds}
use Rattle.handlebars_helpers.specs.Escaping.{Escaping, for_html, for_plain, by_user, HasEscaped}
use Rattle.handlebars_helpers.specs.Iterations.{iteration_frame}
use Rattle.handlebars_helpers.specs.UserHelper.{Step, renders_body_in}
use Rattle.handlebars_semantics.specs.Inclusion.{is_current, newest, partial_for}
use Rattle.handlebars_semantics.specs.Including.{partial_block_name}
use Rattle.handlebars_semantics.specs.Occurrences.{first_tree}
use Rattle.handlebars_semantics.specs.Origins.{element_decorator, inclusion_tag, shown_call, Chooses}
use Rattle.handlebars_semantics.specs.Runs.{Outcome, Ended, Failed, WriteFailed, NoMemory}
use Rattle.handlebars_semantics.specs.State.{Setting, State, partial_in}
use Rattle.handlebars_semantics.specs.Steps.{Whole}
use Rattle.handlebars_laws.proofs.Closed.{MayCapture-any, Closed}
use Rattle.handlebars_laws.proofs.Failures.{TagHas, FailsItself, for_view, for_call, for_value, for_hook, for_choice, for_escape, for_decorator_view, for_decorator, for_actions, for_content, for_inclusion_view, for_current_value, for_itself, for_nothing, for_no_block, for_limit}
use Rattle.handlebars_laws.proofs.Inclusions.{local_or_other-registered}
use Rattle.handlebars_laws.proofs.Law.{EndsIn, Runs-obeys}
use Rattle.handlebars_laws.proofs.UserSteps.{IsAnsweredSo, HasChoice-user}
use Rattle.handlebars_laws.proofs.Walk.{todo-holds}
use Rattle.handlebars_names.specs.Check.{the_block, whys_of_included, block_scope, tree_findings, AreFine}
use Rattle.handlebars_names.specs.Law.{IsStillPossible, for_limit, for_escape, PassNoPartials, AreFineUnder, FailsOnlySo, KnownNamesFailOnlySo}
use Rattle.handlebars_names.specs.Names.{Names, AreNames}
use Rattle.handlebars_names.specs.Scopes.{Scope, first_scope, without_block, after_element, after_first, Entry}
use Rattle.handlebars_names.proofs.Arguments.{viewed-name, view-fails}
use Rattle.handlebars_names.proofs.Calls.{KnownCall, call-known, call_view-fails, call_value-fails, called-fails, chosen-fails, hook-fails}
use Rattle.handlebars_names.proofs.Decorators.{decorator_view-fails, decorator-fails, actions-fail}
use Rattle.handlebars_names.proofs.Failing.{served-fails, path_value-served}
use Rattle.handlebars_names.proofs.Fine.{after_first-next, after_first-last, element-fine, call-fine, call-whys, element_body-fine, element_inverse-fine}
use Rattle.handlebars_names.proofs.Inclusions.{not-itself, includes-block, own-not_there, never-nowhere, block-there}
use Rattle.handlebars_names.proofs.States.{none-some, noneor-same, not-current, Keeps, keeps-same, keeps-then, keeps-nearest, keeps-outer, HoldsAt, holds-push, holds-without_block, holds-covered}
use Rattle.handlebars_names.proofs.KnownStates.{never-binds, never-unbinds, one-more, IsFineFrame, next-same, next-then, next-holds, unnamed-next, outer-fine, nearest-fine, pop-kept, partial-found, Comes, known_names, known_names-sound, begins-well, with-fine, iteration-fine, iteration-more, coming-decorator, one-action, partial-set, decorator-leaves, coming-tag, ahead-holds, block-fine, block-begins, called-partial, included-begins}

module _ (p : Setting) (names : Names) (are : AreNames p.parts names) (pass : PassNoPartials p.parts) (table : List Entry)
    (closed : AreFineUnder names table p.parts.template) where
  abbrev Still : Reason → Type 0
  Still r = IsStillPossible p.parts r

  -- ---- failures

  coming-call : (e : Element) (s : State) (block : Bool) (c : Call) → Comes p names are pass table closed e s → shown_call e ≡ Some (block, c)
      → KnownCall names block c
  coming-call e s block c comes is =
      call-known names block c (call-whys names table comes.at comes.position block c comes.scope
      (call-fine names table comes.at comes.name comes.position e comes.scope block c comes.fine is))

  escape-fails : (k : Escaping) → p.parts.escape ≡ k → (t : Text) (r : Refusal)
      → HasEscaped k p.parts.user_escape t (fails r) → Still r.reason
  escape-fails for_html same t r is = cc
  escape-fails for_plain same t r is = cc
  escape-fails by_user same t r is = for_escape t r is

  block-known : (e : Element) (s : State) (t : Decorator) (v : CallView) (comes : Comes p names are pass table closed e s) (is_tag : inclusion_tag e ≡ Some t)
      → TagHas p t s v → bytes_eq partial_block_name v.name ≡ true → newest s.captured ≡ None → decorator_body t ≡ no_body → ⊥
  block-known e s t v comes is_tag viewed is none lacks =
      let tag = coming-tag p names are pass table closed e s t comes is_tag in
      let same = viewed-name p s (decorator_name t) (decorator_args t) v tag.called viewed tag.written in
      let block = includes-block names comes.scope comes.name tag.called
      (not-itself names comes.scope comes.name tag.called (decorator_body t) tag.whys) (ap (bytes_eq partial_block_name) (sym same) ∙ is) in
      let whys = ap (λ k. whys_of_included names.has_template comes.scope k (decorator_body t)) (sym block) ∙ tag.whys in
      by comes.scope.block refl whys
    where
      by : (b : Bool) → comes.scope.block ≡ b → whys_of_included names.has_template comes.scope the_block (decorator_body t) ≡ [] → ⊥
      by true has whys = comes.holds.block has none
      by false has whys = block-there names comes.scope (decorator_body t) whys has lacks

  element-fails : (e : Element) (s : State) (reason : Reason) → Comes p names are pass table closed e s → FailsItself p e s reason → Still reason
  element-fails e s _ comes (for_view {block = block} {c = c} r shown failed) =
      call_view-fails p names are s comes.well.unbound block c (coming-call e s block c comes shown) r failed
  element-fails e s _ comes (for_call {block = block} {c = c} {v = v} r shown viewed plain failed) =
      called-fails p names are s comes.well.unbound block c (coming-call e s block c comes shown) v viewed plain r failed
  element-fails e s _ comes (for_value {c = c} r shown lone failed) =
      call_value-fails p names are s comes.well.unbound false c (coming-call e s false c comes shown) r failed
  element-fails e s _ comes (for_hook {c = c} r shown lone failed) =
      hook-fails p names are s comes.well.unbound (call_name c) r failed
  element-fails e s _ comes (for_choice {block = block} {c = c} {v = v} {seen = seen} {k = k} r shown viewed calls failed) =
      chosen-fails p names are s comes.well.unbound block c (coming-call e s block c comes shown) v viewed k seen calls r failed
  element-fails e s _ comes (for_escape text r failed) = escape-fails p.parts.escape refl text r failed
  element-fails e s _ comes (for_decorator_view {t = t} r tag failed) =
      decorator_view-fails p names are s comes.well.unbound t (coming-decorator p names are pass table closed e s t comes tag) r failed
  element-fails e s _ comes (for_decorator {t = t} {v = v} r tag viewed failed) =
      decorator-fails p names are s comes.well.unbound t (coming-decorator p names are pass table closed e s t comes tag) v viewed r failed
  element-fails e s _ comes (for_actions {t = t} {v = v} {kind = kind} r tag viewed named failed) =
      actions-fail p names are s comes.well.unbound t (coming-decorator p names are pass table closed e s t comes tag) v viewed kind named r failed
  element-fails e s _ comes (for_content {t = t} tag viewed acts has lacks) =
      absurd (no-body _ (coming-decorator p names are pass table closed e s t comes tag).is lacks)
    where
      no-body : (b : Body) {x : Tree} → b ≡ body x → b ≡ no_body → ⊥
      no-body no_body is none = cc
      no-body (body y) is none = cc
  element-fails e s _ comes (for_inclusion_view {t = t} r tag failed) =
      let known = coming-tag p names are pass table closed e s t comes tag in
      view-fails p names are s comes.well.unbound (decorator_name t) (decorator_args t) known.arguments known.called known.written r failed
  element-fails e s _ comes (for_current_value r tag failed) =
      served-fails p.parts _ r failed (path_value-served p s (relative [] []))
  element-fails e s _ comes (for_itself {t = t} {v = v} tag viewed is) =
      let known = coming-tag p names are pass table closed e s t comes tag in
      let same = viewed-name p s (decorator_name t) (decorator_args t) v known.called viewed known.written in
      let other = not-current known.called comes.name s.current comes.current
      (not-itself names comes.scope comes.name known.called (decorator_body t) known.whys) in
      absurd (true-false _ is (ap (λ (m : Text). is_current m s.current) same ∙ other))
    where
      true-false : (b : Bool) → b ≡ true → b ≡ false → ⊥
      true-false true is other = cc
      true-false false is other = cc
  element-fails e s _ comes (for_nothing {t = t} {v = v} tag viewed finds) =
      let known = coming-tag p names are pass table closed e s t comes tag in
      let same = viewed-name p s (decorator_name t) (decorator_args t) v known.called viewed known.written in
      let partial = called-partial p names are pass table closed e s t comes tag v viewed _ finds in
      absurd (never-nowhere p names are comes.scope known.called s comes.holds (decorator_body t)
      (ap (λ k. whys_of_included names.has_template comes.scope k (decorator_body t)) (sym partial) ∙ known.whys)
      (ap (λ (m : Text). partial_for p.parts s m (decorator_body t)) (sym same) ∙ finds.finds))
  element-fails e s _ comes (for_no_block {t = t} {v = v} tag viewed is none lacks) =
      absurd (block-known e s t v comes tag viewed is none lacks)
  element-fails e s _ comes (for_limit tag) = for_limit

  -- ---- frames that user-defined helpers pass

  passed-fine : (block : Bool) (c : Call) (s : State) (v : CallView) (all : List Step) (i : ℕ) (f : Frame)
      → Chooses p block c s v (the_steps all) → slice_get all i ≡ Some (renders_body_in f) → IsFineFrame p names are pass table closed f
  passed-fine block c s v all i f chooses is n t there =
      let user : IsAnsweredSo p all = HasChoice-user p s all chooses.target _ chooses.chooses in
      none-some (sym (pass user.called user.question all user.answers i f is n) ∙ there)

  -- ---- all that templates do is as the law says

  plain-after : (e : Element) (h : Scope) → element_decorator e ≡ None → after_element e h ≡ h
  plain-after (decorator_expression t) h is = none-some (sym is)
  plain-after (decorator_block t) h is = none-some (sym is)
  plain-after e h is = refl

  known_names-closed : Closed p (known_names p names are pass table closed)
  known_names-closed = record {
    same_next = λ {s = s} h. next-same p names are pass table closed s h;
    then_next = λ {s = s} {n = n} {z = z} a b. next-then p names are pass table closed s.current s n z a b;
    next_well = λ is. is.well;
    next_fits = λ {s = s} {n = n} fits is h holds. next-holds p names are pass table closed s.current h s n is (fits h holds);
    line_next = λ {s = s} l h. next-same p names are pass table closed s h;
    data_next = λ {s = s} d h. next-same p names are pass table closed s h;
    local_next = λ {before = before} {e = e} {t = t} {v = v} {all = all} name l tagged acts has h.
        never-binds _ _ _ (one-action p names are pass table closed e before t v tagged.comes tagged.tag tagged.viewed all acts (binds name l) has);
    no_local_next = λ {before = before} {e = e} {t = t} {v = v} {all = all} name tagged acts has h.
        never-unbinds _ _ (one-action p names are pass table closed e before t v tagged.comes tagged.tag tagged.viewed all acts (unbinds name) has);
    iteration_next = λ {s = s} path b t h. record {
      well = record {
        frames = nearest-fine p names are pass table closed (iteration_frame path b t) (iteration-fine p names are pass table closed path b t) s.blocks h.frames;
        unbound = h.unbound;
      };
      frames = keeps-nearest (iteration_frame path b t) (iteration-more p names are pass table closed path b t) s.blocks;
      captured = refl;
      current = noneor-same s.current;
    };
    partial_next = λ {s = s} {before = before} {e = e} {t = t} {v = v} {name = name} {x = x} tagged sets h.
        partial-set p names are pass table closed e t before s v name x tagged.comes tagged.tag tagged.viewed sets h;
    block_well = λ may h. record { frames = (may, h.frames); unbound = h.unbound };
    block_fits = λ {s = s} {f = f} fits h holds. holds-push h f s.blocks s.captured (fits h holds);
    block_next = λ {s = s} {n = n} {f = f} is. pop-kept p names are pass table closed f s.current s.blocks s.captured n.blocks n.captured n.current n.local is;
    empty_enters = λ n t is. none-some is;
    with_enters = with-fine p names are pass table closed;
    inclusion_enters = λ d hs variables n t is. none-some is;
    passed_enters = λ {block = block} {c = c} {s = s} {v = v} {all = all} {f = f} i called chooses is.
        passed-fine block c s v all i f chooses is;
    raw_well = λ h. h;
    raw_comes = λ comes. comes;
    raw_next = λ is. is;
    own_next = λ {s = s} h over. record {
      well = over.0.well;
      frames = over.0.frames;
      captured = over.0.captured;
      current = noneor-same s.current;
    };
    newest_captured = λ h. MayCapture-any _;
    begun_well = λ h may. h;
    over_next = λ {s = s} {n = n} {z = z} {f = f} h first over. record {
      well = record { frames = outer-fine p names are pass table closed z.blocks over.0.well.frames; unbound = over.0.well.unbound };
      frames = subst (λ (hs : List Frame). Keeps s.blocks hs)
          (sym (keeps-outer f s.blocks z.blocks (keeps-then (f ∷ s.blocks) n.blocks z.blocks first.frames over.0.frames)))
          (keeps-same s.blocks);
      captured = refl;
      current = noneor-same s.current;
    };
    begins_well = λ {t = t} {s = s} h. begins-well p names are pass table closed t s h;
    begins_comes = λ h known. h;
    begins_fits = λ h is g holds. holds;
    begins_raw = λ h g holds. holds;
    element_part = λ {n = n} {es = es} {positions = positions} {e = e} {s = s} {z = z} i begins is amid.
        let one = element-fine names table begins.at n positions es begins.scope i e begins.fine is in record {
          well = amid.0.well;
          scope = after_first i es begins.scope;
          at = begins.at;
          name = n;
          position = one.0;
          holds = amid.1 begins.scope begins.at begins.holds begins.fine;
          current = amid.0.current;
          fine = one.1;
        };
    body_part = λ {e = e} {c = c} {t = t} {s = s} time comes call is fits h. record {
      well = h;
      scope = comes.scope;
      at = comes.at;
      holds = fits comes.scope comes.holds;
      fine = (element_body-fine names table comes.at comes.name comes.position e comes.scope c t comes.fine call is).1;
    };
    inverse_part = λ {e = e} {t = t} i comes is fits h. record {
      well = h;
      scope = comes.scope;
      at = comes.at;
      holds = fits comes.scope comes.holds;
      fine = (element_inverse-fine names table comes.at comes.name comes.position e comes.scope t comes.fine is).1;
    };
    block_part = λ {e = e} {t = t} {x = x} {before = before} {s = s} tagged alone is fits h.
        block-begins p names are pass table closed e before t tagged.comes tagged.tag x is s
        (ahead-holds p names are pass table closed e before t tagged.comes tagged.tag s.blocks s.captured (fits tagged.comes.scope tagged.comes.holds)) h;
    local_part = λ {occurrence = occurrence} {e = e} {t = t} {x = x} {before = before} {s = s} {n = n} {v = v} {k = k} f tagged finds
        well is fits fit was h.
        included-begins p names are pass table closed e before t tagged.comes tagged.tag v tagged.viewed _ finds occurrence x
        (partial-found p names are pass table closed s.blocks well.frames v.name x is) f s n k (fits tagged.comes.scope tagged.comes.holds)
        (fit tagged.comes.scope tagged.comes.holds) was h;
    registered_part = λ {occurrence = occurrence} {e = e} {t = t} {x = x} {before = before} {s = s} {n = n} {v = v} {k = k} f tagged finds
        fits fit was h.
        included-begins p names are pass table closed e before t tagged.comes tagged.tag v tagged.viewed _ finds occurrence x
        (closed v.name x (local_or_other-registered (partial_in before.blocks v.name) (p.parts.template v.name) (decorator_body t) x finds.finds))
        f s n k (fits tagged.comes.scope tagged.comes.holds) (fit tagged.comes.scope tagged.comes.holds) was h;
    own_block_part = λ {e = e} {t = t} {x = x} {before = before} {n = n} {v = v} {k = k} tagged finds is fits fit h.
        let comes = tagged.comes in
        let known = coming-tag p names are pass table closed e before t comes tagged.tag in
        let same = viewed-name p before (decorator_name t) (decorator_args t) v known.called tagged.viewed known.written in
        let partial = called-partial p names are pass table closed e before t comes tagged.tag v tagged.viewed _ finds in
        let apart = own-not_there p names are comes.scope known.called before comes.holds (decorator_body t) x
        (ap (λ (m : Text). partial_for p.parts before m (decorator_body t)) (sym same) ∙ finds.finds) in
        let scope = ap (block_scope names.has_template comes.scope) partial
        ∙ ap (λ (b : Bool). if b then comes.scope else without_block comes.scope) apart in
        let begins = block-fine p names are pass table closed e before t comes tagged.tag x is in
        record {
          well = h;
          scope = without_block comes.scope;
          at = comes.at;
          holds = holds-without_block comes.scope n.blocks n.captured (k ∷ n.captured) (fit comes.scope comes.holds);
          fine = subst (λ (g : Scope). AreFine table (tree_findings names table comes.at x g)) scope begins.1;
        };
    body_next = λ {e = e} {c = c} {t = t} {s = s} {z = z} comes call is over.
        unnamed-next p names are pass table closed (tree_name t) s z
        (element_body-fine names table comes.at comes.name comes.position e comes.scope c t comes.fine call is).0 over.0;
    inverse_next = λ {e = e} {t = t} {s = s} {z = z} comes is over.
        unnamed-next p names are pass table closed (tree_name t) s z
        (element_inverse-fine names table comes.at comes.name comes.position e comes.scope t comes.fine is).0 over.0;
    ahead_next = λ {e = e} {t = t} {x = x} {before = before} {s = s} {z = z} tagged is over.
        unnamed-next p names are pass table closed (tree_name x) s z (block-fine p names are pass table closed e before t tagged.comes tagged.tag x is).0 over.0;
    element_after = λ {e = e} {s = s} {z = z} comes plain is. (
      is,
      λ h at n q holds fine. subst (λ (g : Scope). HoldsAt g z) (sym (plain-after e h plain)) (next-holds p names are pass table closed s.current h s z is holds),
    );
    decorator_after = λ {e = e} {t = t} {s = s} {v = v} {all = all} tagged acts is.
        (is, decorator-leaves p names are pass table closed e t s v all tagged.comes tagged.tag tagged.viewed acts);
    amid_first = λ {n = n} {s = s} begins. (
      record { well = begins.well; frames = keeps-same s.blocks; captured = refl; current = noneor-same n },
      λ h a holds fine. holds,
    );
    amid_next = λ {n = n} {es = es} {positions = positions} {e = e} {s = s} {z = z} {y = y} i amid is over. (
      next-then p names are pass table closed n s z y amid.0 over.0,
      λ h a holds fine.
          let one = element-fine names table a n positions es h i e fine is in
          let there = over.1 (after_first i es h) a n one.0 (amid.1 h a holds fine) one.1 in
          subst (λ (j : ℕ). HoldsAt (after_first j es h) y) (one-more i)
          (subst (λ (g : Scope). HoldsAt g y) (sym (after_first-next i es e h is)) there),
    );
    amid_last = λ {es = es} {z = z} i amid is. (
      amid.0,
      λ h a holds fine. subst (λ (g : Scope). HoldsAt g z) (after_first-last i es h is) (amid.1 h a holds fine),
    );
    fails = λ {e = e} {s = s} {r = r} comes failed. element-fails e s r comes failed;
    text_written = λ comes fits h. tt;
    value_written = λ t called has fits is shows h. tt;
    raw_written = λ called has fits is h. tt;
    boolean_text_written = λ b called says. tt;
    step_written = λ i t called answers is. tt;
  }

-- ---- runs

pub known_names_fail_only_so : (p : Setting) → KnownNamesFailOnlySo p
known_names_fail_only_so p names are pass table closed at t h covered fine recursive ps o r =
    let law = known_names p names are pass table closed in
    by o (Runs-obeys p law (known_names-sound p names are pass table closed)
    (todo-holds p law (known_names-closed p names are pass table closed)) r (Whole first_tree t) (λ j z. Unit {0}) 0 (
      0,
      omega arith,
      record {
        well = record { frames = ((λ n x is. none-some is), tt); unbound = λ n. refl };
        scope = h;
        at = at;
        holds = holds-covered h first_scope (empty_frame ∷ []) [] covered (record { partials = tt; block = λ is. cc; some = tt });
        fine = fine;
      },
      λ z is. tt,
    ) tt).ends
  where
    by : (o : Outcome) → EndsIn (known_names p names are pass table closed) (λ z. Unit {0}) o → FailsOnlySo p.parts o
    by (Ended s) is = tt
    by (Failed r) is = is
    by (WriteFailed f) is = tt
    by NoMemory is = tt
