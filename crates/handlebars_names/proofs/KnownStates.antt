-- What holds along a run where names are known: which partials can be found, and that nothing is wrong in any of them.
use Rattle.std.proofs.Common.{◌≡◌, ℕ, zero, suc, ◌+◌, ◌<◌, Bool, true, false, List, [], ◌∷◌, ◌++◌, refl, sym, ap, ◌∙◌, subst, Option, None, Some, arith, cond}
use Rattle.std.specs.List.{AllByRecursion, Contains}
use Rattle.std.specs.Str.{bytes_eq}
use Rattle.std.proofs.lemmas.Slice.Eq.{bytes_eq-Decides}
use Rattle.serde_json.specs.Data.{Data}
use Rattle.handlebars_base.specs.Bytes.{Text}
use Rattle.handlebars_base.specs.Optional.{with_or}
use Rattle.handlebars_base.specs.Reasons.{Reason}
use Rattle.handlebars_template.specs.Position.{Position}
use Rattle.handlebars_template.specs.Tree.{Tree, tree, tree_name, Element, decorator_expression, decorator_block, Decorator, decorator, decorator_name, decorator_args, decorator_body, Binding, Body, no_body, body}
use Rattle.handlebars_scope.specs.Resolve.{or_else}
use Rattle.handlebars_scope.specs.Scopes.{Frame, empty_frame, Base, at_path, at_value, frame_at}
use Rattle.handlebars_helpers.specs.Callee.{LocalHelper}
use Rattle.handlebars_helpers.specs.CallView.{CallView}
use Rattle.handlebars_helpers.specs.Decoration.{Action, sets_data, binds, unbinds, sets_partial}
use Rattle.handlebars_helpers.specs.Iterations.{Iteration, iteration_base, iteration_frame, with_frame}
use Rattle.handlebars_semantics.specs.Inclusion.{Partial}
use Rattle.handlebars_semantics.specs.Including.{partial_block_name}
use Rattle.handlebars_semantics.specs.Occurrences.{Occurrence}
use Rattle.handlebars_semantics.specs.Origins.{body_tree, element_body, element_decorator, inclusion_tag, Finds, SetsPartial}
use Rattle.handlebars_semantics.specs.Pieces.{Piece}
use Rattle.handlebars_semantics.specs.State.{CapturedBlocks, Setting, State, push_frame, outer_frames, nearest_as, with_nearest, partial_in, with_partial}
use Rattle.handlebars_semantics.specs.Steps.{Task, One, Whole}
use Rattle.handlebars_laws.proofs.Closed.{element_body-tag, IsAhead, after_actions}
use Rattle.handlebars_laws.proofs.Failures.{TagHas, Acts}
use Rattle.handlebars_laws.proofs.Law.{Law, IsSound}
use Rattle.handlebars_names.specs.Check.{a_partial, included_by_name, included_scope, block_scope, element_findings, tree_findings, AreFine}
use Rattle.handlebars_names.specs.Law.{IsStillPossible, PassNoPartials, AreFineUnder}
use Rattle.handlebars_names.specs.Names.{Names, AreNames}
use Rattle.handlebars_names.specs.Scopes.{Scope, after_decorator, after_element, after_first, after_tree, Entry, scope_at}
use Rattle.handlebars_names.proofs.Arguments.{viewed-name}
use Rattle.handlebars_names.proofs.Decorators.{KnownDecorator, decorator-known, decorator-whys, partial-fine, acts-are}
use Rattle.handlebars_names.proofs.Fine.{IsFineBody, body-fine, decorator-fine, inclusion-fine}
use Rattle.handlebars_names.proofs.Inclusions.{KnownTag, tag-known, not-itself, includes-partial, holds-block, Entered, entered}
use Rattle.handlebars_names.proofs.States.{IsSome, none-some, some-same, IsNoneOr, noneor-same, noneor-then, noneor-unnamed, Keeps, keeps-same, keeps-then, keeps-outer, keeps-with_partial, HoldsIn, HoldsAt, holds-next, holds-push, holds-without_block, holds-covered, holds-set}

-- ---- actions that no tag of an inline partial has

pub never-binds : {P : Type 0} (n m : Text) (l : LocalHelper) → binds n l ≡ sets_partial m → P
never-binds n m l is = cc

pub never-unbinds : {P : Type 0} (n m : Text) → unbinds n ≡ sets_partial m → P
never-unbinds n m is = cc

-- ---- lists of one action

pub one-more : (i : ℕ) → suc i ≡ i + 1
one-more i = omega arith

only-one : (x y : Action) → Contains (x ∷ []) y → y ≡ x
only-one x y (zero, lt, is) = sym is
only-one x y (suc i, lt, is) = absurd (no-later i lt)
  where
    no-later : (i : ℕ) → suc i < 1 → ⊥
    no-later i far = omega (arith, far)

name_of : Text → Action → Text
name_of other (sets_partial m) = m
name_of other (sets_data d) = other
name_of other (binds n l) = other
name_of other (unbinds n) = other

module _ (p : Setting) (names : Names) (are : AreNames p.parts names) (pass : PassNoPartials p.parts) (table : List Entry)
    (closed : AreFineUnder names table p.parts.template) where
  -- ---- states

  abbrev pub Still : Reason → Type 0
  Still r = IsStillPossible p.parts r

  abbrev pub IsFineFrame : Frame → Type 0
  IsFineFrame f = AreFineUnder names table f.partial

  -- Of the fields that matter, so that a change of any other preserves it: nothing is wrong in partials, and no name is bound
  -- to a local helper.
  pub record AreWell (fs : List Frame) (local : Text → Option LocalHelper) : Type 0 where
    pub frames : AllByRecursion IsFineFrame fs
    pub unbound : (n : Text) → local n ≡ None

  abbrev pub IsWell : State → Type 0
  IsWell s = AreWell s.blocks s.local

  -- A later state, in which the current name is this one, or none.
  pub record AreKept (n : Option Text) (fs : List Frame) (ks : CapturedBlocks) (gs : List Frame) (ls : CapturedBlocks) (c : Option Text)
      (local : Text → Option LocalHelper) : Type 0 where
    pub well : AreWell gs local
    pub frames : Keeps fs gs
    pub captured : ls ≡ ks
    pub current : IsNoneOr n c

  abbrev pub IsKept : Option Text → State → State → Type 0
  IsKept n s z = AreKept n s.blocks s.captured z.blocks z.captured z.current z.local

  abbrev pub IsNext : State → State → Type 0
  IsNext s z = IsKept s.current s z

  pub next-same : (s : State) → IsWell s → IsNext s s
  next-same s h =
      record { well = h; frames = keeps-same s.blocks; captured = refl; current = noneor-same s.current }

  kept-then : (n m : Option Text) (s z y : State) → IsKept n s z → IsKept m z y → IsNoneOr n m → IsKept n s y
  kept-then n m s z y a b c = record {
    well = b.well;
    frames = keeps-then s.blocks z.blocks y.blocks a.frames b.frames;
    captured = b.captured ∙ a.captured;
    current = noneor-then n m y.current c b.current;
  }

  pub next-then : (n : Option Text) (s z y : State) → IsKept n s z → IsNext z y → IsKept n s y
  next-then n s z y a b = kept-then n z.current s z y a b a.current

  pub next-holds : (n : Option Text) (h : Scope) (s z : State) → IsKept n s z → HoldsAt h s → HoldsAt h z
  next-holds n h s z is holds = holds-next h s.blocks z.blocks s.captured z.captured holds is.frames is.captured

  pub unnamed-next : (n : Option Text) (s z : State) → n ≡ None → IsKept n s z → IsNext s z
  unnamed-next n s z none is =
      record { well = is.well; frames = is.frames; captured = is.captured; current = noneor-unnamed n s.current z.current none is.current }

  pub outer-fine : (fs : List Frame) → AllByRecursion IsFineFrame fs → AllByRecursion IsFineFrame (outer_frames fs)
  outer-fine [] all = tt
  outer-fine (f ∷ fs) all = all.1

  pub nearest-fine : (change : Frame → Frame) → ((f : Frame) → IsFineFrame f → IsFineFrame (change f)) → (fs : List Frame)
      → AllByRecursion IsFineFrame fs → AllByRecursion IsFineFrame (nearest_as change fs)
  nearest-fine change to [] all = tt
  nearest-fine change to (f ∷ fs) all = (to f all.0, all.1)

  -- a scope frame is left
  pub pop-kept : (f : Frame) (n : Option Text) (fs : List Frame) (ks : CapturedBlocks) (gs : List Frame) (ls : CapturedBlocks)
      (c : Option Text) (local : Text → Option LocalHelper) → AreKept n (f ∷ fs) ks gs ls c local
      → AreKept n fs ks (outer_frames gs) ls c local
  pop-kept f n fs ks gs ls c local is = record {
    well = record { frames = outer-fine gs is.well.frames; unbound = is.well.unbound };
    frames = subst (λ (hs : List Frame). Keeps fs hs) (sym (keeps-outer f fs gs is.frames)) (keeps-same fs);
    captured = is.captured;
    current = is.current;
  }

  pub partial-found : (fs : List Frame) → AllByRecursion IsFineFrame fs → AreFineUnder names table (partial_in fs)
  partial-found [] all n t is = none-some is
  partial-found (f ∷ fs) all n t is = by (partial-found fs all.1 n t) (f.partial n) refl is
    where
      Fine : Type 0
      Fine = (h : Scope) → scope_at table n ≡ Some h → (at : Option Text) × AreFine table (tree_findings names table at t h)

      by : (partial_in fs n ≡ Some t → Fine) → (o : Option Tree) → f.partial n ≡ o → or_else o (partial_in fs n) ≡ Some t → Fine
      by rest (Some x) same e = all.0 n t (same ∙ e)
      by rest None same e = rest e

  -- ---- elements

  -- The run comes to an element with nothing wrong, in a scope.
  pub record AreComing (e : Element) (fs : List Frame) (ks : CapturedBlocks) (c : Option Text) (local : Text → Option LocalHelper) : Type 0
    where
      pub well : AreWell fs local
      pub scope : Scope
      pub at : Option Text
      pub name : Option Text
      pub position : Option Position
      pub holds : HoldsIn scope fs ks
      pub current : IsNoneOr name c
      pub fine : AreFine table (element_findings names table at name position e scope)

  abbrev pub Comes : Element → State → Type 0
  Comes e s = AreComing e s.blocks s.captured s.current s.local

  -- A tree with nothing wrong begins, in a scope.
  pub record BeginsTree (t : Tree) (fs : List Frame) (ks : CapturedBlocks) (local : Text → Option LocalHelper) : Type 0 where
    pub well : AreWell fs local
    pub scope : Scope
    pub at : Option Text
    pub holds : HoldsIn scope fs ks
    pub fine : AreFine table (tree_findings names table at t scope)

  abbrev pub BeginsAt : Task → State → Type 0
  BeginsAt (One occurrence e) s = Comes e s
  BeginsAt (Whole at t) s = BeginsTree t s.blocks s.captured s.local

  -- What is known after it is so, if nothing is wrong with it.
  abbrev pub ElementLeaves : Element → State → State → Type 0
  ElementLeaves e s z = (h : Scope) (at n : Option Text) (q : Option Position) → HoldsAt h s
      → AreFine table (element_findings names table at n q e h) → HoldsAt (after_element e h) z

  abbrev pub IsAfter : Task → State → State → Type 0
  IsAfter (One occurrence e) s z = IsNext s z × ElementLeaves e s z
  IsAfter (Whole at t) s z =
      IsKept (tree_name t) s z
      × ((h : Scope) (a : Option Text) → HoldsAt h s → AreFine table (tree_findings names table a t h) → HoldsAt (after_tree t h) z)

  abbrev pub IsAmid : Task → ℕ → State → State → Type 0
  IsAmid (One occurrence e) i s z = Unit {0}
  IsAmid (Whole at (tree n es positions)) i s z =
      IsKept n s z
      × ((h : Scope) (a : Option Text) → HoldsAt h s → AreFine table (tree_findings names table a (tree n es positions) h)
      → HoldsAt (after_first i es h) z)

  abbrev pub known_names : Law
  known_names = record {
    IsWell = λ s. IsWell s;
    IsNext = λ s n. IsNext s n;
    MayEnter = λ f. IsFineFrame f;
    ComesTo = λ occurrence e s. Comes e s;
    Fits = λ occurrence b s. (h : Scope) → HoldsAt h b → HoldsAt h s;
    Begins = λ t s. BeginsAt t s;
    IsPart = λ x m s t. BeginsAt t s;
    IsAfter = λ t s z. IsAfter t s z;
    IsAmid = λ x i s z. IsAmid x i s z;
    MayFail = λ r. Still r;
    MayWrite = λ ps. Unit {0};
    AreKnown = λ vs. Unit {0};
    AreIn = λ x n m vs. Unit {0};
  }

  pub known_names-sound : IsSound known_names
  known_names-sound = record {
    part_begins = λ h. h;
    none_written = tt;
    join_written = λ xs ys a b. tt;
    prefix_written = λ f h. tt;
    first_known = λ xs ys h. tt;
    later_known = λ xs ys h. tt;
    none_in = λ x n. tt;
    part_in = λ x t n m i s vs le is h. tt;
    join_in = λ x n m i xs ys le far a b. tt;
  }

  pub begins-well : (t : Task) (s : State) → BeginsAt t s → IsWell s
  begins-well (One occurrence e) s h = h.well
  begins-well (Whole at t) s h = h.well

  -- ---- frames

  frame_at-partial : (base : Base) (f : Frame) (n : Text) → (frame_at base f).partial n ≡ f.partial n
  frame_at-partial (at_path path) f n = refl
  frame_at-partial (at_value d) f n = refl

  pub with-fine : (base : Base) (b : Binding) (variables : Text → Option Data) → IsFineFrame (with_frame base b variables)
  with-fine base b variables n t is = none-some (sym (frame_at-partial base empty_frame n) ∙ is)

  pub iteration-fine : (path : Option (List Text)) (b : Binding) (t : Iteration) (f : Frame) → IsFineFrame f
      → IsFineFrame (iteration_frame path b t f)
  iteration-fine path b t f fine n x is = fine n x (sym (frame_at-partial (iteration_base path t) f n) ∙ is)

  pub iteration-more : (path : Option (List Text)) (b : Binding) (t : Iteration) (f : Frame) (n : Text) → IsSome (f.partial n)
      → IsSome ((iteration_frame path b t f).partial n)
  iteration-more path b t f n is = (is.0, frame_at-partial (iteration_base path t) f n ∙ is.1)

  -- what a name stands for as a partial is fine
  abbrev pub IsFinePartial : Text → Tree → Type 0
  IsFinePartial m x = (h : Scope) → scope_at table m ≡ Some h → (at : Option Text) × AreFine table (tree_findings names table at x h)

  set-fine : (m : Text) (x : Tree) → IsFinePartial m x → (f : Frame) → IsFineFrame f → IsFineFrame (with_partial m x f)
  set-fine m x fine f all n t is = by (bytes_eq m n) refl is
    where
      by : (b : Bool) → bytes_eq m n ≡ b → cond b (Some x) (f.partial n) ≡ Some t → IsFinePartial n t
      by true same e =
          subst (IsFinePartial n) (some-same x t e)
          (subst (λ (y : Text). IsFinePartial y x) ((bytes_eq-Decides m n).0 same) fine)
      by false same e = all n t e

  -- ---- decorators

  pub coming-decorator : (e : Element) (s : State) (t : Decorator) → Comes e s → element_decorator e ≡ Some t → KnownDecorator names t
  coming-decorator e s t comes is =
      decorator-known names t (decorator-whys names table comes.at comes.position t
      (decorator-fine names table comes.at comes.name comes.position e comes.scope t comes.fine is))

  -- the one action of a tag
  pub one-action : (e : Element) (s : State) (t : Decorator) (v : CallView) (comes : Comes e s) (is : element_decorator e ≡ Some t)
      → TagHas p t s v → (all : List Action) → Acts p t s v all → (action : Action) → Contains all action
      → action ≡ sets_partial (coming-decorator e s t comes is).name
  one-action e s t v comes is viewed all acts action has =
      let known = coming-decorator e s t comes is in
      only-one (sets_partial known.name) action (subst (λ (l : List Action). Contains l action)
      (acts-are p names are s comes.well.unbound t known v viewed all acts) has)

  pub partial-set : (e : Element) (t : Decorator) (before s : State) (v : CallView) (m : Text) (x : Tree) → Comes e before
      → element_decorator e ≡ Some t → TagHas p t before v → SetsPartial p t before v m x → IsWell s
      → IsNext s (with_nearest (with_partial m x) s)
  unfolding name_of
  partial-set e t before s v m x comes is viewed sets h =
      let known = coming-decorator e before t comes is in
      let acts : Acts p t before v sets.actions = record { kind = sets.kind; named = sets.named; answers = sets.answers } in
      let same : m ≡ known.name = ap (name_of m) (one-action e before t v comes is viewed sets.actions acts (sets_partial m) sets.sets) in
      let fine : IsFinePartial m x = λ g there. (
        comes.at,
        partial-fine names table comes.at comes.position t
            (decorator-fine names table comes.at comes.name comes.position e comes.scope t comes.fine is) m
            (known.named ∙ ap (λ (n : Text). Some n) (sym same)) x sets.is g there,
      ) in record {
        well = record {
          frames = nearest-fine (with_partial m x) (set-fine m x fine) s.blocks h.frames;
          unbound = h.unbound;
        };
        frames = keeps-with_partial m x s.blocks;
        captured = refl;
        current = noneor-same s.current;
      }

  -- What the tag sets is there afterwards.
  pub decorator-leaves : (e : Element) (t : Decorator) (s : State) (v : CallView) (all : List Action) → Comes e s
      → element_decorator e ≡ Some t → TagHas p t s v → Acts p t s v all
      → ElementLeaves e s (after_actions (decorator_body t) all s)
  decorator-leaves e t s v all comes is viewed acts h at n q holds fine =
      let known = coming-decorator e s t comes is in
      let all_is = acts-are p names are s comes.well.unbound t known v viewed all acts in
      subst (λ (l : List Action). HoldsAt (after_element e h) (after_actions (decorator_body t) l s)) (sym all_is)
      (subst (λ (b : Body). HoldsAt (after_element e h) (after_actions b (sets_partial known.name ∷ []) s)) (sym known.is)
      (subst (λ (g : Scope). HoldsAt g (with_nearest (with_partial known.name known.tree) s)) (sym (after-is e t known is h))
      (holds-set h known.name known.tree s.blocks s.captured holds)))
    where
      after-tag : (t : Decorator) (known : KnownDecorator names t) (h : Scope)
          → after_decorator t h ≡ record h { partials = h.partials ++ known.name ∷ [] }
      after-tag (decorator x xs b marks) known h =
          ap (λ (o : Option Text). with_or o (λ (m : Text). record h { partials = h.partials ++ m ∷ [] }) h) known.named

      after-is : (e : Element) (t : Decorator) (known : KnownDecorator names t) → element_decorator e ≡ Some t → (h : Scope)
          → after_element e h ≡ record h { partials = h.partials ++ known.name ∷ [] }
      after-is (decorator_expression d) t known same h =
          ap (λ (y : Decorator). after_decorator y h) (some-same d t same) ∙ after-tag t known h
      after-is (decorator_block d) t known same h =
          ap (λ (y : Decorator). after_decorator y h) (some-same d t same) ∙ after-tag t known h
      after-is e t known same h = cc

  -- ---- inclusions

  pub coming-tag : (e : Element) (s : State) (t : Decorator) (comes : Comes e s) → inclusion_tag e ≡ Some t
      → KnownTag names table comes.at comes.name comes.position t comes.scope
  coming-tag e s t comes is =
      tag-known names table comes.at comes.name comes.position t comes.scope
      (inclusion-fine names table comes.at comes.name comes.position e comes.scope t comes.fine is)

  module _ (e : Element) (before : State) (t : Decorator) (comes : Comes e before) (is_tag : inclusion_tag e ≡ Some t) where
    abbrev pub known : KnownTag names table comes.at comes.name comes.position t comes.scope
    known = coming-tag e before t comes is_tag

    -- what is known where its block begins
    abbrev pub ahead : Scope
    ahead = block_scope names.has_template comes.scope (included_by_name comes.name known.called)

    pub ahead-holds : (fs : List Frame) (ks : CapturedBlocks) → HoldsIn comes.scope fs ks → HoldsIn ahead fs ks
    ahead-holds fs ks holds = holds-block names comes.scope (included_by_name comes.name known.called) fs ks holds

    pub block-fine : (x : Tree) → element_body e ≡ Some x → IsFineBody names table comes.at x ahead
    block-fine x is =
        body-fine names table comes.at comes.position (decorator_body t) x ahead known.block (sym (element_body-tag e t is_tag) ∙ is)

    pub block-begins : (x : Tree) → element_body e ≡ Some x → (s : State) → HoldsAt ahead s → IsWell s
        → BeginsTree x s.blocks s.captured s.local
    block-begins x is s holds h =
        record { well = h; scope = ahead; at = comes.at; holds = holds; fine = (block-fine x is).1 }

    module _ (v : CallView) (viewed : TagHas p t before v) where
      same-name : v.name ≡ known.called
      same-name = viewed-name p before (decorator_name t) (decorator_args t) v known.called viewed known.written

      -- a partial, which isn't the template itself
      module _ (x : Partial) (finds : Finds p t before v x) where
        pub called-partial : included_by_name comes.name known.called ≡ a_partial known.called
        called-partial =
            includes-partial names comes.scope comes.name known.called
            (not-itself names comes.scope comes.name known.called (decorator_body t) known.whys)
            (ap (bytes_eq partial_block_name) (sym same-name) ∙ finds.no_captured)

        abbrev pub entry : Entered table known.called (included_scope (decorator_body t) ahead)
        entry = entered table (included_by_name comes.name known.called) (decorator_body t) ahead known.called called-partial known.included

        -- What the table has of its name holds where it begins.
        included-holds : (occurrence : Occurrence) (f : Frame) (s n : State) (k : Option (List Piece)) → HoldsAt comes.scope s → HoldsAt comes.scope n
            → IsAhead known_names occurrence (decorator_body t) k (push_frame f s) n → HoldsIn entry.scope n.blocks (k ∷ n.captured)
        included-holds occurrence f s n k holds later was =
            holds-covered entry.scope (included_scope (decorator_body t) ahead) n.blocks (k ∷ n.captured) entry.covered
            (by (decorator_body t) refl was)
          where
            by : (b : Body) → decorator_body t ≡ b → IsAhead known_names occurrence b k (push_frame f s) n
                → HoldsIn (included_scope b ahead) n.blocks (k ∷ n.captured)
            by no_body same a = holds-without_block ahead n.blocks n.captured (k ∷ n.captured) (ahead-holds n.blocks n.captured later)
            by (body y) same a =
                let fine = block-fine y (element_body-tag e t is_tag ∙ ap body_tree same) in
                let after = a.1.1 ahead comes.at (holds-push ahead f s.blocks s.captured (ahead-holds s.blocks s.captured holds)) fine.1 in
                record {
                  partials = after.partials;
                  block = λ one none. some-captured k a.0.0 a.0.1 none;
                  some = after.some;
                }
              where
                some-captured : (k : Option (List Piece)) (ps : List Piece) → k ≡ Some ps → k ≡ None → ⊥
                some-captured k ps some none = none-some (sym none ∙ some)

        pub included-begins : (occurrence : Occurrence) (y : Tree) → IsFinePartial v.name y → (f : Frame) (s n : State) (k : Option (List Piece))
            → HoldsAt comes.scope s → HoldsAt comes.scope n → IsAhead known_names occurrence (decorator_body t) k (push_frame f s) n
            → IsWell n → BeginsTree y n.blocks (k ∷ n.captured) n.local
        included-begins occurrence y fine f s n k holds later was h =
            let one = fine entry.scope (ap (scope_at table) same-name ∙ entry.there) in
            record { well = h; scope = entry.scope; at = one.0; holds = included-holds occurrence f s n k holds later was; fine = one.1 }
