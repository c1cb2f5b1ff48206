-- What inclusions execute.
use Rattle.std.proofs.Common.{◌≡◌, ◌≢◌, ◌<◌, ◌≤◌, ◌+◌, ℕ, Bool, true, false, List, [], ◌∷◌, Option, Some, None, Result, Ok, Err, refl, sym, ap, ◌∙◌, subst, inl, inr, arith}
use Rattle.std.specs.Str.{bytes_eq}
use Rattle.std.specs.declared.io.Error.{Error}
use Rattle.serde_json.specs.Data.{Data}
use Rattle.handlebars_base.specs.Answers.{IsRefusal, gives}
use Rattle.handlebars_base.specs.Bytes.{Text}
use Rattle.handlebars_base.specs.Reasons.{Refusal, cannot_include_self, inclusion_limit, out_of_memory, partial_block_not_found, partial_not_found}
use Rattle.handlebars_base.specs.RenderRefusals.{plain_refusal, reason_in, refusal_of}
use Rattle.handlebars_base.specs.declared.error.render_error.RenderError.{RenderError}
use Rattle.handlebars_template.specs.Tree.{Tree, tree, tree_name, Body, body, no_body, Decorator, decorator_args, decorator_marks, decorator_name}
use Rattle.handlebars_helpers.specs.CallView.{CallView}
use Rattle.handlebars_helpers.specs.Decoration.{DecoratorView}
use Rattle.handlebars_semantics.specs.Execute.{change}
use Rattle.handlebars_semantics.specs.Inclusion.{Partial, partial_for, local_or_other, registered_or_own, is_current, newest, own_block, hash_data, inclusion_frame, begin_inclusion, named_as_before, end_inclusion}
use Rattle.handlebars_semantics.specs.Including.{base_value, enter_frame, include, include_found, include_named, include_other, include_partial, include_tree, partial_block_name, render_ahead, render_own_block, write_captured}
use Rattle.handlebars_semantics.specs.Means.{include_tag, line_at, line_out, on_line, render_elements, render_partial, shown_tag, todo}
use Rattle.handlebars_semantics.specs.Pieces.{Piece}
use Rattle.handlebars_semantics.specs.Emitted.{Emitted}
use Rattle.handlebars_semantics.specs.Questions.{view_of}
use Rattle.handlebars_semantics.specs.Runs.{Outcome, Failed, IsOverInMemory, Runs, got, set, did, did_over, did_capture, did_capture_over, looked, below_limit, at_limit, stop}
use Rattle.handlebars_semantics.specs.Occurrences.{as_part, Occurrence, TreeOccurrence, body_at}
use Rattle.handlebars_semantics.specs.State.{CapturedBlocks, Setting, State, push_frame, nearest_variables, partial_in}
use Rattle.handlebars_semantics.specs.Steps.{Whole, Steps, Done, Do, CheckLimit, Get, Set, Prog, return, ask, state, perform, capture, find, check_limit, ◌>>=◌, ◌>>◌}
use Rattle.handlebars_semantics.specs.Values.{HasView}
use Rattle.handlebars_expand.specs.PiecesView.{ahead_plain, ahead_emitted, captured_emitted, plain_text, texts}
use Rattle.handlebars_expand.specs.declared.ahead.Ahead.{Ahead}
use Rattle.handlebars_expand.specs.declared.ahead.Captured.{Captured}
use Rattle.handlebars_expand.specs.View.{AreCaptured, GivesValue, ValueFails, with_current}
use Rattle.handlebars_write.specs.View.{moment_at, Answered, RefinesAhead, RefinesProg, RefinesSteps, Gains, Holding, Moment, MatchesOutcome, write_error, goes_on, has_captured, has_none, holding_ahead, is_over, no_memory, refusal, emitted_if}
use Rattle.handlebars_write.specs.Writes.{WritesAsIs}
use Rattle.handlebars_expand.proofs.Asked.{gives-ask}
use Rattle.handlebars_write.proofs.Refinement.{runs_to_end, gains-none, memory_or, refines-run, refines_prog-change, refines_prog-changed, refines_prog-elsewhere, refines_prog-get, refines_prog-line, refines_prog-no_memory, refines_prog-no_value, refines_prog-over, refines_prog-pieces, refines_prog-fail, refines_prog-then, refines_prog-value}

-- a state, with what holds within an inclusion
abbrev pub state_in_inclusion : Option Text → CapturedBlocks → ℕ → State → State
state_in_inclusion i ks n s = record s { indent = i; captured = ks; inclusions = n }

-- and what is captured for it
pub captured-more : (i j : Option Text) (k : Option (List Piece)) (ks : CapturedBlocks) (m n : ℕ) (s : State) → n ≡ m + 1
    → state_in_inclusion i (k ∷ ks) n s ≡ begin_inclusion i k (state_in_inclusion j ks m s)
captured-more i j k ks m n s more = ap (λ z. state_in_inclusion i (k ∷ ks) z s) more

-- what is rendered ahead, before anything is
abbrev pub nothing_ahead : Bool → Holding
nothing_ahead asks = record { text = []; write_errors = 0; emitted = emitted_if asks [] }

pub begins-empty : (asks : Bool) (fresh : Ahead) → ahead_plain fresh ≡ [] → ahead_emitted fresh ≡ []
    → holding_ahead asks fresh ≡ nothing_ahead asks
begins-empty false fresh plain emitted = ap (λ (t : Text). record { text = t; write_errors = 0; emitted = None }) plain
begins-empty true fresh plain emitted = ap (λ (ts : List Emitted). record { text = texts ts; write_errors = 0; emitted = Some ts }) emitted

-- what is captured of it
are_captured-ahead : (asks : Bool) (a : Ahead) (k : Captured) (ps : List Piece) → plain_text k ≡ ahead_plain a
    → captured_emitted k ≡ ahead_emitted a → Gains (nothing_ahead asks) ps (holding_ahead asks a) → AreCaptured asks (Some ps) (Some k)
are_captured-ahead false a k ps plain emitted gains = ap (λ (t : Text). Some t) (sym gains.text ∙ sym plain)
are_captured-ahead true a k ps plain emitted gains = sym gains.emitted ∙ ap (λ (ts : List Emitted). Some ts) (sym emitted)

-- nothing is captured
pub captured-no : (asks : Bool) → AreCaptured asks None None
captured-no false = refl
captured-no true = refl

module _ (p : Setting) where
  -- ---- a tree makes its own name the current one, whatever was current before

  set-anywhere : {s other next : State} {k : Steps} {ps : List Piece} {o : Outcome} → Runs p (Set next k) s ps o
      → Runs p (Set next k) other ps o
  set-anywhere (set r) = set r
  set-anywhere stop = stop

  named-anyhow : {c : Option Text} (n : Option Text) (k : Steps) {s : State} {ps : List Piece} {o : Outcome}
      → Runs p (Get (λ z. Set (with_current n z) k)) (with_current c s) ps o → Runs p (Get (λ z. Set (with_current n z) k)) s ps o
  named-anyhow n k (got r) = got (set-anywhere r)
  named-anyhow n k stop = stop

  whole-renamed : {c : Option Text} {s : State} {ps : List Piece} {o : Outcome} (occurrence : TreeOccurrence) (t : Tree)
      → Runs p (todo (Whole occurrence t)) (with_current c s) ps o → Runs p (todo (Whole occurrence t)) s ps o
  unfolding ◌>>=◌ ◌>>◌
  whole-renamed occurrence (tree n es positions) r = named-anyhow n (render_elements occurrence 0 es positions (λ u. Done)) r

  do-renamed : {c : Option Text} {s : State} {k : Steps} {ps : List Piece} {o : Outcome} (occurrence : TreeOccurrence) (t : Tree)
      → Runs p (Do (Whole occurrence t) k) (with_current c s) ps o → Runs p (Do (Whole occurrence t) k) s ps o
  do-renamed occurrence t (did a b) = did (whole-renamed occurrence t a) b
  do-renamed occurrence t (did_over a over) = did_over (whole-renamed occurrence t a) over
  do-renamed occurrence t stop = stop

  capture-renamed : {c : Option Text} {s : State} {k : List Piece → Steps} {ps : List Piece} {o : Outcome} (occurrence : TreeOccurrence)
      (t : Tree) → Runs p (capture (perform (Whole occurrence t)) k) (with_current c s) ps o
      → Runs p (capture (perform (Whole occurrence t)) k) s ps o
  capture-renamed occurrence t (did_capture a b) = did_capture (do-renamed occurrence t a) b
  capture-renamed occurrence t (did_capture_over a over) = did_capture_over (do-renamed occurrence t a) over
  capture-renamed occurrence t stop = stop

module _ (p : Setting) (may : Error → Type 0) where
  renamed : {c : Option Text} {s : State} {h : Holding} {after : Moment} {r : Answered} (occurrence : TreeOccurrence) (t : Tree)
      → RefinesProg p (perform (Whole occurrence t)) may (moment_at (with_current c s) h) r after
      → RefinesProg p (perform (Whole occurrence t)) may (moment_at s h) r after
  renamed occurrence t (goes_on c) = goes_on (λ k r last d. let x = c k r last d in
      record { pieces = x.pieces; outcome = x.outcome; runs = do-renamed p occurrence t x.runs; gains = x.gains; reports = x.reports })
  renamed occurrence t (is_over c) = is_over (λ k. let x = c k in
      record { pieces = x.pieces; outcome = x.outcome; runs = do-renamed p occurrence t x.runs; gains = x.gains; reports = x.reports })

  ahead-renamed : (asks : Bool) {c : Option Text} {s : State} {h : Holding} {after : Moment} {r : Result Captured RenderError} (occurrence : TreeOccurrence) (t : Tree)
      → RefinesAhead asks p (capture (perform (Whole occurrence t))) may (moment_at (with_current c s) h) r after
      → RefinesAhead asks p (capture (perform (Whole occurrence t))) may (moment_at s h) r after
  ahead-renamed asks occurrence t (has_captured ps is c) = has_captured ps is (λ k r last d. let x = c k r last d in
      record { pieces = x.pieces; outcome = x.outcome; runs = capture-renamed p occurrence t x.runs; gains = x.gains; reports = x.reports })
  ahead-renamed asks occurrence t (has_none c) = has_none (λ k. let x = c k in
      record { pieces = x.pieces; outcome = x.outcome; runs = capture-renamed p occurrence t x.runs; gains = x.gains; reports = x.reports })

  -- ---- what is found, and the limit

  refines_prog-find : (name : Text) (b : Body) (f : Partial → Prog (Unit {0})) {s : State} {h : Holding} {after : Moment} {r : Answered}
      → RefinesProg p (f (partial_for p.parts s name b)) may (moment_at s h) r after
      → RefinesProg p (find name b >>= f) may (moment_at s h) r after
  unfolding ◌>>=◌
  refines_prog-find name b f (goes_on c) = goes_on (λ k r last d. let x = c k r last d in
      record { pieces = x.pieces; outcome = x.outcome; runs = looked x.runs; gains = x.gains; reports = x.reports })
  refines_prog-find name b f (is_over c) = is_over (λ k. let x = c k in
      record { pieces = x.pieces; outcome = x.outcome; runs = looked x.runs; gains = x.gains; reports = x.reports })

  refines_prog-check_limit : (m : Prog (Unit {0})) {s : State} {h : Holding} {after : Moment} {r : Answered}
      → s.inclusions < p.parts.limit → RefinesProg p m may (moment_at s h) r after → RefinesProg p (check_limit >> m) may (moment_at s h) r after
  unfolding ◌>>◌
  refines_prog-check_limit m lt (goes_on c) = goes_on (λ k r last d. let x = c k r last d in
      record { pieces = x.pieces; outcome = x.outcome; runs = below_limit lt x.runs; gains = x.gains; reports = x.reports })
  refines_prog-check_limit m lt (is_over c) = is_over (λ k. let x = c k in
      record { pieces = x.pieces; outcome = x.outcome; runs = below_limit lt x.runs; gains = x.gains; reports = x.reports })

  refines_prog-limit_reached : (m : Prog (Unit {0})) {s next : State} {h : Holding} (e : RenderError) → p.parts.limit ≤ s.inclusions
      → IsRefusal (plain_refusal (inclusion_limit p.parts.limit)) e
      → RefinesProg p (check_limit >> m) may (moment_at s h) (Err e) (moment_at next h)
  unfolding ◌>>◌
  refines_prog-limit_reached m {s = s} {h = h} e le is = elim (memory_or (reason_in e)) [
    | inl memory ↦ refines_prog-no_memory p may e memory
    | inr other ↦ is_over (λ k. record {
      pieces = [];
      outcome = Failed (refusal_of e);
      runs = subst (λ (z : Refusal). Runs p (CheckLimit (m k)) s [] (Failed z)) (sym (is other)) (at_limit le);
      gains = gains-none h;
      reports = refusal refl;
    })
  ]

  -- ---- what is rendered ahead

  -- What was rendered ahead began with nothing, and the output is unchanged.
  pub refines_ahead-captured : (asks : Bool) {m : Prog (Unit {0})} (a : Ahead) (k : Captured) {s next : State} {h begins : Holding} {u : Unit {0}}
      → begins ≡ nothing_ahead asks → plain_text k ≡ ahead_plain a → captured_emitted k ≡ ahead_emitted a
      → RefinesProg p m may (moment_at s begins) (Ok u) (moment_at next (holding_ahead asks a))
      → RefinesAhead asks p (capture m) may (moment_at s h) (Ok k) (moment_at next h)
  refines_ahead-captured asks {m = m} a k {s = s} {next = next} {u = u} empty plain emitted c =
      let e = runs_to_end p may (refines-run p may (subst (λ (z : Holding). RefinesProg p m may (moment_at s z) (Ok u) (moment_at next (holding_ahead asks a))) empty c)) in
      has_captured e.pieces (are_captured-ahead asks a k e.pieces plain emitted e.gains) (λ f r last x.
      record { pieces = x.pieces; outcome = x.outcome; runs = did_capture e.runs x.runs; gains = x.gains; reports = x.reports })

  -- a text that is rendered ahead counts no write errors
  MatchesOutcome-ahead : {o : Outcome} {e : RenderError} {next : State} {n : ℕ} → MatchesOutcome may 0 0 o (Err e) next
      → MatchesOutcome may n n o (Err e) next
  MatchesOutcome-ahead (refusal same) = refusal refl
  MatchesOutcome-ahead (write_error cause f given counted reports) = absurd (omega (arith, counted (omega arith)))
  MatchesOutcome-ahead (no_memory same is) = no_memory refl is

  IsOverInMemory-err : {o : Outcome} {e : RenderError} {next : State} → MatchesOutcome may 0 0 o (Err e) next → IsOverInMemory o
  IsOverInMemory-err (refusal same) = tt
  IsOverInMemory-err (write_error cause f given counted reports) = absurd (omega (arith, counted (omega arith)))
  IsOverInMemory-err (no_memory same is) = tt

  pub refines_ahead-over : (asks : Bool) {m : Prog (Unit {0})} (a : Ahead) {e : RenderError} {s next : State} {h begins : Holding}
      → begins ≡ nothing_ahead asks
      → RefinesProg p m may (moment_at s begins) (Err e) (moment_at next (holding_ahead asks a))
      → RefinesAhead asks p (capture m) may (moment_at s h) (Err e) (moment_at next h)
  refines_ahead-over asks {m = m} a {e = e} {s = s} {next = next} {h = h} empty c =
      let x = refines-run p may (subst (λ (z : Holding). RefinesProg p m may (moment_at s z) (Err e) (moment_at next (holding_ahead asks a))) empty c) in
      has_none (λ f. record {
        pieces = [];
        outcome = x.outcome;
        runs = did_capture_over x.runs (IsOverInMemory-err x.reports);
        gains = gains-none h;
        reports = MatchesOutcome-ahead x.reports;
      })

  -- what comes after it
  ahead-then : (asks : Bool) (m : Prog (List Piece)) (f : List Piece → Prog (Unit {0})) {captured : Captured} {before mid : Moment} {after : Moment} {r : Answered}
      → RefinesAhead asks p m may before (Ok captured) mid
      → ((ps : List Piece) → AreCaptured asks (Some ps) (Some captured) → RefinesProg p (f ps) may mid r after)
      → RefinesProg p (m >>= f) may before r after
  unfolding ◌>>=◌
  ahead-then asks m f (has_captured ps is c) d = later ps c (d ps is)
    where
      later : {before mid after : Moment} {r : Answered} (ps : List Piece)
          → ((next : List Piece → Steps) (r : Answered) (last : Moment)
          → RefinesSteps p (next ps) may mid r last → RefinesSteps p (m next) may before r last)
          → RefinesProg p (f ps) may mid r after → RefinesProg p (m >>= f) may before r after
      later ps c (goes_on x) = goes_on (λ k r last e. c (λ qs. f qs k) r last (x k r last e))
      later ps c (is_over {e = e} {after = after} x) = is_over (λ k. c (λ qs. f qs k) (Err e) after (x k))

  ahead-over : (asks : Bool) (m : Prog (List Piece)) (f : List Piece → Prog (Unit {0})) {e : RenderError} {before after : Moment}
      → RefinesAhead asks p m may before (Err e) after → RefinesProg p (m >>= f) may before (Err e) after
  unfolding ◌>>=◌
  ahead-over asks m f (has_none c) = is_over (λ k. c (λ qs. f qs k))

  -- ---- programs that end with a change of the state

  then_change : (m : Prog (Unit {0})) (f : State → State) {before : Moment} {next last : State} {new : Holding} {r : Answered}
      → last ≡ f next → RefinesProg p m may before r (moment_at next new)
      → RefinesProg p (m >> change f) may before r (moment_at last new)
  then_change m f is (goes_on {u = u} c) = refines_prog-then p may m (change f) (goes_on {u = u} c) (refines_prog-change p may f is)
  then_change m f is (is_over c) = refines_prog-over p may m (change f) (refines_prog-elsewhere p may (is_over c))

  -- the tag of an inclusion, once its view is known
  pub tag-includes : (occurrence : Occurrence) (t : Decorator) (v : CallView) (w : DecoratorView) {s mid next last : State} {h new : Holding} {r : Answered}
      → HasView p s (decorator_name t) (decorator_args t) (gives v) → w ≡ shown_tag s.indent t v
      → mid ≡ record s { line = line_at (decorator_marks t) s.line } → last ≡ record next { line = line_out s.line next.line }
      → RefinesProg p (include occurrence w) may (moment_at mid h) r (moment_at next new)
      → RefinesProg p (render_partial occurrence t) may (moment_at s h) r (moment_at last new)
  tag-includes occurrence t v w {s = s} {mid = mid} {next = next} {last = last} {h = h} {new = new} {r = r} has same starts ends x =
      refines_prog-value p may (ask (view_of (decorator_name t) (decorator_args t))) (λ y. on_line (line_at (decorator_marks t)) (include_tag occurrence t y))
      (gives-ask p (view_of (decorator_name t) (decorator_args t)) v has)
      (refines_prog-line p may (line_at (decorator_marks t)) (include_tag occurrence t v) {next = next} starts ends
      (refines_prog-get p may (λ z. include occurrence (shown_tag z.indent t v))
      (subst (λ (z : DecoratorView). RefinesProg p (include occurrence z) may (moment_at mid h) r (moment_at next new)) (same ∙ ap (λ (z : State). shown_tag z.indent t v) (sym starts)) x)))

  -- ---- an inclusion

  module _ (v : DecoratorView) where
    -- the frame of an inclusion in a state
    abbrev pub in_frame_of : Data → State → State
    in_frame_of d s = push_frame (inclusion_frame d (hash_data v.call.hash) (nearest_variables s.blocks)) s

    enters : (d : Data) {s : State} {h : Holding} {u : Unit {0}} → GivesValue p (base_value v.call.params) s d
        → RefinesProg p (enter_frame v) may (moment_at s h) (Ok u) (moment_at (in_frame_of d s) h)
    enters d {u = u} valued = refines_prog-value p may (base_value v.call.params) (λ e. change (in_frame_of e)) valued
        (refines_prog-change p may (in_frame_of d) {u = u} refl)

    -- what is left of an inclusion once it is known what is captured
    abbrev pub rest : TreeOccurrence → Tree → State → Option (List Piece) → Prog (Unit {0})
    rest occurrence t s k = change (begin_inclusion v.indent k) >> (perform (Whole occurrence t) >> change (end_inclusion s))

    rest-refines : (occurrence : TreeOccurrence) (t : Tree) (s : State) (k : Option (List Piece)) {now mid next last : State} {h new : Holding} {r : Answered}
        → mid ≡ begin_inclusion v.indent k now → last ≡ end_inclusion s next
        → RefinesProg p (perform (Whole occurrence t)) may (moment_at mid h) r (moment_at next new)
        → RefinesProg p (rest occurrence t s k) may (moment_at now h) r (moment_at last new)
    rest-refines occurrence t s k starts ends c =
        refines_prog-changed p may (begin_inclusion v.indent k) (perform (Whole occurrence t) >> change (end_inclusion s)) starts
        (then_change (perform (Whole occurrence t)) (end_inclusion s) ends c)

    -- after the check of the limit
    abbrev pub inside : TreeOccurrence → Tree → Prog (Option (List Piece)) → State → Prog (Unit {0})
    inside occurrence t ahead s = enter_frame v >> (ahead >>= (λ k. rest occurrence t s k))

    -- with nothing rendered ahead
    pub inclusion-plain : (occurrence : TreeOccurrence) (t : Tree) (d : Data) {c : Option Text} {s mid next last : State} {h new : Holding} {r : Answered}
        → s.inclusions < p.parts.limit → GivesValue p (base_value v.call.params) s d
        → mid ≡ with_current c (begin_inclusion v.indent None (in_frame_of d s)) → last ≡ end_inclusion s next
        → RefinesProg p (perform (Whole occurrence t)) may (moment_at mid h) r (moment_at next new)
        → RefinesProg p (include_tree v occurrence t (return None)) may (moment_at s h) r (moment_at last new)
    unfolding ◌>>=◌
    inclusion-plain occurrence t d {c = c} {s = s} {next = next} {h = h} {new = new} {r = r} lt valued starts ends x =
        refines_prog-check_limit (state >>= inside occurrence t (return None)) lt
        (refines_prog-get p may (inside occurrence t (return None))
        (refines_prog-then p may (enter_frame v) (rest occurrence t s None) (enters d {u = tt} valued)
        (rest-refines occurrence t s None refl ends (renamed occurrence t
        (subst (λ (z : State). RefinesProg p (perform (Whole occurrence t)) may (moment_at z h) r (moment_at next new)) starts x)))))

    -- with a block rendered ahead
    pub inclusion-ahead : (asks : Bool) (occurrence : Occurrence) (there : TreeOccurrence) (t b : Tree) (d : Data) {captured : Captured} {c : Option Text}
        {s mid later last : State} (began next : List Piece → State) {h between new : Holding} {r : Answered}
        → s.inclusions < p.parts.limit → GivesValue p (base_value v.call.params) s d
        → mid ≡ with_current c (in_frame_of d s)
        → RefinesAhead asks p (capture (perform (Whole (body_at occurrence (as_part 0)) b))) may (moment_at mid h) (Ok captured) (moment_at later between)
        → ((ps : List Piece) → began ps ≡ begin_inclusion v.indent (Some ps) later) → ((ps : List Piece) → last ≡ end_inclusion s (next ps))
        → ((ps : List Piece) → AreCaptured asks (Some ps) (Some captured)
        → RefinesProg p (perform (Whole there t)) may (moment_at (began ps) between) r (moment_at (next ps) new))
        → RefinesProg p (include_tree v there t (render_ahead occurrence (body b))) may (moment_at s h) r (moment_at last new)
    unfolding ◌>>=◌
    inclusion-ahead asks occurrence there t b d {captured = captured} {c = c} {s = s} {later = later} began next {h = h} {between = between} lt valued starts ahead counts ends x =
        let m : Prog (List Piece) = capture (perform (Whole (body_at occurrence (as_part 0)) b)) in
        let f : List Piece → Prog (Unit {0}) = λ ps. rest there t s (Some ps) in
        refines_prog-check_limit (state >>= inside there t (render_ahead occurrence (body b))) lt
        (refines_prog-get p may (inside there t (render_ahead occurrence (body b)))
        (refines_prog-then p may (enter_frame v) (m >>= f) (enters d {u = tt} valued)
        (ahead-then asks m f (ahead-renamed asks (body_at occurrence (as_part 0)) b
        (subst (λ (z : State). RefinesAhead asks p m may (moment_at z h) (Ok captured) (moment_at later between)) starts ahead))
        (λ ps is. rest-refines there t s (Some ps) (counts ps) (ends ps) (x ps is)))))

    pub inclusion-ahead_over : (asks : Bool) (occurrence : Occurrence) (there : TreeOccurrence) (t b : Tree) (d : Data) {e : RenderError} {c : Option Text}
        {s mid later last : State} {h new : Holding}
        → s.inclusions < p.parts.limit → GivesValue p (base_value v.call.params) s d
        → mid ≡ with_current c (in_frame_of d s)
        → RefinesAhead asks p (capture (perform (Whole (body_at occurrence (as_part 0)) b))) may (moment_at mid h) (Err e) (moment_at later new)
        → RefinesProg p (include_tree v there t (render_ahead occurrence (body b))) may (moment_at s h) (Err e) (moment_at last new)
    unfolding ◌>>=◌
    inclusion-ahead_over asks occurrence there t b d {e = e} {c = c} {s = s} {later = later} {h = h} {new = new} lt valued starts ahead =
        let m : Prog (List Piece) = capture (perform (Whole (body_at occurrence (as_part 0)) b)) in
        let f : List Piece → Prog (Unit {0}) = λ ps. rest there t s (Some ps) in
        refines_prog-check_limit (state >>= inside there t (render_ahead occurrence (body b))) lt
        (refines_prog-get p may (inside there t (render_ahead occurrence (body b)))
        (refines_prog-then p may (enter_frame v) (m >>= f) (enters d {u = tt} valued)
        (refines_prog-elsewhere p may (ahead-over asks m f (ahead-renamed asks (body_at occurrence (as_part 0)) b
        (subst (λ (z : State). RefinesAhead asks p m may (moment_at z h) (Err e) (moment_at later new)) starts ahead))))))

    -- whose value fails, or for whose frame memory runs out
    pub inclusion-no_value : (occurrence : TreeOccurrence) (t : Tree) (ahead : Prog (Option (List Piece))) {s next : State} {h : Holding} (e : RenderError)
        → s.inclusions < p.parts.limit
        → (reason_in e ≢ out_of_memory → ValueFails p (base_value v.call.params) s (refusal_of e))
        → RefinesProg p (include_tree v occurrence t ahead) may (moment_at s h) (Err e) (moment_at next h)
    inclusion-no_value occurrence t ahead {s = s} e lt is =
        refines_prog-check_limit (state >>= inside occurrence t ahead) lt
        (refines_prog-get p may (inside occurrence t ahead)
        (refines_prog-over p may (enter_frame v) (ahead >>= (λ k. rest occurrence t s k))
        (refines_prog-no_value p may (base_value v.call.params) (λ d. change (in_frame_of d)) e is)))

    -- where the limit is reached
    pub inclusion-limit_reached : (occurrence : TreeOccurrence) (t : Tree) (ahead : Prog (Option (List Piece))) {s next : State} {h : Holding} (e : RenderError)
        → p.parts.limit ≤ s.inclusions → IsRefusal (plain_refusal (inclusion_limit p.parts.limit)) e
        → RefinesProg p (include_tree v occurrence t ahead) may (moment_at s h) (Err e) (moment_at next h)
    inclusion-limit_reached occurrence t ahead e le is = refines_prog-limit_reached (state >>= inside occurrence t ahead) e le is

    -- ---- which tree is included

    module _ (occurrence : Occurrence) where
      named-so : {s : State} {h : Holding} {after : Moment} {r : Answered} (b : Bool) → is_current v.call.name s.current ≡ b
          → RefinesProg p (include_named occurrence v (partial_for p.parts s v.call.name v.body) s b) may (moment_at s h) r after
          → RefinesProg p (include occurrence v) may (moment_at s h) r after
      named-so {s = s} {h = h} {after = after} {r = r} b is x =
          refines_prog-find v.call.name v.body (λ found. state >>= (λ z. include_named occurrence v found z (is_current v.call.name z.current)))
          (refines_prog-get p may (λ z. include_named occurrence v (partial_for p.parts s v.call.name v.body) z (is_current v.call.name z.current))
          (subst (λ (z : Bool). RefinesProg p (include_named occurrence v (partial_for p.parts s v.call.name v.body) s z) may (moment_at s h) r after) (sym is) x))

      pub includes-self : {s next : State} {h : Holding} (e : RenderError) → is_current v.call.name s.current ≡ true
          → IsRefusal (plain_refusal cannot_include_self) e → RefinesProg p (include occurrence v) may (moment_at s h) (Err e) (moment_at next h)
      includes-self e is why = named-so true is (refines_prog-fail p may e why)

      other-so : {s : State} {h : Holding} {after : Moment} {r : Answered} (b : Bool) → is_current v.call.name s.current ≡ false
          → bytes_eq partial_block_name v.call.name ≡ b
          → RefinesProg p (include_other occurrence v (partial_for p.parts s v.call.name v.body) s b) may (moment_at s h) r after
          → RefinesProg p (include occurrence v) may (moment_at s h) r after
      other-so {s = s} {h = h} {after = after} {r = r} b not_self is x = named-so false not_self
          (subst (λ (z : Bool). RefinesProg p (include_other occurrence v (partial_for p.parts s v.call.name v.body) s z) may (moment_at s h) r after) (sym is) x)

      pub includes-captured : {s : State} {h : Holding} {after : Moment} {r : Answered} → is_current v.call.name s.current ≡ false
          → bytes_eq partial_block_name v.call.name ≡ true
          → RefinesProg p (write_captured occurrence v.body s (newest s.captured)) may (moment_at s h) r after
          → RefinesProg p (include occurrence v) may (moment_at s h) r after
      includes-captured not_self is x = other-so true not_self is x

      partial-so : {s : State} {h : Holding} {after : Moment} {r : Answered} (found : Partial) → is_current v.call.name s.current ≡ false
          → bytes_eq partial_block_name v.call.name ≡ false → found ≡ partial_for p.parts s v.call.name v.body
          → RefinesProg p (include_partial occurrence v found) may (moment_at s h) r after
          → RefinesProg p (include occurrence v) may (moment_at s h) r after
      partial-so {s = s} {h = h} {after = after} {r = r} found not_self other is x = other-so false not_self other
          (subst (λ (z : Partial). RefinesProg p (include_partial occurrence v z) may (moment_at s h) r after) is x)

      pub includes-local : (t : Tree) {s : State} {h : Holding} {after : Moment} {r : Answered} → is_current v.call.name s.current ≡ false
          → bytes_eq partial_block_name v.call.name ≡ false → Some t ≡ partial_in s.blocks v.call.name
          → RefinesProg p (include_found occurrence v (tree_name t) t) may (moment_at s h) r after
          → RefinesProg p (include occurrence v) may (moment_at s h) r after
      includes-local t {s = s} not_self other is x = partial-so _ not_self other
          (ap (λ (o : Option Tree). local_or_other o (p.parts.template v.call.name) v.body) is) x

      pub includes-registered : (t : Tree) {s : State} {h : Holding} {after : Moment} {r : Answered} → is_current v.call.name s.current ≡ false
          → bytes_eq partial_block_name v.call.name ≡ false → None ≡ partial_in s.blocks v.call.name
          → Some t ≡ p.parts.template v.call.name
          → RefinesProg p (include_found occurrence v (Some v.call.name) t) may (moment_at s h) r after
          → RefinesProg p (include occurrence v) may (moment_at s h) r after
      includes-registered t {s = s} not_self other none is x = partial-so _ not_self other
          (ap (λ (o : Option Tree). registered_or_own o v.body) is
          ∙ ap (λ (o : Option Tree). local_or_other o (p.parts.template v.call.name) v.body) none) x

      pub includes-own : {s : State} {h : Holding} {after : Moment} {r : Answered} → is_current v.call.name s.current ≡ false
          → bytes_eq partial_block_name v.call.name ≡ false → None ≡ partial_in s.blocks v.call.name
          → None ≡ p.parts.template v.call.name
          → RefinesProg p (include_partial occurrence v (own_block v.body)) may (moment_at s h) r after
          → RefinesProg p (include occurrence v) may (moment_at s h) r after
      includes-own {s = s} not_self other none is x = partial-so _ not_self other
          (ap (λ (o : Option Tree). registered_or_own o v.body) is
          ∙ ap (λ (o : Option Tree). local_or_other o (p.parts.template v.call.name) v.body) none) x

      -- the block of the tag
      pub own-none : (b : Body) {s next : State} {h : Holding} (e : RenderError) → no_body ≡ b
          → IsRefusal (plain_refusal (partial_not_found v.call.name)) e
          → RefinesProg p (include_partial occurrence v (own_block b)) may (moment_at s h) (Err e) (moment_at next h)
      own-none b {s = s} {next = next} {h = h} e is why =
          subst (λ (z : Body). RefinesProg p (include_partial occurrence v (own_block z)) may (moment_at s h) (Err e) (moment_at next h)) is
          (refines_prog-fail p may e why)

      pub own-some : (b : Body) (t : Tree) {before after : Moment} {r : Answered} → body t ≡ b
          → RefinesProg p (include_tree v (body_at occurrence (as_part 0)) t (return None)) may before r after
          → RefinesProg p (include_partial occurrence v (own_block b)) may before r after
      own-some b t {before = before} {after = after} {r = r} is x =
          subst (λ (z : Body). RefinesProg p (include_partial occurrence v (own_block z)) may before r after) is x

      -- ---- the captured pieces

      pub captured-written : (asks : Bool) (b : Body) (ps : Option (List Piece)) (captured : Captured) {s : State} {h new : Holding} {r : Answered}
          → AreCaptured asks ps (Some captured)
          → ((qs : List Piece) → AreCaptured asks (Some qs) (Some captured) → WritesAsIs qs false may h r new)
          → RefinesProg p (write_captured occurrence b s ps) may (moment_at s h) r (moment_at s new)
      captured-written false b None captured is writes = cc
      captured-written true b None captured is writes = cc
      captured-written asks b (Some ps) captured {s = s} is writes = refines_prog-pieces p may false ps (writes ps is s)

      captured-nothing : (asks : Bool) (ps : Option (List Piece)) → AreCaptured asks ps None → ps ≡ None
      captured-nothing asks None is = refl
      captured-nothing false (Some ps) is = cc
      captured-nothing true (Some ps) is = cc

      pub captured-own : (asks : Bool) (b : Body) (t : Tree) (ps : Option (List Piece)) {c : Option Text} {s mid next last : State} {h new : Holding} {r : Answered}
          → AreCaptured asks ps None → body t ≡ b → mid ≡ with_current c s → last ≡ named_as_before s next
          → RefinesProg p (perform (Whole (body_at occurrence (as_part 0)) t)) may (moment_at mid h) r (moment_at next new)
          → RefinesProg p (write_captured occurrence b s ps) may (moment_at s h) r (moment_at last new)
      captured-own asks b t ps {c = c} {s = s} {next = next} {last = last} {h = h} {new = new} {r = r} is same starts ends x =
          subst (λ (z : Option (List Piece)). RefinesProg p (write_captured occurrence b s z) may (moment_at s h) r (moment_at last new)) (sym (captured-nothing asks ps is))
          (subst (λ (z : Body). RefinesProg p (render_own_block occurrence z s) may (moment_at s h) r (moment_at last new)) same
          (then_change (perform (Whole (body_at occurrence (as_part 0)) t)) (named_as_before s) ends (renamed (body_at occurrence (as_part 0)) t
          (subst (λ (z : State). RefinesProg p (perform (Whole (body_at occurrence (as_part 0)) t)) may (moment_at z h) r (moment_at next new)) starts x))))

      pub captured-none : (asks : Bool) (b : Body) (ps : Option (List Piece)) {s next : State} {h : Holding} (e : RenderError)
          → AreCaptured asks ps None → no_body ≡ b → IsRefusal (plain_refusal partial_block_not_found) e
          → RefinesProg p (write_captured occurrence b s ps) may (moment_at s h) (Err e) (moment_at next h)
      captured-none asks b ps {s = s} {next = next} {h = h} e is same why =
          subst (λ (z : Option (List Piece)). RefinesProg p (write_captured occurrence b s z) may (moment_at s h) (Err e) (moment_at next h)) (sym (captured-nothing asks ps is))
          (subst (λ (z : Body). RefinesProg p (render_own_block occurrence z s) may (moment_at s h) (Err e) (moment_at next h)) same
          (refines_prog-fail p may e why))
