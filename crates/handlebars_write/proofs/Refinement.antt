-- How the results of calls compose, for the proofs of the rendering functions.
use Rattle.std.proofs.Common.{◌≡◌, ◌≢◌, ℕ, Bool, true, false, not, List, [], ◌∷◌, ◌++◌, ◌+◌, ◌<◌, ◌^◌, Result, Ok, Err, refl, sym, ap, ◌∙◌, subst, append-nil, ◌⊎◌, inl, inr}
use Rattle.std.specs.declared.io.Error.{Error}
use Rattle.std.specs.Result.{IsErrAnd}
use Rattle.handlebars_base.specs.Answers.{IsRefusal}
use Rattle.handlebars_base.specs.Bytes.{Text}
use Rattle.handlebars_base.specs.Reasons.{Reason, Location, Refusal, out_of_memory}
use Rattle.handlebars_base.specs.RenderRefusals.{reason_in, reason_of, location_of, cause_of, refusal_of, plain_refusal}
use Rattle.handlebars_base.specs.Values.{boolean_text}
use Rattle.handlebars_base.specs.declared.error.render_error.RenderError.{RenderError}
use Rattle.handlebars_semantics.specs.Pieces.{Origin, of_step, of_boolean_text, Piece, pieces_of, put}
use Rattle.handlebars_scope.specs.LineState.{LineState}
use Rattle.handlebars_scope.specs.Scopes.{Frame}
use Rattle.handlebars_semantics.specs.Occurrences.{Occurrence}
use Rattle.handlebars_semantics.specs.State.{Setting, State, push_frame, pop_frame}
use Rattle.handlebars_semantics.specs.Steps.{Task, Steps, Done, Fail, Write, Get, Set, Do, Prog, return, run, fail_for, state, become, write, perform, ◌>>=◌, ◌>>◌}
use Rattle.handlebars_semantics.specs.Writing.{write_text, write_step, write_boolean_text}
use Rattle.handlebars_semantics.specs.Execute.{change, in_scope_frame}
use Rattle.handlebars_semantics.specs.Means.{without_escaping, line_out, on_line, todo}
use Rattle.handlebars_semantics.specs.Runs.{WriteError, plain_write_error, Outcome, Ended, Failed, WriteFailed, NoMemory, Stops, Prefix, none, mark_location, Runs, done, failed, wrote, got, set, did, did_over, stop, cut}
use Rattle.handlebars_expand.specs.View.{GivesValue, ValueFails}
use Rattle.handlebars_write.specs.View.{Gains, Holding, Moment, moment_at, with_emitted, ReportsWriteError, Answered, MatchesOutcome, ended, refusal, write_error, no_memory, RefinesSteps, RefinesProg, goes_on, is_over}
use Rattle.handlebars_write.specs.Writes.{AreSome, Puts, WritesPieces, all_written, prefix_written, part_written}
use Rattle.handlebars_expand.specs.Boxed.{IsPropagated, answer_of, error_of}
use Rattle.handlebars_expand.specs.declared.boxed.BoxedError.{BoxedError}
use Rattle.handlebars_expand.proofs.Propagated.{propagated-reason, propagated-refusal}
use Rattle.handlebars_semantics.proofs.Runs.{Runs-short}
use Rattle.handlebars_write.proofs.Gains.{text-append, with_emitted-nil, with_emitted-append}
use Rattle.handlebars_write.proofs.Causes.{cause-as}

-- out of memory, or another reason
pub memory_or : (r : Reason) → (r ≡ out_of_memory) ⊎ (r ≢ out_of_memory)
memory_or out_of_memory = inl refl
memory_or _ = inr (λ e. cc)

MatchesOutcome-before : {may : Error → Type 0} {before between after : ℕ} {o : Outcome} {r : Result (Unit {0}) RenderError} {next : State}
    → between ≡ before → MatchesOutcome may between after o r next → MatchesOutcome may before after o r next
MatchesOutcome-before {may = may} {after = after} {o = o} {r = r} {next = next} e t = subst (λ (n : ℕ). MatchesOutcome may n after o r next) e t

-- nothing was gained
pub gains-none : (h : Holding) → Gains h [] h
gains-none h = record { text = sym (append-nil h.text); emitted = with_emitted-nil h.emitted }

-- pieces, and then others
pub gains-append : (a b c : Holding) (xs ys : List Piece) → Gains a xs b → Gains b ys c → Gains a (xs ++ ys) c
gains-append a b c xs ys g h = record {
  text = text-append a.text b.text c.text xs ys g.text h.text;
  emitted = h.emitted ∙ ap (with_emitted ys) g.emitted ∙ with_emitted-append xs ys a.emitted;
}

-- the steps run to their end
pub record RunsToEnd (p : Setting) (k : Steps) (before after : Moment) : Type 0 where
  pub pieces : List Piece
  pub runs : Runs p k before.state pieces (Ended after.state)
  pub gains : Gains before.held pieces after.held
  pub write_errors : after.held.write_errors ≡ before.held.write_errors

-- An error becomes another one, which has the mark of the task, or is out of memory.
pub record IsMarked (t : Task) (e d : RenderError) : Type 0 where
  pub location : reason_in d ≢ out_of_memory → location_of d ≡ mark_location t (location_of e)
  pub cause : reason_in d ≢ out_of_memory → cause_of d ≡ cause_of e
  pub memory : reason_in e ≡ out_of_memory → reason_in d ≡ out_of_memory

-- an error that a task leaves unchanged
pub unmarked : (t : Task) (e : RenderError) → mark_location t (location_of e) ≡ location_of e → IsMarked t e e
unmarked t e is = record { location = λ _. sym is; cause = λ _. refl; memory = λ m. m }

marked-reason : (t : Task) (e d : RenderError) → IsMarked t e d → reason_in d ≢ out_of_memory
    → reason_in d ≡ reason_in e
marked-reason t e d m other = ap reason_of (m.cause other)

pub marked-refusal : (t : Task) (e d : RenderError) → IsMarked t e d → reason_in d ≢ out_of_memory
    → refusal_of d ≡ record { reason = reason_in e; location = mark_location t (location_of e) }
marked-refusal t e d m other =
    ap (λ (r : Reason). record { reason = r; location = location_of d }) (marked-reason t e d m other)
    ∙ ap (λ (z : Location). record { reason = reason_in e; location = z }) (m.location other)

marked-write_error : (t : Task) (e d : RenderError) (cause : Error) (f : WriteError) → IsMarked t e d → ReportsWriteError cause f e
    → ReportsWriteError cause (record f { location = mark_location t f.location }) d
marked-write_error t e d cause f m reports = record {
  why = λ other. cause-as cause f.at_boolean_text e d (marked-reason t e d m other) (m.cause other)
      (reports.why (λ memory. other (m.memory memory)));
  where_it_is = λ other. m.location other ∙ ap (mark_location t) (reports.where_it_is (λ memory. other (m.memory memory)));
}

pub propagated-write_error : (e d : RenderError) (cause : Error) (f : WriteError) → IsPropagated e d → ReportsWriteError cause f e → ReportsWriteError cause f d
propagated-write_error e d cause f h reports = record {
  why = λ other. cause-as cause f.at_boolean_text e d (propagated-reason h other) (h.cause other)
      (reports.why (λ memory. other (h.memory memory)));
  where_it_is = λ other. h.location other ∙ reports.where_it_is (λ memory. other (h.memory memory));
}

not-not : (b : Bool) → not (not b) ≡ b
not-not true = refl
not-not false = refl

-- what was turned off is restored
pub restored : (s : State) (b off : Bool) → off ≡ not b → record s { escapes = not off } ≡ record s { escapes = b }
restored s b off is = ap (λ (z : Bool). record s { escapes = z }) (ap not is ∙ not-not b)

module _ (p : Setting) (may : Error → Type 0) where
  pub refines-done : {s : State} {h : Holding} {u : Unit {0}} → RefinesSteps p Done may (moment_at s h) (Ok u) (moment_at s h)
  refines-done {s = s} {h = h} =
      record { pieces = []; outcome = Ended s; runs = done; gains = gains-none h; reports = ended refl }

  pub refines-no_memory : {k : Steps} {s next : State} {h : Holding} (e : RenderError) → reason_in e ≡ out_of_memory
      → RefinesSteps p k may (moment_at s h) (Err e) (moment_at next h)
  refines-no_memory {h = h} e memory =
      record { pieces = []; outcome = NoMemory; runs = stop; gains = gains-none h; reports = no_memory refl memory }

  failed_so : {r : Refusal} {s next : State} {h : Holding} (e : RenderError) → refusal_of e ≡ r
      → RefinesSteps p (Fail r) may (moment_at s h) (Err e) (moment_at next h)
  failed_so {r = r} {s = s} {h = h} e is = record {
    pieces = [];
    outcome = Failed (refusal_of e);
    runs = subst (λ (z : Refusal). Runs p (Fail r) s [] (Failed z)) (sym is) failed;
    gains = gains-none h;
    reports = refusal refl;
  }

  pub refines-fail : {r : Refusal} {s next : State} {h : Holding} (e : RenderError) → IsRefusal r e
      → RefinesSteps p (Fail r) may (moment_at s h) (Err e) (moment_at next h)
  refines-fail e is = elim (memory_or (reason_in e)) [
    | inl memory ↦ refines-no_memory e memory
    | inr other ↦ failed_so e (is other)
  ]

  pub refines-get : {f : State → Steps} {s : State} {h : Holding} {last : Moment} {r : Answered}
      → RefinesSteps p (f s) may (moment_at s h) r last → RefinesSteps p (Get f) may (moment_at s h) r last
  refines-get c = record { pieces = c.pieces; outcome = c.outcome; runs = got c.runs; gains = c.gains; reports = c.reports }

  pub refines-set : {k : Steps} {s mid : State} {h : Holding} {last : Moment} {r : Answered}
      → RefinesSteps p k may (moment_at mid h) r last → RefinesSteps p (Set mid k) may (moment_at s h) r last
  refines-set c = record { pieces = c.pieces; outcome = c.outcome; runs = set c.runs; gains = c.gains; reports = c.reports }

  -- ---- writing

  -- what was executed alone
  pub refines-run : {m : Prog (Unit {0})} {before after : Moment} {r : Answered} → RefinesProg p m may before r after
      → RefinesSteps p (run m) may before r after
  refines-run (goes_on {u = u} {after = after} c) = c (λ v. Done) (Ok u) after refines-done
  refines-run (is_over c) = c (λ v. Done)

  pub refines_prog-get : (f : State → Prog (Unit {0})) {s : State} {h : Holding} {after : Moment} {r : Answered}
      → RefinesProg p (f s) may (moment_at s h) r after → RefinesProg p (state >>= f) may (moment_at s h) r after
  unfolding ◌>>=◌
  refines_prog-get f (goes_on c) = goes_on (λ next r last d. refines-get (c next r last d))
  refines_prog-get f (is_over c) = is_over (λ next. refines-get (c next))

  -- ---- pieces that are written

  -- all of them
  pub wrote-all : (at_boolean_text : Bool) (xs : List Piece) {k : Steps} {s : State} {h new : Holding} {last : Moment} {r : Answered}
      → Gains h xs new → new.write_errors ≡ h.write_errors → RefinesSteps p k may (moment_at s new) r last
      → RefinesSteps p (Write at_boolean_text xs k) may (moment_at s h) r last
  wrote-all at_boolean_text xs {h = h} {new = new} {last = last} gains same c = record {
    pieces = xs ++ c.pieces;
    outcome = c.outcome;
    runs = wrote c.runs;
    gains = gains-append h new last.held xs c.pieces gains c.gains;
    reports = MatchesOutcome-before same c.reports;
  }

  -- a prefix of them
  wrote-prefix : (at_boolean_text : Bool) (xs ys : List Piece) {k : Steps} {s : State} {o : Outcome} → AreSome xs
      → Stops at_boolean_text o → Prefix ys xs → Runs p (Write at_boolean_text xs k) s ys o
  wrote-prefix at_boolean_text [] ys some stops prefix = absurd some
  wrote-prefix at_boolean_text (x ∷ xs) ys some stops prefix = cut stops prefix

  pub wrote-cut : (at_boolean_text : Bool) (xs ys : List Piece) {k : Steps} {s next : State} {h new : Holding} {e : RenderError}
      → (cause : Error) → may cause → AreSome xs → Prefix ys xs → Gains h ys new
      → (h.write_errors + 1 < 2 ^ 64 → new.write_errors ≡ h.write_errors + 1) → ReportsWriteError cause (plain_write_error at_boolean_text) e
      → RefinesSteps p (Write at_boolean_text xs k) may (moment_at s h) (Err e) (moment_at next new)
  wrote-cut at_boolean_text xs ys cause given some prefix gains counted reports = record {
    pieces = ys;
    outcome = WriteFailed (plain_write_error at_boolean_text);
    runs = wrote-prefix at_boolean_text xs ys some refl prefix;
    gains = gains;
    reports = write_error cause (plain_write_error at_boolean_text) given counted reports;
  }

  -- and then memory ran out
  part-run : (at_boolean_text : Bool) (xs ys : List Piece) {k : Steps} {s : State} → Prefix ys xs
      → Runs p (Write at_boolean_text xs k) s ys NoMemory
  part-run at_boolean_text [] _ none = stop
  part-run at_boolean_text (x ∷ xs) ys prefix = cut tt prefix

  pub wrote-part : (at_boolean_text : Bool) (xs ys : List Piece) {k : Steps} {s next : State} {h new : Holding} {e : RenderError}
      → Prefix ys xs → Gains h ys new → new.write_errors ≡ h.write_errors → reason_in e ≡ out_of_memory
      → RefinesSteps p (Write at_boolean_text xs k) may (moment_at s h) (Err e) (moment_at next new)
  wrote-part at_boolean_text xs ys prefix gains same memory = record {
    pieces = ys;
    outcome = NoMemory;
    runs = part-run at_boolean_text xs ys prefix;
    gains = gains;
    reports = no_memory same memory;
  }

  pub refines_prog-puts : (o : Origin) (t : Text) {s next : State} {h new : Holding} {r : Answered}
      → Puts o t may (moment_at s h) r (moment_at next new) → RefinesProg p (write_text o t) may (moment_at s h) r (moment_at next new)
  unfolding ◌>>=◌ ◌>>◌
  refines_prog-puts o t {s = s} {h = h} {new = new} (all_written is gains same) = goes_on (λ k r last c.
      refines-get (wrote-all false (put o s.indent t s.line).0 gains same
      (refines-set (subst (λ (z : State). RefinesSteps p (k tt) may (moment_at z new) r last) is c))))
  refines_prog-puts o t {s = s} (prefix_written {ys = ys} cause given some prefix gains counted reports) = is_over (λ k.
      refines-get (wrote-cut false (put o s.indent t s.line).0 ys cause given some prefix gains counted reports))
  refines_prog-puts o t {s = s} (part_written {ys = ys} prefix gains same memory) = is_over (λ k.
      refines-get (wrote-part false (put o s.indent t s.line).0 ys prefix gains same memory))

  -- pieces after which the state is not updated
  pub refines_prog-pieces : (at_boolean_text : Bool) (xs : List Piece) {s next : State} {h new : Holding} {r : Answered}
      → WritesPieces xs at_boolean_text s may h r (moment_at next new) → RefinesProg p (write at_boolean_text xs) may (moment_at s h) r (moment_at next new)
  refines_prog-pieces at_boolean_text xs {h = h} {new = new} (all_written is gains same) = goes_on (λ k r last c.
      wrote-all at_boolean_text xs gains same (subst (λ (z : State). RefinesSteps p (k tt) may (moment_at z new) r last) is c))
  refines_prog-pieces at_boolean_text xs (prefix_written {ys = ys} cause given some prefix gains counted reports) = is_over (λ k.
      wrote-cut at_boolean_text xs ys cause given some prefix gains counted reports)
  refines_prog-pieces at_boolean_text xs (part_written {ys = ys} prefix gains same memory) = is_over (λ k.
      wrote-part at_boolean_text xs ys prefix gains same memory)

  -- the text of a boolean helper
  pub refines_prog-boolean_text : (occurrence : Occurrence) (b : Bool) {s next : State} {h new : Holding} {r : Answered}
      → WritesPieces (record { origin = of_boolean_text occurrence b; text = boolean_text b } ∷ []) true s may h r (moment_at next new)
      → RefinesProg p (write_boolean_text occurrence b) may (moment_at s h) r (moment_at next new)
  refines_prog-boolean_text occurrence b = refines_prog-pieces true (record { origin = of_boolean_text occurrence b; text = boolean_text b } ∷ [])

  -- the text of a step
  pub refines_prog-step : (occurrence : Occurrence) (i : ℕ) (t : Text) {s next : State} {h new : Holding} {r : Answered}
      → WritesPieces (pieces_of (of_step occurrence i) t) false s may h r (moment_at next new)
      → RefinesProg p (write_step occurrence i t) may (moment_at s h) r (moment_at next new)
  refines_prog-step occurrence i t = refines_prog-pieces false (pieces_of (of_step occurrence i) t)

  -- ---- values, and what is executed with them

  pub refines-value : {A : Type 0} (m : Prog A) (k : A → Steps) {s : State} {a : A} {h : Holding} {after : Moment} {r : Answered}
      → GivesValue p m s a → RefinesSteps p (k a) may (moment_at s h) r after → RefinesSteps p (m k) may (moment_at s h) r after
  refines-value m k g c = record {
    pieces = c.pieces;
    outcome = c.outcome;
    runs = g k c.pieces c.outcome c.runs;
    gains = c.gains;
    reports = c.reports;
  }

  pub refines_prog-value : {A : Type 0} (m : Prog A) (f : A → Prog (Unit {0})) {s : State} {a : A} {h : Holding} {after : Moment}
      {r : Answered} → GivesValue p m s a → RefinesProg p (f a) may (moment_at s h) r after
      → RefinesProg p (m >>= f) may (moment_at s h) r after
  unfolding ◌>>=◌
  refines_prog-value m f g (goes_on c) = goes_on (λ k r last d. refines-value m (λ a. f a k) g (c k r last d))
  refines_prog-value m f g (is_over c) = is_over (λ k. refines-value m (λ a. f a k) g (c k))

  pub refines-no_value : {A : Type 0} (m : Prog A) (k : A → Steps) {s next : State} {h : Holding} (e : RenderError)
      → (reason_in e ≢ out_of_memory → ValueFails p m s (refusal_of e))
      → RefinesSteps p (m k) may (moment_at s h) (Err e) (moment_at next h)
  refines-no_value m k {h = h} e is = elim (memory_or (reason_in e)) [
    | inl memory ↦ refines-no_memory e memory
    | inr other ↦ record {
      pieces = [];
      outcome = Failed (refusal_of e);
      runs = is other k;
      gains = gains-none h;
      reports = refusal refl;
    }
  ]

  pub refines_prog-no_value : {A : Type 0} (m : Prog A) (f : A → Prog (Unit {0})) {s next : State} {h : Holding} (e : RenderError)
      → (reason_in e ≢ out_of_memory → ValueFails p m s (refusal_of e))
      → RefinesProg p (m >>= f) may (moment_at s h) (Err e) (moment_at next h)
  unfolding ◌>>=◌
  refines_prog-no_value m f e is = is_over (λ k. refines-no_value m (λ a. f a k) e is)

  pub refines_prog-done : {s : State} {h : Holding} {u : Unit {0}} → RefinesProg p (return tt) may (moment_at s h) (Ok u) (moment_at s h)
  refines_prog-done = goes_on (λ k r last c. c)

  pub refines_prog-fail : {x : Reason} {s next : State} {h : Holding} (e : RenderError) → IsRefusal (plain_refusal x) e
      → RefinesProg p (fail_for x) may (moment_at s h) (Err e) (moment_at next h)
  refines_prog-fail e is = is_over (λ k. refines-fail e is)

  pub refines_prog-no_memory : {m : Prog (Unit {0})} {s next : State} {h : Holding} (e : RenderError)
      → reason_in e ≡ out_of_memory → RefinesProg p m may (moment_at s h) (Err e) (moment_at next h)
  refines_prog-no_memory e memory = is_over (λ k. refines-no_memory e memory)

  -- out of memory, as `?` propagates it
  pub refines_prog-out_of_memory : {m : Prog (Unit {0})} {s next : State} {h : Holding} (r : Result (Unit {0}) BoxedError)
      → IsErrAnd r (λ e. reason_in (error_of e) ≡ out_of_memory) → RefinesProg p m may (moment_at s h) (answer_of r) (moment_at next h)
  refines_prog-out_of_memory (Ok u) is = absurd is
  refines_prog-out_of_memory (Err e) is = refines_prog-no_memory (error_of e) is

  -- ---- an error propagated, in a box or out of it

  MatchesOutcome-propagated : (o : Outcome) {k : Steps} {s : State} {old : Holding} {after : Moment} (e d : RenderError) → IsPropagated e d
      → (ps : List Piece) → Runs p k s ps o → Gains old ps after.held
      → MatchesOutcome may old.write_errors after.held.write_errors o (Err e) after.state → RefinesSteps p k may (moment_at s old) (Err d) after
  MatchesOutcome-propagated _ {k = k} {s = s} e d h ps r x (refusal same) = elim (memory_or (reason_in d)) [
    | inl memory ↦ record {
      pieces = ps;
      outcome = NoMemory;
      runs = Runs-short r refl;
      gains = x;
      reports = no_memory same memory;
    }
    | inr other ↦ record {
      pieces = ps;
      outcome = Failed (refusal_of d);
      runs = subst (λ (f : Refusal). Runs p k s ps (Failed f)) (sym (propagated-refusal e d h other)) r;
      gains = x;
      reports = refusal same;
    }
  ]
  MatchesOutcome-propagated _ e d h ps r x (write_error cause f given counted reports) = record {
    pieces = ps;
    outcome = WriteFailed f;
    runs = r;
    gains = x;
    reports = write_error cause f given counted (propagated-write_error e d cause f h reports);
  }
  MatchesOutcome-propagated _ e d h ps r x (no_memory same memory) =
      record { pieces = ps; outcome = NoMemory; runs = r; gains = x; reports = no_memory same (h.memory memory) }

  pub refines-propagated : {k : Steps} {before after : Moment} (e d : RenderError) → IsPropagated e d
      → RefinesSteps p k may before (Err e) after → RefinesSteps p k may before (Err d) after
  refines-propagated e d h c = MatchesOutcome-propagated c.outcome e d h c.pieces c.runs c.gains c.reports

  pub refines_prog-propagated : {m : Prog (Unit {0})} {before after : Moment} (e d : RenderError) → IsPropagated e d
      → RefinesProg p m may before (Err e) after → RefinesProg p m may before (Err d) after
  refines_prog-propagated e d h (is_over c) = is_over (λ k. refines-propagated e d h (c k))

  -- ---- one program after another

  pub refines_prog-then : (m n : Prog (Unit {0})) {before mid after : Moment} {u : Unit {0}} {r : Answered}
      → RefinesProg p m may before (Ok u) mid → RefinesProg p n may mid r after → RefinesProg p (m >> n) may before r after
  unfolding ◌>>◌
  refines_prog-then m n (goes_on c) (goes_on d) =
      goes_on (λ k r last e. c (λ v. n k) r last (d k r last e))
  refines_prog-then m n (goes_on c) (is_over {e = e} {after = after} d) = is_over (λ k. c (λ v. n k) (Err e) after (d k))

  pub refines_prog-over : (m n : Prog (Unit {0})) {before after : Moment} {e : RenderError}
      → RefinesProg p m may before (Err e) after → RefinesProg p (m >> n) may before (Err e) after
  unfolding ◌>>◌
  refines_prog-over m n (is_over c) = is_over (λ k. c (λ v. n k))

  -- ---- escaping off, and then restored

  -- after an error the state may be any
  MatchesOutcome-elsewhere : {before after : ℕ} {o : Outcome} {e : RenderError} {s next : State}
      → MatchesOutcome may before after o (Err e) s → MatchesOutcome may before after o (Err e) next
  MatchesOutcome-elsewhere (refusal same) = refusal same
  MatchesOutcome-elsewhere (write_error cause f given counted reports) = write_error cause f given counted reports
  MatchesOutcome-elsewhere (no_memory same is) = no_memory same is

  pub refines-elsewhere : {k : Steps} {before : Moment} {e : RenderError} {next other : State} {new : Holding}
      → RefinesSteps p k may before (Err e) (moment_at next new) → RefinesSteps p k may before (Err e) (moment_at other new)
  refines-elsewhere c =
      record { pieces = c.pieces; outcome = c.outcome; runs = c.runs; gains = c.gains; reports = MatchesOutcome-elsewhere c.reports }

  pub refines_prog-elsewhere : {m : Prog (Unit {0})} {before : Moment} {e : RenderError} {next other : State} {new : Holding}
      → RefinesProg p m may before (Err e) (moment_at next new) → RefinesProg p m may before (Err e) (moment_at other new)
  refines_prog-elsewhere (is_over c) = is_over (λ k. refines-elsewhere (c k))

  -- what is executed in a state that is entered, and at the end changed by what it was before
  abbrev pub enter_and_leave : (State → State) → (State → State → State) → Prog (Unit {0}) → Prog (Unit {0})
  enter_and_leave enter leave m = state >>= (λ s. become (enter s) >> (m >> (state >>= (λ z. become (leave s z)))))

  pub refines_prog-around : (enter : State → State) (leave : State → State → State) (m : Prog (Unit {0})) {s mid next last : State}
      {h new : Holding} {r : Answered} → mid ≡ enter s → last ≡ leave s next
      → RefinesProg p m may (moment_at mid h) r (moment_at next new) → RefinesProg p (enter_and_leave enter leave m) may (moment_at s h) r (moment_at last new)
  unfolding ◌>>=◌ ◌>>◌
  refines_prog-around enter leave m {s = s} {h = h} {new = new} starts ends (goes_on c) = goes_on (λ k r last d.
      let back : Unit {0} → Steps = λ v. Get (λ z. Set (leave s z) (k tt)) in
      let after = refines-get (refines-set (subst (λ (z : State). RefinesSteps p (k tt) may (moment_at z new) r last) ends d)) in
      refines-get (refines-set (subst (λ (z : State). RefinesSteps p (m back) may (moment_at z h) r last) starts (c back r last after))))
  refines_prog-around enter leave m {s = s} {last = last} {h = h} {new = new} starts ends (is_over {e = e} c) = is_over (λ k.
      let back : Unit {0} → Steps = λ v. Get (λ z. Set (leave s z) (k tt)) in
      refines-get (refines-set (subst (λ (z : State). RefinesSteps p (m back) may (moment_at z h) (Err e) (moment_at last new)) starts
      (refines-elsewhere (c back)))))

  -- with escaping off
  pub refines_prog-without_escaping : (m : Prog (Unit {0})) {s off next last : State} {h new : Holding} {r : Answered}
      → off ≡ record s { escapes = false } → last ≡ record next { escapes = s.escapes }
      → RefinesProg p m may (moment_at off h) r (moment_at next new) → RefinesProg p (without_escaping m) may (moment_at s h) r (moment_at last new)
  refines_prog-without_escaping m starts ends c =
      refines_prog-around (λ s. record s { escapes = false }) (λ s z. record z { escapes = s.escapes }) m starts ends c

  -- on another line
  pub refines_prog-line : (enter : LineState → LineState) (m : Prog (Unit {0})) {s mid next last : State} {h new : Holding} {r : Answered}
      → mid ≡ record s { line = enter s.line } → last ≡ record next { line = line_out s.line next.line }
      → RefinesProg p m may (moment_at mid h) r (moment_at next new) → RefinesProg p (on_line enter m) may (moment_at s h) r (moment_at last new)
  refines_prog-line enter m starts ends c =
      refines_prog-around (λ s. record s { line = enter s.line }) (λ s z. record z { line = line_out s.line z.line }) m starts ends c

  -- ---- another state

  pub refines_prog-change : (f : State → State) {s next : State} {h : Holding} {u : Unit {0}} → next ≡ f s
      → RefinesProg p (change f) may (moment_at s h) (Ok u) (moment_at next h)
  unfolding ◌>>=◌
  refines_prog-change f {h = h} is = goes_on (λ k r last c.
      refines-get (refines-set (subst (λ (z : State). RefinesSteps p (k tt) may (moment_at z h) r last) is c)))

  -- a state changed, and what is executed from there
  pub refines_prog-changed : (f : State → State) (m : Prog (Unit {0})) {s mid : State} {h : Holding} {after : Moment}
      {r : Answered} → mid ≡ f s → RefinesProg p m may (moment_at mid h) r after → RefinesProg p (change f >> m) may (moment_at s h) r after
  refines_prog-changed f m {mid = mid} is a =
      refines_prog-then (change f) m (refines_prog-change f {next = mid} {u = tt} is) a

  -- a scope frame around what is executed
  pub refines_prog-in_block : (f : Frame) (m : Prog (Unit {0})) {s mid next last : State} {h new : Holding} {r : Answered}
      → mid ≡ push_frame f s → last ≡ pop_frame next
      → RefinesProg p m may (moment_at mid h) r (moment_at next new) → RefinesProg p (in_scope_frame f m) may (moment_at s h) r (moment_at last new)
  unfolding ◌>>◌
  refines_prog-in_block f m starts ends (goes_on {u = u} c) =
      refines_prog-changed (push_frame f) (m >> change pop_frame) starts
      (refines_prog-then m (change pop_frame) (goes_on {u = u} c) (refines_prog-change pop_frame ends))
  refines_prog-in_block f m starts ends (is_over c) =
      refines_prog-changed (push_frame f) (m >> change pop_frame) starts
      (refines_prog-over m (change pop_frame) (refines_prog-elsewhere (is_over c)))

  -- ---- a part, and what comes next

  MatchesOutcome-ended : (o : Outcome) {k : Steps} {s next : State} {old new : Holding} {u : Unit {0}} (ps : List Piece)
      → Runs p k s ps o
      → Gains old ps new → MatchesOutcome may old.write_errors new.write_errors o (Ok u) next
      → RunsToEnd p k (moment_at s old) (moment_at next new)
  MatchesOutcome-ended _ ps r t (ended same) = record { pieces = ps; runs = r; gains = t; write_errors = same }

  pub runs_to_end : {k : Steps} {s next : State} {old new : Holding} {u : Unit {0}}
      → RefinesSteps p k may (moment_at s old) (Ok u) (moment_at next new) → RunsToEnd p k (moment_at s old) (moment_at next new)
  runs_to_end c = MatchesOutcome-ended c.outcome c.pieces c.runs c.gains c.reports

  pub refines-then : {t : Task} {k : Steps} {s mid next : State} {h between new : Holding} {u : Unit {0}} {r : Result (Unit {0}) RenderError}
      → RefinesSteps p (todo t) may (moment_at s h) (Ok u) (moment_at mid between)
      → RefinesSteps p k may (moment_at mid between) r (moment_at next new)
      → RefinesSteps p (Do t k) may (moment_at s h) r (moment_at next new)
  refines-then {h = h} {between = between} {new = new} a b =
      let e = runs_to_end a in
      record {
        pieces = e.pieces ++ b.pieces;
        outcome = b.outcome;
        runs = did e.runs b.runs;
        gains = gains-append h between new e.pieces b.pieces e.gains b.gains;
        reports = MatchesOutcome-before e.write_errors b.reports;
      }

  MatchesOutcome-over : (o : Outcome) {t : Task} {k : Steps} {s next : State} {old new : Holding} (e d : RenderError)
      → IsMarked t e d
      → (ps : List Piece) → Runs p (todo t) s ps o → Gains old ps new
      → MatchesOutcome may old.write_errors new.write_errors o (Err e) next → RefinesSteps p (Do t k) may (moment_at s old) (Err d) (moment_at next new)
  MatchesOutcome-over _ {t = t} {k = k} {s = s} e d m ps r x (refusal same) = elim (memory_or (reason_in d)) [
    | inl memory ↦ record {
      pieces = ps;
      outcome = NoMemory;
      runs = did_over (Runs-short r refl) tt;
      gains = x;
      reports = no_memory same memory;
    }
    | inr other ↦ record {
      pieces = ps;
      outcome = Failed (refusal_of d);
      runs = subst (λ (f : Refusal). Runs p (Do t k) s ps (Failed f)) (sym (marked-refusal t e d m other)) (did_over r tt);
      gains = x;
      reports = refusal same;
    }
  ]
  MatchesOutcome-over _ {t = t} e d m ps r x (write_error cause f given counted reports) = record {
    pieces = ps;
    outcome = WriteFailed (record f { location = mark_location t f.location });
    runs = did_over r tt;
    gains = x;
    reports = write_error cause (record f { location = mark_location t f.location }) given counted (marked-write_error t e d cause f m reports);
  }
  MatchesOutcome-over _ e d m ps r x (no_memory same memory) =
      record { pieces = ps; outcome = NoMemory; runs = did_over r tt; gains = x; reports = no_memory same (m.memory memory) }

  pub refines-over : {t : Task} {k : Steps} {s next : State} {h new : Holding} (e d : RenderError) → IsMarked t e d
      → RefinesSteps p (todo t) may (moment_at s h) (Err e) (moment_at next new)
      → RefinesSteps p (Do t k) may (moment_at s h) (Err d) (moment_at next new)
  refines-over e d m c = MatchesOutcome-over c.outcome e d m c.pieces c.runs c.gains c.reports

  pub refines_prog-task : {t : Task} {s next : State} {h new : Holding} {u : Unit {0}}
      → RefinesSteps p (todo t) may (moment_at s h) (Ok u) (moment_at next new)
      → RefinesProg p (perform t) may (moment_at s h) (Ok u) (moment_at next new)
  refines_prog-task a = goes_on (λ k r last c. refines-then a c)

  pub refines_prog-task_over : {t : Task} {s next : State} {h new : Holding} (e d : RenderError) → IsMarked t e d
      → RefinesSteps p (todo t) may (moment_at s h) (Err e) (moment_at next new)
      → RefinesProg p (perform t) may (moment_at s h) (Err d) (moment_at next new)
  refines_prog-task_over e d m a = is_over (λ k. refines-over e d m a)

  -- the last part
  pub refines-last : {t : Task} {s next : State} {h new : Holding} {u : Unit {0}}
      → RefinesSteps p (todo t) may (moment_at s h) (Ok u) (moment_at next new)
      → RefinesSteps p (Do t Done) may (moment_at s h) (Ok u) (moment_at next new)
  refines-last c = refines-then c refines-done

  -- a part alone that leaves its errors unchanged
  pub refines-only : {t : Task} {s next : State} {h new : Holding} (r : Result (Unit {0}) RenderError)
      → ((location : Location) → mark_location t location ≡ location)
      → RefinesSteps p (todo t) may (moment_at s h) r (moment_at next new) → RefinesSteps p (Do t Done) may (moment_at s h) r (moment_at next new)
  refines-only (Ok u) is c = refines-last c
  refines-only {t = t} (Err e) is c = refines-over e e (unmarked t e (is (location_of e))) c
