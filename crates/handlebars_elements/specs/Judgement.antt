-- What the calls that render guarantee: one judgement for all of them.
use Rattle.std.specs.Prelude.{◌≡◌, ◌≢◌, Bool, Option, None, Some, Result, Ok, Err}
use Rattle.std.specs.declared.io.Error.{Error}
use denote.MutBor.{MutBor}
use denote.Triple.Both.{Both}
use Rattle.handlebars_base.specs.Answers.{gives, fails}
use Rattle.handlebars_base.specs.Bytes.{Text}
use Rattle.handlebars_base.specs.Reasons.{out_of_memory}
use Rattle.handlebars_base.specs.RenderRefusals.{reason_in, refusal_of}
use Rattle.handlebars_template.specs.Tree.{Call}
use Rattle.handlebars_scope.specs.LineView.{line_of}
use Rattle.handlebars_helpers.specs.CallView.{CallView}
use Rattle.handlebars_helpers.specs.Callee.{Target}
use Rattle.handlebars_semantics.specs.Execute.{view_with_bodies}
use Rattle.handlebars_semantics.specs.Means.{render_helped}
use Rattle.handlebars_semantics.specs.Occurrences.{Occurrence}
use Rattle.handlebars_base.specs.declared.error.render_error.RenderError.{RenderError}
use Rattle.handlebars_semantics.specs.State.{Parts, Setting, State}
use Rattle.handlebars_semantics.specs.Steps.{Steps, Prog}
use Rattle.handlebars_expand.specs.Boxed.{answer_of, error_of}
use Rattle.handlebars_expand.specs.declared.boxed.BoxedError.{BoxedError}
use Rattle.handlebars_values.specs.View.{CapturedIn, setting_in, state_with, within}
use Rattle.handlebars_values.specs.declared.environment.Environment as declared
use Rattle.handlebars_values.specs.declared.run.Run.{Run}
use Rattle.handlebars_write.specs.ModeView.{ModeView}
use Rattle.handlebars_write.specs.OutcomeView.{memory_answer, outcome_answer}
use Rattle.handlebars_write.specs.View.{Answered, IsSame, Moment, RefinesProg, RefinesSteps, held_in}
use Rattle.handlebars_write.specs.declared.outcome.Outcome.{Outcome}
use Rattle.handlebars_write.specs.declared.sink.Sink.{Sink}
use Rattle.handlebars_elements.specs.Chosen.{IsViewedAs}
use Rattle.handlebars_elements.specs.Left.{left_of, then_out}
use Rattle.handlebars_elements.specs.View.{Captures, IsUnchanged, moment}
use Rattle.handlebars_elements.specs.declared.found.Written.{Written}
use Rattle.handlebars_elements.specs.declared.found.Written.TheVariants as written
use Rattle.handlebars_elements.specs.declared.next.Next.{Next}

-- ---- what holds for any captured pieces

-- A statement about the setting, and the states before a call and after it.
abbrev pub Between : {P : Type 0} → (P → Parts) → declared.Environment P → Both (MutBor Run) (MutBor Run)
    → (Setting → State → State → Type 0) → Type 0
Between parts x run says =
    (captured : CapturedIn (within x)) → says (setting_in parts x) (state_with captured run.entry.now) (state_with captured run.exit.now)

-- ---- what the calls that render guarantee

-- The program was executed, with these captured pieces.
abbrev pub RefinesWith : {P O T : Type 0} → (P → Parts) → ModeView O → (x : declared.Environment P)
    → Both (MutBor Run) (MutBor Run) → Both (MutBor (Sink O T)) (MutBor (Sink O T)) → Answered → CapturedIn (within x)
    → Prog (Unit {0}) → Type 0
RefinesWith parts w x run sink r captured m =
    RefinesProg (setting_in parts x) m w.may_give (moment captured run.entry.now (held_in w sink.entry.now)) r
    (moment captured run.exit.now (held_in w sink.exit.now))

-- The program was executed, for any captured pieces.
abbrev pub Refines : {P O T : Type 0} → (P → Parts) → ModeView O → declared.Environment P
    → Both (MutBor Run) (MutBor Run) → Both (MutBor (Sink O T)) (MutBor (Sink O T)) → Outcome → Prog (Unit {0}) → Type 0
Refines parts w x run sink outcome m =
    (captured : CapturedIn (within x)) → Captures w.asks captured → RefinesWith parts w x run sink (outcome_answer outcome) captured m

-- The run is unchanged except for what templates change, and the output is the same one.
pub record Stays {O T : Type 0} (run : Both (MutBor Run) (MutBor Run)) (sink : Both (MutBor (Sink O T)) (MutBor (Sink O T)))
    : Type 0 where
  pub unchanged : IsUnchanged run.entry.now run.exit.now
  pub same : IsSame sink.entry.now sink.exit.now

-- From the moment before a call the program leads to the moment after it. With `Ok` this program is then left of it; with `Err` it
-- has ended there with the error.
abbrev pub LeadsTo : {T : Type 0} → Setting → (Error → Type 0) → Prog (Unit {0}) → Moment → (T → Prog (Unit {0}))
    → Result T RenderError → Moment → Type 0
LeadsTo p may m before left (Ok x) after = (next : Unit {0} → Steps) (r : Answered) (last : Moment)
    → RefinesSteps p (left x next) may after r last → RefinesSteps p (m next) may before r last
LeadsTo p may m before left (Err e) after = RefinesProg p m may before (Err e) after

-- With these captured pieces, the program leads to what is left of it.
abbrev pub LeadsWith : {P O T A : Type 0} → (P → Parts) → ModeView O → (x : declared.Environment P)
    → Both (MutBor Run) (MutBor Run) → Both (MutBor (Sink O T)) (MutBor (Sink O T))
    → Result A BoxedError → CapturedIn (within x) → Prog (Unit {0}) → (A → Prog (Unit {0})) → Type 0
LeadsWith parts w x run sink r captured m left =
    LeadsTo (setting_in parts x) w.may_give m (moment captured run.entry.now (held_in w sink.entry.now)) left (answer_of r)
    (moment captured run.exit.now (held_in w sink.exit.now))

-- The program leads to what is left of it, for any captured pieces.
abbrev pub Leads : {P O T A : Type 0} → (P → Parts) → ModeView O → declared.Environment P
    → Both (MutBor Run) (MutBor Run) → Both (MutBor (Sink O T)) (MutBor (Sink O T))
    → Result A BoxedError → Prog (Unit {0}) → (A → Prog (Unit {0})) → Type 0
Leads parts w x run sink r m left = (captured : CapturedIn (within x)) → LeadsWith parts w x run sink r captured m left

-- A call by this name was viewed, and the program that calls this target leads to what is left of it in the bracket. Or viewing it
-- failed, or memory ran out, and the output holds what it held.
pub data LeadsInCall {P O T : Type 0} (parts : P → Parts) (w : ModeView O) (x : declared.Environment P)
    (run : Both (MutBor Run) (MutBor Run)) (sink : Both (MutBor (Sink O T)) (MutBor (Sink O T))) (captured : CapturedIn (within x))
    (occurrence : Occurrence) (block : Bool) (c : Call) (name : Text) (target : Target) : Result Next BoxedError → Type 0 where
  is_viewed : {r : Result Next BoxedError} (v : CallView)
      → IsViewedAs (setting_in parts x) (state_with captured run.entry.now) c name (gives v)
      → LeadsWith parts w x run sink r captured (render_helped occurrence block c target v)
      (λ next. then_out (line_of run.entry.now.line) (left_of occurrence (view_with_bodies block c v) next))
      → LeadsInCall parts w x run sink captured occurrence block c name target r
  is_not_viewed : {e : BoxedError} → held_in w sink.exit.now ≡ held_in w sink.entry.now
      → (reason_in (error_of e) ≢ out_of_memory
      → IsViewedAs (setting_in parts x) (state_with captured run.entry.now) c name (fails (refusal_of (error_of e))))
      → LeadsInCall parts w x run sink captured occurrence block c name target (Err e)

-- the answer of a call that wrote the value of a path, or none if the value is missing
abbrev pub written_answer : Written → Option Answered
written_answer written.Done = Some (Ok tt)
written_answer written.Missing = None
written_answer written.OutOfMemory = Some memory_answer
written_answer (written.Error e) = Some (Err e.value)

-- The program is executed; or its value is missing, and this is left of it.
abbrev pub ComesTo : Setting → (Error → Type 0) → Prog (Unit {0}) → Prog (Unit {0}) → Moment → Option Answered → Moment → Type 0
ComesTo p may m left before (Some answer) after = RefinesProg p m may before answer after
ComesTo p may m left before None after = (next : Unit {0} → Steps) (r : Answered) (last : Moment)
    → RefinesSteps p (left next) may after r last → RefinesSteps p (m next) may before r last
