-- What the contracts of calls to a writer say, and of calls that convert their data.
use Rattle.std.proofs.Common.{◌≡◌, ◌≢◌, ℕ, List, [], ◌++◌, append-nil, Option, None, Some, Ok, Err, refl, sym, ap, ◌∙◌, subst, inl, inr}
use Rattle.std.specs.Io.KnownBytes.{Appends}
use Rattle.std.specs.Prelude.{IsErrAnd}
use Rattle.std.specs.declared.io.Error.{Error}
use Rattle.serde.specs.Event.{Log}
use Rattle.serde_json.specs.Data.{Data}
use Rattle.handlebars_base.specs.Answers.{IsRefusal, fails}
use Rattle.handlebars_base.specs.Bytes.{Text}
use Rattle.handlebars_base.specs.Reasons.{Refusal, Location, nowhere, out_of_memory}
use Rattle.handlebars_base.specs.RenderRefusals.{plain_refusal, reason_in, refusal_of, location_of}
use Rattle.handlebars_base.specs.declared.error.render_error.RenderError.{RenderError}
use Rattle.handlebars_scope.specs.Wraps.{IsConversion}
use Rattle.handlebars_template.specs.Tree.{Tree}
use Rattle.handlebars_semantics.specs.Answer.{Beginning, a_tree, no_tree, RenderAnswers, not_begun, has_begun}
use Rattle.handlebars_semantics.specs.Means.{render_tree}
use Rattle.handlebars_semantics.specs.Pieces.{Piece, join}
use Rattle.handlebars_semantics.specs.Runs.{Outcome, Failed, IsStop, Means}
use Rattle.handlebars_semantics.specs.State.{IsLawful, Setting, State, first_state}
use Rattle.handlebars_laws.proofs.RunLaws.{Runs-beginning}
use Rattle.handlebars_write.specs.View.{Answered, RefinesSteps, Holding, MatchesOutcome, ended, refusal, write_error, no_memory, moment_at}
use Rattle.handlebars_write.proofs.Refinement.{memory_or}
use Rattle.handlebars.specs.Calls.{BeginsWith, IsBeginningOfAnswer, Writes, all_written, failed_after, writer_failed, memory_failed, WritesConverted, not_converted, no_memory_to_convert}
use Rattle.handlebars.specs.Taken.{ReportsTaken}
use Rattle.handlebars.proofs.AnswerLaws.{IsOne, a_tree-injective, a_tree≢no_tree}

-- ---- what a writer reports

pub Appends-nothing : (o : Option Text) → Appends o o []
Appends-nothing None = tt
Appends-nothing (Some xs) = sym (append-nil xs)

pub Appends-reported : (first now : Option Text) (t : Text) → ReportsTaken first t now → Appends first now t
Appends-reported None now t reported = tt
Appends-reported (Some xs) now t reported = subst (λ (n : Option Text). Appends (Some xs) n t) (sym (reported xs refl)) refl

-- ---- beginnings

module _ (p : Setting) {B C : Beginning → Type 0} (to : (b : Beginning) → B b → C b) where
  pub RenderAnswers-map : {ps : List Piece} {o : Outcome} → RenderAnswers p B ps o → RenderAnswers p C ps o
  RenderAnswers-map (not_begun b) = not_begun (to _ b)
  RenderAnswers-map (has_begun b m) = has_begun (to _ b) m

module _ (p : Setting) {B C : Beginning → Type 0} (to : (b : Beginning) → B b → C b) (from : (b : Beginning) → C b → B b) where
  IsBeginningOfAnswer-map : (t : Text) → IsBeginningOfAnswer p B t → IsBeginningOfAnswer p C t
  IsBeginningOfAnswer-map t is ps o a h = is ps o (RenderAnswers-map p from a) h

  Writes-map : {before after : Option Text} {r : Answered} → Writes p B before after r → Writes p C before after r
  Writes-map (all_written a w) = all_written (RenderAnswers-map p to a) w
  Writes-map (failed_after a w) = failed_after (RenderAnswers-map p to a) w
  Writes-map (writer_failed cause f a reports is w) =
      writer_failed cause f (RenderAnswers-map p to a) reports (IsBeginningOfAnswer-map _ is) w
  Writes-map (memory_failed t memory is w) = memory_failed t memory (IsBeginningOfAnswer-map t is) w

-- A call begins with the one tree.
pub Writes-begun : (p : Setting) (begins : Beginning → Type 0) (one : IsOne begins) (t : Tree) {before after : Option Text} {r : Answered}
    → begins (a_tree t) → Writes p (BeginsWith t) before after r → Writes p begins before after r
Writes-begun p begins one t begun w =
    Writes-map p (λ b is. subst begins (sym is) begun) (λ b is. one b (a_tree t) is begun) w

-- What a call says of a writer also holds of any two writers that equal it before and after the call.
pub Writes-at : {W : Type 0} (p : Setting) (begins : Beginning → Type 0) (contents : W → Option Text) {before first after last : W}
    {r : Answered} → first ≡ before → last ≡ after → Writes p begins (contents first) (contents after) r
    → Writes p begins (contents before) (contents last) r
Writes-at p begins contents {before = before} {after = after} {r = r} a b w =
    subst (λ z. Writes p begins (contents before) (contents z) r) (sym b)
    (subst (λ z. Writes p begins (contents z) (contents after) r) a w)

-- ---- a run

module _ (p : Setting) (lawful : IsLawful p.parts) (t : Tree) where
  stop_begins : {ps : List Piece} {o : Outcome} → Means p t (first_state p.parts.recursive) ps o → IsStop o
      → IsBeginningOfAnswer p (BeginsWith t) (join ps)
  stop_begins m stops _ _ (not_begun b) h = absurd (a_tree≢no_tree (sym b))
  stop_begins m stops qs q (has_begun {t = u} b n) h =
      Runs-beginning lawful m (subst (λ (v : Tree). Means p v (first_state p.parts.recursive) qs q) (a_tree-injective b) n) stops h

  writes_outcome : {may : Error → Type 0} {i j : ℕ} {ps : List Piece} {o : Outcome} {before after : Option Text} {r : Answered}
      {next : State} → Means p t (first_state p.parts.recursive) ps o → MatchesOutcome may i j o r next
      → Appends before after (join ps) → Writes p (BeginsWith t) before after r
  writes_outcome m (ended same) w = all_written (has_begun refl m) w
  writes_outcome m (refusal same) w = failed_after (has_begun refl m) w
  writes_outcome m (write_error cause f given count reports) w = writer_failed cause f (has_begun refl m) reports (stop_begins m tt) w
  writes_outcome {ps = ps} m (no_memory same is) w = memory_failed (join ps) is (stop_begins m tt) w

  -- a rendering to a writer that had taken nothing
  pub writes_run : {may : Error → Type 0} {first next : State} {h new : Holding} {before after : Option Text} {r : Answered}
      → first ≡ first_state p.parts.recursive → h.text ≡ [] → ReportsTaken before new.text after
      → RefinesSteps p (render_tree t) may (moment_at first h) r (moment_at next new) → Writes p (BeginsWith t) before after r
  writes_run {before = before} {after = after} is empty reported c =
      writes_outcome (subst (λ (s : State). Means p t s c.pieces c.outcome) is c.runs) c.reports
      (subst (λ (z : Text). Appends before after z) (c.gains.text ∙ ap (λ (z : Text). z ++ join c.pieces) empty)
      (Appends-reported before after _ reported))

-- ---- what fails before a run

module _ (p : Setting) (begins : Beginning → Type 0) where
  pub nothing_begins : IsBeginningOfAnswer p begins []
  nothing_begins ps o a h = ∣ (join ps, refl) ∣₁

  writes_no_memory : (e : RenderError) (o : Option Text) → reason_in e ≡ out_of_memory → Writes p begins o o (Err e)
  writes_no_memory e o memory = memory_failed [] memory nothing_begins (Appends-nothing o)

  writes_failed : (q : Refusal) (e : RenderError) (o : Option Text) → begins (no_tree q) → refusal_of e ≡ q → Writes p begins o o (Err e)
  writes_failed q e o b is =
      failed_after (subst (λ (z : Refusal). RenderAnswers p begins [] (Failed z)) (sym is) (not_begun b)) (Appends-nothing o)

  pub writes_if : (q : Refusal) (e : RenderError) (o : Option Text) → begins (no_tree q) → IsRefusal q e → Writes p begins o o (Err e)
  writes_if q e o b is = elim (memory_or (reason_in e)) [
    | inl memory ↦ writes_no_memory e o memory
    | inr other ↦ writes_failed q e o b (is other)
  ]

  -- out of memory alone
  pub writes_without_memory : (r : Answered) (o : Option Text) → IsErrAnd r (λ e. refusal_of e ≡ plain_refusal out_of_memory)
      → Writes p begins o o r
  writes_without_memory (Ok u) o is = absurd is
  writes_without_memory (Err e) o is = writes_no_memory e o (ap (λ (z : Refusal). z.reason) is)

-- ---- data that isn't converted

-- an error without a location
pub plain_here : (e : RenderError) → location_of e ≡ nowhere → plain_refusal (reason_in e) ≡ refusal_of e
plain_here e plain = sym (ap (λ (z : Location). record { reason = reason_in e; location = z }) plain)

module _ {T : Type 0} (writes : T → Log → Log → Type 0) (x : T) where
  pub not_converted_so : (e : RenderError) → location_of e ≡ nowhere → IsConversion writes x (fails (plain_refusal (reason_in e)))
      → IsConversion writes x (fails (refusal_of e))
  not_converted_so e plain is = subst (λ (z : Refusal). IsConversion writes x (fails z)) (plain_here e plain) is

  pub writes_unconverted : {unread : Type 0} {to : Data → Option Text → Option Text → Answered → Type 0} (e : RenderError) (o : Option Text)
      → location_of e ≡ nowhere → (reason_in e ≢ out_of_memory → IsConversion writes x (fails (plain_refusal (reason_in e))))
      → unread → WritesConverted writes x unread to o o (Err e)
  writes_unconverted e o plain so asked = elim (memory_or (reason_in e)) [
    | inl memory ↦ no_memory_to_convert memory asked (Appends-nothing o)
    | inr other ↦ not_converted (not_converted_so e plain (so other)) asked (Appends-nothing o)
  ]
