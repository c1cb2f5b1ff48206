-- What the contracts of calls that emit pieces say.
use Rattle.std.proofs.Common.{◌≡◌, ◌≢◌, List, [], ◌++◌, append-nil, map, Option, None, Some, Ok, Err, refl, sym, ap, subst, inl, inr}
use Rattle.std.proofs.Math.Logic.{∥∥₁_map}
use Rattle.std.specs.Prelude.{IsErrAnd, unwrap_or}
use Rattle.std.specs.declared.io.Error.{Error}
use Rattle.handlebars_base.specs.Answers.{IsRefusal}
use Rattle.handlebars_base.specs.Reasons.{Refusal, out_of_memory}
use Rattle.handlebars_base.specs.RenderRefusals.{plain_refusal, reason_in, refusal_of}
use Rattle.handlebars_base.specs.declared.error.render_error.RenderError.{RenderError}
use Rattle.handlebars_template.specs.Tree.{Tree}
use Rattle.handlebars_semantics.specs.Answer.{Beginning, a_tree, no_tree, RenderAnswers, not_begun, has_begun}
use Rattle.handlebars_semantics.specs.Means.{render_tree}
use Rattle.handlebars_semantics.specs.Pieces.{Piece}
use Rattle.handlebars_semantics.specs.Runs.{Outcome, Failed, IsStop, Prefix, none, Means}
use Rattle.handlebars_semantics.specs.State.{IsLawful, Setting, State, first_state}
use Rattle.handlebars_semantics.specs.Emitted.{Emitted, emitted}
use Rattle.handlebars_expand.specs.Received.{Received}
use Rattle.handlebars_laws.proofs.RunLaws.{Runs-prefix}
use Rattle.handlebars_write.specs.View.{Answered, RefinesSteps, MatchesOutcome, ended, refusal, write_error, no_memory, holding_of_pieces, moment_at}
use Rattle.handlebars_write.proofs.Refinement.{memory_or}
use Rattle.handlebars.specs.Calls.{BeginsWith}
use Rattle.handlebars.specs.PieceCalls.{AreFirstOfAnswer, EmitsPieces, WereEmitted, all_emitted as emitted_all, emitted_before_error, output_failed, emitted_before_memory}
use Rattle.handlebars.proofs.AnswerLaws.{IsOne, a_tree-injective, a_tree≢no_tree}
use Rattle.handlebars.proofs.Writing.{RenderAnswers-map}

were_emitted : (before after : List Emitted) (ps : List Piece) → Some after ≡ Some (before ++ map emitted ps)
    → after ≡ before ++ map emitted ps
were_emitted before after ps is = ap (λ (o : Option (List Emitted)). unwrap_or o []) is

module _ (p : Setting) {B C : Beginning → Type 0} (to : (b : Beginning) → B b → C b) (from : (b : Beginning) → C b → B b) where
  AreFirstOfAnswer-map : (xs : List Piece) → AreFirstOfAnswer p B xs → AreFirstOfAnswer p C xs
  AreFirstOfAnswer-map xs are ps o a h = are ps o (RenderAnswers-map p from a) h

  EmitsPieces-map : {may : Error → Type 0} {before after : Received} {r : Answered} → EmitsPieces p B may before after r
      → EmitsPieces p C may before after r
  EmitsPieces-map (emitted_all a w) = emitted_all (RenderAnswers-map p to a) w
  EmitsPieces-map (emitted_before_error a w) = emitted_before_error (RenderAnswers-map p to a) w
  EmitsPieces-map (output_failed cause f given a reports are w) =
      output_failed cause f given (RenderAnswers-map p to a) reports (AreFirstOfAnswer-map _ are) w
  EmitsPieces-map (emitted_before_memory memory are w) = emitted_before_memory memory (AreFirstOfAnswer-map _ are) w

-- A call begins with the one tree.
pub EmitsPieces-begun : (p : Setting) (begins : Beginning → Type 0) (one : IsOne begins) (t : Tree) {may : Error → Type 0}
    {before after : Received} {r : Answered}
    → begins (a_tree t) → EmitsPieces p (BeginsWith t) may before after r → EmitsPieces p begins may before after r
EmitsPieces-begun p begins one t begun w =
    EmitsPieces-map p (λ b is. subst begins (sym is) begun) (λ b is. one b (a_tree t) is begun) w

module _ (p : Setting) (lawful : IsLawful p.parts) (t : Tree) where
  stop_is_first : {ps : List Piece} {o : Outcome} → Means p t (first_state p.parts.recursive) ps o → IsStop o
      → AreFirstOfAnswer p (BeginsWith t) ps
  stop_is_first m stops _ _ (not_begun b) h = absurd (a_tree≢no_tree (sym b))
  stop_is_first m stops qs q (has_begun {t = u} b n) h =
      Runs-prefix lawful m (subst (λ (v : Tree). Means p v (first_state p.parts.recursive) qs q) (a_tree-injective b) n) stops h

  emits_outcome : {may : Error → Type 0} {ps : List Piece} {o : Outcome} {before after : Received} {r : Answered} {next : State}
      → Means p t (first_state p.parts.recursive) ps o → MatchesOutcome may before.write_errors after.write_errors o r next
      → after.emitted ≡ before.emitted ++ map emitted ps → EmitsPieces p (BeginsWith t) may before after r
  emits_outcome m (ended same) is = emitted_all (has_begun refl m) (record { emitted = is; write_errors = same })
  emits_outcome m (refusal same) is = emitted_before_error (has_begun refl m) (record { emitted = is; write_errors = same })
  emits_outcome m (write_error cause f given count reports) is = output_failed cause f given (has_begun refl m) reports
      (stop_is_first m tt) (record { emitted = is; write_errors = count })
  emits_outcome m (no_memory same memory) is =
      emitted_before_memory memory (stop_is_first m tt) (record { emitted = is; write_errors = same })

  -- a rendering that emits its pieces
  pub emits_run : {may : Error → Type 0} {first next : State} {before after : Received} {r : Answered}
      → first ≡ first_state p.parts.recursive
      → RefinesSteps p (render_tree t) may (moment_at first (holding_of_pieces before)) r (moment_at next (holding_of_pieces after))
      → EmitsPieces p (BeginsWith t) may before after r
  emits_run {before = before} {after = after} is c =
      emits_outcome (subst (λ (s : State). Means p t s c.pieces c.outcome) is c.runs) c.reports
      (were_emitted before.emitted after.emitted c.pieces c.gains.emitted)

-- ---- what fails before a run

module _ (p : Setting) (begins : Beginning → Type 0) (may : Error → Type 0) where
  nothing_is_first : AreFirstOfAnswer p begins []
  nothing_is_first ps o a h = ∣ none ∣₁

  nothing_emitted : (ts : Received) → WereEmitted ts [] ts
  nothing_emitted ts = record { emitted = sym (append-nil ts.emitted); write_errors = refl }

  emits_no_memory : (e : RenderError) (ts : Received) → reason_in e ≡ out_of_memory → EmitsPieces p begins may ts ts (Err e)
  emits_no_memory e ts memory = emitted_before_memory memory nothing_is_first (nothing_emitted ts)

  emits_failed : (q : Refusal) (e : RenderError) (ts : Received) → begins (no_tree q) → refusal_of e ≡ q → EmitsPieces p begins may ts ts (Err e)
  emits_failed q e ts b is =
      emitted_before_error (subst (λ (z : Refusal). RenderAnswers p begins [] (Failed z)) (sym is) (not_begun b)) (nothing_emitted ts)

  pub emits_if : (q : Refusal) (e : RenderError) (ts : Received) → begins (no_tree q) → IsRefusal q e → EmitsPieces p begins may ts ts (Err e)
  emits_if q e ts b is = elim (memory_or (reason_in e)) [
    | inl memory ↦ emits_no_memory e ts memory
    | inr other ↦ emits_failed q e ts b (is other)
  ]

  -- out of memory alone
  pub emits_without_memory : (r : Answered) (ts : Received) → IsErrAnd r (λ e. refusal_of e ≡ plain_refusal out_of_memory)
      → EmitsPieces p begins may ts ts r
  emits_without_memory (Ok u) ts is = absurd is
  emits_without_memory (Err e) ts is = emits_no_memory e ts (ap (λ (z : Refusal). z.reason) is)
