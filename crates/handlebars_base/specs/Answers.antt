-- What a call returns. That any call may also run out of memory is said once, here.
use Rattle.std.specs.Prelude.{◌≡◌, ◌≢◌, Result, MatchResult}
use Rattle.handlebars_base.specs.Reasons.{Reason, Refusal, out_of_memory}
use Rattle.handlebars_base.specs.RenderRefusals.{reason_in, refusal_of, plain_refusal}
use Rattle.handlebars_base.specs.declared.error.render_error.RenderError.{RenderError}

-- what a definition gives: a value, or an error
pub data Answer (A : Type 0) : Type 0 where
  gives : A → Answer A
  fails : Refusal → Answer A

-- an error with no template and no position yet
abbrev pub fails_for : {A : Type 0} → Reason → Answer A
fails_for r = fails (plain_refusal r)

-- the answer with `f` applied to its value
abbrev pub answer_map : {A B : Type 0} → (A → B) → Answer A → Answer B
answer_map f (gives x) = gives (f x)
answer_map f (fails r) = fails r

-- the error has this reason and location, or it is out of memory
abbrev pub IsRefusal : Refusal → RenderError → Type 0
IsRefusal r e = reason_in e ≢ out_of_memory → refusal_of e ≡ r

-- The call returns the answer's value, as `seen` shows it, fails with the answer's error, or runs out of memory.
abbrev pub Answers : {T A : Type 0} → (T → A) → Result T RenderError → Answer A → Type 0
Answers seen r answer =
    MatchResult r (λ x. answer ≡ gives (seen x)) (λ e. reason_in e ≢ out_of_memory → answer ≡ fails (refusal_of e))
