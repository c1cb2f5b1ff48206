-- The results of test cases, as plain data.
use Rattle.std.specs.Prelude.{ℕ, List, Option, None, Some, option_map, string_bytes}
use Rattle.test_cases.specs.declared.outcome.Outcome.{Outcome}
use Rattle.test_cases.specs.declared.outcome.Refusal.{Refusal}
use Rattle.test_cases.specs.declared.outcome.Failed.{Failed}

-- the reason's text, line and column, and the name of the template
pub record RefusalView : Type 0 where
  pub reason : List ℕ
  pub line : Option ℕ
  pub column : Option ℕ
  pub template : Option (List ℕ)

abbrev pub refusal_view : Refusal → RefusalView
refusal_view r = record {
  reason = r.reason.now;
  line = r.line;
  column = r.column;
  template = option_map (λ t. t.now) r.template;
}

-- the view of a stored error
abbrev pub stored_refusal_view : Failed → RefusalView
stored_refusal_view r = record {
  reason = string_bytes r.reason;
  line = r.line;
  column = r.column;
  template = option_map string_bytes r.template;
}

-- the output, and the error that ends it, if one does
pub record OutcomeView : Type 0 where
  pub text : List ℕ
  pub refusal : Option RefusalView

abbrev pub outcome_view : Outcome → OutcomeView
outcome_view o = record { text = o.text.now; refusal = option_map refusal_view o.refusal }

-- what a call returns: the whole text, or no text and an error
pub data Returned : Type 0 where
  whole : List ℕ → Returned
  failed : RefusalView → Returned

-- what a call returns that writes this output and ends with this error, if any
abbrev pub returned_where : List ℕ → Option RefusalView → Returned
returned_where text None = whole text
returned_where text (Some r) = failed r

abbrev pub returned_by : OutcomeView → Returned
returned_by o = returned_where o.text o.refusal
