-- The result of parsing a text as a parameter: the parameter, or an error.
use Rattle.std.specs.Prelude.{◌≡◌, ℕ, ◌<◌, ◌≤◌}
use Rattle.handlebars_base.specs.Bytes.{Text}
use Rattle.handlebars_base.specs.Optional.{with_or}
use Rattle.handlebars_base.specs.Reasons.{TemplateRefusal}
use Rattle.handlebars_expressions.specs.Parameter.{Term, IsParameter, NoParameter}
use Rattle.handlebars_template.specs.Tree.{Param}
use Rattle.handlebars_template.specs.Calls.{max_nesting, param_of, literals_of, first_rejected, invalid}

pub data Parsing : Type 0 where
  parsed : Param → Parsing
  rejected : TemplateRefusal → Parsing

-- The first literal that has no value is the error.
abbrev pub parsing_of : Term → Parsing
parsing_of means = with_or (first_rejected (literals_of means)) (λ raw. rejected (invalid raw)) (parsed (param_of means))

pub data Parses (text : Text) : Parsing → Type 0 where
  reads :
      (means : Term) (depth : ℕ) → IsParameter text means depth → depth ≤ max_nesting → Parses text (parsing_of means)
  too_deep :
      (means : Term) (depth : ℕ) → IsParameter text means depth → max_nesting < depth
      → Parses text (rejected (invalid text))
  unreadable : NoParameter text → Parses text (rejected (invalid text))

-- Parsing a text has at most one result.
abbrev pub OneParsing : Type 0
OneParsing = (text : Text) (a b : Parsing) → Parses text a → Parses text b → a ≡ b
