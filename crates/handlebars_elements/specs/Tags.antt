-- The tags of inclusions, as the code has them, and what is included at a value.
use Rattle.std.specs.Prelude.{◌≡◌, ◌<◌, ◌+◌, ℕ, List, option_map}
use denote.MutBor.{MutBor}
use denote.Triple.Both.{Both}
use Rattle.serde_json.specs.Data.{Data}
use Rattle.handlebars_base.specs.Bytes.{Text}
use Rattle.handlebars_scope.specs.Merged.{merge}
use Rattle.handlebars_helpers.specs.Decoration.{DecoratorView}
use Rattle.handlebars_semantics.specs.Inclusion.{hash_data}
use Rattle.handlebars_semantics.specs.Including.{base_value}
use Rattle.handlebars_semantics.specs.State.{Parts}
use Rattle.handlebars_semantics.specs.Steps.{Prog}
use Rattle.handlebars_expand.specs.View.{GivesValue}
use Rattle.handlebars_values.specs.View.{CapturedIn, called_view, setting_in, state_with, within}
use Rattle.handlebars_values.specs.declared.environment.Environment as declared
use Rattle.handlebars_values.specs.declared.run.Run.{Run}
use Rattle.handlebars_write.specs.ModeView.{ModeView}
use Rattle.handlebars_write.specs.OutcomeView.{outcome_answer}
use Rattle.handlebars_write.specs.declared.outcome.Outcome.{Outcome}
use Rattle.handlebars_write.specs.declared.sink.Sink.{Sink}
use Rattle.handlebars_elements.specs.Judgement.{RefinesWith}
use Rattle.handlebars_elements.specs.Left.{part_view}
use Rattle.handlebars_elements.specs.View.{Captures}
use Rattle.handlebars_elements.specs.declared.include.IncludingTag.{IncludingTag}

-- the values of the tag, its block, and the indentation for what it includes
abbrev pub including_view : IncludingTag → DecoratorView
including_view t = record { call = called_view t.call.now; body = part_view t.body; indent = option_map (λ i. i.now) t.indent }

-- The program was executed, if this value is the base value of the call merged with its hash arguments, if these are bound, and
-- if the limit allows this many inclusions.
abbrev pub IncludesAt : {P O T : Type 0} → (P → Parts) → ModeView O → declared.Environment P → DecoratorView → ℕ → Data
    → List (Text × Data) → Both (MutBor Run) (MutBor Run) → Both (MutBor (Sink O T)) (MutBor (Sink O T)) → Outcome → Prog (Unit {0})
    → Type 0
IncludesAt parts w x v count value bound run sink outcome m =
    (captured : CapturedIn (within x)) → Captures w.asks captured → (d : Data)
    → GivesValue (setting_in parts x) (base_value v.call.params) (state_with captured run.entry.now) d
    → value ≡ merge d (hash_data v.call.hash) → bound ≡ hash_data v.call.hash
    → (within x).inclusions < (parts x.inclusion.now.parts.now).limit → count ≡ (within x).inclusions + 1
    → RefinesWith parts w x run sink (outcome_answer outcome) captured m
