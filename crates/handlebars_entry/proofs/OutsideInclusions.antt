-- What holds of an environment outside of every inclusion.
use Rattle.std.proofs.Common.{◌≡◌, ℕ, Bool, true, false, true≢false, List, [], Option, None, sym, ap, ◌∙◌, subst, option_map}
use denote.Ref.{Bor}
use Rattle.serde_json.specs.Data.{Data}
use Rattle.handlebars_base.specs.Bytes.{Text}
use Rattle.handlebars_scope.specs.Contexts.{data_of}
use Rattle.handlebars_scope.specs.ScopeView.{frames_of}
use Rattle.handlebars_scope.specs.declared.block.BlockContext.{BlockContext}
use Rattle.handlebars_semantics.specs.Occurrences.{Occurrence, TreeOccurrence, around}
use Rattle.handlebars_semantics.specs.State.{Parts, Setting, State}
use Rattle.handlebars_layers.specs.Chain.{Chain, outside}
use Rattle.handlebars_expand.specs.PiecesView.{template_seen}
use Rattle.handlebars_expand.specs.declared.ahead.Captured.{Captured}
use Rattle.handlebars_expand.specs.declared.pieces.TemplateReference.{TemplateReference}
use Rattle.handlebars_expand.specs.declared.pieces.TemplateReference.TheVariants.{First}
use Rattle.handlebars_values.specs.View.{CapturedIn, Within, setting_in, state_with, within}
use Rattle.handlebars_values.specs.declared.environment.Environment as declared
use Rattle.handlebars_values.specs.declared.run.Run.{Run}
use Rattle.handlebars_context.specs.View.{state_over}
use Rattle.handlebars_write.specs.LocationView.{indent_in, indexes_of, whereabouts_in}
use Rattle.handlebars_write.specs.declared.location.ElementLocation.{ElementLocation}
use Rattle.handlebars_write.specs.declared.location.IterationsAround.{IterationsAround}
use Rattle.handlebars_elements.specs.View.{Captures, KnowsAround, KnowsLocation}
use Rattle.handlebars_write.proofs.Includes.{captured-no}
use Rattle.handlebars_entry.specs.Entry.{IsFirst, IsOutermost, around_first, over, within_none}

-- what holds within an inclusion, by its parts
pub within-parts : (blocks : List BlockContext) (captured : Option (Bor Captured)) (n : ℕ) (indent : Option (Bor Text)) (layers : Chain)
    → captured ≡ None → n ≡ 0 → indent ≡ None → layers ≡ outside (frames_of blocks)
    → record {
      captured = option_map (λ k. k.now) captured;
      inclusions = n;
      indent = option_map (λ t. t.now) indent;
      layers = layers;
    } ≡ within_none blocks
within-parts blocks captured n indent layers none zero unindented is =
    ap (λ (k : Option (Bor Captured)). record { captured = option_map (λ c. c.now) k; inclusions = n; indent = option_map (λ t. t.now) indent; layers = layers }) none
    ∙ ap (λ (m : ℕ). record { captured = None; inclusions = m; indent = option_map (λ t. t.now) indent; layers = layers }) zero
    ∙ ap (λ (i : Option (Bor Text)). record { captured = None; inclusions = 0; indent = option_map (λ t. t.now) i; layers = layers }) unindented
    ∙ ap (λ (c : Chain). record { captured = None; inclusions = 0; indent = None; layers = c }) is

pub around-parts : (template : TemplateReference) (iterations : IterationsAround) → template ≡ First → indexes_of iterations ≡ []
    → record { template = template_seen template; iterations = indexes_of iterations } ≡ around_first
around-parts template iterations first none =
    ap (λ (t : TemplateReference). record { template = template_seen t; iterations = indexes_of iterations }) first
    ∙ ap (λ (is : List ℕ). record { template = template_seen First; iterations = is }) none

-- nothing is captured
abbrev pub uncaptured : (w : Within) → CapturedIn w
uncaptured w = record { pieces = [] }

module _ {P : Type 0} (x : declared.Environment P) (registered : P) (d : Data) (blocks : List BlockContext)
    (is : IsOutermost x registered d blocks) where
  -- What is said of the setting and the states of a run in this environment.
  pub says-outermost : (parts : P → Parts) (says : Setting → State → State → Type 0) (before after : Run)
      → says (setting_in parts x) (state_with (uncaptured (within x)) before) (state_with (uncaptured (within x)) after)
      → says (over (parts registered) d) (state_over blocks before) (state_over blocks after)
  says-outermost parts says before after has =
      subst (λ (w : Within). says (over (parts registered) d) (state_with (uncaptured w) before) (state_with (uncaptured w) after))
      is.within
      (subst (λ (e : Data). says (over (parts registered) e) (state_with (uncaptured (within x)) before) (state_with (uncaptured (within x)) after))
      is.given
      (subst (λ (q : P). says (over (parts q) (data_of x.innermost.given.now)) (state_with (uncaptured (within x)) before)
      (state_with (uncaptured (within x)) after)) is.parts has))

  pub captures-outermost : (asks : Bool) → Captures asks (uncaptured (within x))
  captures-outermost asks = subst (λ (w : Within). Captures asks (uncaptured w)) (sym is.within) (captured-no asks)

  -- an element without iterations around it, in an output that receives no pieces
  pub located-outermost : (at : ElementLocation) (occurrence : Occurrence) → indent_in at ≡ None → (whereabouts_in at).around ≡ around_first
      → KnowsLocation false x at occurrence
  located-outermost at occurrence indent around = record {
    indent = indent ∙ sym (ap (λ (w : Within). w.indent) is.within);
    around = around ∙ sym is.around;
    location = λ on. absurd (true≢false (sym on));
  }

  pub around-outermost : (asks : Bool) (at : TreeOccurrence) → (asks ≡ true → IsFirst at) → KnowsAround asks x at
  around-outermost asks at first = λ on. first on ∙ sym is.around
