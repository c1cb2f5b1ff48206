-- The moments of a run, and what the code knows of the elements that it renders.
use Rattle.std.specs.Prelude.{◌≡◌, ℕ, Bool, true, Option, option_map}
use denote.Ref.{Bor}
use Rattle.handlebars_base.specs.Bytes.{Text}
use Rattle.handlebars_layers.specs.Chain.{Chain}
use Rattle.handlebars_expand.specs.declared.ahead.Captured.{Captured}
use Rattle.handlebars_semantics.specs.Inclusion.{newest}
use Rattle.handlebars_semantics.specs.Occurrences.{Around, Occurrence, TreeOccurrence, around, whereabouts}
use Rattle.handlebars_expand.specs.PiecesView.{template_seen}
use Rattle.handlebars_expand.specs.View.{AreCaptured}
use Rattle.handlebars_expand.specs.declared.pieces.TemplateReference.{TemplateReference}
use Rattle.handlebars_values.specs.View.{CapturedIn, Within, state_with, within}
use Rattle.handlebars_values.specs.declared.environment.Environment as declared
use Rattle.handlebars_values.specs.declared.run.Run.{Run}
use Rattle.handlebars_write.specs.LocationView.{indent_in, indexes_of, whereabouts_in}
use Rattle.handlebars_write.specs.View.{Holding, Moment}
use Rattle.handlebars_write.specs.declared.location.ElementLocation.{ElementLocation}

-- ---- moments

-- the state of a run within an inclusion, with these captured pieces, and what its output holds
abbrev pub moment : {w : Within} → CapturedIn w → Run → Holding → Moment
moment captured run held = record { state = state_with captured run; held = held }

-- These are the pieces of the newest capture: the code has their text, or each of them if pieces are emitted.
abbrev pub Captures : Bool → {w : Within} → CapturedIn w → Type 0
Captures asks {w = w} captured = AreCaptured asks (newest captured.pieces) w.captured

-- What no rendering changes for good: whether lookup is recursive, and whether escaping is on.
pub record IsUnchanged (before after : Run) : Type 0 where
  pub recursive : after.recursive_lookup ≡ before.recursive_lookup
  pub escapes : after.escapes ≡ before.escapes

-- ---- locations

-- what is around a tree that is rendered in this environment
abbrev pub around_in : {P : Type 0} → declared.Environment P → Around
around_in x = record { template = template_seen x.inclusion.now.placement.template; iterations = indexes_of x.iterations.now }

-- The code knows what is around a tree, if pieces are emitted: the template and the iterations of this environment.
abbrev pub KnowsAround : {P : Type 0} → Bool → declared.Environment P → TreeOccurrence → Type 0
KnowsAround asks x at = asks ≡ true → around at ≡ around_in x

-- The code knows what is around a tree, if pieces are emitted: this template, and the iterations of this environment.
abbrev pub KnowsAroundAs : {P : Type 0} → Bool → declared.Environment P → TemplateReference → TreeOccurrence → Type 0
KnowsAroundAs asks x template at =
    asks ≡ true → around at ≡ record { template = template_seen template; iterations = indexes_of x.iterations.now }

-- The location of an element is one in this environment, and the code knows it, if pieces are emitted.
pub record KnowsLocation {P : Type 0} (asks : Bool) (x : declared.Environment P) (at : ElementLocation) (occurrence : Occurrence)
    : Type 0 where
  pub indent : indent_in at ≡ (within x).indent
  pub around : (whereabouts_in at).around ≡ around_in x
  pub location : asks ≡ true → whereabouts occurrence ≡ whereabouts_in at

-- The code knows what is around an element, if pieces are emitted.
abbrev pub KnowsElement : {P : Type 0} → Bool → declared.Environment P → Occurrence → Type 0
KnowsElement asks x occurrence = asks ≡ true → (whereabouts occurrence).around ≡ around_in x

-- what the code has within an inclusion, while this many inclusions are being rendered: what is captured for it, if anything is,
-- its indentation, and these layers
abbrev pub included : ℕ → Option (Bor Captured) → Option Text → Chain → Within
included count captured indent layers = record {
  captured = option_map (λ k. k.now) captured;
  inclusions = count;
  indent = indent;
  layers = layers;
}
