-- What the loop over elements executes.
use Rattle.std.proofs.Common.{◌≡◌, ℕ, ◌+◌, ◌<◌, ◌≤◌, List, length, drop, get_or, Option, Result, Ok, Err, sym, ap, subst}
use Rattle.std.specs.Prelude.{slice_get}
use Rattle.std.proofs.lemmas.List.{drop_more, drop_all}
use Rattle.std.specs.declared.io.Error.{Error}
use Rattle.handlebars_base.specs.Bytes.{Text}
use Rattle.handlebars_base.specs.declared.error.render_error.RenderError.{RenderError}
use Rattle.handlebars_template.specs.Position.{Position}
use Rattle.handlebars_template.specs.Tree.{tree, Element, elements_of}
use Rattle.handlebars_semantics.specs.Occurrences.{TreeOccurrence, element_in}
use Rattle.handlebars_semantics.specs.State.{Setting, State}
use Rattle.handlebars_semantics.specs.Steps.{One, Steps, Do, run, ◌>>=◌, ◌>>◌}
use Rattle.handlebars_semantics.specs.Means.{render_elements, render_whole, todo}
use Rattle.handlebars_write.specs.View.{moment_at, RefinesSteps, Holding, Moment}
use Rattle.handlebars_write.proofs.Refinement.{refines-done, refines-get, refines-set, refines-then, refines-over, IsMarked}

-- the steps of the elements from an index on
abbrev pub from_index : TreeOccurrence → List Element → List Position → ℕ → Steps
from_index occurrence es positions i = run (render_elements occurrence i (elements_of (drop i es)) positions)

pub at_index : (occurrence : TreeOccurrence) (es : List Element) (positions : List Position) (i : ℕ) (d : Element) → i < length es
    → from_index occurrence es positions i ≡ Do (One (element_in occurrence i (slice_get positions i)) (get_or es i d)) (from_index occurrence es positions (i + 1))
unfolding ◌>>◌
at_index occurrence es positions i d lt =
    ap (λ (z : List Element). run (render_elements occurrence i (elements_of z) positions)) (drop_more es i d lt)

module _ (p : Setting) (may : Error → Type 0) where
  -- ---- the loop over elements

  -- A run that ends so from here ends so from the start.
  abbrev pub Left : TreeOccurrence → List Element → List Position → ℕ → Moment → Moment → Type 0
  Left occurrence es positions i first now = (r : Result (Unit {0}) RenderError) (last : Moment)
      → RefinesSteps p (from_index occurrence es positions i) may now r last
      → RefinesSteps p (from_index occurrence es positions 0) may first r last

  pub left_starts : (occurrence : TreeOccurrence) (es : List Element) (positions : List Position) (m : Moment) → Left occurrence es positions 0 m m
  left_starts occurrence es positions m = λ r last c. c

  pub left_goes : (occurrence : TreeOccurrence) (es : List Element) (positions : List Position) (i : ℕ) (d x : Element) (first now next : Moment) {u : Unit {0}}
      → i < length es → get_or es i d ≡ x → Left occurrence es positions i first now
      → RefinesSteps p (todo (One (element_in occurrence i (slice_get positions i)) x)) may now (Ok u) next
      → Left occurrence es positions (i + 1) first next
  left_goes occurrence es positions i d x first now next lt is left a = λ r last c. left r last
      (subst (λ (k : Steps). RefinesSteps p k may now r last) (sym (at_index occurrence es positions i d lt))
      (subst (λ (z : Element). RefinesSteps p (Do (One (element_in occurrence i (slice_get positions i)) z) (from_index occurrence es positions (i + 1))) may now r last)
      (sym is) (refines-then p may a c)))

  pub left_over : (occurrence : TreeOccurrence) (es : List Element) (positions : List Position) (i : ℕ) (d x : Element) (first now next : Moment) (e f : RenderError)
      → i < length es → get_or es i d ≡ x → Left occurrence es positions i first now
      → IsMarked (One (element_in occurrence i (slice_get positions i)) x) e f
      → RefinesSteps p (todo (One (element_in occurrence i (slice_get positions i)) x)) may now (Err e) next
      → RefinesSteps p (from_index occurrence es positions 0) may first (Err f) next
  left_over occurrence es positions i d x first now next e f lt is left m a = left (Err f) next
      (subst (λ (k : Steps). RefinesSteps p k may now (Err f) next) (sym (at_index occurrence es positions i d lt))
      (subst (λ (z : Element). RefinesSteps p (Do (One (element_in occurrence i (slice_get positions i)) z) (from_index occurrence es positions (i + 1))) may now (Err f) next)
      (sym is) (refines-over p may e f m a)))

  pub left_ends : (occurrence : TreeOccurrence) (es : List Element) (positions : List Position) (i : ℕ) (first now : Moment) {u : Unit {0}} → length es ≤ i
      → Left occurrence es positions i first now → RefinesSteps p (from_index occurrence es positions 0) may first (Ok u) now
  left_ends occurrence es positions i first now {u = u} over left = left (Ok u) now
      (subst (λ (z : List Element). RefinesSteps p (run (render_elements occurrence i (elements_of z) positions)) may now (Ok u) now)
      (sym (drop_all i es over)) (refines-done p may))

  -- a tree: its name, then its elements
  pub whole_with : (occurrence : TreeOccurrence) (n : Option Text) (es : List Element) (positions : List Position) {s mid next : State} {h new : Holding} {r : Result (Unit {0}) RenderError}
      → mid ≡ record s { current = n } → RefinesSteps p (from_index occurrence es positions 0) may (moment_at mid h) r (moment_at next new)
      → RefinesSteps p (run (render_whole occurrence (tree n (elements_of es) positions))) may (moment_at s h) r (moment_at next new)
  unfolding ◌>>=◌ ◌>>◌
  whole_with occurrence n es positions {s = s} {next = next} {h = h} {new = new} {r = r} is c =
      refines-get p may (refines-set p may (subst (λ (z : State). RefinesSteps p (from_index occurrence es positions 0) may (moment_at z h) r (moment_at next new)) is c))
