-- Occurrences: where an element of a run is met. An occurrence is the tree that the element is in, its index there, and its
-- position in its source, if it has one. If a body is rendered more than once, each time has its number, so no two rendered
-- elements of a run share an occurrence.
use Rattle.std.specs.Prelude.{ℕ, List, [], ◌∷◌, ◌++◌, Option}
use Rattle.handlebars_base.specs.Bytes.{Text}
use Rattle.handlebars_template.specs.Position.{Position}
use Rattle.handlebars_template.specs.Tree.{Tree}

-- One of the times that an element renders its body: as the part of this number, in the iteration of `each` over the member
-- of this index; or as the part of this number, in no iteration.
pub data Time : Type 0 where
  as_iteration : ℕ → ℕ → Time
  as_part : ℕ → Time

abbrev pub ordinal_of : Time → ℕ
ordinal_of (as_iteration i index) = i
ordinal_of (as_part i) = i

-- The occurrence of a tree: the tree that the run begins with; the body or the inverse of the element at an occurrence, with
-- the number of parts that were rendered for the element before; or the tree that the inclusion at an occurrence found and
-- renders, as it is, with its name there: the name under which it is registered, or the own name of a local partial.
mutual
  pub data TreeOccurrence : Type 0 where
    first_tree : TreeOccurrence
    body_at : Occurrence → Time → TreeOccurrence
    inverse_at : Occurrence → ℕ → TreeOccurrence
    included_at : Occurrence → Option Text → Tree → TreeOccurrence

  pub data Occurrence : Type 0 where
    element_in : TreeOccurrence → ℕ → Option Position → Occurrence

abbrev pub occurrence_position : Occurrence → Option Position
occurrence_position (element_in at i position) = position

-- ---- what surrounds an element, as it is emitted

-- the template that an element is in: the one that the run begins with, or an included one, by the name under which it is
-- registered; a local partial is named by its own name, and an inline one has none
pub data Template : Type 0 where
  the_first : Template
  the_included : Option Text → Template

abbrev mutual
  pub template_at : TreeOccurrence → Template
  template_at first_tree = the_first
  template_at (body_at occurrence time) = template_of occurrence
  template_at (inverse_at occurrence i) = template_of occurrence
  template_at (included_at occurrence name t) = the_included name

  pub template_of : Occurrence → Template
  template_of (element_in at i position) = template_at at

-- an iteration, after those around it
abbrev pub with_iteration : Time → List ℕ → List ℕ
with_iteration (as_iteration i index) iterations = iterations ++ index ∷ []
with_iteration (as_part i) iterations = iterations

-- the index of the member in the iteration of each `each` around it, outermost first
abbrev mutual
  pub iterations_at : TreeOccurrence → List ℕ
  iterations_at first_tree = []
  iterations_at (body_at occurrence time) = with_iteration time (iterations_around occurrence)
  iterations_at (inverse_at occurrence i) = iterations_around occurrence
  iterations_at (included_at occurrence name t) = iterations_around occurrence

  pub iterations_around : Occurrence → List ℕ
  iterations_around (element_in at i position) = iterations_at at

-- the template of the elements of a tree, and the iterations around them
pub record Around : Type 0 where
  pub template : Template
  pub iterations : List ℕ

abbrev pub around : TreeOccurrence → Around
around at = record { template = template_at at; iterations = iterations_at at }

-- that of an element, and its position, if it has one
pub record Whereabouts : Type 0 where
  pub around : Around
  pub position : Option Position

abbrev pub whereabouts : Occurrence → Whereabouts
whereabouts occurrence =
    record { around = record { template = template_of occurrence; iterations = iterations_around occurrence }; position = occurrence_position occurrence }
