-- How texts and tags nest, as Nest says it, by a machine that goes from piece to piece with the blocks that are open.
-- Only this crate's internal contracts cite it: public contracts cite Nest.
use Rattle.std.specs.Prelude.{ℕ, suc, ◌+◌, nat_lt, Bool, true, false, if◌then◌else◌, List, [], ◌∷◌, ◌++◌, map, Option, None, Some, option_map}
use Rattle.std.specs.Option.{option_or}
use Rattle.handlebars_template.specs.Position.{Position}
use Rattle.handlebars_template.specs.Tree.{Body, no_body}
use Rattle.handlebars_template.specs.Calls.{max_nesting}
use Rattle.handlebars_template.specs.Nest.{Opening, SourcePiece, leaf, opens, inverts, chains, closes, position_in, rejected_in, NestingError, unexpected, too_deep, mismatched, no_value, PositionedElement, body_with, Branch, block_of, names_and_literals, may_close, OpenBlock, is_allowed_in, cost}

-- the stage of an open block: in its first body, in a chained inverse, or in its inverse
pub data Stage : Type 0 where
  in_first : Stage
  in_branch : Opening → Stage
  in_inverse : Stage

abbrev pub is_in_inverse : Stage → Bool
is_in_inverse in_inverse = true
is_in_inverse s = false

-- An open block with its elements so far: its position, the content of its tag, how many levels were open around it, its
-- first body and its whole chained inverses, the stage, and the elements before it.
pub record BlockSoFar : Type 0 where
  pub position : Position
  pub opening : Opening
  pub around : ℕ
  pub first : List PositionedElement
  pub branches : List Branch
  pub stage : Stage
  pub outside : List PositionedElement

abbrev pub without_elements : BlockSoFar → OpenBlock
without_elements f = record { position = f.position; opening = f.opening; inverted = is_in_inverse f.stage }

abbrev pub open_in : List BlockSoFar → List OpenBlock
open_in fs = map without_elements fs

-- The first body, the whole chained inverses and the inverse, if the close comes after the elements of a stage.
abbrev pub first_body : Stage → List PositionedElement → List PositionedElement → List PositionedElement
first_body in_first first es = es
first_body s first es = first

abbrev pub whole_branches : Stage → List Branch → List PositionedElement → List Branch
whole_branches (in_branch g) branches es = branches ++ record { opening = g; elements = es } ∷ []
whole_branches s branches es = branches

abbrev pub last_body : Stage → List PositionedElement → Body
last_body in_inverse es = body_with es
last_body s es = no_body

-- the open block in its next stage
abbrev pub next_stage : BlockSoFar → List PositionedElement → Stage → BlockSoFar
next_stage f es next = record f {
  first = first_body f.stage f.first es;
  branches = whole_branches f.stage f.branches es;
  stage = next;
}

-- the whole block, when its close comes
abbrev pub closed_block : BlockSoFar → List PositionedElement → PositionedElement
closed_block f es = record {
  position = f.position;
  element = block_of f.opening (first_body f.stage f.first es) (whole_branches f.stage f.branches es)
      (last_body f.stage es);
}

abbrev pub new_open_block : Position → Opening → ℕ → List PositionedElement → BlockSoFar
new_open_block p o d es =
    record { position = p; opening = o; around = d; first = []; branches = []; stage = in_first; outside = es }

-- the state after a piece: how many levels are open, the open blocks and the elements of the innermost; or the error
pub data Moved : Type 0 where
  goes : ℕ → List BlockSoFar → List PositionedElement → Moved
  stops : NestingError → Moved

-- the state after a piece that is allowed
abbrev pub after_piece : SourcePiece → ℕ → List BlockSoFar → List PositionedElement → Moved
after_piece (leaf p e n r) d fs es = goes d fs (es ++ record { position = p; element = e } ∷ [])
after_piece (opens p o n r) d fs es = goes (suc d) (new_open_block p o d es ∷ fs) []
after_piece (inverts p) d (f ∷ fs) es = goes d (next_stage f es in_inverse ∷ fs) []
after_piece (chains p o n r) d (f ∷ fs) es = goes (suc d) (next_stage f es (in_branch o) ∷ fs) []
after_piece (closes p raw m) d (f ∷ fs) es = goes f.around fs (f.outside ++ closed_block f es ∷ [])
after_piece x d fs es = goes d fs es

-- ---- what the syntax rejects

-- by whether the piece is allowed there, and whether it is too deep
abbrev pub syntax_error_by : Bool → Bool → Position → Option NestingError
syntax_error_by false deep p = Some (unexpected p)
syntax_error_by true true p = Some (too_deep p)
syntax_error_by true false p = None

-- a piece that opens nothing is never too deep
abbrev pub is_too_deep : ℕ → SourcePiece → Bool
is_too_deep d (inverts p) = false
is_too_deep d (closes p raw m) = false
is_too_deep d x = nat_lt max_nesting (d + cost x)

abbrev pub early_in : ℕ → List OpenBlock → SourcePiece → Option NestingError
early_in d fs x = syntax_error_by (is_allowed_in fs x) (is_too_deep d x) (position_in x)

-- ---- what is rejected only if the whole source nests

-- the error of a close by another name
abbrev pub name_error_in : SourcePiece → List OpenBlock → Option NestingError
name_error_in (closes p raw m) (f ∷ fs) =
    if may_close names_and_literals f.opening.closing m
    then None
    else Some (mismatched f.opening.kind f.opening.closing m p)
name_error_in x fs = None

abbrev pub late_in : List OpenBlock → SourcePiece → Option NestingError
late_in fs x = option_or (option_map no_value (rejected_in x)) (name_error_in x fs)
