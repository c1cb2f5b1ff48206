-- A machine that goes from piece to piece and checks the syntax alone, or names and literals too.
use Rattle.std.specs.Prelude.{ℕ, List, Option, None, Some}
use Rattle.std.specs.Option.{option_or}
use Rattle.handlebars_template.specs.Nest.{SourcePiece, leaf, opens, inverts, chains, closes, NestingError, PositionedElement, Checks, syntax_alone, names_and_literals, OpenBlock}
use Rattle.handlebars_template.specs.Machine.{BlockSoFar, open_in, Moved, stops, after_piece, early_in, late_in}

-- a late error counts if names and literals are checked
abbrev pub tried : Checks → Option NestingError → Option NestingError
tried syntax_alone late = None
tried names_and_literals late = late

abbrev pub nesting_error_in : Checks → ℕ → List OpenBlock → SourcePiece → Option NestingError
nesting_error_in t d fs x = option_or (early_in d fs x) (tried t (late_in fs x))

abbrev pub unless_error : Option NestingError → Moved → Moved
unless_error None m = m
unless_error (Some f) m = stops f

-- what a piece does to the open blocks and the elements of the innermost
abbrev pub moved_by : Checks → SourcePiece → ℕ → List BlockSoFar → List PositionedElement → Moved
moved_by t x d fs es = unless_error (nesting_error_in t d (open_in fs) x) (after_piece x d fs es)

-- Defined by cases, so that a tag is read once when this is run.
abbrev pub apply : Checks → SourcePiece → ℕ → List BlockSoFar → List PositionedElement → Moved
apply t (leaf p e n r) d fs es = moved_by t (leaf p e n r) d fs es
apply t (opens p o n r) d fs es = moved_by t (opens p o n r) d fs es
apply t (inverts p) d fs es = moved_by t (inverts p) d fs es
apply t (chains p o n r) d fs es = moved_by t (chains p o n r) d fs es
apply t (closes p raw m) d fs es = moved_by t (closes p raw m) d fs es

-- A late error that is recorded remains.
abbrev pub late_after : Option NestingError → SourcePiece → List OpenBlock → Option NestingError
late_after late x fs = option_or late (late_in fs x)
