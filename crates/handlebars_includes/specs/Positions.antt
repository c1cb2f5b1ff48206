-- The positions of elements, which may be fewer than the elements of a hand-built tree.
use Rattle.std.specs.Prelude.{List, [], ◌∷◌, Option, None, Some}
use Rattle.handlebars_template.specs.Position.{Position}

abbrev pub first_position : List Position → Option Position
first_position [] = None
first_position (p ∷ ps) = Some p

abbrev pub later_positions : List Position → List Position
later_positions [] = []
later_positions (p ∷ ps) = ps
