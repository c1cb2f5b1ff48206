use Rattle.std.proofs.Common.{take}
use Rattle.std.specs.List.{All}
use Rattle.hb_build.specs.Name.{IsAcceptable, IsNumbering, names_of}
use Rattle.hb_build.specs.Numbers.{number_in}
use Rattle.hb_build.proofs.checks.number_names.Given as goal

-- the names so far are acceptable, and have their numbers
abbrev pub invariant-loop-item : goal.invariant-loop-item
invariant-loop-item l = record {
  numbered : IsNumbering (names_of (take l.item l.names)) (number_in l.numbers);
  acceptable : All IsAcceptable (names_of (take l.item l.names));
}
