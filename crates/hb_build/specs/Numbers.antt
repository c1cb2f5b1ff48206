-- The numbers of names in a map.
use Rattle.std.specs.Prelude.{ℕ, Option}
use Rattle.std.specs.Borrow.{Bor}
use Rattle.std.specs.BTreeMap.{BTreeMap, get_by}
use Rattle.std.specs.Cmp.Lexicographic.{slice_cmp}
use Rattle.std.specs.Ordering.{nat_cmp}
use Rattle.hb_build.specs.Name.{Name}

-- the number of a name in the map
abbrev pub number_in : BTreeMap (Bor Name) ℕ → Name → Option ℕ
number_in numbers name = get_by (λ k. slice_cmp nat_cmp name k.now) numbers
