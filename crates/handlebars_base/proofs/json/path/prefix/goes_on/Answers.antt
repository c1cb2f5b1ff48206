use Rattle.std.proofs.Common.{◌≡◌, ◌<◌, ◌-◌, ℕ, List, length, take, drop, arith, length-drop}
use Rattle.std.proofs.lemmas.List.{take_all}
use Rattle.handlebars_base.proofs.ReferenceLength.{goes_on-nil, goes_on-bracket, goes_on-byte}
use Rattle.handlebars_base.proofs.json.path.prefix.goes_on.Goals as goal

after_first_mark : (t : List ℕ) → take (length t - 1) (drop 1 t) ≡ drop 1 t
after_first_mark t = take_all (length t - 1) (drop 1 t) (omega (arith, length-drop 1 t))

pub returns-in_default : goal.returns-in_default
returns-in_default c =
    let none : length c.as_bytes.result.now ≡ 0 = omega arith in
    rw (← c.as_bytes.ensures.value) (goes_on-nil c.as_bytes.result.now none)

pub returns-then-first-eq91 : goal.returns-then-first-eq91
returns-then-first-eq91 c =
    let some : 0 < length c.as_bytes.result.now = omega arith in
    rw (c.is_some.ensures, c.closing.ensures, after_first_mark c.as_bytes.result.now, ← c.as_bytes.ensures.value)
    (goes_on-bracket c.as_bytes.result.now some c.if-first-eq91.true)

pub returns-else-first-eq91 : goal.returns-else-first-eq91
returns-else-first-eq91 c =
    let some : 0 < length c.as_bytes.result.now = omega arith in
    rw (c.is_reference_byte.ensures, ← c.as_bytes.ensures.value)
    (goes_on-byte c.as_bytes.result.now some c.if-first-eq91.false)
