use Rattle.std.proofs.Common.{◌≡◌, map, string_bytes, take}
use Rattle.hb.proofs.gathering.Gathered.pages.Given as goal

abbrev pub invariant-pages : goal.invariant-pages
invariant-pages l = map (λ p. p.now) l.pages.items ≡ map string_bytes (take l.name-index l.name-items)
