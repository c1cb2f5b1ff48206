-- The order of problems: by file, then by where they start, then by code.
use Rattle.std.specs.declared.cmp.Ordering.{Ordering}
use Rattle.std.specs.Ordering.{nat_cmp, ordering_then}
use Rattle.std.specs.Cmp.Lexicographic.{slice_cmp}
use Rattle.handlebars_report.specs.Problem.{Problem}

abbrev pub problem_cmp : Problem → Problem → Ordering
problem_cmp p q = ordering_then (slice_cmp nat_cmp p.place.path q.place.path)
    (ordering_then (nat_cmp p.place.start.offset q.place.start.offset) (slice_cmp nat_cmp p.code q.code))
