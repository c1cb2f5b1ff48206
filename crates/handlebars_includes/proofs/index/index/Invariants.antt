use Rattle.std.proofs.Common.{◌≡◌, ℕ, List, drop, map}
use Rattle.std.specs.BTreeMap.{get_by}
use Rattle.std.specs.Cmp.Lexicographic.{slice_cmp}
use Rattle.std.specs.Ordering.{nat_cmp}
use Rattle.handlebars_includes.specs.Graph.{index_among, index_of}
use Rattle.handlebars_includes.specs.View.{name_of}
use Rattle.handlebars_includes.proofs.index.index.Given as goal

-- What is found so far, and then in what is left, is what is found in all.
abbrev pub invariant-templates : goal.invariant-templates
invariant-templates l = (n : List ℕ)
    → index_among l.i (map name_of (drop l.i l.templates)) n (get_by (λ k. slice_cmp nat_cmp n k.now) l.index)
    ≡ index_of (map name_of l.templates) n
