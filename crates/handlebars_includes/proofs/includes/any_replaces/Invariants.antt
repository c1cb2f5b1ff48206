use Rattle.std.proofs.Common.{◌≡◌, ◌||◌, ℕ, List, drop, map}
use Rattle.std.specs.BTreeMap.{get_by}
use Rattle.std.specs.Cmp.Lexicographic.{slice_cmp}
use Rattle.std.specs.List.{list_any}
use Rattle.std.specs.Ordering.{nat_cmp}
use Rattle.handlebars_includes.specs.Graph.{index_of, replaces}
use Rattle.handlebars_includes.specs.View.{mention_of}
use Rattle.handlebars_includes.proofs.includes.any_replaces.Given as goal

abbrev pub invariant-mentions : goal.invariant-mentions
invariant-mentions l = (names : List (List ℕ)) → ((n : List ℕ) → get_by (λ k. slice_cmp nat_cmp n k.now) l.index ≡ index_of names n)
    → (l.found || list_any (replaces names) (map mention_of (drop l.mention-index l.mentions)))
    ≡ list_any (replaces names) (map mention_of l.mentions)
