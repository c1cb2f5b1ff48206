-- What a run visits: the elements that it renders, each at its occurrence, in the state before it.
use Rattle.std.specs.Prelude.{◌≢◌, List, [], ◌∷◌, ◌++◌}
use Rattle.std.specs.List.{AllByRecursion}
use Rattle.handlebars_semantics.specs.Pieces.{Piece}
use Rattle.handlebars_semantics.specs.Runs.{Outcome, Runs, done, failed, wrote, got, set, asked, did, did_over, did_capture, did_capture_over, looked, below_limit, at_limit, stop, cut}
use Rattle.handlebars_semantics.specs.Occurrences.{Occurrence}
use Rattle.handlebars_semantics.specs.State.{Setting, State}
use Rattle.handlebars_semantics.specs.Steps.{Task, One, Whole, Steps}

pub record Visit : Type 0 where
  pub occurrence : Occurrence
  pub state : State

-- a task begins in a state: an element is visited
abbrev pub arrival : Task → State → List Visit
arrival (One occurrence e) s = record { occurrence = occurrence; state = s } ∷ []
arrival (Whole at t) s = []

-- The visits of a run, in order. A run that is over before its end has none after that.
abbrev pub visits : {p : Setting} {k : Steps} {s : State} {ps : List Piece} {o : Outcome} → Runs p k s ps o → List Visit
visits done = []
visits failed = []
visits (wrote r) = visits r
visits (got r) = visits r
visits (set r) = visits r
visits (asked a i r) = visits r
visits (did {s = s} {t = t} a b) = arrival t s ++ (visits a ++ visits b)
visits (did_over {s = s} {t = t} a over) = arrival t s ++ visits a
visits (did_capture a b) = visits a ++ visits b
visits (did_capture_over a over) = visits a
visits (looked r) = visits r
visits (below_limit lt r) = visits r
visits (at_limit le) = []
visits stop = []
visits (cut i f) = []

-- No two visits are at one occurrence.
abbrev pub ComeOnce : List Visit → Type 0
ComeOnce [] = Unit {0}
ComeOnce (v ∷ vs) = AllByRecursion (λ w. w.occurrence ≢ v.occurrence) vs × ComeOnce vs
