-- The names of a run's inclusions, as its tags give them.
use Rattle.std.specs.Prelude.{List, [], ◌∷◌, ◌++◌}
use Rattle.handlebars_base.specs.Bytes.{Text}
use Rattle.handlebars_semantics.specs.Pieces.{Piece}
use Rattle.handlebars_semantics.specs.Runs.{Outcome, Runs, done, failed, wrote, got, set, asked, did, did_over, did_capture, did_capture_over, looked, below_limit, at_limit, stop, cut}
use Rattle.handlebars_semantics.specs.State.{Setting, State}
use Rattle.handlebars_semantics.specs.Steps.{Steps}

-- In order, each as often as it occurs, whatever is found by it. The names of inclusions in blocks that are rendered first to
-- be captured are among them, and so are those of inclusions that fail.
abbrev pub included_names : {p : Setting} {k : Steps} {s : State} {ps : List Piece} {o : Outcome} → Runs p k s ps o
    → List Text
included_names done = []
included_names failed = []
included_names (wrote r) = included_names r
included_names (got r) = included_names r
included_names (set r) = included_names r
included_names (asked a i r) = included_names r
included_names (did a b) = included_names a ++ included_names b
included_names (did_over a over) = included_names a
included_names (did_capture a b) = included_names a ++ included_names b
included_names (did_capture_over a over) = included_names a
included_names (looked {n = n} r) = n ∷ included_names r
included_names (below_limit lt r) = included_names r
included_names (at_limit le) = []
included_names stop = []
included_names (cut i f) = []
