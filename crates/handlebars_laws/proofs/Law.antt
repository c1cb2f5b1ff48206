-- What a law says along a run, and that it holds of each run whose steps are as it says.
use Rattle.std.proofs.Common.{◌≡◌, ℕ, ◌+◌, ◌≤◌, Bool, List, [], ◌++◌, subst, append_assoc, arith}
use Rattle.handlebars_base.specs.Answers.{Answer, fails}
use Rattle.handlebars_base.specs.Reasons.{Reason, Refusal, inclusion_limit}
use Rattle.handlebars_template.specs.Tree.{Element}
use Rattle.handlebars_scope.specs.Scopes.{Frame}
use Rattle.handlebars_semantics.specs.Inclusion.{partial_for}
use Rattle.handlebars_semantics.specs.Means.{todo}
use Rattle.handlebars_semantics.specs.Pieces.{Piece}
use Rattle.handlebars_semantics.specs.Questions.{Reply, IsAnswered}
use Rattle.handlebars_semantics.specs.Runs.{Outcome, Ended, Failed, WriteFailed, NoMemory, IsOver, IsOverInMemory, Stops, mark_outcome, Prefix, Runs, done, failed, wrote, got, set, asked, did, did_over, did_capture, did_capture_over, looked, below_limit, at_limit, stop, cut}
use Rattle.handlebars_semantics.specs.Occurrences.{Occurrence}
use Rattle.handlebars_semantics.specs.State.{Setting, State}
use Rattle.handlebars_semantics.specs.Steps.{Task, Steps, Done, Fail, Write, Get, Set, Ask, Do, Capture, Find, CheckLimit}
use Rattle.handlebars_semantics.specs.Visits.{Visit, arrival, visits}

-- What a law says. The parts of a part have numbers, which grow in the order of the run; a law may use them or not.
pub record Law : Type 1 where
  -- of a state, of one after another, and of a scope frame that is entered
  pub IsWell : State → Type 0
  pub IsNext : State → State → Type 0
  pub MayEnter : Frame → Type 0
  -- of an element to which the run comes in a state; and of a state in which steps of the element at an occurrence go on, to
  -- which the run came in another one
  pub ComesTo : Occurrence → Element → State → Type 0
  pub Fits : Occurrence → State → State → Type 0
  -- of a part that begins in a state, and of one that is the part of this number of another
  pub Begins : Task → State → Type 0
  pub IsPart : Task → ℕ → State → Task → Type 0
  -- of a part that begins in a state and ends in another one; and of a tree that begins in a state, so many elements of which
  -- are rendered when it is in another one
  pub IsAfter : Task → State → State → Type 0
  pub IsAmid : Task → ℕ → State → State → Type 0
  -- of why a run fails
  pub MayFail : Reason → Type 0
  -- of what is written
  pub MayWrite : List Piece → Type 0
  -- of visits that are known in advance, and of those within parts of a part, from a number on and below another one
  pub AreKnown : List Visit → Type 0
  pub AreIn : Task → ℕ → ℕ → List Visit → Type 0

-- ---- steps

module _ (p : Setting) (law : Law) (x : Task) where
  -- These steps of the part x are as the law says, from a state and from a number of parts on. Where they are done, the first
  -- argument holds of the number and the state to which they came. If a question fails, nothing follows.
  abbrev pub HoldsThrough : (ℕ → State → Type 0) → ℕ → State → Steps → Type 0
  HoldsThrough end n s Done = end n s
  HoldsThrough end n s (Fail r) = law.MayFail r.reason
  HoldsThrough end n s (Write at_boolean_text ps k) = law.MayWrite ps × HoldsThrough end n s k
  HoldsThrough end n s (Get f) = HoldsThrough end n s (f s)
  HoldsThrough end n s (Set z k) = HoldsThrough end n z k
  HoldsThrough end n s (Ask q f) =
      ((r : Refusal) → f (fails r) ≡ Fail r) × ((a : Answer (Reply q)) → IsAnswered p s q a → HoldsThrough end n s (f a))
  HoldsThrough end n s (Do t k) =
      (m : ℕ) × (n ≤ m) × law.IsPart x m s t × ((z : State) → law.IsAfter t s z → HoldsThrough end (m + 1) z k)
  HoldsThrough end n s (Capture m f) = HoldsThrough (λ j z. (ps : List Piece) → law.MayWrite ps → HoldsThrough end j z (f ps)) n s m
  HoldsThrough end n s (Find name b f) = HoldsThrough end n s (f (partial_for p.parts s name b))
  HoldsThrough end n s (CheckLimit k) = law.MayFail (inclusion_limit p.parts.limit) × HoldsThrough end n s k

-- What a law has to satisfy, so that it holds of runs: a part of another begins, pieces and visits are joined, and pieces are
-- cut off where a run stops.
pub record IsSound (law : Law) : Type 0 where
  pub part_begins : {x t : Task} {m : ℕ} {s : State} → law.IsPart x m s t → law.Begins t s
  pub none_written : law.MayWrite []
  pub join_written : (xs ys : List Piece) → law.MayWrite xs → law.MayWrite ys → law.MayWrite (xs ++ ys)
  pub prefix_written : {xs ys : List Piece} → Prefix xs ys → law.MayWrite ys → law.MayWrite xs
  pub first_known : (xs ys : List Visit) → law.AreKnown (xs ++ ys) → law.AreKnown xs
  pub later_known : (xs ys : List Visit) → law.AreKnown (xs ++ ys) → law.AreKnown ys
  pub none_in : (x : Task) (n : ℕ) → law.AreIn x n n []
  pub part_in : (x t : Task) (n m i : ℕ) (s : State) (vs : List Visit) → n ≤ m → law.IsPart x m s t → law.AreIn t 0 i vs
      → law.AreIn x n (m + 1) (arrival t s ++ vs)
  pub join_in : (x : Task) (n m i : ℕ) (xs ys : List Visit) → n ≤ m → m ≤ i → law.AreIn x n m xs → law.AreIn x m i ys
      → law.AreIn x n i (xs ++ ys)

-- ---- runs

-- the run ended in such a state, or failed for a reason that the law allows
abbrev pub EndsIn : Law → (State → Type 0) → Outcome → Type 0
EndsIn law end (Ended s) = end s
EndsIn law end (Failed r) = law.MayFail r.reason
EndsIn law end (WriteFailed f) = Unit {0}
EndsIn law end NoMemory = Unit {0}

module _ (law : Law) (a b : State → Type 0) where
  EndsIn-over : (t : Task) (o : Outcome) → IsOver o → EndsIn law a o → EndsIn law b (mark_outcome t o)
  EndsIn-over t (Ended s) over is = absurd over
  EndsIn-over t (Failed r) over is = is
  EndsIn-over t (WriteFailed f) over is = tt
  EndsIn-over t NoMemory over is = tt

  EndsIn-in_memory : (o : Outcome) → IsOverInMemory o → EndsIn law a o → EndsIn law b o
  EndsIn-in_memory (Ended s) over is = absurd over
  EndsIn-in_memory (Failed r) over is = is
  EndsIn-in_memory (WriteFailed f) over is = tt
  EndsIn-in_memory NoMemory over is = tt

EndsIn-stop : (law : Law) (end : State → Type 0) (w : Bool) (o : Outcome) → Stops w o → EndsIn law end o
EndsIn-stop law end w (Ended s) is = absurd is
EndsIn-stop law end w (Failed r) is = absurd is
EndsIn-stop law end w (WriteFailed f) is = tt
EndsIn-stop law end w NoMemory is = tt

-- What holds of a run of steps of the part x, from a number of parts on: it came to some number, what it wrote and visited is
-- as the law says, and what is required of its end holds.
pub record Obeys (law : Law) (x : Task) (end : ℕ → State → Type 0) (n : ℕ) (ps : List Piece) (o : Outcome) (vs : List Visit)
    : Type 0 where
  pub to : ℕ
  pub le : n ≤ to
  pub written : law.MayWrite ps
  pub ends : EndsIn law (end to) o
  pub are_in : law.AreIn x n to vs

-- The steps of each part that begins are as the law says, and end as it says.
abbrev pub PlanHolds : Setting → Law → Type 0
PlanHolds p law = (t : Task) (s : State) → law.Begins t s → law.AreKnown (arrival t s)
    → HoldsThrough p law t (λ n z. law.IsAfter t s z) 0 s (todo t)

module _ (p : Setting) (law : Law) (sound : IsSound law) (plan : PlanHolds p law) where
  Obeys-none : (x : Task) (end : ℕ → State → Type 0) (n : ℕ) (o : Outcome) → EndsIn law (end n) o
      → Obeys law x end n [] o []
  Obeys-none x end n o ends =
      record { to = n; le = omega arith; written = sound.none_written; ends = ends; are_in = sound.none_in x n }

  pub Runs-obeys : {k : Steps} {s : State} {ps : List Piece} {o : Outcome} (r : Runs p k s ps o) (x : Task)
      (end : ℕ → State → Type 0) (n : ℕ) → HoldsThrough p law x end n s k → law.AreKnown (visits r)
      → Obeys law x end n ps o (visits r)
  Runs-obeys done x end n h known = Obeys-none x end n _ h
  Runs-obeys failed x end n h known = Obeys-none x end n _ h
  Runs-obeys (wrote {xs = xs} {ps = ps} r) x end n h known =
      let rest = Runs-obeys r x end n h.1 known in record {
        to = rest.to;
        le = rest.le;
        written = sound.join_written xs ps h.0 rest.written;
        ends = rest.ends;
        are_in = rest.are_in;
      }
  Runs-obeys (got r) x end n h known = Runs-obeys r x end n h known
  Runs-obeys (set r) x end n h known = Runs-obeys r x end n h known
  Runs-obeys (asked a i r) x end n h known = Runs-obeys r x end n (h.1 a i) known
  Runs-obeys (did {s = s} {next = z} {t = t} {ps = ps} {qs = qs} a b) x end n h known =
      let arrives = sound.first_known (arrival t s) (visits a ++ visits b) known in
      let after = sound.later_known (arrival t s) (visits a ++ visits b) known in
      let part = Runs-obeys a t (λ j y. law.IsAfter t s y) 0 (plan t s (sound.part_begins h.2) arrives)
      (sound.first_known (visits a) (visits b) after) in
      let rest = Runs-obeys b x end (h.0 + 1) (h.3 z part.ends) (sound.later_known (visits a) (visits b) after) in
      let m : ℕ = h.0 in
      let le : n ≤ m = h.1 in
      let far : m + 1 ≤ rest.to = rest.le in
      record {
        to = rest.to;
        le = omega (arith, le, far);
        written = sound.join_written ps qs part.written rest.written;
        ends = rest.ends;
        are_in = subst (law.AreIn x n rest.to) (append_assoc (arrival t s) (visits a) (visits b))
            (sound.join_in x n (m + 1) rest.to (arrival t s ++ visits a) (visits b) (omega (arith, le)) far
            (sound.part_in x t n m part.to s (visits a) le h.2 part.are_in) rest.are_in);
      }
  Runs-obeys (did_over {s = s} {t = t} {o = o} a over) x end n h known =
      let arrives = sound.first_known (arrival t s) (visits a) known in
      let part = Runs-obeys a t (λ j y. law.IsAfter t s y) 0 (plan t s (sound.part_begins h.2) arrives)
      (sound.later_known (arrival t s) (visits a) known) in
      let m : ℕ = h.0 in
      let le : n ≤ m = h.1 in
      record {
        to = m + 1;
        le = omega (arith, le);
        written = part.written;
        ends = EndsIn-over law (λ y. law.IsAfter t s y) (end (m + 1)) t o over part.ends;
        are_in = sound.part_in x t n m part.to s (visits a) le h.2 part.are_in;
      }
  Runs-obeys (did_capture {next = z} {f = f} {ps = ps} a b) x end n h known =
      let first = Runs-obeys a x (λ j y. (ws : List Piece) → law.MayWrite ws → HoldsThrough p law x end j y (f ws)) n h
      (sound.first_known (visits a) (visits b) known) in
      let rest = Runs-obeys b x end first.to (first.ends ps first.written)
      (sound.later_known (visits a) (visits b) known) in
      let le : n ≤ first.to = first.le in
      let far : first.to ≤ rest.to = rest.le in
      record {
        to = rest.to;
        le = omega (arith, le, far);
        written = rest.written;
        ends = rest.ends;
        are_in = sound.join_in x n first.to rest.to (visits a) (visits b) le far first.are_in rest.are_in;
      }
  Runs-obeys (did_capture_over {f = f} {o = o} a over) x end n h known =
      let goes_on = λ (j : ℕ) (y : State). (ws : List Piece) → law.MayWrite ws → HoldsThrough p law x end j y (f ws) in
      let first = Runs-obeys a x goes_on n h known in
      record {
        to = first.to;
        le = first.le;
        written = sound.none_written;
        ends = EndsIn-in_memory law (goes_on first.to) (end first.to) o over first.ends;
        are_in = first.are_in;
      }
  Runs-obeys (looked r) x end n h known = Runs-obeys r x end n h known
  Runs-obeys (below_limit lt r) x end n h known = Runs-obeys r x end n h.1 known
  Runs-obeys (at_limit le) x end n h known = Obeys-none x end n _ h.0
  Runs-obeys stop x end n h known = Obeys-none x end n _ tt
  Runs-obeys (cut {at_boolean_text = w} {o = o} i f) x end n h known = record {
    to = n;
    le = omega arith;
    written = sound.prefix_written f h.0;
    ends = EndsIn-stop law (end n) w o i;
    are_in = sound.none_in x n;
  }
