-- Steps that are equal up to texts have runs that are equal up to texts.
use Rattle.std.specs.Prelude.{◌<◌, ◌≤◌}
use Rattle.std.proofs.Common.{◌≡◌, ℕ, Bool, List, [], ◌++◌, refl, sym, ap, subst}
use Rattle.handlebars_base.specs.Answers.{Answer}
use Rattle.handlebars_base.specs.Reasons.{Refusal, inclusion_limit}
use Rattle.handlebars_base.specs.RenderRefusals.{plain_refusal}
use Rattle.handlebars_semantics.specs.Inclusion.{partial_for}
use Rattle.handlebars_semantics.specs.Means.{todo}
use Rattle.handlebars_semantics.specs.Pieces.{Piece}
use Rattle.handlebars_semantics.specs.Questions.{Reply, IsAnswered}
use Rattle.handlebars_semantics.specs.Runs.{Outcome, Ended, Failed, WriteFailed, NoMemory, IsOver, IsStop, Stops, mark_outcome, Runs, done, failed, wrote, got, set, asked, did, did_over, did_capture, did_capture_over, looked, below_limit, at_limit, stop, cut}
use Rattle.handlebars_semantics.specs.State.{Setting, State}
use Rattle.handlebars_semantics.specs.Steps.{Task, One, Whole, Steps, Done, Fail, Write, Get, Set, Ask, Do, Capture, Find, CheckLimit}
use Rattle.handlebars_laws.proofs.Outcomes.{in_memory_over}
use Rattle.handlebars_laws.proofs.RunLaws.{IsNotStopped, IsStop-mark_outcome}
use Rattle.handlebars_markup.specs.Blind.{IsBlindTree, IsBlindElement}
use Rattle.handlebars_markup.specs.TwoRuns.{registrations, HaveSameMarkup}
use Rattle.handlebars_markup.proofs.Marks.{HaveSameMarkup-nil, HaveSameMarkup-append}
use Rattle.handlebars_markup.proofs.States.{AreAlikeStates}
use Rattle.handlebars_markup.proofs.TwoSettings.{HasTwin, twin}

stop_in_write : (at_boolean_text : Bool) (o : Outcome) → Stops at_boolean_text o → IsStop o
stop_in_write at_boolean_text (Ended s) h = h
stop_in_write at_boolean_text (Failed r) h = h
stop_in_write at_boolean_text (WriteFailed f) h = tt
stop_in_write at_boolean_text NoMemory h = tt

module _ (p : Setting) where
  -- Both end in states that are equal up to texts, or both fail for the same reason.
  abbrev pub AreAlikeOutcomes : Outcome → Outcome → Type 0
  AreAlikeOutcomes (Ended s) (Ended t) = AreAlikeStates (registrations p.parts) s t
  AreAlikeOutcomes (Failed r) (Failed q) = r ≡ q
  AreAlikeOutcomes o q = ⊥

  abbrev pub IsBlindTask : Task → Type 0
  IsBlindTask (One occurrence e) = IsBlindElement (registrations p.parts) e
  IsBlindTask (Whole at t) = IsBlindTree (registrations p.parts) t

module _ (p : Setting) (w : HasTwin p) where
  -- The second steps do from the second state, over the other data, what the first steps do from the first state, up to
  -- texts.
  abbrev pub DoAlike : State → Steps → State → Steps → Type 0
  DoAlike s Done t Done = AreAlikeStates (registrations p.parts) s t
  DoAlike s (Fail r) t (Fail q) = r ≡ q
  DoAlike s (Write a ps k) t (Write b qs l) = HaveSameMarkup ps qs × DoAlike s k t l
  DoAlike s (Get f) t (Get g) = DoAlike s (f s) t (g t)
  DoAlike s (Set n k) t (Set m l) = DoAlike n k m l
  DoAlike s (Ask q f) t (Ask o g) = (a : Answer (Reply q)) → IsAnswered p s q a
      → (b : Answer (Reply o)) × IsAnswered (twin p w) t o b × DoAlike s (f a) t (g b)
  DoAlike s (Do x k) t (Do y l) = (x ≡ y) × IsBlindTask p x × AreAlikeStates (registrations p.parts) s t
      × ((n m : State) → AreAlikeStates (registrations p.parts) n m → DoAlike n k m l)
  DoAlike s (Capture m f) t (Capture n g) = DoAlike s m t n
      × ((ps qs : List Piece) (y z : State) → HaveSameMarkup ps qs → AreAlikeStates (registrations p.parts) y z
      → DoAlike y (f ps) z (g qs))
  DoAlike s (Find n b f) t (Find m c g) = DoAlike s (f (partial_for p.parts s n b)) t (g (partial_for p.parts t m c))
  DoAlike s (CheckLimit k) t (CheckLimit l) = (s.inclusions ≡ t.inclusions) × DoAlike s k t l
  DoAlike s k t l = ⊥

  -- These steps have a run over the other data that is equal up to texts to one with these pieces and this outcome.
  pub record RunsAlike (t : State) (l : Steps) (ps : List Piece) (o : Outcome) : Type 0 where
    pub pieces : List Piece
    pub outcome : Outcome
    pub runs : Runs (twin p w) l t pieces outcome
    pub same : HaveSameMarkup ps pieces
    pub ends : AreAlikeOutcomes p o outcome

  -- such a run, if it ends well
  record EndsAlike (t : State) (l : Steps) (ps : List Piece) (n : State) : Type 0 where
    pieces : List Piece
    next : State
    runs : Runs (twin p w) l t pieces (Ended next)
    same : HaveSameMarkup ps pieces
    alike : AreAlikeStates (registrations p.parts) n next

  ends_as : (t : State) (l : Steps) (ps : List Piece) (n : State) (qs : List Piece) (o : Outcome)
      → Runs (twin p w) l t qs o → HaveSameMarkup ps qs → AreAlikeOutcomes p (Ended n) o → EndsAlike t l ps n
  ends_as t l ps n qs (Ended m) r same alike =
      record { pieces = qs; next = m; runs = r; same = same; alike = alike }
  ends_as t l ps n qs (Failed f) r same alike = absurd alike
  ends_as t l ps n qs (WriteFailed f) r same alike = absurd alike
  ends_as t l ps n qs NoMemory r same alike = absurd alike

  ends_alike : (t : State) (l : Steps) (ps : List Piece) (n : State) → RunsAlike t l ps (Ended n) → EndsAlike t l ps n
  ends_alike t l ps n z = ends_as t l ps n z.pieces z.outcome z.runs z.same z.ends

  -- such a run, if it is over before its end
  record IsOverAlike (t : State) (l : Steps) (ps : List Piece) (o : Outcome) : Type 0 where
    pieces : List Piece
    why : Refusal
    is : o ≡ Failed why
    runs : Runs (twin p w) l t pieces (Failed why)
    same : HaveSameMarkup ps pieces

  is_over_as : (t : State) (l : Steps) (ps : List Piece) (o q : Outcome) (qs : List Piece) → IsOver o → IsNotStopped o
      → Runs (twin p w) l t qs q → HaveSameMarkup ps qs → AreAlikeOutcomes p o q → IsOverAlike t l ps o
  is_over_as t l ps (Failed f) (Failed g) qs over whole r same alike =
      record { pieces = qs; why = g; is = ap (λ z. Failed z) alike; runs = r; same = same }
  is_over_as t l ps (Failed f) (Ended n) qs over whole r same alike = absurd alike
  is_over_as t l ps (Failed f) (WriteFailed g) qs over whole r same alike = absurd alike
  is_over_as t l ps (Failed f) NoMemory qs over whole r same alike = absurd alike
  is_over_as t l ps (Ended n) q qs over whole r same alike = absurd over
  is_over_as t l ps (WriteFailed f) q qs over whole r same alike = absurd (whole tt)
  is_over_as t l ps NoMemory q qs over whole r same alike = absurd (whole tt)

  is_over_alike : (t : State) (l : Steps) (ps : List Piece) (o : Outcome) → IsOver o → IsNotStopped o → RunsAlike t l ps o
      → IsOverAlike t l ps o
  is_over_alike t l ps o over whole z = is_over_as t l ps o z.outcome z.pieces over whole z.runs z.same z.ends

  failed_alike : (o : Outcome) (f : Refusal) → o ≡ Failed f → AreAlikeOutcomes p o (Failed f)
  failed_alike o f is = subst (λ (z : Outcome). AreAlikeOutcomes p z (Failed f)) (sym is) refl

  marked_alike : (x y : Task) (o : Outcome) (f : Refusal) → x ≡ y → o ≡ Failed f
      → AreAlikeOutcomes p (mark_outcome x o) (mark_outcome y (Failed f))
  marked_alike x y o f same is =
      subst (λ (z : Task). AreAlikeOutcomes p (mark_outcome x o) (mark_outcome z (Failed f))) same
      (subst (λ (z : Outcome). AreAlikeOutcomes p (mark_outcome x z) (mark_outcome x (Failed f))) (sym is) refl)

  same_task : (x y : Task) (t : State) (ps : List Piece) (o : Outcome) → x ≡ y → Runs (twin p w) (todo x) t ps o
      → Runs (twin p w) (todo y) t ps o
  same_task x y t ps o same r = subst (λ (z : Task). Runs (twin p w) (todo z) t ps o) same r

  -- by what is shown of all tasks
  module _ (tasks : (x : Task) (s t : State) → IsBlindTask p x → AreAlikeStates (registrations p.parts) s t
      → DoAlike s (todo x) t (todo x)) where
    pub runs_alike : {k : Steps} {s : State} {ps : List Piece} {o : Outcome} → Runs p k s ps o → IsNotStopped o → (l : Steps)
        (t : State) → DoAlike s k t l → RunsAlike t l ps o
    runs_alike done h Done t e =
        record { pieces = []; outcome = Ended t; runs = done; same = HaveSameMarkup-nil; ends = e }
    runs_alike done h l t e = absurd e
    runs_alike failed h (Fail q) t e =
        record { pieces = []; outcome = Failed q; runs = failed; same = HaveSameMarkup-nil; ends = e }
    runs_alike failed h l t e = absurd e
    runs_alike (wrote {xs = xs} {ps = ps} r) h (Write b ys l) t e =
        let z = runs_alike r h l t e.1 in
        record {
          pieces = ys ++ z.pieces;
          outcome = z.outcome;
          runs = wrote z.runs;
          same = HaveSameMarkup-append xs ys ps z.pieces e.0 z.same;
          ends = z.ends;
        }
    runs_alike (wrote r) h l t e = absurd e
    runs_alike (got r) h (Get g) t e =
        let z = runs_alike r h (g t) t e in
        record { pieces = z.pieces; outcome = z.outcome; runs = got z.runs; same = z.same; ends = z.ends }
    runs_alike (got r) h l t e = absurd e
    runs_alike (set r) h (Set m l) t e =
        let z = runs_alike r h l m e in
        record { pieces = z.pieces; outcome = z.outcome; runs = set z.runs; same = z.same; ends = z.ends }
    runs_alike (set r) h l t e = absurd e
    runs_alike (asked a i r) h (Ask q g) t e =
        let y = e a i in
        let z = runs_alike r h (g y.0) t y.2 in
        record { pieces = z.pieces; outcome = z.outcome; runs = asked y.0 y.1 z.runs; same = z.same; ends = z.ends }
    runs_alike (asked a i r) h l t e = absurd e
    runs_alike (did {s = s} {next = n} {t = x} {ps = ps} {qs = qs} a b) h (Do y l) t e =
        let one = ends_alike t (todo x) ps n (runs_alike a (λ z. z) (todo x) t (tasks x s t e.1 e.2)) in
        let two = runs_alike b h l one.next (e.3 n one.next one.alike) in
        record {
          pieces = one.pieces ++ two.pieces;
          outcome = two.outcome;
          runs = did (same_task x y t one.pieces (Ended one.next) e.0 one.runs) two.runs;
          same = HaveSameMarkup-append ps one.pieces qs two.pieces one.same two.same;
          ends = two.ends;
        }
    runs_alike (did a b) h l t e = absurd e
    runs_alike (did_over {s = s} {t = x} {ps = ps} {o = o} a over) h (Do y l) t e =
        let whole : IsNotStopped o = λ i. h (IsStop-mark_outcome x o i) in
        let one = is_over_alike t (todo x) ps o over whole (runs_alike a whole (todo x) t (tasks x s t e.1 e.2)) in
        record {
          pieces = one.pieces;
          outcome = mark_outcome y (Failed one.why);
          runs = did_over (same_task x y t one.pieces (Failed one.why) e.0 one.runs) tt;
          same = one.same;
          ends = marked_alike x y o one.why e.0 one.is;
        }
    runs_alike (did_over a over) h l t e = absurd e
    runs_alike (did_capture {next = n} {ps = ps} a b) h (Capture m g) t e =
        let one = ends_alike t m ps n (runs_alike a (λ z. z) m t e.0) in
        let two = runs_alike b h (g one.pieces) one.next (e.1 ps one.pieces n one.next one.same one.alike) in
        record {
          pieces = two.pieces;
          outcome = two.outcome;
          runs = did_capture one.runs two.runs;
          same = two.same;
          ends = two.ends;
        }
    runs_alike (did_capture a b) h l t e = absurd e
    runs_alike (did_capture_over {ps = ps} {o = o} a over) h (Capture m g) t e =
        let one = is_over_alike t m ps o (in_memory_over o over) h (runs_alike a h m t e.0) in
        record {
          pieces = [];
          outcome = Failed one.why;
          runs = did_capture_over one.runs tt;
          same = HaveSameMarkup-nil;
          ends = failed_alike o one.why one.is;
        }
    runs_alike (did_capture_over a over) h l t e = absurd e
    runs_alike (looked r) h (Find n b g) t e =
        let z = runs_alike r h (g (partial_for p.parts t n b)) t e in
        record { pieces = z.pieces; outcome = z.outcome; runs = looked z.runs; same = z.same; ends = z.ends }
    runs_alike (looked r) h l t e = absurd e
    runs_alike (below_limit below r) h (CheckLimit l) t e =
        let z = runs_alike r h l t e.1 in
        record {
          pieces = z.pieces;
          outcome = z.outcome;
          runs = below_limit (subst (λ (n : ℕ). n < p.parts.limit) e.0 below) z.runs;
          same = z.same;
          ends = z.ends;
        }
    runs_alike (below_limit below r) h l t e = absurd e
    runs_alike (at_limit over) h (CheckLimit l) t e = record {
      pieces = [];
      outcome = Failed (plain_refusal (inclusion_limit p.parts.limit));
      runs = at_limit (subst (λ (n : ℕ). p.parts.limit ≤ n) e.0 over);
      same = HaveSameMarkup-nil;
      ends = refl;
    }
    runs_alike (at_limit over) h l t e = absurd e
    runs_alike stop h l t e = absurd (h tt)
    runs_alike (cut {at_boolean_text = b} {o = o} i f) h l t e = absurd (h (stop_in_write b o i))
