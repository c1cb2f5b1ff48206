-- Runs without sections are the same with them, except those that fail for a name without a helper.
use Rattle.std.proofs.Common.{◌≡◌, ◌≢◌, ℕ, ◌+◌, true, false, List, [], sym, ap, subst, arith}
use Rattle.handlebars_base.specs.Answers.{Answer, gives, fails}
use Rattle.handlebars_base.specs.Bytes.{Text}
use Rattle.handlebars_base.specs.Reasons.{Refusal, helper_not_found}
use Rattle.handlebars_template.specs.Tree.{Param}
use Rattle.handlebars_helpers.specs.CallView.{CallView}
use Rattle.handlebars_semantics.specs.Asks.{Asks, ◌>>=◌, goes_on, first_fails}
use Rattle.handlebars_semantics.specs.Laws.{IsNotForHelper, with_sections, SameWithSections}
use Rattle.handlebars_semantics.specs.Pieces.{Piece}
use Rattle.handlebars_semantics.specs.Questions.{Question, Reply, IsAnswered}
use Rattle.handlebars_semantics.specs.Runs.{Outcome, Ended, Failed, WriteFailed, NoMemory, mark_outcome, Runs, done, failed, wrote, got, set, asked, did, did_over, did_capture, did_capture_over, looked, below_limit, at_limit, stop, cut}
use Rattle.handlebars_semantics.specs.Sections.{HasSectionIf}
use Rattle.handlebars_semantics.specs.Occurrences.{first_tree}
use Rattle.handlebars_semantics.specs.State.{Setting, State}
use Rattle.handlebars_semantics.specs.Steps.{Task, Whole, Steps, Fail, Ask}
use Rattle.handlebars_laws.proofs.Law.{HoldsThrough, Runs-obeys}
use Rattle.handlebars_laws.proofs.LeftAround.{leaves_it, leaves_it-sound, leaves_it-closed}
use Rattle.handlebars_laws.proofs.OneAnswer.{fails-injective}
use Rattle.handlebars_laws.proofs.RelatedAnswers.{Relation, IsAnswered-related_with}
use Rattle.handlebars_laws.proofs.Walk.{todo-holds}

-- ---- what questions are answered

-- the answer is not an error of a call whose name has no helper
abbrev IsHelped : {A : Type 0} → Answer A → Type 0
IsHelped (gives x) = Unit {0}
IsHelped (fails r) = (n : Text) → r.reason ≢ helper_not_found n

-- each such answer of the first is one of the second
abbrev AreHelped : {A : Type 0} → Asks A → Asks A → Type 0
AreHelped m n = (a : Answer _) → IsHelped a → m a → n a

then-helped : {A B : Type 0} (m n : Asks A) (f g : A → Asks B) → AreHelped m n → ((x : A) → AreHelped (f x) (g x))
    → AreHelped (m >>= f) (n >>= g)
then-helped m n f g first next _ helped (goes_on {x = x} {a = a} i h) = goes_on (first _ tt i) (next x a helped h)
then-helped m n f g first next _ helped (first_fails i) = first_fails (first _ helped i)

abbrev helped_answers : Relation
helped_answers = record {
  Relates = λ m n. AreHelped m n;
  only_related = λ x a helped i. i;
  then_related = then-helped;
  path_related = λ n v a helped i. i;
}

module _ (all : Setting) where
  abbrev p : Setting
  p = with_sections false all

  abbrev p' : Setting
  p' = with_sections true all

  -- without sections a block that has no helper fails
  section-failed : (s : State) (q : Param) (v : CallView) (a : Answer _) → HasSectionIf false p s q v a → IsHelped a → ⊥
  section-failed s q v (gives x) i helped = cc
  section-failed s q v (fails r) i helped =
      helped v.name (ap (λ (z : Refusal). z.reason) (fails-injective _ i))

  helped_stay : (s : State) (q : Question) (a : Answer (Reply q)) → IsHelped a → IsAnswered p s q a → IsAnswered p' s q a
  helped_stay s q = IsAnswered-related_with helped_answers p (record {
    steps = λ n x a helped i. i;
    offer = λ n x a helped i. i;
    actions = λ n x a helped i. i;
    escape = λ t a helped i. i;
  }) p.parts.template p.parts.limit true s s.current
      (λ b n v a helped i. absurd (section-failed s n v a i helped)) q

  -- ---- runs

  mark_outcome-helped : (t : Task) (o : Outcome) → IsNotForHelper (mark_outcome t o) → IsNotForHelper o
  mark_outcome-helped t (Ended s) h = h
  mark_outcome-helped t (Failed r) h = h
  mark_outcome-helped t (WriteFailed f) h = h
  mark_outcome-helped t NoMemory h = h

  -- what is known of the steps of a run: if a question fails, nothing follows
  abbrev Known : Task → (ℕ → State → Type 0) → ℕ → State → Steps → Type 0
  Known x end n s k = HoldsThrough p leaves_it x end n s k

  -- A question that fails is the last one.
  failed-stays : {s : State} {q : Question} {f : Answer (Reply q) → Steps} {ps : List Piece} {o : Outcome} (r : Refusal)
      → IsAnswered p s q (fails r) → f (fails r) ≡ Fail r → Runs p (Fail r) s ps o → IsNotForHelper o
      → Runs p' (Ask q f) s ps o
  failed-stays {s = s} {q = q} r i last failed h =
      asked (fails r) (helped_stay s q (fails r) h i)
      (subst (λ (k : Steps). Runs p' k s [] (Failed r)) (sym last) failed)
  failed-stays r i last stop h = stop

  Runs-stays : {k : Steps} {s : State} {ps : List Piece} {o : Outcome} → Runs p k s ps o → (x : Task)
      (end : ℕ → State → Type 0) (n : ℕ) → Known x end n s k → IsNotForHelper o → Runs p' k s ps o
  Runs-stays done x end n g h = done
  Runs-stays failed x end n g h = failed
  Runs-stays (wrote r) x end n g h = wrote (Runs-stays r x end n g.1 h)
  Runs-stays (got r) x end n g h = got (Runs-stays r x end n g h)
  Runs-stays (set r) x end n g h = set (Runs-stays r x end n g h)
  Runs-stays {s = s} (asked {q = q} (gives v) i r) x end n g h =
      asked (gives v) (helped_stay s q (gives v) tt i) (Runs-stays r x end n (g.1 (gives v) i) h)
  Runs-stays {s = s} {ps = ps} {o = o} (asked (fails e) i r) x end n g h =
      failed-stays e i (g.0 e) (subst (λ (k : Steps). Runs p k s ps o) (g.0 e) r) h
  Runs-stays (did {s = s} {next = z} {t = t} a b) x end n g h =
      let part = todo-holds p leaves_it (leaves_it-closed p) t s tt tt in
      let obeys = Runs-obeys p leaves_it leaves_it-sound (todo-holds p leaves_it (leaves_it-closed p)) a t _ 0 part tt in
      did (Runs-stays a t _ 0 part tt) (Runs-stays b x end (g.0 + 1) (g.3 z obeys.ends) h)
  Runs-stays (did_over {s = s} {t = t} {o = o} a over) x end n g h =
      did_over (Runs-stays a t _ 0 (todo-holds p leaves_it (leaves_it-closed p) t s tt tt) (mark_outcome-helped t o h)) over
  Runs-stays (did_capture {next = z} {ps = ps} a b) x end n g h =
      let obeys = Runs-obeys p leaves_it leaves_it-sound (todo-holds p leaves_it (leaves_it-closed p)) a x _ n g tt in
      did_capture (Runs-stays a x _ n g tt) (Runs-stays b x end obeys.to (obeys.ends ps tt) h)
  Runs-stays (did_capture_over a over) x end n g h = did_capture_over (Runs-stays a x _ n g h) over
  Runs-stays (looked r) x end n g h = looked (Runs-stays r x end n g h)
  Runs-stays (below_limit lt r) x end n g h = below_limit lt (Runs-stays r x end n g.1 h)
  Runs-stays (at_limit full) x end n g h = at_limit full
  Runs-stays stop x end n g h = stop
  Runs-stays (cut i f) x end n g h = cut i f

pub runs_stay : (p : Setting) → SameWithSections p
runs_stay p t s ps o r h =
    Runs-stays p r (Whole first_tree t) (λ j z. Unit {0}) 0 (0, omega arith, tt, λ z is. tt) h
