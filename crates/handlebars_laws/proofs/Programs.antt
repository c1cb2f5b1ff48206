-- How what a law says is shown of a program: if it holds of what comes next, it holds from the program on.
use Rattle.std.proofs.Common.{◌≡◌, ℕ, ◌+◌, ◌≤◌, false, refl, arith}
use Rattle.handlebars_base.specs.Answers.{Answer, gives, fails}
use Rattle.handlebars_base.specs.Bytes.{Text}
use Rattle.handlebars_base.specs.Reasons.{Refusal}
use Rattle.handlebars_template.specs.Tree.{Tree, Body, no_body, body}
use Rattle.handlebars_scope.specs.LineState.{LineState}
use Rattle.handlebars_scope.specs.Scopes.{Frame}
use Rattle.handlebars_semantics.specs.Execute.{in_scope_frame, render_branch}
use Rattle.handlebars_semantics.specs.Means.{without_escaping, on_line}
use Rattle.handlebars_semantics.specs.Pieces.{Origin, put}
use Rattle.handlebars_semantics.specs.Questions.{Question, Reply, IsAnswered}
use Rattle.handlebars_semantics.specs.Occurrences.{TreeOccurrence}
use Rattle.handlebars_semantics.specs.State.{Setting, State, push_frame, pop_frame}
use Rattle.handlebars_semantics.specs.Steps.{Task, Whole, Steps, Get, Set, Prog, return, ◌>>=◌, ◌>>◌, answer, ask}
use Rattle.handlebars_semantics.specs.Writing.{write_text}
use Rattle.handlebars_laws.proofs.Law.{Law, HoldsThrough}
use Rattle.handlebars_laws.proofs.Closed.{Closed}

-- numbers to which a program may come: those up to one, or any
abbrev pub upto : ℕ → ℕ → Type 0
upto n j = j ≤ n

abbrev pub any : ℕ → Type 0
any j = Unit {0}

module _ (p : Setting) (law : Law) (x : Task) where
  -- It holds of these steps in each state next to this one, from each of these numbers on.
  abbrev pub After : (ℕ → State → Type 0) → (ℕ → Type 0) → State → Steps → Type 0
  After end to s k = (j : ℕ) (z : State) → to j → law.IsNext s z → HoldsThrough p law x end j z k

  -- From a number up to n the program comes to one of the others, and to a state next to this one.
  abbrev pub LeadsThrough : ℕ → (ℕ → Type 0) → State → Prog (Unit {0}) → Type 1
  LeadsThrough n to s m = law.IsWell s → (end : ℕ → State → Type 0) (i : ℕ) → i ≤ n → (next : Unit {0} → Steps)
      → After end to s (next tt) → HoldsThrough p law x end i s (m next)

  pub LeadsThrough-any : {n m : ℕ} {s : State} (k : Prog (Unit {0})) → LeadsThrough n (upto m) s k → LeadsThrough n any s k
  LeadsThrough-any k f h end i le next g = f h end i le next (λ j z to is. g j z tt is)

  answer-holds : (end : ℕ → State → Type 0) (n : ℕ) (s : State) (q : Question) (f : Reply q → Steps)
      → ((r : Refusal) → IsAnswered p s q (fails r) → law.MayFail r.reason)
      → ((v : Reply q) → IsAnswered p s q (gives v) → HoldsThrough p law x end n s (f v))
      → (a : Answer (Reply q)) → IsAnswered p s q a → HoldsThrough p law x end n s (answer a f)
  answer-holds end n s q f may h (gives v) is = h v is
  answer-holds end n s q f may h (fails r) is = may r is

  -- It may fail for what the question fails for.
  pub ask-holds : (end : ℕ → State → Type 0) (n : ℕ) (s : State) (q : Question) (f : Reply q → Steps)
      → ((r : Refusal) → IsAnswered p s q (fails r) → law.MayFail r.reason)
      → ((v : Reply q) → IsAnswered p s q (gives v) → HoldsThrough p law x end n s (f v)) → HoldsThrough p law x end n s (ask q f)
  ask-holds end n s q f may h = (λ r. refl, answer-holds end n s q f may h)

module _ (p : Setting) (law : Law) (closed : Closed p law) (x : Task) where
  pub return-holds : {n : ℕ} (s : State) → LeadsThrough p law x n any s (return tt)
  return-holds s h end i le next g = g i s tt (closed.same_next h)

  pub write_text-holds : (s : State) (o : Origin) (t : Text) → (law.IsWell s → law.MayWrite (put o s.indent t s.line).0)
      → LeadsThrough p law x 0 any s (write_text o t)
  unfolding ◌>>=◌ ◌>>◌
  write_text-holds s o t written h end i le next g = (written h, g i _ tt (closed.line_next _ h))

  pub in_scope_frame-holds : {n : ℕ} {to : ℕ → Type 0} (s : State) (f : Frame) (m : Prog (Unit {0})) → law.MayEnter f
      → LeadsThrough p law x n to (push_frame f s) m → LeadsThrough p law x n to s (in_scope_frame f m)
  unfolding ◌>>=◌ ◌>>◌
  in_scope_frame-holds s f m may inner h end i le next g =
      inner (closed.block_well may h) end i le (λ u. Get (λ n. Set (pop_frame n) (next tt)))
      (λ j n to is. g j (pop_frame n) to (closed.block_next is))

  pub on_line-holds : {n : ℕ} {to : ℕ → Type 0} (s : State) (enter : LineState → LineState) (m : Prog (Unit {0}))
      → LeadsThrough p law x n to (record s { line = enter s.line }) m → LeadsThrough p law x n to s (on_line enter m)
  unfolding ◌>>=◌ ◌>>◌
  on_line-holds s enter m inner h end i le next g =
      let first = closed.line_next (enter s.line) h in
      inner (closed.next_well first) end i le _ (λ j n to is.
      g j _ to (closed.then_next first (closed.then_next is (closed.line_next _ (closed.next_well is)))))

  pub without_escaping-holds : {n : ℕ} {to : ℕ → Type 0} (s : State) (m : Prog (Unit {0}))
      → LeadsThrough p law x n to (record s { escapes = false }) m → LeadsThrough p law x n to s (without_escaping m)
  unfolding ◌>>=◌ ◌>>◌
  without_escaping-holds s m inner h end i le next g =
      inner (closed.raw_well h) end i le _ (λ j n to is. g j _ to (closed.raw_next is))

  pub render_branch-holds : (n : ℕ) (at : TreeOccurrence) (b : Body) (s : State)
      → ((t : Tree) → b ≡ body t → law.IsWell s → law.IsPart x n s (Whole at t))
      → ((t : Tree) → b ≡ body t → (z : State) → law.IsAfter (Whole at t) s z → law.IsNext s z)
      → LeadsThrough p law x n (upto (n + 1)) s (render_branch at b)
  render_branch-holds n at no_body s part after h end i le next g = g i s (omega (arith, le)) (closed.same_next h)
  render_branch-holds n at (body t) s part after h end i le next g =
      (n, le, part t refl h, λ z is. g (n + 1) z (omega arith) (after t refl z is))
