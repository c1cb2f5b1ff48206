-- A run that is computed, of at most so many steps.
use Rattle.std.proofs.Common.{◌≡◌, ◌<◌, ◌≤◌, ℕ, zero, suc, List, ◌⊎◌, inl, inr, arith}
use Rattle.handlebars_base.specs.Bytes.{Text}
use Rattle.handlebars_template.specs.Tree.{Tree}
use Rattle.handlebars_semantics.specs.Inclusion.{partial_for}
use Rattle.handlebars_semantics.specs.Pieces.{Piece, join}
use Rattle.handlebars_semantics.specs.State.{Setting, State, first_state}
use Rattle.handlebars_semantics.specs.Steps.{Task, Steps, Done, Fail, Write, Get, Set, Ask, Do, Capture, Find, CheckLimit}
use Rattle.handlebars_semantics.specs.Means.{todo, render_tree}
use Rattle.handlebars_semantics.specs.Runs.{Outcome, Ended, Failed, WriteFailed, NoMemory, Runs, done, failed, wrote, got, set, asked, did, did_over, did_capture, did_capture_over, looked, below_limit, at_limit, stop}
use Rattle.handlebars_examples.proofs.Answered.{Knows, answer_in}
use Rattle.handlebars_semantics.specs.Answer.{Beginning, a_tree, has_begun, RenderAnswers, GivesText}

-- a run of these steps from this state
pub record RunFrom (p : Setting) (k : Steps) (s : State) : Type 0 where
  pub pieces : List Piece
  pub outcome : Outcome
  pub runs : Runs p k s pieces outcome

-- after the run of a part: what follows it, or nothing
abbrev after_part : {p : Setting} {t : Task} {k : Steps} {s : State} {ps : List Piece} (o : Outcome)
    → Runs p (todo t) s ps o → ((next : State) → RunFrom p k next) → RunFrom p (Do t k) s
after_part (Ended next) r rest = record { pieces = _; outcome = _; runs = did r (rest next).runs }
after_part (Failed f) r rest = record { pieces = _; outcome = _; runs = did_over r tt }
after_part (WriteFailed f) r rest = record { pieces = _; outcome = _; runs = did_over r tt }
after_part NoMemory r rest = record { pieces = _; outcome = _; runs = did_over r tt }

-- after the run of a capture: what follows with the captured pieces, or nothing
abbrev after_capture : {p : Setting} {m : Steps} {f : List Piece → Steps} {s : State} {ps : List Piece} (o : Outcome)
    → Runs p m s ps o → ((next : State) → RunFrom p (f ps) next) → RunFrom p (Capture m f) s
after_capture (Ended next) r rest = record { pieces = _; outcome = _; runs = did_capture r (rest next).runs }
after_capture (Failed f) r rest = record { pieces = _; outcome = _; runs = did_capture_over r tt }
after_capture (WriteFailed f) r rest = record { pieces = _; outcome = _; runs = stop }
after_capture NoMemory r rest = record { pieces = _; outcome = _; runs = did_capture_over r tt }

-- whether one number is less than another
abbrev next_less : {a b : ℕ} → (a < b) ⊎ (b ≤ a) → (suc a < suc b) ⊎ (suc b ≤ suc a)
next_less (inl lt) = inl (omega (arith, lt))
next_less (inr le) = inr (omega (arith, le))

abbrev is_less : (a b : ℕ) → (a < b) ⊎ (b ≤ a)
is_less a zero = inr (omega arith)
is_less zero (suc b) = inl (omega arith)
is_less (suc a) (suc b) = next_less (is_less a b)

-- what follows, if the limit is not reached
abbrev within_limit : {p : Setting} {k : Steps} {s : State} → (s.inclusions < p.parts.limit) ⊎ (p.parts.limit ≤ s.inclusions)
    → RunFrom p k s → RunFrom p (CheckLimit k) s
within_limit (inl lt) rest = record { pieces = _; outcome = _; runs = below_limit lt rest.runs }
within_limit (inr le) rest = record { pieces = _; outcome = _; runs = at_limit le }

-- If the steps don't suffice, the run stops on the way.
abbrev pub evaluated_run : ℕ → (p : Setting) (user : Knows p.parts) (k : Steps) (s : State) → RunFrom p k s
evaluated_run zero p user k s = record { pieces = _; outcome = _; runs = stop }
evaluated_run (suc n) p user Done s = record { pieces = _; outcome = _; runs = done }
evaluated_run (suc n) p user (Fail r) s = record { pieces = _; outcome = _; runs = failed }
evaluated_run (suc n) p user (Write w xs k) s = record { pieces = _; outcome = _; runs = wrote (evaluated_run n p user k s).runs }
evaluated_run (suc n) p user (Get f) s = record { pieces = _; outcome = _; runs = got (evaluated_run n p user (f s) s).runs }
evaluated_run (suc n) p user (Set next k) s = record { pieces = _; outcome = _; runs = set (evaluated_run n p user k next).runs }
evaluated_run (suc n) p user (Ask q f) s =
    let a = answer_in p user s q in
    record { pieces = _; outcome = _; runs = asked a.0 a.1 (evaluated_run n p user (f a.0) s).runs }
evaluated_run (suc n) p user (Do t k) s =
    let r = evaluated_run n p user (todo t) s in after_part r.outcome r.runs (λ next. evaluated_run n p user k next)
evaluated_run (suc n) p user (Capture m f) s =
    let r = evaluated_run n p user m s in after_capture r.outcome r.runs (λ next. evaluated_run n p user (f r.pieces) next)
evaluated_run (suc n) p user (Find name b f) s =
    record { pieces = _; outcome = _; runs = looked (evaluated_run n p user (f (partial_for p.parts s name b)) s).runs }
evaluated_run (suc n) p user (CheckLimit k) s = within_limit (is_less s.inclusions p.parts.limit) (evaluated_run n p user k s)

-- the run of a whole tree that takes less than a hundred steps in depth
abbrev pub tree_run : (p : Setting) (user : Knows p.parts) (t : Tree)
    → RunFrom p (render_tree t) (first_state p.parts.recursive)
tree_run p user t = evaluated_run 99 p user (render_tree t) (first_state p.parts.recursive)

-- what a run gives as a text
abbrev pub EndsWithText : List Piece → Outcome → Text → Type 0
EndsWithText ps (Ended s) text = text ≡ join ps
EndsWithText ps (Failed f) text = ⊥
EndsWithText ps (WriteFailed f) text = ⊥
EndsWithText ps NoMemory text = ⊥

gives_as : {p : Setting} {begins : Beginning → Type 0} {ps : List Piece} {text : Text} (o : Outcome)
    → RenderAnswers p begins ps o → EndsWithText ps o text → GivesText p begins text
gives_as (Ended s) h is = record { pieces = _; last = s; answers = h; is = is }
gives_as (Failed f) h is = elim is [ ]
gives_as (WriteFailed f) h is = elim is [ ]
gives_as NoMemory h is = elim is [ ]

pub gives_text : {p : Setting} {begins : Beginning → Type 0} {t : Tree} {text : Text} → begins (a_tree t)
    → (r : RunFrom p (render_tree t) (first_state p.parts.recursive)) → EndsWithText r.pieces r.outcome text
    → GivesText p begins text
gives_text b r is = gives_as r.outcome (has_begun b r.runs) is
