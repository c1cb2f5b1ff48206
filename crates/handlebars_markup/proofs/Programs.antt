-- Programs that do the same, up to texts, in states that are equal up to texts: those that write, and those that surround
-- other programs.
use Rattle.std.proofs.Common.{◌≡◌, Bool, true, false, if◌then◌else◌, refl}
use Rattle.handlebars_base.specs.Answers.{Answer, gives, fails}
use Rattle.handlebars_base.specs.Bytes.{Text}
use Rattle.handlebars_base.specs.EscapeLaws.{marks_in}
use Rattle.handlebars_base.specs.Scoped.{Found, present_in}
use Rattle.handlebars_template.specs.Tree.{Body, no_body, body}
use Rattle.handlebars_scope.specs.LineState.{LineState}
use Rattle.handlebars_scope.specs.Scopes.{Frame}
use Rattle.handlebars_semantics.specs.Asks.{Asks}
use Rattle.handlebars_semantics.specs.Execute.{in_scope_frame, render_branch}
use Rattle.handlebars_semantics.specs.Means.{on_line}
use Rattle.handlebars_semantics.specs.Pieces.{Origin, of_value}
use Rattle.handlebars_semantics.specs.Questions.{IsAnswered, escape_of}
use Rattle.handlebars_semantics.specs.Occurrences.{TreeOccurrence, Occurrence}
use Rattle.handlebars_semantics.specs.State.{Setting, State, push_frame, pop_frame}
use Rattle.handlebars_semantics.specs.Steps.{Steps, Get, Set, Prog, ◌>>=◌, ◌>>◌, answer}
use Rattle.handlebars_semantics.specs.Writing.{rendered_if_any, write_text, write_rendered, write_value}
use Rattle.handlebars_markup.specs.Blind.{IsBlindBody}
use Rattle.handlebars_markup.specs.TwoRuns.{registrations, fixed_text}
use Rattle.handlebars_markup.proofs.Alikeness.{AreAlikeAnswers}
use Rattle.handlebars_markup.proofs.AlikeRuns.{DoAlike}
use Rattle.handlebars_markup.proofs.Asked.{AreAnswered}
use Rattle.handlebars_markup.proofs.Actions.{HasEscaped-marks}
use Rattle.handlebars_markup.proofs.Marks.{HaveSameMarkup-put}
use Rattle.handlebars_markup.proofs.States.{AreAlikeStates, pop_frame-alike}
use Rattle.handlebars_markup.proofs.TwoSettings.{HasTwin, twin}

module _ (p : Setting) (w : HasTwin p) where
  -- states that are equal up to texts at these settings
  abbrev pub AreSides : State → State → Type 0
  AreSides s t = AreAlikeStates (registrations p.parts) s t

  -- If what comes next does the same, up to texts, in states that are equal up to texts, the whole does from these two states
  -- on.
  abbrev pub LeadAlike : State → Prog (Unit {0}) → State → Prog (Unit {0}) → Type 0
  LeadAlike s m t l = (next next' : Unit {0} → Steps)
      → ((n n' : State) → AreSides n n' → DoAlike p w n (next tt) n' (next' tt)) → DoAlike p w s (m next) t (l next')

  -- ---- what follows answers

  answer-alike : {A : Type 0} (R : A → A → Type 0) (s t : State) (a b : Answer A) (k l : A → Steps) → AreAlikeAnswers R a b
      → ((x y : A) → R x y → DoAlike p w s (k x) t (l y)) → DoAlike p w s (answer a k) t (answer b l)
  answer-alike R s t (gives x) (gives y) k l h next = next x y h
  answer-alike R s t (fails f) (fails g) k l h next = h
  answer-alike R s t a b k l h next = absurd h

  pub ask-alike : {A : Type 0} (R : A → A → Type 0) (s t : State) (m n : Asks A) (k l : A → Steps) → AreAnswered R m n
      → ((x y : A) → R x y → DoAlike p w s (k x) t (l y))
      → (a : Answer A) → m a → (b : Answer A) × n b × DoAlike p w s (answer a k) t (answer b l)
  ask-alike R s t m n k l h next = λ a i. let z = h a i in (z.0, z.1, answer-alike R s t a z.0 k l z.2 next)

  pub if-alike : (b : Bool) (s t : State) (m n : Prog (Unit {0})) → LeadAlike s m t m → LeadAlike s n t n
      → LeadAlike s (if b then m else n) t (if b then m else n)
  if-alike true s t m n x y = x
  if-alike false s t m n x y = y

  -- ---- what writes

  pub write_text-alike : (s t : State) (o x : Origin) (a b : Text) → AreSides s t → marks_in a ≡ marks_in b
      → fixed_text o a ≡ fixed_text x b → LeadAlike s (write_text o a) t (write_text x b)
  unfolding ◌>>=◌ ◌>>◌
  write_text-alike s t o x a b h marks own next next' g =
      (HaveSameMarkup-put o x s.indent t.indent a b s.line t.line h.indent h.unmarked marks own, g _ _ h)

  write_escaped-alike : (s t : State) (occurrence : Occurrence) (v u : Found) → AreSides s t
      → LeadAlike s (write_rendered occurrence v true) t (write_rendered occurrence u true)
  unfolding ◌>>=◌
  write_escaped-alike s t occurrence v u h next next' g =
      let x = rendered_if_any (present_in v) in
      let y = rendered_if_any (present_in u) in
      ask-alike (λ (c d : Text). marks_in c ≡ marks_in d) s t (IsAnswered p s (escape_of x))
      (IsAnswered (twin p w) t (escape_of y)) (λ c. write_text (of_value occurrence v) c next)
      (λ d. write_text (of_value occurrence u) d next')
      (HasEscaped-marks p.parts.escape p.parts.user_escape x y w.blind.parts.escape)
      (λ c d e. write_text-alike s t (of_value occurrence v) (of_value occurrence u) c d h e refl next next' g)

  write_rendered-alike : (b c : Bool) (s t : State) (occurrence : Occurrence) (v u : Found) → AreSides s t → b ≡ true → c ≡ true
      → LeadAlike s (write_rendered occurrence v b) t (write_rendered occurrence u c)
  write_rendered-alike true true s t occurrence v u h i j = write_escaped-alike s t occurrence v u h
  write_rendered-alike false c s t occurrence v u h i j = cc
  write_rendered-alike true false s t occurrence v u h i j = cc

  pub write_value-alike : (s t : State) (occurrence : Occurrence) (v u : Found) → AreSides s t
      → LeadAlike s (write_value occurrence v) t (write_value occurrence u)
  unfolding ◌>>=◌
  write_value-alike s t occurrence v u h next next' g =
      write_rendered-alike s.escapes t.escapes s t occurrence v u h h.escapes h.escapes_too next next' g

  -- ---- what surrounds others

  pub in_scope_frame-alike : (s t : State) (f x : Frame) (m l : Prog (Unit {0})) → LeadAlike (push_frame f s) m (push_frame x t) l
      → LeadAlike s (in_scope_frame f m) t (in_scope_frame x l)
  unfolding ◌>>=◌ ◌>>◌
  in_scope_frame-alike s t f x m l inner next next' g =
      inner (λ z. Get (λ n. Set (pop_frame n) (next tt))) (λ z. Get (λ n. Set (pop_frame n) (next' tt)))
      (λ n n' k. g (pop_frame n) (pop_frame n') (pop_frame-alike (registrations p.parts) n n' k))

  pub on_line-alike : (s t : State) (enter : LineState → LineState) (m l : Prog (Unit {0}))
      → LeadAlike (record s { line = enter s.line }) m (record t { line = enter t.line }) l
      → LeadAlike s (on_line enter m) t (on_line enter l)
  unfolding ◌>>=◌ ◌>>◌
  on_line-alike s t enter m l inner next next' g = inner _ _ (λ n n' k. g _ _ k)

  pub render_branch-alike : (s t : State) (at : TreeOccurrence) (b : Body) → AreSides s t
      → IsBlindBody (registrations p.parts) b → LeadAlike s (render_branch at b) t (render_branch at b)
  render_branch-alike s t at no_body h k next next' g = g s t h
  render_branch-alike s t at (body x) h k next next' g = (refl, k, h, g)
