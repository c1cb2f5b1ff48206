-- Programs that have a value, and what steps ask.
use Rattle.handlebars_base.specs.Answers.{gives, fails}
use Rattle.handlebars_base.specs.Reasons.{Refusal}
use Rattle.handlebars_semantics.specs.State.{Setting, State}
use Rattle.handlebars_semantics.specs.Steps.{Prog, ask, ◌>>=◌}
use Rattle.handlebars_semantics.specs.Questions.{Question, Reply, IsAnswered}
use Rattle.handlebars_semantics.specs.Runs.{failed, asked}
use Rattle.handlebars_expand.specs.View.{GivesValue, ValueFails}

module _ (p : Setting) where
  pub gives-ask : (q : Question) (a : Reply q) {s : State} → IsAnswered p s q (gives a) → GivesValue p (ask q) s a
  gives-ask q a i k ps o r = asked (gives a) i r

  pub fails-ask : (q : Question) {r : Refusal} {s : State} → IsAnswered p s q (fails r)
      → ValueFails p (ask q) s r
  fails-ask q {r = r} i k = asked (fails r) i failed

  pub fails-bind : {A B : Type 0} (m : Prog A) (f : A → Prog B) {s : State} {r : Refusal}
      → ValueFails p m s r → ValueFails p (m >>= f) s r
  unfolding ◌>>=◌
  fails-bind m f x k = x (λ a. f a k)
