-- Questions that may or may not have an answer, asked one after the other.
use Rattle.std.specs.Prelude.{◌≡◌}
use Rattle.handlebars_base.specs.Answers.{Answer, gives, fails}
use Rattle.handlebars_base.specs.Reasons.{Refusal}

-- a question, by the answers that it has
abbrev pub Asks : Type 0 → Type 1
Asks A = Answer A → Type 0

-- the question has this answer alone
abbrev pub only : {A : Type 0} → Answer A → Asks A
only a = λ b. b ≡ a

-- The first question gives a value, for which the next one is asked; or it fails, and then the whole fails.
pub data Then {A B : Type 0} (first : Asks A) (next : A → Asks B) : Answer B → Type 0 where
  goes_on : {x : A} {a : Answer B} → first (gives x) → next x a → Then first next a
  first_fails : {r : Refusal} → first (fails r) → Then first next (fails r)

infixl 20 ◌>>=◌
abbrev pub ◌>>=◌ : {A B : Type 0} → Asks A → (A → Asks B) → Asks B
first >>= next = Then first next
