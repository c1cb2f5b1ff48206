-- Questions of two runs whose answers are equal up to texts.
use Rattle.std.proofs.Common.{refl, sym, subst}
use Rattle.handlebars_base.specs.Answers.{Answer, gives, fails}
use Rattle.handlebars_base.specs.Reasons.{Refusal}
use Rattle.handlebars_semantics.specs.Asks.{Asks, only, ◌>>=◌, goes_on, first_fails}
use Rattle.handlebars_markup.proofs.Alikeness.{AreAlikeAnswers}

-- For each answer of the first the second has one that is equal up to texts.
abbrev pub AreAnswered : {A : Type 0} → (A → A → Type 0) → Asks A → Asks A → Type 0
AreAnswered R m n = (a : Answer _) → m a → (b : Answer _) × n b × AreAlikeAnswers R a b

pub only-answered : {A : Type 0} (R : A → A → Type 0) (x y : Answer A) → AreAlikeAnswers R x y
    → AreAnswered R (only x) (only y)
only-answered R x y h = λ a is. (y, refl, subst (λ z. AreAlikeAnswers R z y) (sym is) h)

-- ---- one question after another

module _ {A B : Type 0} (R : A → A → Type 0) (S : B → B → Type 0) where
  goes_on-answered : (n : Asks A) (g : A → Asks B) (x : A) (m : Asks B) (b : Answer A) → n b
      → AreAlikeAnswers R (gives x) b → ((y : A) → R x y → AreAnswered S m (g y)) → AreAnswered S m (n >>= g)
  goes_on-answered n g x m (gives y) j h next = λ a i. let z = next y h a i in (z.0, goes_on j z.1, z.2)
  goes_on-answered n g x m (fails q) j h next = absurd h

  first_fails-answered : (n : Asks A) (g : A → Asks B) (r : Refusal) (b : Answer A) → n b → AreAlikeAnswers R (fails r) b
      → (c : Answer B) × (n >>= g) c × AreAlikeAnswers S (fails r) c
  first_fails-answered n g r (gives y) j h = absurd h
  first_fails-answered n g r (fails q) j h = (fails q, first_fails j, h)

  pub then-answered : (m n : Asks A) (f g : A → Asks B) → AreAnswered R m n
      → ((x y : A) → R x y → AreAnswered S (f x) (g y)) → AreAnswered S (m >>= f) (n >>= g)
  then-answered m n f g first next _ (goes_on {x = x} {a = a} i h) =
      let z = first (gives x) i in goes_on-answered n g x (f x) z.0 z.1 z.2 (λ y k. next x y k) a h
  then-answered m n f g first next _ (first_fails {r = r} i) =
      let z = first (fails r) i in first_fails-answered n g r z.0 z.1 z.2

-- ---- by a weaker relation

module _ {A : Type 0} (R S : A → A → Type 0) where
  pub AreAlikeAnswers-weaker : (a b : Answer A) → AreAlikeAnswers R a b → ((x y : A) → R x y → S x y)
      → AreAlikeAnswers S a b
  AreAlikeAnswers-weaker (gives x) (gives y) h k = k x y h
  AreAlikeAnswers-weaker (fails r) (fails q) h k = h
  AreAlikeAnswers-weaker a b h k = absurd h

  pub AreAnswered-weaker : (m n : Asks A) → AreAnswered R m n → ((x y : A) → R x y → S x y) → AreAnswered S m n
  AreAnswered-weaker m n h k = λ a i. let z = h a i in (z.0, z.1, AreAlikeAnswers-weaker a z.0 z.2 k)
