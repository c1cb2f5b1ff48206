-- The answers to questions don't depend on the registered templates, the limit or the current name.
use Rattle.std.proofs.Common.{ℕ, Option}
use Rattle.handlebars_base.specs.Answers.{Answer}
use Rattle.handlebars_base.specs.Bytes.{Text}
use Rattle.handlebars_template.specs.Tree.{Tree}
use Rattle.handlebars_semantics.specs.Asks.{Asks, ◌>>=◌, goes_on, first_fails}
use Rattle.handlebars_semantics.specs.State.{Setting, State}
use Rattle.handlebars_semantics.specs.Questions.{Question, Reply, IsAnswered}
use Rattle.handlebars_laws.proofs.RelatedAnswers.{Relation, other_setting, IsAnswered-related}

-- each answer of the first is one of the second
abbrev Are : {A : Type 0} → Asks A → Asks A → Type 0
Are m n = (a : Answer _) → m a → n a

then-are : {A B : Type 0} (m n : Asks A) (f g : A → Asks B) → Are m n → ((x : A) → Are (f x) (g x))
    → Are (m >>= f) (n >>= g)
then-are m n f g first next _ (goes_on {x = x} {a = a} i h) = goes_on (first _ i) (next x a h)
then-are m n f g first next _ (first_fails i) = first_fails (first _ i)

abbrev answers_are : Relation
answers_are = record {
  Relates = λ m n. Are m n;
  only_related = λ x a i. i;
  then_related = then-are;
  path_related = λ n v a i. i;
}

pub renamed_answers : (p : Setting) (template : Text → Option Tree) (limit : ℕ) (s : State) (c : Option Text) (q : Question)
    (a : Answer (Reply q)) → IsAnswered p s q a → IsAnswered (other_setting p template limit) (record s { current = c }) q a
renamed_answers p template limit s c q = IsAnswered-related answers_are p (record {
  steps = λ n x a i. i;
  offer = λ n x a i. i;
  actions = λ n x a i. i;
  escape = λ t a i. i;
}) template limit s c q

pub same_answers : (p : Setting) (template : Text → Option Tree) (limit : ℕ) (s : State) (q : Question)
    (a : Answer (Reply q)) → IsAnswered p s q a → IsAnswered (other_setting p template limit) s q a
same_answers p template limit s q = renamed_answers p template limit s s.current q
