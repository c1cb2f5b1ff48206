-- A small language of steps, in which the meaning of a template is written.
use Rattle.std.specs.Prelude.{Bool, List}
use Rattle.handlebars_base.specs.Reasons.{Reason, Refusal}
use Rattle.handlebars_base.specs.RenderRefusals.{plain_refusal}
use Rattle.handlebars_base.specs.Answers.{Answer, gives, fails}
use Rattle.handlebars_base.specs.Bytes.{Text}
use Rattle.handlebars_template.specs.Tree.{Tree, Element, Body}
use Rattle.handlebars_semantics.specs.Inclusion.{Partial}
use Rattle.handlebars_semantics.specs.Pieces.{Piece}
use Rattle.handlebars_semantics.specs.Questions.{Question, Reply}
use Rattle.handlebars_semantics.specs.Occurrences.{TreeOccurrence, Occurrence}
use Rattle.handlebars_semantics.specs.State.{State}

-- a task of a run: an element at its occurrence, or a whole tree at its occurrence
pub data Task : Type 0 where
  One : Occurrence → Element → Task
  Whole : TreeOccurrence → Tree → Task

-- Steps, executed one after the other. `Write` says whether a boolean helper's text is written. `Capture` executes steps
-- whose pieces are no output, but are passed to the steps that follow, which continue from the state after them. `Find`
-- passes on what an inclusion of a name finds, by a tag with a body. `CheckLimit` fails if the limit does not allow one more
-- inclusion.
pub data Steps : Type 0 where
  Done : Steps
  Fail : Refusal → Steps
  Write : Bool → List Piece → Steps → Steps
  Get : (State → Steps) → Steps
  Set : State → Steps → Steps
  Ask : (q : Question) → (Answer (Reply q) → Steps) → Steps
  Do : Task → Steps → Steps
  Capture : Steps → (List Piece → Steps) → Steps
  Find : Text → Body → (Partial → Steps) → Steps
  CheckLimit : Steps → Steps

-- steps that have a value, which is passed to the steps that follow
abbrev pub Prog : Type 0 → Type 0
Prog A = (A → Steps) → Steps

infixl 20 ◌>>=◌
infixl 20 ◌>>◌
unfoldable pub ◌>>=◌ : {A B : Type 0} → Prog A → (A → Prog B) → Prog B
◌>>=◌ m f = λ k. m (λ a. f a k)

unfoldable pub ◌>>◌ : {A B : Type 0} → Prog A → Prog B → Prog B
◌>>◌ m f = λ k. m (λ a. f k)

abbrev pub return : {A : Type 0} → A → Prog A
return a = λ k. k a

abbrev pub run : Prog (Unit {0}) → Steps
run m = m (λ u. Done)

abbrev pub fail : {A : Type 0} → Refusal → Prog A
fail r = λ k. Fail r

-- an error for this reason, with no template and no position yet
abbrev pub fail_for : {A : Type 0} → Reason → Prog A
fail_for r = fail (plain_refusal r)

abbrev pub answer : {A : Type 0} → Answer A → Prog A
answer (gives x) = return x
answer (fails r) = fail r

-- the answer to a question; if that is an error, nothing follows
abbrev pub ask : (q : Question) → Prog (Reply q)
ask q = λ k. Ask q (λ a. answer a k)

abbrev pub write : Bool → List Piece → Prog (Unit {0})
write is_boolean_text ps = λ k. Write is_boolean_text ps (k tt)

abbrev pub state : Prog State
state = λ k. Get k

abbrev pub become : State → Prog (Unit {0})
become s = λ k. Set s (k tt)

abbrev pub perform : Task → Prog (Unit {0})
perform t = λ k. Do t (k tt)

-- the pieces that the steps write
abbrev pub capture : Prog (Unit {0}) → Prog (List Piece)
capture m = λ k. Capture (run m) k

abbrev pub find : Text → Body → Prog Partial
find name b = λ k. Find name b k

abbrev pub check_limit : Prog (Unit {0})
check_limit = λ k. CheckLimit (k tt)
