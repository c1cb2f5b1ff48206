-- What a rendering answers, at a setting, from a source or from a registered template.
use Rattle.std.specs.Prelude.{◌≡◌, ◌≢◌, ◌≤◌, ℕ, List, [], Option, None, Some}
use Rattle.std.specs.List.{AllByRecursion}
use Rattle.handlebars_base.specs.Bytes.{Text}
use Rattle.handlebars_base.specs.Reasons.{Location, Refusal, TemplateRefusal, of_template, template_not_found}
use Rattle.handlebars_base.specs.RenderRefusals.{plain_refusal}
use Rattle.handlebars_template.specs.Tree.{Tree}
use Rattle.handlebars_lexer.specs.Options.{Options}
use Rattle.handlebars_template.specs.Compile.{Compiles, compiled, rejected}
use Rattle.handlebars_semantics.specs.Pieces.{Piece, join}
use Rattle.handlebars_semantics.specs.State.{Setting, State, first_state}
use Rattle.handlebars_semantics.specs.Runs.{Outcome, Ended, Failed, WriteFailed, NoMemory, IsStop, Means}
use Rattle.handlebars_semantics.specs.Origins.{HaveOrigins, OccurInTrees}
use Rattle.handlebars_semantics.specs.Visits.{visits, ComeOnce}
use Rattle.handlebars_semantics.specs.Names.{included_names}
use Rattle.handlebars_semantics.specs.Laws.{IsNotForLimit, with_limit, with_templates}

-- what a rendering begins with: a tree, or an error before anything is written
pub data Beginning : Type 0 where
  a_tree : Tree → Beginning
  no_tree : Refusal → Beginning

-- a source's tree; a source that doesn't compile is rejected
pub data FromSource (options : Options) (source : Text) : Beginning → Type 0 where
  compiles : {t : Tree} → Compiles source options (compiled t) → FromSource options source (a_tree t)
  does_not : {r : TemplateRefusal} → Compiles source options (rejected r)
      → FromSource options source (no_tree (plain_refusal (of_template r)))

-- the tree that is registered under a name; a name without one fails with `template_not_found`
pub data FromName (stored : Text → Option Tree) (name : Text) : Beginning → Type 0 where
  is_stored : {t : Tree} → stored name ≡ Some t → FromName stored name (a_tree t)
  is_not : stored name ≡ None → FromName stored name (no_tree (plain_refusal (template_not_found name)))

-- A rendering's answer is the meaning of the tree in the first state, with recursive lookup or without.
pub data RenderAnswers (p : Setting) (begins : Beginning → Type 0) : List Piece → Outcome → Type 0 where
  not_begun : {r : Refusal} → begins (no_tree r) → RenderAnswers p begins [] (Failed r)
  has_begun : {t : Tree} {ps : List Piece} {o : Outcome} → begins (a_tree t) → Means p t (first_state p.parts.recursive) ps o
      → RenderAnswers p begins ps o

-- The text is that of an answer that ends without an error.
pub record GivesText (p : Setting) (begins : Beginning → Type 0) (text : Text) : Type 0 where
  pub pieces : List Piece
  pub last : State
  pub answers : RenderAnswers p begins pieces (Ended last)
  pub is : text ≡ join pieces

-- The answer is this error, with its reason, position and name, perhaps after pieces.
pub record FailsWith (p : Setting) (begins : Beginning → Type 0) (r : Refusal) : Type 0 where
  pub pieces : List Piece
  pub answers : RenderAnswers p begins pieces (Failed r)

-- the names of an answer's inclusions
abbrev pub answer_names : {p : Setting} {begins : Beginning → Type 0} {ps : List Piece} {o : Outcome}
    → RenderAnswers p begins ps o → List Text
answer_names (not_begun b) = []
answer_names (has_begun b r) = included_names r

-- There is at most one answer, apart from runs that stop early: two answers have the same pieces, the same outcome and the
-- same names of inclusions. The statement is a mere proposition.
abbrev pub HasOneAnswer : Setting → (Beginning → Type 0) → Type 0
HasOneAnswer p begins = (ps qs : List Piece) (o q : Outcome)
    (a : RenderAnswers p begins ps o) (b : RenderAnswers p begins qs q)
    → (IsStop o → ⊥) → (IsStop q → ⊥) → ∥ (ps ≡ qs) × (o ≡ q) × (answer_names a ≡ answer_names b) ∥₁

-- The run of an answer visits no occurrence twice, and all its occurrences are in trees of the run. Each of its pieces comes
-- from its occurrence: it is a part of a text there, or of the value or the boolean helper's text that is written there in
-- the state in which the run visits it, or an indentation.
abbrev pub ComeFromTree : {p : Setting} {begins : Beginning → Type 0} {ps : List Piece} {o : Outcome}
    → RenderAnswers p begins ps o → Type 0
ComeFromTree (not_begun b) = Unit {0}
ComeFromTree {p = p} {ps = ps} (has_begun {t = t} b r) =
    HaveOrigins p t (visits r) ps
    × (ComeOnce (visits r) × OccurInTrees p t (first_state p.parts.recursive).blocks (visits r) (visits r))

abbrev pub AnswerHasOrigins : Setting → (Beginning → Type 0) → Type 0
AnswerHasOrigins p begins = (ps : List Piece) (o : Outcome) (a : RenderAnswers p begins ps o) → ComeFromTree a

-- Raising the inclusion limit does not change an answer that is no error for the limit.
abbrev pub SameAnswerUnderLarger : Setting → (Beginning → Type 0) → Type 0
SameAnswerUnderLarger p begins = (n : ℕ) (ps : List Piece) (o : Outcome) → p.parts.limit ≤ n
    → RenderAnswers p begins ps o → IsNotForLimit p.parts.limit o → RenderAnswers (with_limit n p) begins ps o

-- With the same beginning, an answer is the same whatever is registered under names that none of its inclusions has.
abbrev pub AnswerOnlyByNames : Setting → (Beginning → Type 0) → Type 0
AnswerOnlyByNames p begins = (ps : List Piece) (o : Outcome) (a : RenderAnswers p begins ps o)
    (template : Text → Option Tree)
    → AllByRecursion (λ n. template n ≡ p.parts.template n) (answer_names a)
    → RenderAnswers (with_templates template p) begins ps o

-- An answer by a name is the same whatever is registered under names other than that one and those of its inclusions.
abbrev pub NamedAnswerOnlyByNames : Setting → Text → Type 0
NamedAnswerOnlyByNames p name = (ps : List Piece) (o : Outcome) (a : RenderAnswers p (FromName p.parts.template name) ps o)
    (template : Text → Option Tree) → template name ≡ p.parts.template name
    → AllByRecursion (λ n. template n ≡ p.parts.template n) (answer_names a)
    → RenderAnswers (with_templates template p) (FromName template name) ps o

-- ---- the same by a name and by its source

abbrev pub IsSamePosition : Location → Location → Type 0
IsSamePosition s t = (s.line ≡ t.line) × (s.column ≡ t.column)

-- Outcomes agree: both end without an error, both fail for the same reason at the same position, or both stop early in the
-- same way. The template that is named may differ.
abbrev pub Agree : Outcome → Outcome → Type 0
Agree (Ended s) (Ended t) = Unit {0}
Agree (Failed r) (Failed q) = (r.reason ≡ q.reason) × IsSamePosition r.location q.location
Agree (WriteFailed f) (WriteFailed g) = (f.at_boolean_text ≡ g.at_boolean_text) × IsSamePosition f.location g.location
Agree NoMemory NoMemory = Unit {0}
Agree o q = ⊥

-- With these pieces there is an answer whose outcome agrees with this one.
pub record HasAgreeingAnswer (p : Setting) (begins : Beginning → Type 0) (ps : List Piece) (o : Outcome) : Type 0 where
  pub outcome : Outcome
  pub answers : RenderAnswers p begins ps outcome
  pub agrees : Agree o outcome

-- Each answer of the first, if no inclusion of its run has this name, agrees with one of the second, which has the same pieces.
abbrev pub HaveAgreeingAnswers : Setting → Text → (Beginning → Type 0) → (Beginning → Type 0) → Type 0
HaveAgreeingAnswers p name begins other = (ps : List Piece) (o : Outcome) (a : RenderAnswers p begins ps o)
    → AllByRecursion (λ n. n ≢ name) (answer_names a) → HasAgreeingAnswer p other ps o

-- If a name's registered tree is what a source compiles to under that name, and no inclusion of the run has that name, then
-- the answer by the name agrees with one by the source, which has the same pieces.
abbrev pub NamedAnswerAsSource : Setting → Text → Type 0
NamedAnswerAsSource p name = (source : Text) (options : Options) (t : Tree) → p.parts.template name ≡ Some t
    → Compiles source (record options { name = Some name }) (compiled t)
    → HaveAgreeingAnswers p name (FromName p.parts.template name) (FromSource (record options { name = None }) source)

-- If a name's registered tree is what a source compiles to under that name, and no inclusion of the run has that name, then
-- the answer by the source agrees with one by the name, which has the same pieces.
abbrev pub SourceAnswerAsNamed : Setting → Text → Type 0
SourceAnswerAsNamed p name = (source : Text) (options : Options) (t : Tree) → p.parts.template name ≡ Some t
    → Compiles source (record options { name = Some name }) (compiled t)
    → HaveAgreeingAnswers p name (FromSource (record options { name = None }) source) (FromName p.parts.template name)

-- Both ways, of one source and any name: where the name's registered tree is what the source compiles to under that name, the
-- answer by the name and the one by the source agree, if no inclusion of the run has that name.
abbrev pub AgreesByName : Setting → Options → Text → Type 0
AgreesByName p options source = (name : Text) (t : Tree) → p.parts.template name ≡ Some t
    → Compiles source (record options { name = Some name }) (compiled t)
    → HaveAgreeingAnswers p name (FromName p.parts.template name) (FromSource options source)
    × HaveAgreeingAnswers p name (FromSource options source) (FromName p.parts.template name)

-- ---- what doesn't matter

-- An answer stays the same under a larger limit, if it is no error for the limit, and whatever is registered under names that
-- no inclusion of the run has.
pub record AnswerStays (p : Setting) (begins : Beginning → Type 0) : Type 0 where
  pub larger : SameAnswerUnderLarger p begins
  pub others : AnswerOnlyByNames p begins

-- So does an answer by a name; and it agrees with one by the source that is registered there, both ways.
pub record NamedAnswerStays (p : Setting) (name : Text) : Type 0 where
  pub larger : SameAnswerUnderLarger p (FromName p.parts.template name)
  pub others : NamedAnswerOnlyByNames p name
  pub source : NamedAnswerAsSource p name
  pub named : SourceAnswerAsNamed p name
