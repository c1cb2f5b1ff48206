-- What the check of names says of a page where something is registered, and what follows for the answers of calls.
use Rattle.std.specs.Prelude.{List}
use Rattle.handlebars_base.specs.Bytes.{Text}
use Rattle.handlebars_base.specs.Reasons.{Refusal}
use Rattle.handlebars_template.specs.Tree.{Tree}
use Rattle.handlebars_semantics.specs.Answer.{Beginning, a_tree, no_tree, RenderAnswers}
use Rattle.handlebars_semantics.specs.Pieces.{Piece}
use Rattle.handlebars_semantics.specs.Runs.{Outcome, Failed}
use Rattle.handlebars_semantics.specs.State.{Parts, Setting}
use Rattle.handlebars_html.specs.Search.{AreAll}
use Rattle.handlebars_names.specs.Law.{PassNoPartials, FailsOnlySo}
use Rattle.handlebars_names.specs.Names.{Names, AreNames}
use Rattle.handlebars_names.specs.Search.{Page, Verdict, no_faults, IsVerdict, IsPage}

-- The check of this page says this, by what is registered.
pub record Says (p : Parts) (page : Page) (v : Verdict) : Type 0 where
  pub names : Names
  pub are : AreNames p names
  pub templates : List (Text × Tree)
  pub all : AreAll p.template templates
  pub verdict : IsVerdict names templates page v

-- The check finds no fault in a page that is this tree.
abbrev pub IsKnownTree : Parts → Tree → Type 0
IsKnownTree p t = (page : Page) × IsPage p.template page t × Says p page no_faults

-- There is no tree to begin with, or the answer fails only for what is still possible.
pub data AnswersOnlySo (p : Parts) (begins : Beginning → Type 0) : Outcome → Type 0 where
  without_tree : {r : Refusal} → begins (no_tree r) → AnswersOnlySo p begins (Failed r)
  with_tree : {o : Outcome} → FailsOnlySo p o → AnswersOnlySo p begins o

-- If the check finds no fault in the tree that answers begin with, and no user-defined helper passes partials, then each answer
-- fails only so, whatever the data.
abbrev pub KeepsAnswersKnown : Setting → (Beginning → Type 0) → Type 0
KeepsAnswersKnown p begins =
    ((t : Tree) → begins (a_tree t) → IsKnownTree p.parts t) → PassNoPartials p.parts
    → (ps : List Piece) (o : Outcome) → RenderAnswers p begins ps o → AnswersOnlySo p.parts begins o
