-- What the check says of pages where something is registered, and what follows for the answers of calls.
use Rattle.std.specs.Prelude.{List}
use Rattle.handlebars_base.specs.Bytes.{Text}
use Rattle.handlebars_template.specs.Tree.{Tree}
use Rattle.handlebars_semantics.specs.Answer.{Beginning, a_tree, RenderAnswers}
use Rattle.handlebars_semantics.specs.Pieces.{Piece}
use Rattle.handlebars_semantics.specs.Runs.{Outcome}
use Rattle.handlebars_semantics.specs.State.{Parts, Setting}
use Rattle.handlebars_html.specs.Registry.{UserDefined, Lists}
use Rattle.handlebars_html.specs.Safety.{StandSafely}
use Rattle.handlebars_html.specs.Search.{Pages, Verdict, no_faults, IsVerdict, IsPage, AreAll, AreRegistered}

-- The check of these pages says this: by a list of what is registered otherwise than at the start, and by a list of all
-- templates.
pub record Says (p : Parts) (pages : Pages) (v : Verdict) : Type 0 where
  pub user : UserDefined
  pub lists : Lists p user
  pub templates : List (Text × Tree)
  pub all : AreAll p.template templates
  pub registered : AreRegistered p.template templates
  pub verdict : IsVerdict user templates pages v

-- The check finds no fault in pages of which this tree is one.
abbrev pub IsSafeTree : Parts → Tree → Type 0
IsSafeTree p t = (pages : Pages) × IsPage p.template pages t × Says p pages no_faults

-- If the check finds no fault in the tree that answers begin with, then data stands in each answer only where it may, whatever
-- the data, and however the answer ends.
abbrev pub KeepsAnswersSafe : Setting → (Beginning → Type 0) → Type 0
KeepsAnswersSafe p begins =
    ((t : Tree) → begins (a_tree t) → IsSafeTree p.parts t)
    → (ps : List Piece) (o : Outcome) → RenderAnswers p begins ps o → StandSafely ps
