-- The law of two runs: over data that is equal up to texts, blind templates write the same markup.
use Rattle.std.specs.Prelude.{◌≡◌, List, [], ◌∷◌, ◌++◌, Some}
use Rattle.serde_json.specs.Data.{Data}
use Rattle.handlebars_base.specs.Bytes.{Text}
use Rattle.handlebars_base.specs.EscapeLaws.{marks_in}
use Rattle.handlebars_template.specs.Tree.{Tree}
use Rattle.handlebars_helpers.specs.UserAnswers.{Registrations}
use Rattle.handlebars_semantics.specs.Answer.{Beginning, a_tree, RenderAnswers}
use Rattle.handlebars_semantics.specs.Pieces.{Origin, of_text, of_value, of_raw, of_boolean_text, of_step, of_indent, Piece, join}
use Rattle.handlebars_semantics.specs.Runs.{Outcome, Ended, Failed, IsStop}
use Rattle.handlebars_semantics.specs.State.{Parts, Setting}
use Rattle.handlebars_markup.specs.Alike.{AreAlike}
use Rattle.handlebars_markup.specs.Blind.{IsBlindTree, HasBlindParts}

-- what is registered of helpers and decorators, and how values are escaped
abbrev pub registrations : Parts → Registrations
registrations p = record { helper = p.helper; decorator = p.decorator; escape = p.escape }

-- All registered trees are blind, and so are the parts.
pub record IsBlind (p : Parts) : Type 0 where
  pub parts : HasBlindParts (registrations p)
  pub stored : (n : Text) (t : Tree) → p.template n ≡ Some t → IsBlindTree (registrations p) t

-- ---- what comes from templates

-- the text of a piece, if it comes from a text of a template or is the text of a boolean helper
abbrev pub fixed_text : Origin → Text → Text
fixed_text (of_text occurrence) t = t
fixed_text (of_value occurrence found) t = []
fixed_text (of_raw occurrence found) t = []
fixed_text (of_boolean_text occurrence b) t = t
fixed_text (of_step occurrence i) t = []
fixed_text (of_indent occurrence) t = []

abbrev pub fixed_texts : List Piece → Text
fixed_texts [] = []
fixed_texts (p ∷ ps) = fixed_text p.origin p.text ++ fixed_texts ps

-- The texts have the same marks in the same order, and the texts of templates and of boolean helpers in them join to the same
-- text.
pub record HaveSameMarkup (ps qs : List Piece) : Type 0 where
  pub marks : marks_in (join ps) ≡ marks_in (join qs)
  pub fixed : fixed_texts ps ≡ fixed_texts qs

-- ---- the law

-- Both end well, or both fail with the same reason, position and name.
abbrev pub EndAlike : Outcome → Outcome → Type 0
EndAlike (Ended s) (Ended t) = Unit {0}
EndAlike (Failed r) (Failed q) = r ≡ q
EndAlike o q = ⊥

abbrev pub given_data : Data → Setting → Setting
given_data d p = record p { given = d }

-- If all trees are blind, answers over data that is equal up to texts have the same end and the same markup, of the whole
-- text or of the text before the error.
abbrev pub HasFixedMarkup : Setting → (Beginning → Type 0) → Type 0
HasFixedMarkup p begins = IsBlind p.parts → ((t : Tree) → begins (a_tree t) → IsBlindTree (registrations p.parts) t)
    → (d : Data) → AreAlike p.given d → (ps qs : List Piece) (o q : Outcome) → RenderAnswers p begins ps o
    → RenderAnswers (given_data d p) begins qs q → (IsStop o → ⊥) → (IsStop q → ⊥)
    → ∥ HaveSameMarkup ps qs × EndAlike o q ∥₁
