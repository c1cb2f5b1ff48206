-- Where the markup characters of html occur in an output: `<`, `>`, `"`, `'`, the backquote and `=`. They are called marks
-- here.
use Rattle.std.specs.Prelude.{◌≡◌, ℕ, List, ◌∷◌, ◌++◌, Some}
use Rattle.std.specs.List.{AllByRecursion, Contains}
use Rattle.handlebars_base.specs.Bytes.{Text, ampersand}
use Rattle.handlebars_base.specs.Escape.{escaped}
use Rattle.handlebars_base.specs.EscapeLaws.{marks, BeginsEntity}
use Rattle.handlebars_base.specs.Scoped.{Found, present_in}
use Rattle.handlebars_template.specs.Tree.{Tree, html_expression, Call}
use Rattle.handlebars_helpers.specs.Escaping.{for_html}
use Rattle.handlebars_semantics.specs.Answer.{Beginning, RenderAnswers, not_begun, has_begun}
use Rattle.handlebars_semantics.specs.Compiled.{IsBlank, IsAsCompiled, PassesCompiled}
use Rattle.handlebars_semantics.specs.Origins.{element_at, HasOrigin}
use Rattle.handlebars_semantics.specs.Pieces.{Origin, of_text, of_value, of_raw, of_boolean_text, of_step, of_indent, Piece, join}
use Rattle.handlebars_semantics.specs.Runs.{Outcome}
use Rattle.handlebars_semantics.specs.State.{Setting}
use Rattle.handlebars_semantics.specs.Visits.{Visit, visits}
use Rattle.handlebars_semantics.specs.Writing.{rendered_if_any}

-- All trees that are registered under names are as compiled, and so are the local partials of the scope frames that
-- user-defined helpers pass to their bodies.
pub record AllAsCompiled (p : Setting) : Type 0 where
  pub stored : (n : Text) (t : Tree) → p.parts.template n ≡ Some t → IsAsCompiled t
  pub passed : (name : Text) → PassesCompiled (p.parts.user name)

-- ---- marks

-- A piece may have marks if it comes from a text of a template, from the value of an html expression, or from a text that a
-- user-defined helper writes.
abbrev pub MayHaveMarks : Tree → Origin → Type 0
MayHaveMarks u (of_text occurrence) = Unit {0}
MayHaveMarks u (of_value occurrence found) = ⊥
MayHaveMarks u (of_raw occurrence found) = (c : Call) × (element_at u occurrence ≡ Some (html_expression c))
MayHaveMarks u (of_boolean_text occurrence b) = ⊥
MayHaveMarks u (of_step occurrence i) = Unit {0}
MayHaveMarks u (of_indent occurrence) = ⊥

-- The byte of the pieces' text that is after this prefix and before this rest is in one of the pieces.
pub record IsInPiece (ps : List Piece) (prefix : Text) (b : ℕ) (rest : Text) : Type 0 where
  pub before : List Piece
  pub piece : Piece
  pub after : List Piece
  pub left : Text
  pub right : Text
  pub pieces : ps ≡ before ++ piece ∷ after
  pub text : piece.text ≡ left ++ b ∷ right
  pub is_prefix : prefix ≡ join before ++ left
  pub is_rest : rest ≡ right ++ join after

-- The byte is in a piece that may have marks, and the piece has its origin.
pub record OccursMarked (p : Setting) (u : Tree) (vs : List Visit) (ps : List Piece) (prefix : Text) (b : ℕ) (rest : Text)
    : Type 0 where
  pub occurs : IsInPiece ps prefix b rest
  pub comes : HasOrigin p u vs occurs.piece
  pub may : MayHaveMarks u occurs.piece.origin

-- Each mark of an answer's text is in a text of a template, in the value of an html expression, or in a text that a
-- user-defined helper writes.
abbrev pub MarksOccurSo : {p : Setting} {begins : Beginning → Type 0} {ps : List Piece} {o : Outcome}
    → RenderAnswers p begins ps o → Type 0
MarksOccurSo (not_begun b) = Unit {0}
MarksOccurSo {p = p} {ps = ps} (has_begun {t = t} b r) =
    (prefix rest : Text) (mark : ℕ) → Contains marks mark → join ps ≡ prefix ++ mark ∷ rest
    → OccursMarked p t (visits r) ps prefix mark rest

-- ---- entities

-- A part of an escaped value: at each `&` in it, one of the seven entities begins. The entity may end after the part.
pub record IsOfEscaped (found : Found) (t : Text) : Type 0 where
  pub left : Text
  pub right : Text
  pub is : escaped (rendered_if_any (present_in found)) ≡ left ++ (t ++ right)
  pub entities : (prefix rest : Text) → t ≡ prefix ++ ampersand ∷ rest → BeginsEntity (ampersand ∷ (rest ++ right))

-- Each piece of an escaped value is a part of it in which each `&` begins an entity.
abbrev pub IsEscaped : Origin → Text → Type 0
IsEscaped (of_text occurrence) t = Unit {0}
IsEscaped (of_value occurrence found) t = IsOfEscaped found t
IsEscaped (of_raw occurrence found) t = Unit {0}
IsEscaped (of_boolean_text occurrence b) t = Unit {0}
IsEscaped (of_step occurrence i) t = Unit {0}
IsEscaped (of_indent occurrence) t = Unit {0}

-- ---- indentations

-- Each piece of indentations consists of spaces and tabs.
abbrev pub IsBlankIndent : Origin → Text → Type 0
IsBlankIndent (of_text occurrence) t = Unit {0}
IsBlankIndent (of_value occurrence found) t = Unit {0}
IsBlankIndent (of_raw occurrence found) t = Unit {0}
IsBlankIndent (of_boolean_text occurrence b) t = Unit {0}
IsBlankIndent (of_step occurrence i) t = Unit {0}
IsBlankIndent (of_indent occurrence) t = IsBlank t

-- ---- the laws

-- If all trees are as compiled, indentation consists of spaces and tabs.
abbrev pub IndentsAreBlank : Setting → (Beginning → Type 0) → Type 0
IndentsAreBlank p begins = AllAsCompiled p → (ps : List Piece) (o : Outcome) → RenderAnswers p begins ps o
    → AllByRecursion (λ piece. IsBlankIndent piece.origin piece.text) ps

-- What an answer's text contains: marks only where a template or a user-defined helper has them, and in escaped values each
-- `&` begins an entity.
pub record HasNoOtherMarks {p : Setting} {begins : Beginning → Type 0} {ps : List Piece} {o : Outcome}
    (a : RenderAnswers p begins ps o) : Type 0 where
  pub marks : MarksOccurSo a
  pub entities : AllByRecursion (λ piece. IsEscaped piece.origin piece.text) ps

-- With the default escape, and if all trees are as compiled, data becomes markup only where a template asks for it.
abbrev pub DataIsNoMarkup : Setting → (Beginning → Type 0) → Type 0
DataIsNoMarkup p begins = p.parts.escape ≡ for_html → AllAsCompiled p
    → (ps : List Piece) (o : Outcome) (a : RenderAnswers p begins ps o) → HasNoOtherMarks a
