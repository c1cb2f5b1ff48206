-- Pieces, as plain data.
use Rattle.std.specs.List.{flat_map}
use Rattle.std.specs.Prelude.{◌≡◌, ℕ, List, IfSome, map, Option, option_map, string_bytes}
use Rattle.std.specs.Borrow.{Bor}
use Rattle.handlebars_base.specs.Bytes.{Text}
use Rattle.handlebars_template.specs.Position.{Position}
use Rattle.handlebars_template.specs.TreeView.{position_of}
use Rattle.test_cases.specs.declared.piece.Kind.{Kind}
use Rattle.test_cases.specs.declared.piece.Piece.{Piece}
use Rattle.test_cases.specs.declared.piece.PieceTemplate.{PieceTemplate}
use Rattle.test_cases.specs.declared.piece.PieceTemplate.TheVariants.{First, Included}

-- the template that is rendered, or one that is included, by its name; an inline partial has none
pub data TemplateView : Type 0 where
  the_first : TemplateView
  the_included : Option Text → TemplateView

abbrev pub template_view : PieceTemplate → TemplateView
template_view First = the_first
template_view (Included name) = the_included (option_map string_bytes name)

-- the text and its kind; the template, the position and the iterations of the element that writes it; for a value, its path
pub record PieceView : Type 0 where
  pub text : Text
  pub kind : Kind
  pub template : TemplateView
  pub position : Option Position
  pub iterations : List ℕ
  pub path : Option (List Text)

abbrev pub piece_view : Piece → PieceView
piece_view p = record {
  text = string_bytes p.text;
  kind = p.kind;
  template = template_view p.template;
  position = option_map position_of p.position;
  iterations = p.iterations.items;
  path = option_map (λ names. map string_bytes names.items) p.path;
}

-- the texts of pieces, joined
abbrev pub text_of : List Piece → Text
text_of pieces = flat_map (λ p. string_bytes p.text) pieces

-- The pieces are these, if any are expected.
abbrev pub ArePieces : List Piece → Option (Bor (List Piece)) → Type 0
ArePieces pieces expected = IfSome expected (λ ps. map piece_view pieces ≡ map piece_view ps.now)
