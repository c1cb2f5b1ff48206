-- What is emitted of a piece: its kind, and where it comes from.
use Rattle.std.specs.Prelude.{List, Option, None}
use Rattle.handlebars_base.specs.Bytes.{Text}
use Rattle.handlebars_base.specs.Scoped.{path_in}
use Rattle.handlebars_semantics.specs.Pieces.{Origin, of_text, of_value, of_raw, of_boolean_text, of_step, of_indent, occurrence_of, Piece}
use Rattle.handlebars_semantics.specs.Occurrences.{Whereabouts, whereabouts}

-- The kind of a piece: a text of a template; the indentation of inclusions; a value, escaped or raw; the text of a boolean
-- helper; or a text of a user-defined helper.
pub data Kind : Type 0 where
  template_text : Kind
  indentation : Kind
  escaped_value : Kind
  raw_value : Kind
  helper_boolean : Kind
  user_text : Kind

abbrev pub origin_kind : Origin → Kind
origin_kind (of_text occurrence) = template_text
origin_kind (of_value occurrence found) = escaped_value
origin_kind (of_raw occurrence found) = raw_value
origin_kind (of_boolean_text occurrence b) = helper_boolean
origin_kind (of_step occurrence i) = user_text
origin_kind (of_indent occurrence) = indentation

-- the path that a value was reached by, if it has one
abbrev pub origin_path : Origin → Option (List Text)
origin_path (of_text occurrence) = None
origin_path (of_value occurrence found) = path_in found
origin_path (of_raw occurrence found) = path_in found
origin_path (of_boolean_text occurrence b) = None
origin_path (of_step occurrence i) = None
origin_path (of_indent occurrence) = None

-- What is emitted of an origin: the kind of the piece, the location of the element that writes it, and the path of a value.
pub record Provenance : Type 0 where
  pub kind : Kind
  pub location : Whereabouts
  pub path : Option (List Text)

abbrev pub provenance : Origin → Provenance
provenance o = record { kind = origin_kind o; location = whereabouts (occurrence_of o); path = origin_path o }

-- what is emitted of a piece
pub record Emitted : Type 0 where
  pub text : Text
  pub provenance : Provenance

abbrev pub emitted : Piece → Emitted
emitted piece = record { text = piece.text; provenance = provenance piece.origin }
