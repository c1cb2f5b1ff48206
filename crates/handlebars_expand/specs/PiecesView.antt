-- The pieces that the code emits, and those that it captures.
use Rattle.std.specs.Prelude.{List, [], ◌∷◌, ◌++◌, Option, option_map, map, string_bytes, codes}
use Rattle.handlebars_base.specs.Bytes.{Text}
use Rattle.handlebars_base.specs.Outputs.{held_of}
use Rattle.handlebars_template.specs.TreeView.{position_of}
use Rattle.handlebars_scope.specs.ResolutionView.{names_in}
use Rattle.handlebars_layers.specs.FullPathView.{names_on}
use Rattle.handlebars_layers.specs.declared.full_path.FullPath.{FullPath}
use Rattle.handlebars_semantics.specs.Occurrences.{Template, the_first, the_included, Whereabouts}
use Rattle.handlebars_semantics.specs.Emitted.{Kind, template_text, indentation, escaped_value, raw_value, helper_boolean, user_text, Provenance, Emitted}
use Rattle.handlebars_expand.specs.declared.pieces.PieceKind.{PieceKind}
use Rattle.handlebars_expand.specs.declared.pieces.PieceKind.TheVariants as kinds
use Rattle.handlebars_expand.specs.declared.pieces.TemplateReference.{TemplateReference}
use Rattle.handlebars_expand.specs.declared.pieces.TemplateReference.TheVariants as template_reference
use Rattle.handlebars_expand.specs.declared.pieces.Location.{Location}
use Rattle.handlebars_expand.specs.declared.pieces.Origin.{Origin}
use Rattle.handlebars_expand.specs.declared.ahead.Ahead.{Ahead}
use Rattle.handlebars_expand.specs.declared.ahead.Captured.{Captured}
use Rattle.handlebars_expand.specs.declared.ahead.CapturedPiece.{CapturedPiece}
use Rattle.handlebars_expand.specs.declared.ahead.CapturedTemplateReference.{CapturedTemplateReference}
use Rattle.handlebars_expand.specs.declared.ahead.CapturedTemplateReference.TheVariants as captured

-- ---- what is emitted

abbrev pub kind_seen : PieceKind → Kind
kind_seen kinds.TemplateText = template_text
kind_seen kinds.Indentation = indentation
kind_seen kinds.EscapedValue = escaped_value
kind_seen kinds.RawValue = raw_value
kind_seen kinds.HelperBoolean = helper_boolean
kind_seen kinds.UserText = user_text

-- the name of a kind
abbrev pub kind_name : Kind → Text
kind_name template_text = codes "text"
kind_name indentation = codes "indentation"
kind_name escaped_value = codes "value"
kind_name raw_value = codes "raw"
kind_name helper_boolean = codes "word"
kind_name user_text = codes "own"

abbrev pub template_seen : TemplateReference → Template
template_seen template_reference.First = the_first
template_seen (template_reference.Included name) = the_included (option_map (λ t. t.now) name)

abbrev pub location_seen : Location → Whereabouts
location_seen x = record {
  around = record { template = template_seen x.template; iterations = x.iterations.now };
  position = option_map (λ m. position_of m.now) x.position;
}

-- the path of a value, where it has one
abbrev pub path_seen : Option FullPath → Option (List Text)
path_seen path = option_map names_on path

abbrev pub origin_seen : Origin → Provenance
origin_seen o = record { kind = kind_seen o.kind; location = location_seen o.location; path = path_seen o.path }

abbrev pub emitted_seen : Text → Origin → Emitted
emitted_seen t o = record { text = t; provenance = origin_seen o }

-- ---- what is captured

abbrev pub captured_template : CapturedTemplateReference → Template
captured_template captured.First = the_first
captured_template (captured.Included name) = the_included (option_map string_bytes name)

abbrev pub emitted_by : CapturedPiece → Emitted
emitted_by k = record {
  text = string_bytes k.text;
  provenance = record {
    kind = kind_seen k.kind;
    location = record {
      around = record { template = captured_template k.template; iterations = k.iterations.items };
      position = option_map position_of k.position;
    };
    path = option_map (λ names. names_in names.items) k.path;
  };
}

-- the text of what was emitted
abbrev pub texts : List Emitted → Text
texts [] = []
texts (t ∷ ts) = t.text ++ texts ts

-- what is rendered ahead: a text, or pieces
abbrev pub ahead_plain : Ahead → Text
ahead_plain a = (held_of a.text).text

abbrev pub ahead_emitted : Ahead → List Emitted
ahead_emitted a = map emitted_by a.pieces.items

-- what is captured
abbrev pub plain_text : Captured → Text
plain_text k = string_bytes k.text

abbrev pub captured_emitted : Captured → List Emitted
captured_emitted k = map emitted_by k.pieces.items
