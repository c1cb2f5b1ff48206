-- The line of JSON that a piece is printed as. It has no whitespace between its tokens, which the library `json` prints.
use Rattle.std.specs.Prelude.{List, [], ◌∷◌, ◌++◌, Option, Some, None, map, codes, decimal}
use Rattle.json.specs.Print.{print}
use Rattle.json.specs.Token.{Token, begin_object, end_object, begin_array, end_array, key, string, number, null}
use Rattle.handlebars_base.specs.Bytes.{Text, newline}
use Rattle.handlebars_semantics.specs.Occurrences.{Template, the_first, the_included, Whereabouts}
use Rattle.handlebars_semantics.specs.Emitted.{Kind, Emitted}
use Rattle.handlebars_expand.specs.PiecesView.{kind_name}
use Rattle.handlebars_template.specs.Position.{Position}

-- the template: for the one that is rendered, the text `first`; for an included one, the name under which it is registered;
-- an inline partial has none
abbrev pub template_token : Text → Template → Token
template_token first the_first = string first
template_token first (the_included None) = null
template_token first (the_included (Some name)) = string name

-- the line and the column, or null if there is no position
abbrev pub position_tokens : Option Position → List Token
position_tokens None = key (codes "line") ∷ null ∷ key (codes "column") ∷ null ∷ []
position_tokens (Some position) =
    key (codes "line") ∷ number (decimal position.line) ∷ key (codes "column") ∷ number (decimal position.column) ∷ []

-- an array of these tokens
abbrev pub array_tokens : List Token → List Token
array_tokens items = begin_array ∷ (items ++ end_array ∷ [])

-- the location of the element
abbrev pub location_tokens : Text → Whereabouts → List Token
location_tokens first location =
    key (codes "template") ∷ template_token first location.around.template ∷ (position_tokens location.position
    ++ key (codes "turns") ∷ array_tokens (map (λ iteration. number (decimal iteration)) location.around.iterations))

-- the path of a value, or null if it has none
abbrev pub path_tokens : Option (List Text) → List Token
path_tokens None = null ∷ []
path_tokens (Some names) = array_tokens (map string names)

-- the text and its kind
abbrev pub text_tokens : Text → Kind → List Token
text_tokens text kind = key (codes "text") ∷ string text ∷ key (codes "kind") ∷ string (kind_name kind) ∷ []

-- all fields of a piece, in this order; none is left out
abbrev pub emitted_tokens : Text → Emitted → List Token
emitted_tokens first emitted =
    text_tokens emitted.text emitted.provenance.kind
    ++ (location_tokens first emitted.provenance.location ++ key (codes "path") ∷ path_tokens emitted.provenance.path)

-- an object with these fields
abbrev pub line_tokens : Text → Emitted → List Token
line_tokens first emitted = begin_object ∷ (emitted_tokens first emitted ++ end_object ∷ [])

-- the object and a newline after it
abbrev pub printed_text : Text → Emitted → Text
printed_text first emitted = print (line_tokens first emitted) ++ newline ∷ []
