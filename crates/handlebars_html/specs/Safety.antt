-- The rule by which data stands only where it may, and what it says of runs.
use Rattle.std.specs.Prelude.{◌≡◌, Bool, true, false, List, ◌∷◌, ◌++◌}
use Rattle.std.specs.List.{list_all}
use Rattle.handlebars_base.specs.Bytes.{Text, space}
use Rattle.handlebars_base.specs.Escape.{escaped}
use Rattle.handlebars_base.specs.Outputs.{IsPrefix}
use Rattle.handlebars_template.specs.Tree.{Tree}
use Rattle.handlebars_helpers.specs.Escaping.{for_html}
use Rattle.handlebars_helpers.specs.SafeUrl.{is_safe_url}
use Rattle.handlebars_semantics.specs.Pieces.{Origin, of_text, of_value, of_raw, of_boolean_text, of_step, of_indent, Piece, join}
use Rattle.handlebars_semantics.specs.Runs.{Outcome, Means}
use Rattle.handlebars_semantics.specs.State.{Setting, first_state}
use Rattle.handlebars_html.specs.Addresses.{Value}
use Rattle.handlebars_html.specs.Tokenizer.{Tokenizer, quoted, is_comment, is_refused, begins_url}
use Rattle.handlebars_html.specs.Html.{Html, beginning, step, after, is_safe, after_data, may_hold_url, after_url, is_blank}
use Rattle.handlebars_html.specs.Rule.{Rule, Table, Leads}
use Rattle.handlebars_html.specs.Usual.{IsUsual, IsClosed}

-- ---- the rule

-- The states are those of HTML. A text may stand anywhere where a blank before it makes no difference, since an indentation
-- may come before it, and where it changes nothing of what an attribute with data means. A value stands where data may, and is
-- escaped; an address that runs no script also at the beginning of an address. Indentations are blank. A block is captured from markup to markup.
abbrev pub html_rule : Rule
html_rule = record {
  Known = Html;
  Demands = λ e h. Unit {0};
  MayText = λ t h. (after (step h space) t ≡ after h t) × (is_refused (after h t).tokenizer ≡ false);
  after_text = λ t h. after h t;
  MayValue = λ escapes h. (escapes ≡ true) × (is_safe h ≡ true);
  after_value = λ escapes h. after_data h;
  MayUrl = λ h. may_hold_url h ≡ true;
  after_url = λ h. after_url h;
  MayIndent = λ t. list_all is_blank t ≡ true;
  captured = beginning;
}

-- ---- the law

abbrev pub IsOfData : Origin → Type 0
IsOfData (of_text occurrence) = ⊥
IsOfData (of_value occurrence found) = Unit {0}
IsOfData (of_raw occurrence found) = Unit {0}
IsOfData (of_boolean_text occurrence b) = Unit {0}
IsOfData (of_step occurrence i) = Unit {0}
IsOfData (of_indent occurrence) = ⊥

-- A state within a comment stays within that comment; any other is left as it is.
abbrev pub StaysIf : Bool → Html → Html → Type 0
StaysIf true h g = (is_comment g.tokenizer ≡ true) × (g.context ≡ h.context)
StaysIf false h g = g ≡ h

abbrev pub Stays : Html → Html → Type 0
Stays h g = StaysIf (is_comment h.tokenizer) h g

-- A text is read from a state on: data may stand in that state, and the state stays after each prefix of the text.
pub record StandsAt (h : Html) (t : Text) : Type 0 where
  pub safe : is_safe h ≡ true
  pub stays : (prefix : Text) → IsPrefix prefix t → Stays h (after h prefix)

-- The state is in the quotes of an attribute, and the other state is in the same quotes.
abbrev pub InSameQuotes : Tokenizer → Tokenizer → Type 0
InSameQuotes (quoted double tag v) t = (w : Value) × (t ≡ quoted double tag w)
InSameQuotes s t = ⊥

-- A text is read from the beginning of an address on: it is an address that runs no script, or the first bytes of one, escaped;
-- and it stays within the quotes.
pub record IsUrlAt (h : Html) (t : Text) : Type 0 where
  pub begins : begins_url h.tokenizer ≡ true
  pub address : Text
  pub safe : is_safe_url address ≡ true
  pub text : IsPrefix t (escaped address)
  pub stays : (prefix : Text) → IsPrefix prefix t
      → InSameQuotes h.tokenizer (after h prefix).tokenizer × ((after h prefix).context ≡ h.context)

-- Any data may stand there, or this is an address that may.
pub data Stands (h : Html) (t : Text) : Type 0 where
  as_text : StandsAt h t → Stands h t
  as_url : IsUrlAt h t → Stands h t

-- Each piece that comes from data stands where it may in the whole text, read as HTML from its beginning.
abbrev pub StandSafely : List Piece → Type 0
StandSafely ps = (before : List Piece) (piece : Piece) (later : List Piece) → ps ≡ before ++ piece ∷ later
    → IsOfData piece.origin → Stands (after beginning (join before)) piece.text

-- If a registry escapes for html and has usual parts, and its templates lead as a table has it, then in each run of a tree that
-- leads somewhere from the beginning of a document, whatever the data, and however the run ends, data stands only where it
-- may.
abbrev pub DataStandsSafely : Setting → Type 1
DataStandsSafely p =
    p.parts.escape ≡ for_html → (table : Table html_rule) → IsUsual p table.registered → IsClosed p html_rule table
    → (t : Tree) → Leads html_rule table t beginning (λ g. Unit {0}) → (recursive : Bool) (ps : List Piece) (o : Outcome)
    → Means p t (first_state recursive) ps o → StandSafely ps
