-- A registry of which the law speaks, and templates: pages with a value between two texts.
use Rattle.std.specs.Prelude.{Bool, false, List, [], ◌∷◌, None, codes}
use Rattle.serde_json.specs.Data.{Data}
use Rattle.handlebars_base.specs.Bytes.{Text}
use Rattle.handlebars_template.specs.Tree.{Tree, tree, elements_of, Element, raw_string, escaped_expression, call, no_arguments, name, no_binding, bodies, no_body}
use Rattle.handlebars_helpers.specs.Callee.{first_callee}
use Rattle.handlebars_helpers.specs.Decoration.{built_in_decorator}
use Rattle.handlebars_helpers.specs.Escaping.{for_html, no_user_escape}
use Rattle.handlebars_helpers.specs.UserDecorator.{no_user_decorator}
use Rattle.handlebars_helpers.specs.UserHelper.{no_user_helper}
use Rattle.handlebars_semantics.specs.Pieces.{Piece}
use Rattle.handlebars_semantics.specs.Runs.{Outcome, Means}
use Rattle.handlebars_semantics.specs.State.{Setting, first_state}
use Rattle.handlebars_html.specs.Html.{beginning}
use Rattle.handlebars_html.specs.Rule.{as_first, Table, Leads}
use Rattle.handlebars_html.specs.Safety.{html_rule, StandSafely}

-- a registry as it begins, with no templates, over this data
abbrev pub first_setting : Data → Setting
first_setting d = record {
  given = d;
  parts = record {
    helper = first_callee;
    user = no_user_helper;
    decorator = built_in_decorator;
    user_decorator = no_user_decorator;
    escape = for_html;
    user_escape = no_user_escape;
    strict = false;
    recursive = false;
    sections = false;
    template = λ n. None;
    limit = 64;
  };
}

-- the table in which no name is known
abbrev pub empty_table : Table html_rule
empty_table = record { registered = λ n. as_first; enters = λ n h. ⊥; leaves = λ n h g. ⊥ }

-- a page of these elements
abbrev pub page : List Element → Tree
page es = tree None (elements_of es) []

-- `{{x}}`
abbrev pub x_value : Element
x_value =
    escaped_expression (call (name (codes "x")) no_arguments no_binding (bodies no_body no_body)
    record { block = false; chain = false; indent_before_write = false })

-- a page of one value, after a text and before another
abbrev pub around_x : Text → Text → Tree
around_x before later = page (raw_string before ∷ x_value ∷ raw_string later ∷ [])

-- The page leads somewhere as the rule has it.
abbrev pub IsSafePage : Tree → Type 0
IsSafePage t = Leads html_rule empty_table t beginning (λ g. Unit {0})

-- In each run of the page, whatever the data, and however the run ends, data stands only where it may.
abbrev pub KeepsDataSafe : Tree → Type 0
KeepsDataSafe t =
    (d : Data) (recursive : Bool) (ps : List Piece) (o : Outcome) → Means (first_setting d) t (first_state recursive) ps o
    → StandSafely ps

-- A page that leads somewhere keeps data safe.
abbrev pub SafePagesKeepDataSafe : Type 0
SafePagesKeepDataSafe = (t : Tree) → IsSafePage t → KeepsDataSafe t
