-- A rule with one state, which demands something of each element and allows all that is written: the walk at a second rule.
use Rattle.std.proofs.Common.{Bool, List}
use Rattle.handlebars_template.specs.Tree.{Tree, Element}
use Rattle.handlebars_semantics.specs.Pieces.{Piece}
use Rattle.handlebars_semantics.specs.Runs.{Outcome, Means}
use Rattle.handlebars_semantics.specs.State.{Setting, first_state}
use Rattle.handlebars_html.specs.Rule.{Rule, Table, Leads}
use Rattle.handlebars_html.specs.Usual.{IsUsual, IsClosed}
use Rattle.handlebars_html.proofs.Plans.{Meaning, AreMet}
use Rattle.handlebars_html.proofs.Walk.{Means-obeys}

abbrev pub demanding : (Element → Type 0) → Rule
demanding P = record {
  Known = Unit {0};
  Demands = λ e h. P e;
  MayText = λ t h. Unit {0};
  after_text = λ t h. tt;
  MayValue = λ escapes h. Unit {0};
  after_value = λ escapes h. tt;
  MayUrl = λ h. Unit {0};
  after_url = λ h. tt;
  MayIndent = λ t. Unit {0};
  captured = tt;
}

meaning : (p : Setting) (P : Element → Type 0) → Meaning p (demanding P)
meaning p P = record {
  Emits = λ h ps g. Unit {0};
  nothing = λ h. tt;
  join = λ first second. tt;
  prefix = λ f emits. (tt, tt);
  text = λ occurrence i t line h indent may. tt;
  value = λ occurrence found i t line h indent may has. tt;
  raw = λ occurrence found i line h indent may. tt;
  url = λ occurrence found i t line h indent may safe has. tt;
  boolean = λ occurrence b escapes h may. tt;
  no_value = λ escapes h may. tt;
  no_url = λ h may. tt;
  no_indent = tt;
  join_indent = λ i j x y. tt;
}

-- In each run of a tree all of whose elements are as demanded, as are those of what it includes, so is each element to which
-- the run comes.
pub elements_are_met : (p : Setting) (P : Element → Type 0) (table : Table (demanding P)) → IsUsual p table.registered
    → IsClosed p (demanding P) table → (t : Tree) → Leads (demanding P) table t tt (λ g. Unit {0}) → (recursive : Bool)
    → (ps : List Piece) (o : Outcome) (r : Means p t (first_state recursive) ps o) → AreMet (demanding P) r
elements_are_met p P table usual closed t leads recursive ps o r =
    (Means-obeys p (demanding P) table (meaning p P) usual closed t tt (λ g. Unit {0}) leads recursive ps o r).1
