-- Rules of what templates may write, and the demands of a rule on a template: as weakest preconditions, of which each says
-- from which state an element leads to an end.
use Rattle.std.specs.Prelude.{◌≡◌, Bool, true, false, not, ◌&&◌, Option, None, Some, unwrap_or, []}
use Rattle.std.specs.Str.{bytes_eq}
use Rattle.serde_json.specs.Data.{string}
use Rattle.handlebars_base.specs.Bytes.{Text}
use Rattle.handlebars_base.specs.Optional.{with_or}
use Rattle.handlebars_base.specs.Path.{raw_of}
use Rattle.handlebars_base.specs.Values.{rendered}
use Rattle.handlebars_template.specs.Tree.{Tree, tree, Elements, no_elements, element, Element, raw_string, html_expression, escaped_expression, helper_block, decorator_expression, decorator_block, partial_expression, partial_block, comment, Call, call, call_name, is_value, Decorator, decorator, Args, args, Param, name, path, literal, subexpression, param, Bodies, bodies, Body, no_body, body}
use Rattle.handlebars_helpers.specs.Choice.{BuiltInKind, kind_each, kind_lookup, kind_log, kind_len, built_in}
use Rattle.handlebars_semantics.specs.Including.{partial_block_name}

-- A rule has states: what is known where an element begins. It says
-- - what an element demands of the state before it, whatever it writes;
-- - which texts of a template may stand in a state, and the state after one;
-- - in which states a value may stand, escaped or not, and the state after one;
-- - in which states an address that runs no script may stand, escaped, and the state after one;
-- - which indentations may be written before lines;
-- - the state in which captured text may stand, and in which the block begins and ends that is captured.
pub record Rule : Type 1 where
  pub Known : Type 0
  pub Demands : Element → Known → Type 0
  pub MayText : Text → Known → Type 0
  pub after_text : Text → Known → Known
  pub MayValue : Bool → Known → Type 0
  pub after_value : Bool → Known → Known
  pub MayUrl : Known → Type 0
  pub after_url : Known → Known
  pub MayIndent : Text → Type 0
  pub captured : Known

-- What is registered under a name: what every registry begins with; a user-defined helper that gives values; or one of which
-- each value is written as an address that runs no script.
pub data Registered : Type 0 where
  as_first : Registered
  user_values : Registered
  user_urls : Registered

-- What is known of names: what is registered under each; and for each name of templates the states in which it may be included,
-- and for each of them those in which what is included may end.
pub record Table (rule : Rule) : Type 1 where
  pub registered : Text → Registered
  pub enters : Text → rule.Known → Type 0
  pub leaves : Text → rule.Known → rule.Known → Type 0

-- ---- what a block does

-- It renders its body or its inverse, one of them; or its body in iterations, or once, or not at all, or its inverse; or it
-- writes a value; or nothing.
pub data Effect : Type 0 where
  one_branch : Effect
  iterations : Effect
  a_value : Effect
  no_output : Effect

abbrev pub effect_of : BuiltInKind → Effect
effect_of kind_each = iterations
effect_of kind_lookup = a_value
effect_of kind_len = a_value
effect_of kind_log = no_output
effect_of kind = one_branch

-- A user-defined helper writes a value. A name that is no helper's is a section's.
abbrev pub effect_as : Registered → Text → Effect
effect_as as_first n = with_or (built_in n) effect_of iterations
effect_as user_values n = a_value
effect_as user_urls n = a_value

abbrev pub effect_named : (Text → Registered) → Text → Effect
effect_named registered n = effect_as (registered n) n

-- ---- names that are written in a template

abbrev pub written_name : Param → Option Text
written_name (name n) = Some n
written_name (path r) = Some (raw_of r)
written_name (literal d) = Some (rendered d)
written_name (subexpression e) = None

-- the name of an inline partial
abbrev pub inline_name : Args → Option Text
inline_name (args (param (literal (string n)) ps) hs) = Some n
inline_name xs = None

abbrev pub are_urls : Registered → Bool
are_urls as_first = false
are_urls user_values = false
are_urls user_urls = true

-- An expression calls a helper of addresses, by a name that is written, with arguments.
abbrev pub writes_url : (Text → Registered) → Call → Bool
writes_url registered c = not (is_value c) && with_or (written_name (call_name c)) (λ n. are_urls (registered n)) false

-- The name is the written one, if one is written. Otherwise it may be any.
abbrev pub IsNamed : Option Text → Text → Type 0
IsNamed None n = Unit {0}
IsNamed (Some m) n = n ≡ m

abbrev pub LacksBody : Body → Type 0
LacksBody no_body = Unit {0}
LacksBody (body t) = ⊥

-- ---- where a tree leads

module _ (rule : Rule) (table : Table rule) where
  -- a state, and what is demanded of an end
  abbrev pub Demand : Type 1
  Demand = rule.Known → (rule.Known → Type 0) → Type 0

  -- Captured text stands where it may. What is included under another name leads as the table has it.
  abbrev pub NameLeads : Text → Demand
  NameLeads n h end =
      (bytes_eq partial_block_name n ≡ true → (h ≡ rule.captured) × end rule.captured)
      × (bytes_eq partial_block_name n ≡ false → table.enters n h × ((g : rule.Known) → table.leaves n h g → end g))

  -- A name that is made when the template is rendered may be any, and is never allowed.
  abbrev pub WrittenLeads : Option Text → Demand
  WrittenLeads None h end = ⊥
  WrittenLeads (Some n) h end = NameLeads n h end

  -- a value, which is an address that runs no script or not, and escaped or not
  abbrev pub ValueLeads : Bool → Bool → Demand
  ValueLeads false escapes h end = rule.MayValue escapes h × end (rule.after_value escapes h)
  ValueLeads true escapes h end = rule.MayUrl h × end (rule.after_url h)

  -- From the state each way through leads to a state in which the end holds.
  abbrev mutual
    pub Leads : Tree → Demand
    Leads (tree n es positions) h end = AllLead es h end

    pub AllLead : Elements → Demand
    AllLead no_elements h end = end h
    AllLead (element e es) h end = rule.Demands e h × ElementLeads e h (λ g. AllLead es g end)

    pub ElementLeads : Element → Demand
    ElementLeads (raw_string t) h end = rule.MayText t h × end (rule.after_text t h)
    ElementLeads (html_expression c) h end = ExpressionLeads c false h end
    ElementLeads (escaped_expression c) h end = ExpressionLeads c true h end
    ElementLeads (helper_block c) h end = BlockLeads c h end
    ElementLeads (decorator_expression t) h end = DecoratorLeads t h end
    ElementLeads (decorator_block t) h end = DecoratorLeads t h end
    ElementLeads (partial_expression t) h end = InclusionLeads t h end
    ElementLeads (partial_block t) h end = InclusionLeads t h end
    ElementLeads (comment t) h end = end h

    -- An expression writes a value, escaped or not, or nothing. One with bodies is in no source.
    pub ExpressionLeads : Call → Bool → Demand
    ExpressionLeads (call n xs b (bodies x y) marks) escapes h end =
        ValueLeads (escapes && writes_url table.registered (call n xs b (bodies x y) marks)) escapes h end
        × LacksBody x × LacksBody y

    -- The name of a block is written.
    pub BlockLeads : Call → Demand
    BlockLeads (call n xs b t marks) h end =
        (m : Text) × (written_name n ≡ Some m) × BodiesLead t (effect_named table.registered m) h end

    -- Iterations come back to the state in which the first begins.
    pub BodiesLead : Bodies → Effect → Demand
    BodiesLead (bodies x y) one_branch h end = BranchLeads x h end × BranchLeads y h end
    BodiesLead (bodies x y) iterations h end = end h × BranchLeads x h (λ g. g ≡ h) × BranchLeads y h end
    BodiesLead (bodies x y) a_value h end = rule.MayValue true h × end (rule.after_value true h)
    BodiesLead (bodies x y) no_output h end = end h

    pub BranchLeads : Body → Demand
    BranchLeads no_body h end = end h
    BranchLeads (body t) h end = Leads t h end

    -- The body may be an inline partial from here on, and leads as the table has it for its name.
    pub DecoratorLeads : Decorator → Demand
    DecoratorLeads (decorator n xs b marks) h end =
        end h × ((m : Text) → IsNamed (inline_name xs) m → (g : rule.Known) → table.enters m g → BlockLeadsTo b g (table.leaves m g))

    -- The block of an inclusion may be rendered in its place, and ahead, to be captured.
    pub InclusionLeads : Decorator → Demand
    InclusionLeads (decorator n xs b marks) h end =
        rule.MayIndent (unwrap_or marks.indent []) × WrittenLeads (written_name n) h end
        × BlockLeadsTo b h end × BlockLeadsTo b rule.captured (λ g. g ≡ rule.captured)

    -- a block that is rendered only if there is one
    pub BlockLeadsTo : Body → Demand
    BlockLeadsTo no_body h end = Unit {0}
    BlockLeadsTo (body t) h end = Leads t h end

  -- an element, with what is demanded of the state before it
  abbrev pub OneLeads : Element → Demand
  OneLeads e h end = rule.Demands e h × ElementLeads e h end
