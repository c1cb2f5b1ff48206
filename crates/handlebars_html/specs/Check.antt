-- The check of a tree by the rule of data and by the rows of a table: the states in which the ways through it end, the rows
-- that it needs, and what breaks the rule.
use Rattle.std.specs.Prelude.{Bool, true, false, not, ◌&&◌, if◌then◌else◌, List, [], ◌∷◌, ◌++◌, map, Option, None, Some, unwrap_or}
use Rattle.std.specs.List.{list_all, flat_map, filter}
use Rattle.std.specs.Str.{bytes_eq}
use Rattle.handlebars_base.specs.Bytes.{Text, space}
use Rattle.handlebars_base.specs.Optional.{with_or}
use Rattle.handlebars_template.specs.Position.{Position}
use Rattle.handlebars_template.specs.Tree.{Tree, tree, Elements, no_elements, element, Element, raw_string, html_expression, escaped_expression, helper_block, decorator_expression, decorator_block, partial_expression, partial_block, comment, Call, call, call_bodies, Decorator, decorator, DecoratorMarks, Bodies, bodies, Body, no_body, body}
use Rattle.handlebars_semantics.specs.Including.{partial_block_name}
use Rattle.handlebars_html.specs.Tokenizer.{Tokenizer, misled, stuck, is_refused}
use Rattle.handlebars_html.specs.Html.{Html, beginning, step, after, is_safe, after_data, may_hold_url, after_url, is_blank}
use Rattle.handlebars_html.specs.Rule.{Registered, writes_url, Effect, one_branch, iterations, a_value, no_output, effect_named, written_name, inline_name}
use Rattle.handlebars_html.specs.Same.{is_same}
use Rattle.handlebars_html.specs.Rows.{is_among, with_states, each_state, without_state, Row, entering, leaving, leaving_states, leavings}
use Rattle.handlebars_html.specs.Faults.{Why, unsafe_value, unread_value, unescaped_value, changed_text, late_attribute, changed_address, changed_by_iteration, changed_by_block, captured_text_in, made_inclusion, made_block, other_indent, expression_bodies, Fault, faults_at, unless, with_faults}

-- ---- what is found

-- the rows that a table must have, and what breaks the rule, in the order in which trees are read
pub record Findings : Type 0 where
  pub rows : List Row
  pub faults : List Fault

-- no rows and no faults
abbrev pub no_findings : Findings
no_findings = record { rows = []; faults = [] }

-- rows without faults
abbrev pub found_rows : List Row → Findings
found_rows rows = record { rows = rows; faults = [] }

-- faults without rows
abbrev pub found_faults : List Fault → Findings
found_faults faults = record { rows = []; faults = faults }

-- the findings of one part, and then those of the other
abbrev pub both_findings : Findings → Findings → Findings
both_findings x y = record { rows = x.rows ++ y.rows; faults = x.faults ++ y.faults }

-- each fault once
abbrev pub each_once : Findings → Findings
each_once x = record { rows = x.rows; faults = with_faults [] x.faults }

-- the findings of each state, one after another
abbrev pub findings_of_each : (Html → Findings) → List Html → Findings
findings_of_each f [] = no_findings
findings_of_each f (h ∷ hs) = both_findings (f h) (findings_of_each f hs)

-- the states in which the ways through a part end, each once, and what is found on them
pub record Ends : Type 0 where
  pub states : List Html
  pub findings : Findings

-- with nothing found
abbrev pub ends_in : List Html → Ends
ends_in hs = record { states = hs; findings = no_findings }

-- with what was found before
abbrev pub found_before : Findings → Ends → Ends
found_before x y = record { states = y.states; findings = both_findings x y.findings }

-- of two parts, of which a run goes through one
abbrev pub either_ends : Ends → Ends → Ends
either_ends x y =
    record { states = with_states x.states y.states; findings = both_findings x.findings y.findings }

-- of two parts, of which the second begins where the first ends
abbrev pub then_ends : Ends → (List Html → Ends) → Ends
then_ends x f = found_before x.findings (f x.states)

-- ---- texts and values

-- A text changes nothing of what data before it means.
abbrev pub is_in_time : Text → Html → Bool
is_in_time t h = not (is_refused (after h t).tokenizer)

-- a text that leads to this state, to which none may lead
abbrev pub why_refused : Tokenizer → Why
why_refused misled = changed_address
why_refused t = late_attribute

-- A text of a template is read from this state. A blank before it makes no difference, and it changes nothing of what was before,
-- or that is a fault.
abbrev pub whys_of_text : Text → Html → List Why
whys_of_text t h =
    unless (is_same (after (step h space) t) (after h t)) (changed_text h) ++ unless (is_in_time t h) (why_refused (after h t).tokenizer)

-- a value in a state in which data may not stand
abbrev pub why_unsafe : Tokenizer → Html → Why
why_unsafe stuck h = unread_value
why_unsafe t h = unsafe_value h

-- A value stands in this state. Data may, or that is a fault.
abbrev pub whys_of_value : Html → List Why
whys_of_value h = unless (is_safe h) (why_unsafe h.tokenizer h)

-- An address that runs no script stands in this state. It may, or that is a fault.
abbrev pub whys_of_url : Html → List Why
whys_of_url h = unless (may_hold_url h) (why_unsafe h.tokenizer h)

-- whether there is no body
abbrev pub lacks_body : Body → Bool
lacks_body no_body = true
lacks_body (body t) = false

-- An expression has these bodies. None of them is one, or that is a fault.
abbrev pub whys_of_bodies : Bodies → List Why
whys_of_bodies (bodies x y) = unless (lacks_body x && lacks_body y) expression_bodies

-- ---- iterations and inclusions

-- Iterations begin in this state and end in these. Each end is the beginning, or a fault.
abbrev pub whys_of_iterations : Html → List Html → List Why
whys_of_iterations h gs = flat_map (λ g. unless (is_same g h) (changed_by_iteration h g)) gs

-- A block that may be captured ends in these states. Each is that in which captured text begins, or a fault.
abbrev pub whys_of_captured : List Html → List Why
whys_of_captured gs = flat_map (λ g. unless (is_same g beginning) (changed_by_block g)) gs

-- The indentation is blank, or that is a fault.
abbrev pub whys_of_indent : DecoratorMarks → List Why
whys_of_indent marks = unless (list_all is_blank (unwrap_or marks.indent [])) other_indent

-- Something is included by this name in these states. A name that is made when it is rendered is a fault, and so is captured
-- text in another state than its own.
abbrev pub whys_of_name : Option Text → List Html → List Why
whys_of_name None hs = made_inclusion ∷ []
whys_of_name (Some n) hs =
    if bytes_eq partial_block_name n then flat_map (λ h. unless (is_same h beginning) (captured_text_in h)) hs else []

-- The name is the written one, if one is written. Otherwise it may be any.
abbrev pub may_name : Option Text → Text → Bool
may_name None n = true
may_name (Some m) n = bytes_eq n m

module _ (rows : List Row) where
  -- Captured text ends where it begins. What is included under another name ends as the table has it.
  abbrev pub included_ends : Option Text → List Html → Ends
  included_ends None hs = ends_in hs
  included_ends (Some n) hs =
      if bytes_eq partial_block_name n then ends_in hs
      else record {
        states = with_states [] (flat_map (leaving_states rows n) hs);
        findings = found_rows (map (λ h. entering n h) hs);
      }

-- What is included by this name in this state ends so, and each of the states needs a row.
abbrev pub findings_of_entering : Text → Html → Ends → Findings
findings_of_entering n h x = both_findings x.findings (found_rows (leavings n h x.states))

-- what is found where something is included by this row, if it says that
abbrev pub findings_of_row : Row → (Text → Html → Ends) → Findings
findings_of_row (entering n h) f = findings_of_entering n h (f n h)
findings_of_row (leaving n h g) f = no_findings

-- by each of these rows
abbrev pub findings_of_entered : List Row → (Text → Html → Ends) → Findings
findings_of_entered [] f = no_findings
findings_of_entered (row ∷ rows) f = both_findings (findings_of_row row f) (findings_of_entered rows f)

-- ---- positions

-- the position of the first element, if it is known
abbrev pub first_position : List Position → Option Position
first_position [] = None
first_position (p ∷ ps) = Some p

-- the positions of the others
abbrev pub later_positions : List Position → List Position
later_positions [] = []
later_positions (p ∷ ps) = ps

-- ---- trees

-- A tree in the template of this name is read once from all of these states. After a fault it is read on, as if there were none, so
-- that later faults are found too; but not on a way on which a text changes what was before, and not in a block whose name is made
-- when it is rendered.
module _ (registered : Text → Registered) (rows : List Row) (template : Option Text) where
  -- these faults, at this position of the template
  abbrev pub findings_at : Option Position → List Why → Findings
  findings_at p ws = found_faults (faults_at template p ws)

  -- A value may stand where data may.
  abbrev pub value_ends : Option Position → List Html → Ends
  value_ends p hs = record { states = each_state after_data hs; findings = findings_at p (flat_map whys_of_value hs) }

  -- A text of the template is read on from each state. A way on which it changes what was before ends there.
  abbrev pub text_ends : Option Position → Text → List Html → Ends
  text_ends p t hs = record {
    states = each_state (λ h. after h t) (filter (is_in_time t) hs);
    findings = findings_at p (flat_map (whys_of_text t) hs);
  }

  -- An html expression is one fault. What its value is made of is not checked.
  abbrev pub html_expression_ends : Option Position → List Html → Ends
  html_expression_ends p hs = record { states = each_state after_data hs; findings = findings_at p (unescaped_value ∷ []) }

  -- An address that runs no script may also stand where an address begins.
  abbrev pub url_ends : Option Position → List Html → Ends
  url_ends p hs = record { states = each_state after_url hs; findings = findings_at p (flat_map whys_of_url hs) }

  -- An expression writes a value, which may be known to be such an address, and has no bodies.
  abbrev pub expression_ends : Option Position → Call → List Html → Ends
  expression_ends p c hs =
      found_before (findings_at p (whys_of_bodies (call_bodies c)))
      (if writes_url registered c then url_ends p hs else value_ends p hs)

  -- One iteration begins in this state and ends so. The fault that it ends elsewhere comes after those in it.
  abbrev pub iteration_findings : Option Position → Html → Ends → Findings
  iteration_findings p h x = both_findings x.findings (findings_at p (whys_of_iterations h x.states))

  -- The block of an inclusion ends so when it is rendered ahead; and so in its place, from the states in which captured text
  -- doesn't begin.
  abbrev pub inclusion_parts : Option Position → Option Text → DecoratorMarks → List Html → Ends → Ends → Ends
  inclusion_parts p n marks hs ahead other =
      found_before (findings_at p (whys_of_indent marks ++ whys_of_name n hs))
      (found_before (both_findings ahead.findings (findings_at p (whys_of_captured ahead.states)))
      (either_ends (included_ends rows n hs)
      (either_ends (ends_in (if is_among hs beginning then ahead.states else [])) other)))

  abbrev mutual
    -- its elements, one after another
    pub tree_ends : Tree → List Html → Ends
    tree_ends (tree n es positions) hs = elements_ends positions es hs

    -- From no state there are no ways.
    pub elements_ends : List Position → Elements → List Html → Ends
    elements_ends ps no_elements hs = ends_in hs
    elements_ends ps (element e es) [] = ends_in []
    elements_ends ps (element e es) (h ∷ hs) =
        then_ends (element_ends (first_position ps) e (h ∷ hs)) (λ gs. elements_ends (later_positions ps) es gs)

    -- by its kind; a comment writes nothing
    pub element_ends : Option Position → Element → List Html → Ends
    element_ends p (raw_string t) hs = text_ends p t hs
    element_ends p (html_expression c) hs = html_expression_ends p hs
    element_ends p (escaped_expression c) hs = expression_ends p c hs
    element_ends p (helper_block c) hs = block_ends p c hs
    element_ends p (decorator_expression t) hs = decorator_ends t hs
    element_ends p (decorator_block t) hs = decorator_ends t hs
    element_ends p (partial_expression t) hs = inclusion_ends p t hs
    element_ends p (partial_block t) hs = inclusion_ends p t hs
    element_ends p (comment t) hs = ends_in hs

    -- The bodies of a block whose name is made when it is rendered are not checked.
    pub block_ends : Option Position → Call → List Html → Ends
    block_ends p (call n xs b t marks) hs =
        with_or (written_name n) (λ m. bodies_ends p t (effect_named registered m) hs)
        (record { states = hs; findings = findings_at p (made_block ∷ []) })

    -- by what the block does: iterations may also be none, and then there may be an inverse
    pub bodies_ends : Option Position → Bodies → Effect → List Html → Ends
    bodies_ends p (bodies x y) one_branch hs = either_ends (branch_ends x hs) (branch_ends y hs)
    bodies_ends p (bodies x y) iterations hs =
        found_before (findings_of_each (λ h. iteration_findings p h (branch_ends x (h ∷ []))) hs)
        (either_ends (ends_in hs) (branch_ends y hs))
    bodies_ends p (bodies x y) a_value hs = value_ends p hs
    bodies_ends p (bodies x y) no_output hs = ends_in hs

    -- a body, or nothing where there is none
    pub branch_ends : Body → List Html → Ends
    branch_ends no_body hs = ends_in hs
    branch_ends (body t) hs = tree_ends t hs

    -- The body may be an inline partial, and is read from each state in which its name is included.
    pub decorator_ends : Decorator → List Html → Ends
    decorator_ends (decorator n xs b marks) hs = record {
      states = hs;
      findings = findings_of_entered rows (λ m g. if may_name (inline_name xs) m then own_ends b (g ∷ []) else ends_in []);
    }

    -- The block of an inclusion is read as what is captured, and from each other state as what is rendered in its place.
    pub inclusion_ends : Option Position → Decorator → List Html → Ends
    inclusion_ends p (decorator n xs b marks) hs =
        inclusion_parts p (written_name n) marks hs (own_ends b (beginning ∷ [])) (own_ends b (without_state hs beginning))

    -- a block that is rendered only if there is one
    pub own_ends : Body → List Html → Ends
    own_ends no_body hs = ends_in []
    own_ends (body t) hs = tree_ends t hs
