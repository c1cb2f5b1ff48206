-- The check is right to accept: a tree in which nothing breaks the rule, and whose rows the table has, leads as the rule has it.
use Rattle.std.proofs.Common.{◌≡◌, Bool, true, false, ◌&&◌, if◌then◌else◌, List, [], ◌∷◌, ◌++◌, map, refl, sym, ◌∙◌, subst, Option, None, Some, unwrap_or}
use Rattle.std.specs.List.{list_all, flat_map, filter, AllByRecursion}
use Rattle.std.specs.Str.{bytes_eq}
use Rattle.handlebars_base.specs.Bytes.{Text, space}
use Rattle.handlebars_base.specs.Optional.{with_or}
use Rattle.handlebars_template.specs.Position.{Position}
use Rattle.handlebars_template.specs.Tree.{Tree, tree, Elements, no_elements, element, Element, raw_string, html_expression, escaped_expression, helper_block, decorator_expression, decorator_block, partial_expression, partial_block, comment, Call, call, Decorator, decorator, Bodies, bodies, Body, no_body, body}
use Rattle.handlebars_semantics.specs.Including.{partial_block_name}
use Rattle.handlebars_html.specs.Tokenizer.{is_refused}
use Rattle.handlebars_html.specs.Html.{Html, beginning, step, after, is_safe, after_data, may_hold_url, after_url, is_blank}
use Rattle.handlebars_html.specs.Rule.{Registered, writes_url, Table, Effect, one_branch, iterations, a_value, no_output, effect_named, written_name, inline_name, LacksBody, NameLeads, WrittenLeads, ValueLeads, Leads, AllLead, ElementLeads, ExpressionLeads, BlockLeads, BodiesLead, BranchLeads, DecoratorLeads, InclusionLeads, BlockLeadsTo}
use Rattle.handlebars_html.specs.Safety.{html_rule}
use Rattle.handlebars_html.specs.Same.{is_same}
use Rattle.handlebars_html.specs.Rows.{is_among, without_state, with_states, Row, entering, leaving_states, table_of, IsInTable}
use Rattle.handlebars_html.specs.Faults.{Why, changed_text, changed_by_block, changed_by_iteration, captured_text_in, expression_bodies, other_indent, made_block, unless}
use Rattle.handlebars_html.specs.Check.{is_in_time, both_findings, findings_of_each, Ends, ends_in, found_before, either_ends, why_refused, whys_of_text, whys_of_value, whys_of_url, lacks_body, whys_of_bodies, whys_of_iterations, whys_of_captured, whys_of_indent, whys_of_name, may_name, included_ends, first_position, later_positions, findings_at, value_ends, url_ends, expression_ends, iteration_findings, tree_ends, elements_ends, element_ends, block_ends, bodies_ends, branch_ends, decorator_ends, inclusion_ends, own_ends}
use Rattle.handlebars_html.proofs.StateLists.{true-false, not-true, All-of_filter, by_both, same-is, All-map, All-both, All-each, All-of_map, All-of_flat, empty-first, empty-later, empty-of_flat, unless-true, among-has, with_states-has, each_state-has, without_state-has}
use Rattle.handlebars_html.proofs.CleanFindings.{IsClean, IsFine, clean-first, clean-later, clean-of_each, clean-whys, fine-before, fine-either, entered-of_clean, named-may}

-- ---- what no fault says

text-unchanged : (t : Text) (h : Html) → whys_of_text t h ≡ [] → after (step h space) t ≡ after h t
text-unchanged t h none =
    same-is (after (step h space) t) (after h t) (unless-true _ _
    (empty-first (unless (is_same (after (step h space) t) (after h t)) (changed_text h))
    (unless (is_in_time t h) (why_refused (after h t).tokenizer)) none))

text-in_time : (t : Text) (h : Html) → whys_of_text t h ≡ [] → is_in_time t h ≡ true
text-in_time t h none =
    unless-true (is_in_time t h) (why_refused (after h t).tokenizer)
    (empty-later (unless (is_same (after (step h space) t) (after h t)) (changed_text h))
    (unless (is_in_time t h) (why_refused (after h t).tokenizer)) none)

value-safe : (h : Html) → whys_of_value h ≡ [] → is_safe h ≡ true
value-safe h none = unless-true _ _ none

url-safe : (h : Html) → whys_of_url h ≡ [] → may_hold_url h ≡ true
url-safe h none = unless-true _ _ none

body-lacks : (b : Body) → lacks_body b ≡ true → LacksBody b
body-lacks no_body is = tt
body-lacks (body t) is = cc

iterations-same : (h : Html) (gs : List Html) → whys_of_iterations h gs ≡ [] → AllByRecursion (λ g. g ≡ h) gs
iterations-same h gs none =
    All-map (λ g. unless (is_same g h) (changed_by_iteration h g) ≡ []) (λ g. g ≡ h)
    (λ g is. same-is g h (unless-true _ _ is)) gs
    (empty-of_flat (λ g. unless (is_same g h) (changed_by_iteration h g)) gs none)

captured-same : (gs : List Html) → whys_of_captured gs ≡ [] → AllByRecursion (λ g. g ≡ beginning) gs
captured-same gs none =
    All-map (λ g. unless (is_same g beginning) (changed_by_block g) ≡ []) (λ g. g ≡ beginning)
    (λ g is. same-is g beginning (unless-true _ _ is)) gs
    (empty-of_flat (λ g. unless (is_same g beginning) (changed_by_block g)) gs none)

module _ (registered : Text → Registered) (rows : List Row) (template : Option Text) where
  abbrev table : Table html_rule
  table = table_of registered rows

  abbrev Fine : (Html → Type 0) → Ends → Type 0
  Fine end x = IsFine table end x

  none-at : (p : Option Position) (ws : List Why) → IsClean table (findings_at registered rows template p ws) → ws ≡ []
  none-at p ws clean = clean-whys table template p ws clean

  -- ---- texts, values and names

  abbrev AllHtml : (Html → Type 0) → List Html → Type 0
  AllHtml P hs = AllByRecursion P hs

  value-leads : (p : Option Position) (hs : List Html) (end : Html → Type 0)
      → Fine end (value_ends registered rows template p hs)
      → AllHtml (λ h. ((true ≡ true) × (is_safe h ≡ true)) × end (after_data h)) hs
  value-leads p hs end fine =
      All-both (λ h. whys_of_value h ≡ []) (λ h. end (after_data h)) _
      (λ h none ends. ((refl, value-safe h none), ends)) hs
      (empty-of_flat whys_of_value hs (none-at p (flat_map whys_of_value hs) fine.clean))
      (each_state-has end after_data hs fine.states)

  url-leads : (p : Option Position) (hs : List Html) (end : Html → Type 0)
      → Fine end (url_ends registered rows template p hs)
      → AllHtml (λ h. (may_hold_url h ≡ true) × end (after_url h)) hs
  url-leads p hs end fine =
      All-both (λ h. whys_of_url h ≡ []) (λ h. end (after_url h)) _
      (λ h none ends. (url-safe h none, ends)) hs
      (empty-of_flat whys_of_url hs (none-at p (flat_map whys_of_url hs) fine.clean))
      (each_state-has end after_url hs fine.states)

  -- a value, which is an address or not
  value_or_url-leads : (url : Bool) (p : Option Position) (hs : List Html) (end : Html → Type 0)
      → Fine end (if url then url_ends registered rows template p hs else value_ends registered rows template p hs)
      → AllHtml (λ h. ValueLeads html_rule table url true h end) hs
  value_or_url-leads true p hs end fine = url-leads p hs end fine
  value_or_url-leads false p hs end fine = value-leads p hs end fine

  name-leads : (o : Option Text) (hs : List Html) (end : Html → Type 0) → whys_of_name o hs ≡ []
      → Fine end (included_ends rows o hs) → AllHtml (λ h. WrittenLeads html_rule table o h end) hs
  name-leads None hs end none fine = cc
  name-leads (Some n) hs end none fine = by (bytes_eq partial_block_name n) refl none fine
    where
      by : (b : Bool) → bytes_eq partial_block_name n ≡ b
          → (if b then flat_map (λ h. unless (is_same h beginning) (captured_text_in h)) hs else []) ≡ []
          → Fine end (if b then ends_in hs else record {
            states = with_states [] (flat_map (leaving_states rows n) hs);
            findings = record { rows = map (λ h. entering n h) hs; faults = [] };
          }) → AllHtml (λ h. NameLeads html_rule table n h end) hs
      by true e none fine =
          All-both (λ h. unless (is_same h beginning) (captured_text_in h) ≡ []) end (λ h. NameLeads html_rule table n h end)
          (λ h is ends. let same : h ≡ beginning = same-is h beginning (unless-true _ _ is) in (
            λ captured. (same, subst end same ends),
            λ other. true-false (sym e ∙ other),
          )) hs (empty-of_flat (λ h. unless (is_same h beginning) (captured_text_in h)) hs none) fine.states
      by false e none fine =
          All-both (λ h. IsInTable table (entering n h)) (λ h. AllByRecursion end (leaving_states rows n h))
          (λ h. NameLeads html_rule table n h end)
          (λ h enters ends. (
            λ captured. true-false (sym captured ∙ e),
            λ other. (enters, λ g leaves. among-has end (leaving_states rows n h) ends g leaves),
          )) hs (All-of_map (IsInTable table) (λ h. entering n h) hs fine.clean.rows)
          (All-of_flat end (leaving_states rows n) hs (with_states-has end [] (flat_map (leaving_states rows n) hs) fine.states).1)

  -- ---- blocks that come back

  iteration-fine : (p : Option Position) (h : Html) (x : Ends) → IsClean table (iteration_findings registered rows template p h x)
      → Fine (λ g. g ≡ h) x
  iteration-fine p h x clean =
      let there = findings_at registered rows template p (whys_of_iterations h x.states) in record {
        states = iterations-same h x.states
            (none-at p (whys_of_iterations h x.states) (clean-later table x.findings there clean));
        clean = clean-first table x.findings there clean;
      }

  captured-fine : (p : Option Position) (x : Ends)
      → IsClean table (both_findings x.findings (findings_at registered rows template p (whys_of_captured x.states)))
      → Fine (λ g. g ≡ beginning) x
  captured-fine p x clean =
      let there = findings_at registered rows template p (whys_of_captured x.states) in record {
        states = captured-same x.states (none-at p (whys_of_captured x.states) (clean-later table x.findings there clean));
        clean = clean-first table x.findings there clean;
      }

  -- ---- trees

  mutual
    pub tree-leads : (t : Tree) (hs : List Html) (end : Html → Type 0) → Fine end (tree_ends registered rows template t hs)
        → AllHtml (λ h. Leads html_rule table t h end) hs
    tree-leads (tree n es positions) hs end fine = elements-lead positions es hs end fine

    elements-lead : (ps : List Position) (es : Elements) (hs : List Html) (end : Html → Type 0)
        → Fine end (elements_ends registered rows template ps es hs) → AllHtml (λ h. AllLead html_rule table es h end) hs
    elements-lead ps no_elements hs end fine = fine.states
    elements-lead ps (element e es) [] end fine = tt
    elements-lead ps (element e es) (h ∷ hs) end fine =
        let first = element_ends registered rows template (first_position ps) e (h ∷ hs) in
        let parts = fine-before table end first.findings
        (elements_ends registered rows template (later_positions ps) es first.states) fine in
        All-map (λ g. ElementLeads html_rule table e g (λ k. AllLead html_rule table es k end))
        (λ g. AllLead html_rule table (element e es) g end) (λ g leads. (tt, leads)) (h ∷ hs)
        (element-leads (first_position ps) e (h ∷ hs) (λ k. AllLead html_rule table es k end) (record {
          states = elements-lead (later_positions ps) es first.states end parts.1;
          clean = parts.0;
        }))

    element-leads : (p : Option Position) (e : Element) (hs : List Html) (end : Html → Type 0)
        → Fine end (element_ends registered rows template p e hs) → AllHtml (λ h. ElementLeads html_rule table e h end) hs
    element-leads p (raw_string t) hs end fine =
        let none = empty-of_flat (whys_of_text t) hs (none-at p (flat_map (whys_of_text t) hs) fine.clean) in
        let in_time = All-map (λ h. whys_of_text t h ≡ []) (λ h. is_in_time t h ≡ true) (text-in_time t) hs none in
        All-both (λ h. whys_of_text t h ≡ []) (λ h. end (after h t)) (λ h. ElementLeads html_rule table (raw_string t) h end)
        (λ h none ends. ((text-unchanged t h none, not-true (is_refused (after h t).tokenizer) (text-in_time t h none)), ends)) hs
        none (All-of_filter (λ h. end (after h t)) (is_in_time t) hs in_time
        (each_state-has end (λ h. after h t) (filter (is_in_time t) hs) fine.states))
    element-leads p (html_expression c) hs end fine = let none = fine.clean.faults in cc
    element-leads p (escaped_expression c) hs end fine = expression-leads p c hs end fine
    element-leads p (helper_block c) hs end fine = block-leads p c hs end fine
    element-leads p (decorator_expression t) hs end fine = decorator-leads t hs end fine
    element-leads p (decorator_block t) hs end fine = decorator-leads t hs end fine
    element-leads p (partial_expression t) hs end fine = inclusion-leads p t hs end fine
    element-leads p (partial_block t) hs end fine = inclusion-leads p t hs end fine
    element-leads p (comment t) hs end fine = fine.states

    expression-leads : (p : Option Position) (c : Call) (hs : List Html) (end : Html → Type 0)
        → Fine end (expression_ends registered rows template p c hs)
        → AllHtml (λ h. ExpressionLeads html_rule table c true h end) hs
    expression-leads p (call n xs b (bodies x y) marks) hs end fine =
        let c : Call = call n xs b (bodies x y) marks in
        let url = writes_url registered c in
        let parts = fine-before table end (findings_at registered rows template p (whys_of_bodies (bodies x y)))
        (if url then url_ends registered rows template p hs else value_ends registered rows template p hs) fine in
        by_both (lacks_body x) (lacks_body y)
        (unless-true (lacks_body x && lacks_body y) expression_bodies (none-at p (whys_of_bodies (bodies x y)) parts.0))
        (λ first second. All-map (λ h. ValueLeads html_rule table url true h end) (λ h. ExpressionLeads html_rule table c true h end)
        (λ h leads. (leads, body-lacks x first, body-lacks y second)) hs (value_or_url-leads url p hs end parts.1))

    block-leads : (p : Option Position) (c : Call) (hs : List Html) (end : Html → Type 0)
        → Fine end (block_ends registered rows template p c hs) → AllHtml (λ h. BlockLeads html_rule table c h end) hs
    block-leads p (call n xs b t marks) hs end fine = by (written_name n) refl fine (λ m fine. bodies-lead p t (effect_named registered m) hs end fine)
      where
        by : (o : Option Text) → written_name n ≡ o
            → Fine end (with_or o (λ m. bodies_ends registered rows template p t (effect_named registered m) hs)
            (record { states = hs; findings = findings_at registered rows template p (made_block ∷ []) }))
            → ((m : Text) → Fine end (bodies_ends registered rows template p t (effect_named registered m) hs)
            → AllHtml (λ h. BodiesLead html_rule table t (effect_named registered m) h end) hs)
            → AllHtml (λ h. BlockLeads html_rule table (call n xs b t marks) h end) hs
        by None e fine lead = let none = fine.clean.faults in cc
        by (Some m) e fine lead =
            All-map (λ h. BodiesLead html_rule table t (effect_named registered m) h end)
            (λ h. BlockLeads html_rule table (call n xs b t marks) h end) (λ h leads. (m, e, leads)) hs (lead m fine)

    bodies-lead : (p : Option Position) (t : Bodies) (e : Effect) (hs : List Html) (end : Html → Type 0)
        → Fine end (bodies_ends registered rows template p t e hs) → AllHtml (λ h. BodiesLead html_rule table t e h end) hs
    bodies-lead p (bodies x y) one_branch hs end fine =
        let parts = fine-either table end (branch_ends registered rows template x hs) (branch_ends registered rows template y hs) fine in
        All-both (λ h. BranchLeads html_rule table x h end) (λ h. BranchLeads html_rule table y h end)
        (λ h. BodiesLead html_rule table (bodies x y) one_branch h end) (λ h first second. (first, second)) hs
        (branch-leads x hs end parts.0) (branch-leads y hs end parts.1)
    bodies-lead p (bodies x y) iterations hs end fine =
        let each = findings_of_each
        (λ h. iteration_findings registered rows template p h (branch_ends registered rows template x (h ∷ []))) hs in
        let parts = fine-before table end each (either_ends (ends_in hs) (branch_ends registered rows template y hs)) fine in
        let ways = fine-either table end (ends_in hs) (branch_ends registered rows template y hs) parts.1 in
        let back : AllHtml (λ h. BranchLeads html_rule table x h (λ g. g ≡ h)) hs =
        All-map (λ h. IsClean table (iteration_findings registered rows template p h (branch_ends registered rows template x (h ∷ []))))
        (λ h. BranchLeads html_rule table x h (λ g. g ≡ h))
        (λ h clean. (branch-leads x (h ∷ []) (λ g. g ≡ h)
        (iteration-fine p h (branch_ends registered rows template x (h ∷ [])) clean)).0) hs
        (clean-of_each table
        (λ h. iteration_findings registered rows template p h (branch_ends registered rows template x (h ∷ []))) hs parts.0) in
        let others : AllHtml (λ h. BranchLeads html_rule table x h (λ g. g ≡ h) × BranchLeads html_rule table y h end) hs =
        All-both (λ h. BranchLeads html_rule table x h (λ g. g ≡ h)) (λ h. BranchLeads html_rule table y h end)
        (λ h. BranchLeads html_rule table x h (λ g. g ≡ h) × BranchLeads html_rule table y h end)
        (λ h first second. (first, second)) hs back (branch-leads y hs end ways.1) in
        All-both end (λ h. BranchLeads html_rule table x h (λ g. g ≡ h) × BranchLeads html_rule table y h end)
        (λ h. BodiesLead html_rule table (bodies x y) iterations h end)
        (λ h ends rest. (ends, rest.0, rest.1)) hs ways.0.states others
    bodies-lead p (bodies x y) a_value hs end fine = value-leads p hs end fine
    bodies-lead p (bodies x y) no_output hs end fine = fine.states

    branch-leads : (b : Body) (hs : List Html) (end : Html → Type 0) → Fine end (branch_ends registered rows template b hs)
        → AllHtml (λ h. BranchLeads html_rule table b h end) hs
    branch-leads no_body hs end fine = fine.states
    branch-leads (body t) hs end fine = tree-leads t hs end fine

    own-leads : (b : Body) (hs : List Html) (end : Html → Type 0) → Fine end (own_ends registered rows template b hs)
        → AllHtml (λ h. BlockLeadsTo html_rule table b h end) hs
    own-leads no_body hs end fine = All-each (λ h. Unit {0}) (λ h. tt) hs
    own-leads (body t) hs end fine = tree-leads t hs end fine

    decorator-leads : (t : Decorator) (hs : List Html) (end : Html → Type 0)
        → Fine end (decorator_ends registered rows template t hs) → AllHtml (λ h. DecoratorLeads html_rule table t h end) hs
    decorator-leads (decorator n xs b marks) hs end fine =
        All-map end (λ h. DecoratorLeads html_rule table (decorator n xs b marks) h end)
        (λ h ends. (
          ends,
          λ m named g enters.
              (own-leads b (g ∷ []) (table.leaves m g) (of_named (may_name (inline_name xs) m) m g
              (named-may (inline_name xs) m named)
              (entered-of_clean table rows
              (λ m g. if may_name (inline_name xs) m then own_ends registered rows template b (g ∷ []) else ends_in [])
              fine.clean m g enters))).0,
        )) hs fine.states
      where
        of_named : (z : Bool) (m : Text) (g : Html) → z ≡ true
            → Fine (table.leaves m g) (if z then own_ends registered rows template b (g ∷ []) else ends_in [])
            → Fine (table.leaves m g) (own_ends registered rows template b (g ∷ []))
        of_named true m g e fine = fine
        of_named false m g e fine = true-false (sym e)

    inclusion-leads : (p : Option Position) (t : Decorator) (hs : List Html) (end : Html → Type 0)
        → Fine end (inclusion_ends registered rows template p t hs) → AllHtml (λ h. InclusionLeads html_rule table t h end) hs
    inclusion-leads p (decorator n xs b marks) hs end fine =
        let ahead = own_ends registered rows template b (beginning ∷ []) in
        let other = own_ends registered rows template b (without_state hs beginning) in
        let named = included_ends rows (written_name n) hs in
        let again = ends_in (if is_among hs beginning then ahead.states else []) in
        let ws = whys_of_indent marks ++ whys_of_name (written_name n) hs in
        let found = both_findings ahead.findings (findings_at registered rows template p (whys_of_captured ahead.states)) in
        let later = either_ends named (either_ends again other) in
        let parts = fine-before table end (findings_at registered rows template p ws) (found_before found later) fine in
        let block = fine-before table end found later parts.1 in
        let ways = fine-either table end named (either_ends again other) block.1 in
        let places = fine-either table end again other ways.1 in
        let back = captured-fine p ahead block.0 in
        let none : ws ≡ [] = none-at p ws parts.0 in
        let blank : list_all is_blank (unwrap_or marks.indent []) ≡ true =
        unless-true (list_all is_blank (unwrap_or marks.indent [])) other_indent
        (empty-first (whys_of_indent marks) (whys_of_name (written_name n) hs) none) in
        let captured : BlockLeadsTo html_rule table b beginning (λ g. g ≡ beginning) =
        (own-leads b (beginning ∷ []) (λ g. g ≡ beginning) back).0 in
        let here : AllHtml (λ h. BlockLeadsTo html_rule table b h end) hs =
        without_state-has (λ h. BlockLeadsTo html_rule table b h end) beginning hs
        (λ is. (own-leads b (beginning ∷ []) end (record {
          states = if-states (is_among hs beginning) ahead.states end is places.0.states;
          clean = back.clean;
        })).0) (own-leads b (without_state hs beginning) end places.1) in
        All-both (λ h. WrittenLeads html_rule table (written_name n) h end) (λ h. BlockLeadsTo html_rule table b h end)
        (λ h. InclusionLeads html_rule table (decorator n xs b marks) h end)
        (λ h leads block. (blank, leads, block, captured)) hs
        (name-leads (written_name n) hs end (empty-later (whys_of_indent marks) (whys_of_name (written_name n) hs) none) ways.0) here
      where
        if-states : (z : Bool) (gs : List Html) (end : Html → Type 0) → z ≡ true
            → AllByRecursion end (if z then gs else []) → AllByRecursion end gs
        if-states true gs end e all = all
        if-states false gs end e all = true-false (sym e)
