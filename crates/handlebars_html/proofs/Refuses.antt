-- The check is right to refuse: if a tree leads as the rule has it by a table that has the rows, then nothing breaks the rule, and
-- the table has all rows that the tree needs.
use Rattle.std.proofs.Common.{◌≡◌, Bool, true, false, if◌then◌else◌, List, [], ◌∷◌, ◌++◌, map, refl, sym, ◌∙◌, subst, Option, None, Some, unwrap_or}
use Rattle.std.specs.List.{list_all, flat_map, filter, AllByRecursion}
use Rattle.std.specs.Str.{bytes_eq}
use Rattle.handlebars_base.specs.Bytes.{Text, space}
use Rattle.handlebars_base.specs.Optional.{with_or}
use Rattle.handlebars_template.specs.Position.{Position}
use Rattle.handlebars_template.specs.Tree.{Tree, tree, Elements, no_elements, element, Element, raw_string, html_expression, escaped_expression, helper_block, decorator_expression, decorator_block, partial_expression, partial_block, comment, Call, call, Decorator, decorator, Bodies, bodies, Body, no_body, body}
use Rattle.handlebars_semantics.specs.Including.{partial_block_name}
use Rattle.handlebars_html.specs.Tokenizer.{is_refused}
use Rattle.handlebars_html.specs.Html.{Html, beginning, step, after, is_safe, after_data, may_hold_url, after_url, is_blank}
use Rattle.handlebars_html.specs.Rule.{Registered, writes_url, Table, Effect, one_branch, iterations, a_value, no_output, effect_named, written_name, inline_name, IsNamed, LacksBody, NameLeads, WrittenLeads, ValueLeads, Leads, AllLead, ElementLeads, ExpressionLeads, BlockLeads, BodiesLead, BranchLeads, DecoratorLeads, InclusionLeads, BlockLeadsTo}
use Rattle.handlebars_html.specs.Safety.{html_rule}
use Rattle.handlebars_html.specs.Same.{is_same}
use Rattle.handlebars_html.specs.Rows.{is_among, without_state, with_states, Row, entering, leaving_states, IsInTable}
use Rattle.handlebars_html.specs.Faults.{Why, changed_text, changed_by_block, changed_by_iteration, captured_text_in, other_indent, made_block, unless}
use Rattle.handlebars_html.specs.Check.{is_in_time, both_findings, found_rows, findings_of_each, Ends, ends_in, found_before, either_ends, why_refused, whys_of_text, whys_of_value, whys_of_url, lacks_body, whys_of_bodies, whys_of_iterations, whys_of_captured, whys_of_indent, whys_of_name, may_name, included_ends, first_position, later_positions, findings_at, value_ends, url_ends, expression_ends, iteration_findings, tree_ends, elements_ends, element_ends, block_ends, bodies_ends, branch_ends, decorator_ends, inclusion_ends, own_ends}
use Rattle.handlebars_html.proofs.StateLists.{true-false, not-false, All-to_filter, and-true, is-same, All-map, All-to_map, All-to_flat, empty-append, empty-to_flat, unless-empty, among-has, with_states-all, each_state-all, without_state-all}
use Rattle.handlebars_html.proofs.CleanFindings.{IsClean, IsFine, clean-both, clean-to_each, whys-clean, fine-states, before-fine, either-fine, entered-to_clean, leaving_states-all, may-named}

-- ---- what has no fault

text-none : (t : Text) (h : Html) → after (step h space) t ≡ after h t → is_refused (after h t).tokenizer ≡ false
    → whys_of_text t h ≡ []
text-none t h is in_time =
    empty-append (unless (is_same (after (step h space) t) (after h t)) (changed_text h))
    (unless (is_in_time t h) (why_refused (after h t).tokenizer))
    (unless-empty _ _ (is-same (after (step h space) t) (after h t) is))
    (unless-empty _ _ (not-false (is_refused (after h t).tokenizer) in_time))

value-none : (h : Html) → is_safe h ≡ true → whys_of_value h ≡ []
value-none h is = unless-empty _ _ is

url-none : (h : Html) → may_hold_url h ≡ true → whys_of_url h ≡ []
url-none h is = unless-empty _ _ is

lacks-body : (b : Body) → LacksBody b → lacks_body b ≡ true
lacks-body no_body is = refl
lacks-body (body t) is = absurd is

iterations-none : (h : Html) (gs : List Html) → AllByRecursion (λ g. g ≡ h) gs → whys_of_iterations h gs ≡ []
iterations-none h gs all =
    empty-to_flat (λ g. unless (is_same g h) (changed_by_iteration h g)) gs
    (All-map (λ g. g ≡ h) (λ g. unless (is_same g h) (changed_by_iteration h g) ≡ [])
    (λ g is. unless-empty _ _ (is-same g h is)) gs all)

captured-none : (gs : List Html) → AllByRecursion (λ g. g ≡ beginning) gs → whys_of_captured gs ≡ []
captured-none gs all =
    empty-to_flat (λ g. unless (is_same g beginning) (changed_by_block g)) gs
    (All-map (λ g. g ≡ beginning) (λ g. unless (is_same g beginning) (changed_by_block g) ≡ [])
    (λ g is. unless-empty _ _ (is-same g beginning is)) gs all)

module _ (table : Table html_rule) (rows : List Row) (known : AllByRecursion (IsInTable table) rows) (template : Option Text) where
  abbrev registered : Text → Registered
  registered = table.registered

  abbrev Fine : (Html → Type 0) → Ends → Type 0
  Fine end x = IsFine table end x

  abbrev AllHtml : (Html → Type 0) → List Html → Type 0
  AllHtml P hs = AllByRecursion P hs

  clean-at : (p : Option Position) (ws : List Why) → ws ≡ [] → IsClean table (findings_at registered rows template p ws)
  clean-at p ws is = whys-clean table template p ws is

  -- ---- values and names

  value-fine : (p : Option Position) (hs : List Html) (end : Html → Type 0)
      → AllHtml (λ h. ((true ≡ true) × (is_safe h ≡ true)) × end (after_data h)) hs
      → Fine end (value_ends registered rows template p hs)
  value-fine p hs end all = record {
    states = each_state-all end after_data hs
        (All-map (λ h. ((true ≡ true) × (is_safe h ≡ true)) × end (after_data h)) (λ h. end (after_data h))
        (λ h leads. leads.1) hs all);
    clean = clean-at p (flat_map whys_of_value hs) (empty-to_flat whys_of_value hs
        (All-map (λ h. ((true ≡ true) × (is_safe h ≡ true)) × end (after_data h)) (λ h. whys_of_value h ≡ [])
        (λ h leads. value-none h leads.0.1) hs all));
  }

  url-fine : (p : Option Position) (hs : List Html) (end : Html → Type 0)
      → AllHtml (λ h. (may_hold_url h ≡ true) × end (after_url h)) hs
      → Fine end (url_ends registered rows template p hs)
  url-fine p hs end all = record {
    states = each_state-all end after_url hs
        (All-map (λ h. (may_hold_url h ≡ true) × end (after_url h)) (λ h. end (after_url h)) (λ h leads. leads.1) hs all);
    clean = clean-at p (flat_map whys_of_url hs) (empty-to_flat whys_of_url hs
        (All-map (λ h. (may_hold_url h ≡ true) × end (after_url h)) (λ h. whys_of_url h ≡ [])
        (λ h leads. url-none h leads.0) hs all));
  }

  -- a value, which is an address or not
  value_or_url-fine : (url : Bool) (p : Option Position) (hs : List Html) (end : Html → Type 0)
      → AllHtml (λ h. ValueLeads html_rule table url true h end) hs
      → Fine end (if url then url_ends registered rows template p hs else value_ends registered rows template p hs)
  value_or_url-fine true p hs end all = url-fine p hs end all
  value_or_url-fine false p hs end all = value-fine p hs end all

  -- something is included in at least one state
  name-none : (o : Option Text) (h : Html) (hs : List Html) (end : Html → Type 0)
      → AllHtml (λ h. WrittenLeads html_rule table o h end) (h ∷ hs) → whys_of_name o (h ∷ hs) ≡ []
  name-none None h hs end all = absurd all.0
  name-none (Some n) h hs end all = by (bytes_eq partial_block_name n) refl
    where
      by : (b : Bool) → bytes_eq partial_block_name n ≡ b
          → (if b then flat_map (λ h. unless (is_same h beginning) (captured_text_in h)) (h ∷ hs) else []) ≡ []
      by true e =
          empty-to_flat (λ h. unless (is_same h beginning) (captured_text_in h)) (h ∷ hs)
          (All-map (λ h. NameLeads html_rule table n h end) (λ h. unless (is_same h beginning) (captured_text_in h) ≡ [])
          (λ h leads. unless-empty _ _ (is-same h beginning (leads.0 e).0)) (h ∷ hs) all)
      by false e = refl

  name-fine : (o : Option Text) (h : Html) (hs : List Html) (end : Html → Type 0)
      → AllHtml (λ h. WrittenLeads html_rule table o h end) (h ∷ hs) → Fine end (included_ends rows o (h ∷ hs))
  name-fine None h hs end all = absurd all.0
  name-fine (Some n) h hs end all = by (bytes_eq partial_block_name n) refl
    where
      by : (b : Bool) → bytes_eq partial_block_name n ≡ b
          → Fine end (if b then ends_in (h ∷ hs) else record {
            states = with_states [] (flat_map (leaving_states rows n) (h ∷ hs));
            findings = found_rows (map (λ h. entering n h) (h ∷ hs));
          })
      by true e = fine-states table end (h ∷ hs) (All-map (λ h. NameLeads html_rule table n h end) end
          (λ h leads. let there = leads.0 e in subst end (sym there.0) there.1) (h ∷ hs) all)
      by false e = record {
        states = with_states-all end [] (flat_map (leaving_states rows n) (h ∷ hs)) tt
            (All-to_flat end (leaving_states rows n) (h ∷ hs)
            (All-map (λ h. NameLeads html_rule table n h end) (λ h. AllByRecursion end (leaving_states rows n h))
            (λ h leads. All-map (table.leaves n h) end (leads.1 e).1 (leaving_states rows n h) (leaving_states-all table rows known n h))
            (h ∷ hs) all));
        clean = record {
          rows = All-to_map (IsInTable table) (λ h. entering n h) (h ∷ hs)
              (All-map (λ h. NameLeads html_rule table n h end) (λ h. IsInTable table (entering n h))
              (λ h leads. (leads.1 e).0) (h ∷ hs) all);
          faults = refl;
        };
      }

  -- ---- blocks that come back

  iteration-clean : (p : Option Position) (h : Html) (x : Ends) → Fine (λ g. g ≡ h) x
      → IsClean table (iteration_findings registered rows template p h x)
  iteration-clean p h x fine =
      clean-both table x.findings (findings_at registered rows template p (whys_of_iterations h x.states)) fine.clean
      (clean-at p (whys_of_iterations h x.states) (iterations-none h x.states fine.states))

  captured-clean : (p : Option Position) (x : Ends) → Fine (λ g. g ≡ beginning) x
      → IsClean table (both_findings x.findings (findings_at registered rows template p (whys_of_captured x.states)))
  captured-clean p x fine =
      clean-both table x.findings (findings_at registered rows template p (whys_of_captured x.states)) fine.clean
      (clean-at p (whys_of_captured x.states) (captured-none x.states fine.states))

  -- ---- trees

  mutual
    pub tree-fine : (t : Tree) (hs : List Html) (end : Html → Type 0) → AllHtml (λ h. Leads html_rule table t h end) hs
        → Fine end (tree_ends registered rows template t hs)
    tree-fine (tree n es positions) hs end all = elements-fine positions es hs end all

    elements-fine : (ps : List Position) (es : Elements) (hs : List Html) (end : Html → Type 0)
        → AllHtml (λ h. AllLead html_rule table es h end) hs → Fine end (elements_ends registered rows template ps es hs)
    elements-fine ps no_elements hs end all = fine-states table end hs all
    elements-fine ps (element e es) [] end all = fine-states table end [] tt
    elements-fine ps (element e es) (h ∷ hs) end all =
        let first = element_ends registered rows template (first_position ps) e (h ∷ hs) in
        let fine = element-fine (first_position ps) e h hs (λ k. AllLead html_rule table es k end)
        (All-map (λ g. AllLead html_rule table (element e es) g end)
        (λ g. ElementLeads html_rule table e g (λ k. AllLead html_rule table es k end)) (λ g leads. leads.1) (h ∷ hs) all) in
        before-fine table end first.findings (elements_ends registered rows template (later_positions ps) es first.states) fine.clean
        (elements-fine (later_positions ps) es first.states end fine.states)

    element-fine : (p : Option Position) (e : Element) (h : Html) (hs : List Html) (end : Html → Type 0)
        → AllHtml (λ h. ElementLeads html_rule table e h end) (h ∷ hs)
        → Fine end (element_ends registered rows template p e (h ∷ hs))
    element-fine p (raw_string t) h hs end all = record {
      states = each_state-all end (λ h. after h t) (filter (is_in_time t) (h ∷ hs))
          (All-to_filter (λ h. end (after h t)) (is_in_time t) (h ∷ hs)
          (All-map (λ h. ElementLeads html_rule table (raw_string t) h end) (λ h. end (after h t)) (λ h leads. leads.1) (h ∷ hs) all));
      clean = clean-at p (flat_map (whys_of_text t) (h ∷ hs)) (empty-to_flat (whys_of_text t) (h ∷ hs)
          (All-map (λ h. ElementLeads html_rule table (raw_string t) h end) (λ h. whys_of_text t h ≡ [])
          (λ h leads. text-none t h leads.0.0 leads.0.1) (h ∷ hs) all));
    }
    element-fine p (html_expression c) h hs end all = html-never c h end all.0
    element-fine p (escaped_expression c) h hs end all = expression-fine p c h hs end all
    element-fine p (helper_block c) h hs end all = block-fine p c h hs end all
    element-fine p (decorator_expression t) h hs end all = decorator-fine t h hs end all
    element-fine p (decorator_block t) h hs end all = decorator-fine t h hs end all
    element-fine p (partial_expression t) h hs end all = inclusion-fine p t h hs end all
    element-fine p (partial_block t) h hs end all = inclusion-fine p t h hs end all
    element-fine p (comment t) h hs end all = fine-states table end (h ∷ hs) all

    html-never : {P : Type 0} (c : Call) (h : Html) (end : Html → Type 0) → ExpressionLeads html_rule table c false h end → P
    html-never (call n xs b (bodies x y) marks) h end leads = true-false (sym leads.0.0.0)

    expression-fine : (p : Option Position) (c : Call) (h : Html) (hs : List Html) (end : Html → Type 0)
        → AllHtml (λ h. ExpressionLeads html_rule table c true h end) (h ∷ hs)
        → Fine end (expression_ends registered rows template p c (h ∷ hs))
    expression-fine p (call n xs b (bodies x y) marks) h hs end all =
        let c : Call = call n xs b (bodies x y) marks in
        let url = writes_url registered c in
        before-fine table end (findings_at registered rows template p (whys_of_bodies (bodies x y)))
        (if url then url_ends registered rows template p (h ∷ hs) else value_ends registered rows template p (h ∷ hs))
        (clean-at p (whys_of_bodies (bodies x y)) (unless-empty _ _
        (and-true (lacks_body x) (lacks_body y) (lacks-body x all.0.1) (lacks-body y all.0.2))))
        (value_or_url-fine url p (h ∷ hs) end
        (All-map (λ h. ExpressionLeads html_rule table c true h end) (λ h. ValueLeads html_rule table url true h end)
        (λ h leads. leads.0) (h ∷ hs) all))

    block-fine : (p : Option Position) (c : Call) (h : Html) (hs : List Html) (end : Html → Type 0)
        → AllHtml (λ h. BlockLeads html_rule table c h end) (h ∷ hs)
        → Fine end (block_ends registered rows template p c (h ∷ hs))
    block-fine p (call n xs b t marks) h hs end all =
        by (written_name n) refl all.0.0 all.0.1
        (λ m all. bodies-fine p t (effect_named registered m) (h ∷ hs) end all)
      where
        named-same : (a b : Text) → Some a ≡ Some b → a ≡ b
        named-same a b is = cc

        by : (o : Option Text) → written_name n ≡ o → (m : Text) → written_name n ≡ Some m
            → ((m : Text) → AllHtml (λ h. BodiesLead html_rule table t (effect_named registered m) h end) (h ∷ hs)
            → Fine end (bodies_ends registered rows template p t (effect_named registered m) (h ∷ hs)))
            → Fine end (with_or o (λ m. bodies_ends registered rows template p t (effect_named registered m) (h ∷ hs))
            (record { states = h ∷ hs; findings = findings_at registered rows template p (made_block ∷ []) }))
        by None e m is fine = let never : None ≡ Some m = sym e ∙ is in cc
        by (Some k) e m is fine =
            fine k (All-map (λ h. BlockLeads html_rule table (call n xs b t marks) h end)
            (λ h. BodiesLead html_rule table t (effect_named registered k) h end)
            (λ h leads. subst (λ (z : Text). BodiesLead html_rule table t (effect_named registered z) h end)
            (named-same leads.0 k (sym leads.1 ∙ e)) leads.2) (h ∷ hs) all)

    bodies-fine : (p : Option Position) (t : Bodies) (e : Effect) (hs : List Html) (end : Html → Type 0)
        → AllHtml (λ h. BodiesLead html_rule table t e h end) hs → Fine end (bodies_ends registered rows template p t e hs)
    bodies-fine p (bodies x y) one_branch hs end all =
        either-fine table end (branch_ends registered rows template x hs) (branch_ends registered rows template y hs)
        (branch-fine x hs end (All-map (λ h. BodiesLead html_rule table (bodies x y) one_branch h end)
        (λ h. BranchLeads html_rule table x h end) (λ h leads. leads.0) hs all))
        (branch-fine y hs end (All-map (λ h. BodiesLead html_rule table (bodies x y) one_branch h end)
        (λ h. BranchLeads html_rule table y h end) (λ h leads. leads.1) hs all))
    bodies-fine p (bodies x y) iterations hs end all =
        before-fine table end
        (findings_of_each (λ h. iteration_findings registered rows template p h (branch_ends registered rows template x (h ∷ []))) hs)
        (either_ends (ends_in hs) (branch_ends registered rows template y hs))
        (clean-to_each table
        (λ h. iteration_findings registered rows template p h (branch_ends registered rows template x (h ∷ []))) hs
        (All-map (λ h. BodiesLead html_rule table (bodies x y) iterations h end)
        (λ h. IsClean table (iteration_findings registered rows template p h (branch_ends registered rows template x (h ∷ []))))
        (λ h leads. iteration-clean p h (branch_ends registered rows template x (h ∷ []))
        (branch-fine x (h ∷ []) (λ g. g ≡ h) (leads.1, tt))) hs all))
        (either-fine table end (ends_in hs) (branch_ends registered rows template y hs)
        (fine-states table end hs (All-map (λ h. BodiesLead html_rule table (bodies x y) iterations h end) end
        (λ h leads. leads.0) hs all))
        (branch-fine y hs end (All-map (λ h. BodiesLead html_rule table (bodies x y) iterations h end)
        (λ h. BranchLeads html_rule table y h end) (λ h leads. leads.2) hs all)))
    bodies-fine p (bodies x y) a_value hs end all = value-fine p hs end all
    bodies-fine p (bodies x y) no_output hs end all = fine-states table end hs all

    branch-fine : (b : Body) (hs : List Html) (end : Html → Type 0) → AllHtml (λ h. BranchLeads html_rule table b h end) hs
        → Fine end (branch_ends registered rows template b hs)
    branch-fine no_body hs end all = fine-states table end hs all
    branch-fine (body t) hs end all = tree-fine t hs end all

    own-fine : (b : Body) (hs : List Html) (end : Html → Type 0) → AllHtml (λ h. BlockLeadsTo html_rule table b h end) hs
        → Fine end (own_ends registered rows template b hs)
    own-fine no_body hs end all = fine-states table end [] tt
    own-fine (body t) hs end all = tree-fine t hs end all

    decorator-fine : (t : Decorator) (h : Html) (hs : List Html) (end : Html → Type 0)
        → AllHtml (λ h. DecoratorLeads html_rule table t h end) (h ∷ hs)
        → Fine end (decorator_ends registered rows template t (h ∷ hs))
    decorator-fine (decorator n xs b marks) h hs end all = record {
      states = All-map (λ h. DecoratorLeads html_rule table (decorator n xs b marks) h end) end (λ h leads. leads.0) (h ∷ hs) all;
      clean = entered-to_clean table rows
          (λ m g. if may_name (inline_name xs) m then own_ends registered rows template b (g ∷ []) else ends_in []) known
          (λ m g enters. of_named (may_name (inline_name xs) m) m g (may-named (inline_name xs) m)
          (λ named. own-fine b (g ∷ []) (table.leaves m g) (all.0.1 m named g enters, tt)));
    }
      where
        of_named : (z : Bool) (m : Text) (g : Html) → (z ≡ true → IsNamed (inline_name xs) m)
            → (IsNamed (inline_name xs) m → Fine (table.leaves m g) (own_ends registered rows template b (g ∷ [])))
            → Fine (table.leaves m g) (if z then own_ends registered rows template b (g ∷ []) else ends_in [])
        of_named true m g to fine = fine (to refl)
        of_named false m g to fine = fine-states table (table.leaves m g) [] tt

    inclusion-fine : (p : Option Position) (t : Decorator) (h : Html) (hs : List Html) (end : Html → Type 0)
        → AllHtml (λ h. InclusionLeads html_rule table t h end) (h ∷ hs)
        → Fine end (inclusion_ends registered rows template p t (h ∷ hs))
    inclusion-fine p (decorator n xs b marks) h hs end all =
        let ahead = own_ends registered rows template b (beginning ∷ []) in
        let other = own_ends registered rows template b (without_state (h ∷ hs) beginning) in
        let again = ends_in (if is_among (h ∷ hs) beginning then ahead.states else []) in
        let named = included_ends rows (written_name n) (h ∷ hs) in
        let written = All-map (λ h. InclusionLeads html_rule table (decorator n xs b marks) h end)
        (λ h. WrittenLeads html_rule table (written_name n) h end) (λ h leads. leads.1) (h ∷ hs) all in
        let blocks : AllHtml (λ h. BlockLeadsTo html_rule table b h end) (h ∷ hs) =
        All-map (λ h. InclusionLeads html_rule table (decorator n xs b marks) h end)
        (λ h. BlockLeadsTo html_rule table b h end) (λ h leads. leads.2) (h ∷ hs) all in
        let back = own-fine b (beginning ∷ []) (λ g. g ≡ beginning) (all.0.3, tt) in
        let ws = whys_of_indent marks ++ whys_of_name (written_name n) (h ∷ hs) in
        let none : ws ≡ [] =
        empty-append (whys_of_indent marks) (whys_of_name (written_name n) (h ∷ hs))
        (unless-empty (list_all is_blank (unwrap_or marks.indent [])) other_indent all.0.0)
        (name-none (written_name n) h hs end written) in
        let here : AllByRecursion end (if is_among (h ∷ hs) beginning then ahead.states else []) =
        if-states (is_among (h ∷ hs) beginning) ahead.states
        (λ is. (own-fine b (beginning ∷ []) end
        (among-has (λ h. BlockLeadsTo html_rule table b h end) (h ∷ hs) blocks beginning is, tt)).states) in
        let found = both_findings ahead.findings (findings_at registered rows template p (whys_of_captured ahead.states)) in
        let later = either_ends named (either_ends again other) in
        before-fine table end (findings_at registered rows template p ws) (found_before found later) (clean-at p ws none)
        (before-fine table end found later (captured-clean p ahead back)
        (either-fine table end named (either_ends again other) (name-fine (written_name n) h hs end written)
        (either-fine table end again other
        (fine-states table end (if is_among (h ∷ hs) beginning then ahead.states else []) here)
        (own-fine b (without_state (h ∷ hs) beginning) end
        (without_state-all (λ h. BlockLeadsTo html_rule table b h end) beginning (h ∷ hs) blocks)))))
      where
        if-states : (z : Bool) (gs : List Html) → (z ≡ true → AllByRecursion end gs)
            → AllByRecursion end (if z then gs else [])
        if-states true gs to = to refl
        if-states false gs to = tt
