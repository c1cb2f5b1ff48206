use Rattle.std.proofs.Common.{Global, String, ◌≡◌, true, List, [], ◌∷◌, map, length, refl, sym, ap, subst, ◌∙◌, Option, option_map, string_bytes}
use Rattle.std.specs.List.{filter, flat_map}
use Rattle.std.specs.Prelude.{slice_get}
use denote.Ref.{Bor}
use Rattle.std.proofs.lemmas.Result.{IfOk-weaker, on_ok_weaker}
use Rattle.handlebars_base.specs.Bytes.{Text}
use Rattle.handlebars_template.specs.Position.{Position}
use Rattle.handlebars_template.specs.Tree.{Tree, Element, Args, Body, Bodies, bodies_body, call_bodies, call_body, decorator_body, decorator_marks}
use Rattle.handlebars_template.specs.TreeView.{call_view, decorator_view, position_of, hash_view, element_view, elements_view}
use Rattle.handlebars_template.specs.declared.template.tree.DecoratorTemplate.{out-DecoratorTemplate}
use Rattle.handlebars_template.specs.declared.template.tree.TemplateElement.{TemplateElement}
use Rattle.handlebars_template.specs.declared.template.tree.TemplateElement.TheVariants as element
use Rattle.handlebars_template.proofs.Levels.{element_view-RawString}
use Rattle.handlebars_template.proofs.Trees.{tree_view-out}
use Rattle.handlebars_html.specs.Check as check
use Rattle.handlebars_html.specs.EffectView.{effect_view}
use Rattle.handlebars_html.specs.FoundView.{AddsFindings, EndsIn, EndsWith}
use Rattle.handlebars_html.specs.Html as html
use Rattle.handlebars_html.specs.HtmlView.{html_of}
use Rattle.handlebars_html.specs.ReadingView.{registered_at, rows_at, name_at, position_at, element_ends_at, tree_ends_at, branch_ends_at, named_inclusion_at, own_ends_at, inline_at, iteration_at}
use Rattle.handlebars_html.specs.Rows as rows
use Rattle.handlebars_html.specs.Rows.{each_state, without_state}
use Rattle.handlebars_html.specs.Rule.{written_name, inline_name}
use Rattle.handlebars_html.specs.RowsView.{row_of}
use Rattle.handlebars_html.specs.declared.found.Found.{Found}
use Rattle.handlebars_html.specs.declared.html.Html.{Html}
use Rattle.handlebars_html.specs.declared.reading.Reading.{Reading}
use Rattle.handlebars_html.specs.declared.rows.Row.{Row}
use Rattle.handlebars_html.proofs.FoundSoFar.{accumulates-each, accumulates-end, adds-same, ends-same}
use Rattle.handlebars_html.proofs.TreeEnds.{call_bodies-out, decorator_body-out, decorator_args-out, decorator_name-out, branches-out, iterations-out, iteration-out, captured-out, entering-out, inline-named, decorator-out, inclusion-parts, inclusion-out, some-there, elements-more, elements-end, position-found}
use Rattle.handlebars_html.proofs.tree.+tree.Goals as goal

pub bodies_ends-returns-in_ok-ends-in-OneBranch : goal.bodies_ends-returns-in_ok-ends-in-OneBranch
bodies_ends-returns-in_ok-ends-in-OneBranch t c =
    let r = c.args.reading in
    let hs = map html_of c.args.states.now in
    IfOk-weaker c.inverse_ends.result _ _ (λ gs later.
    branches-out (registered_at r) (rows_at r) (name_at r) (position_at r) (call_bodies (call_view c.args.call.now))
    (effect_view c.args.effect) hs c.args.found.now c.branch_ends.new.found c.inverse_ends.new.found
    c.in_ok-ends-in-OneBranch.ends.items gs.items (ap effect_view c.in-OneBranch.is)
    (ends-same (rows_at r) c.args.found.now c.branch_ends.new.found c.in_ok-ends-in-OneBranch.ends.items _ _
    (sym (ap (λ (z : Bodies). branch_ends_at r (bodies_body z) hs) (call_bodies-out c.args.call.now)))
    c.in_ok-ends-in-OneBranch.ensures) later) c.inverse_ends.ensures

pub bodies_ends-returns-in_ok-ends-in-Iterations : goal.bodies_ends-returns-in_ok-ends-in-Iterations
bodies_ends-returns-in_ok-ends-in-Iterations t c =
    let r = c.args.reading in
    IfOk-weaker c.inverse_ends-in-Iterations.result _ _ (λ gs later.
    iterations-out (registered_at r) (rows_at r) (name_at r) (position_at r) (call_bodies (call_view c.args.call.now))
    (effect_view c.args.effect) (map html_of c.args.states.now) c.args.found.now c.iterate.new.found
    c.inverse_ends-in-Iterations.new.found c.in_ok-ends-in-Iterations.ends.items gs.items (ap effect_view c.in-Iterations.is)
    c.in_ok-iterate-in-Iterations.ensures c.in_ok-ends-in-Iterations.ensures later) c.inverse_ends-in-Iterations.ensures

pub captured_ends-returns : goal.captured_ends-returns
captured_ends-returns t c =
    let r = c.args.reading in
    let own = own_ends_at r (decorator_body (decorator_view c.args.tag.now)) in
    captured-out (rows_at r) (own (html.beginning ∷ []))
    c.args.found.now c.own_ends.new.found c.check_captured.new.found c.in_ok-ends.ends.items c.deref-2.result.now
    (ends-same (rows_at r) c.args.found.now c.own_ends.new.found c.in_ok-ends.ends.items _ _
    (sym (ap (λ (z : Body). own_ends_at r z (map html_of c.deref.result.now)) (decorator_body-out c.args.tag.now))
    ∙ ap (λ (zs : List Html). own (map html_of zs)) c.deref.ensures.value
    ∙ ap own c.in_ok-start.ensures)
    c.in_ok-ends.ensures) c.deref-2.ensures.value r.location c.in_ok-check_captured.ensures

pub decorator_ends-rows-preserved : goal.decorator_ends-rows-preserved
decorator_ends-rows-preserved t c =
    let f = inline_at c.args.reading (decorator_view c.args.tag.now) in
    accumulates-each (rows_at c.args.reading) (λ (z : Row). check.findings_of_row (row_of z) f)
    (λ (zs : List Row). check.findings_of_entered (map row_of zs) f) (λ z zs. refl) c.rows-rows.result.now c.rows.row-index
    c.row-item.result c.args.found.now c.rows.found c.read_inline.new.found c.rows-test.true c.row-item.is c.rows.invariant
    c.in_ok-read_inline.ensures

pub decorator_ends-returns : goal.decorator_ends-returns
decorator_ends-returns t c =
    let r = c.args.reading in
    let d = decorator_view c.args.tag.now in
    let now = record c.rows.found { has_inlines = true } in
    IfOk-weaker c.copy_states.result _ _ (λ gs copied.
    decorator-out (registered_at r) (rows_at r) (name_at r) d (map html_of c.args.states.now) c.args.found.now now
    gs.items copied
    (adds-same (rows_at r) c.args.found.now now _ _
    (ap (λ (zs : List rows.Row). check.findings_of_entered zs (inline_at r d)) c.rows-rows.ensures)
    (accumulates-end (rows_at r) (λ (zs : List Row). check.findings_of_entered (map row_of zs) (inline_at r d)) refl
    c.rows-rows.result.now c.rows.row-index c.args.found.now c.rows.found c.rows-test.false c.rows.invariant))) c.copy_states.ensures

-- A text is read as its bytes.
text-read : (r : Reading) (e : TemplateElement) (x : String Global) (t : Text) (hs : List html.Html) (a b : Found)
    (gs : List Html) → e ≡ element.RawString x → t ≡ string_bytes x
    → EndsWith a b gs (each_state (λ h. html.after h t) (filter (check.is_in_time t) hs)) r.location
    (flat_map (check.whys_of_text t) hs) → EndsIn (rows_at r) a b gs (element_ends_at r (element_view e) hs)
text-read r e x t hs a b gs is read ends =
    subst (λ (z : TemplateElement). EndsIn (rows_at r) a b gs (element_ends_at r (element_view z) hs)) (sym is)
    (subst (λ (z : Element). EndsIn (rows_at r) a b gs (element_ends_at r z hs)) (sym (element_view-RawString x))
    (subst (λ (z : Text). EndsWith a b gs (each_state (λ h. html.after h z) (filter (check.is_in_time z) hs)) r.location
    (flat_map (check.whys_of_text z) hs)) read ends))

pub element_ends-returns-in-RawString : goal.element_ends-returns-in-RawString
element_ends-returns-in-RawString t c =
    IfOk-weaker c.text_ends.result _ _ (λ gs ends.
    text-read c.args.reading c.args.element.now c.in-RawString.text c.as_bytes.result.now (map html_of c.args.states.now)
    c.args.found.now c.text_ends.new.found gs.items c.in-RawString.is c.as_bytes.ensures.value ends) c.text_ends.ensures

pub inclusion_ends-returns : goal.inclusion_ends-returns
inclusion_ends-returns t c =
    let r = c.args.reading in
    let d = decorator_view c.args.tag.now in
    let hs = map html_of c.args.states.now in
    IfOk-weaker c.named_inclusion_ends.result _ _ (λ gs ends.
    ends-same (rows_at r) c.args.found.now c.named_inclusion_ends.new.found gs.items _ _
    (ap (λ (z : Option Text). named_inclusion_at r d z hs)
    (c.in_ok-name.ensures ∙ ap written_name (sym (decorator_name-out c.args.tag.now)))
    ∙ inclusion-parts (registered_at r) (rows_at r) (name_at r) (position_at r) d hs) ends) c.named_inclusion_ends.ensures

pub named_inclusion_ends-returns : goal.named_inclusion_ends-returns
named_inclusion_ends-returns t c =
    let r = c.args.reading in
    let d = decorator_view c.args.tag.now in
    let hs = map html_of c.args.states.now in
    let own = own_ends_at r (decorator_body d) in
    IfOk-weaker c.all_ends.result _ _ (λ gs ends.
    inclusion-out (registered_at r) (rows_at r) r.location (option_map string_bytes c.args.name.now) (decorator_marks d) hs
    (own (html.beginning ∷ [])) (own (without_state hs html.beginning)) c.args.found.now c.check_inclusion.new.found
    c.captured_ends.new.found c.included_ends.new.found c.other_ends.new.found c.in_ok-ahead.ahead.items c.in_ok-named.named.items
    c.in_ok-other.other.items gs.items c.in_ok-check_inclusion.ensures c.in_ok-ahead.ensures
    c.in_ok-named.ensures c.in_ok-other.ensures ends) (rw c.deref.ensures.value at c.all_ends.ensures)

pub other_ends-returns : goal.other_ends-returns
other_ends-returns t c =
    let r = c.args.reading in
    let own = own_ends_at r (decorator_body (decorator_view c.args.tag.now)) in
    IfOk-weaker c.own_ends.result _ _ (λ gs ends.
    ends-same (rows_at r) c.args.found.now c.own_ends.new.found gs.items _ _
    (sym (ap (λ (z : Body). own_ends_at r z (map html_of c.deref.result.now)) (decorator_body-out c.args.tag.now))
    ∙ ap (λ (zs : List Html). own (map html_of zs)) c.deref.ensures.value
    ∙ ap own c.in_ok-others.ensures) ends) c.own_ends.ensures

pub iterate-states-preserved : goal.iterate-states-preserved
iterate-states-preserved t c =
    let part = iteration_at c.args.reading (call_body (call_view c.args.call.now)) in
    accumulates-each (rows_at c.args.reading) (λ (z : Html). part (html_of z))
    (λ (zs : List Html). check.findings_of_each part (map html_of zs)) (λ z zs. refl) c.args.states.now c.states.state-index
    c.state-item.result c.args.found.now c.states.found c.iterate_once.new.found c.states-test.true c.state-item.is
    c.states.invariant c.in_ok-iterate_once.ensures

pub iterate_once-returns : goal.iterate_once-returns
iterate_once-returns t c =
    let r = c.args.reading in
    let h = html_of c.args.state.now in
    let ends = branch_ends_at r (call_body (call_view c.args.call.now)) in
    on_ok_weaker c.check_iterations.result (λ checked. iteration-out (rows_at r) (ends (h ∷ [])) c.args.found.now
    c.branch_ends.new.found c.check_iterations.new.found c.in_ok-ends.ends.items c.deref-2.result.now
    (ends-same (rows_at r) c.args.found.now c.branch_ends.new.found c.in_ok-ends.ends.items _ _
    (sym (ap (λ (z : Bodies). branch_ends_at r (bodies_body z) (map html_of c.deref.result.now))
    (call_bodies-out c.args.call.now))
    ∙ ap (λ (zs : List Html). ends (map html_of zs)) c.deref.ensures.value
    ∙ ap ends c.in_ok-start.ensures)
    c.in_ok-ends.ensures) c.deref-2.ensures.value r.location h checked) c.check_iterations.ensures

pub read_inline-returns-in_ok-ends-in-Entering : goal.read_inline-returns-in_ok-ends-in-Entering
read_inline-returns-in_ok-ends-in-Entering t c =
    let r = c.args.reading in
    let d = decorator_view c.args.tag.now in
    let n = string_bytes c.in-Entering.name in
    let h = html_of c.in-Entering.state in
    let own = own_ends_at r (decorator_body d) in
    let written = option_map (λ (s : Bor Text). s.now) c.inline_name.result in
    let named = ap (λ (z : Args). check.may_name (inline_name z) n) (decorator_args-out c.args.tag.now)
    ∙ sym (ap (λ (z : Option Text). check.may_name z n)
    (c.inline_name.ensures (hash_view (out-DecoratorTemplate c.args.tag.now).hash.entries)))
    ∙ sym (ap (λ (z : Text). check.may_name written z) c.as_str.ensures.value) ∙ sym c.may_name.ensures ∙ c.if-may_name.true in
    let ends = ends-same (rows_at r) c.args.found.now c.own_ends.new.found c.in_ok-ends-in-Entering.ends.items _ _
    (sym (ap (λ (z : Body). own_ends_at r z (map html_of c.deref.result.now)) (decorator_body-out c.args.tag.now))
    ∙ ap (λ (zs : List Html). own (map html_of zs)) c.deref.ensures.value
    ∙ ap own c.in_ok-start-in-Entering.ensures
    ∙ sym (inline-named (registered_at r) (rows_at r) (name_at r) d n h named))
    c.in_ok-ends-in-Entering.ensures in
    on_ok_weaker c.add_leavings.result (λ added.
    subst (λ (z : Row). AddsFindings (rows_at r) c.args.found.now c.add_leavings.new.found
    (check.findings_of_row (row_of z) (inline_at r d))) (sym c.in-Entering.is)
    (entering-out (rows_at r) (inline_at r d n h) c.args.found.now c.own_ends.new.found c.add_leavings.new.found
    c.in_ok-ends-in-Entering.ends.items c.deref-then-may_name.result.now ends c.deref-then-may_name.ensures.value n h
    added)) (rw c.as_str-then-may_name.ensures.value at c.add_leavings.ensures)

pub tree_ends-elements-preserved : goal.tree_ends-elements-preserved
tree_ends-elements-preserved t c =
    let r = c.args.reading in
    let e = element_view c.element-item.result in
    let ps = map position_of c.args.template.now.mapping.items in
    let at = check.element_ends (registered_at r) (rows_at r) (name_at r) in
    let found = rw c.deref.ensures.value at (position-found c.deref.result.now c.elements.index _ c.get.result
    c.get.ensures.lookup.1 c.get.ensures.lookup.3 c.copied.result c.copied.ensures) in
    elements-more (registered_at r) (rows_at r) (name_at r) ps
    c.deref-element-items.result.now (map html_of c.args.states.now) c.elements.index c.element-item.result c.elements.ends.items
    c.in_ok-ends-2.ends.items c.args.found.now c.elements.found c.count.new.self c.element_ends.new.found c.elements-test.true
    c.element-item.is
    (some-there c.is_empty.result c.elements.ends.len (length c.elements.ends.items) c.is_empty.ensures c.if-is_empty.false
    c.elements.ends.ok.0) c.count.ensures c.elements.invariant
    (ends-same (rows_at r) c.count.new.self c.element_ends.new.found c.in_ok-ends-2.ends.items _ _
    (ap (λ (z : Option Position). at z e (map html_of c.as_slice.result.now)) found
    ∙ ap (λ (zs : List Html). at (slice_get ps c.elements.index) e (map html_of zs))
    c.as_slice.ensures.value) c.in_ok-ends-2.ensures)

pub tree_ends-returns : goal.tree_ends-returns
tree_ends-returns t c =
    let r = c.args.reading in
    let hs = map html_of c.args.states.now in
    let ps = map position_of c.args.template.now.mapping.items in
    ends-same (rows_at r) c.args.found.now c.elements.found c.elements.ends.items _ _
    (ap (λ (zs : List TemplateElement). check.elements_ends (registered_at r) (rows_at r) (name_at r) ps (elements_view zs) hs)
    c.deref-element-items.ensures.value
    ∙ sym (ap (λ (z : Tree). tree_ends_at r z hs) (tree_view-out c.args.template.now)))
    (elements-end (registered_at r) (rows_at r) (name_at r) ps c.deref-element-items.result.now hs c.elements.index
    c.elements.ends.items c.args.found.now c.elements.found c.elements-test.false c.elements.invariant)
