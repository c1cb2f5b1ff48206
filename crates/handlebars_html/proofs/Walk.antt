-- The walk through all that a template can say: where a tree leads as a rule has it, its runs write so.
use Rattle.std.proofs.Common.{ℕ, ◌+◌, Bool, true, false, List, refl}
use Rattle.handlebars_template.specs.Position.{Position}
use Rattle.handlebars_template.specs.Tree.{Tree, tree, Elements, no_elements, element, Element, raw_string, html_expression, escaped_expression, helper_block, decorator_expression, decorator_block, partial_expression, partial_block, comment}
use Rattle.handlebars_semantics.specs.Means.{todo, render_expression, render_element, render_elements}
use Rattle.handlebars_semantics.specs.Occurrences.{TreeOccurrence, Occurrence}
use Rattle.handlebars_semantics.specs.Pieces.{Piece}
use Rattle.handlebars_semantics.specs.Runs.{Outcome, Means}
use Rattle.handlebars_semantics.specs.State.{Setting, State, first_state}
use Rattle.handlebars_semantics.specs.Steps.{Task, One, Whole, Done, ◌>>=◌, ◌>>◌}
use Rattle.handlebars_html.specs.Rule.{Rule, Table, Leads, AllLead, ElementLeads}
use Rattle.handlebars_html.specs.Usual.{IsUsual, IsClosed}
use Rattle.handlebars_html.proofs.Calls.{empty-frame, render_block-goes, render_expression-goes}
use Rattle.handlebars_html.proofs.Inclusions.{render_decorator-goes, render_partial-goes}
use Rattle.handlebars_html.proofs.Plans.{Meaning, AreMet, IsWell, TaskLeads, Plan, Obeys, Runs-obeys}
use Rattle.handlebars_html.proofs.Programs.{Goes, name-well, return-goes, without_escaping-goes, template_text-goes}
use Rattle.handlebars_html.proofs.Weaker.{Leads-weaker, ElementLeads-weaker}

module _ (p : Setting) (rule : Rule) (table : Table rule) (meaning : Meaning p rule) (usual : IsUsual p table.registered)
    (closed : IsClosed p rule table) where
  render_element-goes : (end : rule.Known → Type 0) (h : rule.Known) (s : State) (occurrence : Occurrence) (e : Element)
      → ElementLeads rule table e h end → Goes p rule table meaning true end h s (render_element occurrence e)
  render_element-goes end h s occurrence (raw_string t) is =
      template_text-goes p rule table meaning end h s occurrence t is.0 is.1
  render_element-goes end h s occurrence (html_expression c) is =
      without_escaping-goes p rule table meaning end h s (render_expression occurrence c)
      (render_expression-goes p rule table meaning usual false end h occurrence c is (record s { escapes = false }))
  render_element-goes end h s occurrence (escaped_expression c) is =
      render_expression-goes p rule table meaning usual true end h occurrence c is s
  render_element-goes end h s occurrence (helper_block c) is =
      render_block-goes p rule table meaning usual end h s occurrence c is
  render_element-goes end h s occurrence (decorator_expression t) is =
      render_decorator-goes p rule table meaning usual end h s t is
  render_element-goes end h s occurrence (decorator_block t) is =
      render_decorator-goes p rule table meaning usual end h s t is
  render_element-goes end h s occurrence (partial_expression t) is =
      render_partial-goes p rule table meaning usual closed end h s occurrence t is
  render_element-goes end h s occurrence (partial_block t) is =
      render_partial-goes p rule table meaning usual closed end h s occurrence t is
  render_element-goes end h s occurrence (comment t) is = return-goes p rule table meaning true end h s is

  render_elements-go : (end : rule.Known → Type 0) (at : TreeOccurrence) (positions : List Position) (es : Elements) (i : ℕ)
      (h : rule.Known) (s : State) → AllLead rule table es h end
      → Goes p rule table meaning true end h s (render_elements at i es positions)
  unfolding ◌>>◌
  render_elements-go end at positions no_elements i h s is w last next g = g h s is w
  render_elements-go end at positions (element e es) i h s is w last next g = (
    w,
    (
      h,
      meaning.nothing h,
      (
        is.0,
        ElementLeads-weaker rule table e h (λ x. AllLead rule table es x end) _
            (λ y rest z wz. render_elements-go end at positions es (i + 1) y z rest wz last next g) is.1,
      ),
    ),
  )

  todo-goes : (t : Task) (h : rule.Known) (s : State) (end : rule.Known → Type 0) → TaskLeads p rule table meaning t h end
      → IsWell p rule table meaning true s
      → Plan p rule table meaning (λ g z. end g × IsWell p rule table meaning true z) h s (todo t)
  unfolding ◌>>=◌ ◌>>◌
  todo-goes (One occurrence e) h s end is w =
      render_element-goes end h s occurrence e is.1 w (λ g z. end g × IsWell p rule table meaning true z) (λ u. Done)
      (λ g z e w. (g, meaning.nothing g, (e, w)))
  todo-goes (Whole at (tree n es positions)) h s end is w =
      render_elements-go end at positions es 0 h (record s { current = n }) is (name-well p rule table meaning n w)
      (λ g z. end g × IsWell p rule table meaning true z) (λ u. Done) (λ g z e w. (g, meaning.nothing g, (e, w)))

  first-well : (recursive : Bool) → IsWell p rule table meaning true (first_state recursive)
  first-well recursive =
      record { escaping = refl; indent = meaning.no_indent; frames = (empty-frame p rule table meaning, tt); captured = tt; local = λ n. refl }

  -- What a run writes of a tree that leads from a state leads from that state, and each element to which it comes is as the
  -- rule demands.
  pub Means-obeys : (t : Tree) (h : rule.Known) (end : rule.Known → Type 0) → Leads rule table t h end → (recursive : Bool)
      → (ps : List Piece) (o : Outcome) (r : Means p t (first_state recursive) ps o)
      → Obeys p rule table meaning (λ g z. end g) h ps o × AreMet rule r
  Means-obeys t h end leads recursive ps o r =
      Runs-obeys p rule table meaning todo-goes r (λ g z. end g) h (
        first-well recursive,
        (
          h,
          meaning.nothing h,
          Leads-weaker rule table t h end _ (λ y e z w. (y, meaning.nothing y, e)) leads,
        ),
      )
