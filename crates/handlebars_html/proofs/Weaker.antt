-- What leads to an end leads to a weaker one.
use Rattle.std.proofs.Common.{Bool, true, false, Option, None, Some}
use Rattle.handlebars_base.specs.Bytes.{Text}
use Rattle.handlebars_template.specs.Tree.{Tree, tree, Elements, no_elements, element, Element, raw_string, html_expression, escaped_expression, helper_block, decorator_expression, decorator_block, partial_expression, partial_block, comment, Call, call, Decorator, decorator, Bodies, bodies, Body, no_body, body}
use Rattle.handlebars_html.specs.Rule.{Rule, Table, Effect, one_branch, iterations, a_value, no_output, written_name, WrittenLeads, ValueLeads, Leads, AllLead, ElementLeads, ExpressionLeads, BlockLeads, BodiesLead, BranchLeads, DecoratorLeads, InclusionLeads, BlockLeadsTo}

module _ (rule : Rule) (table : Table rule) where
  abbrev IsWeaker : (rule.Known → Type 0) → (rule.Known → Type 0) → Type 0
  IsWeaker a b = (g : rule.Known) → a g → b g

  WrittenLeads-weaker : (o : Option Text) (h : rule.Known) (a b : rule.Known → Type 0) → IsWeaker a b
      → WrittenLeads rule table o h a → WrittenLeads rule table o h b
  WrittenLeads-weaker None h a b to is = is
  WrittenLeads-weaker (Some n) h a b to is = (
    λ named. let k = is.0 named in (k.0, to _ k.1),
    λ other. let k = is.1 other in (k.0, λ g last. to g (k.1 g last)),
  )

  ValueLeads-weaker : (url escapes : Bool) (h : rule.Known) (a b : rule.Known → Type 0) → IsWeaker a b
      → ValueLeads rule table url escapes h a → ValueLeads rule table url escapes h b
  ValueLeads-weaker true escapes h a b to is = (is.0, to _ is.1)
  ValueLeads-weaker false escapes h a b to is = (is.0, to _ is.1)

  mutual
    pub Leads-weaker : (t : Tree) (h : rule.Known) (a b : rule.Known → Type 0) → IsWeaker a b → Leads rule table t h a
        → Leads rule table t h b
    Leads-weaker (tree n es positions) h a b to is = AllLead-weaker es h a b to is

    AllLead-weaker : (es : Elements) (h : rule.Known) (a b : rule.Known → Type 0) → IsWeaker a b → AllLead rule table es h a
        → AllLead rule table es h b
    AllLead-weaker no_elements h a b to is = to h is
    AllLead-weaker (element e es) h a b to is = (
      is.0,
      ElementLeads-weaker e h (λ g. AllLead rule table es g a) (λ g. AllLead rule table es g b) (λ g. AllLead-weaker es g a b to)
          is.1,
    )

    pub ElementLeads-weaker : (e : Element) (h : rule.Known) (a b : rule.Known → Type 0) → IsWeaker a b
        → ElementLeads rule table e h a → ElementLeads rule table e h b
    ElementLeads-weaker (raw_string t) h a b to is = (is.0, to _ is.1)
    ElementLeads-weaker (html_expression c) h a b to is = ExpressionLeads-weaker c false h a b to is
    ElementLeads-weaker (escaped_expression c) h a b to is = ExpressionLeads-weaker c true h a b to is
    ElementLeads-weaker (helper_block c) h a b to is = BlockLeads-weaker c h a b to is
    ElementLeads-weaker (decorator_expression t) h a b to is = DecoratorLeads-weaker t h a b to is
    ElementLeads-weaker (decorator_block t) h a b to is = DecoratorLeads-weaker t h a b to is
    ElementLeads-weaker (partial_expression t) h a b to is = InclusionLeads-weaker t h a b to is
    ElementLeads-weaker (partial_block t) h a b to is = InclusionLeads-weaker t h a b to is
    ElementLeads-weaker (comment t) h a b to is = to h is

    ExpressionLeads-weaker : (c : Call) (escapes : Bool) (h : rule.Known) (a b : rule.Known → Type 0) → IsWeaker a b
        → ExpressionLeads rule table c escapes h a → ExpressionLeads rule table c escapes h b
    ExpressionLeads-weaker (call n xs x (bodies y z) marks) escapes h a b to is =
        (ValueLeads-weaker _ escapes h a b to is.0, is.1, is.2)

    BlockLeads-weaker : (c : Call) (h : rule.Known) (a b : rule.Known → Type 0) → IsWeaker a b → BlockLeads rule table c h a
        → BlockLeads rule table c h b
    BlockLeads-weaker (call n xs x t marks) h a b to is = (is.0, is.1, BodiesLead-weaker t _ h a b to is.2)

    BodiesLead-weaker : (t : Bodies) (effect : Effect) (h : rule.Known) (a b : rule.Known → Type 0) → IsWeaker a b
        → BodiesLead rule table t effect h a → BodiesLead rule table t effect h b
    BodiesLead-weaker (bodies x y) one_branch h a b to is =
        (BranchLeads-weaker x h a b to is.0, BranchLeads-weaker y h a b to is.1)
    BodiesLead-weaker (bodies x y) iterations h a b to is = (to h is.0, is.1, BranchLeads-weaker y h a b to is.2)
    BodiesLead-weaker (bodies x y) a_value h a b to is = (is.0, to _ is.1)
    BodiesLead-weaker (bodies x y) no_output h a b to is = to h is

    pub BranchLeads-weaker : (x : Body) (h : rule.Known) (a b : rule.Known → Type 0) → IsWeaker a b
        → BranchLeads rule table x h a → BranchLeads rule table x h b
    BranchLeads-weaker no_body h a b to is = to h is
    BranchLeads-weaker (body t) h a b to is = Leads-weaker t h a b to is

    DecoratorLeads-weaker : (t : Decorator) (h : rule.Known) (a b : rule.Known → Type 0) → IsWeaker a b
        → DecoratorLeads rule table t h a → DecoratorLeads rule table t h b
    DecoratorLeads-weaker (decorator n xs x marks) h a b to is = (to h is.0, is.1)

    InclusionLeads-weaker : (t : Decorator) (h : rule.Known) (a b : rule.Known → Type 0) → IsWeaker a b
        → InclusionLeads rule table t h a → InclusionLeads rule table t h b
    InclusionLeads-weaker (decorator n xs x marks) h a b to is = (
      is.0,
      WrittenLeads-weaker (written_name n) h a b to is.1,
      BlockLeadsTo-weaker x h a b to is.2,
      is.3,
    )

    BlockLeadsTo-weaker : (x : Body) (h : rule.Known) (a b : rule.Known → Type 0) → IsWeaker a b
        → BlockLeadsTo rule table x h a → BlockLeadsTo rule table x h b
    BlockLeadsTo-weaker no_body h a b to is = tt
    BlockLeadsTo-weaker (body t) h a b to is = Leads-weaker t h a b to is
