use Rattle.std.proofs.Common.{◌≡◌, ℕ, Bool, List, sym, ap, ◌∙◌, subst, arith}
use Rattle.std.specs.Prelude.{Vec}
use Rattle.std.specs.declared.alloc.Global.{Global}
use Rattle.handlebars_includes.specs.Graph.{AddsPages, ArePages, MarksIncluded, MarksReached, unmarked_from}
use Rattle.handlebars_includes.specs.View.{rows}
use Rattle.handlebars_includes.specs.declared.includes.Inclusion.{Inclusion}
use Rattle.handlebars_includes.proofs.Paged.{adds-reach}
use Rattle.handlebars_includes.proofs.includes.Includes.pages.Goals as goal

-- where what is passed on is read through references
are-pages : (vs v1 v4 v5 : List (Vec Inclusion Global)) (included d2 marks : List Bool) (pages d3 all : List ℕ) → v1 ≡ vs → v4 ≡ vs
    → v5 ≡ vs → d2 ≡ included → d3 ≡ pages → MarksIncluded (rows v1) included → pages ≡ unmarked_from 0 d2
    → MarksReached (rows v4) d3 marks → (MarksReached (rows v5) pages marks → AddsPages (rows v5) 0 pages all) → ArePages (rows vs) all
are-pages vs v1 v4 v5 included d2 marks pages d3 all e1 e4 e5 e2 e3 m is r f =
    let reached = subst (λ (z : List ℕ). MarksReached (rows v5) z marks) e3
    (subst (λ (z : List (Vec Inclusion Global)). MarksReached (rows z) d3 marks) (e4 ∙ sym e5) r) in
    let adds = subst (λ (z : List ℕ). AddsPages (rows vs) 0 z all) (is ∙ ap (unmarked_from 0) e2)
    (subst (λ (z : List (Vec Inclusion Global)). AddsPages (rows z) 0 pages all) e5 (f reached)) in
    record {
      marks = included;
      included = subst (λ (z : List (Vec Inclusion Global)). MarksIncluded (rows z) included) e1 m;
      adds = adds;
      reach = λ i l. adds-reach (rows vs) 0 (unmarked_from 0 included) all adds i (omega arith) l;
    }

pub returns : goal.returns
returns c =
    are-pages c.args.self.now.graph.items c.deref.result.now c.deref-4.result.now c.deref-5.result.now c.in_ok-included.included.items
    c.deref-2.result.now c.in_ok-marks.marks.items c.in_ok-pages.pages.items c.deref-3.result.now c.add_pages.new.pages.items
    c.deref.ensures.value c.deref-4.ensures.value c.deref-5.ensures.value c.deref-2.ensures.value c.deref-3.ensures.value
    c.in_ok-included.ensures c.in_ok-pages.ensures c.in_ok-marks.ensures c.in_ok-add_pages.ensures
