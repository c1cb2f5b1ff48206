use Rattle.std.proofs.Common.{◌∙◌, ap, arith, refl, sym}
use Rattle.std.proofs.lemmas.Result.{on_err_weaker, on_ok_weaker}
use Rattle.std.specs.Prelude.{string_bytes}
use Rattle.handlebars_template.specs.TreeView.{tree_view}
use Rattle.handlebars_scope.specs.Scopes.{put_at}
use Rattle.handlebars_layers.proofs.Depths.{none-from}
use Rattle.handlebars_layers.proofs.Settings.{deeper-changed, ends-before, ends-here, outer-changed, own-changed, own-unchanged, rises-changed}
use Rattle.handlebars_layers.proofs.partials.Partials.set_in_layer.Goals as goal

-- ---- the last entry is of the layer

pub invariant_of-self : goal.invariant_of-self
invariant_of-self c =
    let old = c.args.self.now in
    let last = c.in-Some.last.now in
    let count = old.all.ok.0 in
    let some = c.in-Some.ensures.variant.0 refl in
    let here = ends-here c.args.depth old.all.items old.all.len last count some c.in-Some.ensures.value
    (sym c.has_last.ensures ∙ c.if-has_last.true) in
    record {
      rising = rises-changed old.all.items c.args.depth old.rising c.requires.layer old.all.len last c.set.new.self count some
          c.in-Some.ensures.value here c.set.ensures.depth;
    }

pub returns-in-Some-clause-outer : goal.returns-in-Some-clause-outer
returns-in-Some-clause-outer c =
    let old = c.args.self.now in
    let last = c.in-Some.last.now in
    let count = old.all.ok.0 in
    let some = c.in-Some.ensures.variant.0 refl in
    let here = ends-here c.args.depth old.all.items old.all.len last count some c.in-Some.ensures.value
    (sym c.has_last.ensures ∙ c.if-has_last.true) in
    outer-changed old.all.items c.args.depth old.rising c.requires.layer old.all.len last c.set.new.self count some
    c.in-Some.ensures.value here c.set.ensures.depth

pub returns-in-Some-clause-own : goal.returns-in-Some-clause-own
returns-in-Some-clause-own c =
    let old = c.args.self.now in
    let last = c.in-Some.last.now in
    let count = old.all.ok.0 in
    let some = c.in-Some.ensures.variant.0 refl in
    let here = ends-here c.args.depth old.all.items old.all.len last count some c.in-Some.ensures.value
    (sym c.has_last.ensures ∙ c.if-has_last.true) in
    on_ok_weaker c.set.result
    (own-changed old.all.items c.args.depth old.rising c.requires.layer old.all.len last c.set.new.self count some
    c.in-Some.ensures.value here c.set.ensures.depth (string_bytes c.args.name) (tree_view c.args.template.value))
    c.set.ensures.partials

pub returns-in-Some-clause-err : goal.returns-in-Some-clause-err
returns-in-Some-clause-err c =
    let old = c.args.self.now in
    let last = c.in-Some.last.now in
    let count = old.all.ok.0 in
    let some = c.in-Some.ensures.variant.0 refl in
    let here = ends-here c.args.depth old.all.items old.all.len last count some c.in-Some.ensures.value
    (sym c.has_last.ensures ∙ c.if-has_last.true) in
    on_err_weaker c.set.result
    (own-unchanged old.all.items c.args.depth old.rising c.requires.layer old.all.len last c.set.new.self count some
    c.in-Some.ensures.value here c.set.ensures.depth)
    c.set.ensures.err

pub returns-in-Some-clause-deeper : goal.returns-in-Some-clause-deeper
returns-in-Some-clause-deeper c =
    let old = c.args.self.now in
    let last = c.in-Some.last.now in
    let count = old.all.ok.0 in
    let some = c.in-Some.ensures.variant.0 refl in
    let here = ends-here c.args.depth old.all.items old.all.len last count some c.in-Some.ensures.value
    (sym c.has_last.ensures ∙ c.if-has_last.true) in
    deeper-changed old.all.items c.args.depth old.rising c.requires.layer old.all.len last c.set.new.self count some
    c.in-Some.ensures.value here c.set.ensures.depth

-- ---- an entry is added

pub add-requires-clause-deepest : goal.add-requires-clause-deepest
add-requires-clause-deepest c =
    ends-before 1 c.args.depth c.args.self.now.all.items c.args.self.now.rising c.requires.deepest
    (sym c.has_last.ensures ∙ c.if-has_last.false)

pub returns-else-has_last-clause-own : goal.returns-else-has_last-clause-own
returns-else-has_last-clause-own c =
    let es = c.args.self.now.all.items in
    let before = ends-before 1 c.args.depth es c.args.self.now.rising c.requires.deepest
    (sym c.has_last.ensures ∙ c.if-has_last.false) in
    on_ok_weaker c.add.result
    (λ put. put ∙ ap (put_at (string_bytes c.args.name) (tree_view c.args.template.value))
    (sym (none-from es c.args.depth c.args.depth before (omega arith)))) c.add.ensures.own
