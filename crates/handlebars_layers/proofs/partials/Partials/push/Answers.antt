use Rattle.std.proofs.Common.{◌∙◌, List, ap, arith, is_ok, refl}
use Rattle.handlebars_layers.specs.PartialsByDepth.{partials_at}
use Rattle.handlebars_layers.specs.declared.partials.OfFrame.{OfFrame}
use Rattle.handlebars_layers.proofs.Depths.{none-from}
use Rattle.handlebars_layers.proofs.Settings.{deeper-added, outer-added, own-added, rises-added}
use Rattle.handlebars_layers.proofs.partials.Partials.push.Goals as goal

pub invariant_of-self : goal.invariant_of-self
invariant_of-self c = record {
  rising = rises-added c.args.self.now.all.items c.args.depth c.args.self.now.rising c.requires.layer c.requires.deepest
      (record { depth = c.args.depth; by_name = c.args.by_name }) refl (is_ok c.push.result) c.push.new.self.items c.push.ensures.items;
}

pub returns-clause-outer : goal.returns-clause-outer
returns-clause-outer c = λ d outer.
    ap (λ (fs : List OfFrame). partials_at fs d) c.in_ok-push.ensures.items
    ∙ outer-added c.args.self.now.all.items c.args.depth c.args.self.now.rising c.requires.layer c.requires.deepest
    (record { depth = c.args.depth; by_name = c.args.by_name }) refl d outer

pub returns-clause-own : goal.returns-clause-own
returns-clause-own c =
    ap (λ (fs : List OfFrame). partials_at fs c.args.depth) c.in_ok-push.ensures.items
    ∙ own-added c.args.self.now.all.items c.args.depth c.args.self.now.rising c.requires.layer c.requires.deepest
    (record { depth = c.args.depth; by_name = c.args.by_name }) refl

pub returns-clause-deeper : goal.returns-clause-deeper
returns-clause-deeper c = λ d deep.
    ap (λ (fs : List OfFrame). partials_at fs d) c.in_ok-push.ensures.items
    ∙ deeper-added c.args.self.now.all.items c.args.depth c.args.self.now.rising c.requires.layer c.requires.deepest
    (record { depth = c.args.depth; by_name = c.args.by_name }) refl d deep

-- ---- memory runs out

pub returns-in_err-push-clause-deeper : goal.returns-in_err-push-clause-deeper
returns-in_err-push-clause-deeper c = λ d deep.
    ap (λ (fs : List OfFrame). partials_at fs d) c.in_err-push.ensures.items
    ∙ none-from c.args.self.now.all.items c.args.depth d c.requires.deepest (omega arith)
