use Rattle.std.proofs.Common.{◌∙◌, arith, sym}
use Rattle.handlebars_scope.specs.Scopes.{nothing_at}
use Rattle.handlebars_layers.proofs.Hash.{hash-here, hash-before}
use Rattle.handlebars_layers.proofs.frame.bound_hash.Goals as goal

pub returns-then-eq : goal.returns-then-eq
returns-then-eq c =
    hash-here c.args.hash.now c.hash.left c.index-hash-left.result nothing_at c.args.name.now (omega arith) c.hash.invariant.inside
    c.index-hash-left.is (sym c.eq.ensures ∙ c.if-eq.true) ∙ c.hash.invariant.bound

pub hash-preserved : goal.hash-preserved
hash-preserved c = record {
  inside = omega arith;
  bound = hash-before c.args.hash.now c.hash.left c.index-hash-left.result nothing_at c.args.name.now (omega arith)
      c.hash.invariant.inside c.index-hash-left.is (sym c.eq.ensures ∙ c.if-eq.false) ∙ c.hash.invariant.bound;
}
