use Rattle.std.proofs.Common.{◌∙◌, arith, rules}
use Rattle.handlebars_scope.proofs.Prefixes.{or_before-past, retained-within}
use Rattle.handlebars_scope.proofs.context.prefixes.longest.Goals as goal

pub loop-retained-preserved : goal.loop-retained-preserved
loop-retained-preserved c =
    let l = c.loop-retained in
    let inside = c.loop-retained-test.true in (
      or_before-past l.retained _ _ _ _ _ _ _ inside c.index-base-retained.is (search rules) c.hit_at-best.ensures
          ∙ l.invariant.0,
      retained-within _ l.retained _ _ _ c.hit_at-best.ensures (omega (arith, inside)) l.invariant.1,
    )
