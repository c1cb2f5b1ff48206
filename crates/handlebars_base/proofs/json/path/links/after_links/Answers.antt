use Rattle.std.proofs.Common.{rules, sym, ap, ◌∙◌}
use Rattle.handlebars_base.proofs.PathLinks.{loop-none, loop-shorter, loop-rest}
use Rattle.handlebars_base.proofs.json.path.links.after_links.Goals as goal

pub loop-found-smaller : goal.loop-found-smaller
loop-found-smaller c = loop-shorter c.loop-found.before_up c.loop-found.rest.now _ c.in-Some.after.now c.in-Some.ensures

pub loop-found-preserved : goal.loop-found-preserved
loop-found-preserved c = (
  search rules,
  rw (c.is_up-before_up.ensures) (sym (loop-rest c.loop-found.before_up c.loop-found.rest.now _ c.in-Some.after.now c.in-Some.ensures) ∙ c.loop-found.invariant.1),
)

pub returns : goal.returns
returns c = sym (ap (λ x. x.1) (loop-none c.loop-found.before_up c.loop-found.rest.now c.in_default.ensures)) ∙ c.loop-found.invariant.1
