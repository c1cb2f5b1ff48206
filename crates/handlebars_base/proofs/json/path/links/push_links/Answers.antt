use Rattle.std.proofs.Common.{rules, List, ◌++◌, sym, ap, ◌∙◌, append-nil}
use Rattle.handlebars_base.specs.Bytes.{Text}
use Rattle.handlebars_base.specs.Path.{Link, link_segments}
use Rattle.handlebars_base.specs.PathView.{segments_of}
use Rattle.handlebars_base.proofs.PathLinks.{loop-none, loop-shorter, loop-rest, loop-segments}
use Rattle.handlebars_base.proofs.json.path.links.push_links.Goals as goal

pub loop-found-smaller : goal.loop-found-smaller
loop-found-smaller c = loop-shorter c.loop-found.before_up c.loop-found.rest.now _ c.in-Some.after.now c.in-Some.ensures

pub loop-found-preserved : goal.loop-found-preserved
loop-found-preserved c = (
  search rules,
  rw (c.is_up-before_up.ensures) (sym (loop-rest c.loop-found.before_up c.loop-found.rest.now _ c.in-Some.after.now c.in-Some.ensures) ∙ c.loop-found.invariant.1),
  rw (c.in_ok-push.ensures, c.is_up-before_up.ensures) (loop-segments (segments_of c.loop-found.segs.items) c.loop-found.before_up c.loop-found.rest.now _ c.in-Some.after.now c.in-Some.ensures ∙ c.loop-found.invariant.2),
)

pub returns-clause-segments : goal.returns-clause-segments
returns-clause-segments c =
    sym (append-nil _) ∙
    ap (λ (x : List Link × Text). segments_of c.loop-found.segs.items ++ link_segments x.0) (sym (loop-none c.loop-found.before_up c.loop-found.rest.now c.in_default.ensures)) ∙
    c.loop-found.invariant.2

pub returns-clause-rest : goal.returns-clause-rest
returns-clause-rest c = sym (ap (λ x. x.1) (loop-none c.loop-found.before_up c.loop-found.rest.now c.in_default.ensures)) ∙ c.loop-found.invariant.1
