use Rattle.handlebars_template.specs.Machine.{open_in}
use Rattle.handlebars_template.specs.NestView.{open_blocks}
use Rattle.handlebars_template.proofs.NestsLooked.{Looks-chained}
use Rattle.handlebars_template.proofs.template.nest.Nesting.look_at_chained.Goals as goal

pub returns : goal.returns
returns c p o r =
    let old = c.args.self.now in
    rw c.or.ensures
    (Looks-chained p o r old.depth c.args.number (open_in (open_blocks old)) c.look_at_inverse-misplaced.result c.look_at_opening-deep.result
    (c.look_at_inverse-misplaced.ensures p) (c.look_at_opening-deep.ensures p o r))
