use Rattle.std.proofs.Common.{◌∙◌, ap}
use Rattle.handlebars_template.specs.Tree.{body}
use Rattle.handlebars_template.proofs.Trees.{tree_view-roll}
use Rattle.handlebars_template.proofs.NestsBuilt.{paired_elements, paired_positions}
use Rattle.handlebars_template.proofs.template.positioned.PositionedElements.template.Goals as goal

pub returns : goal.returns
returns c =
    let es = c.args.self.elements.items in
    let ms = c.args.self.mapping.items in
    ap body (tree_view-roll _) ∙ rw (paired_elements es ms c.args.self.as_many, paired_positions es ms c.args.self.as_many)
