use Rattle.std.proofs.Common.{◌∙◌, refl}
use Rattle.handlebars_template.proofs.Trees.{tree_view-roll}
use Rattle.handlebars_template.proofs.NestsBuilt.{paired_elements, paired_positions}
use Rattle.handlebars_template.proofs.template.positioned.PositionedElements.named_tree.Goals as goal

pub returns : goal.returns
returns c =
    let es = c.args.self.elements.items in
    let ms = c.args.self.mapping.items in
    tree_view-roll _ ∙ rw (paired_elements es ms c.args.self.as_many, paired_positions es ms c.args.self.as_many) refl
