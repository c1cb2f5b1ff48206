use Rattle.std.proofs.Common.{◌≡◌, ◌∙◌, List, ◌∷◌, [], suc, ◌<◌, ap, sym, rules}
use Rattle.std.specs.Option.{option_or}
use Rattle.handlebars_template.specs.Calls.{max_nesting}
use Rattle.handlebars_template.specs.Nest.{PositionedElement}
use Rattle.handlebars_template.specs.Machine.{in_branch, BlockSoFar, goes, next_stage}
use Rattle.handlebars_template.specs.NestView.{positioned_view, opening_view, open_block_view, stack_view, open_blocks, late_of}
use Rattle.handlebars_template.proofs.NestsBuilt.{stack_view_push}
use Rattle.handlebars_template.proofs.NestsDone.{option_or-none, chains-goes}
use Rattle.handlebars_template.proofs.template.nest.Nesting.chain.Goals as goal

pub returns : goal.returns
returns c n may =
    let old = c.args.self.now in
    let new = c.record_literal.new.self in
    let after = stack_view c.pop.new.self.items in
    let head_is : open_blocks old ≡ open_block_view c.in-Some.block ∷ after = search (rules, stack_view_push) in
    let elements : positioned_view c.replace-elements.result ≡ positioned_view old.elements = search rules in
    let next : open_block_view c.enter.new.self ≡ next_stage (open_block_view c.in-Some.block) (positioned_view old.elements) (in_branch (opening_view c.args.opening)) =
    c.in_ok-enter.ensures
    ∙ ap (λ (z : List PositionedElement). next_stage (open_block_view c.in-Some.block) z (in_branch (opening_view c.args.opening))) elements in
    let more : old.depth < max_nesting → c.one_more-self.result ≡ suc old.depth = c.one_more-self.ensures in
    let stack : open_blocks new ≡ open_block_view c.enter.new.self ∷ after = c.in_ok-record_literal.ensures.open_blocks ∙ search (rules, stack_view_push) in
    let none : positioned_view new.elements ≡ [] = c.in_ok-record_literal.ensures.elements ∙ search rules in
    record {
      goes_on = chains-goes _ _ n _ old.depth new.depth (open_block_view c.in-Some.block) (open_block_view c.enter.new.self) (open_blocks old) after (positioned_view old.elements) head_is next (rw (c.in_ok-record_literal.ensures.depth) more) may
          ∙ ap (λ (z : List BlockSoFar). goes new.depth z []) (sym stack) ∙ ap (goes new.depth (open_blocks new)) (sym none);
      late = c.in_ok-record_literal.ensures.late ∙ ap (option_or (late_of old)) (sym (option_or-none _));
    }
