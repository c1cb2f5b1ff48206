use Rattle.std.proofs.Common.{refl, None}
use Rattle.handlebars_lexer.specs.Tag.{escaped_tag, html_tag, block_tag, inverse_tag, chain_tag, close_tag, raw_tag, raw_close_tag, decorator_tag, decorator_block_tag, partial_tag, partial_block_tag, comment_tag}
use Rattle.handlebars_template.specs.Tree.{comment}
use Rattle.handlebars_template.specs.Nest.{leaf, opens, chains}
use Rattle.handlebars_template.proofs.TagsBuilt.{Looks-same, Looks-at, Looks-path}
use Rattle.handlebars_template.proofs.template.tags.look.Goals as goal

pub returns-in-Expression : goal.returns-in-Expression
returns-in-Expression c options p e tag holds deep =
    let h = rw c.in-Expression.is at holds in
    Looks-at options c.args.nesting.now p e _ tag (escaped_tag h.expression) (leaf p) _ _ c.args.depth h.gives deep refl (c.look_at_leaf.ensures p)

pub returns-in-Html : goal.returns-in-Html
returns-in-Html c options p e tag holds deep =
    let h = rw c.in-Html.is at holds in
    Looks-at options c.args.nesting.now p e _ tag (html_tag h.expression) (leaf p) _ _ c.args.depth h.gives deep refl (c.look_at_leaf-in-Html.ensures p)

pub returns-in-Block : goal.returns-in-Block
returns-in-Block c options p e tag holds deep =
    let h = rw c.in-Block.is at holds in
    Looks-at options c.args.nesting.now p e _ tag (block_tag h.expression) (opens p) _ _ c.args.depth h.gives deep refl (c.look_at_opening.ensures p)

pub returns-in-Inverse : goal.returns-in-Inverse
returns-in-Inverse c options p e tag holds deep = Looks-same options c.args.nesting.now p e _ tag inverse_tag (rw c.in-Inverse.is at holds) (c.look_at_inverse.ensures p)

pub returns-in-Chain : goal.returns-in-Chain
returns-in-Chain c options p e tag holds deep =
    let h = rw c.in-Chain.is at holds in
    Looks-at options c.args.nesting.now p e _ tag (chain_tag h.expression) (chains p) _ _ c.args.depth h.gives deep refl (c.look_at_chained.ensures p)

pub returns-in-Close : goal.returns-in-Close
returns-in-Close c options p e tag holds deep = Looks-same options c.args.nesting.now p e _ tag (close_tag c.in-Close.name.now) (rw c.in-Close.is at holds) (c.look_at_close.ensures p)

pub returns-in-RawBlock : goal.returns-in-RawBlock
returns-in-RawBlock c options p e tag holds deep =
    let h = rw c.in-RawBlock.is at holds in
    Looks-at options c.args.nesting.now p e _ tag (raw_tag h.expression) (opens p) _ _ c.args.depth h.gives deep refl (c.look_at_opening-in-RawBlock.ensures p)

pub returns-in-RawClose : goal.returns-in-RawClose
returns-in-RawClose c options p e tag holds deep = Looks-same options c.args.nesting.now p e _ tag (raw_close_tag c.in-RawClose.name.now) (rw c.in-RawClose.is at holds) (c.look_at_close-in-RawClose.ensures p)

pub returns-in-Decorator : goal.returns-in-Decorator
returns-in-Decorator c options p e tag holds deep =
    let h = rw c.in-Decorator.is at holds in
    Looks-at options c.args.nesting.now p e _ tag (decorator_tag h.expression) (leaf p) _ _ c.args.depth h.gives deep refl (c.look_at_leaf-in-Decorator.ensures p)

pub returns-in-DecoratorBlock : goal.returns-in-DecoratorBlock
returns-in-DecoratorBlock c options p e tag holds deep =
    let h = rw c.in-DecoratorBlock.is at holds in
    Looks-at options c.args.nesting.now p e _ tag (decorator_block_tag h.expression) (opens p) _ _ c.args.depth h.gives deep refl (c.look_at_opening-in-DecoratorBlock.ensures p)

pub returns-in-Partial : goal.returns-in-Partial
returns-in-Partial c options p e tag holds deep =
    let h = rw c.in-Partial.is at holds in
    Looks-at options c.args.nesting.now p e _ tag (partial_tag h.expression) (leaf p) _ _ c.args.depth h.gives deep refl (c.look_at_leaf-in-Partial.ensures p)

pub returns-in-PartialBlock : goal.returns-in-PartialBlock
returns-in-PartialBlock c options p e tag holds deep =
    let h = rw c.in-PartialBlock.is at holds in
    Looks-at options c.args.nesting.now p e _ tag (partial_block_tag h.expression) (opens p) _ _ c.args.depth h.gives deep refl (c.look_at_opening-in-PartialBlock.ensures p)

pub returns-in-Comment : goal.returns-in-Comment
returns-in-Comment c options p e tag holds deep = Looks-same options c.args.nesting.now p e _ tag (comment_tag c.in-Comment.field-0.now) (rw c.in-Comment.is at holds) (c.look_at_leaf-in-Comment.ensures p (comment c.in-Comment.field-0.now) None)

pub returns-in-Path : goal.returns-in-Path
returns-in-Path c options p e tag holds deep = Looks-path options c.args.nesting.now p e _ c.in-Path.field-0 tag c.args.depth (rw c.in-Path.is at holds) deep (c.look_at_leaf-in-Path.ensures p)
