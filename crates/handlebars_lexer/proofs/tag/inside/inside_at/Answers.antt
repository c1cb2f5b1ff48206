use Rattle.std.proofs.Common.{Some, sym, ap, ◌∙◌}
use Rattle.handlebars_lexer.specs.Kind.{block_kind, close_kind, else_kind, raw_kind, raw_close_kind, decorator_kind, decorator_block_kind}
use Rattle.handlebars_lexer.specs.KindView.{kind_of}
use Rattle.handlebars_lexer.proofs.InsidesRead.{inverse_read}
use Rattle.handlebars_lexer.proofs.InsideAt.{plain_reads, plain_reads-Ok, escaped_reads, html_reads, html_sign_reads, partial_reads, partial_block_reads, after_braces}
use Rattle.handlebars_lexer.proofs.tag.inside.inside_at.Goals as goal

pub comment-requires-clause-begins : goal.comment-requires-clause-begins
comment-requires-clause-begins c =
    let braces = c.requires.comment (ap kind_of c.in-Comment.is) in
    braces ∙ ap Some (sym (after_braces c.args.left.now c.args.begins.inside.now braces))

pub returns-in-Expression-clause-reads : goal.returns-in-Expression-clause-reads
returns-in-Expression-clause-reads c = rw (c.in-Expression.is) (escaped_reads c.args.begins.inside c.value.result c.value.ensures)

pub returns-in-Html-clause-reads : goal.returns-in-Html-clause-reads
returns-in-Html-clause-reads c = rw (c.in-Html.is) (html_reads c.args.begins.inside c.value-in-Html.result c.value-in-Html.ensures)

pub returns-in-HtmlSign-clause-reads : goal.returns-in-HtmlSign-clause-reads
returns-in-HtmlSign-clause-reads c = rw (c.in-HtmlSign.is) (html_sign_reads c.args.begins.inside c.value-in-HtmlSign.result c.value-in-HtmlSign.ensures)

pub returns-in-Block-clause-reads : goal.returns-in-Block-clause-reads
returns-in-Block-clause-reads c = rw (c.in-Block.is) (plain_reads-Ok block_kind c.args.begins.inside.now c.block.result c.block.ensures)

pub returns-in-Close-clause-reads : goal.returns-in-Close-clause-reads
returns-in-Close-clause-reads c = rw (c.in-Close.is) (plain_reads close_kind c.args.begins.inside.now c.close.result c.close.ensures)

pub returns-in-Inverse-clause-reads : goal.returns-in-Inverse-clause-reads
returns-in-Inverse-clause-reads c = rw (c.in-Inverse.is) (inverse_read c.args.begins.inside.now c.closed.result c.closed.ensures)

pub returns-in-Else-clause-reads : goal.returns-in-Else-clause-reads
returns-in-Else-clause-reads c = rw (c.in-Else.is) (plain_reads-Ok else_kind c.args.begins.inside.now c.inverse.result c.inverse.ensures)

pub returns-in-Raw-clause-reads : goal.returns-in-Raw-clause-reads
returns-in-Raw-clause-reads c = rw (c.in-Raw.is) (plain_reads-Ok raw_kind c.args.begins.inside.now c.raw_block.result c.raw_block.ensures)

pub returns-in-RawClose-clause-reads : goal.returns-in-RawClose-clause-reads
returns-in-RawClose-clause-reads c = rw (c.in-RawClose.is) (plain_reads raw_close_kind c.args.begins.inside.now c.raw_close.result c.raw_close.ensures)

pub returns-in-Decorator-clause-reads : goal.returns-in-Decorator-clause-reads
returns-in-Decorator-clause-reads c = rw (c.in-Decorator.is) (plain_reads-Ok decorator_kind c.args.begins.inside.now c.decorator.result c.decorator.ensures)

pub returns-in-DecoratorBlock-clause-reads : goal.returns-in-DecoratorBlock-clause-reads
returns-in-DecoratorBlock-clause-reads c = rw (c.in-DecoratorBlock.is) (plain_reads-Ok decorator_block_kind c.args.begins.inside.now c.decorator_block.result c.decorator_block.ensures)

pub returns-in-Partial-clause-reads : goal.returns-in-Partial-clause-reads
returns-in-Partial-clause-reads c = rw (c.in-Partial.is) (partial_reads c.args.begins.inside c.inclusion.result c.inclusion.ensures)

pub returns-in-PartialBlock-clause-reads : goal.returns-in-PartialBlock-clause-reads
returns-in-PartialBlock-clause-reads c = rw (c.in-PartialBlock.is) (partial_block_reads c.args.begins.inside c.inclusion-in-PartialBlock.result c.inclusion-in-PartialBlock.ensures)

pub returns-in-Comment-clause-reads : goal.returns-in-Comment-clause-reads
returns-in-Comment-clause-reads c =
    let inside = after_braces c.args.left.now c.args.begins.inside.now (c.requires.comment (ap kind_of c.in-Comment.is)) in
    rw (c.in-Comment.is, ← inside) c.comment.ensures.reads
