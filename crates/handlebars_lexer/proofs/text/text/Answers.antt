use Rattle.std.proofs.Common.{rules}
use Rattle.std.specs.Str.{IsUtf8}
use Rattle.handlebars_lexer.proofs.Texts.{IsCharBoundary-end}
use Rattle.handlebars_lexer.specs.TextView.{braces_of}
use Rattle.handlebars_lexer.proofs.text.text.Goals as goal

pub split_at-requires : goal.split_at-requires
split_at-requires c =
    let chunk = c.next_chunk-chunk.result in
    let utf8 : IsUtf8 chunk.rest.now = search rules in
    IsCharBoundary-end (braces_of c.args.until) c.args.source.now _ chunk.rest.now utf8 (c.next_chunk-chunk.ensures.last c.if-not-chunk.false)
