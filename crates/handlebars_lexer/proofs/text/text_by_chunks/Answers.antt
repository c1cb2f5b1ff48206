use Rattle.std.proofs.Common.{rules, string_bytes}
use Rattle.std.specs.Str.{IsUtf8}
use Rattle.handlebars_lexer.proofs.Texts.{GoesOn-append, Ends-append, IsCharBoundary-end}
use Rattle.handlebars_lexer.specs.TextView.{braces_of}
use Rattle.handlebars_lexer.proofs.text.text_by_chunks.Goals as goal

pub split_at-requires : goal.split_at-requires
split_at-requires c =
    let chunk = c.next_chunk-chunk.result in
    let utf8 : IsUtf8 chunk.rest.now = search rules in
    IsCharBoundary-end (braces_of c.args.until) c.args.source.now _ chunk.rest.now utf8 (Ends-append (braces_of c.args.until) c.args.source.now (string_bytes c.chunks.unescaped) c.chunks.left.now chunk.unescaped.now chunk.rest.now c.chunks.invariant.so_far (c.next_chunk-chunk.ensures.last c.if-chunk.true))

pub chunks-preserved : goal.chunks-preserved
chunks-preserved c =
    let chunk = c.next_chunk-chunk.result in
    record {
      utf8 = search rules;
      so_far = rw c.in_ok-push_str.ensures.bytes (GoesOn-append (braces_of c.args.until) c.args.source.now (string_bytes c.chunks.unescaped) c.chunks.left.now chunk.unescaped.now chunk.rest.now c.chunks.invariant.so_far (c.next_chunk-chunk.ensures.on c.if-chunk.false));
    }
