-- What the program's kinds and beginnings stand for.
use Rattle.std.specs.Prelude.{Bool, List, [], ◌∷◌, Option, Some, None}
use denote.Ref.{Bor}
use Rattle.handlebars_base.specs.Bytes.{Text}
use Rattle.handlebars_base.specs.Optional.{◌>>=◌, with_or}
use Rattle.handlebars_lexer.specs.Kind.{TagKind, escaped_kind, html_kind, html_sign_kind, block_kind, close_kind, inverse_kind, else_kind, raw_kind, raw_close_kind, decorator_kind, decorator_block_kind, partial_kind, partial_block_kind, comment_kind, TagBeginning, beginning, Row, after_sign}
use Rattle.handlebars_lexer.specs.declared.tag.beginning.TagKind.{TagKind as ReadKind}
use Rattle.handlebars_lexer.specs.declared.tag.beginning.TagKind.TheVariants as kind
use Rattle.handlebars_lexer.specs.declared.tag.beginning.TagBeginning.{TagBeginning as ReadBeginning}

abbrev pub kind_of : ReadKind → TagKind
kind_of kind.Expression = escaped_kind
kind_of kind.Html = html_kind
kind_of kind.HtmlSign = html_sign_kind
kind_of kind.Block = block_kind
kind_of kind.Close = close_kind
kind_of kind.Inverse = inverse_kind
kind_of kind.Else = else_kind
kind_of kind.Raw = raw_kind
kind_of kind.RawClose = raw_close_kind
kind_of kind.Decorator = decorator_kind
kind_of kind.DecoratorBlock = decorator_block_kind
kind_of kind.Partial = partial_kind
kind_of kind.PartialBlock = partial_block_kind
kind_of kind.Comment = comment_kind

abbrev pub beginning_view : ReadBeginning → TagBeginning
beginning_view b = beginning (kind_of b.kind) b.tilde b.inside.now

-- whether there is a tilde, and a text, wherever it is stored
abbrev pub tilded : Bool × Bor Text → Bool × Text
tilded x = (x.0, x.1.now)

-- after two braces and an optional tilde, the beginning that the first of these rows with a matching sign gives
abbrev pub signed_by : List Row → Bool → Text → Option TagBeginning
signed_by [] tilde t = None
signed_by (row ∷ rest) tilde t =
    with_or (after_sign row.sign t >>= λ inside. Some (beginning row.kind tilde inside)) Some (signed_by rest tilde t)
