-- The value of the literal that a text is, read from the text. The law `value_of_literal` states it by the literal's shape.
use Rattle.std.specs.Prelude.{ℕ, ◌-◌, ◌&&◌, ◌==◌, nat_lt, if◌then◌else◌, length, take, slice_index, Option, Some, None}
use Rattle.serde_json.specs.Data.{Data}
use Rattle.serde_json.specs.Read.{read as read_text}
use Rattle.handlebars_base.specs.Bytes.{Text, single_quote}
use Rattle.handlebars_base.specs.Optional.{◌>>=◌, with_or}
use Rattle.handlebars_base.specs.Texts.{after_byte}
use Rattle.handlebars_expressions.specs.LiteralReading.{literal_at}
use Rattle.handlebars_expressions.specs.LiteralValue.{double_quoted}

-- what precedes the mark c at the end
unfoldable pub before : ℕ → Text → Option Text
before c t =
    if nat_lt 0 (length t) && (slice_index t (length t - 1) == c) then Some (take (length t - 1) t) else None

-- the JSON that the text of a literal is read as
abbrev pub json_text : Text → Text
json_text t = with_or (after_byte single_quote t >>= before single_quote) double_quoted t

-- The value of the literal that a text is, if its numbers are in range. A text that is no literal has no value.
unfoldable pub literal_value_of : Text → Option Data
literal_value_of raw =
    literal_at raw >>= λ token.
    if token.in_range && (length token.rest == 0) then read_text (json_text token.raw) else None
