-- What the program's tokens, inside literals and of whole literals, stand for.
use Rattle.std.specs.Prelude.{List, map, reverse}
use Rattle.handlebars_expressions.specs.Literal.{Bracket, array, object}
use Rattle.handlebars_expressions.specs.LiteralReading.{Lexeme, unbracketed, empty_brackets, opening_bracket, another_entry, closing_bracket, literal_end, no_token, LiteralToken}
use Rattle.handlebars_expressions.specs.declared.literal.Bracket.{Bracket as ReadBracket}
use Rattle.handlebars_expressions.specs.declared.literal.Bracket.TheVariants.{Array, Object}
use Rattle.handlebars_expressions.specs.declared.literal.Token.{Token as ReadToken}
use Rattle.handlebars_expressions.specs.declared.literal.Token.TheVariants as token
use Rattle.handlebars_expressions.specs.declared.literal.LiteralToken.{LiteralToken as ReadLiteralToken}

abbrev pub bracket_of : ReadBracket → Bracket
bracket_of Array = array
bracket_of Object = object

-- the open brackets, the innermost first, given with the outermost first
abbrev pub stack_of : List ReadBracket → List Bracket
stack_of ks = map bracket_of (reverse ks)

abbrev pub token_of : ReadToken → Lexeme
token_of (token.Unbracketed in_range rest) = unbracketed in_range rest.now
token_of (token.EmptyBrackets rest) = empty_brackets rest.now
token_of (token.OpeningBracket k rest) = opening_bracket (bracket_of k) rest.now
token_of (token.AnotherEntry rest) = another_entry rest.now
token_of (token.ClosingBracket rest) = closing_bracket rest.now
token_of token.LiteralEnd = literal_end
token_of token.NoToken = no_token

abbrev pub literal_token_of : ReadLiteralToken → LiteralToken
literal_token_of read = record { raw = read.raw.now; rest = read.rest.now; depth = read.depth; in_range = read.in_range }
