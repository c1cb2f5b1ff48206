-- What the program's braces stand for.
use Rattle.handlebars_lexer.specs.Text.{Braces, two_braces, four_braces}
use Rattle.handlebars_lexer.specs.declared.text.Braces.{Braces as ReadBraces}
use Rattle.handlebars_lexer.specs.declared.text.Braces.TheVariants.{Two, Four}

abbrev pub braces_of : ReadBraces → Braces
braces_of Two = two_braces
braces_of Four = four_braces
