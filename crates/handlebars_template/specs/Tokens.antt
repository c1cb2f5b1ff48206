-- Tokenization: a source is split into tokens, alternately texts and tags.
use Rattle.std.specs.Prelude.{◌≡◌, Bool, true, not, ◌||◌, List, [], ◌∷◌, ◌++◌}
use Rattle.handlebars_base.specs.Bytes.{Text}
use Rattle.handlebars_lexer.specs.Text.{IsText}
use Rattle.handlebars_lexer.specs.Tag.{Tag, Tildes, IsTag, is_raw_close}
use Rattle.handlebars_lexer.specs.Trim.{WhitespaceControl, no_control, control_of, braces_after}
use Rattle.handlebars_lexer.specs.Options.{Options}
use Rattle.handlebars_template.specs.Position.{Position, position}

-- A text token: its position, the whitespace control before it, its spelling, its unescaped text, and the whitespace control
-- after it. A tag token: its position, its spelling, the tag, and its whitespace control.
pub data Token : Type 0 where
  text_token : Position → WhitespaceControl → Text → Text → WhitespaceControl → Token
  tag_token : Position → Text → Tag → WhitespaceControl → Token

-- After the opening of a raw block, only its end may follow.
abbrev pub may_follow : WhitespaceControl → Tag → Bool
may_follow e t = not e.is_raw || is_raw_close t

-- After a prefix of the source, which ends with this whitespace control, follow a text, empty or not, and a tag.
pub record TextAndTag (source : Text) (options : Options) (before : Text) (control : WhitespaceControl) : Type 0 where
  pub text : Text
  pub unescaped : Text
  pub token : Text
  pub tag : Tag
  pub tildes : Tildes
  pub rest : Text
  pub whole : source ≡ before ++ (text ++ (token ++ rest))
  pub is_text : IsText (braces_after control) (token ++ rest) text unescaped
  pub is_tag : IsTag options.sections token rest tag tildes
  pub may_follow : may_follow control tag ≡ true

abbrev pub tag_position : {source : Text} {options : Options} {before : Text} {control : WhitespaceControl} → TextAndTag source options before control → Position
tag_position {before = before} x = position (before ++ x.text)

abbrev pub tag_control : {source : Text} {options : Options} {before : Text} {control : WhitespaceControl} → TextAndTag source options before control → WhitespaceControl
tag_control {before = before} x = control_of before x.text x.tag x.tildes x.rest

abbrev pub text_token_of : {source : Text} {options : Options} {before : Text} {control : WhitespaceControl} → TextAndTag source options before control → Token
text_token_of {before = before} {control = control} x = text_token (position before) control x.text x.unescaped (tag_control x)

abbrev pub tokens_of : {source : Text} {options : Options} {before : Text} {control : WhitespaceControl} → TextAndTag source options before control → List Token
tokens_of x = text_token_of x ∷ tag_token (tag_position x) x.token x.tag (tag_control x) ∷ []

-- Reads source options before control ps: the source begins with the tokens ps, which join to before. The last of them has
-- this whitespace control.
pub data Reads (source : Text) (options : Options) : Text → WhitespaceControl → List Token → Type 0 where
  nothing_read : Reads source options [] no_control []
  goes_on : {before : Text} {control : WhitespaceControl} {ps : List Token} → Reads source options before control ps
      → (x : TextAndTag source options before control)
      → Reads source options (before ++ (x.text ++ x.token)) (tag_control x) (ps ++ tokens_of x)

-- The tokens are the whole source, and the last one is a text.
pub record AreTokens (source : Text) (options : Options) (ps : List Token) : Type 0 where
  pub before : Text
  pub control : WhitespaceControl
  pub tokens : List Token
  pub begins : Reads source options before control tokens
  pub text : Text
  pub unescaped : Text
  pub whole : source ≡ before ++ text
  pub is_text : IsText (braces_after control) [] text unescaped
  pub gives : ps ≡ tokens ++ text_token (position before) control text unescaped no_control ∷ []

-- the text that tokens spell
abbrev pub spelled_tokens : List Token → Text
spelled_tokens [] = []
spelled_tokens (text_token p e token unescaped n ∷ ps) = token ++ spelled_tokens ps
spelled_tokens (tag_token p token t e ∷ ps) = token ++ spelled_tokens ps

-- the tokens of a source join to the source
abbrev pub TokensJoin : Type 0
TokensJoin = (source : Text) (options : Options) (ps : List Token) → AreTokens source options ps → spelled_tokens ps ≡ source

-- a source has at most one tokenization
abbrev pub OneTokenization : Type 0
OneTokenization =
    (source : Text) (options : Options) (ps qs : List Token) → AreTokens source options ps → AreTokens source options qs → ps ≡ qs
