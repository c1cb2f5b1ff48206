-- What trimming leaves of a text beside tags.
use Rattle.std.specs.Prelude.{◌≡◌, ℕ, ◌-◌, Bool, true, false, ◌==◌, ◌&&◌, ◌||◌, not, if◌then◌else◌, [], ◌∷◌, ◌++◌, length, take, drop}
use Rattle.std.specs.List.{fold, suffix_len, list_all}
use Rattle.handlebars_base.specs.Bytes.{Text, space, tab, newline, carriage_return, is_white}
use Rattle.handlebars_base.specs.Optional.{◌>>=◌, with_or}
use Rattle.handlebars_base.specs.Texts.{after_byte}
use Rattle.handlebars_lexer.specs.Options.{Options}
use Rattle.handlebars_lexer.specs.Text.{Braces, two_braces, four_braces}
use Rattle.handlebars_lexer.specs.Tag.{Tag, escaped_tag, html_tag, raw_tag, partial_tag, Tildes}
use Rattle.std.specs.Str.{trim_start, trim_end}

-- ---- lines

abbrev pub is_blank : ℕ → Bool
is_blank b = (b == space) || (b == tab)

abbrev pub is_break : ℕ → Bool
is_break b = (b == newline) || (b == carriage_return)

abbrev pub is_fresh_after : Bool → ℕ → Bool
is_fresh_after fresh b = is_break b || (is_blank b && fresh)

-- nothing but spaces and tabs since the last line break, or since the start of the source
abbrev pub is_fresh : Text → Bool
is_fresh before = fold is_fresh_after true before

-- optional spaces and tabs, and a line break
abbrev pub breaks : Text → Bool
breaks [] = false
breaks (b ∷ t) = is_break b || (is_blank b && breaks t)

-- the line ends after a tag: nothing at all follows, or optional spaces and tabs and a line break
abbrev pub is_ended : Text → Bool
is_ended [] = true
is_ended (b ∷ t) = breaks (b ∷ t)

-- ---- the blanks that end a text

-- the length of a text without the spaces and tabs that end it
abbrev pub dark_len : Text → ℕ
dark_len t = length t - suffix_len is_blank t

-- what precedes them
abbrev pub before_blanks : Text → Text
before_blanks t = take (dark_len t) t

abbrev pub last_blanks : Text → Text
last_blanks t = drop (dark_len t) t

-- The blanks joined to what precedes them are the text. They are spaces and tabs, and what precedes them ends with none.
pub record BlanksEnd (t : Text) : Type 0 where
  pub joins : before_blanks t ++ last_blanks t ≡ t
  pub blank : list_all is_blank (last_blanks t) ≡ true
  pub all : last_blanks (before_blanks t) ≡ []

abbrev pub LastBlanks : Type 0
LastBlanks = (t : Text) → BlanksEnd t

-- ---- whitespace control

-- what a tag does to the texts beside it: it may be standalone on its line; it comes directly after these spaces and tabs, if
-- any; it has tildes; the text of a raw block may follow it; and these blanks may be its indentation
pub record WhitespaceControl : Type 0 where
  pub standalone : Bool
  pub blanks : Text
  pub left : Bool
  pub right : Bool
  pub is_raw : Bool
  pub takes_blanks : Bool

-- the whitespace control at the start and at the end of a source
abbrev pub no_control : WhitespaceControl
no_control = record {
  standalone = false;
  blanks = [];
  left = false;
  right = false;
  is_raw = false;
  takes_blanks = false;
}

-- values are never standalone
abbrev pub may_be_standalone : Tag → Bool
may_be_standalone (escaped_tag expression) = false
may_be_standalone (html_tag expression) = false
may_be_standalone t = true

abbrev pub opens_raw : Tag → Bool
opens_raw (raw_tag expression) = true
opens_raw t = false

-- a partial without a block may take the blanks before it as its indentation
abbrev pub takes_blanks : Tag → Bool
takes_blanks (partial_tag expression) = true
takes_blanks t = false

-- The whitespace control of a tag after a line that is fresh or not, and before the rest. If the tag may be standalone, it is
-- so if nothing else is on its line.
abbrev pub control_at : Bool → WhitespaceControl → Text → WhitespaceControl
control_at fresh tag rest = record {
  standalone = tag.standalone && (fresh && is_ended rest);
  blanks = tag.blanks;
  left = tag.left;
  right = tag.right;
  is_raw = tag.is_raw;
  takes_blanks = tag.takes_blanks;
}

-- what a tag after these blanks does, whatever else is on its line
abbrev pub sides_of : Text → Tag → Tildes → WhitespaceControl
sides_of blanks t tildes = record {
  standalone = may_be_standalone t;
  blanks = blanks;
  left = tildes.left;
  right = tildes.right;
  is_raw = opens_raw t;
  takes_blanks = takes_blanks t;
}

-- the whitespace control of a tag after a line that is fresh or not and ends with these blanks, and before the rest
abbrev pub control_with : Bool → Text → Tag → Tildes → Text → WhitespaceControl
control_with fresh blanks t tildes rest = control_at fresh (sides_of blanks t tildes) rest

-- the whitespace control of a tag after a part of the source and a text, and before the rest
abbrev pub control_of : Text → Text → Tag → Tildes → Text → WhitespaceControl
control_of before text t tildes rest = control_with (is_fresh (before ++ text)) (last_blanks text) t tildes rest

-- how many braces end the text after a tag
abbrev pub braces_after : WhitespaceControl → Braces
braces_after e = if e.is_raw then four_braces else two_braces

-- ---- trimming

-- what is left without the spaces and tabs at the start
abbrev pub after_blanks : Text → Text
after_blanks [] = []
after_blanks (b ∷ t) = if is_blank b then after_blanks t else b ∷ t

-- what is left without one `\n` or `\r\n` at the start
abbrev pub after_break : Text → Text
after_break t = with_or (after_byte newline t) (λ r. r) (with_or (after_byte carriage_return t >>= after_byte newline) (λ r. r) t)

-- After a tilde all whitespace in the sense of Unicode is removed. Otherwise, after a standalone tag, spaces and tabs and one
-- line break are removed.
abbrev pub trimmed_start : WhitespaceControl → Text → Text
trimmed_start e t = if e.right then trim_start t else (if e.standalone then after_break (after_blanks t) else t)

-- Before a standalone tag spaces and tabs are removed, unless they would be the indentation of a partial and partials are not
-- indented.
abbrev pub drops_blanks : Bool → WhitespaceControl → Bool
drops_blanks prevent_indent e = e.standalone && not (prevent_indent && e.takes_blanks)

-- Before a tilde all whitespace is removed. Otherwise blanks are removed if `drops_blanks` says so.
abbrev pub trimmed_end : Bool → Text → WhitespaceControl → Text
trimmed_end prevent_indent t e =
    if e.left then trim_end t else (if drops_blanks prevent_indent e then before_blanks t else t)

-- what trimming leaves of a text between two tags; the text is its token without the dropped backslashes
abbrev pub trimmed : Options → WhitespaceControl → Text → WhitespaceControl → Text
trimmed options before t after = trimmed_end options.prevent_indent (trimmed_start before t) after

-- An empty token has no element, nor has a token of whitespace alone after a tilde. The text of a raw block always has one.
abbrev pub has_element : WhitespaceControl → Text → Bool
has_element before token = before.is_raw || not ((length token == 0) || (before.right && list_all is_white token))
