-- How HTML is read, byte by byte, from the beginning of a document.
use Rattle.std.specs.Prelude.{ℕ, Bool, true, false, not, ◌&&◌, ◌||◌, ◌==◌, if◌then◌else◌, [], ◌∷◌, Option, None, Some, codes}
use Rattle.handlebars_base.specs.Bytes.{Text, tab, space, less_than_sign, greater_than_sign}
use Rattle.handlebars_html.specs.Tags.{Content, markup, inner_text, script_text, svg_begins, svg_ends, html_in_svg, foreign_markup, noscript_begins, noscript_ends, plaintext, Tag}
use Rattle.handlebars_html.specs.Tokenizer.{Tokenizer, in_data, tag_open, in_text, text_tag_open, in_script, comment_unclear, late, misled, stuck, open_tag, next, is_comment, is_safe_tokenizer, begins_url, after_address}

-- Where a script may be read as markup: nowhere; within `svg`, which ends with the next `</svg>`, since all within it are
-- elements of SVG (HTML 13.2.6.5, any other end tag); or from here on, after an `svg` within another one or with HTML in it, and
-- after `math` or `frameset`.
pub data Foreign : Type 0 where
  outside : Foreign
  in_svg : Foreign
  anywhere : Foreign

-- Whether the tokenizer is within `noscript`, and whether a script may be read as markup there.
pub record Context : Type 0 where
  pub in_noscript : Bool
  pub foreign : Foreign

-- The state of a tokenizer, with its context. Where scripts run, the content of `noscript` is text up to `</noscript` (HTML
-- 13.2.6.4.4 and 13.2.6.4.7, a start tag whose tag name is "noscript"); where none do, it is markup. The state is that of the
-- markup, and is one in which the text isn't left earlier or later than the markup.
pub record Html : Type 0 where
  pub tokenizer : Tokenizer
  pub context : Context

abbrev pub beginning : Html
beginning = record { tokenizer = in_data; context = record { in_noscript = false; foreign = outside } }

-- ---- `>` and `<`

abbrev pub begin_svg : Foreign → Foreign
begin_svg outside = in_svg
begin_svg in_svg = anywhere
begin_svg anywhere = anywhere

abbrev pub end_svg : Foreign → Foreign
end_svg outside = outside
end_svg in_svg = outside
end_svg anywhere = anywhere

-- at HTML within `svg`
abbrev pub begin_html : Foreign → Foreign
begin_html outside = outside
begin_html in_svg = anywhere
begin_html anywhere = anywhere

abbrev pub is_foreign : Foreign → Bool
is_foreign outside = false
is_foreign in_svg = true
is_foreign anywhere = true

-- A script is read by its own states, or as text that may be read as markup.
abbrev pub script_in : Context → Tokenizer
script_in c = if c.in_noscript || is_foreign c.foreign then in_text false (codes "script") else in_script

-- after the `>` of a tag, by what it says of what follows
abbrev pub enter : Content → Context → Html
enter markup c = record { tokenizer = in_data; context = c }
enter (inner_text safe n) c = record { tokenizer = in_text safe n; context = c }
enter script_text c = record { tokenizer = script_in c; context = c }
enter svg_begins c = record { tokenizer = in_data; context = record c { foreign = begin_svg c.foreign } }
enter svg_ends c = record { tokenizer = in_data; context = record c { foreign = end_svg c.foreign } }
enter html_in_svg c = record { tokenizer = in_data; context = record c { foreign = begin_html c.foreign } }
enter foreign_markup c = record { tokenizer = in_data; context = record c { foreign = anywhere } }
enter noscript_begins c =
    record { tokenizer = if c.in_noscript then stuck else in_data; context = record c { in_noscript = true } }
enter noscript_ends c = record { tokenizer = in_data; context = record c { in_noscript = false } }
enter plaintext c = record { tokenizer = stuck; context = c }

abbrev pub end_tag : Html → Option Tag → Html
end_tag h None = record h { tokenizer = next h.tokenizer greater_than_sign }
end_tag h (Some tag) = enter tag.content h.context

-- A `<` begins a tag here, or it begins the end tag of an element of text, whose name isn't `noscript`; or nothing more is
-- said. Anywhere else the text of a `noscript` could end at it, and the markup goes on.
abbrev pub begins_tag : Tokenizer → Bool
begins_tag in_data = true
begins_tag tag_open = true
begins_tag (in_text safe n) = true
begins_tag (text_tag_open safe n) = true
begins_tag late = true
begins_tag misled = true
begins_tag t = false

abbrev pub begin_tag : Html → Html
begin_tag h =
    record h { tokenizer = if h.context.in_noscript && not (begins_tag h.tokenizer) then stuck else next h.tokenizer less_than_sign }

-- ---- texts

-- the state after a byte
unfoldable pub step : Html → ℕ → Html
step h b =
    if b == greater_than_sign then end_tag h (open_tag h.tokenizer) else (
    if b == less_than_sign then begin_tag h else record h { tokenizer = next h.tokenizer b })

-- the state after a text
abbrev pub after : Html → Text → Html
after h [] = h
after h (b ∷ t) = after (step h b) t

-- ---- data

abbrev pub is_safe : Html → Bool
is_safe h = is_safe_tokenizer h.tokenizer

-- What is known of the state after data: in a comment the data may have ended with dashes; elsewhere the state is as before.
abbrev pub after_data : Html → Html
after_data h = record h { tokenizer = if is_comment h.tokenizer then comment_unclear else h.tokenizer }

-- An address that runs no script may also stand where one begins that is followed.
abbrev pub may_hold_url : Html → Bool
may_hold_url h = is_safe h || begins_url h.tokenizer

-- What is known of the state after it: there it is a whole address.
abbrev pub after_url : Html → Html
after_url h = if begins_url h.tokenizer then record h { tokenizer = after_address h.tokenizer } else after_data h

-- Data that is escaped has none of the bytes that escaping replaces (`Escape` of the base crate), but for `&`. Of those no
-- state in which data may stand is left by an `&`.
unfoldable pub is_unmarked : ℕ → Bool
is_unmarked b = if b == 60 then false else (if b == 62 then false else (if b == 34 then false else (
    if b == 39 then false else (if b == 96 then false else (if b == 61 then false else true)))))

-- what an indentation consists of
unfoldable pub is_blank : ℕ → Bool
is_blank b = (b == space) || (b == tab)
