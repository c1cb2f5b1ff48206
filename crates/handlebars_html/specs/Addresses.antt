-- The value of an attribute, as far as it is read, and whether data may go on in it.
use Rattle.std.specs.Prelude.{ℕ, Bool, true, false, ◌||◌, ◌==◌, if◌then◌else◌, [], ◌∷◌, ◌++◌}
use Rattle.handlebars_base.specs.Bytes.{Text, slash, colon, ampersand}
use Rattle.handlebars_html.specs.Ascii.{lower, is_blank_or_control, is_any_slash, begins_query, is_one_of}
use Rattle.handlebars_html.specs.Names.{followed_schemes, loaded_schemes}

-- - Any text may follow: in a harmless attribute, or in an address whose template has written what matters of it.
-- - No data may follow.
-- - An address that is followed, with the text of it, which may still become a scheme.
-- - An address that is loaded, with the text of it, which may still become a scheme; after one slash at its beginning; where
--   its host begins, after a scheme or two slashes; and within its host.
pub data Value : Type 0 where
  harmless : Value
  forbidden : Value
  followed : Text → Value
  loaded : Text → Value
  loaded_slash : Value
  loaded_authority : Value
  loaded_host : Value

-- Blanks at the beginning of an address are removed (URL 4.4), and leave it at its beginning.
abbrev pub is_before : Text → ℕ → Bool
is_before [] b = is_blank_or_control b
is_before (c ∷ t) b = false

-- What an address doesn't go on with here: a blank or a control, some of which URL parsers drop, and a character reference,
-- which may stand for any character.
abbrev pub is_unclear : ℕ → Bool
is_unclear b = is_blank_or_control b || (b == ampersand)

-- A slash, a question mark or a number sign ends what could be a scheme. A colon ends a scheme.
abbrev pub step_followed : Text → ℕ → Value
step_followed t b =
    if is_before t b then followed t else (
    if (b == slash) || begins_query b then harmless else (
    if b == colon then (if is_one_of followed_schemes t then harmless else forbidden) else (
    if is_unclear b then forbidden else followed (t ++ lower b ∷ []))))

-- A slash at the beginning may be the first of two, before a host. After another text it ends what could be a scheme, and the
-- address is then relative to that of the page, as is a query or a fragment.
abbrev pub slash_after : Text → Value
slash_after [] = loaded_slash
slash_after (c ∷ t) = harmless

abbrev pub step_loaded : Text → ℕ → Value
step_loaded t b =
    if is_before t b then loaded t else (
    if is_any_slash b then slash_after t else (
    if begins_query b then harmless else (
    if b == colon then (if is_one_of loaded_schemes t then loaded_authority else forbidden) else (
    if is_unclear b then forbidden else loaded (t ++ lower b ∷ [])))))

-- One slash, and then another byte: a path at the host of the page.
abbrev pub step_loaded_slash : ℕ → Value
step_loaded_slash b = if is_any_slash b then loaded_authority else (if is_unclear b then forbidden else harmless)

-- Any number of slashes may stand before the host (URL 4.4, special authority ignore slashes state).
abbrev pub step_loaded_authority : ℕ → Value
step_loaded_authority b =
    if is_any_slash b then loaded_authority else (if is_unclear b || begins_query b then forbidden else loaded_host)

-- A slash, a question mark or a number sign ends the host (URL 4.4, authority state).
abbrev pub step_loaded_host : ℕ → Value
step_loaded_host b =
    if is_any_slash b || begins_query b then harmless else (if is_unclear b then forbidden else loaded_host)

-- one byte more
abbrev pub step_value : Value → ℕ → Value
step_value harmless b = harmless
step_value forbidden b = forbidden
step_value (followed t) b = step_followed t b
step_value (loaded t) b = step_loaded t b
step_value loaded_slash b = step_loaded_slash b
step_value loaded_authority b = step_loaded_authority b
step_value loaded_host b = step_loaded_host b

abbrev pub is_safe_value : Value → Bool
is_safe_value harmless = true
is_safe_value forbidden = false
is_safe_value (followed t) = false
is_safe_value (loaded t) = false
is_safe_value loaded_slash = false
is_safe_value loaded_authority = false
is_safe_value loaded_host = false

-- where an address begins that is followed
abbrev pub begins_address : Value → Bool
begins_address (followed []) = true
begins_address v = false
