-- What a tag says of what follows it, and of the data in its attributes.
use Rattle.std.specs.Prelude.{Bool, true, false, if◌then◌else◌, [], codes}
use Rattle.std.specs.Str.{bytes_eq}
use Rattle.handlebars_base.specs.Bytes.{Text}
use Rattle.handlebars_html.specs.Ascii.{is_one_of}
use Rattle.handlebars_html.specs.Names.{text_elements, raw_text_elements, integration_points, foreign_elements, active_elements, loading_elements, showing_elements, is_harmless_attribute, is_passive_attribute, address_attributes, shown_attributes, loaded_attributes}
use Rattle.handlebars_html.specs.Addresses.{Value, harmless, forbidden, followed, loaded}

-- What follows the `>` of a tag: markup; the text of the element of this name, in which data may stand or may not; a script;
-- the content of `svg`, or what follows that, or HTML within it; markup in which a script may be read as markup; the content
-- of `noscript`, or what follows that; or text to the end of the document (HTML 13.2.5.5 PLAINTEXT state).
pub data Content : Type 0 where
  markup : Content
  inner_text : Bool → Text → Content
  script_text : Content
  svg_begins : Content
  svg_ends : Content
  html_in_svg : Content
  foreign_markup : Content
  noscript_begins : Content
  noscript_ends : Content
  plaintext : Content

-- Which attributes of a tag may hold data:
-- - those of most elements;
-- - those of an active element, of which next to none may;
-- - those of an element that shows what its address leads to, which may be any address;
-- - those of an element that loads;
-- - those of `meta`: `content`, if `http-equiv` isn't beside it, which makes it a header of the page (HTML 4.2.5.3); and then
--   with `content` written, or with `http-equiv`.
pub data Attributes : Type 0 where
  common : Attributes
  of_active : Attributes
  of_showing : Attributes
  of_loading : Attributes
  of_meta : Attributes
  meta_content : Attributes
  meta_pragma : Attributes

pub record Tag : Type 0 where
  pub content : Content
  pub attributes : Attributes

-- ---- by the name of the element

abbrev pub content_of : Text → Content
content_of n =
    if is_one_of text_elements n then inner_text true n else (
    if is_one_of raw_text_elements n then inner_text false n else (
    if bytes_eq (codes "script") n then script_text else (
    if bytes_eq (codes "svg") n then svg_begins else (
    if is_one_of integration_points n then html_in_svg else (
    if is_one_of foreign_elements n then foreign_markup else (
    if bytes_eq (codes "noscript") n then noscript_begins else (
    if bytes_eq (codes "plaintext") n then plaintext else markup)))))))

abbrev pub attributes_of : Text → Attributes
attributes_of n =
    if is_one_of active_elements n then of_active else (
    if is_one_of loading_elements n then of_loading else (
    if is_one_of showing_elements n then of_showing else (
    if bytes_eq (codes "meta") n then of_meta else common)))

abbrev pub end_content_of : Text → Content
end_content_of n =
    if bytes_eq (codes "noscript") n then noscript_ends else (if bytes_eq (codes "svg") n then svg_ends else markup)

-- an end tag, whose attributes are ignored, or a start tag
abbrev pub tag_of : Bool → Text → Tag
tag_of true n = record { content = end_content_of n; attributes = of_active }
tag_of false n = record { content = content_of n; attributes = attributes_of n }

-- ---- by the name of the attribute

abbrev pub common_value : Text → Value
common_value n =
    if is_harmless_attribute n then harmless else (if is_one_of address_attributes n then followed [] else forbidden)

abbrev pub active_value : Text → Value
active_value n = if is_passive_attribute n then harmless else forbidden

abbrev pub showing_value : Text → Value
showing_value n = if is_one_of shown_attributes n then harmless else common_value n

-- `rel` says what is loaded.
abbrev pub loading_value : Text → Value
loading_value n =
    if is_one_of loaded_attributes n then loaded [] else (
    if bytes_eq (codes "rel") n then forbidden else (if is_harmless_attribute n then harmless else forbidden))

abbrev pub meta_value : Text → Value
meta_value n = if bytes_eq (codes "content") n then harmless else forbidden

-- the value of an attribute of this name, before its first byte
abbrev pub first_value : Attributes → Text → Value
first_value common n = common_value n
first_value of_active n = active_value n
first_value of_showing n = showing_value n
first_value of_loading n = loading_value n
first_value of_meta n = meta_value n
first_value meta_content n = meta_value n
first_value meta_pragma n = forbidden

-- which attributes may hold data beside one of this name
abbrev pub beside_meta : Text → Attributes
beside_meta n =
    if bytes_eq (codes "content") n then meta_content else (
    if bytes_eq (codes "http-equiv") n then meta_pragma else of_meta)

abbrev pub beside : Attributes → Text → Attributes
beside common n = common
beside of_active n = of_active
beside of_showing n = of_showing
beside of_loading n = of_loading
beside of_meta n = beside_meta n
beside meta_content n = meta_content
beside meta_pragma n = meta_pragma

-- An attribute of this name would change what one before it means: `http-equiv` after `content`.
abbrev pub is_late : Attributes → Text → Bool
is_late common n = false
is_late of_active n = false
is_late of_showing n = false
is_late of_loading n = false
is_late of_meta n = false
is_late meta_content n = bytes_eq (codes "http-equiv") n
is_late meta_pragma n = false
