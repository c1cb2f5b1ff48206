-- Whether two states are one.
use Rattle.std.specs.Prelude.{◌≡◌, ◌↔◌, Bool, true, false, ◌&&◌}
use Rattle.std.specs.Str.{bytes_eq}
use Rattle.handlebars_html.specs.Addresses.{Value, harmless, forbidden, followed, loaded, loaded_slash, loaded_authority, loaded_host}
use Rattle.handlebars_html.specs.Tags.{Content, markup, inner_text, script_text, svg_begins, svg_ends, html_in_svg, foreign_markup, noscript_begins, noscript_ends, plaintext, Attributes, common, of_active, of_showing, of_loading, of_meta, meta_content, meta_pragma, Tag}
use Rattle.handlebars_html.specs.Tokenizer.{Tokenizer, in_data, tag_open, end_tag_open, tag_name, before_attribute, attribute_name, after_attribute, before_value, quoted, in_url, unquoted, declaration, declaration_dash, bogus, comment_start, comment_start_dash, in_comment, comment_dash, comment_end, comment_bang, comment_unclear, comment_unclear_dash, in_text, text_tag_open, text_end_name, in_script, script_tag_open, script_end_name, text_end, late, misled, stuck}
use Rattle.handlebars_html.specs.Html.{Foreign, outside, in_svg, anywhere, Context, Html}

abbrev pub is_same_bool : Bool → Bool → Bool
is_same_bool true true = true
is_same_bool false false = true
is_same_bool x y = false

abbrev pub is_same_content : Content → Content → Bool
is_same_content markup markup = true
is_same_content (inner_text x n) (inner_text y m) = is_same_bool x y && bytes_eq n m
is_same_content script_text script_text = true
is_same_content svg_begins svg_begins = true
is_same_content svg_ends svg_ends = true
is_same_content html_in_svg html_in_svg = true
is_same_content foreign_markup foreign_markup = true
is_same_content noscript_begins noscript_begins = true
is_same_content noscript_ends noscript_ends = true
is_same_content plaintext plaintext = true
is_same_content x y = false

abbrev pub is_same_attributes : Attributes → Attributes → Bool
is_same_attributes common common = true
is_same_attributes of_active of_active = true
is_same_attributes of_showing of_showing = true
is_same_attributes of_loading of_loading = true
is_same_attributes of_meta of_meta = true
is_same_attributes meta_content meta_content = true
is_same_attributes meta_pragma meta_pragma = true
is_same_attributes x y = false

abbrev pub is_same_tag : Tag → Tag → Bool
is_same_tag x y = is_same_content x.content y.content && is_same_attributes x.attributes y.attributes

abbrev pub is_same_value : Value → Value → Bool
is_same_value harmless harmless = true
is_same_value forbidden forbidden = true
is_same_value (followed s) (followed t) = bytes_eq s t
is_same_value (loaded s) (loaded t) = bytes_eq s t
is_same_value loaded_slash loaded_slash = true
is_same_value loaded_authority loaded_authority = true
is_same_value loaded_host loaded_host = true
is_same_value x y = false

unfoldable pub is_same_tokenizer : Tokenizer → Tokenizer → Bool
is_same_tokenizer in_data in_data = true
is_same_tokenizer tag_open tag_open = true
is_same_tokenizer end_tag_open end_tag_open = true
is_same_tokenizer (tag_name x n) (tag_name y m) = is_same_bool x y && bytes_eq n m
is_same_tokenizer (before_attribute s) (before_attribute t) = is_same_tag s t
is_same_tokenizer (attribute_name s n) (attribute_name t m) = is_same_tag s t && bytes_eq n m
is_same_tokenizer (after_attribute s n) (after_attribute t m) = is_same_tag s t && bytes_eq n m
is_same_tokenizer (before_value s v) (before_value t w) = is_same_tag s t && is_same_value v w
is_same_tokenizer (quoted x s v) (quoted y t w) = is_same_bool x y && (is_same_tag s t && is_same_value v w)
is_same_tokenizer (in_url x s) (in_url y t) = is_same_bool x y && is_same_tag s t
is_same_tokenizer (unquoted s) (unquoted t) = is_same_tag s t
is_same_tokenizer declaration declaration = true
is_same_tokenizer declaration_dash declaration_dash = true
is_same_tokenizer bogus bogus = true
is_same_tokenizer comment_start comment_start = true
is_same_tokenizer comment_start_dash comment_start_dash = true
is_same_tokenizer in_comment in_comment = true
is_same_tokenizer comment_dash comment_dash = true
is_same_tokenizer comment_end comment_end = true
is_same_tokenizer comment_bang comment_bang = true
is_same_tokenizer comment_unclear comment_unclear = true
is_same_tokenizer comment_unclear_dash comment_unclear_dash = true
is_same_tokenizer (in_text x n) (in_text y m) = is_same_bool x y && bytes_eq n m
is_same_tokenizer (text_tag_open x n) (text_tag_open y m) = is_same_bool x y && bytes_eq n m
is_same_tokenizer (text_end_name n) (text_end_name m) = bytes_eq n m
is_same_tokenizer in_script in_script = true
is_same_tokenizer script_tag_open script_tag_open = true
is_same_tokenizer (script_end_name n) (script_end_name m) = bytes_eq n m
is_same_tokenizer text_end text_end = true
is_same_tokenizer late late = true
is_same_tokenizer misled misled = true
is_same_tokenizer stuck stuck = true
is_same_tokenizer x y = false

abbrev pub is_same_foreign : Foreign → Foreign → Bool
is_same_foreign outside outside = true
is_same_foreign in_svg in_svg = true
is_same_foreign anywhere anywhere = true
is_same_foreign x y = false

abbrev pub is_same_context : Context → Context → Bool
is_same_context x y = is_same_bool x.in_noscript y.in_noscript && is_same_foreign x.foreign y.foreign

abbrev pub is_same : Html → Html → Bool
is_same h g = is_same_context h.context g.context && is_same_tokenizer h.tokenizer g.tokenizer

-- The test decides whether two states are one.
abbrev pub DecidesSame : Type 0
DecidesSame = (h g : Html) → (is_same h g ≡ true) ↔ (h ≡ g)
