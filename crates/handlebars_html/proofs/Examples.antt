-- Pages of one value between two texts, worked out: those that the rule accepts, and those that it does not.
use Rattle.std.proofs.Common.{◌≡◌, true, false, codes, refl}
use Rattle.handlebars_html.specs.Tokenizer.{next}
use Rattle.handlebars_html.specs.Html.{step}
use Rattle.handlebars_html.specs.Sample.{around_x, IsSafePage}

-- ---- accepted

-- The text of an element.
text_is_safe : IsSafePage (around_x (codes "<p>") (codes "</p>"))
unfolding next step
text_is_safe = (tt, ((refl, refl), (tt, (((refl, refl), (tt, ((refl, refl), tt))), tt, tt))))

-- A harmless attribute, in double quotes.
quoted_value_is_safe : IsSafePage (around_x (codes "<p class=\"a ") (codes "\">"))
unfolding next step
quoted_value_is_safe = (tt, ((refl, refl), (tt, (((refl, refl), (tt, ((refl, refl), tt))), tt, tt))))

-- In single quotes.
single_quotes_is_safe : IsSafePage (around_x (codes "<p title='") (codes "'>"))
unfolding next step
single_quotes_is_safe = (tt, ((refl, refl), (tt, (((refl, refl), (tt, ((refl, refl), tt))), tt, tt))))

-- The text of an element that has no elements in it.
text_area_is_safe : IsSafePage (around_x (codes "<textarea name=t>") (codes "</textarea>"))
unfolding next step
text_area_is_safe = (tt, ((refl, refl), (tt, (((refl, refl), (tt, ((refl, refl), tt))), tt, tt))))

-- The title of a page.
page_title_is_safe : IsSafePage (around_x (codes "<title>") (codes " - shop</title>"))
unfolding next step
page_title_is_safe = (tt, ((refl, refl), (tt, (((refl, refl), (tt, ((refl, refl), tt))), tt, tt))))

-- An address whose template has begun a path.
path_of_link_is_safe : IsSafePage (around_x (codes "<a href=\"/items/") (codes "\">"))
unfolding next step
path_of_link_is_safe = (tt, ((refl, refl), (tt, (((refl, refl), (tt, ((refl, refl), tt))), tt, tt))))

-- An address whose template has begun a query.
query_of_link_is_safe : IsSafePage (around_x (codes "<a href=\"?q=") (codes "\">"))
unfolding next step
query_of_link_is_safe = (tt, ((refl, refl), (tt, (((refl, refl), (tt, ((refl, refl), tt))), tt, tt))))

-- An address whose template has written a scheme that never runs a script.
scheme_of_link_is_safe : IsSafePage (around_x (codes "<a href=\"mailto:") (codes "\">"))
unfolding next step
scheme_of_link_is_safe = (tt, ((refl, refl), (tt, (((refl, refl), (tt, ((refl, refl), tt))), tt, tt))))

-- A blank at the beginning of an address, as an indentation may put there, leaves it at its beginning.
blank_before_link_is_safe : IsSafePage (around_x (codes "<a href=\" /items/") (codes "\">"))
unfolding next step
blank_before_link_is_safe = (tt, ((refl, refl), (tt, (((refl, refl), (tt, ((refl, refl), tt))), tt, tt))))

-- Any address of an image, since what it leads to is only shown.
image_is_safe : IsSafePage (around_x (codes "<img src=\"") (codes "\">"))
unfolding next step
image_is_safe = (tt, ((refl, refl), (tt, (((refl, refl), (tt, ((refl, refl), tt))), tt, tt))))

-- A style sheet of a host that the template has written.
style_sheet_of_host_is_safe : IsSafePage (around_x (codes "<link rel=stylesheet href=\"https://cdn.example/") (codes ".css\">"))
unfolding next step
style_sheet_of_host_is_safe = (tt, ((refl, refl), (tt, (((refl, refl), (tt, ((refl, refl), tt))), tt, tt))))

-- A style sheet at the host of the page: one slash, and then another byte.
style_sheet_of_page_is_safe : IsSafePage (around_x (codes "<link rel=stylesheet href=\"/css/") (codes ".css\">"))
unfolding next step
style_sheet_of_page_is_safe = (tt, ((refl, refl), (tt, (((refl, refl), (tt, ((refl, refl), tt))), tt, tt))))

-- A page within the page, of a host that the template has written.
frame_of_host_is_safe : IsSafePage (around_x (codes "<iframe title=map src=\"https://maps.example/?q=") (codes "\"></iframe>"))
unfolding next step
frame_of_host_is_safe = (tt, ((refl, refl), (tt, (((refl, refl), (tt, ((refl, refl), tt))), tt, tt))))

-- A comment, since data has no `>`.
comment_is_safe : IsSafePage (around_x (codes "<!-- ") (codes " -->"))
unfolding next step
comment_is_safe = (tt, ((refl, refl), (tt, (((refl, refl), (tt, ((refl, refl), tt))), tt, tt))))

-- A comment from its beginning to its end.
comment_at_once_is_safe : IsSafePage (around_x (codes "<!--") (codes "-->"))
unfolding next step
comment_at_once_is_safe = (tt, ((refl, refl), (tt, (((refl, refl), (tt, ((refl, refl), tt))), tt, tt))))

-- A comment with markup.
comment_with_markup_is_safe : IsSafePage (around_x (codes "<!-- <p>") (codes "</p> -->"))
unfolding next step
comment_with_markup_is_safe = (tt, ((refl, refl), (tt, (((refl, refl), (tt, ((refl, refl), tt))), tt, tt))))

-- In `noscript`, as text and as markup.
noscript_text_is_safe : IsSafePage (around_x (codes "<noscript><p>") (codes "</p></noscript>"))
unfolding next step
noscript_text_is_safe = (tt, ((refl, refl), (tt, (((refl, refl), (tt, ((refl, refl), tt))), tt, tt))))

-- In `noscript`, within the value of an attribute.
noscript_image_is_safe : IsSafePage (around_x (codes "<noscript><img src=\"/pixel?") (codes "\"></noscript>"))
unfolding next step
noscript_image_is_safe = (tt, ((refl, refl), (tt, (((refl, refl), (tt, ((refl, refl), tt))), tt, tt))))

-- After a script that compares.
after_script_is_safe : IsSafePage (around_x (codes "<script>if (a<b) c();</script><p>") (codes "</p>"))
unfolding next step
after_script_is_safe = (tt, ((refl, refl), (tt, (((refl, refl), (tt, ((refl, refl), tt))), tt, tt))))

-- After a doctype.
after_doctype_is_safe : IsSafePage (around_x (codes "<!DOCTYPE html><html lang=\"") (codes "\">"))
unfolding next step
after_doctype_is_safe = (tt, ((refl, refl), (tt, (((refl, refl), (tt, ((refl, refl), tt))), tt, tt))))

-- The content of a `meta`.
meta_content_is_safe : IsSafePage (around_x (codes "<meta name=description content=\"") (codes "\">"))
unfolding next step
meta_content_is_safe = (tt, ((refl, refl), (tt, (((refl, refl), (tt, ((refl, refl), tt))), tt, tt))))

-- An attribute that the page defines.
data_attribute_is_safe : IsSafePage (around_x (codes "<li data-id=\"") (codes "\">"))
unfolding next step
data_attribute_is_safe = (tt, ((refl, refl), (tt, (((refl, refl), (tt, ((refl, refl), tt))), tt, tt))))

-- Any address of a video.
video_is_safe : IsSafePage (around_x (codes "<video controls src=\"") (codes "\"></video>"))
unfolding next step
video_is_safe = (tt, ((refl, refl), (tt, (((refl, refl), (tt, ((refl, refl), tt))), tt, tt))))

-- The nonce of a script.
script_nonce_is_safe : IsSafePage (around_x (codes "<script nonce=\"") (codes "\">go();</script>"))
unfolding next step
script_nonce_is_safe = (tt, ((refl, refl), (tt, (((refl, refl), (tt, ((refl, refl), tt))), tt, tt))))

-- Where something is drawn.
drawing_is_safe : IsSafePage (around_x (codes "<svg><circle cx=\"") (codes "\" r=\"3\"/></svg>"))
unfolding next step
drawing_is_safe = (tt, ((refl, refl), (tt, (((refl, refl), (tt, ((refl, refl), tt))), tt, tt))))

-- ---- not accepted

-- A whole address may begin with `javascript:`.
whole_address_is_not_safe : IsSafePage (around_x (codes "<a href=\"") (codes "\">")) → ⊥
unfolding next step
whole_address_is_not_safe h = let is : false ≡ true = h.1.1.1.0.0.1 in cc

-- Nor may it after a blank.
address_after_blank_is_not_safe : IsSafePage (around_x (codes "<a href=\" ") (codes "\">")) → ⊥
unfolding next step
address_after_blank_is_not_safe h = let is : false ≡ true = h.1.1.1.0.0.1 in cc

-- Data may end a scheme.
part_of_scheme_is_not_safe : IsSafePage (around_x (codes "<a href=\"java") (codes "\">")) → ⊥
unfolding next step
part_of_scheme_is_not_safe h = let is : false ≡ true = h.1.1.1.0.0.1 in cc

-- The scheme runs what follows.
scheme_of_script_is_not_safe : IsSafePage (around_x (codes "<a href=\"javascript:f(") (codes ")\">")) → ⊥
unfolding next step
scheme_of_script_is_not_safe h = let is : false ≡ true = h.1.1.1.0.0.1 in cc

-- A script.
script_is_not_safe : IsSafePage (around_x (codes "<script>var x = \"") (codes "\";</script>")) → ⊥
unfolding next step
script_is_not_safe h = let is : false ≡ true = h.1.1.1.0.0.1 in cc

-- A style sheet.
style_sheet_is_not_safe : IsSafePage (around_x (codes "<style>p { color: ") (codes " }</style>")) → ⊥
unfolding next step
style_sheet_is_not_safe h = let is : false ≡ true = h.1.1.1.0.0.1 in cc

-- A style of an element.
style_attribute_is_not_safe : IsSafePage (around_x (codes "<p style=\"color: ") (codes "\">")) → ⊥
unfolding next step
style_attribute_is_not_safe h = let is : false ≡ true = h.1.1.1.0.0.1 in cc

-- A script of an element.
event_handler_is_not_safe : IsSafePage (around_x (codes "<p onclick=\"f(") (codes ")\">")) → ⊥
unfolding next step
event_handler_is_not_safe h = let is : false ≡ true = h.1.1.1.0.0.1 in cc

-- A value without quotes ends at a blank.
unquoted_is_not_safe : IsSafePage (around_x (codes "<p class=") (codes ">")) → ⊥
unfolding next step
unquoted_is_not_safe h = let is : false ≡ true = h.1.1.1.0.0.1 in cc

-- The name of an attribute.
attribute_name_is_not_safe : IsSafePage (around_x (codes "<p ") (codes ">")) → ⊥
unfolding next step
attribute_name_is_not_safe h = let is : false ≡ true = h.1.1.1.0.0.1 in cc

-- The name of an element.
tag_name_is_not_safe : IsSafePage (around_x (codes "<") (codes ">")) → ⊥
unfolding next step
tag_name_is_not_safe h = let is : false ≡ true = h.1.1.1.0.0.1 in cc

-- A list of addresses.
image_list_is_not_safe : IsSafePage (around_x (codes "<img srcset=\"") (codes "\">")) → ⊥
unfolding next step
image_list_is_not_safe h = let is : false ≡ true = h.1.1.1.0.0.1 in cc

-- A style sheet whose host isn't written.
style_sheet_of_any_host_is_not_safe : IsSafePage (around_x (codes "<link rel=stylesheet href=\"https://") (codes "/a.css\">")) → ⊥
unfolding next step
style_sheet_of_any_host_is_not_safe h = let is : false ≡ true = h.1.1.1.0.0.1 in cc

-- After one slash data may write a second one, and then a host.
style_sheet_of_two_slashes_is_not_safe : IsSafePage (around_x (codes "<link rel=stylesheet href=\"/") (codes "\">")) → ⊥
unfolding next step
style_sheet_of_two_slashes_is_not_safe h = let is : false ≡ true = h.1.1.1.0.0.1 in cc

-- The end of a host.
end_of_host_is_not_safe : IsSafePage (around_x (codes "<link rel=stylesheet href=\"https://cdn.") (codes "/a.css\">")) → ⊥
unfolding next step
end_of_host_is_not_safe h = let is : false ≡ true = h.1.1.1.0.0.1 in cc

-- What a link loads as.
link_relation_is_not_safe : IsSafePage (around_x (codes "<link href=\"/a\" rel=\"") (codes "\">")) → ⊥
unfolding next step
link_relation_is_not_safe h = let is : false ≡ true = h.1.1.1.0.0.1 in cc

-- The address of a script, whatever the template has begun.
script_source_is_not_safe : IsSafePage (around_x (codes "<script src=\"/js/") (codes ".js\"></script>")) → ⊥
unfolding next step
script_source_is_not_safe h = let is : false ≡ true = h.1.1.1.0.0.1 in cc

-- The address to which others are relative.
base_address_is_not_safe : IsSafePage (around_x (codes "<base href=\"/") (codes "\">")) → ⊥
unfolding next step
base_address_is_not_safe h = let is : false ≡ true = h.1.1.1.0.0.1 in cc

-- The content of a `meta` that stands for a header.
page_header_is_not_safe : IsSafePage (around_x (codes "<meta http-equiv=refresh content=\"") (codes "\">")) → ⊥
unfolding next step
page_header_is_not_safe h = let is : false ≡ true = h.1.1.1.0.0.1 in cc

-- The content of a `meta` that turns out to stand for a header.
late_header_is_not_safe : IsSafePage (around_x (codes "<meta content=\"") (codes "\" http-equiv=refresh>")) → ⊥
unfolding next step
late_header_is_not_safe h = let is : true ≡ false = h.1.1.1.0.1.1.0.1 in cc

-- The text of a page within the page.
frame_source_text_is_not_safe : IsSafePage (around_x (codes "<iframe srcdoc=\"") (codes "\"></iframe>")) → ⊥
unfolding next step
frame_source_text_is_not_safe h = let is : false ≡ true = h.1.1.1.0.0.1 in cc

-- In `noscript` a quote of the markup is none of the text.
noscript_attribute_is_not_safe : IsSafePage (around_x (codes "<noscript><p title=\"</noscript>") (codes "\">")) → ⊥
unfolding next step
noscript_attribute_is_not_safe h = let is : false ≡ true = h.1.1.1.0.0.1 in cc

-- After `plaintext` nothing more is said.
after_plaintext_is_not_safe : IsSafePage (around_x (codes "<plaintext><p>") (codes "</p>")) → ⊥
unfolding next step
after_plaintext_is_not_safe h = let is : false ≡ true = h.1.1.1.0.0.1 in cc

-- Nor after `<![`.
declaration_is_not_safe : IsSafePage (around_x (codes "<![CDATA[") (codes "]]>")) → ⊥
unfolding next step
declaration_is_not_safe h = let is : false ≡ true = h.1.1.1.0.0.1 in cc
