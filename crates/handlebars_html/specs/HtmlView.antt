-- How the definitions view the code's states.
use Rattle.handlebars_html.specs.Addresses as addresses
use Rattle.handlebars_html.specs.Tags as tags
use Rattle.handlebars_html.specs.Tokenizer as tokenizer
use Rattle.handlebars_html.specs.Html as html
use Rattle.handlebars_html.specs.declared.address.Value.{Value}
use Rattle.handlebars_html.specs.declared.address.Value.TheVariants as value
use Rattle.handlebars_html.specs.declared.tag.Attributes.{Attributes}
use Rattle.handlebars_html.specs.declared.tag.Attributes.TheVariants as attributes
use Rattle.handlebars_html.specs.declared.tag.Content.{Content}
use Rattle.handlebars_html.specs.declared.tag.Content.TheVariants as content
use Rattle.handlebars_html.specs.declared.tag.Tag.{Tag}
use Rattle.handlebars_html.specs.declared.tokenizer.Tokenizer.{Tokenizer}
use Rattle.handlebars_html.specs.declared.tokenizer.Tokenizer.TheVariants as state
use Rattle.handlebars_html.specs.declared.plain.Plain.{Plain}
use Rattle.handlebars_html.specs.declared.plain.Plain.TheVariants as plain
use Rattle.handlebars_html.specs.declared.html.Context.{Context}
use Rattle.handlebars_html.specs.declared.html.Foreign.{Foreign}
use Rattle.handlebars_html.specs.declared.html.Foreign.TheVariants as foreign
use Rattle.handlebars_html.specs.declared.html.Html.{Html}

abbrev pub value_of : Value → addresses.Value
value_of value.Harmless = addresses.harmless
value_of value.Forbidden = addresses.forbidden
value_of (value.Followed t) = addresses.followed t.items
value_of (value.Loaded t) = addresses.loaded t.items
value_of value.LoadedSlash = addresses.loaded_slash
value_of value.LoadedAuthority = addresses.loaded_authority
value_of value.LoadedHost = addresses.loaded_host

abbrev pub content_view : Content → tags.Content
content_view content.Markup = tags.markup
content_view (content.InnerText safe n) = tags.inner_text safe n.items
content_view content.ScriptText = tags.script_text
content_view content.SvgBegins = tags.svg_begins
content_view content.SvgEnds = tags.svg_ends
content_view content.HtmlInSvg = tags.html_in_svg
content_view content.ForeignMarkup = tags.foreign_markup
content_view content.NoscriptBegins = tags.noscript_begins
content_view content.NoscriptEnds = tags.noscript_ends
content_view content.Plaintext = tags.plaintext

abbrev pub attributes_view : Attributes → tags.Attributes
attributes_view attributes.Common = tags.common
attributes_view attributes.OfActive = tags.of_active
attributes_view attributes.OfShowing = tags.of_showing
attributes_view attributes.OfLoading = tags.of_loading
attributes_view attributes.OfMeta = tags.of_meta
attributes_view attributes.MetaContent = tags.meta_content
attributes_view attributes.MetaPragma = tags.meta_pragma

abbrev pub tag_view : Tag → tags.Tag
tag_view t = record { content = content_view t.content; attributes = attributes_view t.attributes }

-- the states with nothing in them
abbrev pub plain_of : Plain → tokenizer.Tokenizer
plain_of plain.Data = tokenizer.in_data
plain_of plain.TagOpen = tokenizer.tag_open
plain_of plain.EndTagOpen = tokenizer.end_tag_open
plain_of plain.Declaration = tokenizer.declaration
plain_of plain.DeclarationDash = tokenizer.declaration_dash
plain_of plain.Bogus = tokenizer.bogus
plain_of plain.CommentStart = tokenizer.comment_start
plain_of plain.CommentStartDash = tokenizer.comment_start_dash
plain_of plain.Comment = tokenizer.in_comment
plain_of plain.CommentDash = tokenizer.comment_dash
plain_of plain.CommentEnd = tokenizer.comment_end
plain_of plain.CommentBang = tokenizer.comment_bang
plain_of plain.CommentUnclear = tokenizer.comment_unclear
plain_of plain.CommentUnclearDash = tokenizer.comment_unclear_dash
plain_of plain.Script = tokenizer.in_script
plain_of plain.ScriptTagOpen = tokenizer.script_tag_open
plain_of plain.TextEnd = tokenizer.text_end
plain_of plain.Late = tokenizer.late
plain_of plain.Misled = tokenizer.misled
plain_of plain.Stuck = tokenizer.stuck

abbrev pub tokenizer_of : Tokenizer → tokenizer.Tokenizer
tokenizer_of (state.Plain p) = plain_of p
tokenizer_of (state.TagName ends n) = tokenizer.tag_name ends n.items
tokenizer_of (state.BeforeAttribute t) = tokenizer.before_attribute (tag_view t)
tokenizer_of (state.AttributeName t n) = tokenizer.attribute_name (tag_view t) n.items
tokenizer_of (state.AfterAttribute t n) = tokenizer.after_attribute (tag_view t) n.items
tokenizer_of (state.BeforeValue t v) = tokenizer.before_value (tag_view t) (value_of v)
tokenizer_of (state.Quoted double t v) = tokenizer.quoted double (tag_view t) (value_of v)
tokenizer_of (state.InUrl double t) = tokenizer.in_url double (tag_view t)
tokenizer_of (state.Unquoted t) = tokenizer.unquoted (tag_view t)
tokenizer_of (state.InText safe n) = tokenizer.in_text safe n.items
tokenizer_of (state.TextTagOpen safe n) = tokenizer.text_tag_open safe n.items
tokenizer_of (state.TextEndName rest) = tokenizer.text_end_name rest.items
tokenizer_of (state.ScriptEndName rest) = tokenizer.script_end_name rest.items

abbrev pub foreign_of : Foreign → html.Foreign
foreign_of foreign.Outside = html.outside
foreign_of foreign.InSvg = html.in_svg
foreign_of foreign.Anywhere = html.anywhere

abbrev pub context_of : Context → html.Context
context_of c = record { in_noscript = c.in_noscript; foreign = foreign_of c.foreign }

abbrev pub html_with : tokenizer.Tokenizer → html.Context → html.Html
html_with t c = record { tokenizer = t; context = c }

abbrev pub html_of : Html → html.Html
html_of h = html_with (tokenizer_of h.tokenizer) (context_of h.context)
