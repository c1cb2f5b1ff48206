-- Names of elements and of attributes, in lowercase, and what they say of the data within them. A name that is in no table
-- takes no data.
use Rattle.std.specs.Prelude.{Bool, ◌==◌, ◌||◌, List, [], ◌∷◌, codes}
use Rattle.std.specs.List.{starts_with}
use Rattle.handlebars_base.specs.Bytes.{Text}
use Rattle.handlebars_html.specs.Ascii.{is_one_of}

-- ---- elements

-- Their content is text, with character references (HTML 13.2.5.2 RCDATA state), and is shown as text: data may stand in it.
abbrev pub text_elements : List Text
text_elements = codes "title" ∷ codes "textarea" ∷ []

-- Their content is text without character references (HTML 13.2.5.3 RAWTEXT state). A style sheet takes effect, and in the
-- others an entity would be shown as it is spelled. `script` isn't among them: it has states of its own.
abbrev pub raw_text_elements : List Text
raw_text_elements = codes "style" ∷ codes "xmp" ∷ codes "iframe" ∷ codes "noembed" ∷ codes "noframes" ∷ []

-- Within `svg` these have content of HTML (HTML 13.2.6.5, HTML integration points). `title` is one too, and is text here.
abbrev pub integration_points : List Text
integration_points = codes "foreignobject" ∷ codes "desc" ∷ []

-- As within `svg`, a `script` within them may be read as markup (HTML 13.2.6.5, and the insertion mode "in frameset"). Where
-- these end isn't followed.
abbrev pub foreign_elements : List Text
foreign_elements = codes "math" ∷ codes "frameset" ∷ []

-- Their attributes load or run something, or change what other addresses and attributes mean: `base` moves all relative
-- addresses, and an animation of SVG sets an attribute of another element, perhaps its address.
abbrev pub active_elements : List Text
active_elements =
    codes "script" ∷ codes "style" ∷ codes "frame" ∷ codes "object" ∷ codes "embed" ∷ codes "applet" ∷ codes "base" ∷
    codes "param" ∷ codes "set" ∷ codes "animate" ∷ codes "animatetransform" ∷ codes "animatemotion" ∷ codes "use" ∷
    codes "portal" ∷ []

-- What their address leads to becomes a part of the page: a style sheet or a script (HTML 4.2.4), or a page within it (4.8.5).
-- So the template has to write the host.
abbrev pub loading_elements : List Text
loading_elements = codes "link" ∷ codes "iframe" ∷ []

-- What their address leads to is only shown or played (HTML 4.8.2, 4.8.3, 4.8.8, 4.8.9), whatever its scheme.
abbrev pub showing_elements : List Text
showing_elements = codes "img" ∷ codes "source" ∷ codes "video" ∷ codes "audio" ∷ []

-- ---- attributes

-- Any text may stand in them: they name, describe, size or class their element, or hold what a form sends, and no browser
-- runs them or loads something by them.
abbrev pub harmless_attributes : List Text
harmless_attributes =
    codes "abbr" ∷ codes "accept" ∷ codes "accesskey" ∷ codes "align" ∷ codes "alt" ∷ codes "autocomplete" ∷
    codes "autofocus" ∷ codes "bgcolor" ∷ codes "border" ∷ codes "checked" ∷ codes "class" ∷ codes "color" ∷
    codes "cols" ∷ codes "colspan" ∷ codes "coords" ∷ codes "datetime" ∷ codes "dir" ∷ codes "disabled" ∷
    codes "download" ∷ codes "draggable" ∷ codes "enterkeyhint" ∷ codes "for" ∷ codes "form" ∷ codes "headers" ∷
    codes "height" ∷ codes "hidden" ∷ codes "high" ∷ codes "hreflang" ∷ codes "id" ∷ codes "inputmode" ∷
    codes "itemprop" ∷ codes "kind" ∷ codes "label" ∷ codes "lang" ∷ codes "list" ∷ codes "loading" ∷
    codes "low" ∷ codes "max" ∷ codes "maxlength" ∷ codes "media" ∷ codes "min" ∷ codes "minlength" ∷
    codes "multiple" ∷ codes "name" ∷ codes "nonce" ∷ codes "open" ∷ codes "optimum" ∷ codes "pattern" ∷
    codes "placeholder" ∷ codes "readonly" ∷ codes "rel" ∷ codes "required" ∷ codes "reversed" ∷ codes "role" ∷
    codes "rows" ∷ codes "rowspan" ∷ codes "scope" ∷ codes "selected" ∷ codes "size" ∷ codes "span" ∷
    codes "spellcheck" ∷ codes "srclang" ∷ codes "start" ∷ codes "step" ∷ codes "summary" ∷ codes "tabindex" ∷
    codes "title" ∷ codes "translate" ∷ codes "type" ∷ codes "valign" ∷ codes "value" ∷ codes "width" ∷
    codes "wrap" ∷ []

-- attributes of SVG that place and size what is drawn: any text may stand in them too
abbrev pub drawing_attributes : List Text
drawing_attributes =
    codes "cx" ∷ codes "cy" ∷ codes "d" ∷ codes "dx" ∷ codes "dy" ∷ codes "pathlength" ∷ codes "points" ∷
    codes "r" ∷ codes "rx" ∷ codes "ry" ∷ codes "viewbox" ∷ codes "x" ∷ codes "x1" ∷ codes "x2" ∷ codes "y" ∷
    codes "y1" ∷ codes "y2" ∷ []

-- They only identify, describe or style an element, also an active one. A nonce allows a script or a style sheet that the
-- template has written, and makes none.
abbrev pub passive_attributes : List Text
passive_attributes = codes "class" ∷ codes "dir" ∷ codes "id" ∷ codes "lang" ∷ codes "nonce" ∷ codes "title" ∷ []

-- an attribute that a page defines (HTML 3.2.6.6), or one for assistive technology (WAI-ARIA): no browser runs it
abbrev pub is_custom_attribute : Text → Bool
is_custom_attribute n = starts_with ◌==◌ n (codes "data-") || starts_with ◌==◌ n (codes "aria-")

abbrev pub is_harmless_attribute : Text → Bool
is_harmless_attribute n = is_one_of harmless_attributes n || (is_one_of drawing_attributes n || is_custom_attribute n)

abbrev pub is_passive_attribute : Text → Bool
is_passive_attribute n = is_one_of passive_attributes n || is_custom_attribute n

-- They hold an address that is followed or shown. Only its scheme can make a script of it. `srcset` is none: it is a list of
-- addresses, to which a comma in the data would add others.
abbrev pub address_attributes : List Text
address_attributes =
    codes "href" ∷ codes "src" ∷ codes "action" ∷ codes "formaction" ∷ codes "cite" ∷ codes "poster" ∷ codes "background" ∷
    codes "longdesc" ∷ []

-- They hold the address that a showing element shows.
abbrev pub shown_attributes : List Text
shown_attributes = codes "src" ∷ codes "poster" ∷ []

-- They hold the address that a loading element loads.
abbrev pub loaded_attributes : List Text
loaded_attributes = codes "href" ∷ codes "src" ∷ []

-- ---- schemes

-- An address of one of these schemes never runs a script.
abbrev pub followed_schemes : List Text
followed_schemes =
    codes "http" ∷ codes "https" ∷ codes "mailto" ∷ codes "tel" ∷ codes "ftp" ∷ codes "sms" ∷ []

-- An address of one of these schemes loads from the host that it names.
abbrev pub loaded_schemes : List Text
loaded_schemes = codes "http" ∷ codes "https" ∷ []
