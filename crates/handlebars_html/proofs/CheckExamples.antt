-- Templates that the check accepts, and others with what breaks the rule in them.
use Rattle.std.proofs.Common.{◌≡◌, ℕ, Bool, true, false, List, [], ◌∷◌, ◌++◌, map, refl, None, Some, codes}
use Rattle.std.specs.List.{list_all, list_any}
use Rattle.serde_json.specs.Data.{string}
use Rattle.handlebars_base.specs.Bytes.{Text}
use Rattle.handlebars_template.specs.Tree.{Tree, tree, elements_of, Element, raw_string, html_expression, escaped_expression, helper_block, decorator_block, partial_expression, partial_block, comment, call, decorator, args, no_arguments, Param, name, literal, subexpression, no_params, param, no_hash, no_binding, bodies, Body, no_body, body, CallMarks, DecoratorMarks}
use Rattle.handlebars_helpers.specs.Escaping.{for_html}
use Rattle.handlebars_helpers.specs.SafeUrl.{is_safe_url}
use Rattle.handlebars_html.specs.Addresses.{forbidden, followed}
use Rattle.handlebars_html.specs.Tags.{Tag, markup, common}
use Rattle.handlebars_html.specs.Tokenizer.{Tokenizer, tag_name, before_attribute, attribute_name, quoted, in_url, in_script, next}
use Rattle.handlebars_html.specs.Html.{Html, beginning, step, is_blank}
use Rattle.handlebars_html.specs.Same.{is_same_tokenizer}
use Rattle.handlebars_html.specs.Sample.{x_value}
use Rattle.handlebars_html.specs.Faults.{Why, unsafe_value, unread_value, unescaped_value, changed_text, late_attribute, changed_address, changed_by_iteration, changed_by_block, captured_text_in, made_inclusion, made_block, other_indent, expression_bodies, Fault}
use Rattle.handlebars_html.specs.Registry.{gives_urls, UserDefined}
use Rattle.handlebars_html.specs.Search.{source, accepts, searched, faults_after}

-- ---- templates

-- a template of one line, of elements with their columns
abbrev line : List (ℕ × Element) → Tree
line es = tree None (elements_of (map (λ e. e.1) es)) (map (λ e. record { line = 1; column = e.0 }) es)

abbrev block_marks : CallMarks
block_marks = record { block = true; chain = false; indent_before_write = false }

-- a block of this name, with the parameter `x`
abbrev block : Text → Body → Body → Element
block n b i =
    helper_block (call (name n) (args (param (name (codes "x")) no_params) no_hash) no_binding (bodies b i) block_marks)

-- `{{#if x}}..{{/if}}`, around one text, which begins in this column
abbrev if_text : ℕ → Text → Element
if_text column t = block (codes "if") (body (line ((column, raw_string t) ∷ []))) no_body

-- `{{{x}}}`
abbrev x_html : Element
x_html =
    html_expression (call (name (codes "x")) no_arguments no_binding (bodies no_body no_body)
    record { block = false; chain = false; indent_before_write = false })

abbrev no_indent : DecoratorMarks
no_indent = record { indent = None; indent_before_write = false }

-- `{{> n}}`
abbrev include : Text → Element
include n = partial_expression (decorator (name n) no_arguments no_body no_indent)

-- `{{#> n}}..{{/n}}`
abbrev include_block : Text → Tree → Element
include_block n t = partial_block (decorator (name n) no_arguments (body t) no_indent)

-- `{{#*inline "n"}}..{{/inline}}`
abbrev inline : Text → Tree → Element
inline n t = decorator_block (decorator (name (codes "inline")) (args (param (literal (string n)) no_params) no_hash) (body t) no_indent)

abbrev captured_text : Element
captured_text = include (codes "@partial-block")

-- ---- what the check says

-- nothing is user-defined
abbrev first_parts : UserDefined
first_parts = record { escape = for_html; helpers = []; decorators = [] }

-- The rows that so many rounds find are accepted.
abbrev is_accepted : ℕ → List (Text × Tree) → Tree → Bool
is_accepted n templates t = accepts first_parts templates (source t) (searched first_parts templates (source t) n)

abbrev faults : ℕ → List (Text × Tree) → Tree → List Fault
faults n templates t = faults_after first_parts templates (source t) n

-- a fault of the template itself, in this column; and one of the template of this name
abbrev fault : ℕ → Why → Fault
fault column w = record { template = None; line = Some 1; column = Some column; why = w }

abbrev fault_in : Text → ℕ → Why → Fault
fault_in n column w = record { template = Some n; line = Some 1; column = Some column; why = w }

abbrev html : Tokenizer → Html
html t = record { tokenizer = t; context = beginning.context }

-- a start tag in whose attributes nothing is special
abbrev common_tag : Tag
common_tag = record { content = markup; attributes = common }

-- ---- accepted

-- `<p class="a {{x}}">{{x}}</p>`
text_and_class : is_accepted 0 []
    (line ((1, raw_string (codes "<p class=\"a ")) ∷ (13, x_value) ∷ (18, raw_string (codes "\">")) ∷ (20, x_value) ∷
    (25, raw_string (codes "</p>")) ∷ [])) ≡ true
unfolding next step is_same_tokenizer
text_and_class = refl

-- `<a href="/items/{{x}}">`
part_of_address : is_accepted 0 []
    (line ((1, raw_string (codes "<a href=\"/items/")) ∷ (17, x_value) ∷ (22, raw_string (codes "\">")) ∷ [])) ≡ true
unfolding next step is_same_tokenizer
part_of_address = refl

-- `<option {{#if x}}selected{{/if}}>{{x}}</option>`: two ways, which go on in two states.
two_ways : is_accepted 0 []
    (line ((1, raw_string (codes "<option ")) ∷ (9, if_text 18 (codes "selected")) ∷ (33, raw_string (codes ">")) ∷ (34, x_value) ∷
    (39, raw_string (codes "</option>")) ∷ [])) ≡ true
unfolding next step is_same_tokenizer
two_ways = refl

-- `<p {{#if x}} a{{/if}}{{#if x}} b{{/if}}..>{{x}}`, six times: the ways go on in seven states, and not in 64.
ways_after_ways : is_accepted 0 []
    (line ((1, raw_string (codes "<p ")) ∷ (4, if_text 13 (codes " a")) ∷ (22, if_text 31 (codes " b")) ∷
    (40, if_text 49 (codes " c")) ∷ (58, if_text 67 (codes " d")) ∷ (76, if_text 85 (codes " e")) ∷
    (94, if_text 103 (codes " f")) ∷ (112, raw_string (codes ">")) ∷ (113, x_value) ∷ [])) ≡ true
unfolding next step is_same_tokenizer
ways_after_ways = refl

-- `<a href="{{#if x}}/a{{else}}/b{{/if}}">{{x}}`
address_on_two_ways : is_accepted 0 []
    (line ((1, raw_string (codes "<a href=\"")) ∷
    (10, block (codes "if") (body (line ((19, raw_string (codes "/a")) ∷ []))) (body (line ((29, raw_string (codes "/b")) ∷ [])))) ∷
    (38, raw_string (codes "\">")) ∷ (40, x_value) ∷ [])) ≡ true
unfolding next step is_same_tokenizer
address_on_two_ways = refl

-- `<ul>{{#each x}}<li class="{{x}}">{{x}}{{else}}<li>-{{/each}}</ul>`
in_iterations : is_accepted 0 []
    (line ((1, raw_string (codes "<ul>")) ∷ (
      5,
      block (codes "each")
          (body (line ((16, raw_string (codes "<li class=\"")) ∷ (27, x_value) ∷ (32, raw_string (codes "\">")) ∷ (34, x_value) ∷ [])))
          (body (line ((47, raw_string (codes "<li>-")) ∷ []))),
    ) ∷
    (61, raw_string (codes "</ul>")) ∷ [])) ≡ true
unfolding next step is_same_tokenizer
in_iterations = refl

-- `<p title="{{#len x}}{{/len}}">`: the block writes a value.
value_of_block : is_accepted 0 []
    (line ((1, raw_string (codes "<p title=\"")) ∷ (11, block (codes "len") no_body no_body) ∷ (29, raw_string (codes "\">")) ∷ [])) ≡ true
unfolding next step is_same_tokenizer
value_of_block = refl

-- `<script>{{#log x}}{{/log}}</script>`: the block writes nothing.
log_in_script : is_accepted 0 []
    (line ((1, raw_string (codes "<script>")) ∷ (9, block (codes "log") no_body no_body) ∷ (27, raw_string (codes "</script>")) ∷ []))
    ≡ true
unfolding next step is_same_tokenizer
log_in_script = refl

-- `<p {{! x }}title="{{x}}">`: a comment of the template writes nothing.
template_comment : is_accepted 0 []
    (line ((1, raw_string (codes "<p ")) ∷ (4, comment (codes " x ")) ∷ (12, raw_string (codes "title=\"")) ∷ (19, x_value) ∷
    (24, raw_string (codes "\">")) ∷ [])) ≡ true
unfolding next step is_same_tokenizer
template_comment = refl

-- `<p{{> badge}}>{{x}}`, with ` class="{{x}}"` under the name: the partial begins and ends in the tag.
badge : Tree
badge = line ((1, raw_string (codes " class=\"")) ∷ (9, x_value) ∷ (14, raw_string (codes "\"")) ∷ [])

partial_in_tag : is_accepted 2 ((codes "badge", badge) ∷ [])
    (line ((1, raw_string (codes "<p")) ∷ (3, include (codes "badge")) ∷ (14, raw_string (codes ">")) ∷ (15, x_value) ∷ [])) ≡ true
unfolding badge next step is_same_tokenizer
partial_in_tag = refl

-- `{{> tag}}>{{x}}`, with `<p {{#if x}}a{{/if}}` under the name: the partial ends in two states.
tag_partial : Tree
tag_partial = line ((1, raw_string (codes "<p ")) ∷ (4, if_text 13 (codes "a")) ∷ [])

partial_with_two_ends : is_accepted 2 ((codes "tag", tag_partial) ∷ [])
    (line ((1, include (codes "tag")) ∷ (10, raw_string (codes ">")) ∷ (11, x_value) ∷ [])) ≡ true
unfolding tag_partial next step is_same_tokenizer
partial_with_two_ends = refl

-- `{{#> page}}{{#*inline "title"}}{{x}}{{/inline}}<p>{{x}}{{/page}}`, with
-- `<title>{{> title}}</title>{{> @partial-block}}` under the name: a layout.
page_partial : Tree
page_partial =
    line ((1, raw_string (codes "<title>")) ∷ (8, include (codes "title")) ∷ (19, raw_string (codes "</title>")) ∷
    (27, captured_text) ∷ [])

layout : is_accepted 4 ((codes "page", page_partial) ∷ [])
    (line ((
      1,
      include_block (codes "page")
          (line ((12, inline (codes "title") (line ((32, x_value) ∷ []))) ∷ (48, raw_string (codes "<p>")) ∷ (51, x_value) ∷ [])),
    ) ∷ [])) ≡ true
unfolding page_partial next step is_same_tokenizer
layout = refl

-- `{{> list}}`, with `<li>{{x}}{{#each x}}{{> list}}{{/each}}` under the name: a partial that includes itself.
list_partial : Tree
list_partial =
    line ((1, raw_string (codes "<li>")) ∷ (5, x_value) ∷
    (10, block (codes "each") (body (line ((21, include (codes "list")) ∷ []))) no_body) ∷ [])

recursive_partial : is_accepted 2 ((codes "list", list_partial) ∷ []) (line ((1, include (codes "list")) ∷ [])) ≡ true
unfolding list_partial next step is_same_tokenizer
recursive_partial = refl

-- `{{> loop}}{{{x}}}`, with `{{> loop}}` under the name: no run comes to what is after the partial.
after_endless_partial : is_accepted 1 ((codes "loop", line ((1, include (codes "loop")) ∷ [])) ∷ [])
    (line ((1, include (codes "loop")) ∷ (11, x_html) ∷ [])) ≡ true
unfolding next step is_same_tokenizer
after_endless_partial = refl

-- `{{#*inline "a"}}{{{x}}}{{/inline}}`: no run includes the inline partial.
unused_inline : is_accepted 0 [] (line ((1, inline (codes "a") (line ((17, x_html) ∷ []))) ∷ [])) ≡ true
unfolding next step is_same_tokenizer
unused_inline = refl

-- ---- not accepted

-- `<a href="{{x}}">`: an address at its beginning.
whole_address : faults 0 []
    (line ((1, raw_string (codes "<a href=\"")) ∷ (10, x_value) ∷ (15, raw_string (codes "\">")) ∷ []))
    ≡ fault 10 (unsafe_value (html (quoted true common_tag (followed [])))) ∷ []
unfolding next step is_same_tokenizer
whole_address = refl

-- `<script>f({{x}})</script>{{x}}`: after the script all is well.
value_in_script : faults 0 []
    (line ((1, raw_string (codes "<script>f(")) ∷ (11, x_value) ∷ (16, raw_string (codes ")</script>")) ∷ (26, x_value) ∷ []))
    ≡ fault 11 (unsafe_value (html in_script)) ∷ []
unfolding next step is_same_tokenizer
value_in_script = refl

-- `<p style="{{x}}" onclick="{{x}}">{{{x}}}`: all faults are found, in the order of the source.
three_faults : faults 0 []
    (line ((1, raw_string (codes "<p style=\"")) ∷ (11, x_value) ∷ (16, raw_string (codes "\" onclick=\"")) ∷ (27, x_value) ∷
    (32, raw_string (codes "\">")) ∷ (34, x_html) ∷ []))
    ≡ fault 11 (unsafe_value (html (quoted true common_tag forbidden)))
    ∷ fault 27 (unsafe_value (html (quoted true common_tag forbidden))) ∷ fault 34 unescaped_value ∷ []
unfolding next step is_same_tokenizer
three_faults = refl

-- `{{#each x}}<p {{/each}}`: an iteration begins in the text of an element and ends in a tag.
iteration_in_tag : faults 0 []
    (line ((1, block (codes "each") (body (line ((12, raw_string (codes "<p ")) ∷ []))) no_body) ∷ []))
    ≡ fault 1 (changed_by_iteration beginning (html (before_attribute common_tag))) ∷ []
unfolding next step is_same_tokenizer
iteration_in_tag = refl

-- `<scr{{! x }}ipt>`: a blank after `<scr` would make another element of it.
blank_in_name : faults 0 []
    (line ((1, raw_string (codes "<scr")) ∷ (5, comment (codes " x ")) ∷ (13, raw_string (codes "ipt>")) ∷ []))
    ≡ fault 13 (changed_text (html (tag_name false (codes "scr")))) ∷ []
unfolding next step is_same_tokenizer
blank_in_name = refl

-- `<p {{#if x}}a{{/if}}{{#if x}}b{{/if}}>`: with a blank before it `b` is an attribute of its own, and else `ab` may be one.
blank_between_names : faults 0 []
    (line ((1, raw_string (codes "<p ")) ∷ (4, if_text 13 (codes "a")) ∷ (21, if_text 30 (codes "b")) ∷ (38, raw_string (codes ">")) ∷ []))
    ≡ fault 30 (changed_text (html (attribute_name common_tag (codes "a")))) ∷ []
unfolding next step is_same_tokenizer
blank_between_names = refl

-- `<meta content="{{x}}" http-equiv=refresh>{{{x}}}`: `http-equiv` makes a header of what `content` says. What comes after it is
-- not read.
late_header : faults 0 []
    (line ((1, raw_string (codes "<meta content=\"")) ∷ (16, x_value) ∷ (21, raw_string (codes "\" http-equiv=refresh>")) ∷
    (42, x_html) ∷ []))
    ≡ fault 21 late_attribute ∷ []
unfolding next step is_same_tokenizer
late_header = refl

-- `<plaintext>{{x}}`
after_plaintext : faults 0 [] (line ((1, raw_string (codes "<plaintext>")) ∷ (12, x_value) ∷ [])) ≡ fault 12 unread_value ∷ []
unfolding next step is_same_tokenizer
after_plaintext = refl

-- `<p>{{> word}}<p style="{{> word}}">`, with `{{x}}` under the name: the fault is in the partial, from the second inclusion on.
partial_in_two_places : faults 3 ((codes "word", line ((1, x_value) ∷ [])) ∷ [])
    (line ((1, raw_string (codes "<p>")) ∷ (4, include (codes "word")) ∷ (14, raw_string (codes "<p style=\"")) ∷
    (24, include (codes "word")) ∷ (34, raw_string (codes "\">")) ∷ []))
    ≡ fault_in (codes "word") 1 (unsafe_value (html (quoted true common_tag forbidden))) ∷ []
unfolding next step is_same_tokenizer
partial_in_two_places = refl

-- `{{> raw}}<p title="{{> raw}}">`, with `{{{x}}}` under the name: a fault is reported once, however often it is found.
fault_found_once : faults 2 ((codes "raw", line ((1, x_html) ∷ [])) ∷ [])
    (line ((1, include (codes "raw")) ∷ (10, raw_string (codes "<p title=\"")) ∷ (20, include (codes "raw")) ∷
    (29, raw_string (codes "\">")) ∷ []))
    ≡ fault_in (codes "raw") 1 unescaped_value ∷ []
unfolding next step is_same_tokenizer
fault_found_once = refl

-- `{{> (x)}}`: a name that is made when it is rendered.
abbrev made : Param
made = subexpression x_value

name_of_inclusion : faults 0 [] (line ((1, partial_expression (decorator made no_arguments no_body no_indent)) ∷ []))
    ≡ fault 1 made_inclusion ∷ []
unfolding next step is_same_tokenizer
name_of_inclusion = refl

-- A block by a name that is made when it is rendered.
name_of_block : faults 0 []
    (line ((1, helper_block (call made no_arguments no_binding (bodies (body (line ((9, x_html) ∷ []))) no_body) block_marks)) ∷ []))
    ≡ fault 1 made_block ∷ []
unfolding next step is_same_tokenizer
name_of_block = refl

-- `{{#> page}}<p {{/page}}`: the block ends in a tag. Nothing is included by this name.
block_ends_in_tag : faults 1 [] (line ((1, include_block (codes "page") (line ((12, raw_string (codes "<p ")) ∷ []))) ∷ []))
    ≡ fault 1 (changed_by_block (html (before_attribute common_tag))) ∷ []
unfolding next step is_same_tokenizer
block_ends_in_tag = refl

-- `<p {{> @partial-block}}>`: captured text in a tag.
captured_in_tag : faults 0 []
    (line ((1, raw_string (codes "<p ")) ∷ (4, captured_text) ∷ (24, raw_string (codes ">")) ∷ []))
    ≡ fault 4 (captured_text_in (html (before_attribute common_tag))) ∷ []
unfolding next step is_same_tokenizer
captured_in_tag = refl

-- `{{> a}}` after an indentation with other bytes than blanks.
indent_of_markup : faults 0 []
    (line ((
      1,
      partial_expression (decorator (name (codes "a")) no_arguments no_body
          record { indent = Some (codes "<b"); indent_before_write = false }),
    ) ∷ []))
    ≡ fault 1 other_indent ∷ []
unfolding next step is_same_tokenizer is_blank
indent_of_markup = refl

-- An expression with a body, as only a hand-built template has it.
expression_with_body : faults 0 []
    (line ((
      1,
      escaped_expression (call (name (codes "x")) no_arguments no_binding
          (bodies (body (line [])) no_body) block_marks),
    ) ∷ []))
    ≡ fault 1 expression_bodies ∷ []
unfolding next step is_same_tokenizer
expression_with_body = refl

-- `{{#*inline "a"}}{{{x}}}{{/inline}}<p style="{{> a}}">`: the inline partial is included, once.
used_inline : faults 1 []
    (line ((1, inline (codes "a") (line ((17, x_html) ∷ []))) ∷ (35, raw_string (codes "<p style=\"")) ∷ (45, include (codes "a")) ∷
    (52, raw_string (codes "\">")) ∷ []))
    ≡ fault 17 unescaped_value ∷ []
unfolding next step is_same_tokenizer
used_inline = refl

-- `<p {{#if x}}style="{{else}}title="{{/if}}{{x}}">`: one of the two ways is no place for data.
fault_on_one_way : faults 0 []
    (line ((1, raw_string (codes "<p ")) ∷ (
      4,
      block (codes "if") (body (line ((13, raw_string (codes "style=\"")) ∷ [])))
          (body (line ((28, raw_string (codes "title=\"")) ∷ []))),
    ) ∷
    (42, x_value) ∷ (47, raw_string (codes "\">")) ∷ []))
    ≡ fault 42 (unsafe_value (html (quoted true common_tag forbidden))) ∷ []
unfolding next step is_same_tokenizer
fault_on_one_way = refl

-- ---- addresses that are written as values

-- `safe` is a helper of addresses. Nothing else is user-defined.
abbrev url_parts : UserDefined
url_parts = record { escape = for_html; helpers = (codes "safe", gives_urls) ∷ []; decorators = [] }

-- `{{safe x}}`
abbrev safe_x : Element
safe_x =
    escaped_expression (call (name (codes "safe")) (args (param (name (codes "x")) no_params) no_hash) no_binding
    (bodies no_body no_body) record { block = false; chain = false; indent_before_write = false })

abbrev url_faults : Tree → List Fault
url_faults t = faults_after url_parts [] (source t) 0

-- `<a href="{{safe x}}/a">{{x}}`
path_after_address : url_faults
    (line ((1, raw_string (codes "<a href=\"")) ∷ (10, safe_x) ∷ (20, raw_string (codes "/a\">")) ∷ (24, x_value) ∷ [])) ≡ []
unfolding next step is_same_tokenizer
path_after_address = refl

-- `<a href="{{safe x}}:a">`: with `javascript` for `x` that would be a script.
scheme_of_address : url_faults
    (line ((1, raw_string (codes "<a href=\"")) ∷ (10, safe_x) ∷ (20, raw_string (codes ":a\">")) ∷ []))
    ≡ fault 20 changed_address ∷ []
unfolding next step is_same_tokenizer
scheme_of_address = refl

-- `<a href="{{safe x}}{{x}}">`
value_after_address : url_faults
    (line ((1, raw_string (codes "<a href=\"")) ∷ (10, safe_x) ∷ (20, x_value) ∷ (25, raw_string (codes "\">")) ∷ []))
    ≡ fault 20 (unsafe_value (html (in_url true common_tag))) ∷ []
unfolding next step is_same_tokenizer
value_after_address = refl

-- `<a onclick="{{safe x}}">`: no address begins there.
address_as_code : url_faults
    (line ((1, raw_string (codes "<a onclick=\"")) ∷ (13, safe_x) ∷ (23, raw_string (codes "\">")) ∷ []))
    ≡ fault 13 (unsafe_value (html (quoted true common_tag forbidden))) ∷ []
unfolding next step is_same_tokenizer
address_as_code = refl

-- `<a href="{{x}}">`: the name of no helper of addresses
other_at_address : url_faults
    (line ((1, raw_string (codes "<a href=\"")) ∷ (10, x_value) ∷ (15, raw_string (codes "\">")) ∷ []))
    ≡ fault 10 (unsafe_value (html (quoted true common_tag (followed [])))) ∷ []
unfolding next step is_same_tokenizer
other_at_address = refl

-- ---- which addresses are safe

safe_addresses : list_all is_safe_url
    (codes "" ∷ codes "a.html" ∷ codes "/a:b" ∷ codes "?a:b" ∷ codes "#a:b" ∷ codes "a/b:c" ∷ codes "//example.org" ∷ codes "a b&c=d" ∷
    codes "http://example.org/" ∷ codes "HTTPS:x" ∷ codes " https://example.org" ∷ codes "mailto:a@example.org" ∷ codes "tel:+1" ∷
    codes "ftp:a" ∷ codes "sms:+1" ∷ []) ≡ true
safe_addresses = refl

unsafe_addresses : list_any is_safe_url
    (codes "javascript:x" ∷ codes "JavaScript:x" ∷ codes " javascript:x" ∷ (codes "java" ++ 10 ∷ codes "script:x") ∷
    (codes "javascript" ++ 9 ∷ codes ":x") ∷ (codes "http" ++ 13 ∷ codes "://example.org/") ∷ (1 ∷ codes "javascript:x") ∷ codes "data:text/html,x" ∷
    codes "vbscript:x" ∷ codes "file:x" ∷ codes ":x" ∷ codes "javascript :x" ∷ codes "a&b:c" ∷ (codes "https" ++ 0 ∷ codes ":x") ∷ [])
    ≡ false
unsafe_addresses = refl
