-- The states of a tokenizer of HTML, and how a byte changes them. The sections are those of the HTML standard (WHATWG), of
-- which 13.2.5 has the states. States that go on alike are one here. Bytes stand for characters, since all that a tokenizer
-- distinguishes is ASCII.
use Rattle.std.specs.Prelude.{ℕ, Bool, true, false, ◌||◌, ◌==◌, if◌then◌else◌, [], ◌∷◌, ◌++◌, Option, None, Some, codes}
use Rattle.handlebars_base.specs.Bytes.{Text, double_quote, single_quote, hyphen, slash, less_than_sign, equals_sign, greater_than_sign, left_bracket}
use Rattle.handlebars_html.specs.Ascii.{exclamation_mark, question_mark, is_html_white, lower, is_letter, is_blank_or_control, begins_query}
use Rattle.handlebars_html.specs.Addresses.{Value, forbidden, step_value, is_safe_value, begins_address}
use Rattle.handlebars_html.specs.Tags.{Tag, tag_of, beside, is_late, first_value}

pub data Tokenizer : Type 0 where
  -- 13.2.5.1 Data state
  in_data : Tokenizer
  -- 13.2.5.6 Tag open state
  tag_open : Tokenizer
  -- 13.2.5.7 End tag open state
  end_tag_open : Tokenizer
  -- 13.2.5.8 Tag name state, of an end tag or not, with the name so far
  tag_name : Bool → Text → Tokenizer
  -- 13.2.5.32 Before attribute name state, 13.2.5.39 After attribute value (quoted) state, 13.2.5.40 Self-closing start tag
  -- state
  before_attribute : Tag → Tokenizer
  -- 13.2.5.33 Attribute name state, with the name so far
  attribute_name : Tag → Text → Tokenizer
  -- 13.2.5.34 After attribute name state
  after_attribute : Tag → Text → Tokenizer
  -- 13.2.5.35 Before attribute value state
  before_value : Tag → Value → Tokenizer
  -- 13.2.5.36 Attribute value (double-quoted) state, 13.2.5.37 Attribute value (single-quoted) state
  quoted : Bool → Tag → Value → Tokenizer
  -- The same two, after an address that was written as a value: the template ends it, or goes on with a path, a query or a fragment.
  -- Any other byte could make a scheme of it. A tokenizer that reads from the beginning isn't in it.
  in_url : Bool → Tag → Tokenizer
  -- 13.2.5.38 Attribute value (unquoted) state
  unquoted : Tag → Tokenizer
  -- 13.2.5.42 Markup declaration open state, after `<!` and after `<!-`
  declaration : Tokenizer
  declaration_dash : Tokenizer
  -- 13.2.5.41 Bogus comment state, and 13.2.5.53 to 13.2.5.68, of a doctype: up to the next `>`
  bogus : Tokenizer
  -- 13.2.5.43 Comment start state
  comment_start : Tokenizer
  -- 13.2.5.44 Comment start dash state
  comment_start_dash : Tokenizer
  -- 13.2.5.45 Comment state, 13.2.5.46 Comment less-than sign state, 13.2.5.47 Comment less-than sign bang state
  in_comment : Tokenizer
  -- 13.2.5.50 Comment end dash state, 13.2.5.48 Comment less-than sign bang dash state
  comment_dash : Tokenizer
  -- 13.2.5.51 Comment end state, 13.2.5.49 Comment less-than sign bang dash dash state
  comment_end : Tokenizer
  -- 13.2.5.52 Comment end bang state
  comment_bang : Tokenizer
  -- After data in a comment, any of the six states of comments; and after data and a dash, one of those after a dash. A
  -- tokenizer that reads from the beginning is in neither.
  comment_unclear : Tokenizer
  comment_unclear_dash : Tokenizer
  -- 13.2.5.2 RCDATA state, 13.2.5.3 RAWTEXT state: the text of the element of this name, in which data may stand or may not.
  -- A `<` in it that begins anything but the end tag of that element leads to `stuck`. So it is no matter whether the element
  -- is read as text, or as markup, as it may be within SVG, MathML, `select` and `noscript`.
  in_text : Bool → Text → Tokenizer
  -- 13.2.5.9 RCDATA less-than sign state, 13.2.5.12 RAWTEXT less-than sign state
  text_tag_open : Bool → Text → Tokenizer
  -- 13.2.5.10, 13.2.5.11, 13.2.5.13, 13.2.5.14: in the end tag, with what is still to come of its name
  text_end_name : Text → Tokenizer
  -- 13.2.5.4 Script data state. A `<!` leads to `stuck`, since a script may then contain scripts (13.2.5.18 to 31).
  in_script : Tokenizer
  -- 13.2.5.15 Script data less-than sign state
  script_tag_open : Tokenizer
  -- 13.2.5.16 Script data end tag open state, 13.2.5.17 Script data end tag name state, with what is still to come of the name
  script_end_name : Text → Tokenizer
  -- after the name of the end tag of a text or of a script
  text_end : Tokenizer
  -- An attribute changed what one before it means, in which data may stand. No text of a template may lead here.
  late : Tokenizer
  -- A text would make a scheme of an address that was written as a value. No text of a template may lead here.
  misled : Tokenizer
  -- Nothing more is said.
  stuck : Tokenizer

-- ---- tags

-- the tag in which a tokenizer is, outside of quotes: there a `>` ends it (13.2.5.8, 13.2.5.32 to 35, 13.2.5.38 to 40)
abbrev pub open_tag : Tokenizer → Option Tag
open_tag (tag_name ends n) = Some (tag_of ends n)
open_tag (before_attribute tag) = Some tag
open_tag (attribute_name tag n) = Some tag
open_tag (after_attribute tag n) = Some tag
open_tag (before_value tag v) = Some tag
open_tag (unquoted tag) = Some tag
open_tag t = None

-- after the `=` of an attribute of this name
abbrev pub begin_value : Tag → Text → Tokenizer
begin_value tag n =
    if is_late tag.attributes n then late
    else before_value (record tag { attributes = beside tag.attributes n }) (first_value tag.attributes n)

-- where the name of an attribute may begin
abbrev pub step_attribute : Tag → ℕ → Tokenizer
step_attribute tag b =
    if is_html_white b || (b == slash) then before_attribute tag else attribute_name tag (lower b ∷ [])

abbrev pub quote_of : Bool → ℕ
quote_of true = double_quote
quote_of false = single_quote

-- ---- a byte

-- in the end tag of an element of text
abbrev pub step_text_end : Text → ℕ → Tokenizer
step_text_end [] b = if is_html_white b then text_end else (if b == greater_than_sign then in_data else stuck)
step_text_end (c ∷ cs) b = if is_html_white b then stuck else (if lower b == c then text_end_name cs else stuck)

-- in a comment or before it: the state after a dash, after a `>`, and after any other byte
abbrev pub by_dash : ℕ → Tokenizer → Tokenizer → Tokenizer → Tokenizer
by_dash b dash greater other = if b == hyphen then dash else (if b == greater_than_sign then greater else other)

-- in a script, where it goes on
abbrev pub step_script : ℕ → Tokenizer
step_script b = if b == less_than_sign then script_tag_open else in_script

abbrev pub step_script_end : Text → ℕ → Tokenizer
step_script_end [] b =
    if is_html_white b then text_end else (
    if b == greater_than_sign then in_data else (if b == slash then stuck else step_script b))
step_script_end (c ∷ cs) b =
    if is_html_white b then in_script else (if lower b == c then script_end_name cs else step_script b)

-- The state after a byte. A `>` that ends a tag, and a `<` within `noscript`, are read in `Html`.
unfoldable pub next : Tokenizer → ℕ → Tokenizer
next in_data b = if b == less_than_sign then tag_open else in_data
next tag_open b =
    if b == less_than_sign then tag_open else (
    if b == exclamation_mark then declaration else (
    if b == slash then end_tag_open else (
    if b == question_mark then bogus else (
    if is_letter b then tag_name false (lower b ∷ []) else in_data))))
next end_tag_open b =
    if is_letter b then tag_name true (lower b ∷ []) else (if b == greater_than_sign then in_data else bogus)
next (tag_name ends n) b =
    if is_html_white b || (b == slash) then before_attribute (tag_of ends n) else tag_name ends (n ++ lower b ∷ [])
next (before_attribute tag) b = step_attribute tag b
next (attribute_name tag n) b =
    if is_html_white b then after_attribute tag n else (
    if b == slash then before_attribute tag else (
    if b == equals_sign then begin_value tag n else attribute_name tag (n ++ lower b ∷ [])))
next (after_attribute tag n) b =
    if is_html_white b then after_attribute tag n else (
    if b == equals_sign then begin_value tag n else step_attribute tag b)
next (before_value tag v) b =
    if is_html_white b then before_value tag v else (
    if b == double_quote then quoted true tag v else (
    if b == single_quote then quoted false tag v else unquoted tag))
next (quoted double tag v) b =
    if b == quote_of double then before_attribute tag else quoted double tag (step_value v b)
next (in_url double tag) b =
    if b == quote_of double then before_attribute tag else (
    if is_blank_or_control b then in_url double tag else (
    if (b == slash) || begins_query b then quoted double tag forbidden else misled))
next (unquoted tag) b = if is_html_white b then before_attribute tag else unquoted tag
next declaration b = if b == left_bracket then stuck else by_dash b declaration_dash in_data bogus
next declaration_dash b = by_dash b comment_start in_data bogus
next bogus b = if b == greater_than_sign then in_data else bogus
next comment_start b = by_dash b comment_start_dash in_data in_comment
next comment_start_dash b = by_dash b comment_end in_data in_comment
next in_comment b = by_dash b comment_dash in_comment in_comment
next comment_dash b = by_dash b comment_end in_comment in_comment
next comment_end b = if b == exclamation_mark then comment_bang else by_dash b comment_end in_data in_comment
next comment_bang b = by_dash b comment_dash in_data in_comment
next comment_unclear b =
    if b == exclamation_mark then comment_unclear else by_dash b comment_unclear_dash stuck in_comment
next comment_unclear_dash b = if b == exclamation_mark then comment_unclear else by_dash b comment_end stuck in_comment
next (in_text safe n) b = if b == less_than_sign then text_tag_open safe n else in_text safe n
next (text_tag_open safe n) b =
    if b == less_than_sign then text_tag_open safe n else (
    if b == slash then text_end_name n else (
    if (b == exclamation_mark) || ((b == question_mark) || is_letter b) then stuck else in_text safe n))
next (text_end_name rest) b = step_text_end rest b
next in_script b = step_script b
next script_tag_open b =
    if b == slash then script_end_name (codes "script") else (if b == exclamation_mark then stuck else step_script b)
next (script_end_name rest) b = step_script_end rest b
next text_end b = if is_html_white b then text_end else (if b == greater_than_sign then in_data else stuck)
next late b = late
next misled b = misled
next stuck b = stuck

-- ---- data

-- A comment holds data, which has no `>`, and so ends none.
abbrev pub is_comment : Tokenizer → Bool
is_comment comment_start = true
is_comment comment_start_dash = true
is_comment in_comment = true
is_comment comment_dash = true
is_comment comment_end = true
is_comment comment_bang = true
is_comment comment_unclear = true
is_comment comment_unclear_dash = true
is_comment t = false

abbrev pub is_refused : Tokenizer → Bool
is_refused late = true
is_refused misled = true
is_refused t = false

-- Data may stand in the text of an element, in a comment, and within the quotes of an attribute that may hold it.
abbrev pub is_safe_tokenizer : Tokenizer → Bool
is_safe_tokenizer in_data = true
is_safe_tokenizer (in_text safe n) = safe
is_safe_tokenizer (quoted double tag v) = is_safe_value v
is_safe_tokenizer t = is_comment t

-- the beginning of an address that is followed, within quotes
abbrev pub begins_url : Tokenizer → Bool
begins_url (quoted double tag v) = begins_address v
begins_url t = false

-- after a whole address there
abbrev pub after_address : Tokenizer → Tokenizer
after_address (quoted double tag v) = in_url double tag
after_address t = t
