-- Pages with blocks and partials, worked out: those that the rule accepts, and those that it does not.
use Rattle.std.proofs.Common.{◌≡◌, true, false, List, [], ◌∷◌, codes, refl, sym, ap, subst, None, Some}
use Rattle.serde_json.specs.Data.{string}
use Rattle.handlebars_base.specs.Bytes.{Text}
use Rattle.handlebars_template.specs.Tree.{Tree, Element, raw_string, html_expression, helper_block, partial_expression, partial_block, decorator_block, Call, call, decorator, args, no_arguments, no_params, no_hash, param, name, literal, no_binding, bodies, no_body, body}
use Rattle.handlebars_html.specs.Tokenizer.{next}
use Rattle.handlebars_html.specs.Html.{Html, beginning, step, is_safe}
use Rattle.handlebars_html.specs.Rule.{as_first, Table, effect_named, Leads, BlockLeads, BodiesLead}
use Rattle.handlebars_html.specs.Safety.{html_rule}
use Rattle.handlebars_html.specs.Sample.{empty_table, page, x_value, IsSafePage}

false-true : {P : Type 0} → false ≡ true → P
false-true is = cc

true-false : {P : Type 0} → true ≡ false → P
true-false is = cc

abbrev text : Text → Element
text t = raw_string t

-- ---- blocks

-- a block of this helper over `x`, with this body
abbrev block_call : Text → List Element → Call
block_call helper es =
    call (name helper) (args (param (name (codes "x")) no_params) no_hash) no_binding (bodies (body (page es)) no_body)
    record { block = true; chain = false; indent_before_write = false }

abbrev block : Text → List Element → Element
block helper es = helper_block (block_call helper es)

some-text : (n m : Text) → Some n ≡ Some m → n ≡ m
some-text n m is = cc

block-leads : (helper : Text) (es : List Element) (h : Html) (end : Html → Type 0)
    → BlockLeads html_rule empty_table (block_call helper es) h end
    → BodiesLead html_rule empty_table (bodies (body (page es)) no_body) (effect_named empty_table.registered helper) h end
block-leads helper es h end is =
    subst (λ (m : Text). BodiesLead html_rule empty_table (bodies (body (page es)) no_body) (effect_named empty_table.registered m) h end)
    (sym (some-text helper is.0 is.1)) is.2

-- `<option {{#if x}}selected{{/if}}>{{x}}</option>`: the two branches needn't meet in one state.
branches_are_safe : IsSafePage (page (text (codes "<option ") ∷ block (codes "if") (text (codes "selected") ∷ []) ∷
    text (codes ">") ∷ x_value ∷ text (codes "</option>") ∷ []))
unfolding next step
branches_are_safe = (tt, ((refl, refl), (tt, (codes "if", refl, ((tt, ((refl, refl), (tt, ((refl, refl), (tt, (((refl, refl), (tt, ((refl, refl), tt))), tt, tt)))))), (tt, ((refl, refl), (tt, (((refl, refl), (tt, ((refl, refl), tt))), tt, tt)))))))))

-- `<a href="{{#if x}}/a{{/if}}{{x}}">`: without the branch the address isn't begun.
one_branch_is_not_safe : IsSafePage (page (text (codes "<a href=\"") ∷ block (codes "if") (text (codes "/a") ∷ []) ∷
    x_value ∷ text (codes "\">") ∷ [])) → ⊥
unfolding next step
one_branch_is_not_safe h =
    let leads = block-leads (codes "if") (text (codes "/a") ∷ []) _ _ h.1.1.1 in false-true leads.1.1.0.0.1

-- `<ul>{{#each x}}<li class="{{x}}">{{x}}</li>{{/each}}</ul>`
iterations_are_safe : IsSafePage (page (text (codes "<ul>") ∷ block (codes "each") (text (codes "<li class=\"") ∷ x_value ∷
    text (codes "\">") ∷ x_value ∷ text (codes "</li>") ∷ []) ∷ text (codes "</ul>") ∷ []))
unfolding next step
iterations_are_safe = (tt, ((refl, refl), (tt, (codes "each", refl, ((tt, ((refl, refl), tt)), (tt, ((refl, refl), (tt, (((refl, refl), (tt, ((refl, refl), (tt, (((refl, refl), (tt, ((refl, refl), refl))), tt, tt))))), tt, tt)))), (tt, ((refl, refl), tt)))))))

-- `{{#each x}}<p {{/each}}`: an iteration ends in another state than it begins in.
iteration_elsewhere_is_not_safe : IsSafePage (page (block (codes "each") (text (codes "<p ") ∷ []) ∷ [])) → ⊥
unfolding next step
iteration_elsewhere_is_not_safe h =
    let leads = block-leads (codes "each") (text (codes "<p ") ∷ []) _ _ h.1 in true-false (sym (ap is_safe leads.1.1.1))

-- `{{{x}}}` is not escaped.
html_is_not_safe : IsSafePage (page (html_expression (call (name (codes "x")) no_arguments no_binding (bodies no_body no_body)
    record { block = false; chain = false; indent_before_write = false }) ∷ [])) → ⊥
html_is_not_safe h = false-true h.1.0.0.0

-- ---- partials

-- the table in which each partial leads from markup to markup
abbrev markup_table : Table html_rule
markup_table = record { registered = λ n. as_first; enters = λ n h. h ≡ beginning; leaves = λ n h g. g ≡ beginning }

abbrev LeadsToMarkup : Tree → Type 0
LeadsToMarkup t = Leads html_rule markup_table t beginning (λ g. g ≡ beginning)

-- `{{> word}}`, in a tag or not
abbrev includes : Text → Element
includes n = partial_expression (decorator (name n) no_arguments no_body record { indent = None; indent_before_write = false })

-- `{{#> word}}..{{/word}}`
abbrev includes_around : Text → List Element → Element
includes_around n es =
    partial_block (decorator (name n) no_arguments (body (page es)) record { indent = None; indent_before_write = false })

-- `{{#*inline "word"}}..{{/inline}}`
abbrev inline : Text → List Element → Element
inline n es = decorator_block (decorator (name (codes "inline")) (args (param (literal (string n)) no_params) no_hash)
    (body (page es)) record { indent = None; indent_before_write = false })

-- `<main>{{> @partial-block}}</main>`, as a layout
layout_leads : LeadsToMarkup (page (text (codes "<main>") ∷ includes (codes "@partial-block") ∷ text (codes "</main>") ∷ []))
unfolding next step
layout_leads = (tt, ((refl, refl), (tt, (refl, ((λ is. (refl, (tt, ((refl, refl), refl)))), (λ is. true-false is)), tt, tt))))

-- `<h1>{{x}}</h1>`
abbrev heading : List Element
heading = text (codes "<h1>") ∷ x_value ∷ text (codes "</h1>") ∷ []

heading_leads : LeadsToMarkup (page heading)
unfolding next step
heading_leads = (tt, ((refl, refl), (tt, (((refl, refl), (tt, ((refl, refl), refl))), tt, tt))))

-- `{{#*inline "heading"}}<h1>{{x}}</h1>{{/inline}}<svg width="{{x}}"></svg>`
abbrev drawing : List Element
drawing = inline (codes "heading") heading ∷ text (codes "<svg width=\"") ∷ x_value ∷ text (codes "\"></svg>") ∷ []

drawing_leads : LeadsToMarkup (page drawing)
unfolding next step
drawing_leads = (
  tt,
  (
    (tt, ((refl, refl), (tt, (((refl, refl), (tt, ((refl, refl), refl))), tt, tt)))),
    λ m is g at. subst (λ (h : Html). Leads html_rule markup_table (page heading) h (λ g. g ≡ beginning)) (sym at) heading_leads,
  ),
)

-- `{{#> layout}}..{{/layout}}` around these
around_leads : LeadsToMarkup (page (includes_around (codes "layout") drawing ∷ []))
around_leads = (tt, (refl, ((λ is. false-true is), (λ is. (refl, (λ g at. at)))), drawing_leads, drawing_leads))

-- `<p{{> word}}>`: that partial leads from markup alone.
partial_elsewhere_is_not_safe : LeadsToMarkup (page (text (codes "<p") ∷ includes (codes "word") ∷ text (codes ">") ∷ [])) → ⊥
unfolding next step
partial_elsewhere_is_not_safe h = true-false (sym (ap is_safe (h.1.1.1.1.1 refl).0))

-- `<p {{> @partial-block}}>`: captured text stands in markup.
captured_elsewhere_is_not_safe : LeadsToMarkup (page (text (codes "<p ") ∷ includes (codes "@partial-block") ∷ text (codes ">") ∷ []))
    → ⊥
unfolding next step
captured_elsewhere_is_not_safe h = true-false (sym (ap is_safe (h.1.1.1.1.0 refl).0))
