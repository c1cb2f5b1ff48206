-- How the definitions view the code's values.
use Rattle.std.specs.Prelude.{◌≡◌, Bool, List, [], ◌∷◌, ◌++◌, map, Option, None, Some, option_map, String, string_bytes}
use Rattle.std.specs.declared.alloc.Global.{Global}
use Rattle.handlebars_template.specs.TreeView.{position_of, tree_view}
use Rattle.handlebars_helpers.specs.UserAnswers.{Registrations}
use Rattle.handlebars_html.specs.Ascii.{is_one_of}
use Rattle.handlebars_html.specs.declared.search.NamedTemplate.{NamedTemplate}
use Rattle.handlebars_names.specs.Check as check
use Rattle.handlebars_names.specs.Faults as faults
use Rattle.handlebars_names.specs.Faults.{Why, faults_at}
use Rattle.handlebars_names.specs.Names.{Names}
use Rattle.handlebars_names.specs.Scopes as scopes
use Rattle.handlebars_names.specs.Search as search
pub use Rattle.handlebars_names.specs.TemplateNames.{name_of_template}
use Rattle.handlebars_names.specs.declared.fault.Finding.{Finding}
use Rattle.handlebars_names.specs.declared.fault.Finding.TheVariants as finding
use Rattle.handlebars_names.specs.declared.fault.NameFault.{NameFault}
use Rattle.handlebars_names.specs.declared.fault.NameFaultReason.{NameFaultReason}
use Rattle.handlebars_names.specs.declared.fault.NameFaultReason.TheVariants as reason
use Rattle.handlebars_names.specs.declared.included.Included.{Included}
use Rattle.handlebars_names.specs.declared.included.Included.TheVariants as included
use Rattle.handlebars_names.specs.declared.known.Known.{Known}
use Rattle.handlebars_names.specs.declared.known.Page.{Page}
use Rattle.handlebars_names.specs.declared.known.Page.TheVariants as page
use Rattle.handlebars_names.specs.declared.check.Verdict.{Verdict}
use Rattle.handlebars_names.specs.declared.check.Verdict.TheVariants as verdict
use Rattle.handlebars_names.specs.declared.location.Cause.{Cause}
use Rattle.handlebars_names.specs.declared.location.Cause.TheVariants as cause
use Rattle.handlebars_names.specs.declared.location.Location.{Location}
use Rattle.handlebars_names.specs.declared.scope.Scope.{Scope}

abbrev pub scope_of : Scope → scopes.Scope
scope_of s = record { partials = map (λ n. n.now) s.partials.items; block = s.block }

abbrev pub entry_of : String Global × Scope → scopes.Entry
entry_of e = record { name = string_bytes e.0; scope = scope_of e.1 }

abbrev pub why_of : NameFaultReason → Why
why_of (reason.MissingHelper n near) = faults.missing_helper (string_bytes n)
why_of (reason.MissingParams n needed) = faults.missing_params (string_bytes n) needed
why_of reason.MadeName = faults.made_name
why_of (reason.OtherDecorator n) = faults.other_decorator (string_bytes n)
why_of reason.UnnamedInline = faults.unnamed_inline
why_of (reason.EmptyInline n) = faults.empty_inline (string_bytes n)
why_of (reason.MissingPartial n near) = faults.missing_partial (string_bytes n)
why_of (reason.IncludesItself n) = faults.includes_itself (string_bytes n)
why_of reason.MissingBlock = faults.missing_block
why_of (reason.NamedBody n) = faults.named_body (string_bytes n)

abbrev pub fault_of : NameFault → faults.Fault
fault_of f = record {
  template_name = option_map string_bytes f.template_name;
  line = f.line_no;
  column = f.column_no;
  why = why_of f.reason;
}

abbrev pub finding_of : Finding → faults.Finding
finding_of (finding.Fault f) = faults.fault (fault_of f)
finding_of (finding.Includes n s) = faults.includes (string_bytes n) (scope_of s)

-- These findings are added, in order, to those that there were.
abbrev pub AddsFindings : List Finding → List Finding → List faults.Finding → Type 0
AddsFindings before after found = map finding_of after ≡ map finding_of before ++ found

-- ---- before a fault is made

abbrev pub cause_why : Cause → Why
cause_why (cause.MissingHelper n helpers) = faults.missing_helper n.now
cause_why (cause.MissingParams n needed) = faults.missing_params n.now needed
cause_why cause.MadeName = faults.made_name
cause_why (cause.OtherDecorator n) = faults.other_decorator n.now
cause_why cause.UnnamedInline = faults.unnamed_inline
cause_why (cause.EmptyInline n) = faults.empty_inline n.now
cause_why (cause.MissingPartial n templates) = faults.missing_partial n.now
cause_why (cause.IncludesItself n) = faults.includes_itself n.now
cause_why cause.MissingBlock = faults.missing_block
cause_why (cause.NamedBody n) = faults.named_body n.now

-- this fault, or none
abbrev pub whys_in : Option Cause → List Why
whys_in None = []
whys_in (Some c) = cause_why c ∷ []

-- all at this location
abbrev pub faults_in : Location → List Why → List faults.Finding
faults_in l ws = faults_at (option_map (λ n. n.now) l.template_name) (option_map position_of l.position) ws

abbrev pub included_of : Included → check.Included
included_of included.Made = check.made
included_of (included.Itself n) = check.itself n.now
included_of included.TheBlock = check.the_block
included_of (included.Partial n) = check.a_partial n.now

-- ---- what a template is read by

-- with what is registered beside templates
abbrev pub names_in : Registrations → Bool → List NamedTemplate → Names
names_in r sections templates = record {
  helper = r.helper;
  decorator = r.decorator;
  sections = sections;
  has_template = is_one_of (map name_of_template templates);
}

abbrev pub names_at : Registrations → Known → Names
names_at r k = names_in r k.sections k.templates.now.list.now

abbrev pub table_at : Known → List scopes.Entry
table_at k = map entry_of k.table.now.entries

abbrev pub page_of : Page → search.Page
page_of (page.Source t) = search.a_source (tree_view t.now)
page_of (page.Template n) = search.a_template n.now

abbrev pub verdict_of : Verdict → search.Verdict
verdict_of verdict.NoFaults = search.no_faults
verdict_of (verdict.Faults fs) = search.some_faults (map fault_of fs.items)
verdict_of verdict.Undecided = search.undecided
