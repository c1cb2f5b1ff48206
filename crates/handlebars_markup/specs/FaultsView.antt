-- How the definitions view the code's values of faults.
use Rattle.std.specs.Prelude.{◌≡◌, List, ◌++◌, map, option_map, string_bytes}
use Rattle.handlebars_template.specs.TreeView.{position_of}
use Rattle.handlebars_markup.specs.Faults.{Why, unescaped_value, made_name, reading_helper, user_decorator, name_from_value, inclusion_hash, marked_indent, other_escape, reading_hook, Fault, faults_at}
use Rattle.handlebars_markup.specs.declared.check.location.Cause.{Cause}
use Rattle.handlebars_markup.specs.declared.check.location.Cause.TheVariants as cause
use Rattle.handlebars_markup.specs.declared.check.location.Location.{Location}
use Rattle.handlebars_markup.specs.declared.fault.MarkupFault.{MarkupFault}
use Rattle.handlebars_markup.specs.declared.fault.MarkupFaultReason.{MarkupFaultReason}
use Rattle.handlebars_markup.specs.declared.fault.MarkupFaultReason.TheVariants as reason

abbrev pub why_of : MarkupFaultReason → Why
why_of reason.HtmlExpression = unescaped_value
why_of reason.MadeName = made_name
why_of (reason.ReadingHelper n) = reading_helper (string_bytes n)
why_of (reason.UserDecorator n) = user_decorator (string_bytes n)
why_of reason.NameFromValue = name_from_value
why_of reason.InclusionHash = inclusion_hash
why_of reason.MarkedIndent = marked_indent
why_of reason.OtherEscape = other_escape
why_of (reason.ReadingHook n) = reading_hook (string_bytes n)

abbrev pub fault_of : MarkupFault → Fault
fault_of f = record {
  template = option_map string_bytes f.template_name;
  line = f.line_no;
  column = f.column_no;
  why = why_of f.reason;
}

-- These faults are added, in order, to those that there were.
abbrev pub AddsFindings : List MarkupFault → List MarkupFault → List Fault → Type 0
AddsFindings before after found = map fault_of after ≡ map fault_of before ++ found

-- ---- before a fault is made

abbrev pub cause_why : Cause → Why
cause_why cause.HtmlExpression = unescaped_value
cause_why cause.MadeName = made_name
cause_why (cause.ReadingHelper n) = reading_helper n.now
cause_why (cause.UserDecorator n) = user_decorator n.now
cause_why cause.NameFromValue = name_from_value
cause_why cause.InclusionHash = inclusion_hash
cause_why cause.MarkedIndent = marked_indent
cause_why cause.OtherEscape = other_escape
cause_why (cause.ReadingHook n) = reading_hook n.now

-- all at this location
abbrev pub faults_in : Location → List Why → List Fault
faults_in s ws = faults_at (option_map (λ n. n.now) s.template_name) (option_map position_of s.position) ws
