-- How the definitions view the code's rows and faults.
use Rattle.std.specs.Prelude.{List, map, string_bytes, option_map}
use Rattle.handlebars_html.specs.HtmlView.{html_of}
use Rattle.handlebars_html.specs.Rows as rows
use Rattle.handlebars_html.specs.Faults as faults
use Rattle.handlebars_html.specs.declared.rows.Row.{Row}
use Rattle.handlebars_html.specs.declared.rows.Row.TheVariants as row
use Rattle.handlebars_html.specs.declared.rows.Table.{Table}
use Rattle.handlebars_html.specs.declared.fault.HtmlFault.{HtmlFault}
use Rattle.handlebars_html.specs.declared.fault.HtmlFaultReason.{HtmlFaultReason}
use Rattle.handlebars_html.specs.declared.fault.HtmlFaultReason.TheVariants as reason

abbrev pub row_of : Row → rows.Row
row_of (row.Entering n h) = rows.entering (string_bytes n) (html_of h)
row_of (row.Leaving n h g) = rows.leaving (string_bytes n) (html_of h) (html_of g)

-- the rows of a table, in the order in which they were added
abbrev pub rows_of : Table → List rows.Row
rows_of t = map row_of t.rows.items

abbrev pub why_of : HtmlFaultReason → faults.Why
why_of (reason.UnsafeValue h) = faults.unsafe_value (html_of h)
why_of reason.UnreadValue = faults.unread_value
why_of reason.UnescapedValue = faults.unescaped_value
why_of (reason.ChangedText h) = faults.changed_text (html_of h)
why_of reason.LateAttribute = faults.late_attribute
why_of reason.ChangedAddress = faults.changed_address
why_of (reason.ChangedByIteration h g) = faults.changed_by_iteration (html_of h) (html_of g)
why_of (reason.ChangedByBlock h) = faults.changed_by_block (html_of h)
why_of (reason.CapturedTextIn h) = faults.captured_text_in (html_of h)
why_of reason.MadeInclusion = faults.made_inclusion
why_of reason.MadeBlock = faults.made_block
why_of reason.OtherIndent = faults.other_indent
why_of reason.ExpressionBodies = faults.expression_bodies
why_of reason.OtherEscape = faults.other_escape
why_of (reason.HelperWithSteps n) = faults.helper_with_steps (string_bytes n)
why_of (reason.MisplacedHelper n) = faults.misplaced_helper (string_bytes n)
why_of (reason.UserHook n) = faults.user_hook (string_bytes n)
why_of (reason.UserDecorator n) = faults.user_decorator (string_bytes n)

abbrev pub fault_of : HtmlFault → faults.Fault
fault_of f = record {
  template = option_map string_bytes f.template_name;
  line = f.line_no;
  column = f.column_no;
  why = why_of f.reason;
}
