-- The causes of errors.
use Rattle.std.proofs.Common.{◌≡◌, Bool, true, false, ◌∙◌}
use Rattle.std.specs.declared.io.Error.{Error}
use Rattle.handlebars_base.specs.RenderRefusals.{reason_in, cause_of}
use Rattle.handlebars_base.specs.declared.error.render_error.RenderError.{RenderError}
use Rattle.handlebars_write.specs.View.{ReportsCause}

-- a cause that both errors report
pub cause-as : (cause : Error) (at_boolean_text : Bool) (e d : RenderError) → reason_in d ≡ reason_in e → cause_of d ≡ cause_of e
    → ReportsCause cause at_boolean_text e → ReportsCause cause at_boolean_text d
cause-as cause false e d reason unchanged reports = (reason ∙ reports.0, unchanged ∙ reports.1)
cause-as cause true e d reason unchanged reports = (reports.0, reason ∙ reports.1)
