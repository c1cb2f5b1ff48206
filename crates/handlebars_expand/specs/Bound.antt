-- What calls are dispatched to.
use Rattle.std.specs.Prelude.{Option}
use Rattle.handlebars_base.specs.Answers.{Answer, gives}
use Rattle.handlebars_base.specs.Bytes.{Text}
use Rattle.handlebars_helpers.specs.CallView.{HelperView}
use Rattle.handlebars_helpers.specs.Callee.{Callee, LocalHelper, Target, calls_registered, calls_local}
use Rattle.handlebars_semantics.specs.State.{Parts, local_call}

-- the callee that a target calls for a call of this view, and the view that it is called with
abbrev pub dispatch : Parts → (Text → Option LocalHelper) → Target → HelperView → Answer (Callee × HelperView)
dispatch parts local (calls_registered k) h = gives (k, h)
dispatch parts local (calls_local name) h = local_call parts (local name) name h
