-- What a caller's context and its output have at one moment.
use Rattle.handlebars_base.specs.Outputs.{Held}
use Rattle.handlebars_context.specs.View.{state_of}
use Rattle.handlebars_context.specs.declared.context.RenderContext.{RenderContext}
use Rattle.handlebars_write.specs.View.{Moment, text_only}

-- a moment outside of every inclusion
abbrev pub first_moment : RenderContext → Held → Moment
first_moment rc held = record { state = state_of rc; held = text_only held }
