use Rattle.std.proofs.Common.{Option, subst}
use Rattle.std.specs.Prelude.{IfSome}
use Rattle.handlebars_values.specs.ParamView.{IsOf}
use Rattle.handlebars_values.specs.declared.param_value.ParamValue.{ParamValue}
use Rattle.handlebars_values.proofs.by_first.decide_by_first.Goals as goal

pub returns-in-Some-clause-given : goal.returns-in-Some-clause-given
returns-in-Some-clause-given c = λ d of.
    c.decide_by_value.ensures.given d (subst (λ (o : Option ParamValue). IfSome o (IsOf d)) c.in-Some.is of)
