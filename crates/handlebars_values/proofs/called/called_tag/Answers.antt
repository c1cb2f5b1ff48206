use Rattle.std.proofs.Common.{refl}
use Rattle.handlebars_template.proofs.Levels.{decorator_name-view, decorator_params-view, decorator_hash-view}
use Rattle.handlebars_semantics.specs.Asks.{goes_on, first_fails}
use Rattle.handlebars_expand.proofs.Values.{propagated}
use Rattle.handlebars_values.proofs.called.called_tag.Goals as goal

pub returns-in_err-name : goal.returns-in_err-name
returns-in_err-name g c = λ captured.
    rw (decorator_name-view c.args.tag.now, decorator_params-view c.args.tag.now, decorator_hash-view c.args.tag.now)
    (propagated _ _ _ _ c.from_residual.ensures.1 (λ other. first_fails (c.in_err-name.ensures captured other)))

pub returns-in_err-params : goal.returns-in_err-params
returns-in_err-params g c = λ captured.
    rw (decorator_name-view c.args.tag.now, decorator_params-view c.args.tag.now, decorator_hash-view c.args.tag.now)
    (propagated _ _ _ _ c.from_residual-in_err-params.ensures.1
    (λ other. goes_on (c.in_ok-name.ensures captured) (first_fails (c.in_err-params.ensures captured other))))

pub returns-in_err-hash : goal.returns-in_err-hash
returns-in_err-hash g c = λ captured.
    rw (decorator_name-view c.args.tag.now, decorator_params-view c.args.tag.now, decorator_hash-view c.args.tag.now)
    (propagated _ _ _ _ c.from_residual-in_err-hash.ensures.1
    (λ other. goes_on (c.in_ok-name.ensures captured) (goes_on (c.in_ok-params.ensures captured) (first_fails (c.in_err-hash.ensures captured other)))))

pub returns : goal.returns
returns g c = λ captured.
    rw (decorator_name-view c.args.tag.now, decorator_params-view c.args.tag.now, decorator_hash-view c.args.tag.now)
    (goes_on (c.in_ok-name.ensures captured) (goes_on (c.in_ok-params.ensures captured) (goes_on (c.in_ok-hash.ensures captured) refl)))
