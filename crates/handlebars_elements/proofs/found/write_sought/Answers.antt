use Rattle.std.proofs.Common.{refl, sym, ap, Some}
use Rattle.serde_json.specs.View.{view}
use Rattle.handlebars_base.specs.PathView.{reference_of}
use Rattle.handlebars_base.specs.Reasons.{invalid_json_index}
use Rattle.handlebars_base.specs.RenderRefusals.{plain_refusal}
use Rattle.handlebars_base.specs.Scoped.{value, walked}
use Rattle.handlebars_scope.specs.LineView.{line_of}
use Rattle.handlebars_semantics.specs.Values.{path_value}
use Rattle.handlebars_expand.specs.Boxed.{error_of}
use Rattle.handlebars_layers.specs.Destination.{names_found}
use Rattle.handlebars_layers.specs.FrameValues.{value_data}
use Rattle.handlebars_layers.specs.LayerView.{chain_of}
use Rattle.handlebars_layers.specs.PartialsView.{partials_of}
use Rattle.handlebars_values.specs.View.{setting_in, state_with}
use Rattle.handlebars_elements.proofs.FoundValues.{comes-to-error, comes-to-missing, comes-to-value, names-given, refused}
use Rattle.handlebars_elements.proofs.found.write_sought.Goals as goal

pub returns-in-Ok-Node-clause-writes : goal.returns-in-Ok-Node-clause-writes
returns-in-Ok-Node-clause-writes g c = λ occurrence location call v named same captured. rw c.written_by.ensures
    (let p = setting_in g.P.Registered.parts c.args.environment.now in
    let s = state_with captured c.args.run.now in
    let x = reference_of c.args.path.now in
    let found = walked (view c.in-Ok-Node.value.now) (names_found (path_value p s x)) in
    let is = rw c.in-Ok-Node.field-0-is at (c.in-Ok-Node.ensures.found captured) in
    comes-to-value p _ occurrence call v x named found (view c.in-Ok-Node.value.now) is refl
    (c.write_value.ensures.shows occurrence location.location found refl
    (λ on. rw (c.new.ensures.recursive, c.new.ensures.innermost, c.new.ensures.path) (ap (λ names. Some names) (names-given p s (partials_of c.args.run.now.partials) (chain_of c.args.environment.now.innermost.nearest.now)
    x (view c.in-Ok-Node.value.now) (names_found (path_value p s x)) refl is))) _ s (sym location.indent) (ap line_of (sym same)) refl))

pub returns-in-Ok-Value-Json-clause-writes : goal.returns-in-Ok-Value-Json-clause-writes
returns-in-Ok-Value-Json-clause-writes g c = λ occurrence location call v named same captured. rw c.written_by-in-Ok-Value-Json.ensures
    (let s = state_with captured c.args.run.now in
    let found = value (view c.in-Ok-Value-Json.value.now) in
    comes-to-value _ _ occurrence call v (reference_of c.args.path.now) named found (view c.in-Ok-Value-Json.value.now)
    (rw (c.in-Ok-Value-Json.field-0-is, c.in-Ok-Value-Json.field-0-0-is) at (c.in-Ok-Value-Json.ensures.found captured)) refl
    (c.write_value-in-Ok-Value-Json.ensures.shows occurrence location.location found (rw c.in-Ok-Value-Json.field-0-0-is refl) (λ on. refl) _ s (sym location.indent)
    (ap line_of (sym same)) refl))

pub returns-in-Ok-Value : goal.returns-in-Ok-Value
returns-in-Ok-Value g c = record {
  writes = λ occurrence location call v named same captured. rw c.written_by-in-Ok-Value.ensures
      (let s = state_with captured c.args.run.now in
      let d = value_data c.in-Ok-Value.variable in
      comes-to-value _ _ occurrence call v (reference_of c.args.path.now) named (value d) d
      (rw c.in-Ok-Value.field-0-is at (c.in-Ok-Value.ensures.found captured)) refl
      (c.write_variable.ensures.shows occurrence location.location (value d) refl (λ on. refl) _ s (sym location.indent)
      (ap line_of (sym same)) refl));
  same = c.write_variable.ensures.same;
}

pub returns-in-Ok-Nothing-clause-writes : goal.returns-in-Ok-Nothing-clause-writes
returns-in-Ok-Nothing-clause-writes g c = λ occurrence location call v named same captured. rw same
    (comes-to-missing _ _ occurrence call v (reference_of c.args.path.now) named
    (rw c.in-Ok-Nothing.field-0-is at (c.in-Ok-Nothing.ensures.found captured)))

pub returns-in-Ok-NoIndex-clause-writes : goal.returns-in-Ok-NoIndex-clause-writes
returns-in-Ok-NoIndex-clause-writes g c = λ occurrence location call v named same captured. rw c.failed.ensures
    (comes-to-error _ _ occurrence call v (reference_of c.args.path.now) named (error_of c.not_an_index.result)
    (refused (plain_refusal (invalid_json_index c.in-Ok-NoIndex.name.now)) _ (error_of c.not_an_index.result)
    (rw c.in-Ok-NoIndex.field-0-is at (c.in-Ok-NoIndex.ensures.found captured)) c.not_an_index.ensures))

pub returns-in-Err-clause-writes : goal.returns-in-Err-clause-writes
returns-in-Err-clause-writes g c = λ occurrence location call v named same captured. rw c.failed-in-Err.ensures
    (comes-to-error _ _ occurrence call v (reference_of c.args.path.now) named (error_of c.in-Err.e) (c.in-Err.ensures.found captured))
