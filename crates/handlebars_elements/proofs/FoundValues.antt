-- What writing the value of a path comes to.
use Rattle.std.proofs.Common.{◌≡◌, ◌≢◌, List, Option, Some, None, Err, sym, ap, ◌∙◌, subst}
use Rattle.std.specs.Prelude.{unwrap_or}
use Rattle.std.specs.declared.io.Error.{Error}
use Rattle.serde_json.specs.Data.{Data}
use Rattle.handlebars_base.specs.Answers.{Answer, IsRefusal, gives, fails, answer_map}
use Rattle.handlebars_base.specs.Bytes.{Text}
use Rattle.handlebars_base.specs.Path.{Reference}
use Rattle.handlebars_base.specs.Reasons.{Refusal, out_of_memory}
use Rattle.handlebars_base.specs.RenderRefusals.{reason_in, refusal_of}
use Rattle.handlebars_base.specs.Scoped.{Found, walked, value, missing, present_in}
use Rattle.handlebars_base.specs.declared.error.render_error.RenderError.{RenderError}
use Rattle.handlebars_template.specs.Tree.{Call, Param, call_name, path}
use Rattle.handlebars_scope.specs.Resolve.{resolve}
use Rattle.handlebars_scope.specs.Scopes.{Frame}
use Rattle.handlebars_helpers.specs.CallView.{CallView}
use Rattle.handlebars_semantics.specs.Means.{render_found, render_lone_as}
use Rattle.handlebars_semantics.specs.Occurrences.{Occurrence}
use Rattle.handlebars_semantics.specs.Questions.{value_of}
use Rattle.handlebars_semantics.specs.State.{Setting, State}
use Rattle.handlebars_semantics.specs.Steps.{Steps, ask, ◌>>=◌}
use Rattle.handlebars_semantics.specs.Values.{HasValue, as_read, path_value, without_path}
use Rattle.handlebars_semantics.specs.Writing.{write_value}
use Rattle.handlebars_expand.proofs.Asked.{gives-ask, fails-ask}
use Rattle.handlebars_layers.specs.Chain.{Chain, frames}
use Rattle.handlebars_layers.specs.Destination.{names_found}
use Rattle.handlebars_layers.specs.ScopeFrames.{ByDepth, scope_frames}
use Rattle.handlebars_layers.proofs.ScopeFrames.{ignore-partials}
use Rattle.handlebars_write.specs.View.{Answered, Holding, Moment, RefinesProg, RefinesSteps, moment_at}
use Rattle.handlebars_write.proofs.Refinement.{refines-value, refines_prog-no_value, refines_prog-value}

-- ---- the names of a value of the data

-- changed data give no value with a path
unwalked : (a : Answer Found) (d : Data) (names : List Text) → gives (walked d names) ≡ answer_map without_path a → ⊥
unwalked (gives (walked e more)) d names is = cc
unwalked (gives (value e)) d names is = cc
unwalked (gives missing) d names is = cc
unwalked (fails r) d names is = cc

-- The names of a value of the data are those in the given data: partials of scope frames lead nowhere.
read-names : (changed : Option Data) (recursive : _) (at : ByDepth) (layers : Chain) (r : Reference) (given d : Data) (names : List Text)
    → gives (walked d names) ≡ as_read changed (resolve recursive (scope_frames at layers) r (unwrap_or changed given))
    → names_found (as_read changed (resolve recursive (scope_frames at layers) r (unwrap_or changed given)))
    ≡ names_found (resolve recursive (frames layers) r given)
read-names None recursive at layers r given d names is = ap names_found (ignore-partials at layers recursive r given)
read-names (Some changed) recursive at layers r given d names is =
    absurd (unwalked (resolve recursive (scope_frames at layers) r changed) d names is)

pub names-given : (p : Setting) (s : State) (at : ByDepth) (layers : Chain) (r : Reference) (d : Data) (names : List Text)
    → s.blocks ≡ scope_frames at layers → gives (walked d names) ≡ path_value p s r
    → names_found (path_value p s r) ≡ names_found (resolve s.recursive (frames layers) r p.given)
names-given p s at layers r d names here is =
    let same = ap (λ (fs : List Frame). as_read s.changed (resolve s.recursive fs r (unwrap_or s.changed p.given))) here in
    ap names_found same ∙ read-names s.changed s.recursive at layers r p.given d names (is ∙ same)

-- ---- what a path leads to

present≢missing : (d : Data) → present_in missing ≡ Some d → ⊥
present≢missing d is = cc

module _ (p : Setting) (may : Error → Type 0) (occurrence : Occurrence) (c : Call) (v : CallView) (x : Reference)
    (named : call_name c ≡ path x) where
  has-value : (s : State) (a : Answer Found) → a ≡ path_value p s x → HasValue p s (call_name c) a
  has-value s a is = subst (λ (z : Param). HasValue p s z a) (sym named) is

  found-written : (found : Found) (d : Data) {before after : Moment} {r : Answered} → present_in found ≡ Some d
      → RefinesProg p (write_value occurrence found) may before r after → RefinesProg p (render_found occurrence c v found) may before r after
  found-written (walked e names) d is a = a
  found-written (value e) d is a = a
  found-written missing d is a = absurd (present≢missing d is)

  -- a value that is written
  pub comes-to-value : (found : Found) (d : Data) {s : State} {h : Holding} {after : Moment} {r : Answered}
      → gives found ≡ path_value p s x → present_in found ≡ Some d → RefinesProg p (write_value occurrence found) may (moment_at s h) r after
      → RefinesProg p (render_lone_as occurrence c v None) may (moment_at s h) r after
  comes-to-value found d is there a = refines_prog-value p may (ask (value_of (call_name c))) (render_found occurrence c v)
      (gives-ask p (value_of (call_name c)) found (has-value _ (gives found) is)) (found-written found d there a)

  -- no value
  pub comes-to-missing : {s : State} {h : Holding} → gives missing ≡ path_value p s x
      → (next : Unit {0} → Steps) (r : Answered) (last : Moment)
      → RefinesSteps p (render_found occurrence c v missing next) may (moment_at s h) r last
      → RefinesSteps p (render_lone_as occurrence c v None next) may (moment_at s h) r last
  unfolding ◌>>=◌
  comes-to-missing is next r last a = refines-value p may (ask (value_of (call_name c))) (λ z. render_found occurrence c v z next)
      (gives-ask p (value_of (call_name c)) missing (has-value _ (gives missing) is)) a

  -- an error
  pub comes-to-error : (e : RenderError) {s after : State} {h : Holding}
      → (reason_in e ≢ out_of_memory → path_value p s x ≡ fails (refusal_of e))
      → RefinesProg p (render_lone_as occurrence c v None) may (moment_at s h) (Err e) (moment_at after h)
  comes-to-error e is = refines_prog-no_value p may (ask (value_of (call_name c))) (render_found occurrence c v) e
      (λ other. fails-ask p (value_of (call_name c)) (has-value _ (fails (refusal_of e)) (sym (is other))))

-- a refusal that was found
pub refused : (why : Refusal) (a : Answer Found) (e : RenderError) → fails why ≡ a → IsRefusal why e
    → reason_in e ≢ out_of_memory → a ≡ fails (refusal_of e)
refused why a e found is other = sym found ∙ ap (λ (z : Refusal). fails z) (sym (is other))
