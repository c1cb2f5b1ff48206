-- What the targets of calls choose, and their values in parentheses.
use Rattle.std.proofs.Common.{◌≡◌, Option, Some, Result, sym, subst}
use Rattle.handlebars_base.specs.Answers.{Answer, Answers, gives, fails}
use Rattle.handlebars_base.specs.Reasons.{Refusal}
use Rattle.handlebars_base.specs.declared.error.render_error.RenderError.{RenderError}
use Rattle.handlebars_scope.specs.LineState.{LineState}
use Rattle.handlebars_helpers.specs.CallView.{HelperView}
use Rattle.handlebars_helpers.specs.Callee.{Callee, LocalHelper, Target, built, user, calls_local, calls_registered}
use Rattle.handlebars_helpers.specs.Choice.{Choice}
use Rattle.handlebars_semantics.specs.Asks.{goes_on, first_fails}
use Rattle.handlebars_semantics.specs.Questions.{HasChoice, HasRegisteredChoice}
use Rattle.handlebars_semantics.specs.State.{Parts, Setting, State, bound_call, local_call}
use Rattle.handlebars_semantics.specs.Values.{HasHelpedValue}
use Rattle.handlebars_expand.specs.Bound.{dispatch}
use Rattle.handlebars_expand.specs.Targets.{ChoosesFor}

-- the local helper that was found
pub local_call-there : {T : Type 0} (seen : T → Callee × HelperView) (parts : Parts) (o : Option LocalHelper) (l : LocalHelper)
    (name : _) (h : HelperView) (r : Result T RenderError) → Some l ≡ o
    → Answers seen r (bound_call l h (parts.helper l.registered)) → Answers seen r (local_call parts o name h)
local_call-there seen parts o l name h r is a =
    subst (λ (z : Option LocalHelper). Answers seen r (local_call parts z name h)) is a

module _ (p : Setting) (s : State) where
  -- ---- what a target calls chooses for it

  pub chooses-bound : (k : Target) (h : HelperView) (x : Callee × HelperView) → dispatch p.parts s.local k h ≡ gives x
      → ChoosesFor p s x.0 x.1 k h
  chooses-bound (calls_registered k) h x is a has =
      let same : x ≡ (k, h) = cc in
      subst (λ (z : Callee × HelperView). HasRegisteredChoice p s z.0 z.1 a) same has
  chooses-bound (calls_local name) h x is a has = goes_on (sym is) has

  pub fails-bound : (k : Target) (h : HelperView) (r : Refusal) → dispatch p.parts s.local k h ≡ fails r
      → HasChoice p s k h (fails r)
  fails-bound (calls_registered k) h r is = cc
  fails-bound (calls_local name) h r is = first_fails (sym is)

  pub value-unbound : (k : Target) (h : HelperView) (r : Refusal) → dispatch p.parts s.local k h ≡ fails r
      → HasHelpedValue p s (Some k) h (fails r)
  value-unbound (calls_registered k) h r is = cc
  value-unbound (calls_local name) h r is = first_fails (sym is)

  -- ---- choices read no line

  registered-after : (l : LineState) (k : Callee) (h : HelperView) (a : Answer Choice)
      → HasRegisteredChoice p s k h a → HasRegisteredChoice p (record s { line = l }) k h a
  registered-after l (built kind) h a has = has
  registered-after l (user name) h a has = has

  pub choice-line : (l : LineState) (k : Target) (h : HelperView) (a : Answer Choice)
      → HasChoice p s k h a → HasChoice p (record s { line = l }) k h a
  choice-line l (calls_registered k) h a has = registered-after l k h a has
  choice-line l (calls_local name) h _ (goes_on {x = x} {a = a} is has) = goes_on is (registered-after l x.0 x.1 a has)
  choice-line l (calls_local name) h _ (first_fails is) = first_fails is

  -- in a state that differs in its line
  pub choice-entered : (mid : State) (l : LineState) (k : Target) (h : HelperView) (a : Answer Choice)
      → mid ≡ record s { line = l } → HasChoice p s k h a → HasChoice p mid k h a
  choice-entered mid l k h a is has = subst (λ (z : State). HasChoice p z k h a) (sym is) (choice-line l k h a has)
