-- The name of a lone expression, and its value.
use Rattle.std.proofs.Common.{◌≡◌, Option, None, Some, true, refl, sym, ap, subst}
use Rattle.std.specs.Prelude.{unwrap_or}
use Rattle.serde_json.specs.Data.{Data}
use Rattle.handlebars_base.specs.Answers.{gives, fails}
use Rattle.handlebars_base.specs.Bytes.{Text}
use Rattle.handlebars_base.specs.Reasons.{Refusal}
use Rattle.handlebars_base.specs.Scoped.{Found, missing, value}
use Rattle.handlebars_base.specs.Path.{Reference, raw_of}
use Rattle.handlebars_template.specs.Tree.{Call, Element, Param, as_name, call, name, literal, path, subexpression, call_name, call_args, is_value, args, no_params, param, no_hash, hash_pair}
use Rattle.handlebars_semantics.specs.Asks.{goes_on, first_fails}
use Rattle.handlebars_semantics.specs.State.{Setting, State}
use Rattle.handlebars_semantics.specs.Values.{HasInnerValue, HasName, HasValue, HasView, callee_name}
use Rattle.handlebars_expand.specs.View.{name_alone}

None≢Some : {A : Type 0} {x : A} → None ≡ Some x → ⊥
None≢Some e = cc

-- a name alone is the whole view of a lone expression
module _ (p : Setting) (s : State) where
  pub view-alone : (c : Call) (t : Text) → is_value c ≡ true → HasName p s (call_name c) (gives t)
      → HasView p s (call_name c) (call_args c) (gives (name_alone t))
  view-alone (call n (args no_params no_hash) b bs m) t is named = goes_on named (goes_on refl (goes_on refl refl))
  view-alone (call n (args (param q qs) hs) b bs m) t is named = cc
  view-alone (call n (args no_params (hash_pair k q hs)) b bs m) t is named = cc

  -- ---- names, by their kinds

  -- a name or a path, by its text
  pub named-written : (q : Param) (t : Text) → as_name q ≡ Some t → HasName p s q (gives t)
  named-written (name n) t is = sym (ap (λ (o : Option Text). gives (unwrap_or o n)) is)
  named-written (path r) t is = sym (ap (λ (o : Option Text). gives (unwrap_or o (raw_of r))) is)
  named-written (literal d) t is = absurd (None≢Some is)
  named-written (subexpression e) t is = absurd (None≢Some is)

  pub named-name : (q : Param) (t : Text) → q ≡ name t → HasName p s q (gives t)
  named-name q t is = subst (λ (z : Param). HasName p s z (gives t)) (sym is) refl

  pub named-path : (q : Param) (r : Reference) (t : Text) → q ≡ path r → t ≡ raw_of r → HasName p s q (gives t)
  named-path q r t is same = subst (λ (z : Param). HasName p s z (gives t)) (sym is) (ap (λ (z : Text). gives z) same)

  pub lacks-name : (q : Param) (t : Text) → q ≡ name t → HasValue p s q (gives missing)
  lacks-name q t is = subst (λ (z : Param). HasValue p s z (gives missing)) (sym is) refl

  pub named-literal : (q : Param) (d : Data) → q ≡ literal d → HasName p s q (gives (callee_name (value d)))
  named-literal q d is = subst (λ (z : Param). HasName p s z (gives (callee_name (value d)))) (sym is) refl

  pub valued-literal : (q : Param) (d : Data) → q ≡ literal d → HasValue p s q (gives (value d))
  valued-literal q d is = subst (λ (z : Param). HasValue p s z (gives (value d))) (sym is) refl

  pub named-inner : (q : Param) (e : Element) (v : Found) → q ≡ subexpression e → HasInnerValue p s e (gives v)
      → HasName p s q (gives (callee_name v))
  named-inner q e v is g =
      subst (λ (z : Param). HasName p s z (gives (callee_name v))) (sym is) (goes_on g refl)

  pub valued-inner : (q : Param) (e : Element) (v : Found) → q ≡ subexpression e → HasInnerValue p s e (gives v)
      → HasValue p s q (gives v)
  valued-inner q e v is g = subst (λ (z : Param). HasValue p s z (gives v)) (sym is) g

  pub unnamed-inner : (q : Param) (e : Element) (r : Refusal) → q ≡ subexpression e → HasInnerValue p s e (fails r)
      → HasName p s q (fails r)
  unnamed-inner q e r is g = subst (λ (z : Param). HasName p s z (fails r)) (sym is) (first_fails g)
