-- What parameters and calls evaluate to in a state: values, or errors. Evaluation writes nothing and does not change the
-- state.
use Rattle.std.specs.Prelude.{◌≡◌, Bool, true, false, List, [], ◌∷◌, ◌++◌, Option, Some, None, unwrap_or}
use Rattle.serde_json.specs.Data.{Data, null, string}
use Rattle.handlebars_base.specs.Answers.{Answer, gives, fails_for, answer_map}
use Rattle.handlebars_base.specs.Bytes.{Text}
use Rattle.handlebars_base.specs.Path.{Reference, raw_of, IsPath}
use Rattle.handlebars_base.specs.PathAndData.{PathAndData}
use Rattle.handlebars_base.specs.Reasons.{helper_not_found, invalid_json_path}
use Rattle.handlebars_base.specs.Scoped.{Found, walked, value, missing, data_in}
use Rattle.handlebars_base.specs.Values.{rendered}
use Rattle.handlebars_template.specs.Tree.{Element, escaped_expression, call, Args, args, args_params, args_hash, Param, name, path, literal, subexpression, Params, no_params, param, Hash, no_hash, hash_pair, as_name, Binding, no_body}
use Rattle.handlebars_scope.specs.Resolve.{resolve}
use Rattle.handlebars_scope.specs.Scopes.{Frame}
use Rattle.handlebars_helpers.specs.CallView.{CallView, HelperView}
use Rattle.handlebars_helpers.specs.Callee.{Callee, built, user, Target, calls_registered, calls_local}
use Rattle.handlebars_helpers.specs.Choice.{Choice, value_in, built_in_choice}
use Rattle.handlebars_helpers.specs.UserHelper.{HelperQuestion, Step, writes, renders_body, renders_inverse, renders_body_in, Offer, not_offered, offers_missing, offers}
use Rattle.handlebars_semantics.specs.Asks.{Asks, only, ◌>>=◌}
use Rattle.handlebars_semantics.specs.State.{Setting, State, helper_for, data_at, local_call}

-- ---- values as they are written

abbrev pub is_literal : Param → Bool
is_literal (name n) = false
is_literal (path r) = false
is_literal (literal d) = true
is_literal (subexpression e) = false

-- A value together with the text of its parameter, if that is a name or a path.
abbrev pub as_written : Param → Found → PathAndData
as_written q found = record { relative_path = as_name q; found = found; is_constant = is_literal q }

-- ---- calls in parentheses

-- In parentheses the bodies of a call count as absent.
abbrev pub view_without_bodies : Binding → CallView → HelperView
view_without_bodies b v = record { call = v; binding = b; body = no_body; inverse = no_body; block = false }

-- In parentheses a chosen value is itself. Without bodies nothing else that is chosen writes a text there.
abbrev pub choice_value : Choice → Found
choice_value choice = value (unwrap_or (value_in choice) (string []))

-- ---- user-defined helpers

-- what one is asked about in a state
abbrev pub helper_question : Setting → State → HelperView → HelperQuestion
helper_question p s h = record { view = h; given = p.given; changed = s.changed; strict = p.parts.strict }

-- what it answers when it is called, and when it is asked for a value
abbrev pub HasSteps : Setting → State → Text → HelperView → Asks (Option (List Step))
HasSteps p s called h = (p.parts.user called).has_steps (helper_question p s h)

abbrev pub HasOffer : Setting → State → Text → HelperView → Asks Offer
HasOffer p s called h = (p.parts.user called).has_offer (helper_question p s h)

-- In parentheses only steps that write a text write, since there is no body.
abbrev pub step_text : Step → Text
step_text (writes t) = t
step_text renders_body = []
step_text renders_inverse = []
step_text (renders_body_in f) = []

abbrev pub steps_text : List Step → Text
steps_text [] = []
steps_text (step ∷ steps) = step_text step ++ steps_text steps

abbrev pub text_if_any : Option (List Step) → Found
text_if_any None = value (string [])
text_if_any (Some steps) = value (string (steps_text steps))

-- In parentheses it is asked for a value first. If it offers none, the text that it writes is the value.
abbrev pub offer_or_text : Setting → State → Text → HelperView → Offer → Asks Found
offer_or_text p s called h not_offered = HasSteps p s called h >>= (λ steps. only (gives (text_if_any steps)))
offer_or_text p s called h offers_missing = only (gives missing)
offer_or_text p s called h (offers d) = only (gives (value d))

-- the value of a call of this view, which calls this registered helper
abbrev pub HasRegisteredValue : Setting → State → Callee → HelperView → Asks Found
HasRegisteredValue p s (built kind) h = only (answer_map choice_value (built_in_choice p.parts.strict kind h))
HasRegisteredValue p s (user called) h = HasOffer p s called h >>= offer_or_text p s called h

-- the value of a call of this view, which calls this target
abbrev pub HasHelpedValue : Setting → State → Option Target → HelperView → Asks Found
HasHelpedValue p s None h = only (fails_for (helper_not_found h.call.name))
HasHelpedValue p s (Some (calls_registered k)) h = HasRegisteredValue p s k h
HasHelpedValue p s (Some (calls_local called)) h =
    only (local_call p.parts (s.local called) called h) >>= (λ c. HasRegisteredValue p s c.0 c.1)

-- ---- values of the data

-- A value without its path; a missing one is null.
abbrev pub without_path : Found → Found
without_path (walked d names) = value d
without_path (value d) = value d
without_path missing = value null

-- What a path leads to, as it is read: if the data was changed, no value has a path, and none is missing.
abbrev pub as_read : Option Data → Answer Found → Answer Found
as_read None a = a
as_read (Some changed) a = answer_map without_path a

-- what a path leads to in a state
abbrev pub path_value : Setting → State → Reference → Answer Found
path_value p s r = as_read s.changed (resolve s.recursive s.blocks r (data_at p s))

-- ---- parameters and calls

-- A call by a name or a path calls its text; by another parameter it calls the text of its value.
abbrev pub callee_name : Found → Text
callee_name v = rendered (data_in v)

abbrev pub is_written : Param → Asks Found → Asks PathAndData
is_written q valued = valued >>= (λ v. only (gives (as_written q v)))

-- The view of a call or of another tag: its name is evaluated first, then the parameters in order, then the hash arguments in
-- order of key.
abbrev pub is_viewed : Asks Text → Asks (List PathAndData) → Asks (List (Text × PathAndData)) → Asks CallView
is_viewed named valued paired =
    named >>= (λ called. valued >>= (λ vs. paired >>= (λ ws.
    only (gives (record { name = called; params = vs; hash = ws })))))

abbrev mutual
  -- A name alone has no value. A path has the value that it leads to in the scope frames and the data. A literal is itself.
  pub HasValue : Setting → State → Param → Asks Found
  HasValue p s (name n) = only (gives missing)
  HasValue p s (path r) = only (path_value p s r)
  HasValue p s (literal d) = only (gives (value d))
  HasValue p s (subexpression e) = HasInnerValue p s e

  -- An expression in parentheses is a call, even without parameters. Nothing else there has a value.
  pub HasInnerValue : Setting → State → Element → Asks Found
  HasInnerValue p s (escaped_expression (call n (args ps hs) b t marks)) =
      is_viewed (HasName p s n) (HaveValues p s ps) (HashHasValues p s hs) >>= (λ v.
      HasHelpedValue p s (helper_for p.parts s false v.name) (view_without_bodies b v))
  HasInnerValue p s e = only (gives missing)

  -- the text that a call by this parameter calls
  pub HasName : Setting → State → Param → Asks Text
  HasName p s (name n) = only (gives n)
  HasName p s (path r) = only (gives (raw_of r))
  HasName p s (literal d) = only (gives (rendered d))
  HasName p s (subexpression e) = HasInnerValue p s e >>= (λ v. only (gives (callee_name v)))

  pub HaveValues : Setting → State → Params → Asks (List PathAndData)
  HaveValues p s no_params = only (gives [])
  HaveValues p s (param q qs) =
      is_written q (HasValue p s q) >>= (λ v. HaveValues p s qs >>= (λ vs. only (gives (v ∷ vs))))

  pub HashHasValues : Setting → State → Hash → Asks (List (Text × PathAndData))
  HashHasValues p s no_hash = only (gives [])
  HashHasValues p s (hash_pair k q hs) =
      is_written q (HasValue p s q) >>= (λ v. HashHasValues p s hs >>= (λ vs. only (gives ((k, v) ∷ vs))))

-- the view of a call or of another tag, by its name and its arguments
abbrev pub HasView : Setting → State → Param → Args → Asks CallView
HasView p s n xs =
    is_viewed (HasName p s n) (HaveValues p s (args_params xs)) (HashHasValues p s (args_hash xs))

-- the value of a parameter, with its text as written
abbrev pub HasWrittenValue : Setting → State → Param → Asks PathAndData
HasWrittenValue p s q = is_written q (HasValue p s q)

-- ---- texts as paths

-- A text that is a path evaluates to what it leads to in these scope frames and this data. Any other text fails with
-- `invalid_json_path`.
pub data Evaluates (recursive : Bool) (blocks : List Frame) (given : Data) (text : Text) : Answer Found → Type 0 where
  leads : {r : Reference} {a : Answer Found} → IsPath text r → resolve recursive blocks r given ≡ a
      → Evaluates recursive blocks given text a
  leads_nowhere : ((r : Reference) → IsPath text r → ⊥)
      → Evaluates recursive blocks given text (fails_for (invalid_json_path text))
