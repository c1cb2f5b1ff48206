-- For what an element may fail by itself, not by a part of it.
use Rattle.std.proofs.Common.{◌≡◌, Bool, true, false, List, Some, None}
use Rattle.std.specs.List.{Contains}
use Rattle.std.specs.Str.{bytes_eq}
use Rattle.handlebars_base.specs.Answers.{gives, fails}
use Rattle.handlebars_base.specs.Bytes.{Text}
use Rattle.handlebars_base.specs.Reasons.{Reason, partial_not_found, partial_block_not_found, cannot_include_self, block_content_required, inclusion_limit, Refusal}
use Rattle.handlebars_template.specs.Tree.{Element, Call, call_name, call_args, is_value, Decorator, decorator_name, decorator_args, decorator_body, no_body}
use Rattle.handlebars_helpers.specs.Callee.{Target}
use Rattle.handlebars_helpers.specs.CallView.{CallView}
use Rattle.handlebars_helpers.specs.Decoration.{DecoratorKind, Action, sets_partial}
use Rattle.handlebars_semantics.specs.Execute.{view_with_bodies}
use Rattle.handlebars_semantics.specs.Inclusion.{is_nowhere, is_current, newest}
use Rattle.handlebars_semantics.specs.Including.{partial_block_name, this_param}
use Rattle.handlebars_semantics.specs.Means.{shown_tag}
use Rattle.handlebars_semantics.specs.Origins.{element_decorator, inclusion_tag, shown_call, is_lone, Calls, Finds}
use Rattle.handlebars_semantics.specs.Questions.{value_of, view_of, called_as, hook_for, choice_of, escape_of, decorator_of, actions_of, IsAnswered}
use Rattle.handlebars_semantics.specs.State.{Setting, State}

-- the view that a call or another tag has in a state
abbrev pub CallHas : Setting → Call → State → CallView → Type 0
CallHas p c s v = IsAnswered p s (view_of (call_name c) (call_args c)) (gives v)

abbrev pub TagHas : Setting → Decorator → State → CallView → Type 0
TagHas p t s v = IsAnswered p s (view_of (decorator_name t) (decorator_args t)) (gives v)

-- what the decorator of a tag answers for its view
pub record Acts (p : Setting) (t : Decorator) (s : State) (v : CallView) (all : List Action) : Type 0 where
  pub kind : DecoratorKind
  pub named : IsAnswered p s (decorator_of v.name) (gives kind)
  pub answers : IsAnswered p s (actions_of kind (shown_tag s.indent t v)) (gives all)

-- Why the element fails to which a run comes in a state: a question that it asks fails, in the order in which they are asked; an
-- inline partial has no body; or a name includes the template itself, or nothing, or one more template than the limit allows.
pub data FailsItself (p : Setting) (e : Element) (s : State) : Reason → Type 0 where
  for_view : {block : Bool} {c : Call} (r : Refusal) → shown_call e ≡ Some (block, c)
      → IsAnswered p s (view_of (call_name c) (call_args c)) (fails r) → FailsItself p e s r.reason
  for_call : {block : Bool} {c : Call} {v : CallView} (r : Refusal) → shown_call e ≡ Some (block, c) → CallHas p c s v
      → is_lone block c ≡ false → IsAnswered p s (called_as block c v) (fails r) → FailsItself p e s r.reason
  for_value : {c : Call} (r : Refusal) → shown_call e ≡ Some (false, c) → is_value c ≡ true
      → IsAnswered p s (value_of (call_name c)) (fails r) → FailsItself p e s r.reason
  for_hook : {c : Call} (r : Refusal) → shown_call e ≡ Some (false, c) → is_value c ≡ true
      → IsAnswered p s (hook_for (call_name c)) (fails r) → FailsItself p e s r.reason
  for_choice : {block : Bool} {c : Call} {v seen : CallView} {k : Target} (r : Refusal) → shown_call e ≡ Some (block, c)
      → CallHas p c s v → Calls p block c s v k seen
      → IsAnswered p s (choice_of k (view_with_bodies block c seen)) (fails r) → FailsItself p e s r.reason
  for_escape : (t : Text) (r : Refusal) → IsAnswered p s (escape_of t) (fails r) → FailsItself p e s r.reason
  for_decorator_view : {t : Decorator} (r : Refusal) → element_decorator e ≡ Some t
      → IsAnswered p s (view_of (decorator_name t) (decorator_args t)) (fails r) → FailsItself p e s r.reason
  for_decorator : {t : Decorator} {v : CallView} (r : Refusal) → element_decorator e ≡ Some t → TagHas p t s v
      → IsAnswered p s (decorator_of v.name) (fails r) → FailsItself p e s r.reason
  for_actions : {t : Decorator} {v : CallView} {kind : DecoratorKind} (r : Refusal) → element_decorator e ≡ Some t → TagHas p t s v
      → IsAnswered p s (decorator_of v.name) (gives kind)
      → IsAnswered p s (actions_of kind (shown_tag s.indent t v)) (fails r) → FailsItself p e s r.reason
  for_content : {t : Decorator} {v : CallView} {all : List Action} {name : Text} → element_decorator e ≡ Some t
      → TagHas p t s v → Acts p t s v all → Contains all (sets_partial name) → decorator_body t ≡ no_body
      → FailsItself p e s block_content_required
  for_inclusion_view : {t : Decorator} (r : Refusal) → inclusion_tag e ≡ Some t
      → IsAnswered p s (view_of (decorator_name t) (decorator_args t)) (fails r) → FailsItself p e s r.reason
  for_current_value : {t : Decorator} (r : Refusal) → inclusion_tag e ≡ Some t
      → IsAnswered p s (value_of this_param) (fails r) → FailsItself p e s r.reason
  for_itself : {t : Decorator} {v : CallView} → inclusion_tag e ≡ Some t → TagHas p t s v
      → is_current v.name s.current ≡ true → FailsItself p e s cannot_include_self
  for_nothing : {t : Decorator} {v : CallView} → inclusion_tag e ≡ Some t → TagHas p t s v
      → Finds p t s v is_nowhere → FailsItself p e s (partial_not_found v.name)
  for_no_block : {t : Decorator} {v : CallView} → inclusion_tag e ≡ Some t → TagHas p t s v
      → bytes_eq partial_block_name v.name ≡ true → newest s.captured ≡ None → decorator_body t ≡ no_body
      → FailsItself p e s partial_block_not_found
  for_limit : {t : Decorator} → inclusion_tag e ≡ Some t → FailsItself p e s (inclusion_limit p.parts.limit)
