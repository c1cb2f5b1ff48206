-- What the code builds from an expression: the calls that its open expressions stand for, and the call that it is.
use Rattle.std.specs.Prelude.{◌≡◌, Bool, true, false, ◌||◌, List, [], ◌∷◌, ◌++◌, map, reverse, Option, None, Some, option_map, is_some, MatchOption}
use Rattle.handlebars_base.specs.Bytes.{Text}
use Rattle.handlebars_base.specs.Optional.{with_or}
use Rattle.handlebars_base.specs.Path.{Reference}
use Rattle.handlebars_expressions.specs.Parameter.{path_term, name_term, Terms, no_terms, term}
use Rattle.handlebars_expressions.specs.Expression.{Expression}
use Rattle.handlebars_expressions.specs.ExpressionReading.{OpenExpression, OpenExpressions}
use Rattle.handlebars_expressions.specs.ExpressionView.{key_of}
use Rattle.handlebars_template.specs.Tree.{Call, Args, no_arguments, Param}
use Rattle.handlebars_template.specs.TreeView.{param_view, arguments_view}
use Rattle.handlebars_template.specs.Calls.{plain_call, param_of, arguments_in, call_of, literals_of, literals_in, first_rejected, expression_literals}
use Rattle.handlebars_template.specs.declared.template.build.OpenCall.{OpenCall as BuiltCall}
use Rattle.handlebars_template.specs.declared.template.build.OpenCalls.{OpenCalls as BuiltCalls}
use Rattle.handlebars_template.specs.declared.template.expression.BuiltExpression.{BuiltExpression}

-- ---- what the code holds

-- a call that is not yet closed: the key before it, its name, where it has one yet, and its arguments so far
pub record OpenCall : Type 0 where
  pub key : Option Text
  pub name : Option Param
  pub arguments : Args

-- the innermost call, those around it, and the first literal that was rejected
pub record OpenCalls : Type 0 where
  pub top : OpenCall
  pub around : List OpenCall
  pub rejected : Option Text

abbrev pub open_view : BuiltCall → OpenCall
open_view c =
    record { key = key_of c.key; name = option_map param_view c.name; arguments = arguments_view c.arguments }

-- the innermost first
abbrev pub around_view : List BuiltCall → List OpenCall
around_view cs = reverse (map open_view cs)

abbrev pub calls_view : BuiltCalls → OpenCalls
calls_view cs =
    record { top = open_view cs.top; around = around_view cs.around.items; rejected = key_of cs.rejected }

-- ---- what open expressions stand for

abbrev pub open_call_of : OpenExpression → OpenCall
open_call_of l =
    record { key = l.key; name = option_map param_of l.name; arguments = arguments_in no_arguments l.terms }

abbrev pub open_literals : OpenExpression → List Text
open_literals l = with_or l.name literals_of [] ++ literals_in l.terms

-- of the innermost expression and those around it, in the order of the text
abbrev pub literals_so_far : OpenExpression → List OpenExpression → List Text
literals_so_far l [] = open_literals l
literals_so_far l (o ∷ os) = literals_so_far o os ++ open_literals l

abbrev pub lacks_terms : Terms → Bool
lacks_terms no_terms = true
lacks_terms (term key t more) = false

-- If the name is still missing, there are no terms.
abbrev pub is_in_order : OpenExpression → Bool
is_in_order l = is_some l.name || lacks_terms l.terms

abbrev pub AreInOrder : OpenExpression → List OpenExpression → Type 0
AreInOrder l [] = is_in_order l ≡ true
AreInOrder l (o ∷ os) = (is_in_order l ≡ true) × AreInOrder o os

-- These calls are what these open expressions stand for.
pub record AreCallsOf (expressions : OpenExpressions) (calls : OpenCalls) : Type 0 where
  pub top : calls.top ≡ open_call_of expressions.top
  pub around : calls.around ≡ map open_call_of expressions.around
  pub rejected : calls.rejected ≡ first_rejected (literals_so_far expressions.top expressions.around)
  pub in_order : AreInOrder expressions.top expressions.around

-- If a step leads to open expressions, it was taken, and these calls are what they stand for. Otherwise it was not taken.
abbrev pub IsTaken : Option OpenExpressions → Bool → OpenCalls → Type 0
IsTaken None taken calls = taken ≡ false
IsTaken (Some expressions) taken calls = (taken ≡ true) × AreCallsOf expressions calls

-- ---- what an expression is built to

-- the one open expression after its last step
abbrev pub whole_expression : Expression → OpenExpression
whole_expression expression = record { key = None; name = Some expression.name; terms = expression.terms }

abbrev pub built_call : BuiltExpression → Call
built_call built = plain_call (param_view built.name) (arguments_view built.arguments)

-- the call that this expression is, and its first rejected literal
pub record IsCallOf (expression : Expression) (built : BuiltExpression) : Type 0 where
  pub call : built_call built ≡ call_of expression.name expression.terms
  pub rejected : key_of built.rejected ≡ first_rejected (expression_literals expression)

abbrev pub IsBuilt : Expression → Option BuiltExpression → Type 0
IsBuilt expression read = MatchOption read ⊥ (IsCallOf expression)

-- an expression that is a path alone
pub record IsPathAlone (expression : Expression) (means : Reference) : Type 0 where
  pub name : expression.name ≡ path_term means
  pub terms : expression.terms ≡ no_terms

-- an expression with a name given by its text, these arguments, and no literal that is rejected
pub record HasArguments (expression : Expression) (xs : Args) : Type 0 where
  pub name : Text
  pub is_name : expression.name ≡ name_term name
  pub arguments : xs ≡ arguments_in no_arguments expression.terms
  pub rejected : None ≡ first_rejected (literals_in expression.terms)
