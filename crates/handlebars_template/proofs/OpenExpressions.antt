-- The code's open calls stand for the open expressions of an expression, after every step.
use Rattle.std.proofs.Common.{◌≡◌, ◌∙◌, Bool, true, false, cond, List, [], ◌∷◌, ◌++◌, map, Option, Some, None, refl, sym, ap, append_assoc}
use Rattle.std.proofs.lemmas.List.{append-nil}
use Rattle.std.proofs.lemmas.Option.{same_Some, none-some}
use Rattle.std.specs.Prelude.{is_some, option_map, unwrap_or}
use Rattle.serde_json.specs.Data.{Data, null}
use Rattle.handlebars_base.specs.Bytes.{Text}
use Rattle.handlebars_base.specs.Path.{Reference}
use Rattle.handlebars_base.specs.Optional.{with_or}
use Rattle.handlebars_expressions.specs.Parameter.{Term, literal_term, path_term, name_term, call_term, Terms, no_terms, term}
use Rattle.handlebars_expressions.specs.ExpressionReading.{OpenExpression, joined, add_term, OpenExpressions, added_in, closed_in}
use Rattle.handlebars_expressions.specs.LiteralValueReading.{literal_value_of}
use Rattle.handlebars_template.specs.Tree.{escaped_expression, Param, name, path, literal, subexpression, Args}
use Rattle.handlebars_template.specs.Calls.{add_argument, call_with, param_of, arguments_in, literals_of, literals_in, first_rejected}
use Rattle.handlebars_template.specs.ExpressionBuildingView.{OpenCall, OpenCalls, open_call_of, open_literals, literals_so_far, is_in_order, AreInOrder, AreCallsOf, IsTaken}

abbrev open_expression : Option Text → Option Term → Terms → OpenExpression
open_expression key n terms = record { key = key; name = n; terms = terms }

-- ---- one term more

pub arguments_in_joined : (ts : Terms) (xs : Args) (key : Option Text) (t : Term) → arguments_in xs (joined ts (term key t no_terms)) ≡ add_argument key (param_of t) (arguments_in xs ts)
arguments_in_joined no_terms xs key t = refl
arguments_in_joined (term k u ts) xs key t = arguments_in_joined ts (add_argument k (param_of u) xs) key t

-- ---- literals

literals_in-joined : (ts : Terms) (key : Option Text) (t : Term) → literals_in (joined ts (term key t no_terms)) ≡ literals_in ts ++ literals_of t
literals_in-joined no_terms key t = append-nil (literals_of t)
literals_in-joined (term k u ts) key t =
    ap (λ (z : List Text). literals_of u ++ z) (literals_in-joined ts key t) ∙ sym (append_assoc (literals_of u) (literals_in ts) (literals_of t))

open_literals-by : (own : Option Text) (n : Option Term) (ts : Terms) (key : Option Text) (t : Term) → is_in_order (open_expression own n ts) ≡ true
    → open_literals (add_term key t (open_expression own n ts)) ≡ open_literals (open_expression own n ts) ++ literals_of t
open_literals-by own None no_terms key t h = append-nil (literals_of t)
open_literals-by own None (term k u ts) key t h = absurd cc
open_literals-by own (Some n) ts key t h =
    ap (λ (z : List Text). literals_of n ++ z) (literals_in-joined ts key t) ∙ sym (append_assoc (literals_of n) (literals_in ts) (literals_of t))

literals-added : (l : OpenExpression) (os : List OpenExpression) (key : Option Text) (t : Term) → AreInOrder l os
    → literals_so_far (add_term key t l) os ≡ literals_so_far l os ++ literals_of t
literals-added l [] key t h = open_literals-by l.key l.name l.terms key t h
literals-added l (o ∷ os) key t h =
    ap (λ (z : List Text). literals_so_far o os ++ z) (open_literals-by l.key l.name l.terms key t h.0)
    ∙ sym (append_assoc (literals_so_far o os) (open_literals l) (literals_of t))

-- the first rejected literal counts
first_rejected-append : (xs ys : List Text) → first_rejected (xs ++ ys) ≡ with_or (first_rejected xs) (λ raw. Some raw) (first_rejected ys)
first_rejected-append [] ys = refl
first_rejected-append (x ∷ xs) ys = on (is_some (literal_value_of x)) (first_rejected-append xs ys)
  where
    on : (b : Bool) → first_rejected (xs ++ ys) ≡ with_or (first_rejected xs) (λ raw. Some raw) (first_rejected ys)
        → cond b (first_rejected (xs ++ ys)) (Some x) ≡ with_or (cond b (first_rejected xs) (Some x)) (λ raw. Some raw) (first_rejected ys)
    on true more = more
    on false more = refl

with_or-none : (o : Option Text) → o ≡ with_or o (λ raw. Some raw) None
with_or-none None = refl
with_or-none (Some x) = refl

with_or-some : (o : Option Text) (raw : Text) → Some (unwrap_or o raw) ≡ with_or o (λ raw. Some raw) (Some raw)
with_or-some None raw = refl
with_or-some (Some x) raw = refl

-- none of these literals is rejected
rejected-none : (xs ys : List Text) → None ≡ first_rejected ys → first_rejected xs ≡ first_rejected (xs ++ ys)
rejected-none xs ys none = with_or-none (first_rejected xs) ∙ ap (with_or (first_rejected xs) (λ raw. Some raw)) none ∙ sym (first_rejected-append xs ys)

-- ---- the order

in_order-by : (own : Option Text) (n : Option Term) (ts : Terms) (key : Option Text) (t : Term) → is_in_order (add_term key t (open_expression own n ts)) ≡ true
in_order-by own None ts key t = refl
in_order-by own (Some n) ts key t = refl

in_order-added : (l : OpenExpression) (os : List OpenExpression) (key : Option Text) (t : Term) → AreInOrder l os → AreInOrder (add_term key t l) os
in_order-added l [] key t h = in_order-by l.key l.name l.terms key t
in_order-added l (o ∷ os) key t h = (in_order-by l.key l.name l.terms key t, h.1)

-- ---- a step

-- The innermost call has one term more, and the first of all literals that is rejected is recorded.
pub calls-added : (expressions : OpenExpressions) (calls after : OpenCalls) (key : Option Text) (t : Term) → AreCallsOf expressions calls
    → after.top ≡ open_call_of (add_term key t expressions.top) → after.around ≡ calls.around → after.rejected ≡ first_rejected (literals_so_far expressions.top expressions.around ++ literals_of t)
    → AreCallsOf (added_in key t expressions) after
calls-added expressions calls after key t h top around rejected = record {
  top = top;
  around = around ∙ h.around;
  rejected = rejected ∙ ap first_rejected (sym (literals-added expressions.top expressions.around key t h.in_order));
  in_order = in_order-added expressions.top expressions.around key t h.in_order;
}

-- what adding a term to the innermost call does to it
abbrev pub IsAdded : OpenCall → Option Text → Param → OpenCall → Type 0
IsAdded c key p c' = (expression : OpenExpression) (t : Term) → c ≡ open_call_of expression → p ≡ param_of t → c' ≡ open_call_of (add_term key t expression)

pub calls-literal : (expressions : OpenExpressions) (calls after : OpenCalls) (key : Option Text) (raw : Text) (d : Data) → AreCallsOf expressions calls
    → IsAdded calls.top key (literal d) after.top → after.around ≡ calls.around → after.rejected ≡ calls.rejected → Some d ≡ literal_value_of raw
    → AreCallsOf (added_in key (literal_term raw) expressions) after
calls-literal expressions calls after key raw d h added around rejected has_value =
    calls-added expressions calls after key (literal_term raw) h (added expressions.top (literal_term raw) h.top (rw (sym has_value) refl)) around
    (rejected ∙ h.rejected ∙ rejected-none (literals_so_far expressions.top expressions.around) (raw ∷ []) (rw (sym has_value) refl))

pub calls-worthless : (expressions : OpenExpressions) (calls after : OpenCalls) (key : Option Text) (raw : Text) → AreCallsOf expressions calls
    → IsAdded calls.top key (literal null) after.top → after.around ≡ calls.around → after.rejected ≡ Some (unwrap_or calls.rejected raw) → None ≡ literal_value_of raw
    → AreCallsOf (added_in key (literal_term raw) expressions) after
calls-worthless expressions calls after key raw h added around rejected worthless =
    let before : List Text = literals_so_far expressions.top expressions.around in
    let last : Some raw ≡ first_rejected (raw ∷ []) = rw (sym worthless) refl in
    calls-added expressions calls after key (literal_term raw) h (added expressions.top (literal_term raw) h.top (rw (sym worthless) refl)) around
    (rejected ∙ ap (λ (o : Option Text). Some (unwrap_or o raw)) h.rejected ∙ with_or-some (first_rejected before) raw
    ∙ ap (with_or (first_rejected before) (λ r. Some r)) last ∙ sym (first_rejected-append before (raw ∷ [])))

pub calls-path : (expressions : OpenExpressions) (calls after : OpenCalls) (key : Option Text) (means : Reference) (o : Option Reference) → AreCallsOf expressions calls
    → IsAdded calls.top key (path means) after.top → after.around ≡ calls.around → after.rejected ≡ calls.rejected → Some means ≡ o
    → IsTaken (option_map (λ r. added_in key (path_term r) expressions) o) true after
calls-path expressions calls after key means o h added around rejected some =
    rw (sym some) (
      refl,
      calls-added expressions calls after key (path_term means) h (added expressions.top (path_term means) h.top refl) around
          (rejected ∙ h.rejected ∙ rejected-none (literals_so_far expressions.top expressions.around) [] refl),
    )

pub calls-name : (expressions : OpenExpressions) (calls after : OpenCalls) (key : Option Text) (n : Text) → AreCallsOf expressions calls
    → IsAdded calls.top key (name n) after.top → after.around ≡ calls.around → after.rejected ≡ calls.rejected → AreCallsOf (added_in key (name_term n) expressions) after
calls-name expressions calls after key n h added around rejected =
    calls-added expressions calls after key (name_term n) h (added expressions.top (name_term n) h.top refl) around
    (rejected ∙ h.rejected ∙ rejected-none (literals_so_far expressions.top expressions.around) [] refl)

-- ---- the end of a call

abbrev first_of : OpenCall → List OpenCall → OpenCall
first_of c [] = c
first_of c (d ∷ ds) = d

abbrev rest_of : List OpenCall → List OpenCall
rest_of [] = []
rest_of (d ∷ ds) = ds

abbrev pub as_term : OpenCall → Option Param
as_term c = option_map (λ n. subexpression (escaped_expression (call_with n c.arguments))) c.name

-- the innermost call becomes a term of the one around it
pub closed-call : (expressions : OpenExpressions) (calls after : OpenCalls) (outer : OpenCall) (outermost : List OpenCall) (p : Param) → AreCallsOf expressions calls
    → calls.around ≡ outer ∷ outermost → Some p ≡ as_term calls.top
    → IsAdded outer calls.top.key p after.top → after.around ≡ outermost → after.rejected ≡ calls.rejected → IsTaken (closed_in expressions.top expressions.around) true after
closed-call expressions calls after outer outermost p h around is added around' rejected =
    on expressions.around expressions.top.name (sym h.around ∙ around) (is ∙ ap as_term h.top) h.in_order h.rejected
  where
    expression : Option Term → OpenExpression
    expression m = open_expression expressions.top.key m expressions.top.terms

    on : (os : List OpenExpression) (m : Option Term) → map open_call_of os ≡ outer ∷ outermost → Some p ≡ as_term (open_call_of (expression m)) → AreInOrder (expression m) os
        → calls.rejected ≡ first_rejected (literals_so_far (expression m) os) → IsTaken (closed_in (expression m) os) true after
    on [] m e f order first = absurd cc
    on (o ∷ os) None e f order first = absurd (none-some p (sym f))
    on (o ∷ os) (Some t) e f order first =
        let term : Term = call_term t expressions.top.terms in
        let same : p ≡ param_of term = same_Some p (param_of term) f in
        let key : calls.top.key ≡ expressions.top.key = ap (λ (c : OpenCall). c.key) h.top in (
          refl,
          record {
            top = added o term (ap (first_of outer) (sym e)) same ∙ ap (λ (k : Option Text). open_call_of (add_term k term o)) key;
            around = around' ∙ ap rest_of (sym e);
            rejected = rejected ∙ first ∙ ap first_rejected (sym (literals-added o os expressions.top.key term order.1));
            in_order = in_order-added o os expressions.top.key term order.1;
          },
        )
