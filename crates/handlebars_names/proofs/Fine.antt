-- Findings of trees without faults.
use Rattle.std.proofs.Common.{◌≡◌, ℕ, zero, suc, Bool, true, false, List, [], ◌∷◌, ◌++◌, refl, sym, ap, subst, Option, None, Some, option_map}
use Rattle.handlebars_base.specs.Bytes.{Text}
use Rattle.handlebars_template.specs.Position.{Position}
use Rattle.handlebars_template.specs.Tree.{Tree, tree_name, Elements, no_elements, element, Element, html_expression, escaped_expression, helper_block, decorator_expression, decorator_block, partial_expression, partial_block, Call, call, call_body, call_inverse, Decorator, bodies, Body, no_body, body}
use Rattle.handlebars_semantics.specs.Origins.{nth, body_tree, element_call, element_body, element_inverse, element_decorator, inclusion_tag, shown_call}
use Rattle.handlebars_html.specs.Check.{first_position, later_positions}
use Rattle.handlebars_names.specs.Check.{whys_of_body_name, elements_findings, element_findings, call_findings, body_findings, decorator_findings, inclusion_findings, tree_findings, AreFine}
use Rattle.handlebars_names.specs.Faults.{Why, Finding, faults_at}
use Rattle.handlebars_names.specs.Names.{Names}
use Rattle.handlebars_names.specs.Scopes.{Scope, after_element, after_first, after_elements, Entry}
use Rattle.handlebars_names.specs.Whys.{whys_of_call}
use Rattle.handlebars_names.proofs.States.{some-same, none-some}

-- ---- lists of findings

module _ (table : List Entry) where
  pub fine-parts : (xs ys : List Finding) → AreFine table (xs ++ ys) → AreFine table xs × AreFine table ys
  fine-parts [] ys all = (tt, all)
  fine-parts (x ∷ xs) ys all = let rest = fine-parts xs ys all.1 in ((all.0, rest.0), rest.1)

  pub fine-none : (t : Option Text) (p : Option Position) (whys : List Why) → AreFine table (faults_at t p whys) → whys ≡ []
  fine-none t p [] all = refl
  fine-none t p (w ∷ whys) all = cc

-- ---- elements of a tree

pub after_first-next : (i : ℕ) (es : Elements) (e : Element) (h : Scope) → nth es i ≡ Some e
    → after_first (suc i) es h ≡ after_element e (after_first i es h)
after_first-next i no_elements e h is = none-some is
after_first-next zero (element x es) e h is = ap (λ (z : Element). after_element z h) (some-same x e is)
after_first-next (suc i) (element x es) e h is = after_first-next i es e (after_element x h) is

pub after_first-last : (i : ℕ) (es : Elements) (h : Scope) → nth es i ≡ None → after_first i es h ≡ after_elements es h
after_first-last zero no_elements h is = refl
after_first-last (suc i) no_elements h is = refl
after_first-last zero (element x es) h is = none-some (sym is)
after_first-last (suc i) (element x es) h is = after_first-last i es (after_element x h) is

module _ (names : Names) (table : List Entry) (t : Option Text) where
  pub element-fine : (n : Option Text) (ps : List Position) (es : Elements) (h : Scope) (i : ℕ) (e : Element)
      → AreFine table (elements_findings names table t n ps es h) → nth es i ≡ Some e
      → (p : Option Position) × AreFine table (element_findings names table t n p e (after_first i es h))
  element-fine n ps no_elements h i e fine is = none-some is
  element-fine n ps (element x es) h zero e fine is = (
    first_position ps,
    subst (λ (z : Element). AreFine table (element_findings names table t n (first_position ps) z h)) (some-same x e is)
        (fine-parts table _ _ fine).0,
  )
  element-fine n ps (element x es) h (suc i) e fine is =
      element-fine n (later_positions ps) es (after_element x h) i e
      (fine-parts table (element_findings names table t n (first_position ps) x h) _ fine).1 is

  -- ---- calls

  pair-same : (b block : Bool) (c d : Call) → option_map {U = Bool × Call} (λ x. (b, x)) (Some c) ≡ Some (block, d)
      → (b ≡ block) × (c ≡ d)
  pair-same b block c d is =
      let x : Bool × Call = (b, c) in
      let y : Bool × Call = (block, d) in
      (ap (λ (z : Bool × Call). z.0) (some-same x y is), ap (λ (z : Bool × Call). z.1) (some-same x y is))

  pub call-fine : (n : Option Text) (p : Option Position) (e : Element) (h : Scope) (block : Bool) (c : Call)
      → AreFine table (element_findings names table t n p e h) → shown_call e ≡ Some (block, c)
      → AreFine table (call_findings names table t p block c h)
  call-fine n p (html_expression d) h block c fine is =
      let same = pair-same false block d c is in
      subst (λ (b : Bool). AreFine table (call_findings names table t p b c h)) same.0
      (subst (λ (x : Call). AreFine table (call_findings names table t p false x h)) same.1 fine)
  call-fine n p (escaped_expression d) h block c fine is =
      let same = pair-same false block d c is in
      subst (λ (b : Bool). AreFine table (call_findings names table t p b c h)) same.0
      (subst (λ (x : Call). AreFine table (call_findings names table t p false x h)) same.1 fine)
  call-fine n p (helper_block d) h block c fine is =
      let same = pair-same true block d c is in
      subst (λ (b : Bool). AreFine table (call_findings names table t p b c h)) same.0
      (subst (λ (x : Call). AreFine table (call_findings names table t p true x h)) same.1 fine)
  call-fine n p e h block c fine is = cc

  pub call-whys : (p : Option Position) (block : Bool) (c : Call) (h : Scope)
      → AreFine table (call_findings names table t p block c h) → whys_of_call names block c ≡ []
  call-whys p block (call q xs b (bodies x y) marks) h fine = fine-none table t p _ (fine-parts table _ _ fine).0

  -- a tree without a name, in which nothing is wrong
  abbrev pub IsFineBody : Tree → Scope → Type 0
  IsFineBody x h = (tree_name x ≡ None) × AreFine table (tree_findings names table t x h)

  unnamed : (o : Option Text) → whys_of_body_name o ≡ [] → o ≡ None
  unnamed None is = refl
  unnamed (Some n) is = cc

  pub body-fine : (p : Option Position) (b : Body) (x : Tree) (h : Scope)
      → AreFine table (body_findings names table t p b h) → body_tree b ≡ Some x → IsFineBody x h
  body-fine p no_body x h fine is = none-some is
  body-fine p (body y) x h fine is =
      let parts = fine-parts table (faults_at t p (whys_of_body_name (tree_name y))) _ fine in
      subst (λ (z : Tree). IsFineBody z h) (some-same y x is)
      (unnamed (tree_name y) (fine-none table t p _ parts.0), parts.1)

  bodies-fine : (p : Option Position) (block : Bool) (c : Call) (h : Scope)
      → AreFine table (call_findings names table t p block c h)
      → AreFine table (body_findings names table t p (call_body c) h) × AreFine table (body_findings names table t p (call_inverse c) h)
  bodies-fine p block (call q xs b (bodies x y) marks) h fine =
      fine-parts table (body_findings names table t p x h) _ (fine-parts table (faults_at t p (whys_of_call names block
      (call q xs b (bodies x y) marks))) _ fine).1

  -- the body and the inverse of an element that is a call
  pub element_body-fine : (n : Option Text) (p : Option Position) (e : Element) (h : Scope) (c : Call) (x : Tree)
      → AreFine table (element_findings names table t n p e h) → element_call e ≡ Some c → element_body e ≡ Some x → IsFineBody x h
  element_body-fine n p (html_expression d) h c x fine calls is = body-fine p (call_body d) x h (bodies-fine p false d h fine).0 is
  element_body-fine n p (escaped_expression d) h c x fine calls is = body-fine p (call_body d) x h (bodies-fine p false d h fine).0 is
  element_body-fine n p (helper_block d) h c x fine calls is = body-fine p (call_body d) x h (bodies-fine p true d h fine).0 is
  element_body-fine n p e h c x fine calls is = cc

  pub element_inverse-fine : (n : Option Text) (p : Option Position) (e : Element) (h : Scope) (x : Tree)
      → AreFine table (element_findings names table t n p e h) → element_inverse e ≡ Some x → IsFineBody x h
  element_inverse-fine n p (html_expression d) h x fine is = body-fine p (call_inverse d) x h (bodies-fine p false d h fine).1 is
  element_inverse-fine n p (escaped_expression d) h x fine is = body-fine p (call_inverse d) x h (bodies-fine p false d h fine).1 is
  element_inverse-fine n p (helper_block d) h x fine is = body-fine p (call_inverse d) x h (bodies-fine p true d h fine).1 is
  element_inverse-fine n p e h x fine is = cc

  -- ---- tags

  pub decorator-fine : (n : Option Text) (p : Option Position) (e : Element) (h : Scope) (d : Decorator)
      → AreFine table (element_findings names table t n p e h) → element_decorator e ≡ Some d
      → AreFine table (decorator_findings names table t p d)
  decorator-fine n p (decorator_expression x) h d fine is =
      subst (λ (y : Decorator). AreFine table (decorator_findings names table t p y)) (some-same x d is) fine
  decorator-fine n p (decorator_block x) h d fine is =
      subst (λ (y : Decorator). AreFine table (decorator_findings names table t p y)) (some-same x d is) fine
  decorator-fine n p e h d fine is = cc

  pub inclusion-fine : (n : Option Text) (p : Option Position) (e : Element) (h : Scope) (d : Decorator)
      → AreFine table (element_findings names table t n p e h) → inclusion_tag e ≡ Some d
      → AreFine table (inclusion_findings names table t n p d h)
  inclusion-fine n p (partial_expression x) h d fine is =
      subst (λ (y : Decorator). AreFine table (inclusion_findings names table t n p y h)) (some-same x d is) fine
  inclusion-fine n p (partial_block x) h d fine is =
      subst (λ (y : Decorator). AreFine table (inclusion_findings names table t n p y h)) (some-same x d is) fine
  inclusion-fine n p e h d fine is = cc
