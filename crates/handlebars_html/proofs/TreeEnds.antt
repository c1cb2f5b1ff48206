-- The elements of a tree one after another, from the states in which those before them end.
use Rattle.std.proofs.Common.{◌≡◌, ℕ, zero, suc, ◌+◌, ◌<◌, ◌≤◌, Bool, true, false, ◌==◌, if◌then◌else◌, List, [], ◌∷◌, ◌++◌, map, length, get_or, drop, Option, Some, None, refl, sym, ap, subst, ◌∙◌, add-one, arith, rules}
use Rattle.std.specs.Prelude.{slice_get, IfSome, MatchOption, option_map}
use Rattle.std.specs.Option.{option_copied}
use Rattle.std.proofs.Math.ListN.{drop_of_length-le}
use Rattle.std.proofs.lemmas.Option.{slice_get-map, slice_get_past, slice_get_read}
use denote.Ref.{Bor}
use Rattle.handlebars_base.specs.Bytes.{Text}
use Rattle.handlebars_template.specs.Position.{Position}
use Rattle.handlebars_template.specs.Tree.{DecoratorMarks, Bodies, bodies, bodies_body, bodies_inverse, call_bodies, Decorator, decorator, decorator_name, decorator_args, decorator_body, decorator_marks, args}
use Rattle.handlebars_template.specs.TreeView.{element_view, elements_view, position_of, param_view, params_view, hash_view, body_view, call_view, decorator_view}
use Rattle.handlebars_template.specs.declared.template.tree.TemplateMapping.{TemplateMapping}
use Rattle.handlebars_template.specs.declared.template.tree.TemplateElement.{TemplateElement}
use Rattle.handlebars_template.specs.declared.template.tree.HelperTemplate.{HelperTemplate, out-HelperTemplate}
use Rattle.handlebars_template.specs.declared.template.tree.DecoratorTemplate.{DecoratorTemplate, out-DecoratorTemplate}
use Rattle.handlebars_template.specs.declared.template.tree.BlockParam.{the_lemmas}
use Rattle.handlebars_html.specs.Html as html
use Rattle.handlebars_html.specs.Rows.{Row, is_among, with_states, without_state, leavings}
use Rattle.handlebars_html.specs.Rule.{Registered, Effect, one_branch, iterations, written_name, inline_name}
use Rattle.handlebars_html.specs.Check.{Findings, Ends, ends_in, found_before, found_rows, either_ends, then_ends, both_findings, findings_of_each, findings_of_entering, findings_of_entered, iteration_findings, whys_of_indent, whys_of_name, whys_of_iterations, whys_of_captured, may_name, included_ends, inclusion_parts, first_position, later_positions, element_ends, elements_ends, bodies_ends, branch_ends, own_ends, decorator_ends, inclusion_ends}
use Rattle.handlebars_html.specs.HtmlView.{html_of}
use Rattle.handlebars_html.specs.FoundView.{found_of, with_findings, AddsFindings, EndsIn, findings_in, AddsFaults}
use Rattle.handlebars_html.specs.declared.found.Found.{Found}
use Rattle.handlebars_html.specs.declared.found.Location.{Location}
use Rattle.handlebars_html.specs.declared.html.Html.{Html}
use Rattle.handlebars_html.proofs.Adding.{with_findings-both}
use Rattle.handlebars_html.proofs.FoundSoFar.{read, adds-both, ends-then, ends-either, ends-from}

-- There is some state if the test for none fails.
pub some-there : (b : Bool) (n m : ℕ) → b ≡ (n == 0) → b ≡ false → n ≡ m → 0 < m
some-there b zero m test is long = cc
some-there b (suc n) m test is long = omega arith

first-at : (ps : List Position) (i : ℕ) → first_position (drop i ps) ≡ slice_get ps i
first-at [] zero = refl
first-at [] (suc i) = refl
first-at (p ∷ ps) zero = refl
first-at (p ∷ ps) (suc i) = first-at ps i

later-at : (ps : List Position) (i : ℕ) → later_positions (drop i ps) ≡ drop (suc i) ps
later-at [] zero = refl
later-at [] (suc i) = refl
later-at (p ∷ ps) zero = refl
later-at (p ∷ ps) (suc i) = later-at ps i

module _ (registered : Text → Registered) (rows : List Row) (n : Option Text) (ps : List Position) (es : List TemplateElement) (hs : List html.Html) where
  -- the ends of the elements from an index on
  abbrev pub rest_ends : ℕ → List html.Html → Ends
  rest_ends i gs = elements_ends registered rows n (drop i ps) (elements_view (drop i es)) gs

  abbrev pub all_ends : Ends
  all_ends = elements_ends registered rows n ps (elements_view es) hs

  -- The elements from an index on lead from these states where all of them lead.
  abbrev pub ElementsFrom : ℕ → List Html → Found → Found → Type 0
  ElementsFrom i gs first now =
      ((rest_ends i (map html_of gs)).states ≡ all_ends.states)
      × (with_findings rows (found_of now) (rest_ends i (map html_of gs)).findings ≡ with_findings rows (found_of first) all_ends.findings)

  elements-at : (i : ℕ) (e : TemplateElement) (g : html.Html) (gs : List html.Html) → i < length es → e ≡ get_or es i e
      → rest_ends i (g ∷ gs)
      ≡ then_ends (element_ends registered rows n (slice_get ps i) (element_view e) (g ∷ gs)) (λ ks. rest_ends (i + 1) ks)
  elements-at i e g gs within is =
      ap (λ (z : List TemplateElement). elements_ends registered rows n (drop i ps) (elements_view z) (g ∷ gs)) (read es i e within is)
      ∙ rw (first-at ps i, later-at ps i, add-one) refl

  step : (x : Ends) (i : ℕ) (gs ks : List Html) (first now next : Found)
      → rest_ends i (map html_of gs) ≡ then_ends x (λ zs. rest_ends (i + 1) zs) → ElementsFrom i gs first now
      → EndsIn rows now next ks x → ElementsFrom (i + 1) ks first next
  step x i gs ks first now next at l ends = (
    ap (λ (zs : List html.Html). (rest_ends (i + 1) zs).states) ends.0
        ∙ sym (ap (λ (z : Ends). z.states) at) ∙ l.0,
    ap (λ (zs : List html.Html). with_findings rows (found_of next) (rest_ends (i + 1) zs).findings) ends.0
        ∙ ap (λ (z : Findings). with_findings rows z (rest_ends (i + 1) x.states).findings) ends.1
        ∙ sym (with_findings-both rows (found_of now) x.findings (rest_ends (i + 1) x.states).findings)
        ∙ sym (ap (λ (z : Ends). with_findings rows (found_of now) z.findings) at) ∙ l.1,
  )

  pub elements-go : (i : ℕ) (e : TemplateElement) (g : Html) (gs ks : List Html) (first now next : Found) → i < length es
      → e ≡ get_or es i e → ElementsFrom i (g ∷ gs) first now
      → EndsIn rows now next ks (element_ends registered rows n (slice_get ps i) (element_view e) (map html_of (g ∷ gs)))
      → ElementsFrom (i + 1) ks first next
  elements-go i e g gs ks first now next within is l ends =
      step (element_ends registered rows n (slice_get ps i) (element_view e) (map html_of (g ∷ gs))) i (g ∷ gs) ks first now next
      (elements-at i e (html_of g) (map html_of gs) within is) l ends

  -- It leads on from states of which there are some, once they are counted.
  pub elements-more : (i : ℕ) (e : TemplateElement) (gs ks : List Html) (first now counted next : Found) → i < length es
      → e ≡ get_or es i e → 0 < length gs → found_of counted ≡ found_of now → ElementsFrom i gs first now
      → EndsIn rows counted next ks (element_ends registered rows n (slice_get ps i) (element_view e) (map html_of gs))
      → ElementsFrom (i + 1) ks first next
  elements-more i e [] ks first now counted next within is some same l ends = absurd (omega arith)
  elements-more i e (g ∷ gs) ks first now counted next within is some same l ends =
      elements-go i e g gs ks first now next within is l
      (ends-from rows now counted next ks (element_ends registered rows n (slice_get ps i) (element_view e) (map html_of (g ∷ gs)))
      same ends)

  pub elements-end : (i : ℕ) (gs : List Html) (first now : Found) → length es ≤ i → ElementsFrom i gs first now
      → EndsIn rows first now gs all_ends
  elements-end i gs first now past l = (
    ap (λ (z : List TemplateElement). (elements_ends registered rows n (drop i ps) (elements_view z) (map html_of gs)).states)
        (sym (drop_of_length-le es past)) ∙ l.0,
    ap (λ (z : List TemplateElement). with_findings rows (found_of now)
        (elements_ends registered rows n (drop i ps) (elements_view z) (map html_of gs)).findings) (sym (drop_of_length-le es past))
        ∙ l.1,
  )

-- ---- the position of an element

-- what a look into a list found
looked_up : {A : Type 0} (xs : List A) (i : ℕ) (P : Bor A → Type 0) (o : Option (Bor A))
    → IfSome o (λ x. x.now ≡ get_or xs i x.now)
    → MatchOption o (length xs ≤ i) (λ x. (i < length xs) × P x) → option_copied o ≡ slice_get xs i
looked_up xs i P None at over = sym (slice_get_past xs i over)
looked_up xs i P (Some x) at within = sym (slice_get_read xs (length xs) i x.now refl within.0 at)

pub position-found : (ms : List TemplateMapping) (i : ℕ) (P : Bor TemplateMapping → Type 0) (o : Option (Bor TemplateMapping))
    → IfSome o (λ x. x.now ≡ get_or ms i x.now) → MatchOption o (length ms ≤ i) (λ x. (i < length ms) × P x)
    → (found : Option TemplateMapping) → found ≡ option_copied o → option_map position_of found ≡ slice_get (map position_of ms) i
position-found ms i P o at within found is =
    ap (option_map position_of) (is ∙ looked_up ms i P o at within) ∙ sym (slice_get-map position_of ms i)

-- ---- the parts of tags, as the code has them

pub call_bodies-out : (h : HelperTemplate)
    → call_bodies (call_view h) ≡ bodies (body_view (out-HelperTemplate h).template) (body_view (out-HelperTemplate h).inverse)
call_bodies-out h = search (rules, the_lemmas)

pub decorator_body-out : (t : DecoratorTemplate)
    → decorator_body (decorator_view t) ≡ body_view (out-DecoratorTemplate t).template
decorator_body-out t = search (rules, the_lemmas)

pub decorator_args-out : (t : DecoratorTemplate)
    → decorator_args (decorator_view t)
    ≡ args (params_view (out-DecoratorTemplate t).params.items) (hash_view (out-DecoratorTemplate t).hash.entries)
decorator_args-out t = search (rules, the_lemmas)

pub decorator_name-out : (t : DecoratorTemplate)
    → decorator_name (decorator_view t) ≡ param_view (out-DecoratorTemplate t).name
decorator_name-out t = search (rules, the_lemmas)

-- ---- blocks

module _ (registered : Text → Registered) (rows : List Row) (n : Option Text) (p : Option Position) where
  -- One of two branches is rendered.
  pub branches-out : (t : Bodies) (e : Effect) (hs : List html.Html) (a b c : Found) (ks gs : List Html) → e ≡ one_branch
      → EndsIn rows a b ks (branch_ends registered rows n (bodies_body t) hs)
      → EndsIn rows b c gs (either_ends (ends_in (map html_of ks)) (branch_ends registered rows n (bodies_inverse t) hs))
      → EndsIn rows a c gs (bodies_ends registered rows n p t e hs)
  branches-out (bodies x y) e hs a b c ks gs is first later =
      subst (λ (z : Effect). EndsIn rows a c gs (bodies_ends registered rows n p (bodies x y) z hs)) (sym is)
      (ends-either rows a b c ks gs (branch_ends registered rows n x hs) (branch_ends registered rows n y hs) first later)

  -- There are iterations, or none.
  pub iterations-out : (t : Bodies) (e : Effect) (hs : List html.Html) (a b c : Found) (ks gs : List Html) → e ≡ iterations
      → AddsFindings rows a b (findings_of_each
      (λ h. iteration_findings registered rows n p h (branch_ends registered rows n (bodies_body t) (h ∷ []))) hs)
      → map html_of ks ≡ hs
      → EndsIn rows b c gs (either_ends (ends_in (map html_of ks)) (branch_ends registered rows n (bodies_inverse t) hs))
      → EndsIn rows a c gs (bodies_ends registered rows n p t e hs)
  iterations-out (bodies x y) e hs a b c ks gs is first copied later =
      subst (λ (z : Effect). EndsIn rows a c gs (bodies_ends registered rows n p (bodies x y) z hs)) (sym is)
      (ends-then rows a b c gs
      (findings_of_each (λ h. iteration_findings registered rows n p h (branch_ends registered rows n x (h ∷ []))) hs)
      (either_ends (ends_in hs) (branch_ends registered rows n y hs)) first
      (subst (λ (zs : List html.Html). EndsIn rows b c gs (either_ends (ends_in zs) (branch_ends registered rows n y hs))) copied
      later))

module _ (rows : List Row) (x : Ends) (a b c : Found) (gs ks : List Html) (ends : EndsIn rows a b gs x)
    (same : ks ≡ gs) where
  states-same : map html_of ks ≡ x.states
  states-same = ap (λ (zs : List Html). map html_of zs) same ∙ ends.0

  -- One iteration, and then what is wrong with its ends.
  pub iteration-out : (s : Location) (h : html.Html) → AddsFaults b c s (whys_of_iterations h (map html_of ks))
      → AddsFindings rows a c (both_findings x.findings (findings_in s (whys_of_iterations h x.states)))
  iteration-out s h wrong =
      adds-both rows a b c x.findings (findings_in s (whys_of_iterations h x.states)) ends.1
      (subst (λ (zs : List html.Html). AddsFaults b c s (whys_of_iterations h zs)) states-same wrong)

  -- The block of an inclusion as it is captured, and then what is wrong with its ends.
  pub captured-out : (s : Location) → AddsFaults b c s (whys_of_captured (map html_of ks))
      → EndsIn rows a c gs
      (record { states = x.states; findings = both_findings x.findings (findings_in s (whys_of_captured x.states)) })
  captured-out s wrong = (
    ends.0,
    adds-both rows a b c x.findings (findings_in s (whys_of_captured x.states)) ends.1
        (subst (λ (zs : List html.Html). AddsFaults b c s (whys_of_captured zs)) states-same wrong),
  )

  -- What is included by a name in a state, and then the rows for its ends.
  pub entering-out : (m : Text) (h : html.Html) → AddsFindings rows b c (found_rows (leavings m h (map html_of ks)))
      → AddsFindings rows a c (findings_of_entering m h x)
  entering-out m h adds =
      adds-both rows a b c x.findings (found_rows (leavings m h x.states)) ends.1
      (subst (λ (zs : List html.Html). AddsFindings rows b c (found_rows (leavings m h zs))) states-same adds)

-- ---- inline partials

module _ (registered : Text → Registered) (rows : List Row) (n : Option Text) where
  -- the body where a name is included in a state
  abbrev pub inline_ends : Decorator → Text → html.Html → Ends
  inline_ends t m h =
      if may_name (inline_name (decorator_args t)) m then own_ends registered rows n (decorator_body t) (h ∷ []) else ends_in []

  pub inline-named : (t : Decorator) (m : Text) (h : html.Html) → may_name (inline_name (decorator_args t)) m ≡ true
      → inline_ends t m h ≡ own_ends registered rows n (decorator_body t) (h ∷ [])
  inline-named t m h is =
      ap (λ (z : Bool). if z then own_ends registered rows n (decorator_body t) (h ∷ []) else ends_in []) is

  pub decorator-out : (t : Decorator) (hs : List html.Html) (a b : Found) (ks : List Html) → map html_of ks ≡ hs
      → AddsFindings rows a b (findings_of_entered rows (inline_ends t)) → EndsIn rows a b ks (decorator_ends registered rows n t hs)
  decorator-out (decorator m xs w marks) hs a b ks copied adds = (copied, adds)

  pub inclusion-parts : (p : Option Position) (t : Decorator) (hs : List html.Html)
      → inclusion_parts registered rows n p (written_name (decorator_name t)) (decorator_marks t) hs
      (own_ends registered rows n (decorator_body t) (html.beginning ∷ []))
      (own_ends registered rows n (decorator_body t) (without_state hs html.beginning))
      ≡ inclusion_ends registered rows n p t hs
  inclusion-parts p (decorator m xs b marks) hs = refl

-- ---- inclusions

-- The parts of an inclusion, as they are found one after another, are its ends.
pub inclusion-out : (registered : Text → Registered) (rows : List Row) (s : Location) (n : Option Text) (marks : DecoratorMarks)
    (hs : List html.Html) (ahead other : Ends) (a b c d e : Found) (ks ns os gs : List Html)
    → AddsFaults a b s (whys_of_indent marks ++ whys_of_name n hs)
    → EndsIn rows b c ks (record {
      states = ahead.states;
      findings = both_findings ahead.findings (findings_in s (whys_of_captured ahead.states));
    })
    → EndsIn rows c d ns (included_ends rows n hs) → EndsIn rows d e os other
    → map html_of gs ≡ with_states (map html_of ns)
    (with_states (if is_among hs html.beginning then map html_of ks else []) (map html_of os))
    → EndsIn rows a e gs
    (inclusion_parts registered rows (option_map (λ n. n.now) s.template_name) (option_map position_of s.position) n marks hs ahead
    other)
inclusion-out registered rows s n marks hs ahead other a b c d e ks ns os gs wrong first named last ends =
    let again = ends_in (if is_among hs html.beginning then ahead.states else []) in
    let later = either_ends (included_ends rows n hs) (either_ends again other) in
    let captured = both_findings ahead.findings (findings_in s (whys_of_captured ahead.states)) in
    ends-then rows a b e gs (findings_in s (whys_of_indent marks ++ whys_of_name n hs)) (found_before captured later) wrong
    (ends-then rows b c e gs captured later first.1 (
      ends
          ∙ ap (λ (zs : List html.Html). with_states zs
          (with_states (if is_among hs html.beginning then map html_of ks else []) (map html_of os))) named.0
          ∙ ap (λ (zs : List html.Html). with_states (included_ends rows n hs).states
          (with_states (if is_among hs html.beginning then zs else []) (map html_of os))) first.0
          ∙ ap (λ (zs : List html.Html). with_states (included_ends rows n hs).states
          (with_states (if is_among hs html.beginning then ahead.states else []) zs)) last.0,
      adds-both rows c d e (included_ends rows n hs).findings other.findings named.1 last.1,
    ))
