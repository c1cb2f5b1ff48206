-- Runs over trees that are as compiled: all trees of the run are so, escaping is off at html expressions alone, and
-- indentations are spaces and tabs.
use Rattle.std.proofs.Common.{◌≡◌, ℕ, zero, suc, Bool, false, ◌&&◌, ◌||◌, List, ◌++◌, Option, Some, None, option_and_then, refl, sym, ap, ◌∙◌, subst}
use Rattle.std.specs.List.{AllByRecursion, list_all}
use Rattle.std.proofs.lemmas.List.Folds.{list_all-append}
use Rattle.handlebars_base.specs.Bytes.{Text}
use Rattle.handlebars_lexer.specs.Trim.{is_blank}
use Rattle.handlebars_template.specs.Tree.{Tree, tree, tree_name, Elements, no_elements, element, Element, raw_string, html_expression, escaped_expression, helper_block, decorator_expression, decorator_block, partial_expression, partial_block, comment, call, Decorator, decorator, decorator_body, Bodies, bodies, bodies_body, bodies_inverse, Body, no_body, body}
use Rattle.handlebars_helpers.specs.UserHelper.{renders_body_in}
use Rattle.handlebars_semantics.specs.Compiled.{IsBlank, IsAsCompiled, AreAsCompiled, IsElementAsCompiled, IsTagAsCompiled, IsBodyAsCompiled, PassesCompiled}
use Rattle.handlebars_semantics.specs.Origins.{nth, nth_in, body_tree, element_body, element_inverse, element_decorator, inclusion_tag, is_html, tree_occurrence_of, tree_at, element_at, is_raw_tree, is_raw_occurrence, own_indent, AreIndents, around_first, around_body, around_inverse, around_block, around_included, around_own_block, IsPassedIn, IsTreeOfRun, is_first, is_body, is_inverse, is_local_of, is_stored, IsLocalOfRun, set_by, in_block_before, passed_in}
use Rattle.handlebars_semantics.specs.Occurrences.{Time, TreeOccurrence, body_at, inverse_at, included_at, Occurrence, element_in}
use Rattle.handlebars_semantics.specs.State.{Setting, partial_in}
use Rattle.handlebars_semantics.specs.Visits.{Visit}
use Rattle.handlebars_scope.specs.Scopes.{Frame}
use Rattle.handlebars_laws.proofs.Inclusions.{local_or_other-registered}
use Rattle.handlebars_laws.proofs.Lists.{All-has, slice_get-has}
use Rattle.handlebars_laws.proofs.UserSteps.{HasChoice-user}
use Rattle.handlebars_laws.proofs.RunOrigins.{is_raw_occurrence-at}
use Rattle.handlebars_laws.proofs.RunStates.{None≢Some, Some-injective}

-- ---- what is in a tree that is as compiled

nth-compiled : (es : Elements) (i : ℕ) (e : Element) → AreAsCompiled es → nth es i ≡ Some e → IsElementAsCompiled e
nth-compiled no_elements i e h is = cc
nth-compiled (element x es) zero e h is = subst IsElementAsCompiled (element-same x e is) h.0
  where
    element-same : (x e : Element) → Some x ≡ Some e → x ≡ e
    element-same x e is = cc
nth-compiled (element x es) (suc i) e h is = nth-compiled es i e h.1 is

nth_in-compiled : (o : Option Tree) (i : ℕ) (e : Element) → ((t : Tree) → o ≡ Some t → IsAsCompiled t) → nth_in o i ≡ Some e
    → IsElementAsCompiled e
nth_in-compiled None i e h is = cc
nth_in-compiled (Some (tree n es positions)) i e h is = nth-compiled es i e (h (tree n es positions) refl) is

body_tree-compiled : (b : Body) (t : Tree) → IsBodyAsCompiled b → body_tree b ≡ Some t → IsAsCompiled t
body_tree-compiled no_body t h is = cc
body_tree-compiled (body x) t h is = subst IsAsCompiled (Some-injective x t is) h

-- an element that renders a body or an inverse is no html expression
element_body-compiled : (e : Element) (t : Tree) → IsElementAsCompiled e → element_body e ≡ Some t
    → IsAsCompiled t × (is_html e ≡ false)
element_body-compiled (raw_string x) t h is = cc
element_body-compiled (html_expression (call n xs b bs marks)) t h is =
    None≢Some (sym (ap (λ (z : Bodies). body_tree (bodies_body z)) h) ∙ is)
element_body-compiled (escaped_expression (call n xs b (bodies x y) marks)) t h is = (body_tree-compiled x t h.0 is, refl)
element_body-compiled (helper_block (call n xs b (bodies x y) marks)) t h is = (body_tree-compiled x t h.0 is, refl)
element_body-compiled (decorator_expression d) t h is = cc
element_body-compiled (decorator_block d) t h is = cc
element_body-compiled (partial_expression (decorator n xs x marks)) t h is = (body_tree-compiled x t h.0 is, refl)
element_body-compiled (partial_block (decorator n xs x marks)) t h is = (body_tree-compiled x t h.0 is, refl)
element_body-compiled (comment x) t h is = cc

element_inverse-compiled : (e : Element) (t : Tree) → IsElementAsCompiled e → element_inverse e ≡ Some t
    → IsAsCompiled t × (is_html e ≡ false)
element_inverse-compiled (raw_string x) t h is = cc
element_inverse-compiled (html_expression (call n xs b bs marks)) t h is =
    None≢Some (sym (ap (λ (z : Bodies). body_tree (bodies_inverse z)) h) ∙ is)
element_inverse-compiled (escaped_expression (call n xs b (bodies x y) marks)) t h is = (body_tree-compiled y t h.1 is, refl)
element_inverse-compiled (helper_block (call n xs b (bodies x y) marks)) t h is = (body_tree-compiled y t h.1 is, refl)
element_inverse-compiled (decorator_expression d) t h is = cc
element_inverse-compiled (decorator_block d) t h is = cc
element_inverse-compiled (partial_expression d) t h is = cc
element_inverse-compiled (partial_block d) t h is = cc
element_inverse-compiled (comment x) t h is = cc

tag-same : {A : Type 0} (x y : A) → Some x ≡ Some y → x ≡ y
tag-same x y is = cc

inclusion_tag-compiled : (e : Element) (tag : Decorator) → IsElementAsCompiled e → inclusion_tag e ≡ Some tag
    → IsTagAsCompiled tag × (is_html e ≡ false)
inclusion_tag-compiled (partial_expression d) tag h is = (subst IsTagAsCompiled (tag-same d tag is) h, refl)
inclusion_tag-compiled (partial_block d) tag h is = (subst IsTagAsCompiled (tag-same d tag is) h, refl)
inclusion_tag-compiled e tag h is = cc

element_decorator-compiled : (e : Element) (tag : Decorator) → IsElementAsCompiled e → element_decorator e ≡ Some tag
    → IsTagAsCompiled tag
element_decorator-compiled (decorator_expression d) tag h is = subst IsTagAsCompiled (tag-same d tag is) h
element_decorator-compiled (decorator_block d) tag h is = subst IsTagAsCompiled (tag-same d tag is) h
element_decorator-compiled e tag h is = cc

decorator_body-compiled : (tag : Decorator) (t : Tree) → IsTagAsCompiled tag → decorator_body tag ≡ body t → IsAsCompiled t
decorator_body-compiled (decorator n xs b marks) t h is = subst IsBodyAsCompiled is h.0

own_indent-blank : (tag : Decorator) → IsTagAsCompiled tag → IsBlank (own_indent tag)
own_indent-blank (decorator n xs b marks) h = h.1

-- what is read of an element that may be there
pub read-at : {A : Type 0} (o : Option Element) (read : Element → Option A) (x : A) → option_and_then read o ≡ Some x
    → (e : Element) × (o ≡ Some e) × (read e ≡ Some x)
read-at None read x is = cc
read-at (Some e) read x is = (e, refl, is)

IsBlank-append : (a b : Text) → IsBlank a → IsBlank b → IsBlank (a ++ b)
IsBlank-append a b h k = list_all-append is_blank a b ∙ ap (λ (z : Bool). z && list_all is_blank b) h ∙ k

-- ---- runs

module _ (p : Setting) (u : Tree) (blocks : List Frame) (vs : List Visit) (first : IsAsCompiled u)
    (stored : (n : Text) (t : Tree) → p.parts.template n ≡ Some t → IsAsCompiled t)
    (passed : (name : Text) → PassesCompiled (p.parts.user name))
    (before : AllByRecursion (λ f. (n : Text) (t : Tree) → f.partial n ≡ Some t → IsAsCompiled t) blocks) where
  -- What is at the occurrence of a tree is as compiled, and escaping is on around it.
  abbrev IsWellAt : TreeOccurrence → Type 0
  IsWellAt at = ((t : Tree) → tree_at u at ≡ Some t → IsAsCompiled t) × (is_raw_tree u at ≡ false)

  element-compiled : (occurrence : Occurrence) → IsWellAt (tree_occurrence_of occurrence) → (e : Element) → element_at u occurrence ≡ Some e
      → IsElementAsCompiled e
  element-compiled (element_in at i position) well e is = nth_in-compiled (tree_at u at) i e well.0 is

  module _ (occurrence : Occurrence) (well : IsWellAt (tree_occurrence_of occurrence)) where
    -- where the element isn't an html expression, escaping is on in what it renders
    is_raw_occurrence-off : (e : Element) → element_at u occurrence ≡ Some e → is_html e ≡ false → is_raw_occurrence u occurrence ≡ false
    is_raw_occurrence-off e is html =
        is_raw_occurrence-at u occurrence e is ∙ ap (λ (b : Bool). b || is_raw_tree u (tree_occurrence_of occurrence)) html ∙ well.1

    body-well : (time : Time) (t : Tree) → option_and_then element_body (element_at u occurrence) ≡ Some t
        → IsWellAt (body_at occurrence time)
    body-well time t is =
        let r = read-at (element_at u occurrence) element_body t is in (
          λ x same. let y = read-at (element_at u occurrence) element_body x same in
              (element_body-compiled y.0 x (element-compiled occurrence well y.0 y.1) y.2).0,
          is_raw_occurrence-off r.0 r.1 (element_body-compiled r.0 t (element-compiled occurrence well r.0 r.1) r.2).1,
        )

    inverse-well : (j : ℕ) (t : Tree) → option_and_then element_inverse (element_at u occurrence) ≡ Some t
        → IsWellAt (inverse_at occurrence j)
    inverse-well j t is =
        let r = read-at (element_at u occurrence) element_inverse t is in (
          λ x same. let y = read-at (element_at u occurrence) element_inverse x same in
              (element_inverse-compiled y.0 x (element-compiled occurrence well y.0 y.1) y.2).0,
          is_raw_occurrence-off r.0 r.1 (element_inverse-compiled r.0 t (element-compiled occurrence well r.0 r.1) r.2).1,
        )

    included-tag : (tag : Decorator) → option_and_then inclusion_tag (element_at u occurrence) ≡ Some tag
        → IsTagAsCompiled tag × (is_raw_occurrence u occurrence ≡ false)
    included-tag tag is =
        let r = read-at (element_at u occurrence) inclusion_tag tag is in
        let y = inclusion_tag-compiled r.0 tag (element-compiled occurrence well r.0 r.1) r.2 in
        (y.0, is_raw_occurrence-off r.0 r.1 y.1)

    included-well : (name : Option Text) (x : Tree) (tag : Decorator)
        → option_and_then inclusion_tag (element_at u occurrence) ≡ Some tag → IsAsCompiled x → IsWellAt (included_at occurrence name x)
    included-well name x tag is h = (λ t same. subst IsAsCompiled (Some-injective x t same) h, (included-tag tag is).1)

  passed-compiled : (f : Frame) (n : Text) (t : Tree) → IsPassedIn p u vs f → f.partial n ≡ Some t → IsAsCompiled t
  passed-compiled f n t h is =
      let user = HasChoice-user p h.state h.steps h.answers.target _ h.answers.chooses in
      passed user.called user.question h.steps f user.answers (slice_get-has h.steps h.index (renders_body_in f) h.step) n t is

  mutual
    pub IsTreeOfRun-well : {at : TreeOccurrence} → IsTreeOfRun p u blocks vs at → IsWellAt at
    IsTreeOfRun-well is_first = (λ t is. subst IsAsCompiled (Some-injective u t is) first, refl)
    IsTreeOfRun-well (is_body {occurrence = occurrence} {time = time} {t = t} h visited is) =
        body-well occurrence (IsTreeOfRun-well h) time t is
    IsTreeOfRun-well (is_inverse {occurrence = occurrence} {j = j} {t = t} h visited is) =
        inverse-well occurrence (IsTreeOfRun-well h) j t is
    IsTreeOfRun-well (is_local_of {occurrence = occurrence} {t = t} {tag = tag} h tagged finds local) =
        included-well occurrence (IsTreeOfRun-well h) (tree_name t) t tag tagged.occurs (IsLocalOfRun-compiled local)
    IsTreeOfRun-well (is_stored {occurrence = occurrence} {t = t} {tag = tag} {s = s} {v = v} h tagged finds) =
        included-well occurrence (IsTreeOfRun-well h) (Some v.name) t tag tagged.occurs (stored v.name t (local_or_other-registered
        (partial_in s.blocks v.name) (p.parts.template v.name) (decorator_body tag) t finds.finds))

    IsLocalOfRun-compiled : {n : Text} {t : Tree} → IsLocalOfRun p u blocks vs n t → IsAsCompiled t
    IsLocalOfRun-compiled (set_by {occurrence = occurrence} {t = t} {tag = tag} h tagged sets) =
        let r = read-at (element_at u occurrence) element_decorator tag tagged.occurs in
        decorator_body-compiled tag t (element_decorator-compiled r.0 tag
        (element-compiled occurrence (IsTreeOfRun-well h) r.0 r.1) r.2) sets.is
    IsLocalOfRun-compiled (in_block_before {n = n} {t = t} f has is) = All-has _ blocks f before has n t is
    IsLocalOfRun-compiled (passed_in {n = n} {t = t} f by is) = passed-compiled f n t by is

  -- ---- indentations

  around-of_run : {occurrence : Occurrence} {name : Option Text} {x : Tree} → IsTreeOfRun p u blocks vs (included_at occurrence name x)
      → IsTreeOfRun p u blocks vs (tree_occurrence_of occurrence)
  around-of_run (is_local_of h tagged finds local) = h
  around-of_run (is_stored h tagged finds) = h

  body-of_run : {occurrence : Occurrence} {time : Time} → IsTreeOfRun p u blocks vs (body_at occurrence time)
      → IsTreeOfRun p u blocks vs (tree_occurrence_of occurrence)
  body-of_run (is_body h visited is) = h

  inverse-of_run : {occurrence : Occurrence} {j : ℕ} → IsTreeOfRun p u blocks vs (inverse_at occurrence j)
      → IsTreeOfRun p u blocks vs (tree_occurrence_of occurrence)
  inverse-of_run (is_inverse h visited is) = h

  pub AreIndents-blank : {at : TreeOccurrence} {t : Text} → AreIndents p u vs at t → IsTreeOfRun p u blocks vs at → IsBlank t
  AreIndents-blank around_first h = refl
  AreIndents-blank (around_body a is) h = AreIndents-blank a (body-of_run h)
  AreIndents-blank (around_block a tagged alone) h = AreIndents-blank a (body-of_run h)
  AreIndents-blank (around_inverse a) h = AreIndents-blank a (inverse-of_run h)
  AreIndents-blank (around_included {occurrence = occurrence} {tag = tag} {t = t} a is) h =
      let outer = around-of_run h in
      IsBlank-append t (own_indent tag) (AreIndents-blank a outer)
      (own_indent-blank tag (included-tag occurrence (IsTreeOfRun-well outer) tag is).0)
  AreIndents-blank (around_own_block {occurrence = occurrence} {tag = tag} {t = t} a tagged finds) h =
      let outer = body-of_run h in
      IsBlank-append t (own_indent tag) (AreIndents-blank a outer)
      (own_indent-blank tag (included-tag occurrence (IsTreeOfRun-well outer) tag tagged.occurs).0)
