-- The elements of a template one after another, with their positions and what is known at each.
use Rattle.std.proofs.Common.{◌≡◌, ℕ, zero, suc, ◌+◌, ◌<◌, ◌≤◌, List, [], ◌∷◌, ◌++◌, length, get_or, drop, Option, refl, sym, ap, ◌∙◌, subst, add-one}
use Rattle.std.specs.Prelude.{slice_get}
use Rattle.std.proofs.Math.ListN.{drop_of_length-le}
use Rattle.std.proofs.Math.Seq.{drop-cons}
use Rattle.handlebars_base.specs.Bytes.{Text}
use Rattle.handlebars_template.specs.Position.{Position}
use Rattle.handlebars_template.specs.Tree.{Tree, tree, tree_name, Elements}
use Rattle.handlebars_template.specs.TreeView.{element_view, elements_view}
use Rattle.handlebars_template.specs.declared.template.tree.TemplateElement.{TemplateElement}
use Rattle.handlebars_html.specs.Check.{first_position, later_positions}
use Rattle.handlebars_names.specs.Check.{tree_findings, elements_findings, element_findings}
use Rattle.handlebars_names.specs.Faults as faults
use Rattle.handlebars_names.specs.Names.{Names}
use Rattle.handlebars_names.specs.NamesView.{AddsFindings}
use Rattle.handlebars_names.specs.Scopes.{Scope, Entry, after_element, after_elements}
use Rattle.handlebars_names.specs.declared.fault.Finding.{Finding}
use Rattle.handlebars_names.proofs.Finding.{Accumulates, leads-goes, leads-ends}

read : {A : Type 0} (xs : List A) (i : ℕ) (x : A) → i < length xs → x ≡ get_or xs i x → drop i xs ≡ x ∷ drop (i + 1) xs
read xs i x h is = drop-cons xs i x h ∙ rw (add-one) (ap (λ z. z ∷ drop (suc i) xs) (sym is))

first-at : (ps : List Position) (i : ℕ) → first_position (drop i ps) ≡ slice_get ps i
first-at [] zero = refl
first-at [] (suc i) = refl
first-at (p ∷ ps) zero = refl
first-at (p ∷ ps) (suc i) = first-at ps i

later-at : (ps : List Position) (i : ℕ) → later_positions (drop i ps) ≡ drop (suc i) ps
later-at [] zero = refl
later-at [] (suc i) = refl
later-at (p ∷ ps) zero = refl
later-at (p ∷ ps) (suc i) = later-at ps i

-- ---- what elements set

module _ (es : List TemplateElement) where
  -- what the rest sets, from an index on, is what all set
  abbrev pub SetsFrom : ℕ → Scope → Scope → Type 0
  SetsFrom i first now = after_elements (elements_view (drop i es)) now ≡ after_elements (elements_view es) first

  pub sets-more : (i : ℕ) (e : TemplateElement) (first now next : Scope) → i < length es → e ≡ get_or es i e
      → SetsFrom i first now → next ≡ after_element (element_view e) now → SetsFrom (i + 1) first next
  sets-more i e first now next h is l sets =
      ap (after_elements (elements_view (drop (i + 1) es))) sets
      ∙ ap (λ z. after_elements (elements_view z) now) (sym (read es i e h is)) ∙ l

  pub sets-end : (i : ℕ) (first now : Scope) → length es ≤ i → SetsFrom i first now → now ≡ after_elements (elements_view es) first
  sets-end i first now past l = ap (λ z. after_elements (elements_view z) now) (sym (drop_of_length-le es past)) ∙ l

-- ---- what is found in elements

module _ (names : Names) (table : List Entry) (t n : Option Text) (ps : List Position) (es : List TemplateElement) where
  -- the findings of the elements from an index on, where this is known
  abbrev pub rest_at : ℕ → Scope → List faults.Finding
  rest_at i h = elements_findings names table t n (drop i ps) (elements_view (drop i es)) h

  abbrev pub LeadsFrom : ℕ → Scope → List Finding → Scope → List Finding → Type 0
  LeadsFrom i first_scope first now_scope now =
      Accumulates first now (rest_at i now_scope) (elements_findings names table t n ps (elements_view es) first_scope)

  rest-is : (i : ℕ) (e : TemplateElement) (h : Scope) → i < length es → e ≡ get_or es i e
      → rest_at i h ≡ element_findings names table t n (slice_get ps i) (element_view e) h ++ rest_at (i + 1) (after_element (element_view e) h)
  rest-is i e h l is =
      ap (λ z. elements_findings names table t n (drop i ps) (elements_view z) h) (read es i e l is)
      ∙ rw (first-at ps i, later-at ps i, add-one) refl

  pub element-goes : (i : ℕ) (e : TemplateElement) (g h k : Scope) (first now next : List Finding) → i < length es
      → e ≡ get_or es i e → LeadsFrom i g first h now
      → AddsFindings now next (element_findings names table t n (slice_get ps i) (element_view e) h)
      → k ≡ after_element (element_view e) h → LeadsFrom (i + 1) g first k next
  element-goes i e g h k first now next l is leads adds sets =
      subst (λ z. LeadsFrom (i + 1) g first z next) (sym sets)
      (leads-goes first now next _ _ _ (rw (rest-is i e h l is) at leads) adds)

  pub elements-end : (i : ℕ) (g h : Scope) (first now : List Finding) → length es ≤ i → LeadsFrom i g first h now
      → AddsFindings first now (elements_findings names table t n ps (elements_view es) g)
  elements-end i g h first now past l =
      leads-ends first now _ _ l (ap (λ z. elements_findings names table t n (drop i ps) (elements_view z) h) (drop_of_length-le es past))

  -- they are those of the tree
  pub tree-is : (x : Tree) (m : Option Text) (zs : Elements) (qs : List Position) (h : Scope) → x ≡ tree m zs qs
      → tree_findings names table t x h ≡ elements_findings names table t (tree_name x) qs zs h
  tree-is x m zs qs h is =
      ap (λ (y : Tree). tree_findings names table t y h) is
      ∙ ap (λ (o : Option Text). elements_findings names table t o qs zs h) (sym (ap tree_name is))
