-- The names that the elements of a template read, one after another.
use Rattle.std.proofs.Common.{◌≡◌, ℕ, ◌+◌, ◌<◌, ◌≤◌, List, ◌++◌, length, get_or, drop, refl, ap, ◌∙◌, add-one}
use Rattle.std.specs.Prelude.{slice_get}
use Rattle.std.proofs.Math.ListN.{drop_of_length-le}
use Rattle.handlebars_template.specs.Position.{Position}
use Rattle.handlebars_template.specs.TreeView.{element_view, elements_view}
use Rattle.handlebars_template.specs.declared.template.tree.TemplateElement.{TemplateElement}
use Rattle.handlebars_includes.specs.Frames.{Frame}
use Rattle.handlebars_includes.specs.Hidden.{hidden_in_element, hidden_in_elements}
use Rattle.handlebars_includes.specs.FrameView.{hidden_of, AddsNames}
use Rattle.handlebars_includes.specs.declared.hidden.HiddenName.{HiddenName}
use Rattle.handlebars_includes.proofs.Adding.{Accumulates, leads-goes, leads-ends}
use Rattle.handlebars_includes.proofs.Elements.{read, first-at, later-at}

module _ (t : ℕ) (fs : List Frame) (ps : List Position) (es : List TemplateElement) where
  abbrev pub LeadsFrom : ℕ → List HiddenName → List HiddenName → Type 0
  LeadsFrom i first now =
      Accumulates hidden_of first now (hidden_in_elements t fs (drop i ps) (elements_view (drop i es)))
      (hidden_in_elements t fs ps (elements_view es))

  rest-is : (i : ℕ) (e : TemplateElement) → i < length es → e ≡ get_or es i e
      → hidden_in_elements t fs (drop i ps) (elements_view (drop i es))
      ≡ hidden_in_element t fs (slice_get ps i) (element_view e)
      ++ hidden_in_elements t fs (drop (i + 1) ps) (elements_view (drop (i + 1) es))
  rest-is i e h is =
      ap (λ z. hidden_in_elements t fs (drop i ps) (elements_view z)) (read es i e h is)
      ∙ rw (first-at ps i, later-at ps i, add-one) refl

  pub element-goes : (i : ℕ) (e : TemplateElement) (first now next : List HiddenName) → i < length es → e ≡ get_or es i e
      → LeadsFrom i first now → AddsNames now next (hidden_in_element t fs (slice_get ps i) (element_view e))
      → LeadsFrom (i + 1) first next
  element-goes i e first now next h is l f = leads-goes hidden_of first now next _ _ _ (rw (rest-is i e h is) at l) f

  pub elements-end : (i : ℕ) (first now : List HiddenName) → length es ≤ i → LeadsFrom i first now
      → AddsNames first now (hidden_in_elements t fs ps (elements_view es))
  elements-end i first now h l =
      leads-ends hidden_of first now _ _ l (ap (λ z. hidden_in_elements t fs (drop i ps) (elements_view z)) (drop_of_length-le es h))
