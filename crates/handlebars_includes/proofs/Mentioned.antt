-- What the elements of a template say of others, one after another.
use Rattle.std.proofs.Common.{◌≡◌, ℕ, ◌+◌, ◌<◌, ◌≤◌, Bool, List, ◌++◌, length, get_or, drop, refl, ap, ◌∙◌, add-one}
use Rattle.std.specs.Prelude.{slice_get}
use Rattle.std.proofs.Math.ListN.{drop_of_length-le}
use Rattle.handlebars_template.specs.Position.{Position}
use Rattle.handlebars_template.specs.TreeView.{element_view, elements_view}
use Rattle.handlebars_template.specs.declared.template.tree.TemplateElement.{TemplateElement}
use Rattle.handlebars_includes.specs.Mentions.{mentions_in_element, mentions_in_elements}
use Rattle.handlebars_includes.specs.View.{mention_of, AddsMentions}
use Rattle.handlebars_includes.specs.declared.mention.Mention.{Mention}
use Rattle.handlebars_includes.proofs.Adding.{Accumulates, leads-goes, leads-ends}
use Rattle.handlebars_includes.proofs.Elements.{read, first-at, later-at}

module _ (always : Bool) (ps : List Position) (es : List TemplateElement) where
  abbrev pub LeadsFrom : ℕ → List Mention → List Mention → Type 0
  LeadsFrom i first now =
      Accumulates mention_of first now (mentions_in_elements always (drop i ps) (elements_view (drop i es)))
      (mentions_in_elements always ps (elements_view es))

  rest-is : (i : ℕ) (e : TemplateElement) → i < length es → e ≡ get_or es i e
      → mentions_in_elements always (drop i ps) (elements_view (drop i es))
      ≡ mentions_in_element always (slice_get ps i) (element_view e)
      ++ mentions_in_elements always (drop (i + 1) ps) (elements_view (drop (i + 1) es))
  rest-is i e h is =
      ap (λ z. mentions_in_elements always (drop i ps) (elements_view z)) (read es i e h is)
      ∙ rw (first-at ps i, later-at ps i, add-one) refl

  pub element-goes : (i : ℕ) (e : TemplateElement) (first now next : List Mention) → i < length es → e ≡ get_or es i e
      → LeadsFrom i first now → AddsMentions now next (mentions_in_element always (slice_get ps i) (element_view e))
      → LeadsFrom (i + 1) first next
  element-goes i e first now next h is l f = leads-goes mention_of first now next _ _ _ (rw (rest-is i e h is) at l) f

  pub elements-end : (i : ℕ) (first now : List Mention) → length es ≤ i → LeadsFrom i first now
      → AddsMentions first now (mentions_in_elements always ps (elements_view es))
  elements-end i first now h l =
      leads-ends mention_of first now _ _ l (ap (λ z. mentions_in_elements always (drop i ps) (elements_view z)) (drop_of_length-le es h))
