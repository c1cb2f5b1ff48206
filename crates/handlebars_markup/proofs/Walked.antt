-- The elements of a template one after another, with their positions.
use Rattle.std.proofs.Common.{◌≡◌, ℕ, zero, suc, ◌+◌, ◌<◌, ◌≤◌, List, [], ◌∷◌, ◌++◌, map, length, get_or, drop, Option, Some, None, refl, sym, ap, ◌∙◌, add-one}
use Rattle.std.specs.Prelude.{slice_get, IfSome, MatchOption, option_map}
use Rattle.std.specs.Option.{option_copied}
use Rattle.std.proofs.Math.ListN.{drop_of_length-le}
use Rattle.std.proofs.Math.Seq.{drop-cons}
use Rattle.std.proofs.lemmas.Option.{slice_get-map, slice_get_past, slice_get_read}
use denote.Ref.{Bor}
use Rattle.handlebars_base.specs.Bytes.{Text}
use Rattle.handlebars_template.specs.Position.{Position}
use Rattle.handlebars_template.specs.TreeView.{element_view, elements_view, position_of}
use Rattle.handlebars_template.specs.declared.template.tree.TemplateMapping.{TemplateMapping}
use Rattle.handlebars_template.specs.declared.template.tree.TemplateElement.{TemplateElement}
use Rattle.handlebars_helpers.specs.UserAnswers.{Registrations}
use Rattle.handlebars_markup.specs.FaultsView.{AddsFindings}
use Rattle.handlebars_markup.specs.declared.fault.MarkupFault.{MarkupFault}
use Rattle.handlebars_markup.proofs.Finding.{Accumulates, leads-goes, leads-ends}
use Rattle.handlebars_markup.specs.Faults.{first_position, later_positions, faults_of_element, faults_of_elements}

read : {A : Type 0} (xs : List A) (i : ℕ) (x : A) → i < length xs → x ≡ get_or xs i x → drop i xs ≡ x ∷ drop (i + 1) xs
read xs i x h is = drop-cons xs i x h ∙ rw (add-one) (ap (λ z. z ∷ drop (suc i) xs) (sym is))

first-at : (ps : List Position) (i : ℕ) → first_position (drop i ps) ≡ slice_get ps i
first-at [] zero = refl
first-at [] (suc i) = refl
first-at (p ∷ ps) zero = refl
first-at (p ∷ ps) (suc i) = first-at ps i

later-at : (ps : List Position) (i : ℕ) → later_positions (drop i ps) ≡ drop (suc i) ps
later-at [] zero = refl
later-at [] (suc i) = refl
later-at (p ∷ ps) zero = refl
later-at (p ∷ ps) (suc i) = later-at ps i

elements-at : (r : Registrations) (n : Option Text) (ps : List Position) (es : List TemplateElement) (i : ℕ) (e : TemplateElement)
    → i < length es → e ≡ get_or es i e → faults_of_elements r n (drop i ps) (elements_view (drop i es))
    ≡ faults_of_element r n (slice_get ps i) (element_view e)
    ++ faults_of_elements r n (drop (i + 1) ps) (elements_view (drop (i + 1) es))
elements-at r n ps es i e h is =
    ap (λ z. faults_of_elements r n (drop i ps) (elements_view z)) (read es i e h is)
    ∙ rw (first-at ps i, later-at ps i, add-one) refl

-- ---- the loop over elements

module _ (r : Registrations) (n : Option Text) (ps : List Position) (es : List TemplateElement) where
  -- the faults of the elements from an index on
  abbrev pub LeadsFrom : ℕ → List MarkupFault → List MarkupFault → Type 0
  LeadsFrom i first now =
      Accumulates first now (faults_of_elements r n (drop i ps) (elements_view (drop i es)))
      (faults_of_elements r n ps (elements_view es))

  pub element-goes : (i : ℕ) (e : TemplateElement) (first now next : List MarkupFault) → i < length es → e ≡ get_or es i e
      → LeadsFrom i first now → AddsFindings now next (faults_of_element r n (slice_get ps i) (element_view e))
      → LeadsFrom (i + 1) first next
  element-goes i e first now next h is l f = leads-goes first now next _ _ _ (rw (elements-at r n ps es i e h is) at l) f

  pub elements-end : (i : ℕ) (first now : List MarkupFault) → length es ≤ i → LeadsFrom i first now
      → AddsFindings first now (faults_of_elements r n ps (elements_view es))
  elements-end i first now h l =
      leads-ends first now _ _ l (ap (λ z. faults_of_elements r n (drop i ps) (elements_view z)) (drop_of_length-le es h))

-- ---- the position of an element

-- what a look into a list found
looked_up : {A : Type 0} (xs : List A) (i : ℕ) (P : Bor A → Type 0) (o : Option (Bor A))
    → IfSome o (λ x. x.now ≡ get_or xs i x.now)
    → MatchOption o (length xs ≤ i) (λ x. (i < length xs) × P x) → option_copied o ≡ slice_get xs i
looked_up xs i P None at over = sym (slice_get_past xs i over)
looked_up xs i P (Some x) at within = sym (slice_get_read xs (length xs) i x.now refl within.0 at)

pub position-found : (ms : List TemplateMapping) (i : ℕ) (P : Bor TemplateMapping → Type 0) (o : Option (Bor TemplateMapping))
    → IfSome o (λ x. x.now ≡ get_or ms i x.now) → MatchOption o (length ms ≤ i) (λ x. (i < length ms) × P x)
    → (found : Option TemplateMapping) → found ≡ option_copied o → option_map position_of found ≡ slice_get (map position_of ms) i
position-found ms i P o at within found is =
    ap (option_map position_of) (is ∙ looked_up ms i P o at within) ∙ sym (slice_get-map position_of ms i)
