-- What the loop over decorators executes.
use Rattle.std.proofs.Common.{◌≡◌, ◌≢◌, ℕ, ◌+◌, ◌<◌, ◌≤◌, List, [], ◌∷◌, length, map, get_or, Option, Ok, Err, refl, sym, ap, ◌∙◌, subst}
use Rattle.std.specs.Prelude.{slice_get}
use Rattle.std.proofs.lemmas.List.{drop_all}
use Rattle.handlebars_base.specs.Bytes.{Text}
use Rattle.handlebars_base.specs.Reasons.{Reason, Location, Refusal, out_of_memory}
use Rattle.handlebars_base.specs.RenderRefusals.{reason_in, reason_of, location_of, cause_of, refusal_of}
use Rattle.handlebars_base.specs.declared.error.render_error.RenderError.{RenderError}
use Rattle.handlebars_template.specs.Position.{Position}
use Rattle.handlebars_template.specs.Tree.{Element, elements_of, element}
use Rattle.handlebars_template.specs.TreeView.{element_view}
use Rattle.handlebars_template.specs.declared.template.tree.TemplateElement.{TemplateElement}
use Rattle.handlebars_semantics.specs.Evaluation.{decorator_alone, decorators_alone, renamed}
use Rattle.handlebars_semantics.specs.Means.{render_element, render_elements}
use Rattle.handlebars_semantics.specs.Runs.{Outcome, Ended, Failed, Runs, done, did, did_over, positioned_at}
use Rattle.handlebars_semantics.specs.Occurrences.{first_tree, element_in}
use Rattle.handlebars_semantics.specs.State.{Setting, State}
use Rattle.handlebars_semantics.specs.Steps.{One, Steps, Done, Do, run}
use Rattle.handlebars_elements.specs.Silent.{Does, Evals}
use Rattle.handlebars_write.proofs.Refinement.{IsMarked, marked-refusal}
use Rattle.handlebars_write.proofs.Elements.{from_index, at_index}

-- an element, as evaluation sees it
abbrev pub alone_view : TemplateElement → Element
alone_view e = decorator_alone (element_view e)

pub alone-elements : (es : List TemplateElement)
    → decorators_alone (elements_of (map element_view es)) ≡ elements_of (map alone_view es)
alone-elements [] = refl
alone-elements (e ∷ es) = ap (element (alone_view e)) (alone-elements es)

module _ (p : Setting) where
  -- A run that ends so from here ends so from the start, with nothing written.
  abbrev pub SilentLeft : List Element → List Position → ℕ → State → State → Type 0
  SilentLeft es positions i s now = (o : Outcome) → Runs p (from_index first_tree es positions i) now [] o
      → Runs p (from_index first_tree es positions 0) s [] o

  here : (es : List Element) (positions : List Position) (i : ℕ) (d x : Element) {now : State} {o : Outcome} → i < length es
      → get_or es i d ≡ x
      → Runs p (Do (One (element_in first_tree i (slice_get positions i)) x) (from_index first_tree es positions (i + 1))) now [] o
      → Runs p (from_index first_tree es positions i) now [] o
  here es positions i d x {now = now} {o = o} lt is r =
      subst (λ (k : Steps). Runs p k now [] o) (sym (at_index first_tree es positions i d lt))
      (subst (λ (z : Element). Runs p (Do (One (element_in first_tree i (slice_get positions i)) z)
      (from_index first_tree es positions (i + 1))) now [] o) (sym is) r)

  pub silent-goes : (es : List Element) (positions : List Position) (i : ℕ) (d x : Element) (s now next : State) {u : Unit {0}}
      → i < length es → get_or es i d ≡ x → SilentLeft es positions i s now
      → Does p (render_element (element_in first_tree i (slice_get positions i)) x) now (Ok u) next → SilentLeft es positions (i + 1) s next
  silent-goes es positions i d x s now next lt is left does = λ o r. left o
      (here es positions i d x lt is (did (does (λ v. Done) [] (Ended next) done) r))

  silent-over : (es : List Element) (positions : List Position) (i : ℕ) (d x : Element) (s now : State) (r : Refusal)
      → i < length es → get_or es i d ≡ x → SilentLeft es positions i s now
      → Runs p (render_element (element_in first_tree i (slice_get positions i)) x (λ v. Done)) now [] (Failed r)
      → Runs p (from_index first_tree es positions 0) s []
      (Failed (record r { location = positioned_at (slice_get positions i) r.location }))
  silent-over es positions i d x s now r lt is left run = left _ (here es positions i d x lt is (did_over run tt))

  pub silent-ends : (es : List Element) (positions : List Position) (i : ℕ) (s now : State) → length es ≤ i
      → SilentLeft es positions i s now → Runs p (from_index first_tree es positions 0) s [] (Ended now)
  silent-ends es positions i s now over left = left (Ended now)
      (subst (λ (z : List Element). Runs p (run (render_elements first_tree i (elements_of z) positions)) now [] (Ended now))
      (sym (drop_all i es over)) done)

  -- an error takes the position of its element, and then the name of the tree
  pub silent-failed : (name : Option Text) (es : List Element) (positions : List Position) (i : ℕ) (d x : Element)
      (s now next last : State) (e f g : RenderError)
      → i < length es → get_or es i d ≡ x → SilentLeft es positions i s now
      → IsMarked (One (element_in first_tree i (slice_get positions i)) x) e f
      → (reason_in g ≢ out_of_memory → location_of g ≡ record (location_of f) { name = name })
      → (reason_in g ≢ out_of_memory → cause_of g ≡ cause_of f)
      → (reason_in f ≡ out_of_memory → reason_in g ≡ out_of_memory)
      → Does p (render_element (element_in first_tree i (slice_get positions i)) x) now (Err e) next
      → Evals p (from_index first_tree es positions 0) (renamed name) s (Err g) last
  silent-failed name es positions i d x s now next last e f g lt is left m location cause memory does = λ other.
      let unchanged : reason_in f ≢ out_of_memory = λ none. other (memory none) in (
        record { reason = reason_in e; location = positioned_at (slice_get positions i) (location_of e) },
        silent-over es positions i d x s now (refusal_of e) lt is left (does (λ none. unchanged (m.memory none)) (λ v. Done)),
        ap (λ (r : Reason). record { reason = r; location = location_of g }) (ap reason_of (cause other))
            ∙ ap (λ (z : Location). record { reason = reason_in f; location = z }) (location other)
            ∙ ap (renamed name) (marked-refusal (One (element_in first_tree i (slice_get positions i)) x) e f m unchanged),
      )
