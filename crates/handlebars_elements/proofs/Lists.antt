-- Lists as definitions see them, at an index.
use Rattle.std.proofs.Common.{◌≡◌, ◌≢◌, ℕ, ◌<◌, ◌≤◌, ◌∙◌, List, map, length, get_or, Option, None, Some, option_map, refl, sym, ap, arith}
use Rattle.std.specs.Prelude.{slice_get, IfSome, MatchOption}
use Rattle.std.proofs.Math.ListN.{get_or-map}
use Rattle.std.proofs.lemmas.List.{length-map}
use Rattle.std.proofs.lemmas.Option.{slice_get-map, slice_get_past, slice_get_read}
use denote.Ref.{Bor}
use Rattle.handlebars_base.specs.Reasons.{out_of_memory}
use Rattle.handlebars_base.specs.RenderRefusals.{reason_in, reason_of, location_of, cause_of}
use Rattle.handlebars_base.specs.declared.error.render_error.RenderError.{RenderError}
use Rattle.handlebars_template.specs.Tree.{Element}
use Rattle.handlebars_template.specs.TreeView.{position_of}
use Rattle.handlebars_template.specs.declared.template.tree.TemplateMapping.{TemplateMapping}
use Rattle.handlebars_semantics.specs.Occurrences.{Occurrence, occurrence_position}
use Rattle.handlebars_semantics.specs.Steps.{One}
use Rattle.handlebars_semantics.specs.Runs.{positioned_at}
use Rattle.handlebars_write.proofs.Refinement.{IsMarked}

pub get_or-seen : {A B : Type 0} (f : A → B) (xs : List A) (i : ℕ) (x : A) → x ≡ get_or xs i x → get_or (map f xs) i (f x) ≡ f x
get_or-seen f xs i x is = get_or-map f xs i x ∙ ap f (sym is)

pub below-seen : {A B : Type 0} (f : A → B) (xs : List A) (i : ℕ) → i < length xs → i < length (map f xs)
below-seen f xs i lt = omega (arith, lt, length-map xs f)

pub over-seen : {A B : Type 0} (f : A → B) (xs : List A) (i : ℕ) → length xs ≤ i → length (map f xs) ≤ i
over-seen f xs i le = omega (arith, le, length-map xs f)

through : {A B C : Type 0} (f : A → B) (h : B → C) (o : Option A) → option_map h (option_map f o) ≡ option_map (λ a. h (f a)) o
through f h None = refl
through f h (Some a) = refl

-- the position that the code found is that of the element
pub position_there : (ms : List TemplateMapping) (i : ℕ) (o : Option (Bor TemplateMapping)) → option_map (λ m. m.now) o ≡ slice_get ms i → option_map (λ m. position_of m.now) o ≡ slice_get (map position_of ms) i
position_there ms i o is = sym (through (λ m. m.now) position_of o) ∙ ap (option_map position_of) is ∙ sym (slice_get-map position_of ms i)

pub positioned_marks : (occurrence : Occurrence) (x : Element) (e d : RenderError)
    → (reason_in d ≢ out_of_memory → location_of d ≡ positioned_at (occurrence_position occurrence) (location_of e)) → cause_of d ≡ cause_of e
    → IsMarked (One occurrence x) e d
positioned_marks occurrence x e d is unchanged = record {
  location = is;
  cause = λ _. unchanged;
  memory = λ memory. ap reason_of unchanged ∙ memory;
}

-- what a look into a slice found
pub list_lookup : {A B : Type 0} (f : A → B) (xs : List B) (i : ℕ) (P : A → Type 0) (o : Option A) → IfSome o (λ x. f x ≡ get_or xs i (f x)) → MatchOption o (length xs ≤ i) (λ x. (i < length xs) × P x) → option_map f o ≡ slice_get xs i
list_lookup f xs i P None at over = sym (slice_get_past xs i over)
list_lookup f xs i P (Some x) at within = sym (slice_get_read xs (length xs) i (f x) refl within.0 at)
