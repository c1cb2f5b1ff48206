-- Where an element is.
use Rattle.std.proofs.Common.{◌≡◌, ℕ, ◌<◌, ◌≤◌, ◌∙◌, List, map, length, get_or, Option, None, Some, option_map, refl, sym, ap}
use Rattle.std.specs.Prelude.{slice_get, IfSome, MatchOption}
use Rattle.std.proofs.lemmas.Option.{slice_get-map, slice_get_past, slice_get_read}
use denote.Ref.{Bor}
use Rattle.handlebars_template.specs.TreeView.{position_of}
use Rattle.handlebars_template.specs.declared.template.tree.TemplateMapping.{TemplateMapping}

through : {A B C : Type 0} (f : A → B) (h : B → C) (o : Option A) → option_map h (option_map f o) ≡ option_map (λ a. h (f a)) o
through f h None = refl
through f h (Some a) = refl

-- the position that the code found is that of the element
pub position_there : (ms : List TemplateMapping) (i : ℕ) (o : Option (Bor TemplateMapping)) → option_map (λ m. m.now) o ≡ slice_get ms i
    → option_map (λ m. position_of m.now) o ≡ slice_get (map position_of ms) i
position_there ms i o is = sym (through (λ m. m.now) position_of o) ∙ ap (option_map position_of) is ∙ sym (slice_get-map position_of ms i)

-- what a look into a slice found
pub list_lookup : {A B : Type 0} (f : A → B) (xs : List B) (i : ℕ) (P : A → Type 0) (o : Option A) → IfSome o (λ x. f x ≡ get_or xs i (f x))
    → MatchOption o (length xs ≤ i) (λ x. (i < length xs) × P x) → option_map f o ≡ slice_get xs i
list_lookup f xs i P None at over = sym (slice_get_past xs i over)
list_lookup f xs i P (Some x) at within = sym (slice_get_read xs (length xs) i (f x) refl within.0 at)
