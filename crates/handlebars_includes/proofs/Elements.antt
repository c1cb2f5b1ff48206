-- The elements of a template one after another, with their positions.
use Rattle.std.proofs.Common.{◌≡◌, ℕ, zero, suc, ◌+◌, ◌<◌, ◌≤◌, List, [], ◌∷◌, map, length, get_or, drop, Option, Some, None, refl, sym, ap, ◌∙◌, add-one}
use Rattle.std.specs.Prelude.{slice_get, IfSome, MatchOption, option_map}
use Rattle.std.specs.Option.{option_copied}
use Rattle.std.proofs.Math.Seq.{drop-cons}
use Rattle.std.proofs.lemmas.Option.{slice_get-map, slice_get_past, slice_get_read}
use denote.Ref.{Bor}
use Rattle.handlebars_template.specs.Position.{Position}
use Rattle.handlebars_template.specs.TreeView.{position_of}
use Rattle.handlebars_template.specs.declared.template.tree.TemplateMapping.{TemplateMapping}
use Rattle.handlebars_includes.specs.Positions.{first_position, later_positions}

pub read : {A : Type 0} (xs : List A) (i : ℕ) (x : A) → i < length xs → x ≡ get_or xs i x → drop i xs ≡ x ∷ drop (i + 1) xs
read xs i x h is = drop-cons xs i x h ∙ rw (add-one) (ap (λ z. z ∷ drop (suc i) xs) (sym is))

pub first-at : (ps : List Position) (i : ℕ) → first_position (drop i ps) ≡ slice_get ps i
first-at [] zero = refl
first-at [] (suc i) = refl
first-at (p ∷ ps) zero = refl
first-at (p ∷ ps) (suc i) = first-at ps i

pub later-at : (ps : List Position) (i : ℕ) → later_positions (drop i ps) ≡ drop (suc i) ps
later-at [] zero = refl
later-at [] (suc i) = refl
later-at (p ∷ ps) zero = refl
later-at (p ∷ ps) (suc i) = later-at ps i

-- what a look into a list found
looked_up : {A : Type 0} (xs : List A) (i : ℕ) (P : Bor A → Type 0) (o : Option (Bor A))
    → IfSome o (λ x. x.now ≡ get_or xs i x.now)
    → MatchOption o (length xs ≤ i) (λ x. (i < length xs) × P x) → option_copied o ≡ slice_get xs i
looked_up xs i P None at over = sym (slice_get_past xs i over)
looked_up xs i P (Some x) at within = sym (slice_get_read xs (length xs) i x.now refl within.0 at)

pub position-found : (ms : List TemplateMapping) (i : ℕ) (P : Bor TemplateMapping → Type 0) (o : Option (Bor TemplateMapping))
    → IfSome o (λ x. x.now ≡ get_or ms i x.now) → MatchOption o (length ms ≤ i) (λ x. (i < length ms) × P x)
    → (found : Option TemplateMapping) → found ≡ option_copied o → option_map position_of found ≡ slice_get (map position_of ms) i
position-found ms i P o at within found is =
    ap (option_map position_of) (is ∙ looked_up ms i P o at within) ∙ sym (slice_get-map position_of ms i)
