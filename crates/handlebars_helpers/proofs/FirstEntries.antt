-- The entries after the rows of a table are inserted.
use Rattle.std.proofs.Common.{◌≡◌, ℕ, ◌+◌, ◌<◌, ◌≤◌, cond, get_or, List, [], ◌∷◌, take, length, map, Option, Some, None, option_map, codes, bytes_eq, refl, sym, ap, ◌∙◌, arith}
use Rattle.std.proofs.lemmas.Cmp.{nat_list_eq_equiv}
use Rattle.std.proofs.lemmas.List.{length-map, map_more, take_all}
use Rattle.std.proofs.lemmas.Map.{update_all_push}
use Rattle.std.proofs.lemmas.Map.Made.{IsDistinct-from_count, update_all_none}
use Rattle.std.specs.Map.{keys_of, lookup, update, update_all}
use Rattle.handlebars_base.specs.Bytes.{Text}
use Rattle.handlebars_base.proofs.OptionBinds.{option_map-cond}
use Rattle.handlebars_helpers.specs.Callee.{Callee, built, first_callee}
use Rattle.handlebars_helpers.specs.Choice.{BuiltInKind, built_ins}
use Rattle.handlebars_helpers.specs.Decoration.{DecoratorKind, kind_inline, built_in_decorators, built_in_decorator}
use Rattle.handlebars_helpers.proofs.Seen.{seen-put}

-- ---- helpers

pub seen-inserted : {E C : Type 0} (seen : Text → E → C) (old new : Text → Option E) (key name : Text) (entry : E)
    → key ≡ name → ((other : Text) → new other ≡ cond (bytes_eq key other) (Some entry) (old other))
    → (other : Text) → option_map (seen other) (new other)
    ≡ update bytes_eq (λ q. option_map (seen q) (old q)) name (Some (seen name entry)) other
seen-inserted {E = E} seen old new key name entry is_name puts other =
    seen-put seen name other (Some entry) (old other) (new other)
    (puts other ∙ ap (λ (n : Text). cond (bytes_eq n other) (Some entry) (old other)) is_name)

abbrev built_row : Text × BuiltInKind → Text × Callee
built_row row = (row.0, built row.1)

lookup-built_row : (name : Text) (rows : List (Text × BuiltInKind))
    → lookup (bytes_eq name) (map built_row rows) ≡ option_map (λ k. built k) (lookup (bytes_eq name) rows)
lookup-built_row name [] = refl
lookup-built_row name (row ∷ rows) =
    ap (cond (bytes_eq name row.0) (Some (built row.1))) (lookup-built_row name rows)
    ∙ sym (option_map-cond (λ k. built k) (bytes_eq name row.0) row.1 (lookup (bytes_eq name) rows))

map-built_row : {A : Type 0} (row : A → Text × BuiltInKind) (xs : List A) → map (λ x. built_row (row x)) xs ≡ map built_row (map row xs)
map-built_row row [] = refl
map-built_row row (x ∷ xs) = ap (◌∷◌ (built_row (row x))) (map-built_row row xs)

-- after every row is inserted: no two names are the same
pub update_all-built_ins : {A : Type 0} (row : A → Text × BuiltInKind) (xs : List A) (i : ℕ) (f : Text → Option Callee)
    → map row xs ≡ built_ins → length built_ins ≤ i
    → ((other : Text) → f other ≡ update_all bytes_eq (λ _. None) (map (λ x. ((row x).0, built (row x).1)) (take i xs)) other)
    → (name : Text) → f name ≡ first_callee name
update_all-built_ins row xs i f is past so_far name =
    so_far name
    ∙ ap (λ ys. update_all bytes_eq (λ _. None) (map (λ x. built_row (row x)) ys) name)
    (take_all i xs (omega (arith, sym (length-map xs row), ap length is)))
    ∙ ap (λ rows. update_all bytes_eq (λ _. None) rows name) (map-built_row row xs ∙ ap (map built_row) is)
    ∙ update_all_none nat_list_eq_equiv bytes_eq (λ x y. refl) (map built_row built_ins) name
    (IsDistinct-from_count nat_list_eq_equiv (keys_of (map built_row built_ins)) refl)
    ∙ lookup-built_row name built_ins

-- one more row is inserted
pub update_all-next_built_in : {A : Type 0} (row : A → Text × BuiltInKind) (xs : List A) (i : ℕ) (d : A) (old new : Text → Option Callee)
    → map row xs ≡ built_ins → i < length built_ins
    → ((other : Text) → old other ≡ update_all bytes_eq (λ _. None) (map (λ x. ((row x).0, built (row x).1)) (take i xs)) other)
    → ((other : Text) → new other ≡ update bytes_eq old (row (get_or xs i d)).0 (Some (built (row (get_or xs i d)).1)) other)
    → (other : Text) → new other ≡ update_all bytes_eq (λ _. None) (map (λ x. ((row x).0, built (row x).1)) (take (i + 1) xs)) other
update_all-next_built_in {A = A} row xs i d old new is more so_far puts other =
    let to = λ (x : A). built_row (row x) in
    puts other
    ∙ update_all_push bytes_eq (λ _. None) old (map to (take i xs)) (to (get_or xs i d)) other (so_far other)
    ∙ ap (λ rows. update_all bytes_eq (λ _. None) rows other)
    (sym (map_more to xs i d (omega (arith, more, sym (length-map xs row), ap length is))))

-- ---- decorators

-- `inline`, put into an empty map
pub kinds-first : {E : Type 0} (kind : Text → E → DecoratorKind) (old new : Text → Option E) (key : Text) (entry : E)
    → key ≡ codes "inline" → ((name : Text) → old name ≡ None)
    → ((name : Text) → new name ≡ cond (bytes_eq key name) (Some entry) (old name))
    → ((name : Text) → kind name entry ≡ kind_inline) → (name : Text) → option_map (kind name) (new name) ≡ built_in_decorator name
kinds-first {E = E} kind old new key entry is_name empty puts is_kind name =
    ap (option_map (kind name)) (puts name ∙ ap (λ (o : Option E). cond (bytes_eq key name) (Some entry) o) (empty name))
    ∙ option_map-cond (kind name) (bytes_eq key name) entry None
    ∙ ap (λ (n : Text). cond (bytes_eq n name) (Some (kind name entry)) None) is_name
    ∙ ap (λ (k : DecoratorKind). cond (bytes_eq (codes "inline") name) (Some k) None) (is_kind name)
    ∙ update_all_none nat_list_eq_equiv bytes_eq (λ x y. refl) built_in_decorators name
    (IsDistinct-from_count nat_list_eq_equiv (keys_of built_in_decorators) refl)
