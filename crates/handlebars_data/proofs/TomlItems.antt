-- The items of a TOML array, one after another.
use Rattle.std.proofs.Common.{◌≡◌, ◌≤◌, ℕ, List, [], ◌∷◌, ◌++◌, map, Option, Some, option_map, sym, ap, ◌∙◌, arith}
use Rattle.std.proofs.lemmas.List.{map_push}
use Rattle.toml.specs.Data.{items_depth}
use Rattle.toml.specs.View as toml
use Rattle.toml.specs.declared.value.Value as toml_value
use Rattle.serde_json.specs.Data.{Items}
use Rattle.serde_json.specs.View.{items_view, view}
use Rattle.serde_json.specs.declared.value.Value.{Value}
use Rattle.handlebars_data.specs.TomlText.{items_data, value_data}
use Rattle.handlebars_data.proofs.LineTexts.{with_items, with_items-none, map-with_item}

-- the items so far, and what is left, give the whole
abbrev pub GivesItems : List Value → List toml_value.Value → Option Items → ℕ → Type 0
GivesItems xs left all n = (option_map (with_items (map view xs)) (items_data (toml.items_view left)) ≡ all) × (items_depth (toml.items_view left) ≤ n)

pub next_item : (xs new : List Value) (e : Value) (v : toml_value.Value) (left rest : List toml_value.Value) (all : Option Items) (n : ℕ) → left ≡ v ∷ rest
    → value_data (toml.view v) ≡ Some (view e) → new ≡ xs ++ e ∷ [] → GivesItems xs left all n → GivesItems new rest all n
next_item xs new e v left rest all n is read pushed so_far =
    let here : GivesItems xs (v ∷ rest) all n = rw is at so_far in
    let values : map view new ≡ map view xs ++ view e ∷ [] = ap (map view) pushed ∙ map_push view xs e in
    let whole = rw read at here.0 in
    (rw values (map-with_item (map view xs) (view e) (items_data (toml.items_view rest))) ∙ whole, omega (arith, here.1))

pub no_more_items : (xs : List Value) (left : List toml_value.Value) (all : Option Items) (n : ℕ) → left ≡ [] → GivesItems xs left all n → all ≡ Some (items_view xs)
no_more_items xs left all n is so_far =
    let here : GivesItems xs [] all n = rw is at so_far in
    sym here.0 ∙ ap Some (with_items-none (map view xs))
