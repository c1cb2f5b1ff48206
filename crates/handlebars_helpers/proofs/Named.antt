-- The names of a map, one after another.
use Rattle.std.proofs.Common.{◌≡◌, Bool, true, false, cond, List, [], ◌∷◌, Some, is_some, String, Global, string_bytes, bytes_eq, refl, sym, ap, ◌∙◌}
use Rattle.std.proofs.lemmas.Cmp.{nat_list_eq_equiv}
use Rattle.std.proofs.lemmas.Map.Text.{btree_set_updates_text}
use Rattle.std.specs.BTreeSet.{BTreeSet, UpdatesBy, contains_text}
use Rattle.std.specs.List.{list_any}
use Rattle.std.specs.Map.{lookup}
use Rattle.std.specs.Prelude.{◌||◌}
use Rattle.std.specs.String.{string_cmp}
use Rattle.handlebars_base.specs.Bytes.{Text}

-- A name that is added is taken from what is left.
added : (same turned so_far rest : Bool) → same ≡ turned → (cond same true so_far || rest) ≡ (so_far || (turned || rest))
added true turned true rest is = refl
added true turned false rest is = ap (λ (b : Bool). b || rest) is
added false turned so_far rest is = ap (λ (b : Bool). so_far || (b || rest)) is

or-none : (b : Bool) → b ≡ (b || false)
or-none true = refl
or-none false = refl

module _ {E : Type 0} where
  -- whether a list of entries has this name
  abbrev pub is_named : Text → List (String Global × E) → Bool
  is_named name es = list_any (λ e. bytes_eq name (string_bytes e.0)) es

  -- The names so far and those that are left are all names.
  abbrev pub NamesFrom : BTreeSet (String Global) → List (String Global × E) → List (String Global × E) → Type 0
  NamesFrom names rest es = (name : Text) → (contains_text names name || is_named name rest) ≡ is_named name es

  pub names-go : (old new : BTreeSet (String Global)) (key : String Global) (e : String Global × E)
      (rest next es : List (String Global × E)) → UpdatesBy string_cmp (string_cmp key) old new true
      → string_bytes key ≡ string_bytes e.0 → rest ≡ e ∷ next → NamesFrom old rest es → NamesFrom new next es
  names-go old new key e rest next es updates is left so_far name =
      ap (λ (b : Bool). b || is_named name next) (btree_set_updates_text (string_bytes key) old new true updates name)
      ∙ added (bytes_eq (string_bytes key) name) (bytes_eq name (string_bytes e.0)) (contains_text old name) (is_named name next)
      (nat_list_eq_equiv.symm (string_bytes key) name ∙ ap (bytes_eq name) is)
      ∙ sym (ap (λ (xs : List (String Global × E)). contains_text old name || is_named name xs) left) ∙ so_far name

  -- There is an entry of this name if it is a name.
  is_named-lookup : (name : Text) (es : List (String Global × E))
      → is_named name es ≡ is_some (lookup (λ k. bytes_eq name (string_bytes k)) es)
  is_named-lookup name [] = refl
  is_named-lookup name (e ∷ es) = by (bytes_eq name (string_bytes e.0)) (is_named-lookup name es)
    where
      by : (b : Bool) → is_named name es ≡ is_some (lookup (λ k. bytes_eq name (string_bytes k)) es)
          → (b || is_named name es) ≡ is_some (cond b (Some e.1) (lookup (λ k. bytes_eq name (string_bytes k)) es))
      by true later = refl
      by false later = later

  pub names-end : (names : BTreeSet (String Global)) (rest es : List (String Global × E)) → rest ≡ []
      → NamesFrom names rest es → (name : Text)
      → contains_text names name ≡ is_some (lookup (λ k. bytes_eq name (string_bytes k)) es)
  names-end names rest es past all name =
      or-none (contains_text names name)
      ∙ sym (ap (λ (xs : List (String Global × E)). contains_text names name || is_named name xs) past)
      ∙ all name ∙ is_named-lookup name es
