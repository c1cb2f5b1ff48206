-- What is found by a map, and by a list of the same names.
use Rattle.std.proofs.Common.{◌≡◌, Bool, true, false, ◌||◌, cond, if◌then◌else◌, ℕ, suc, ◌+◌, ◌<◌, add-one, List, [], ◌∷◌, map, drop, length, get_or, Option, None, Some, is_some, option_map, String, Global, string_bytes, bytes_eq, refl, ap, sym, ◌∙◌}
use Rattle.std.proofs.Math.Seq.{drop-cons}
use Rattle.std.proofs.lemmas.Cmp.{nat_list_eq_equiv}
use Rattle.std.proofs.lemmas.Map.Text.{is_eq-slice_cmp}
use Rattle.std.specs.BTreeMap.{is_at}
use Rattle.std.specs.Cmp.Lexicographic.{slice_cmp}
use Rattle.std.specs.Map.{lookup}
use Rattle.std.specs.Option.{option_copied}
use denote.Ref.{Bor}
use Rattle.std.specs.Ordering.{nat_cmp}
use Rattle.handlebars_base.specs.Bytes.{Text}
use Rattle.handlebars_names.specs.NamesView.{entry_of, scope_of}
use Rattle.handlebars_names.specs.Scopes as scopes
use Rattle.handlebars_names.specs.declared.scope.Scope.{Scope}

-- ---- tables

found-or : (b : Bool) (s : Scope) (o : Option Scope) (r : Option scopes.Scope) → option_map scope_of o ≡ r
    → option_map scope_of (cond b (Some s) o) ≡ (if b then Some (scope_of s) else r)
found-or true s o r h = refl
found-or false s o r h = h

pub copied-scope : (o : Option (Bor Scope)) → option_map (λ s. scope_of s.now) o ≡ option_map scope_of (option_copied o)
copied-scope None = refl
copied-scope (Some s) = refl

pub scope-found : (n : Text) (es : List (String Global × Scope))
    → option_map scope_of (lookup (is_at (λ k. slice_cmp nat_cmp n (string_bytes k))) es) ≡ scopes.scope_at (map entry_of es) n
scope-found n [] = refl
scope-found n (e ∷ es) =
    ap (λ (b : Bool). option_map scope_of (cond b (Some e.1) (lookup (is_at (λ k. slice_cmp nat_cmp n (string_bytes k))) es)))
    (is_eq-slice_cmp n (string_bytes e.0) ∙ nat_list_eq_equiv.symm n (string_bytes e.0))
    ∙ found-or (bytes_eq (string_bytes e.0) n) e.1 _ _ (scope-found n es)

-- ---- places

-- A name that is placed is one of those that are placed, and no longer of those that are left.
pub placed-more : (rest b : Bool) (at : ℕ) (o : Option ℕ)
    → (rest || is_some (if b then Some at else o)) ≡ ((b || rest) || is_some o)
placed-more true true at o = refl
placed-more false true at o = refl
placed-more true false at o = refl
placed-more false false at o = refl

pub read : {A : Type 0} (xs : List A) (i : ℕ) (x : A) → i < length xs → x ≡ get_or xs i x → drop i xs ≡ x ∷ drop (i + 1) xs
read xs i x h is = drop-cons xs i x h ∙ rw (add-one) (ap (λ z. z ∷ drop (suc i) xs) (sym is))
