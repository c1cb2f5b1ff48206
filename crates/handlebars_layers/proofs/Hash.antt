-- What a name is bound to by hash arguments: the value of the last one that has the name.
use Rattle.std.proofs.Common.{◌≡◌, ◌+◌, ◌-◌, ◌<◌, ◌≤◌, ◌++◌, ℕ, Bool, true, false, cond, length, take, slice_index_or, List, [], ◌∷◌, Option, Some, Bor, refl, sym, ap, ◌∙◌, arith}
use Rattle.std.proofs.lemmas.List.{take_more}
use Rattle.std.specs.Str.{bytes_eq}
use Rattle.handlebars_base.specs.Bytes.{Text}
use Rattle.handlebars_scope.specs.Scopes.{Bound, bound_value, put_at}
use Rattle.handlebars_semantics.specs.Inclusion.{with_bound}
use Rattle.handlebars_layers.specs.FrameValues.{hash_values, value_data}
use Rattle.handlebars_layers.specs.declared.destination.FrameValue.{FrameValue}

-- the last argument takes precedence over those before it
with-last : (hs : List (Bor Text × FrameValue)) (h : Bor Text × FrameValue) (before : Text → Option Bound) (name : Text)
    → with_bound (hash_values (hs ++ h ∷ [])) before name
    ≡ cond (bytes_eq h.0.now name) (Some (bound_value (value_data h.1))) (with_bound (hash_values hs) before name)
with-last [] h before name = refl
with-last (e ∷ es) h before name = with-last es h (put_at e.0.now (bound_value (value_data e.1)) before) name

module _ (hs : List (Bor Text × FrameValue)) (n : ℕ) (h : Bor Text × FrameValue) (before : Text → Option Bound) (name : Text)
    (some : 0 < n) (inside : n ≤ length hs) (is : h ≡ slice_index_or hs (n - 1) h) where
  last-of : take n hs ≡ take (n - 1) hs ++ h ∷ []
  last-of =
      let same : n - 1 + 1 ≡ n = omega (arith, some) in
      sym (ap (λ m. take m hs) same) ∙ take_more hs (n - 1) h (omega (arith, some, inside))
      ∙ ap (λ (last : Bor Text × FrameValue). take (n - 1) hs ++ last ∷ []) (sym is)

  -- what the name is bound to, if this is whether the last argument has the name
  bound-if : (b : Bool) → bytes_eq h.0.now name ≡ b → with_bound (hash_values (take n hs)) before name
      ≡ cond b (Some (bound_value (value_data h.1))) (with_bound (hash_values (take (n - 1) hs)) before name)
  bound-if b has = ap (λ gs. with_bound (hash_values gs) before name) last-of ∙ with-last (take (n - 1) hs) h before name
      ∙ ap (λ x. cond x (Some (bound_value (value_data h.1))) (with_bound (hash_values (take (n - 1) hs)) before name)) has

  pub hash-here : bytes_eq h.0.now name ≡ true
      → Some (bound_value (value_data h.1)) ≡ with_bound (hash_values (take n hs)) before name
  hash-here has = sym (bound-if true has)

  pub hash-before : bytes_eq h.0.now name ≡ false
      → with_bound (hash_values (take (n - 1) hs)) before name ≡ with_bound (hash_values (take n hs)) before name
  hash-before has = sym (bound-if false has)
