-- Whether two names are equal.
use Rattle.std.proofs.Common.{◌≡◌, ◌≢◌, ◌⊎◌, Bool, true, false, Decides, refl, inl, inr}
use Rattle.std.specs.Str.{bytes_eq}
use Rattle.std.proofs.lemmas.Slice.Eq.{bytes_eq-Decides}
use Rattle.hb_build.specs.Name.{Name}

pub bytes_cases : (a b : Name) → ((bytes_eq a b ≡ true) × (a ≡ b)) ⊎ ((bytes_eq a b ≡ false) × (a ≢ b))
bytes_cases a b = go (bytes_eq a b) (bytes_eq-Decides a b) where
  go : (r : Bool) → Decides r (a ≡ b) → ((r ≡ true) × (a ≡ b)) ⊎ ((r ≡ false) × (a ≢ b))
  go true d = inl (refl, d.0 refl)
  go false d = inr (refl, λ e. let h = d.1 e in absurd cc)
