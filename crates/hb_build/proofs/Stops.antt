-- Why the second pass stops.
use Rattle.std.proofs.Common.{◌≡◌, ℕ, List, [], ◌∷◌, ◌++◌, length, refl, sym, subst, inl, inr}
use Rattle.hb_build.specs.Name.{Name}
use Rattle.hb_build.specs.Items.{Item}
use Rattle.hb_build.specs.Build.{HasNoFailure, IsItemFailure, IsStop, IsStuck}
use Rattle.hb_build.specs.declared.source.Pages as pages
use Rattle.hb_build.specs.declared.files.Store as stores
use Rattle.hb_build.specs.declared.outcome.Report as reports
use Rattle.hb_build.specs.declared.options.Settings.{Settings}
use Rattle.hb_build.specs.declared.error.BuildError.{BuildError}

module _ {P S R : Type 0} (p : pages.Ghosts P) (s : stores.Ghosts S) (r : reports.Ghosts R) (settings : Settings) (names : List Name)
    (last now : P) (items : List Item) (k : ℕ) (none : HasNoFailure settings items) (number : length items ≡ k) (e : BuildError) where
  pub IsStop-stuck : IsStuck p s r settings names last k now e → IsStop p s r settings names last now items e
  IsStop-stuck h = inl (none, subst (λ n. IsStuck p s r settings names last n now e) (sym number) h)

  pub IsStop-failed : (i : Item) → IsItemFailure settings.keep_going k i e → IsStop p s r settings names last now (items ++ i ∷ []) e
  IsStop-failed i h = inr (items, i, refl, none, subst (λ n. IsItemFailure settings.keep_going n i e) (sym number) h)
