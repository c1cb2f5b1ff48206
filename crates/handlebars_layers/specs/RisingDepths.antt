-- Depths that rise strictly from entry to entry.
use Rattle.std.specs.Prelude.{ℕ, suc, ◌<◌, ◌≤◌, List, [], ◌∷◌, map}
use Rattle.std.specs.Coded.{×_prop, Unit-prop, le_prop}
use Rattle.handlebars_layers.specs.declared.partials.OfFrame.{OfFrame}

abbrev pub depths_of : List OfFrame → List ℕ
depths_of frames = map (λ f. f.depth) frames

-- Each number is above the one before it, and the first is at least `low`.
abbrev pub Rises : ℕ → List ℕ → Type 0
Rises low [] = Unit {0}
Rises low (n ∷ ns) = (low ≤ n) × Rises (suc n) ns

-- Each entry is of a frame that is less deep than this depth.
abbrev pub AllBefore : ℕ → List OfFrame → Type 0
AllBefore depth [] = Unit {0}
AllBefore depth (f ∷ fs) = (f.depth < depth) × AllBefore depth fs

pub Rises-prop : (low : ℕ) (ns : List ℕ) → IsProp (Rises low ns)
Rises-prop low [] = Unit-prop
Rises-prop low (n ∷ ns) = ×_prop le_prop (Rises-prop (suc n) ns)
