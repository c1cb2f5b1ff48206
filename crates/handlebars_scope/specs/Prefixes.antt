-- The law of recursive lookup: it takes the longest prefix of a base path under which a name has a value.
use Rattle.std.specs.Prelude.{◌≡◌, ◌⊎◌, ℕ, ◌<◌, ◌≤◌, true, List, [], ◌∷◌, ◌++◌, length, take, Some, None}
use Rattle.serde_json.specs.Data.{Data}
use Rattle.handlebars_base.specs.Answers.{gives}
use Rattle.handlebars_base.specs.Bytes.{Text}
use Rattle.handlebars_base.specs.Path.{named}
use Rattle.handlebars_base.specs.Scoped.{walked, missing}
use Rattle.handlebars_scope.specs.Scopes.{Frame}
use Rattle.handlebars_scope.specs.Resolve.{value_at, if_any, bound_resolution, navigate}

-- the first n names of a base path, and a name
abbrev pub prefix : ℕ → List Text → Text → List Text
prefix n base name = take n base ++ name ∷ []

-- The prefix of n names leads to the value, and no longer prefix leads to any. A wrong index counts as missing.
pub record IsLongest (d : Data) (base : List Text) (name : Text) (n : ℕ) (v : Data) : Type 0 where
  pub is_prefix : n ≤ length base
  pub leads : if_any (value_at d (prefix n base name)) ≡ Some v
  pub longer : (m : ℕ) → n < m → m ≤ length base → if_any (value_at d (prefix m base name)) ≡ None

-- none of the prefixes leads to a value
abbrev pub HasNoPrefix : Data → List Text → Text → Type 0
HasNoPrefix d base name = (n : ℕ) → n ≤ length base → if_any (value_at d (prefix n base name)) ≡ None

-- For a name that no block binds, if the nearest block has no base value: the value that is found is the one under the
-- longest prefix of the block's base path. If it is missing, no prefix has it. The lookup never fails.
abbrev pub TakesLongest : Type 0
TakesLongest = (d : Data) (f : Frame) (fs : List Frame) (name : Text)
    → bound_resolution (f ∷ fs) (named name ∷ []) ≡ None → f.base_value ≡ None
    → ((n : ℕ) × (v : Data) × IsLongest d f.base_path name n v
    × (navigate true (f ∷ fs) (named name ∷ []) d ≡ gives (walked v (prefix n f.base_path name))))
    ⊎ (HasNoPrefix d f.base_path name × (navigate true (f ∷ fs) (named name ∷ []) d ≡ gives missing))
