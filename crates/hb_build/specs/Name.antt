-- Names of files: which are acceptable, and which are so together.
use Rattle.std.specs.Prelude.{◌≡◌, ◌≢◌, ℕ, ◌==◌, List, [], ◌∷◌, ◌++◌, Option, Some, All, AllPairs, Contains, String, map, slice_get, string_bytes}
use Rattle.std.specs.List.{slice_split}
use Rattle.std.specs.declared.alloc.Global.{Global}

-- the name of a file or a folder within the output folder: bytes of UTF-8
abbrev pub Name : Type 0
Name = List ℕ

-- the parts of a name, between one `/` (47) and the next
abbrev pub parts : Name → List Name
parts name = slice_split (λ b. b == 47) name

-- A part names something: it isn't empty, `.` (46) or `..`, and contains no NUL.
pub record IsPart (part : Name) : Type 0 where
  pub not_empty : part ≢ []
  pub not_dot : part ≢ 46 ∷ []
  pub not_dots : part ≢ 46 ∷ 46 ∷ []
  pub no_nul : Contains part 0 → ⊥

-- Each part of the name names something. So the name is relative, and leads nowhere out of the output folder.
abbrev pub IsAcceptable : Name → Type 0
IsAcceptable name = All IsPart (parts name)

-- the folder is what stands before some `/` of the name
abbrev pub IsFolderOf : Name → Name → Type 0
IsFolderOf folder name = (rest : Name) × (name ≡ folder ++ 47 ∷ rest)

-- Files of these names can stand side by side: each name is acceptable, no two are equal, and no file is a folder of another.
pub record AreAcceptable (names : List Name) : Type 0 where
  pub each : All IsAcceptable names
  pub distinct : AllPairs (λ a b. a ≢ b) names
  pub no_folder : (a b : Name) → Contains names a → Contains names b → IsFolderOf a b → ⊥

-- the names as texts
abbrev pub names_of : List (String Global) → List Name
names_of texts = map string_bytes texts

-- the names by number, from 0: each has one, and only these have
pub record IsNumbering (names : List Name) (number : Name → Option ℕ) : Type 0 where
  pub each : (k : ℕ) (name : Name) → slice_get names k ≡ Some name → number name ≡ Some k
  pub only : (name : Name) (k : ℕ) → number name ≡ Some k → slice_get names k ≡ Some name
