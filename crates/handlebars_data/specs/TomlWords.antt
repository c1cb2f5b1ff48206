-- Writing the words of a TOML text. For private clauses.
use Rattle.std.specs.Prelude.{◌≡◌, ◌≤◌, ℕ, List, ◌++◌, drop}
use Rattle.std.specs.List.{slice_range}
use Rattle.std.specs.Str.{IsCharBoundary}
use Rattle.handlebars_data.specs.TomlFloats.{quoted_word}

-- The text is written up to `copied`, and then up to `now`. What is written, and the text up to `at` that is not, has the word
-- from `word` on in quotes, if it is a float.
abbrev pub PushesWord : List ℕ → ℕ → ℕ → ℕ → List ℕ → List ℕ → ℕ → Type 0
PushesWord text copied word at old new now =
    (now ≤ at) × IsCharBoundary text now
    × (new ++ slice_range text now at ≡ old ++ (slice_range text copied word ++ quoted_word (slice_range text word at) (drop at text)))
