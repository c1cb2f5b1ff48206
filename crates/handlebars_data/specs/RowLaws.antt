-- Laws of rows that are read into the same object.
use Rattle.std.specs.Prelude.{◌≡◌, ℕ, List, length}
use Rattle.serde_json.specs.Data.{Data}
use Rattle.handlebars_data.specs.Rows.{row_object, row_over}

-- A row leaves nothing of an earlier row with the same names.
abbrev pub ReplacesEarlierRow : Type 0
ReplacesEarlierRow = (names earlier later : List (List ℕ)) (d : Data) → length later ≡ length names
    → row_over names later (row_over names earlier d) ≡ row_over names later d

-- So over the object of an earlier row a row is what it is as an object of its own.
abbrev pub IsAsNew : Type 0
IsAsNew = (names earlier later : List (List ℕ)) → length later ≡ length names
    → row_over names later (row_object names earlier) ≡ row_object names later
