-- Tables with a header: CSV (RFC 4180) and TSV. Each row is an object of texts.
use Rattle.std.specs.Prelude.{◌≡◌, ◌≢◌, ◌⊎◌, ℕ, ◌+◌, List, [], ◌∷◌, ◌++◌, length, map, All, Option, Some, None, unwrap_or}
use Rattle.csv.specs.Reading.{AreRecords, Reached, default_config, strip_bom}
use Rattle.csv.specs.Records.{AllText}
use Rattle.csv.specs.declared.parser.Config.{Config}
use Rattle.csv.specs.declared.parser.State.{State}
use Rattle.csv.specs.declared.parser.State.TheVariants as state
use Rattle.serde_json.specs.Data.{Data, string, array, object, no_items, Members, no_members, put}
use Rattle.serde_json.specs.Find.{as_object}
use Rattle.serde_json.specs.View.{items_of}
use Rattle.handlebars_data.specs.Counts.{counted}
use Rattle.handlebars_data.specs.declared.error.DataErrorKind.{DataErrorKind}
use Rattle.handlebars_data.specs.declared.error.DataErrorKind.TheVariants.{RaggedRow, FieldNotUtf8}
use Rattle.handlebars_data.specs.declared.rows.Delimiter.{Delimiter}
use Rattle.handlebars_data.specs.declared.rows.Delimiter.TheVariants.{Comma, Tab}

-- what stands between fields
abbrev pub delimiter_byte : Delimiter → ℕ
delimiter_byte Comma = 44
delimiter_byte Tab = 9

-- How the records of a table are read: fields may stand in double quotes, and a quote in them is doubled.
abbrev pub table_config : Delimiter → Config
table_config d = record default_config { delimiter = delimiter_byte d }

-- The fields go in one after another, so of two columns with the same name the later one counts.
abbrev pub row_members : List (List ℕ) → List (List ℕ) → Members → Members
row_members [] fields found = found
row_members (name ∷ names) [] found = found
row_members (name ∷ names) (field ∷ fields) found = row_members names fields (put name (string field) found)

-- the members of an object; anything else has none
abbrev pub members_in : Data → Members
members_in d = unwrap_or (as_object d) no_members

-- an object with a row's fields, each under the name of its column; other members of the object stay
abbrev pub row_over : List (List ℕ) → List (List ℕ) → Data → Data
row_over names fields d = object (row_members names fields (members_in d))

-- a row as an object of its own
abbrev pub row_object : List (List ℕ) → List (List ℕ) → Data
row_object names fields = object (row_members names fields no_members)

-- a row with as many fields as the header, which are text
abbrev pub IsGoodRow : List (List ℕ) → List (List ℕ) → Type 0
IsGoodRow names row = (length row ≡ length names) × AllText row

-- The first record that can't be read, after these: a header that isn't text, or below good rows a row with another number of
-- fields or with a field that isn't text.
abbrev pub IsBadRecord : List (List (List ℕ)) → List (List ℕ) → Type 0
IsBadRecord [] header = ¬ AllText header
IsBadRecord (names ∷ rows) row = AllText names × All (IsGoodRow names) rows × ((length row ≢ length names) ⊎ ¬ AllText row)

-- A table without a header is empty. In another one each row has as many fields as the header, and all fields are text.
abbrev pub IsTableOf : List (List (List ℕ)) → Data → Type 0
IsTableOf [] d = d ≡ array no_items
IsTableOf (names ∷ rows) d = AllText names × All (IsGoodRow names) rows × (d ≡ array (items_of (map (row_object names) rows)))

-- the data of a table's text, after a byte order mark
abbrev pub IsTable : Delimiter → List ℕ → Data → Type 0
IsTable d text table = (records : List (List (List ℕ))) × AreRecords (table_config d) state.StartRecord (strip_bom text) records × IsTableOf records table

-- A text in which a record can't be read. The number of the first such record is n: records are counted from 1, and the header is
-- the first.
abbrev pub HasBadRecord : Delimiter → List ℕ → ℕ → Type 0
HasBadRecord d text n =
    (before : List (List (List ℕ))) × (bad : List (List ℕ)) × (s : State) × (left : List ℕ)
    × Reached (table_config d) state.StartRecord (strip_bom text) (before ++ bad ∷ []) s left × IsBadRecord before bad × (n ≡ counted (length before + 1))

-- the number of the row that an error names
abbrev pub row_of : DataErrorKind → Option ℕ
row_of (RaggedRow row header fields) = Some row
row_of (FieldNotUtf8 row field) = Some row
row_of kind = None
