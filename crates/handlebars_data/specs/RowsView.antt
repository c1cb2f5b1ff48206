-- What clauses see of a reader of rows.
use Rattle.std.specs.Prelude.{◌≡◌, ◌≢◌, ℕ, Bool, true, false, not, List, length, Option, Some, None, option_map, Result, Ok, Err}
use Rattle.csv.specs.Reading.{ReadRecord, ReadsNext, Ready, TookRecord, expected_len, is_flexible, reader_config, reader_state, reader_trim, source_of, strip_bom}
use Rattle.csv.specs.Records.{AllText, fields_of}
use Rattle.csv.specs.declared.error.ErrorKind.{ErrorKind}
use Rattle.csv.specs.declared.error.ErrorKind.TheVariants as csv
use Rattle.csv.specs.declared.parser.State.{State}
use Rattle.csv.specs.declared.parser.State.TheVariants as state
use Rattle.csv.specs.declared.reader.Reader.{Reader}
use Rattle.csv.specs.declared.reader.Trim.TheVariants as trim
use Rattle.serde_json.specs.Data.{Members, put, string}
use Rattle.handlebars_data.specs.Errors.{kind_of}
use Rattle.handlebars_data.specs.Stopping.{stops_reading}
use Rattle.handlebars_data.specs.Rows.{table_config}
use Rattle.handlebars_data.specs.declared.error.DataError.{DataError}
use Rattle.handlebars_data.specs.declared.error.DataErrorKind.{DataErrorKind}
use Rattle.handlebars_data.specs.declared.error.DataErrorKind.TheVariants.{RaggedRow, FieldNotUtf8}
use Rattle.handlebars_data.specs.declared.rows.Delimiter.{Delimiter}
use Rattle.handlebars_data.specs.declared.rows.Rows.{Rows}

-- the reader of records
abbrev pub rows_reader : {R : Type 0} → Rows R → Reader R
rows_reader s = s.reader

-- the names of the columns
abbrev pub rows_names : {R : Type 0} → Rows R → List (List ℕ)
rows_names s = fields_of s.names

-- the fields of the row that was read last
abbrev pub rows_fields : {R : Type 0} → Rows R → List (List ℕ)
rows_fields s = fields_of s.row

-- The number of the row that was read last, also of one that couldn't be read. The header is row 1.
abbrev pub rows_number : {R : Type 0} → Rows R → ℕ
rows_number s = s.number

-- whether no record is left
abbrev pub rows_ended : {R : Type 0} → Rows R → Bool
rows_ended s = s.ended

-- the error that stopped the reading
abbrev pub rows_failure : {R : Type 0} → Rows R → Option DataError
rows_failure s = s.failure

-- the reader checks that each record has as many fields as there are names
abbrev pub ChecksLengths : {R : Type 0} → Reader R → ℕ → Type 0
ChecksLengths reader n = Ready reader × (reader_trim reader ≡ trim.None) × (is_flexible reader ≡ false) × (expected_len reader ≡ Some n)

-- what a reader of rows keeps as long as a record may be left
abbrev pub IsReady : {R : Type 0} → Rows R → Type 0
IsReady s = rows_failure s ≡ None → rows_ended s ≡ false → ChecksLengths (rows_reader s) (length (rows_names s))

-- a record was read from the start of the bytes, where they are known
abbrev pub ReadsHeader : {R : Type 0} → (R → Option (List ℕ)) → Delimiter → Option (List ℕ) → Reader R → Bool → List (List ℕ) → Type 0
ReadsHeader rem d bytes reader found fields =
    ReadsNext (table_config d) state.StartRecord (option_map strip_bom bytes) (source_of rem reader) found fields (reader_state reader) × (reader_config reader ≡ table_config d)

-- The header is the first record of the bytes, after a byte order mark. An empty text has none.
abbrev pub IsHeader : {R : Type 0} → (R → Option (List ℕ)) → Delimiter → Option (List ℕ) → Rows R → Type 0
IsHeader rem d bytes s = ReadsHeader rem d bytes (rows_reader s) (not (rows_ended s)) (rows_names s) × AllText (rows_names s)

-- the first record of the bytes isn't text
abbrev pub IsBadHeader : Delimiter → Option (List ℕ) → Type 0
IsBadHeader d bytes =
    (names : List (List ℕ)) × (s : State) × (left : Option (List ℕ))
    × ReadsNext (table_config d) state.StartRecord (option_map strip_bom bytes) left true names s × ¬ AllText names

-- what an error of the reader of records becomes, at a row with this number
abbrev pub IsRefusal : ℕ → ErrorKind → DataErrorKind → Type 0
IsRefusal n (csv.UnequalLengths position expected found) kind = kind ≡ RaggedRow n expected found
IsRefusal n (csv.Utf8 position e) kind = (field : ℕ) × (kind ≡ FieldNotUtf8 n field)
IsRefusal n other kind = stops_reading kind ≡ true

-- the members with a field under the name of its column, if both are there
abbrev pub with_field : Option (List ℕ) → Option (List ℕ) → Members → Members
with_field (Some name) (Some field) ms = put name (string field) ms
with_field name field ms = ms

-- why a record was refused, as an error says
abbrev pub ExplainsRow : {R : Type 0} → (R → Option (List ℕ)) → Reader R → Reader R → List (List ℕ) → DataErrorKind → Type 0
ExplainsRow rem old new names (RaggedRow row header found) =
    (header ≡ length names) × (found ≢ header) × (fields : List (List ℕ)) × TookRecord rem old new fields × (length fields ≡ found)
ExplainsRow rem old new names (FieldNotUtf8 row field) = (fields : List (List ℕ)) × TookRecord rem old new fields × ¬ AllText fields
ExplainsRow rem old new names kind = stops_reading kind ≡ true

-- what the next row is, by the next record: whether there is one, and its fields
abbrev pub IsNextRow : {R : Type 0} → (R → Option (List ℕ)) → Reader R → Reader R → List (List ℕ) → List (List ℕ) → Result Bool DataError → Type 0
IsNextRow rem old new names fields (Ok false) = ReadRecord rem old new false fields
IsNextRow rem old new names fields (Ok true) = ReadRecord rem old new true fields × AllText fields × (length fields ≡ length names)
IsNextRow rem old new names fields (Err e) = ExplainsRow rem old new names (kind_of e)
