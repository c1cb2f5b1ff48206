-- Formats of data.
use Rattle.std.specs.Prelude.{◌≡◌, ◌⊎◌, ◌||◌, if◌then◌else◌, List, ℕ, Option, Some, None, IsUtf8, codes, nat_eq}
use Rattle.std.specs.List.{ends_with}
use Rattle.std.specs.Str.{bytes_eq}
use Rattle.serde_json.specs.Data.{Data}
use Rattle.handlebars_data.specs.JsonText.{text_data}
use Rattle.handlebars_data.specs.Lines.{lines_data}
use Rattle.handlebars_data.specs.Rows.{HasBadRecord, IsTable}
use Rattle.handlebars_data.specs.TomlText.{toml_data}
use Rattle.handlebars_data.specs.declared.format.Format.{Format}
use Rattle.handlebars_data.specs.declared.format.Format.TheVariants.{Json, JsonLines, Toml, Csv, Tsv}
use Rattle.handlebars_data.specs.declared.json_text.Numbers.{Numbers}
use Rattle.handlebars_data.specs.declared.rows.Delimiter.TheVariants.{Comma, Tab}

-- the format with a name
abbrev pub format_of_name : List ℕ → Option Format
format_of_name name =
    if bytes_eq name (codes "json") then Some Json
    else if bytes_eq name (codes "jsonl") || bytes_eq name (codes "ndjson") then Some JsonLines
    else if bytes_eq name (codes "toml") then Some Toml
    else if bytes_eq name (codes "csv") then Some Csv
    else if bytes_eq name (codes "tsv") then Some Tsv
    else None

-- the format of a file, by the end of its path
abbrev pub format_of_path : List ℕ → Option Format
format_of_path path =
    if ends_with nat_eq path (codes ".json") then Some Json
    else if ends_with nat_eq path (codes ".jsonl") || ends_with nat_eq path (codes ".ndjson") then Some JsonLines
    else if ends_with nat_eq path (codes ".toml") then Some Toml
    else if ends_with nat_eq path (codes ".csv") then Some Csv
    else if ends_with nat_eq path (codes ".tsv") then Some Tsv
    else None

-- the data of bytes in a format
abbrev pub IsDataOf : Format → Numbers → List ℕ → Data → Type 0
IsDataOf Json numbers bytes d = IsUtf8 bytes × (text_data numbers bytes ≡ Some d)
IsDataOf JsonLines numbers bytes d = IsUtf8 bytes × (lines_data numbers bytes ≡ Some d)
IsDataOf Toml numbers bytes d = IsUtf8 bytes × (toml_data numbers bytes ≡ Some d)
IsDataOf Csv numbers bytes d = IsTable Comma bytes d
IsDataOf Tsv numbers bytes d = IsTable Tab bytes d

-- why bytes have no data in a format
abbrev pub HasNoData : Format → Numbers → List ℕ → Type 0
HasNoData Json numbers bytes = ¬ IsUtf8 bytes ⊎ (text_data numbers bytes ≡ None)
HasNoData JsonLines numbers bytes = ¬ IsUtf8 bytes ⊎ (lines_data numbers bytes ≡ None)
HasNoData Toml numbers bytes = ¬ IsUtf8 bytes ⊎ (toml_data numbers bytes ≡ None)
HasNoData Csv numbers bytes = (n : ℕ) × HasBadRecord Comma bytes n
HasNoData Tsv numbers bytes = (n : ℕ) × HasBadRecord Tab bytes n
