-- A reader of rows after an error.
use Rattle.std.proofs.Common.{◌≡◌, ℕ, Bool, true, false, if◌then◌else◌, true≢false, Option, Some, None, refl, sym, ap, ◌∙◌}
use Rattle.csv.specs.Reading.{ReadsOn, stops_reader}
use Rattle.csv.specs.declared.error.ErrorKind.{ErrorKind}
use Rattle.csv.specs.declared.error.ErrorKind.TheVariants as csv
use Rattle.csv.specs.declared.reader.Reader.{Reader}
use Rattle.handlebars_data.specs.Errors.{kind_of}
use Rattle.handlebars_data.specs.Rows.{row_of}
use Rattle.handlebars_data.specs.RowsView.{ChecksLengths, IsRefusal}
use Rattle.handlebars_data.specs.Stopping.{stops_reading}
use Rattle.handlebars_data.specs.declared.error.DataError.{DataError}
use Rattle.handlebars_data.specs.declared.error.DataErrorKind.{DataErrorKind}

-- an error that doesn't end the reading is none of the reader of bytes
goes_on : (n : ℕ) (cause : ErrorKind) (kind : DataErrorKind) → IsRefusal n cause kind → stops_reading kind ≡ false → stops_reader cause ≡ false
goes_on n (csv.UnequalLengths position expected found) kind is on = refl
goes_on n (csv.Utf8 position e) kind is on = refl
goes_on n (csv.Io e) kind is on = absurd (true≢false (sym is ∙ on))
goes_on n csv.OutOfMemory kind is on = absurd (true≢false (sym is ∙ on))
goes_on n (csv.Serialize text) kind is on = absurd (true≢false (sym is ∙ on))
goes_on n (csv.Deserialize position e) kind is on = absurd (true≢false (sym is ∙ on))

not_stopped : (stops : Bool) (e : DataError) (old : Option DataError) → (if stops then Some e else old) ≡ None → stops ≡ false
not_stopped true e old none = absurd (cc)
not_stopped false e old none = refl

checks_on : {R : Type 0} (old new : Reader R) (n : ℕ) → ReadsOn old new → ChecksLengths old n → ChecksLengths new n
checks_on old new n on checks =
    let ready = on.4 checks.0 in
    let expected = rw checks.3 at (ready.1 checks.2) in
    (ready.0, on.1 ∙ checks.1, on.2 ∙ checks.2, expected)

-- where the reading doesn't end, the next row is checked as this one was
pub ready_again : {R : Type 0} (old new : Reader R) (n row : ℕ) (cause : ErrorKind) (e : DataError) (failure after : Option DataError) → IsRefusal row cause (kind_of e)
    → after ≡ (if stops_reading (kind_of e) then Some e else failure) → after ≡ None → (stops_reader cause ≡ false → ReadsOn old new) → ChecksLengths old n → ChecksLengths new n
ready_again old new n row cause e failure after refusal is none on checks =
    checks_on old new n (on (goes_on row cause (kind_of e) refusal (not_stopped _ e failure (sym is ∙ none)))) checks

-- an error of a row names it
pub names_row : (n : ℕ) (cause : ErrorKind) (kind : DataErrorKind) → IsRefusal n cause kind → stops_reading kind ≡ false → row_of kind ≡ Some n
names_row n (csv.UnequalLengths position expected found) kind is on = ap row_of is
names_row n (csv.Utf8 position e) kind is on = ap row_of is.1
names_row n (csv.Io e) kind is on = absurd (true≢false (sym is ∙ on))
names_row n csv.OutOfMemory kind is on = absurd (true≢false (sym is ∙ on))
names_row n (csv.Serialize text) kind is on = absurd (true≢false (sym is ∙ on))
names_row n (csv.Deserialize position e) kind is on = absurd (true≢false (sym is ∙ on))
