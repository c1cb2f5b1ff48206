-- Which errors end the reading of a file.
use Rattle.std.specs.Prelude.{Bool, true, false}
use Rattle.handlebars_data.specs.declared.error.DataErrorKind.{DataErrorKind}
use Rattle.handlebars_data.specs.declared.error.DataErrorKind.TheVariants.{Io, OutOfMemory}

-- An error of the reader or of memory. After such an error nothing more is read.
abbrev pub stops_reading : DataErrorKind → Bool
stops_reading (Io kind) = true
stops_reading OutOfMemory = true
stops_reading kind = false
