-- Marks of names: a name whose bucket isn't marked has no entry.
use Rattle.std.specs.Prelude.{ℕ, ◌+◌, ◌*◌, ◌%◌, List, length, Bool, false, slice_get, slice_index_or, unwrap_or}
use Rattle.handlebars_base.specs.Bytes.{Text}

-- The bucket of a name, by its first two bytes and its length.
abbrev pub bucket_of : Text → ℕ
bucket_of name = (unwrap_or (slice_get name 0) 0 + 3 * unwrap_or (slice_get name 1) 0 + 64 * (length name % 4)) % 256

abbrev pub is_marked : List Bool → Text → Bool
is_marked marks name = slice_index_or marks (bucket_of name) false
