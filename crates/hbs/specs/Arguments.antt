-- The arguments of the command line.
use Rattle.std.specs.Prelude.{Bool, false, if◌then◌else◌, List, [], ◌∷◌, String, codes, string_bytes}
use Rattle.std.specs.Str.{bytes_eq}
use Rattle.std.specs.declared.alloc.Global.{Global}

abbrev pub is_strict : String Global → Bool
is_strict argument = bytes_eq (string_bytes argument) (codes "--strict")

-- whether the first argument is `--strict`
abbrev pub begins_strict : List (String Global) → Bool
begins_strict [] = false
begins_strict (w ∷ ws) = is_strict w

-- The arguments that name files: all but a first `--strict`. In any other position it names a file like any other argument.
abbrev pub file_arguments : List (String Global) → List (String Global)
file_arguments [] = []
file_arguments (w ∷ ws) = if is_strict w then ws else w ∷ ws
