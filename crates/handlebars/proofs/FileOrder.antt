-- The files that are remembered are in byte order of name.
use Rattle.std.proofs.Common.{◌≡◌, Bool, true, false, cond, List, [], ◌∷◌, map, Option, None, Some, option_map, String, Global, refl}
use Rattle.std.proofs.lemmas.Map.Text.{is_eq-slice_cmp}
use Rattle.std.specs.BTreeMap.{BTreeMap}
use Rattle.std.specs.Cmp.Lexicographic.{slice_cmp}
use Rattle.std.specs.List.{AllByRecursion}
use Rattle.std.specs.List.Sorted.{IsStrictlySortedBy}
use Rattle.std.specs.Map.{keys_of, lookup}
use Rattle.std.specs.Ordering.{is_eq, nat_cmp}
use Rattle.std.specs.Prelude.{string_bytes}
use Rattle.std.specs.Str.{bytes_eq}
use Rattle.std.specs.String.{string_cmp}
use Rattle.handlebars_base.specs.Bytes.{Text}
use Rattle.handlebars.specs.Files.{IsByName, file_of, files_in, source_path, path_under}

-- ---- their order

all-seen : (P : Text → Type 0) (es : List (String Global × String Global)) → AllByRecursion (λ k. P (string_bytes k)) (keys_of es)
    → AllByRecursion P (keys_of (map file_of es))
all-seen P [] h = h
all-seen P (e ∷ es) h = (h.0, all-seen P es h.1)

pub none-in-order : IsByName []
unfolding IsStrictlySortedBy
none-in-order = tt

pub in-order : (es : List (String Global × String Global)) → IsStrictlySortedBy string_cmp (keys_of es) → IsByName (map file_of es)
unfolding IsStrictlySortedBy
in-order [] h = h
in-order (e ∷ es) h = (all-seen _ es h.0, in-order es h.1)

-- ---- what is registered under a name

first-same : (b c : Bool) (path : String Global) (o : Option (String Global)) (p : Option Text) → b ≡ c → option_map string_bytes o ≡ p
    → option_map string_bytes (cond b (Some path) o) ≡ cond c (Some (string_bytes path)) p
first-same true true path o p same rest = refl
first-same true false path o p same rest = cc
first-same false true path o p same rest = cc
first-same false false path o p same rest = rest

under-same : (name : Text) (es : List (String Global × String Global))
    → option_map string_bytes (lookup (λ k. is_eq (slice_cmp nat_cmp name (string_bytes k))) es) ≡ path_under (map file_of es) name
under-same name [] = refl
under-same name (e ∷ es) =
    first-same (is_eq (slice_cmp nat_cmp name (string_bytes e.0))) (bytes_eq name (string_bytes e.0)) e.1 _ _
    (is_eq-slice_cmp name (string_bytes e.0)) (under-same name es)

pub files-under : (paths : Option (BTreeMap (String Global) (String Global))) (name : Text)
    → source_path paths name ≡ path_under (files_in paths) name
files-under None name = refl
files-under (Some m) name = under-same name m.entries
