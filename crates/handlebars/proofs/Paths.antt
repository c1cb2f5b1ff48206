-- What is remembered after a change of one name.
use Rattle.std.proofs.Common.{◌≡◌, Bool, true, false, cond, Option, Some, option_map, refl, ap, ◌∙◌, String, Global}
use Rattle.std.specs.BTreeMap.{BTreeMap, UpdatesBy, get_by_text}
use Rattle.std.specs.Cmp.Lexicographic.{slice_cmp}
use Rattle.std.specs.Ordering.{nat_cmp}
use Rattle.std.specs.Prelude.{string_bytes}
use Rattle.std.specs.Str.{bytes_eq}
use Rattle.std.specs.String.{string_cmp}
use Rattle.std.proofs.lemmas.Map.Text.{btree_map_updates_text}
use Rattle.handlebars_base.specs.Bytes.{Text}
use Rattle.handlebars.specs.Files.{source_path}

option_map-cond : {A B : Type 0} (f : A → B) (b : Bool) (o p : Option A) → option_map f (cond b o p) ≡ cond b (option_map f o) (option_map f p)
option_map-cond f true o p = refl
option_map-cond f false o p = refl

pub source_path-updates : (name : Text) (m n : BTreeMap (String Global) (String Global)) (w : Option (String Global))
    → UpdatesBy string_cmp (λ k. slice_cmp nat_cmp name (string_bytes k)) m n w
    → (other : Text) → source_path (Some n) other ≡ cond (bytes_eq name other) (option_map string_bytes w) (source_path (Some m) other)
source_path-updates name m n w u other =
    ap (option_map string_bytes) (btree_map_updates_text name m n w u other)
    ∙ option_map-cond string_bytes (bytes_eq name other) w (get_by_text m other)
