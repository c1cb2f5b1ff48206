-- Marks of names, and the entries that they stand for.
use Rattle.std.proofs.Common.{◌≡◌, Bool, true, false, cond, List, [], Option, Some, None, is_some, Result, Ok, Err, OnOk, OnErr, String, Global, string_bytes, bytes_eq, refl, sym, ap, ◌∙◌}
use Rattle.std.proofs.lemmas.Bool.{false≢true}
use Rattle.std.proofs.lemmas.Map.Text.{hash_map_updates_text}
use Rattle.std.proofs.lemmas.Slice.Eq.{bytes_eq-Decides}
use Rattle.std.specs.HashMap.{HashMap, IsUnchanged, UpdatesBy, get_by_text}
use Rattle.std.specs.Map.{lookup}
use Rattle.std.specs.String.{string_eq}
use Rattle.handlebars_base.specs.Bytes.{Text}
use Rattle.handlebars_helpers.specs.Marks.{is_marked}

-- what a list of entries has under a name
abbrev among : {E : Type 0} → Text → List (String Global × E) → Option E
among name es = lookup (λ k. bytes_eq name (string_bytes k)) es

-- ---- a map that is changed

-- nothing is in an empty map
pub empty-none : {E S : Type 0} (m : HashMap (String Global) E S) → m.entries ≡ [] → (name : Text) → get_by_text m name ≡ None
empty-none m empty name = ap (among name) empty

-- another name than the one under which an entry is put
marked-put : {E : Type 0} (name other : Text) (e : E) (o : Option E) (m : Text → Bool) → m name ≡ true
    → (is_some o ≡ true → m other ≡ true)
    → is_some (cond (bytes_eq name other) (Some e) o) ≡ true → m other ≡ true
marked-put name other e o m here known =
    let go : (b : Bool) → bytes_eq name other ≡ b → is_some (cond b (Some e) o) ≡ true → m other ≡ true = elim [
      | true ↦ λ same there. ap m (sym ((bytes_eq-Decides name other).0 same)) ∙ here
      | false ↦ λ differ there. known there
    ] in go (bytes_eq name other) refl

marked-none : {E : Type 0} (b : Bool) (o : Option E) → is_some (cond b None o) ≡ true → is_some o ≡ true
marked-none true o is = absurd (false≢true is)
marked-none false o is = is

-- Every name in the map is marked.
abbrev AllMarked : {E S : Type 0} → List Bool → HashMap (String Global) E S → Type 0
AllMarked marks m = (name : Text) → is_some (get_by_text m name) ≡ true → is_marked marks name ≡ true

-- a map in which an entry was inserted, or in which memory for it ran out
pub marked-inserted : {T R E S : Type 0} (r : Result T R) (m n : HashMap (String Global) E S) (key : String Global)
    (entry : E) (marks : List Bool) → OnOk r (UpdatesBy string_eq (string_eq key) m n (Some entry))
    → OnErr r (IsUnchanged m n) → is_marked marks (string_bytes key) ≡ true → AllMarked marks m → AllMarked marks n
marked-inserted (Ok x) m n key entry marks updates same here known name there =
    marked-put (string_bytes key) name entry (get_by_text m name) (is_marked marks) here (known name)
    (ap is_some (sym (hash_map_updates_text (string_bytes key) m n (Some entry) updates name)) ∙ there)
marked-inserted (Err e) m n key entry marks updates same here known name there =
    known name (ap (λ es. is_some (among name es)) (sym same) ∙ there)

pub marked-removed : {E S : Type 0} (m n : HashMap (String Global) E S) (name : Text) (marks : List Bool)
    → UpdatesBy string_eq (λ k. bytes_eq name (string_bytes k)) m n None → AllMarked marks m → AllMarked marks n
marked-removed m n name marks updates known other there =
    known other (marked-none (bytes_eq name other) (get_by_text m other)
    (ap is_some (sym (hash_map_updates_text name m n None updates other)) ∙ there))
