-- Readers that give one answer, and what is then determined.
use Rattle.std.specs.Global.{Global, Vec}
use Rattle.std.specs.IoError.{error_kind}
use Rattle.std.specs.Prelude.{◌≡◌, ◌≢◌, List, map, Result, Ok, Err, String, string_bytes}
use Rattle.std.specs.declared.io.Error.{Error}
use Rattle.handlebars_base.specs.Bytes.{Text}
use Rattle.handlebars.specs.Files.{Loaded, Stop, no_memory}
use Rattle.handlebars.specs.Folder.{Entry}
use Rattle.handlebars.specs.declared.sources.EntryKind.{EntryKind}

-- Two results of a read are the same text, or errors of one kind.
abbrev pub IsSameRead : Result (String Global) Error → Result (String Global) Error → Type 0
IsSameRead (Ok a) (Ok b) = string_bytes a ≡ string_bytes b
IsSameRead (Ok a) (Err e) = ⊥
IsSameRead (Err d) (Ok b) = ⊥
IsSameRead (Err d) (Err e) = error_kind d ≡ error_kind e

-- an entry of a folder, with its name as a text
abbrev pub entry_seen : Entry → Text × EntryKind
entry_seen x = (string_bytes x.0, x.1)

-- Two results of listing a folder have the same entries in the same order, or are errors of one kind.
abbrev pub IsSameList : Result (Vec Entry) Error → Result (Vec Entry) Error → Type 0
IsSameList (Ok es) (Ok fs) = map entry_seen es.items ≡ map entry_seen fs.items
IsSameList (Ok es) (Err e) = ⊥
IsSameList (Err d) (Ok fs) = ⊥
IsSameList (Err d) (Err e) = error_kind d ≡ error_kind e

-- From a state and at a path, a reader gives one answer, up to this relation, and ends in one state.
abbrev pub GivesOneAnswer : {S A : Type 0} → (A → A → Type 0) → (S → Text → A → S → Type 0) → Type 0
GivesOneAnswer {S} {A} same answers = (path : Text) (s t u : S) (a b : A) → answers s path a t → answers s path b u
    → same a b × (t ≡ u)

-- There is at most one list of what is loaded, with one end and one state of the reader, apart from out of memory.
abbrev pub HasOneEnd : {S : Type 0} → (List Loaded → Result (Unit {0}) Stop → S → Type 0) → Type 0
HasOneEnd {S} ends = (ls ms : List Loaded) (o q : Result (Unit {0}) Stop) (t u : S) → ends ls o t → ends ms q u
    → o ≢ Err no_memory → q ≢ Err no_memory → (ls ≡ ms) × (o ≡ q) × (t ≡ u)
