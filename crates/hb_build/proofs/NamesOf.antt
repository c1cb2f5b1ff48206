-- Names as texts, some of them.
use Rattle.std.proofs.Common.{◌≡◌, ℕ, ◌+◌, ◌<◌, List, [], ◌∷◌, ◌++◌, Some, length, sym, ap, subst, ◌∙◌, String, string_bytes, slice_get, get_or, take, drop, add-one, option_map, arith, length-append}
use Rattle.std.specs.declared.alloc.Global.{Global}
use Rattle.std.proofs.Math.Seq.{take-suc}
use Rattle.std.proofs.lemmas.List.{map-append, length-map, take-append-drop, length-take-le}
use Rattle.std.proofs.lemmas.Option.{slice_get-map, slice_get-get_or}
use Rattle.hb_build.specs.Name.{Name, names_of}
use Rattle.hb_build.proofs.Gets.{slice_get-append}

pub names_of-push : (xs : List (String Global)) (x : String Global) → names_of (xs ++ x ∷ []) ≡ names_of xs ++ string_bytes x ∷ []
names_of-push xs x = map-append string_bytes xs (x ∷ [])

pub length-names_of-push : (xs : List (String Global)) (x : String Global) → length (names_of (xs ++ x ∷ [])) ≡ length (names_of xs) + 1
length-names_of-push xs x = ap length (names_of-push xs x) ∙ length-append (names_of xs) (string_bytes x ∷ [])

-- one name more of the names so far
pub names_of-take : (xs : List (String Global)) (i : ℕ) (x : String Global) → i < length xs → x ≡ get_or xs i x
    → names_of (take (i + 1) xs) ≡ names_of (take i xs) ++ string_bytes x ∷ []
names_of-take xs i x l e =
    let more : take (i + 1) xs ≡ take i xs ++ x ∷ [] = rw add-one (take-suc xs i x l ∙ ap (λ y. take i xs ++ y ∷ []) (sym e)) in
    ap names_of more ∙ names_of-push (take i xs) x

pub slice_get-names_of : (xs : List (String Global)) (i : ℕ) (x : String Global) → i < length xs → x ≡ get_or xs i x
    → slice_get (names_of xs) i ≡ Some (string_bytes x)
slice_get-names_of xs i x l e =
    slice_get-map string_bytes xs i ∙ ap (option_map string_bytes) (slice_get-get_or xs i x l ∙ ap Some (sym e))

-- one of the names so far is one of all names
pub slice_get-names_of-take : (xs : List (String Global)) (i k : ℕ) (name : Name) → slice_get (names_of (take i xs)) k ≡ Some name
    → slice_get (names_of xs) k ≡ Some name
slice_get-names_of-take xs i k name e =
    let whole : names_of (take i xs) ++ names_of (drop i xs) ≡ names_of xs = sym (map-append string_bytes (take i xs) (drop i xs)) ∙ ap names_of (take-append-drop i xs) in
    subst (λ all. slice_get all k ≡ Some name) whole (slice_get-append (names_of (take i xs)) (names_of (drop i xs)) k name e)

pub length-names_of-take : (xs : List (String Global)) (i : ℕ) → i < length xs → length (names_of (take i xs)) ≡ i
length-names_of-take xs i l = length-map (take i xs) string_bytes ∙ length-take-le i xs (omega arith)

-- the same at a reference to the text
pub slice_get-text : (xs : List (String Global)) (i : ℕ) (x : String Global) (text : Name) → i < length xs → x ≡ get_or xs i x → text ≡ string_bytes x
    → slice_get (names_of xs) i ≡ Some text
slice_get-text xs i x text l e is_text = slice_get-names_of xs i x l e ∙ ap Some (sym is_text)
