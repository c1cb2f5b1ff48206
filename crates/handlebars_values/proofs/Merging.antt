-- What a value is merged with: characters by their positions, and hash arguments.
use Rattle.std.proofs.Common.{◌≡◌, ℕ, ◌+◌, List, [], ◌∷◌, ◌++◌, length, decimal, false, true, Bor, refl, sym, ap, ◌∙◌, arith, true≢false}
use Rattle.std.proofs.lemmas.Str.{chars-nil, chars_past_char}
use Rattle.std.specs.Char.{encode_utf8}
use Rattle.std.specs.Str.{chars, IsUtf8}
use Rattle.handlebars_base.specs.Bytes.{Text}
use Rattle.serde_json.specs.Data.{Data, Members, object, put, string}
use Rattle.handlebars_scope.specs.Merged.{members_in, merge, with_characters, with_hash}
use Rattle.handlebars_semantics.specs.Inclusion.{hash_data}
use Rattle.handlebars_values.specs.View.{arguments_seen}
use Rattle.handlebars_values.specs.declared.param_value.Argument.{Argument}

-- one more character
pub with_characters-more : (i j index : ℕ) (bs rest : Text) (c : ℕ) (d : Data) (ms next : Members) → IsUtf8 bs
    → bs ≡ encode_utf8 c ++ rest → index ≡ i → j ≡ i + 1 → d ≡ string (encode_utf8 c) → next ≡ put (decimal index) d ms
    → with_characters j (chars rest) next ≡ with_characters i (chars bs) ms
with_characters-more i j index bs rest c d ms next utf8 is here after same more =
    ap (λ n. with_characters n (chars rest) next) after
    ∙ ap (λ (z : Members). with_characters (i + 1) (chars rest) z)
    (more ∙ ap (λ n. put (decimal n) d ms) here ∙ ap (λ (z : Data). put (decimal i) z ms) same)
    ∙ sym (ap (λ cs. with_characters i cs ms) (chars_past_char bs rest c utf8 is))

pub with_characters-done : (i : ℕ) (bs : Text) (ms : Members) → length bs ≡ 0 → with_characters i (chars bs) ms ≡ ms
with_characters-done i [] ms none = ap (λ cs. with_characters i cs ms) chars-nil
with_characters-done i (b ∷ bs) ms none = absurd (omega (arith, none))

-- ---- hash arguments

-- with some hash arguments
pub merge-some : (d : Data) (hs : List (Bor Text × Argument)) {ms : Members} → (length hs ≡ 0 → false ≡ true)
    → ms ≡ with_hash (hash_data (arguments_seen hs)) (members_in d) → object ms ≡ merge d (hash_data (arguments_seen hs))
merge-some d [] some is = absurd (true≢false (sym (some refl)))
merge-some d (h ∷ hs) some is = ap (λ (z : Members). object z) is

-- no hash arguments are left
pub with_hash-done : (left : List (Bor Text × Argument)) (ms : Members) → left ≡ []
    → ms ≡ with_hash (hash_data (arguments_seen left)) ms
with_hash-done left ms none =
    sym (ap (λ (z : List (Bor Text × Argument)). with_hash (hash_data (arguments_seen z)) ms) none)
