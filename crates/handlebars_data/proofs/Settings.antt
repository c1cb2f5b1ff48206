-- The parts of a word that sets a member.
use Rattle.std.proofs.Common.{◌≡◌, ℕ, ◌+◌, ◌-◌, ◌<◌, List, [], ◌∷◌, ◌++◌, length, get_or, take, drop, Bool, true, false, true≢false, refl, sym, ap, ◌∙◌, arith, add-one, drop-cons}
use Rattle.std.proofs.Math.ListN.{drop_of_length-le}
use Rattle.std.proofs.lemmas.Bool.{eqb-true, lt-ltb}
use Rattle.std.proofs.lemmas.List.{take-append-drop}
use Rattle.std.specs.List.{position_or_len, before_first, after_first}
use Rattle.serde_json.specs.Data.{string}
use Rattle.handlebars_data.specs.declared.json_text.Numbers.{Numbers}
use Rattle.handlebars_data.specs.Setting.{colon, ends_with_colon, is_equals_sign, setting, under}

colon_last : (text : List ℕ) → get_or text (length text - 1) 0 ≡ colon → 0 < length text → text ≡ take (length text - 1) text ++ colon ∷ []
colon_last text is some =
    let n = length text - 1 in
    let rest : drop (length text - 1) text ≡ get_or text (length text - 1) 0 ∷ drop (length text - 1 + 1) text = rw add-one (drop-cons text (length text - 1) 0 (omega arith)) in
    let end : drop (length text - 1 + 1) text ≡ [] = drop_of_length-le text (omega arith) in
    sym (take-append-drop (length text - 1) text) ∙ ap (λ xs. take (length text - 1) text ++ xs) (rest ∙ rw (is, end))

no_colon : (b : Bool) (text : List ℕ) → ends_with_colon text ≡ b → ((front : List ℕ) → text ≡ front ++ colon ∷ [] → ⊥) → b ≡ false
no_colon false text is none = refl
no_colon true [] is none = absurd (true≢false (sym is))
no_colon true (x ∷ text) is none = absurd (none _ (colon_last (x ∷ text) (eqb-true _ _ is) (omega arith)))

-- A text follows a sign that no colon belongs to.
pub text_setting : (numbers : Numbers) (word before after : List ℕ) → before ≡ before_first is_equals_sign word → after ≡ after_first is_equals_sign word
    → position_or_len is_equals_sign word < length word → ((front : List ℕ) → before ≡ front ++ colon ∷ [] → ⊥)
    → setting numbers word ≡ under before (string after)
text_setting numbers word before after first second there none =
    let here = lt-ltb _ _ there in
    let plain = no_colon _ before refl none in
    rw (here, ← first, ← second, plain)
