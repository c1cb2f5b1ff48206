-- Texts that escaping leaves unchanged.
use Rattle.std.proofs.Common.{◌≡◌, ◌+◌, ◌<◌, ◌≤◌, [], ◌∷◌, ◌++◌, false, is_some, take, get_or, length, Option, None, Some, refl, sym, ap, ap₂, ◌∙◌, append-nil, unwrap_or}
use Rattle.std.proofs.lemmas.List.{take_more, take_all}
use Rattle.handlebars_base.specs.Bytes.{Text}
use Rattle.handlebars_base.specs.Escape.{entity_of, escaped_byte, escaped}
use Rattle.handlebars_base.proofs.EscapedBytes.{escaped-append}

pub escaped-nil : escaped [] ≡ []
unfolding escaped
escaped-nil = refl

none-if : (x : Option Text) → is_some x ≡ false → x ≡ None
none-if None is = refl
none-if (Some t) is = cc

escaped-one : (b : _) → is_some (entity_of b) ≡ false → escaped (b ∷ []) ≡ b ∷ []
unfolding escaped
escaped-one b is = append-nil (escaped_byte b) ∙ ap (λ r. unwrap_or r (b ∷ [])) (none-if (entity_of b) is)

-- one more byte with no entity
pub escaped-more : (text : Text) (at : _) → at < length text → is_some (entity_of (get_or text at 0)) ≡ false
    → escaped (take at text) ≡ take at text → escaped (take (at + 1) text) ≡ take (at + 1) text
escaped-more text at l is plain =
    let b = get_or text at 0 in
    let more = take_more text at 0 l in
    ap escaped more ∙ escaped-append (take at text) (b ∷ []) ∙ ap₂ (λ s t. s ++ t) plain (escaped-one b is) ∙ sym more

-- all of the text
pub escaped-all : (text : Text) (at : _) → length text ≤ at → escaped (take at text) ≡ take at text → escaped text ≡ text
escaped-all text at past plain =
    let all = take_all at text past in
    ap escaped (sym all) ∙ plain ∙ all
