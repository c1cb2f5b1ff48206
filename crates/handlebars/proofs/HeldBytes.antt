-- The text of the bytes that a writer stores.
use Rattle.std.proofs.Common.{◌≡◌, [], true, false, cond, ap, inl, inr}
use Rattle.std.proofs.lemmas.Bool.{cases_Bool, false≢true}
use Rattle.std.proofs.Math.Bool.{Bool-set}
use Rattle.std.proofs.Math.Logic.{∥∥₁_elim}
use Rattle.std.specs.Str.{IsUtf8, is_utf8}
use Rattle.std.proofs.lemmas.Str.{IsUtf8-from_is_utf8, is_utf8-from_IsUtf8}
use Rattle.handlebars_base.specs.Bytes.{Text}
use Rattle.handlebars.specs.Writers.{utf8_or_empty}

pub utf8_or_empty-utf8 : (bytes : Text) → ∥ IsUtf8 bytes ∥₁ → utf8_or_empty bytes ≡ bytes
utf8_or_empty-utf8 bytes truncated =
    ap (λ b. cond b bytes []) (∥∥₁_elim truncated (Bool-set (is_utf8 bytes) true) (is_utf8-from_IsUtf8 bytes))

pub utf8_or_empty-other : (bytes : Text) → (IsUtf8 bytes → false ≡ true) → utf8_or_empty bytes ≡ []
utf8_or_empty-other bytes none = elim (cases_Bool (is_utf8 bytes)) [
  | inl is ↦ absurd (false≢true (none (IsUtf8-from_is_utf8 bytes is)))
  | inr other ↦ ap (λ b. cond b bytes []) other
]
