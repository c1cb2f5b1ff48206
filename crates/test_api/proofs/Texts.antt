-- Texts that are equal by a fact whose proof is truncated.
use Rattle.std.proofs.Common.{◌≡◌, true}
use Rattle.std.proofs.Math.Bool.{Bool-set}
use Rattle.std.proofs.Math.Logic.{∥∥₁_elim}
use Rattle.std.specs.Str.{bytes_eq}
use Rattle.std.proofs.lemmas.Slice.Eq.{bytes_eq-Decides}
use Rattle.handlebars_base.specs.Bytes.{Text}

pub same_text-merely : {A : Type 0} (x y : Text) → ∥ A ∥₁ → (A → x ≡ y) → x ≡ y
same_text-merely x y truncated same =
    (bytes_eq-Decides x y).0 (∥∥₁_elim truncated (Bool-set (bytes_eq x y) true) (λ a. (bytes_eq-Decides x y).1 (same a)))
