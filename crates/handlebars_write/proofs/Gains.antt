-- What an output gains: texts and pieces, joined.
use Rattle.std.proofs.Common.{◌≡◌, List, map, [], ◌∷◌, ◌++◌, Option, None, Some, refl, sym, ap, ◌∙◌, append_assoc, append-nil}
use Rattle.handlebars_base.specs.Bytes.{Text}
use Rattle.handlebars_semantics.specs.Pieces.{Piece, join}
use Rattle.handlebars_semantics.specs.Emitted.{Emitted, emitted}
use Rattle.handlebars_semantics.proofs.Runs.{join-append}
use Rattle.handlebars_write.specs.View.{with_emitted}

pub text-append : (T U V : Text) (xs ys : List Piece) → U ≡ T ++ join xs → V ≡ U ++ join ys → V ≡ T ++ join (xs ++ ys)
text-append T U V xs ys a b =
    b ∙ ap (λ (z : Text). z ++ join ys) a ∙ append_assoc T (join xs) (join ys) ∙ ap (λ (z : Text). T ++ z) (sym (join-append xs ys))

pub map-append : {A B : Type 0} (f : A → B) (xs ys : List A) → map f (xs ++ ys) ≡ map f xs ++ map f ys
map-append f [] ys = refl
map-append f (x ∷ xs) ys = ap (λ zs. f x ∷ zs) (map-append f xs ys)

pub with_emitted-nil : (o : Option (List Emitted)) → o ≡ with_emitted [] o
with_emitted-nil None = refl
with_emitted-nil (Some ts) = ap (λ zs. Some zs) (sym (append-nil ts))

pub with_emitted-append : (xs ys : List Piece) (o : Option (List Emitted)) → with_emitted ys (with_emitted xs o) ≡ with_emitted (xs ++ ys) o
with_emitted-append xs ys None = refl
with_emitted-append xs ys (Some ts) = ap (λ zs. Some zs)
    (append_assoc ts (map emitted xs) (map emitted ys) ∙ ap (λ zs. ts ++ zs) (sym (map-append emitted xs ys)))
