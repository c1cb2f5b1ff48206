-- What `parse` returns for digits, with no plus and no zero before them; and texts with no minus.
use Rattle.std.proofs.Common.{◌≡◌, ◌≢◌, ◌^◌, ◌<◌, ℕ, [], ◌∷◌, length, get_or, Some, None, Result, Ok, Err, Bool, true, false, ◌&&◌, cond, nat_lt, Decides, pos, option_map, refl, sym, ap, ◌∙◌, arith}
use Rattle.std.proofs.lemmas.Bool.{false≢true, ne_eqb}
use Rattle.std.proofs.lemmas.Bool.Decides.{Decides-ltb}
use Rattle.std.proofs.lemmas.Str.Parse.{parse_plain}
use Rattle.std.specs.Result.{OkIff, result_ok}
use Rattle.std.specs.Str.{all_ascii_digits}
use Rattle.std.specs.Str.Parse.{ParsesUnsigned, digits_value}
use Rattle.handlebars_base.specs.Bytes.{Text}
use Rattle.handlebars_base.specs.Compare.{is_empty, spelled_digits, spelled_number, below_zero}
use Rattle.handlebars_base.specs.Optional.{◌>>=◌}
use Rattle.handlebars_base.proofs.Digits.{digits}

result_ok-tests : {E : Type 0} (a b : Bool) (v : ℕ) (P Q : Type 0) (r : Result ℕ E) →
    OkIff r ((a ≡ true) × P × Q) v → Decides b Q → P → result_ok r ≡ cond (a && b) (Some v) None
result_ok-tests true true v P Q (Ok x) h d p = ap Some h.1
result_ok-tests true true v P Q (Err e) h d p = absurd (h (refl, p, d.0 refl))
result_ok-tests true false v P Q (Ok x) h d p = absurd (false≢true (d.1 h.0.2))
result_ok-tests true false v P Q (Err e) h d p = refl
result_ok-tests false b v P Q (Ok x) h d p = absurd (false≢true h.0.0)
result_ok-tests false b v P Q (Err e) h d p = refl

pub result_ok-digits : {E : Type 0} (t : Text) (r : Result ℕ E) → ParsesUnsigned 64 10 t r → 0 < length t →
    get_or t 0 0 ≢ 48 → get_or t 0 0 ≢ 43 → result_ok r ≡ spelled_digits t
result_ok-digits [] r h some zero plus = absurd (omega arith)
result_ok-digits (b ∷ t) r h some zero plus =
    let in_64 = nat_lt (digits_value 10 (b ∷ t)) (2 ^ 64) in
    let read = cond (all_ascii_digits (b ∷ t) && in_64) (Some (digits_value 10 (b ∷ t))) None in
    result_ok-tests _ _ _ _ _ r (parse_plain digits 64 (b ∷ t) r h plus) (Decides-ltb _ _) some
    ∙ sym (ap (λ is. cond is (cond (is_empty t) (Some 0) None) read) (ne_eqb b 48 zero))

pub spelled_number-plain : (t : Text) → ((rest : Text) → t ≢ 45 ∷ rest) → spelled_number t ≡ option_map pos (spelled_digits t)
spelled_number-plain [] h = refl
spelled_number-plain (b ∷ t) h =
    ap (λ is. cond is (spelled_digits t >>= below_zero) (option_map pos (spelled_digits (b ∷ t))))
    (ne_eqb b 45 (λ e. h t (ap (λ x. x ∷ t) e)))
