-- Where close names end, and what is left after them.
use Rattle.std.proofs.Common.{◌≡◌, ◌≢◌, ℕ, ◌+◌, ◌<◌, Bool, true, false, cond, [], ◌∷◌, ◌++◌, get_or, take, drop, length, Option, Some, None, refl, sym, ap, subst, ◌∙◌, arith, length-drop}
use Rattle.std.specs.Prelude.{◌==◌, nat_lt}
use Rattle.std.specs.List.{prefix_len, position, position_or_len}
use Rattle.std.specs.Str.{IsCharBoundary, IsUtf8}
use Rattle.std.proofs.lemmas.Str.{IsCharBoundary-after_ascii}
use Rattle.std.proofs.lemmas.Bool.{or_parts, eqb-true}
use Rattle.std.proofs.lemmas.List.Sums.{prefix_len-le-length, prefix_len_stops}
use Rattle.std.proofs.lemmas.List.{take-append-drop}
use Rattle.std.proofs.lemmas.List.Quantifiers.{position-Some}
use Rattle.std.proofs.Math.Seq.{get_or-drop}
use Rattle.handlebars_base.specs.Bytes.{Text, left_bracket, right_bracket, single_quote, is_symbol}
use Rattle.handlebars_base.specs.Texts.{starts, after_byte}
use Rattle.handlebars_base.proofs.Prefixes.{after_byte_takes}
use Rattle.handlebars_base.proofs.Bytes.{no_symbol_ascii}
use Rattle.handlebars_expressions.specs.CloseName.{is_close_symbol, enclosed_at, close_name_at}

close_symbols-ascii : (b : ℕ) → is_close_symbol b ≡ false → b < 128
close_symbols-ascii b h = no_symbol_ascii b (or_parts (is_symbol b) _ h).0

pub close_symbols-boundary : (t : Text) → IsCharBoundary t (prefix_len is_close_symbol t)
close_symbols-boundary t = (
  prefix_len-le-length is_close_symbol t,
  λ lt le.
      let small : get_or t (prefix_len is_close_symbol t) 0 < 128 = close_symbols-ascii _ (prefix_len_stops is_close_symbol t 0 lt) in
      absurd (omega arith),
)

pub enclosed-boundary : (t : Text) (mark n : ℕ) → IsUtf8 t → mark < 128 → position (λ b. b == mark) (drop 1 t) ≡ Some n → IsCharBoundary t (n + 2)
enclosed-boundary t mark n utf8 small e =
    let h = position-Some (λ b. b == mark) (drop 1 t) n 0 e in
    let same : get_or (drop 1 t) n 0 ≡ mark = eqb-true _ mark h.1 in
    let at : get_or t (1 + n) 0 ≡ mark = sym (get_or-drop 1 t n 0) ∙ same in
    let next : (1 + n) + 1 ≡ n + 2 = omega arith in
    subst (IsCharBoundary t) next (IsCharBoundary-after_ascii t (1 + n) utf8 (omega (arith, h.0, length-drop 1 t)) (omega (arith, at)))

-- ---- what is left

-- the two parts are the whole
abbrev AreParts : Text → Text × Text → Type 0
AreParts t p = t ≡ p.0 ++ p.1

parts-cond : (b : Bool) (t : Text) (p q : Text × Text) → AreParts t p → AreParts t q → AreParts t (cond b p q)
parts-cond true t p q h k = h
parts-cond false t p q h k = k

parts-enclosed : (c : ℕ) (t : Text) → AreParts t (enclosed_at c t)
parts-enclosed c t =
    let n = position_or_len (λ b. b == c) (drop 1 t) in
    parts-cond (nat_lt n (length (drop 1 t))) t (take (n + 2) t, drop (n + 2) t) ([], t) (sym (take-append-drop (n + 2) t)) refl

pub close_name-whole : (t : Text) → t ≡ (close_name_at t).0 ++ (close_name_at t).1
close_name-whole t =
    let n = prefix_len is_close_symbol t in
    let run : AreParts t (take n t, drop n t) = sym (take-append-drop n t) in
    parts-cond (starts (λ b. b == left_bracket) t) t (enclosed_at right_bracket t) (_) (parts-enclosed right_bracket t)
    (parts-cond (starts (λ b. b == single_quote) t) t (enclosed_at single_quote t) (take n t, drop n t) (parts-enclosed single_quote t) run)

-- no close name begins with a parenthesis
pub close_name-parenthesis : (t name rest : Text) → close_name_at t ≡ (name, rest) → name ≢ [] → after_byte 40 t ≡ None
close_name-parenthesis t name rest e some = on (after_byte 40 t) refl
  where
    on : (o : Option Text) → after_byte 40 t ≡ o → o ≡ None
    on None is = refl
    on (Some r) is =
        let whole : t ≡ 40 ∷ r = after_byte_takes 40 t r is in
        absurd (some (sym (ap (λ (z : Text × Text). z.0) e) ∙ ap (λ (z : Text). (close_name_at z).0) whole))
