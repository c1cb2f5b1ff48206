-- Paths, literals and keys at the start of a text.
use Rattle.std.proofs.Common.{◌≡◌, ℕ, ◌+◌, true, false, List, [], ◌∷◌, ◌++◌, Option, Some, None, refl, sym, ap, subst, ◌∙◌, arith, inl, inr}
use Rattle.std.specs.Prelude.{◌==◌}
use Rattle.std.specs.List.{prefix_len}
use Rattle.std.specs.Option.{option_map}
use Rattle.std.proofs.lemmas.Bool.{ne_eqb, cases_Bool}
use Rattle.std.proofs.lemmas.List.{take-append-drop, append_cancel_right}
use Rattle.std.proofs.lemmas.Option.{same_Some}
use Rattle.handlebars_base.specs.Bytes.{is_white, after_white, is_symbol}
use Rattle.handlebars_base.specs.Path.{IsIdentifier, Reference, raw_of, IsPath}
use Rattle.handlebars_base.specs.PathReading.{path_token_at, path_at}
use Rattle.handlebars_base.proofs.References.{ends_reference}
use Rattle.handlebars_base.specs.Optional.{◌>>=◌}
use Rattle.handlebars_base.proofs.OptionBinds.{bind_some, map_some, guard_bind}
use Rattle.handlebars_base.proofs.PathPrefixes.{path_at-some, path_at-stops}
use Rattle.handlebars_base.proofs.Prefixes.{after_byte_takes, after_white-skips, after_white-append, after_byte-not, after_byte-same}
use Rattle.handlebars_base.proofs.Runs.{prefix_pass, prefix_len-none, run-prefix, run-rest, symbols_some}
use Rattle.handlebars_base.specs.Texts.{IsWhite, starts, after_byte, symbols_of, after_symbols}
use Rattle.handlebars_base.proofs.Bytes.{white_symbol}
use Rattle.handlebars_expressions.specs.Literal.{Literal, spelled_literal, literal_depth, numbers_in_range, IsLiteralAt}
use Rattle.handlebars_expressions.specs.LiteralReading.{LiteralToken, literal_at}
use Rattle.handlebars_expressions.specs.Laws.{HasLiteral}
use Rattle.handlebars_expressions.specs.ExpressionReading.{key_and_equals_at}
use Rattle.handlebars_expressions.proofs.LiteralsFound.{literal_at-is, literal_at-some}

-- ---- paths

pub record TakesPath (t raw rest : List ℕ) : Type 0 where
  pub means : Reference
  pub whole : t ≡ raw ++ rest
  pub is : IsPath raw means

pub path_token_at-some : (t : List ℕ) (p : List ℕ × List ℕ) → path_token_at t ≡ Some p → TakesPath t p.0 p.1
path_token_at-some t p e =
    let m = map_some (λ (q : Reference × List ℕ). (raw_of q.0, q.1)) (path_at t) p e in
    let h = path_at-some t m.0 m.1 in
    subst (λ (z : List ℕ × List ℕ). TakesPath t z.0 z.1) m.2 (record { means = m.0.0; whole = h.whole; is = h.path })

pub path_token_at-stops : (raw rest : List ℕ) (means : Reference) → IsPath raw means → ends_reference rest ≡ true → path_token_at (raw ++ rest) ≡ Some (raw, rest)
path_token_at-stops raw rest means h stop =
    let found = path_at-stops raw rest means h stop in
    let prefix = path_at-some (raw ++ rest) (means, rest) found in
    let same : raw_of means ≡ raw = sym (append_cancel_right raw (raw_of means) rest prefix.whole) in
    ap (option_map (λ (q : Reference × List ℕ). (raw_of q.0, q.1))) found ∙ ap (λ (z : List ℕ). Some (z, rest)) same

-- ---- literals

pub record FindsLiteral (t : List ℕ) (l : Literal) (after : List ℕ) : Type 0 where
  pub token : LiteralToken
  pub found : literal_at t ≡ Some token
  pub raw : token.raw ≡ spelled_literal l
  pub rest : token.rest ≡ after
  pub depth : token.depth ≡ literal_depth l

pub literal_at-finds : (t : List ℕ) (l : Literal) (rest : List ℕ) → IsLiteralAt t l rest → FindsLiteral t l rest
literal_at-finds t l rest h =
    let f : LiteralToken = record { raw = spelled_literal l; rest = rest; depth = literal_depth l; in_range = numbers_in_range l } in
    let is : HasLiteral t f = record { literal = l; is = h; raw = refl; depth = refl; in_range = refl } in
    record { token = f; found = literal_at-is t f is; raw = refl; rest = refl; depth = refl }

pub literal_at-missing : (t : List ℕ) → ((l : Literal) (after : List ℕ) → IsLiteralAt t l after → ⊥) → literal_at t ≡ None
literal_at-missing t none = on (literal_at t) refl
  where
    on : (o : Option LiteralToken) → literal_at t ≡ o → literal_at t ≡ None
    on None e = e
    on (Some f) e = let h = literal_at-some t f e in absurd (none h.literal f.rest h.is)

-- ---- keys

pub record TakesKey (t key rest : List ℕ) : Type 0 where
  pub before : List ℕ
  pub after : List ℕ
  pub whole : t ≡ key ++ (before ++ 61 ∷ (after ++ rest))
  pub is : IsIdentifier key
  pub white_before : IsWhite before
  pub white_after : IsWhite after

pub key_and_equals_at-some : (t : List ℕ) (k : List ℕ × List ℕ) → key_and_equals_at t ≡ Some k → TakesKey t k.0 k.1
unfolding key_and_equals_at
key_and_equals_at-some t k e =
    let g = guard_bind (prefix_len is_symbol t == 0) (after_byte 61 (after_white (after_symbols t)) >>= λ r. Some (symbols_of t, after_white r)) k e in
    let b = bind_some (after_byte 61 (after_white (after_symbols t))) (λ r. Some (symbols_of t, after_white r)) k g.1 in
    let before = after_white-skips (after_symbols t) in
    let after = after_white-skips b.0 in
    let same : (symbols_of t, after_white b.0) ≡ k = same_Some (symbols_of t, after_white b.0) k b.2 in
    let sign : after_white (after_symbols t) ≡ 61 ∷ b.0 = after_byte_takes 61 (after_white (after_symbols t)) b.0 b.1 in
    subst (λ (z : List ℕ × List ℕ). TakesKey t z.0 z.1) same (record {
      before = before.white;
      after = after.white;
      whole = sym (take-append-drop (prefix_len is_symbol t) t) ∙ ap (λ (z : List ℕ). symbols_of t ++ z) (before.whole ∙ ap (λ (z : List ℕ). before.white ++ z) (sign ∙ ap (λ (z : List ℕ). 61 ∷ z) after.whole));
      is = (symbols_some t g.0, prefix_pass is_symbol t);
      white_before = before.is;
      white_after = after.is;
    })

pub key_and_equals_at-none : (t : List ℕ) → starts (λ b. b == 61) (after_white (after_symbols t)) ≡ false → key_and_equals_at t ≡ None
unfolding key_and_equals_at
key_and_equals_at-none t h = elim (cases_Bool (prefix_len is_symbol t == 0)) [
  | inl none ↦ rw none refl
  | inr some ↦ rw (some, after_byte-not 61 (after_white (after_symbols t)) h) refl
]

pub key_and_equals_at-dark : (t : List ℕ) → starts is_symbol t ≡ false → key_and_equals_at t ≡ None
unfolding key_and_equals_at
key_and_equals_at-dark t h = rw (prefix_len-none is_symbol t h) refl

pub key_and_equals_at-append : (key u v t : List ℕ) → IsIdentifier key → IsWhite u → IsWhite v → starts is_white t ≡ false → key_and_equals_at (key ++ (u ++ 61 ∷ (v ++ t))) ≡ Some (key, t)
unfolding key_and_equals_at
key_and_equals_at-append key u v t id white-u white-v dark_t =
    let sign_at : List ℕ = u ++ 61 ∷ (v ++ t) in
    let stop : prefix_len is_symbol sign_at ≡ 0 = prefix_len-none is_symbol sign_at (ends_key u white-u) in
    let take_it = run-prefix is_symbol key sign_at id.1 stop in
    let drop_it = run-rest is_symbol key sign_at id.1 stop in
    let some : (prefix_len is_symbol (key ++ sign_at) == 0) ≡ false = not_none key id in
    let sign = after_white-append u (61 ∷ (v ++ t)) white-u refl in
    let dark = after_white-append v t white-v dark_t in
    rw (some, drop_it, sign, after_byte-same 61 (v ++ t), take_it, dark) refl
  where
    ends_key : (u : List ℕ) → IsWhite u → starts is_symbol (u ++ 61 ∷ (v ++ t)) ≡ false
    ends_key [] white = refl
    ends_key (c ∷ u) white = white_symbol c white.0

    not_none : (key : List ℕ) → IsIdentifier key → (prefix_len is_symbol (key ++ (u ++ 61 ∷ (v ++ t))) == 0) ≡ false
    not_none [] id = absurd (id.0 refl)
    not_none (c ∷ key) id = rw id.1.0 (ne_eqb (1 + prefix_len is_symbol (key ++ (u ++ 61 ∷ (v ++ t)))) 0 (λ e. absurd (omega (arith, e))))
