-- A part, and a link: the text spells what is read, and what a text spells is read.
use Rattle.std.proofs.Common.{◌≡◌, ℕ, ◌+◌, ◌<◌, Bool, true, false, cond, not, ◌||◌, ltb, List, [], ◌∷◌, ◌++◌, length, get_or, drop, Option, Some, None, refl, sym, ap, subst, ◌∙◌, append_assoc, arith, ◌⊎◌, inl, inr, length-append}
use Rattle.std.specs.Prelude.{◌==◌}
use Rattle.std.specs.List.{prefix_len, position_or_len, before_first, after_first, AllByRecursion}
use Rattle.std.proofs.lemmas.Bool.{eqb-true, ltb-true, or_parts, or_cases, and_parts, not-true, not-false, ne_eqb, lt-ltb}
use Rattle.std.proofs.lemmas.Option.{cond_some}
use Rattle.std.proofs.lemmas.List.{take-append-drop, take_at, drop_at, nil_from_length}
use Rattle.std.proofs.lemmas.List.Sums.{prefix_len_stops, split_at_first}
use Rattle.handlebars_base.specs.Path.{IsIdentifier, PathPart, dots, plain, bracketed, spelled_part, IsPathPart, is_dots, Link, joins}
use Rattle.handlebars_base.specs.PathReading.{bracketed_at, plain_at, part_at, link_by, link_at}
use Rattle.handlebars_base.specs.Optional.{◌>>=◌, with_or}
use Rattle.handlebars_base.specs.Texts.{after_byte, symbols_of, after_symbols}
use Rattle.handlebars_base.specs.Bytes.{is_symbol}
use Rattle.handlebars_base.proofs.OptionBinds.{bind_some, with_or_is, guard_some}
use Rattle.handlebars_base.proofs.Runs.{symbols_some, prefix_pass, prefix_again}
use Rattle.handlebars_base.proofs.Prefixes.{after_byte_takes, after_byte_other}
use Rattle.handlebars_base.proofs.Bytes.{other_byte}

-- ---- parts

-- what a reader took from the start
pub record TakesPart (t : List ℕ) (x : PathPart × List ℕ) : Type 0 where
  pub parts : t ≡ spelled_part x.0 ++ x.1
  pub fits : IsPathPart x.0

plain_takes : (t : List ℕ) (x : PathPart × List ℕ) → plain_at t ≡ Some x → TakesPart t x
unfolding plain_at
plain_takes t x e =
    let g = guard_some (prefix_len is_symbol t == 0) (plain (symbols_of t), after_symbols t) x e in
    subst (λ (y : PathPart × List ℕ). TakesPart t y) g.1 (record {
      parts = sym (take-append-drop (prefix_len is_symbol t) t);
      fits = (symbols_some t g.0, prefix_pass is_symbol t);
    })

-- a text around its first closing bracket
at_bracket : (t : List ℕ) → position_or_len (λ b. b == 93) t < length t →
    t ≡ (before_first (λ b. b == 93) t ++ 93 ∷ []) ++ after_first (λ b. b == 93) t
at_bracket t lt =
    let name = before_first (λ b. b == 93) t in
    let rest = after_first (λ b. b == 93) t in
    let closes : get_or t (position_or_len (λ b. b == 93) t) 0 ≡ 93 =
    eqb-true _ 93 (not-false _ (prefix_len_stops (λ b. not (b == 93)) t 0 lt)) in
    split_at_first (λ b. b == 93) t 0 lt ∙ ap (λ (c : ℕ). name ++ (c ∷ rest)) closes ∙ sym (append_assoc name (93 ∷ []) rest)

bracketed_takes : (t : List ℕ) (x : PathPart × List ℕ) → bracketed_at t ≡ Some x → TakesPart (91 ∷ t) x
unfolding bracketed_at
bracketed_takes t x e =
    let found : PathPart × List ℕ = (bracketed (before_first (λ b. b == 93) t), after_first (λ b. b == 93) t) in
    let g = cond_some (ltb (position_or_len (λ b. b == 93) t) (length t)) found x e in
    subst (λ (y : PathPart × List ℕ). TakesPart (91 ∷ t) y) g.1 (record {
      parts = ap (λ (r : List ℕ). 91 ∷ r) (at_bracket t (ltb-true (position_or_len (λ b. b == 93) t) (length t) g.0));
      fits = prefix_pass (λ b. not (b == 93)) t;
    })

pub part_takes : (t : List ℕ) (x : PathPart × List ℕ) → part_at t ≡ Some x → TakesPart t x
unfolding part_at
part_takes t x e =
    let others = with_or (after_byte 91 t) bracketed_at (plain_at t) in
    elim (with_or_is (after_byte 46 t) (λ r. after_byte 46 r >>= λ s. Some (dots, s)) others (Some x) e) [
      | inl two ↦
          let b = bind_some (after_byte 46 two.0) (λ s. Some (dots, s)) x two.2 in
          let first = after_byte_takes 46 t two.0 two.1 in
          let second = after_byte_takes 46 two.0 b.0 b.1 in
          let made : (dots, b.0) ≡ x = cc in
          subst (λ (y : PathPart × List ℕ). TakesPart t y) made (record {
            parts = first ∙ ap (λ (r : List ℕ). 46 ∷ r) second;
            fits = tt;
          })
      | inr other ↦ elim (with_or_is (after_byte 91 t) bracketed_at (plain_at t) (Some x) other.1) [
        | inl raw ↦ rw (after_byte_takes 91 t raw.0 raw.1) (bracketed_takes raw.0 x raw.2)
        | inr name ↦ plain_takes t x name.1
      ]
    ]

-- ---- links

pub record TakesLink (before : Bool) (t : List ℕ) (q : Link × List ℕ) : Type 0 where
  pub parts : t ≡ q.0.sep ∷ (spelled_part q.0.part ++ q.1)
  pub joined : joins before q.0.sep (is_dots q.0.part) ≡ true
  pub fits : IsPathPart q.0.part

dot_joins : (before after : Bool) → before ≡ false → after ≡ false → joins before 46 after ≡ true
dot_joins before after x y = rw (x, y) refl

abbrev slash_link : List ℕ → Option (Link × List ℕ)
slash_link r = part_at r >>= λ p. Some (link_by 47 p)

abbrev dot_link : Bool → List ℕ → Option (Link × List ℕ)
dot_link before r = part_at r >>= λ p. cond (before || is_dots p.0) None (Some (link_by 46 p))

pub link_takes : (before : Bool) (t : List ℕ) (q : Link × List ℕ) → link_at before t ≡ Some q → TakesLink before t q
unfolding link_at
link_takes before t q e =
    elim (with_or_is (after_byte 47 t) slash_link (after_byte 46 t >>= dot_link before) (Some q) e) [
      | inl slash ↦
          let b = bind_some (part_at slash.0) (λ p. Some (link_by 47 p)) q slash.2 in
          let taken = part_takes slash.0 b.0 b.1 in
          let made : link_by 47 b.0 ≡ q = cc in
          subst (λ (y : Link × List ℕ). TakesLink before t y) made (record {
            parts = after_byte_takes 47 t slash.0 slash.1 ∙ ap (λ (r : List ℕ). 47 ∷ r) taken.parts;
            joined = refl;
            fits = taken.fits;
          })
      | inr other ↦
          let a = bind_some (after_byte 46 t) (dot_link before) q other.1 in
          let b = bind_some (part_at a.0) (λ p. cond (before || is_dots p.0) None (Some (link_by 46 p))) q a.2 in
          let g = guard_some (before || is_dots b.0.0) (link_by 46 b.0) q b.2 in
          let neither = or_parts before (is_dots b.0.0) g.0 in
          let taken = part_takes a.0 b.0 b.1 in
          subst (λ (y : Link × List ℕ). TakesLink before t y) g.1 (record {
            parts = after_byte_takes 46 t a.0 a.1 ∙ ap (λ (r : List ℕ). 46 ∷ r) taken.parts;
            joined = dot_joins before (is_dots b.0.0) neither.0 neither.1;
            fits = taken.fits;
          })
    ]

-- what joins two parts
pub joins_cases : (before : Bool) (sep : ℕ) (after : Bool) → joins before sep after ≡ true →
    (sep ≡ 47) ⊎ ((sep ≡ 46) × (before ≡ false) × (after ≡ false))
joins_cases before sep after h =
    elim (or_cases (sep == 47) _ h) [
      | inl slash ↦ inl (eqb-true sep 47 slash)
      | inr point ↦
          let a = and_parts (sep == 46) _ point in
          let b = and_parts (not before) (not after) a.1 in
          inr (eqb-true sep 46 a.0, not-true before b.0, not-true after b.1)
    ]

-- ---- what a text spells is read: parts

pub plain_again : (n rest : List ℕ) → IsIdentifier n → prefix_len is_symbol rest ≡ 0 →
    plain_at (n ++ rest) ≡ Some (plain n, rest)
unfolding plain_at
plain_again n rest fits stop =
    let len = prefix_again is_symbol n rest fits.1 stop in
    let some : (length n == 0) ≡ false = ne_eqb (length n) 0 (λ e. fits.0 (nil_from_length n e)) in
    rw (len, some, take_at n rest (length n) refl, drop_at n rest (length n) refl) refl

pub bracketed_again : (n rest : List ℕ) → AllByRecursion (λ b. not (b == 93) ≡ true) n →
    bracketed_at (n ++ 93 ∷ rest) ≡ Some (bracketed n, rest)
unfolding bracketed_at
bracketed_again n rest fits =
    let len = prefix_again (λ b. not (b == 93)) n (93 ∷ rest) fits refl in
    let within : ltb (length n) (length (n ++ 93 ∷ rest)) ≡ true = lt-ltb _ _ (omega (arith, length-append n (93 ∷ rest))) in
    let after : drop (length n + 1) (n ++ 93 ∷ rest) ≡ rest =
    ap (drop (length n + 1)) (sym (append_assoc n (93 ∷ []) rest)) ∙
    drop_at (n ++ 93 ∷ []) rest (length n + 1) (omega (arith, length-append n (93 ∷ []))) in
    rw (len, within, take_at n (93 ∷ rest) (length n) refl, after) refl

pub part_again : (p : PathPart) (rest : List ℕ) → IsPathPart p → prefix_len is_symbol rest ≡ 0 →
    part_at (spelled_part p ++ rest) ≡ Some (p, rest)
unfolding part_at after_byte
part_again dots rest fits stop = refl
part_again (plain []) rest fits stop = absurd (fits.0 refl)
part_again (plain (x ∷ xs)) rest fits stop =
    let no_point = after_byte_other 46 x (xs ++ rest) (other_byte is_symbol 46 refl x fits.1.0) in
    let no_bracket = after_byte_other 91 x (xs ++ rest) (other_byte is_symbol 91 refl x fits.1.0) in
    rw (no_point, no_bracket) (plain_again (x ∷ xs) rest fits stop)
part_again (bracketed n) rest fits stop = ap bracketed_at (append_assoc n (93 ∷ []) rest) ∙ bracketed_again n rest fits

-- ---- what a text spells is read: links

by_slash : (before : Bool) (p : PathPart) (rest : List ℕ) → IsPathPart p → prefix_len is_symbol rest ≡ 0 →
    link_at before (47 ∷ (spelled_part p ++ rest)) ≡ Some (record { sep = 47; part = p }, rest)
unfolding link_at after_byte
by_slash before p rest fits stop = rw (part_again p rest fits stop) refl

by_dot : (before : Bool) (p : PathPart) (rest : List ℕ) → IsPathPart p → prefix_len is_symbol rest ≡ 0 → before ≡ false →
    is_dots p ≡ false → link_at before (46 ∷ (spelled_part p ++ rest)) ≡ Some (record { sep = 46; part = p }, rest)
unfolding link_at after_byte
by_dot before p rest fits stop a b = rw (part_again p rest fits stop, a, b) refl

pub link_again : (before : Bool) (s : Link) (rest : List ℕ) → joins before s.sep (is_dots s.part) ≡ true → IsPathPart s.part →
    prefix_len is_symbol rest ≡ 0 → link_at before (s.sep ∷ (spelled_part s.part ++ rest)) ≡ Some (s, rest)
link_again before s rest joined fits stop =
    let at : ℕ → Type 0 = λ c. link_at before (c ∷ (spelled_part s.part ++ rest)) ≡ Some (record { sep = c; part = s.part }, rest) in
    elim (joins_cases before s.sep (is_dots s.part) joined) [
      | inl slash ↦ subst at (sym slash) (by_slash before s.part rest fits stop)
      | inr point ↦ subst at (sym point.0) (by_dot before s.part rest fits stop point.1 point.2)
    ]
