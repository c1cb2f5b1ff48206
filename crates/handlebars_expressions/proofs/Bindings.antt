-- Block parameters: what is read is what is spelled, and there is at most one reading.
use Rattle.std.proofs.Common.{◌≡◌, ◌≢◌, ℕ, ◌+◌, ◌<◌, length, true, false, List, [], ◌∷◌, ◌++◌, Option, Some, None, refl, sym, ap, subst, ◌∙◌, append_assoc, arith, inl, inr}
use Rattle.std.specs.Prelude.{◌==◌, is_some, codes}
use Rattle.std.specs.List.{prefix_len}
use Rattle.std.specs.Str.{bytes_eq}
use Rattle.std.proofs.lemmas.Bool.{ne_eqb, eq-eqb}
use Rattle.std.proofs.lemmas.List.Folds.{length-prefix_len}
use Rattle.std.proofs.lemmas.List.{take-append-drop}
use Rattle.std.proofs.lemmas.Option.{same_Some, none-some}
use Rattle.std.proofs.lemmas.Slice.Eq.{bytes_eq-Decides}
use Rattle.handlebars_base.specs.Bytes.{is_white, after_white, is_symbol}
use Rattle.handlebars_base.specs.Path.{IsIdentifier}
use Rattle.handlebars_base.specs.Optional.{◌>>=◌, with_or}
use Rattle.handlebars_base.proofs.OptionBinds.{bind_some, with_or_is, cond_is, guard_bind}
use Rattle.handlebars_base.proofs.Prefixes.{after_byte_takes, after_white-skips, after_white-append, dark_after, white_some, starts-other, after_byte-not, after_byte-same}
use Rattle.handlebars_base.proofs.Runs.{prefix_pass, after_symbols-stops, symbols_some, prefix_len-none, run-prefix, run-rest}
use Rattle.handlebars_base.specs.Texts.{IsWhite, starts, after_byte, symbols_of, after_symbols}
use Rattle.handlebars_base.proofs.Bytes.{other_byte, symbol_dark, white_symbol}
use Rattle.handlebars_expressions.specs.Binding.{after_bar, after_beginning, begins_binding, BoundNames, unbound, bound, both_bound, Names, one_name, two_names, spelled_names, AreNames, bound_by, IsBound, IsBinding, is_unbound, is_bound, NoBinding, OneBinding}
use Rattle.handlebars_expressions.proofs.BindingReading.{symbols_at, name_at, after_last, other_at, names_at, binding_at}

-- ---- where they begin

-- `as`, optional whitespace, and a bar
pub record TakesBar (t r : List ℕ) : Type 0 where
  pub between : List ℕ
  pub is : IsWhite between
  pub whole : t ≡ 97 ∷ 115 ∷ (between ++ 124 ∷ r)

pub after_bar-takes : (t r : List ℕ) → after_bar t ≡ Some r → TakesBar t r
unfolding after_bar
after_bar-takes t r e = elim (cond_is (bytes_eq (symbols_of t) (codes "as")) (after_byte 124 (after_white (after_symbols t))) None (Some r) e) [
  | inl yea ↦
      let word : symbols_of t ≡ 97 ∷ 115 ∷ [] = (bytes_eq-Decides (symbols_of t) (codes "as")).0 yea.0 in
      let white = after_white-skips (after_symbols t) in
      let mark = after_byte_takes 124 (after_white (after_symbols t)) r yea.1 in
      record {
        between = white.white;
        is = white.is;
        whole = sym (take-append-drop (prefix_len is_symbol t) t)
            ∙ ap (λ (z : List ℕ). z ++ after_symbols t) word
            ∙ ap (λ (z : List ℕ). 97 ∷ 115 ∷ z) (white.whole ∙ ap (λ (z : List ℕ). white.white ++ z) mark);
      }
  | inr nay ↦ absurd (none-some r nay.1)
]

pub no_symbols-white : (w : List ℕ) (b : ℕ) (t : List ℕ) → IsWhite w → is_symbol b ≡ false → prefix_len is_symbol (w ++ b ∷ t) ≡ 0
no_symbols-white w b t white mark = prefix_len-none is_symbol (w ++ b ∷ t) (on w white)
  where
    on : (w : List ℕ) → IsWhite w → starts is_symbol (w ++ b ∷ t) ≡ false
    on [] white = mark
    on (c ∷ w) white = white_symbol c white.0

after_bar-append : (w r : List ℕ) → IsWhite w → after_bar (97 ∷ 115 ∷ (w ++ 124 ∷ r)) ≡ Some r
unfolding after_bar
after_bar-append w r white =
    let stop = no_symbols-white w 124 r white refl in
    let word : symbols_of (97 ∷ 115 ∷ (w ++ 124 ∷ r)) ≡ 97 ∷ 115 ∷ [] = run-prefix is_symbol (97 ∷ 115 ∷ []) (w ++ 124 ∷ r) (refl, (refl, tt)) stop in
    let rest : after_symbols (97 ∷ 115 ∷ (w ++ 124 ∷ r)) ≡ w ++ 124 ∷ r = run-rest is_symbol (97 ∷ 115 ∷ []) (w ++ 124 ∷ r) (refl, (refl, tt)) stop in
    rw (word, rest, after_white-append w (124 ∷ r) white refl, after_byte-same 124 r) refl

-- whitespace, and `as` and a bar after it
pub record BeginsAt (t r : List ℕ) : Type 0 where
  pub spaced : starts is_white t ≡ true
  pub bar : after_bar (after_white t) ≡ Some r
  pub between : List ℕ
  pub is_between : IsWhite between
  pub after : after_white t ≡ 97 ∷ 115 ∷ (between ++ 124 ∷ r)

beginning-takes : (t r : List ℕ) → after_beginning t ≡ Some r → BeginsAt t r
unfolding after_beginning
beginning-takes t r e = elim (cond_is (starts is_white t) (after_bar (after_white t)) None (Some r) e) [
  | inl yea ↦
      let b = after_bar-takes (after_white t) r yea.1 in
      record { spaced = yea.0; bar = yea.1; between = b.between; is_between = b.is; after = b.whole }
  | inr nay ↦ absurd (none-some r nay.1)
]

pub binding_begins : (t : List ℕ) → begins_binding t ≡ true → (r : List ℕ) × BeginsAt t r
binding_begins t h = on (after_beginning t) refl h
  where
    on : (o : Option (List ℕ)) → after_beginning t ≡ o → is_some o ≡ true → (r : List ℕ) × BeginsAt t r
    on None is e = absurd cc
    on (Some r) is e = (r, beginning-takes t r is)

-- what is spelled so is read
after_beginning-append : (w v r : List ℕ) → IsWhite w → w ≢ [] → IsWhite v → after_beginning (w ++ 97 ∷ 115 ∷ (v ++ 124 ∷ r)) ≡ Some r
unfolding after_beginning
after_beginning-append [] v r white some between = absurd (some refl)
after_beginning-append (b ∷ w) v r white some between =
    rw (white.0, after_white-append w (97 ∷ 115 ∷ (v ++ 124 ∷ r)) white.1 refl) (after_bar-append v r between)

-- ---- names

identifier_starts : (name r : List ℕ) → IsIdentifier name → starts is_symbol (name ++ r) ≡ true
identifier_starts [] r id = absurd (id.0 refl)
identifier_starts (c ∷ name) r id = id.1.0

identifier_dark : (name r : List ℕ) → IsIdentifier name → starts is_white (name ++ r) ≡ false
identifier_dark name r id = starts-other is_symbol is_white (name ++ r) symbol_dark (identifier_starts name r id)

-- a name after optional whitespace, up to its last symbol
pub record TakesName (t name r : List ℕ) : Type 0 where
  pub white : List ℕ
  pub is_white : IsWhite white
  pub is : IsIdentifier name
  pub whole : t ≡ white ++ (name ++ r)
  pub stops : starts is_symbol r ≡ false

name_at-takes : (t : List ℕ) (p : List ℕ × List ℕ) → name_at t ≡ Some p → TakesName t p.0 p.1
unfolding symbols_at
name_at-takes t p e =
    let u : List ℕ = after_white t in
    let g = guard_bind (prefix_len is_symbol u == 0) (Some (symbols_of u, after_symbols u)) p e in
    let same = same_Some (symbols_of u, after_symbols u) p g.1 in
    let white = after_white-skips t in
    subst (λ (z : List ℕ × List ℕ). TakesName t z.0 z.1) same (record {
      white = white.white;
      is_white = white.is;
      is = (symbols_some u g.0, prefix_pass is_symbol u);
      whole = white.whole ∙ ap (λ (z : List ℕ). white.white ++ z) (sym (take-append-drop (prefix_len is_symbol u) u));
      stops = after_symbols-stops u;
    })

symbols_at-append : (name r : List ℕ) → IsIdentifier name → prefix_len is_symbol r ≡ 0 → symbols_at (name ++ r) ≡ Some (name, r)
unfolding symbols_at
symbols_at-append name r id stop = rw (not_none name id, run-prefix is_symbol name r id.1 stop, run-rest is_symbol name r id.1 stop) refl
  where
    not_none : (name : List ℕ) → IsIdentifier name → (prefix_len is_symbol (name ++ r) == 0) ≡ false
    not_none [] id = absurd (id.0 refl)
    not_none (c ∷ name) id = rw id.1.0 (ne_eqb (1 + prefix_len is_symbol (name ++ r)) 0 (λ e. absurd (omega (arith, e))))

name_at-append : (w name r : List ℕ) → IsWhite w → IsIdentifier name → prefix_len is_symbol r ≡ 0 → name_at (w ++ (name ++ r)) ≡ Some (name, r)
name_at-append w name r white id stop =
    rw (after_white-append w (name ++ r) white (identifier_dark name r id)) (symbols_at-append name r id stop)

after_last-append : (v r : List ℕ) → IsWhite v → after_last (v ++ 124 ∷ r) ≡ Some r
after_last-append v r white = rw (after_white-append v (124 ∷ r) white refl, after_byte-same 124 r) refl

after_last-none : (u name r : List ℕ) → IsWhite u → IsIdentifier name → after_last (u ++ (name ++ r)) ≡ None
after_last-none u name r white id =
    let other = starts-other is_symbol (λ b. b == 124) (name ++ r) (other_byte is_symbol 124 refl) (identifier_starts name r id) in
    rw (after_white-append u (name ++ r) white (identifier_dark name r id), after_byte-not 124 (name ++ r) other) refl

-- what is left after the last bar
pub record TakesNames (t : List ℕ) (means : BoundNames) (r : List ℕ) : Type 0 where
  pub names : Names
  pub are : AreNames names
  pub whole : t ≡ spelled_names names ++ 124 ∷ r
  pub gives : means ≡ bound_by names

one_group : (w name v r : List ℕ) → w ++ (name ++ (v ++ 124 ∷ r)) ≡ (w ++ (name ++ v)) ++ 124 ∷ r
one_group w name v r = simp append_assoc

two_group : (w name u other v r : List ℕ) → w ++ (name ++ (u ++ (other ++ (v ++ 124 ∷ r)))) ≡ (w ++ (name ++ (u ++ (other ++ v)))) ++ 124 ∷ r
two_group w name u other v r = simp append_assoc

-- the last bar, after optional whitespace
pub record TakesLast (t r : List ℕ) : Type 0 where
  pub white : List ℕ
  pub is_white : IsWhite white
  pub whole : t ≡ white ++ 124 ∷ r

after_last-takes : (t r : List ℕ) → after_last t ≡ Some r → TakesLast t r
after_last-takes t r e =
    let white = after_white-skips t in
    record {
      white = white.white;
      is_white = white.is;
      whole = white.whole ∙ ap (λ (z : List ℕ). white.white ++ z) (after_byte_takes 124 (after_white t) r e);
    }

one_taken : (t name after r : List ℕ) → TakesName t name after → TakesLast after r → TakesNames t (bound name) r
one_taken t name after r a z = record {
  names = one_name a.white name z.white;
  are = (a.is_white, a.is, z.is_white);
  whole = a.whole ∙ ap (λ (y : List ℕ). a.white ++ (name ++ y)) z.whole ∙ one_group a.white name z.white r;
  gives = refl;
}

-- no name follows another without whitespace
apart : (t name r white : List ℕ) → starts is_symbol t ≡ false → IsIdentifier name → t ≡ white ++ (name ++ r) → white ≢ []
apart t name r white stops id whole none =
    let joined : t ≡ name ++ r = whole ∙ ap (λ (z : List ℕ). z ++ (name ++ r)) none in
    let no : false ≡ true = sym stops ∙ ap (starts is_symbol) joined ∙ identifier_starts name r id in
    absurd cc

two_taken : (t name after other last r : List ℕ) → TakesName t name after → TakesName after other last → TakesLast last r → TakesNames t (both_bound name other) r
two_taken t name after other last r a b z = record {
  names = two_names a.white name b.white other z.white;
  are = (a.is_white, a.is, b.is_white, apart after other last b.white a.stops b.is b.whole, b.is, z.is_white);
  whole = a.whole
      ∙ ap (λ (y : List ℕ). a.white ++ (name ++ y)) (b.whole ∙ ap (λ (y : List ℕ). b.white ++ (other ++ y)) z.whole)
      ∙ two_group a.white name b.white other z.white r;
  gives = refl;
}

other_at-takes : (t name after : List ℕ) (q : BoundNames × List ℕ) → TakesName t name after → other_at name after ≡ Some q → TakesNames t q.0 q.1
other_at-takes t name after q a e =
    let p = bind_some (name_at after) (λ p. after_last p.1 >>= λ r. Some (both_bound name p.0, r)) q e in
    let z = bind_some (after_last p.0.1) (λ r. Some (both_bound name p.0.0, r)) q p.2 in
    subst (λ (x : BoundNames × List ℕ). TakesNames t x.0 x.1) (same_Some (both_bound name p.0.0, z.0) q z.2)
    (two_taken t name after p.0.0 p.0.1 z.0 a (name_at-takes after p.0 p.1) (after_last-takes p.0.1 z.0 z.1))

names_at-takes : (t : List ℕ) (q : BoundNames × List ℕ) → names_at t ≡ Some q → TakesNames t q.0 q.1
names_at-takes t q e =
    let p = bind_some (name_at t) (λ p. with_or (after_last p.1) (λ r. Some (bound p.0, r)) (other_at p.0 p.1)) q e in
    let a = name_at-takes t p.0 p.1 in
    elim (with_or_is (after_last p.0.1) (λ r. Some (bound p.0.0, r)) (other_at p.0.0 p.0.1) (Some q) p.2) [
      | inl z ↦
          subst (λ (x : BoundNames × List ℕ). TakesNames t x.0 x.1) (same_Some (bound p.0.0, z.0) q z.2)
          (one_taken t p.0.0 p.0.1 z.0 a (after_last-takes p.0.1 z.0 z.1))
      | inr more ↦ other_at-takes t p.0.0 p.0.1 q a more.1
    ]

names_at-append : (names : Names) (r : List ℕ) → AreNames names → names_at (spelled_names names ++ 124 ∷ r) ≡ Some (bound_by names, r)
names_at-append (one_name w name v) r are =
    let stop = no_symbols-white v 124 r are.2 refl in
    let found = name_at-append w name (v ++ 124 ∷ r) are.0 are.1 stop in
    ap names_at (sym (one_group w name v r)) ∙ rw (found, after_last-append v r are.2) refl
names_at-append (two_names w name u other v) r are =
    let after : List ℕ = other ++ (v ++ 124 ∷ r) in
    let first = name_at-append w name (u ++ after) are.0 are.1 (prefix_len-none is_symbol (u ++ after) (spaced u are.2 are.3)) in
    let second = name_at-append u other (v ++ 124 ∷ r) are.2 are.4 (no_symbols-white v 124 r are.5 refl) in
    ap names_at (sym (two_group w name u other v r))
    ∙ rw (first, after_last-none u other (v ++ 124 ∷ r) are.2 are.4, second, after_last-append v r are.5) refl
  where
    spaced : (u : List ℕ) → IsWhite u → u ≢ [] → starts is_symbol (u ++ (other ++ (v ++ 124 ∷ r))) ≡ false
    spaced [] white some = absurd (some refl)
    spaced (b ∷ u) white some = white_symbol b white.0

-- ---- whole block parameters

pub binding_at-takes : (t : List ℕ) (q : BoundNames × List ℕ) → binding_at t ≡ Some q → IsBinding t q.0 q.1
binding_at-takes t q e = elim (with_or_is (after_beginning t) names_at (Some (unbound, t)) (Some q) e) [
  | inl begun ↦
      let b = beginning-takes t begun.0 begun.1 in
      let n = names_at-takes begun.0 q begun.2 in
      let white = after_white-skips t in
      is_bound (record {
        white = white.white;
        between = b.between;
        names = n.names;
        is_white = white.is;
        some_white = white_some t white.white (after_white t) b.spaced white.whole (dark_after t);
        is_between = b.is_between;
        are_names = n.are;
        whole = white.whole
            ∙ ap (λ (z : List ℕ). white.white ++ z) (b.after ∙ ap (λ (z : List ℕ). 97 ∷ 115 ∷ (b.between ++ 124 ∷ z)) n.whole);
        gives = n.gives;
      })
  | inr none ↦
      let same : (unbound, t) ≡ q = same_Some (unbound, t) q none.1 in
      is_unbound (ap is_some none.0) (sym (ap (λ (z : BoundNames × List ℕ). z.0) same)) (sym (ap (λ (z : BoundNames × List ℕ). z.1) same))
]

none_is : {A : Type 0} (o : Option A) → is_some o ≡ false → o ≡ None
none_is None e = refl
none_is (Some x) e = absurd cc

bound_found : (t r : List ℕ) (means : BoundNames) → IsBound t means r → binding_at t ≡ Some (means, r)
bound_found t r means h =
    let names : List ℕ = spelled_names h.names ++ 124 ∷ r in
    let begun : after_beginning t ≡ Some names = ap after_beginning h.whole ∙ after_beginning-append h.white h.between names h.is_white h.some_white h.is_between in
    rw begun (names_at-append h.names r h.are_names) ∙ ap (λ (z : BoundNames). Some (z, r)) (sym h.gives)

pub binding_found : (t : List ℕ) (means : BoundNames) (r : List ℕ) → IsBinding t means r → binding_at t ≡ Some (means, r)
binding_found t means r (is_unbound none is rest) = rw (none_is (after_beginning t) none, is, rest) refl
binding_found t means r (is_bound h) = bound_found t r means h

pub has_no_binding : (t : List ℕ) → binding_at t ≡ None → NoBinding t
has_no_binding t none means r h = none-some (means, r) (sym none ∙ binding_found t means r h)

pub one_binding : OneBinding
one_binding t a b r r' h g =
    let same = same_Some (a, r) (b, r') (sym (binding_found t a r h) ∙ binding_found t b r' g) in
    (ap (λ (z : BoundNames × List ℕ). z.0) same, ap (λ (z : BoundNames × List ℕ). z.1) same)

-- ---- what the program reads

pub name_at-none : (t : List ℕ) {u name : List ℕ} → u ≡ after_white t → name ≡ symbols_of u → length name ≡ 0 → name_at t ≡ None
unfolding symbols_at
name_at-none t {u = u} white prefix none =
    let empty : (prefix_len is_symbol u == 0) ≡ true = eq-eqb (prefix_len is_symbol u) 0 (omega (arith, none, ap length prefix, length-prefix_len is_symbol u)) in
    rw (← white, empty) refl

pub name_at-is : (t : List ℕ) {u name rest : List ℕ} → u ≡ after_white t → name ≡ symbols_of u → rest ≡ after_symbols u → 0 < length name →
    name_at t ≡ Some (name, rest)
unfolding symbols_at
name_at-is t {u = u} white prefix after some =
    let any : (prefix_len is_symbol u == 0) ≡ false = ne_eqb (prefix_len is_symbol u) 0 (λ e. absurd (omega (arith, e, some, ap length prefix, length-prefix_len is_symbol u))) in
    rw (← white, any, prefix, after) refl

pub none_bound : {t r : List ℕ} → Some r ≡ after_beginning t → names_at r ≡ None → NoBinding t
none_bound {t = t} begun none = has_no_binding t (rw (← begun) none)

pub names_bound : {t r : List ℕ} {means : BoundNames} {rest : List ℕ} → Some r ≡ after_beginning t → names_at r ≡ Some (means, rest) →
    IsBinding t means rest
names_bound {t = t} {means = means} {rest = rest} begun gives = binding_at-takes t (means, rest) (rw (← begun) gives)
