-- What each token says about the text at whose start it is found.
use Rattle.std.proofs.Common.{◌≡◌, ℕ, suc, ◌+◌, ◌<◌, Bool, true, false, cond, ◌||◌, List, [], ◌∷◌, ◌++◌, length, Option, Some, None, refl, sym, ap, subst, ◌∙◌, append_assoc, arith, inl, inr, length-append}
use Rattle.std.specs.List.{prefix_len}
use Rattle.std.proofs.lemmas.Bool.{or_cases}
use Rattle.std.proofs.lemmas.List.{take-append-drop}
use Rattle.std.proofs.lemmas.Option.{same_Some}
use Rattle.handlebars_base.specs.Optional.{◌>>=◌, with_or}
use Rattle.handlebars_base.proofs.OptionBinds.{bind_some, with_or_is}
use Rattle.handlebars_base.proofs.Prefixes.{after_byte_takes, after_white-skips}
use Rattle.handlebars_base.specs.Texts.{IsWhite, after_byte}
use Rattle.handlebars_base.specs.Bytes.{after_white}
use Rattle.handlebars_expressions.specs.Literal.{is_number, is_word, Bracket, array, object, opener, closer, Lead, unnamed, keyed, spelled_lead, IsLead, Literal, quoted, single_quoted, number, word, empty, filled, spelled_literal, is_element, IsLiteral, is_in_range, numbers_in_range, continues_literal}
use Rattle.handlebars_expressions.specs.LiteralReading.{after_quote, run_of, after_run, after_scalar, undoubled_at, unbracketed_at, in_range_at, after_lead, Lexeme, unbracketed, empty_brackets, opening_bracket, another_entry, closing_bracket, literal_end, no_token, bracket_token, value_token, entry_token}
use Rattle.handlebars_expressions.proofs.Prefixes.{after_quote-takes, run_of-append}
use Rattle.handlebars_expressions.proofs.Plain.{plain_goes_on, word_no_number}

-- ---- a literal with no brackets

abbrev pub is_flat : Literal → Bool
is_flat (quoted t) = true
is_flat (single_quoted t) = true
is_flat (number t) = true
is_flat (word t) = true
is_flat (empty k w) = false
is_flat (filled k lead l w more) = false

pub record TakesAtom (inside in_range : Bool) (t r : List ℕ) : Type 0 where
  pub unbracketed : Literal
  pub whole : t ≡ spelled_literal unbracketed ++ r
  pub fits : IsLiteral unbracketed
  pub flat : is_flat unbracketed ≡ true
  pub element : inside ≡ true → is_element unbracketed ≡ true
  pub within_range : numbers_in_range unbracketed ≡ in_range
  pub shorter : length r < length t

in_range_at-number : (t : List ℕ) → is_number (run_of t) ≡ true → is_in_range (run_of t) ≡ in_range_at t
unfolding in_range_at
in_range_at-number t is = rw is refl

in_range_at-word : (t : List ℕ) → is_word (run_of t) ≡ true → true ≡ in_range_at t
unfolding in_range_at
in_range_at-word t is = rw (word_no_number (run_of t) is) refl

pub in_range_at-quote : (quote : ℕ) (u t : List ℕ) → t ≡ quote ∷ u → continues_literal quote ≡ false → true ≡ in_range_at t
unfolding in_range_at
in_range_at-quote quote u t first stops =
    let none : run_of t ≡ [] = ap run_of first ∙ run_of-append [] (quote ∷ u) tt stops in
    rw none refl

plain_takes : (inside : Bool) (t r : List ℕ) → after_scalar t ≡ Some r → TakesAtom inside (in_range_at t) t r
unfolding after_scalar
plain_takes inside t r e = on (is_number (run_of t) || is_word (run_of t)) refl e
  where
    on : (c : Bool) → (is_number (run_of t) || is_word (run_of t)) ≡ c → cond c (Some (after_run t)) None ≡ Some r → TakesAtom inside (in_range_at t) t r
    on false is e = absurd cc
    on true is e =
        let rest : after_run t ≡ r = same_Some (after_run t) r e in
        let whole : t ≡ run_of t ++ r = sym (take-append-drop (prefix_len continues_literal t) t) ∙ ap (λ (z : List ℕ). run_of t ++ z) rest in
        let shorter : length r < length t = omega (arith, ap length whole, length-append (run_of t) r, (plain_goes_on (run_of t) is).some) in
        elim (or_cases (is_number (run_of t)) (is_word (run_of t)) is) [
          | inl fits ↦ record { unbracketed = number (run_of t); whole = whole; fits = fits; flat = refl; element = λ inner. refl; within_range = in_range_at-number t fits; shorter = shorter }
          | inr fits ↦ record { unbracketed = word (run_of t); whole = whole; fits = fits; flat = refl; element = λ inner. refl; within_range = in_range_at-word t fits; shorter = shorter }
        ]

-- a text in quotes, from the opening one on
quote_whole : (quote : ℕ) (t u inner r : List ℕ) → t ≡ quote ∷ u → u ≡ inner ++ quote ∷ r → t ≡ (quote ∷ (inner ++ quote ∷ [])) ++ r
quote_whole quote t u inner r first whole = first ∙ ap (λ (z : List ℕ). quote ∷ z) (whole ∙ sym (append_assoc inner (quote ∷ []) r))

undoubled_takes : (inside : Bool) (t r : List ℕ) → undoubled_at inside t ≡ Some r → TakesAtom inside (in_range_at t) t r
unfolding undoubled_at
undoubled_takes true t r e = plain_takes true t r e
undoubled_takes false t r e =
    elim (with_or_is (after_byte 39 t) (after_quote 39 false) (after_scalar t) (Some r) e) [
      | inl text ↦
          let q = after_quote-takes 39 false text.0 r text.2 in
          let whole = quote_whole 39 t text.0 q.inner r (after_byte_takes 39 t text.0 text.1) q.whole in
          record {
            unbracketed = single_quoted q.inner;
            whole = whole;
            fits = q.is;
            flat = refl;
            element = λ never. absurd cc;
            within_range = in_range_at-quote 39 text.0 t (after_byte_takes 39 t text.0 text.1) refl;
            shorter = omega (arith, ap length whole, length-append (39 ∷ (q.inner ++ 39 ∷ [])) r);
          }
      | inr plain ↦ plain_takes false t r plain.1
    ]

atom_takes : (inside : Bool) (t r : List ℕ) → unbracketed_at inside t ≡ Some r → TakesAtom inside (in_range_at t) t r
unfolding unbracketed_at
atom_takes inside t r e =
    elim (with_or_is (after_byte 34 t) (after_quote 34 false) (undoubled_at inside t) (Some r) e) [
      | inl text ↦
          let q = after_quote-takes 34 false text.0 r text.2 in
          let whole = quote_whole 34 t text.0 q.inner r (after_byte_takes 34 t text.0 text.1) q.whole in
          record {
            unbracketed = quoted q.inner;
            whole = whole;
            fits = q.is;
            flat = refl;
            element = λ inner. refl;
            within_range = in_range_at-quote 34 text.0 t (after_byte_takes 34 t text.0 text.1) refl;
            shorter = omega (arith, ap length whole, length-append (34 ∷ (q.inner ++ 34 ∷ [])) r);
          }
      | inr other ↦ undoubled_takes inside t r other.1
    ]

-- ---- what leads to an entry

pub record TakesLead (k : Bracket) (t r : List ℕ) : Type 0 where
  pub lead : Lead
  pub fits : IsLead k lead
  pub whole : t ≡ spelled_lead lead ++ r

pub lead_regroup : (w key u v r : List ℕ) → w ++ 34 ∷ (key ++ 34 ∷ (u ++ 58 ∷ (v ++ r))) ≡ (w ++ 34 ∷ (key ++ 34 ∷ (u ++ 58 ∷ v))) ++ r
lead_regroup w key u v r = simp append_assoc

abbrev after_colon : List ℕ → Option (List ℕ)
after_colon t = after_byte 58 (after_white t) >>= λ r. Some (after_white r)

lead_takes : (k : Bracket) (t r : List ℕ) → after_lead k (after_white t) ≡ Some r → TakesLead k t r
lead_takes array t r e =
    let white = after_white-skips t in
    let rest : after_white t ≡ r = same_Some (after_white t) r e in
    record {
      lead = unnamed white.white;
      fits = white.is;
      whole = white.whole ∙ ap (λ (z : List ℕ). white.white ++ z) rest;
    }
lead_takes object t r e =
    let a = bind_some (after_byte 34 (after_white t) >>= after_quote 34 false) after_colon r e in
    let b = bind_some (after_byte 34 (after_white t)) (after_quote 34 false) a.0 a.1 in
    let c = bind_some (after_byte 58 (after_white a.0)) (λ r. Some (after_white r)) r a.2 in
    let before = after_white-skips t in
    let q = after_quote-takes 34 false b.0 a.0 b.2 in
    let between = after_white-skips a.0 in
    let last = after_white-skips c.0 in
    let rest : after_white c.0 ≡ r = same_Some (after_white c.0) r c.2 in
    let first = after_byte_takes 34 (after_white t) b.0 b.1 in
    let colon = after_byte_takes 58 (after_white a.0) c.0 c.1 in
    record {
      lead = keyed before.white q.inner between.white last.white;
      fits = (before.is, q.is, between.is, last.is);
      whole = before.whole
          ∙ ap (λ (z : List ℕ). before.white ++ z) (first
          ∙ ap (λ (z : List ℕ). 34 ∷ z) (q.whole
          ∙ ap (λ (z : List ℕ). q.inner ++ 34 ∷ z) (between.whole
          ∙ ap (λ (z : List ℕ). between.white ++ z) (colon
          ∙ ap (λ (z : List ℕ). 58 ∷ z) (last.whole ∙ ap (λ (z : List ℕ). last.white ++ z) rest)))))
          ∙ lead_regroup before.white q.inner between.white last.white r;
    }

-- ---- where a literal is expected

pub record TakesHollow (t r : List ℕ) : Type 0 where
  pub kind : Bracket
  pub white : List ℕ
  pub is : IsWhite white
  pub whole : t ≡ opener kind ∷ (white ++ closer kind ∷ r)

pub record TakesOpening (k : Bracket) (t r : List ℕ) : Type 0 where
  pub lead : Lead
  pub fits : IsLead k lead
  pub whole : t ≡ opener k ∷ (spelled_lead lead ++ r)

abbrev pub ValueReflects : Bool → List ℕ → Lexeme → Type 0
ValueReflects inside t (unbracketed in_range r) = TakesAtom inside in_range t r
ValueReflects inside t (empty_brackets r) = TakesHollow t r
ValueReflects inside t (opening_bracket k r) = TakesOpening k t r
ValueReflects inside t (another_entry r) = ⊥
ValueReflects inside t (closing_bracket r) = ⊥
ValueReflects inside t literal_end = ⊥
ValueReflects inside t no_token = Unit {0}

bracket_reflects : (inside : Bool) (k : Bracket) (t u : List ℕ) → t ≡ opener k ∷ u → ValueReflects inside t (bracket_token k (after_white u))
unfolding bracket_token
bracket_reflects inside k t u first = on (after_byte (closer k) (after_white u)) refl (after_lead k (after_white u)) refl
  where
    on : (o : Option (List ℕ)) → after_byte (closer k) (after_white u) ≡ o → (p : Option (List ℕ)) → after_lead k (after_white u) ≡ p → ValueReflects inside t (with_or o empty_brackets (with_or p (opening_bracket k) no_token))
    on (Some r) e p f =
        let white = after_white-skips u in
        let shut = after_byte_takes (closer k) (after_white u) r e in
        record {
          kind = k;
          white = white.white;
          is = white.is;
          whole = first ∙ ap (λ (z : List ℕ). opener k ∷ z) (white.whole ∙ ap (λ (z : List ℕ). white.white ++ z) shut);
        }
    on None e (Some r) f =
        let lead = lead_takes k u r f in
        record { lead = lead.lead; fits = lead.fits; whole = first ∙ ap (λ (z : List ℕ). opener k ∷ z) lead.whole }
    on None e None f = tt

pub value_reflects : (inside : Bool) (t : List ℕ) → ValueReflects inside t (value_token inside t)
unfolding value_token
value_reflects inside t = on (after_byte 91 t) refl (after_byte 123 t) refl (unbracketed_at inside t) refl
  where
    on : (o : Option (List ℕ)) → after_byte 91 t ≡ o → (p : Option (List ℕ)) → after_byte 123 t ≡ p → (q : Option (List ℕ)) → unbracketed_at inside t ≡ q
        → ValueReflects inside t (with_or o (λ r. bracket_token array (after_white r)) (with_or p (λ r. bracket_token object (after_white r)) (with_or q (unbracketed (in_range_at t)) no_token)))
    on (Some r) e p f q g = bracket_reflects inside array t r (after_byte_takes 91 t r e)
    on None e (Some r) f q g = bracket_reflects inside object t r (after_byte_takes 123 t r f)
    on None e None f (Some r) g = atom_takes inside t r g
    on None e None f None g = tt

-- ---- after an entry

pub record TakesNext (k : Bracket) (t r : List ℕ) : Type 0 where
  pub white : List ℕ
  pub is : IsWhite white
  pub lead : Lead
  pub fits : IsLead k lead
  pub whole : t ≡ white ++ 44 ∷ (spelled_lead lead ++ r)

pub record TakesShutting (k : Bracket) (t r : List ℕ) : Type 0 where
  pub white : List ℕ
  pub is : IsWhite white
  pub whole : t ≡ white ++ closer k ∷ r

abbrev pub EntryReflects : Bracket → List ℕ → Lexeme → Type 0
EntryReflects k t (unbracketed in_range r) = ⊥
EntryReflects k t (empty_brackets r) = ⊥
EntryReflects k t (opening_bracket j r) = ⊥
EntryReflects k t (another_entry r) = TakesNext k t r
EntryReflects k t (closing_bracket r) = TakesShutting k t r
EntryReflects k t literal_end = ⊥
EntryReflects k t no_token = Unit {0}

abbrev comma_token : Bracket → List ℕ → Lexeme
comma_token k t = with_or (after_lead k (after_white t)) another_entry no_token

comma_reflects : (k : Bracket) (t u : List ℕ) → after_white t ≡ 44 ∷ u → EntryReflects k t (comma_token k u)
comma_reflects k t u first = on (after_lead k (after_white u)) refl
  where
    on : (o : Option (List ℕ)) → after_lead k (after_white u) ≡ o → EntryReflects k t (with_or o another_entry no_token)
    on (Some r) e =
        let white = after_white-skips t in
        let lead = lead_takes k u r e in
        record {
          white = white.white;
          is = white.is;
          lead = lead.lead;
          fits = lead.fits;
          whole = white.whole ∙ ap (λ (z : List ℕ). white.white ++ z) (first ∙ ap (λ (z : List ℕ). 44 ∷ z) lead.whole);
        }
    on None e = tt

pub entry_reflects : (k : Bracket) (t : List ℕ) → EntryReflects k t (entry_token k (after_white t))
unfolding entry_token
entry_reflects k t = on (after_byte 44 (after_white t)) refl (after_byte (closer k) (after_white t)) refl
  where
    on : (o : Option (List ℕ)) → after_byte 44 (after_white t) ≡ o → (p : Option (List ℕ)) → after_byte (closer k) (after_white t) ≡ p → EntryReflects k t (with_or o (comma_token k) (with_or p closing_bracket no_token))
    on (Some r) e p f = comma_reflects k t r (after_byte_takes 44 (after_white t) r e)
    on None e (Some r) f =
        let white = after_white-skips t in
        let shut = after_byte_takes (closer k) (after_white t) r f in
        record { white = white.white; is = white.is; whole = white.whole ∙ ap (λ (z : List ℕ). white.white ++ z) shut }
    on None e None f = tt

-- ---- how far a token goes

abbrev pub left_of : Lexeme → Option (List ℕ)
left_of (unbracketed in_range r) = Some r
left_of (empty_brackets r) = Some r
left_of (opening_bracket k r) = Some r
left_of (another_entry r) = Some r
left_of (closing_bracket r) = Some r
left_of literal_end = None
left_of no_token = None

pub record Shorter (t r : List ℕ) : Type 0 where
  pub prefix : List ℕ
  pub whole : t ≡ prefix ++ r
  pub shorter : length r < length t

pub value_shorter : (inside : Bool) (t r : List ℕ) (token : Lexeme) → ValueReflects inside t token → left_of token ≡ Some r → Shorter t r
value_shorter inside t r (unbracketed in_range q) h e = subst (Shorter t) (same_Some q r e) (record { prefix = spelled_literal h.unbracketed; whole = h.whole; shorter = h.shorter })
value_shorter inside t r (empty_brackets q) h e =
    let long : length t ≡ suc (length h.white + suc (length q)) = ap length h.whole ∙ omega (arith, length-append h.white (closer h.kind ∷ q)) in
    subst (Shorter t) (same_Some q r e) (record {
      prefix = opener h.kind ∷ (h.white ++ closer h.kind ∷ []);
      whole = h.whole ∙ ap (λ (z : List ℕ). opener h.kind ∷ z) (sym (append_assoc h.white (closer h.kind ∷ []) q));
      shorter = omega arith;
    })
value_shorter inside t r (opening_bracket k q) h e =
    let long : length t ≡ suc (length (spelled_lead h.lead) + length q) = ap length h.whole ∙ omega (arith, length-append (spelled_lead h.lead) q) in
    subst (Shorter t) (same_Some q r e) (record { prefix = opener k ∷ spelled_lead h.lead; whole = h.whole; shorter = omega arith })
value_shorter inside t r (another_entry q) h e = absurd h
value_shorter inside t r (closing_bracket q) h e = absurd h
value_shorter inside t r literal_end h e = absurd h
value_shorter inside t r no_token h e = absurd cc

pub entry_shorter : (k : Bracket) (t r : List ℕ) (token : Lexeme) → EntryReflects k t token → left_of token ≡ Some r → Shorter t r
entry_shorter k t r (unbracketed in_range q) h e = absurd h
entry_shorter k t r (empty_brackets q) h e = absurd h
entry_shorter k t r (opening_bracket j q) h e = absurd h
entry_shorter k t r (another_entry q) h e =
    let long : length t ≡ length h.white + suc (length (spelled_lead h.lead) + length q) = ap length h.whole ∙ omega (arith, length-append h.white (44 ∷ (spelled_lead h.lead ++ q)), length-append (spelled_lead h.lead) q) in
    subst (Shorter t) (same_Some q r e) (record {
      prefix = h.white ++ 44 ∷ spelled_lead h.lead;
      whole = h.whole ∙ sym (append_assoc h.white (44 ∷ spelled_lead h.lead) q);
      shorter = omega arith;
    })
entry_shorter k t r (closing_bracket q) h e =
    let long : length t ≡ length h.white + suc (length q) = ap length h.whole ∙ omega (arith, length-append h.white (closer k ∷ q)) in
    subst (Shorter t) (same_Some q r e) (record {
      prefix = h.white ++ closer k ∷ [];
      whole = h.whole ∙ sym (append_assoc h.white (closer k ∷ []) q);
      shorter = omega arith;
    })
entry_shorter k t r literal_end h e = absurd h
entry_shorter k t r no_token h e = absurd cc
