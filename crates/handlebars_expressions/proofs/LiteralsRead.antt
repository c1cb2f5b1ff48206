-- What the steps read is spelled as a literal.
use Rattle.std.proofs.Common.{is_some, ◌≡◌, ℕ, suc, Bool, true, List, [], ◌∷◌, ◌++◌, length, refl, sym, ap, subst, ◌∙◌, append_assoc}
use Rattle.handlebars_base.specs.Texts.{IsWhite}
use Rattle.handlebars_base.specs.Bytes.{after_white}
use Rattle.handlebars_expressions.specs.Runs.{goes, ends}
use Rattle.handlebars_expressions.specs.Literal.{Bracket, opener, closer, spelled_lead, Literal, quoted, single_quoted, number, word, empty, filled, Entries, closing, another, spelled_literal, spelled_entries, IsLiteral, is_element, AreEntries, is_in_range, numbers_in_range}
use Rattle.handlebars_expressions.specs.LiteralReading.{Lexeme, unbracketed, empty_brackets, opening_bracket, another_entry, closing_bracket, literal_end, no_token, value_token, entry_token, LiteralState, ahead, after, innermost, StepFinding, opened_brackets, unbracketed_read, taken, literal_step}
use Rattle.handlebars_expressions.proofs.Stepping.{goes-parts, StepsTo, last, onward}
use Rattle.handlebars_expressions.proofs.Tokens.{is_flat, ValueReflects, value_reflects, EntryReflects, entry_reflects}

-- ---- what the steps find of a literal

abbrev mutual
  pub heights : ℕ → Literal → List StepFinding
  heights n (quoted t) = opened_brackets 0 ∷ []
  heights n (single_quoted t) = opened_brackets 0 ∷ []
  heights n (number t) = unbracketed_read (is_in_range t) ∷ []
  heights n (word t) = opened_brackets 0 ∷ []
  heights n (empty k w) = opened_brackets (suc n) ∷ []
  heights n (filled k lead l w more) = opened_brackets (suc n) ∷ (heights (suc n) l ++ entry_heights (suc n) more)

  pub entry_heights : ℕ → Entries → List StepFinding
  entry_heights n closing = opened_brackets 0 ∷ []
  entry_heights n (another lead l w more) = opened_brackets 0 ∷ (heights n l ++ entry_heights n more)

flat_heights : (n : ℕ) (l : Literal) → is_flat l ≡ true → heights n l ≡ unbracketed_read (numbers_in_range l) ∷ []
flat_heights n (quoted t) flat = refl
flat_heights n (single_quoted t) flat = refl
flat_heights n (number t) flat = refl
flat_heights n (word t) flat = refl
flat_heights n (empty k w) flat = absurd cc
flat_heights n (filled k lead l w more) flat = absurd cc

-- ---- what is left to be read

-- these brackets are still to be closed, each after whitespace and more entries
abbrev pub ClosesBrackets : List Bracket → List ℕ → List StepFinding → List ℕ → Type 0
ClosesBrackets [] t xs e = (t ≡ e) × (xs ≡ [])
ClosesBrackets (k ∷ ks) t xs e = (w : List ℕ) × (more : Entries) × (t' : List ℕ) × (ys : List StepFinding) × IsWhite w × AreEntries k more
    × (t ≡ w ++ (spelled_entries k more ++ t')) × (xs ≡ entry_heights (suc (length ks)) more ++ ys) × ClosesBrackets ks t' ys e

pub record LiteralThen (ks : List Bracket) (t : List ℕ) (xs : List StepFinding) (e : List ℕ) : Type 0 where
  pub literal : Literal
  pub rest : List ℕ
  pub others : List StepFinding
  pub fits : IsLiteral literal
  pub element : is_some (innermost ks) ≡ true → is_element literal ≡ true
  pub whole : t ≡ spelled_literal literal ++ rest
  pub found : xs ≡ heights (length ks) literal ++ others
  pub closes : ClosesBrackets ks rest others e

abbrev pub Spelled : LiteralState → List ℕ → List StepFinding → List ℕ → Type 0
Spelled (ahead ks) t xs e = LiteralThen ks t xs e
Spelled (after ks) t xs e = ClosesBrackets ks t xs e

pub regroup : (w a v b r : List ℕ) → w ++ (a ++ (v ++ (b ++ r))) ≡ (w ++ (a ++ (v ++ b))) ++ r
regroup w a v b r = simp append_assoc

-- what follows a step, from what follows where it leads
spelled_back : (x y : StepFinding) (s r : LiteralState) (t u : List ℕ) (xs : List StepFinding) (e : List ℕ) → goes x s t ≡ goes y r u → Spelled r u xs e → Spelled s t xs e
spelled_back x y s r t u xs e is h =
    let same = goes-parts x y s r t u is in
    subst (λ (z : LiteralState). Spelled z t xs e) (sym same.states) (subst (λ (z : List ℕ). Spelled r z xs e) (sym same.lefts) h)

found_back : (x y : StepFinding) (s r q : LiteralState) (t u v : List ℕ) (xs : List StepFinding) (e : List ℕ) → goes x s t ≡ goes y r u → Spelled q v (x ∷ xs) e → Spelled q v (y ∷ xs) e
found_back x y s r q t u v xs e is h = subst (λ (z : StepFinding). Spelled q v (z ∷ xs) e) (goes-parts x y s r t u is).events h

-- ---- a step

value_then : (ks : List Bracket) (t : List ℕ) (token : Lexeme) (x : StepFinding) (s' : LiteralState) (t' : List ℕ) (xs : List StepFinding) (e : List ℕ) → ValueReflects (is_some (innermost ks)) t token → taken ks token ≡ goes x s' t' → Spelled s' t' xs e → LiteralThen ks t (x ∷ xs) e
value_then ks t (unbracketed in_range r) x s' t' xs e h is then_read =
    let c : ClosesBrackets ks r xs e = spelled_back (unbracketed_read in_range) x (after ks) s' r t' xs e is then_read in
    found_back (unbracketed_read in_range) x (after ks) s' (ahead ks) r t' t xs e is (record {
      literal = h.unbracketed;
      rest = r;
      others = xs;
      fits = h.fits;
      element = h.element;
      whole = h.whole;
      found = ap (λ (z : List StepFinding). z ++ xs) (ap (λ (z : Bool). unbracketed_read z ∷ []) (sym h.within_range) ∙ sym (flat_heights (length ks) h.unbracketed h.flat));
      closes = c;
    })
value_then ks t (empty_brackets r) x s' t' xs e h is then_read =
    let c : ClosesBrackets ks r xs e = spelled_back (opened_brackets (suc (length ks))) x (after ks) s' r t' xs e is then_read in
    found_back (opened_brackets (suc (length ks))) x (after ks) s' (ahead ks) r t' t xs e is (record {
      literal = empty h.kind h.white;
      rest = r;
      others = xs;
      fits = h.is;
      element = λ inner. refl;
      whole = h.whole ∙ ap (λ (z : List ℕ). opener h.kind ∷ z) (sym (append_assoc h.white (closer h.kind ∷ []) r));
      found = refl;
      closes = c;
    })
value_then ks t (opening_bracket k r) x s' t' xs e h is then_read =
    let n : ℕ = suc (length ks) in
    let inner : LiteralThen (k ∷ ks) r xs e = spelled_back (opened_brackets (suc (length ks))) x (ahead (k ∷ ks)) s' r t' xs e is then_read in
    let c = inner.closes in
    found_back (opened_brackets (suc (length ks))) x (ahead (k ∷ ks)) s' (ahead ks) r t' t xs e is (record {
      literal = filled k h.lead inner.literal c.0 c.1;
      rest = c.2;
      others = c.3;
      fits = (h.fits, inner.element refl, inner.fits, c.4, c.5);
      element = λ inner. refl;
      whole = h.whole ∙ ap (λ (z : List ℕ). opener k ∷ z) (ap (λ (z : List ℕ). spelled_lead h.lead ++ z) (inner.whole ∙ ap (λ (z : List ℕ). spelled_literal inner.literal ++ z) c.6) ∙ regroup (spelled_lead h.lead) (spelled_literal inner.literal) c.0 (spelled_entries k c.1) c.2);
      found = ap (λ (z : List StepFinding). opened_brackets (suc (length ks)) ∷ z) (inner.found ∙ ap (λ (z : List StepFinding). heights (suc (length ks)) inner.literal ++ z) c.7 ∙ sym (append_assoc (heights (suc (length ks)) inner.literal) (entry_heights (suc (length ks)) c.1) c.3));
      closes = c.8;
    })
value_then ks t (another_entry r) x s' t' xs e h is then_read = absurd h
value_then ks t (closing_bracket r) x s' t' xs e h is then_read = absurd h
value_then ks t literal_end x s' t' xs e h is then_read = absurd h
value_then ks t no_token x s' t' xs e h is then_read = absurd cc

entry_then : (k : Bracket) (ks : List Bracket) (t : List ℕ) (token : Lexeme) (x : StepFinding) (s' : LiteralState) (t' : List ℕ) (xs : List StepFinding) (e : List ℕ) → EntryReflects k t token → taken (k ∷ ks) token ≡ goes x s' t' → Spelled s' t' xs e → ClosesBrackets (k ∷ ks) t (x ∷ xs) e
entry_then k ks t (unbracketed in_range r) x s' t' xs e h is then_read = absurd h
entry_then k ks t (empty_brackets r) x s' t' xs e h is then_read = absurd h
entry_then k ks t (opening_bracket j r) x s' t' xs e h is then_read = absurd h
entry_then k ks t (another_entry r) x s' t' xs e h is then_read =
    let inner : LiteralThen (k ∷ ks) r xs e = spelled_back (opened_brackets 0) x (ahead (k ∷ ks)) s' r t' xs e is then_read in
    let c = inner.closes in
    let inside : t ≡ h.white ++ (44 ∷ (spelled_lead h.lead ++ (spelled_literal inner.literal ++ (c.0 ++ (spelled_entries k c.1 ++ c.2))))) =
    h.whole ∙ ap (λ (z : List ℕ). h.white ++ (44 ∷ (spelled_lead h.lead ++ z))) (inner.whole ∙ ap (λ (z : List ℕ). spelled_literal inner.literal ++ z) c.6) in
    found_back (opened_brackets 0) x (ahead (k ∷ ks)) s' (after (k ∷ ks)) r t' t xs e is (
      h.white,
      another h.lead inner.literal c.0 c.1,
      c.2,
      c.3,
      h.is,
      (h.fits, inner.element refl, inner.fits, c.4, c.5),
      inside ∙ ap (λ (z : List ℕ). h.white ++ (44 ∷ z)) (regroup (spelled_lead h.lead) (spelled_literal inner.literal) c.0 (spelled_entries k c.1) c.2),
      ap (λ (z : List StepFinding). opened_brackets 0 ∷ z) (inner.found ∙ ap (λ (z : List StepFinding). heights (suc (length ks)) inner.literal ++ z) c.7 ∙ sym (append_assoc (heights (suc (length ks)) inner.literal) (entry_heights (suc (length ks)) c.1) c.3)),
      c.8,
    )
entry_then k ks t (closing_bracket r) x s' t' xs e h is then_read =
    let c : ClosesBrackets ks r xs e = spelled_back (opened_brackets 0) x (after ks) s' r t' xs e is then_read in
    found_back (opened_brackets 0) x (after ks) s' (after (k ∷ ks)) r t' t xs e is (h.white, closing, r, xs, h.is, tt, h.whole, refl, c)
entry_then k ks t literal_end x s' t' xs e h is then_read = absurd h
entry_then k ks t no_token x s' t' xs e h is then_read = absurd cc

step_then : (s : LiteralState) (t : List ℕ) (x : StepFinding) (s' : LiteralState) (t' : List ℕ) (xs : List StepFinding) (e : List ℕ) → literal_step s t ≡ goes x s' t' → Spelled s' t' xs e → Spelled s t (x ∷ xs) e
step_then (ahead ks) t x s' t' xs e is then_read = value_then ks t (value_token (is_some (innermost ks)) t) x s' t' xs e (value_reflects (is_some (innermost ks)) t) is then_read
step_then (after []) t x s' t' xs e is then_read = absurd cc
step_then (after (k ∷ ks)) t x s' t' xs e is then_read = entry_then k ks t (entry_token k (after_white t)) x s' t' xs e (entry_reflects k t) is then_read

-- ---- the end

value_ends : (ks : List Bracket) (t : List ℕ) (token : Lexeme) → ValueReflects (is_some (innermost ks)) t token → taken ks token ≡ ends → ⊥
value_ends ks t (unbracketed in_range r) h is = absurd cc
value_ends ks t (empty_brackets r) h is = absurd cc
value_ends ks t (opening_bracket k r) h is = absurd cc
value_ends ks t (another_entry r) h is = h
value_ends ks t (closing_bracket r) h is = h
value_ends ks t literal_end h is = h
value_ends ks t no_token h is = absurd cc

entry_ends : (k : Bracket) (ks : List Bracket) (t : List ℕ) (token : Lexeme) → EntryReflects k t token → taken ks token ≡ ends → ⊥
entry_ends k ks t (unbracketed in_range r) h is = h
entry_ends k ks t (empty_brackets r) h is = h
entry_ends k ks t (opening_bracket j r) h is = h
entry_ends k ks t (another_entry r) h is = absurd cc
entry_ends k ks t (closing_bracket r) h is = absurd cc
entry_ends k ks t literal_end h is = h
entry_ends k ks t no_token h is = absurd cc

end_then : (s : LiteralState) (t : List ℕ) → literal_step s t ≡ ends → Spelled s t [] t
end_then (ahead ks) t is = absurd (value_ends ks t (value_token (is_some (innermost ks)) t) (value_reflects (is_some (innermost ks)) t) is)
end_then (after []) t is = (refl, refl)
end_then (after (k ∷ ks)) t is = absurd (entry_ends k (k ∷ ks) t (entry_token k (after_white t)) (entry_reflects k t) is)

pub runs-spelled : (s : LiteralState) (t : List ℕ) (xs : List StepFinding) (e : List ℕ) → StepsTo literal_step s t xs e → Spelled s t xs e
runs-spelled s t _ _ (last is) = end_then s t is
runs-spelled s t _ _ (onward x s' t' {xs} {e} is h) = step_then s t x s' t' xs e is (runs-spelled s' t' xs e h)
