-- What is spelled as a literal is read, and a text has at most one literal at its start.
use Rattle.std.proofs.Common.{is_some, ◌≡◌, ℕ, suc, ◌+◌, ◌-◌, ◌≤◌, Bool, true, false, not, ◌&&◌, ◌||◌, List, [], ◌∷◌, ◌++◌, length, take, Some, None, refl, sym, ap, subst, ◌∙◌, append_assoc, arith, max}
use Rattle.std.specs.Prelude.{◌==◌}
use Rattle.std.proofs.lemmas.Option.{same_Some}
use Rattle.std.proofs.lemmas.Bool.{or_right}
use Rattle.handlebars_base.specs.Bytes.{is_white, after_white}
use Rattle.handlebars_base.proofs.OptionBinds.{bind_some, guard_some}
use Rattle.handlebars_base.specs.Texts.{IsWhite, starts, after_byte}
use Rattle.handlebars_base.proofs.Prefixes.{after_white-append, starts-other, starts-append, after_byte-not, after_byte-same}
use Rattle.handlebars_base.proofs.Bytes.{other_byte}
use Rattle.handlebars_base.proofs.Ends.{take-prefix}
use Rattle.handlebars_expressions.specs.Runs.{goes, read_all}
use Rattle.handlebars_expressions.specs.Literal.{is_inner, is_number, is_in_range, is_word, Bracket, array, object, opener, closer, Lead, unnamed, keyed, spelled_lead, IsLead, Literal, quoted, single_quoted, number, word, empty, filled, Entries, closing, another, spelled_literal, spelled_entries, is_element, IsLiteral, AreEntries, literal_depth, entries_depth, numbers_in_range, entries_in_range, continues_literal}
use Rattle.handlebars_expressions.specs.LiteralReading.{after_quote, after_scalar, undoubled_at, unbracketed_at, in_range_at, after_lead, Lexeme, unbracketed, empty_brackets, opening_bracket, another_entry, closing_bracket, literal_end, no_token, bracket_token, value_token, entry_token, LiteralState, ahead, after, innermost, StepFinding, opened_brackets, unbracketed_read, taken, literal_step, most, all_in_range, LiteralToken, literal_token_to, literal_at}
use Rattle.handlebars_expressions.specs.Laws.{HasLiteral, NoLiteral}
use Rattle.handlebars_expressions.proofs.Prefixes.{run_of-append, after_run-append, after_quote-append, white_goes_on}
use Rattle.handlebars_expressions.proofs.Stepping.{StepsTo, last, onward, Shortens, read_all-runs, read_all-some}
use Rattle.handlebars_expressions.proofs.Plain.{ContinuesThroughout, plain_goes_on, number_goes_on, word_goes_on, word_no_number}
use Rattle.handlebars_expressions.proofs.Tokens.{in_range_at-quote, lead_regroup, Shorter, value_shorter, value_reflects, entry_shorter, entry_reflects, left_of}
use Rattle.handlebars_expressions.proofs.LiteralsRead.{heights, entry_heights, regroup, runs-spelled}

-- ---- a step takes a byte at least

taken_left : (ks : List Bracket) (token : Lexeme) (x : StepFinding) (s' : LiteralState) (t' : List ℕ) → taken ks token ≡ goes x s' t' → left_of token ≡ Some t'
taken_left ks (unbracketed in_range r) x s' t' is = cc
taken_left ks (empty_brackets r) x s' t' is = cc
taken_left ks (opening_bracket k r) x s' t' is = cc
taken_left ks (another_entry r) x s' t' is = cc
taken_left ks (closing_bracket r) x s' t' is = cc
taken_left ks literal_end x s' t' is = absurd cc
taken_left ks no_token x s' t' is = absurd cc

pub step_shorter : (s : LiteralState) (t : List ℕ) (x : StepFinding) (s' : LiteralState) (t' : List ℕ) → literal_step s t ≡ goes x s' t' → Shorter t t'
step_shorter (ahead ks) t x s' t' is = value_shorter (is_some (innermost ks)) t t' (value_token (is_some (innermost ks)) t) (value_reflects (is_some (innermost ks)) t) (taken_left ks (value_token (is_some (innermost ks)) t) x s' t' is)
step_shorter (after []) t x s' t' is = absurd cc
step_shorter (after (k ∷ ks)) t x s' t' is = entry_shorter k t t' (entry_token k (after_white t)) (entry_reflects k t) (taken_left (k ∷ ks) (entry_token k (after_white t)) x s' t' is)

pub shortens : Shortens literal_step
shortens s t x s' t' is = (step_shorter s t x s' t' is).shorter

-- ---- first bytes

-- a literal's first byte
abbrev begins_literal : ℕ → Bool
begins_literal b = continues_literal b || (b == 34 || (b == 39 || (b == 91 || b == 123)))

pub plain_begins : (n : List ℕ) → ContinuesThroughout n → starts continues_literal n ≡ true
plain_begins [] h = absurd (omega (arith, h.some))
plain_begins (b ∷ n) h = h.all.0

goes_begins : (n : List ℕ) → starts continues_literal n ≡ true → starts begins_literal n ≡ true
goes_begins [] h = absurd cc
goes_begins (b ∷ n) h = rw h refl

literal_begins : (l : Literal) → IsLiteral l → starts begins_literal (spelled_literal l) ≡ true
literal_begins (quoted t) fits = refl
literal_begins (single_quoted t) fits = refl
literal_begins (number t) fits = goes_begins t (plain_begins t (number_goes_on t fits))
literal_begins (word t) fits = goes_begins t (plain_begins t (word_goes_on t fits))
literal_begins (empty array w) fits = refl
literal_begins (empty object w) fits = refl
literal_begins (filled array lead l w more) fits = refl
literal_begins (filled object lead l w more) fits = refl

literal_starts : (l : Literal) (rest : List ℕ) → IsLiteral l → starts begins_literal (spelled_literal l ++ rest) ≡ true
literal_starts l rest fits = starts-append begins_literal (spelled_literal l) rest (literal_begins l fits)

begins_dark : (b : ℕ) → begins_literal b ≡ true → is_white b ≡ false
begins_dark b h = rw (other_byte begins_literal 32 refl b h, other_byte begins_literal 9 refl b h, other_byte begins_literal 10 refl b h, other_byte begins_literal 13 refl b h) refl

-- a text that does not continue a literal does not do so after whitespace either
white_then : (v t : List ℕ) → IsWhite v → starts continues_literal t ≡ false → starts continues_literal (v ++ t) ≡ false
white_then [] t white h = h
white_then (b ∷ v) t white h = white_goes_on b white.0

entries_begin : (k : Bracket) (es : Entries) (rest : List ℕ) → starts continues_literal (spelled_entries k es ++ rest) ≡ false
entries_begin array closing rest = refl
entries_begin object closing rest = refl
entries_begin k (another lead l w more) rest = refl

-- ---- tokens: a literal with no brackets

pub no_mark : (c : ℕ) (t : List ℕ) → continues_literal c ≡ false → starts continues_literal t ≡ true → after_byte c t ≡ None
no_mark c t never h = after_byte-not c t (starts-other continues_literal (λ b. b == c) t (other_byte continues_literal c never) h)

atom_plain : (inside in_range : Bool) (n rest : List ℕ) → (is_number n || is_word n) ≡ true → (not (is_number n) || is_in_range n) ≡ in_range → starts continues_literal rest ≡ false → value_token inside (n ++ rest) ≡ unbracketed in_range rest
unfolding value_token unbracketed_at undoubled_at after_scalar in_range_at
atom_plain true in_range n rest fits within_range stop =
    let goes_so = plain_goes_on n fits in
    let first = starts-append continues_literal n rest (plain_begins n goes_so) in
    rw (no_mark 91 (n ++ rest) refl first, no_mark 123 (n ++ rest) refl first, no_mark 34 (n ++ rest) refl first, run_of-append n rest goes_so.all stop, after_run-append n rest goes_so.all stop, fits, within_range) refl
atom_plain false in_range n rest fits within_range stop =
    let goes_so = plain_goes_on n fits in
    let first = starts-append continues_literal n rest (plain_begins n goes_so) in
    rw (no_mark 91 (n ++ rest) refl first, no_mark 123 (n ++ rest) refl first, no_mark 34 (n ++ rest) refl first, no_mark 39 (n ++ rest) refl first, run_of-append n rest goes_so.all stop, after_run-append n rest goes_so.all stop, fits, within_range) refl

atom_quoted : (inside : Bool) (s rest : List ℕ) → is_inner 34 false s ≡ true → value_token inside (34 ∷ ((s ++ 34 ∷ []) ++ rest)) ≡ unbracketed true rest
unfolding value_token unbracketed_at
atom_quoted inside s rest fits =
    let after_it : after_quote 34 false ((s ++ 34 ∷ []) ++ rest) ≡ Some rest = ap (after_quote 34 false) (append_assoc s (34 ∷ []) rest) ∙ after_quote-append 34 false s rest fits in
    let text : List ℕ = 34 ∷ ((s ++ 34 ∷ []) ++ rest) in
    rw (after_byte-not 91 (34 ∷ ((s ++ 34 ∷ []) ++ rest)) refl, after_byte-not 123 (34 ∷ ((s ++ 34 ∷ []) ++ rest)) refl, after_byte-same 34 ((s ++ 34 ∷ []) ++ rest), after_it, sym (in_range_at-quote 34 ((s ++ 34 ∷ []) ++ rest) (34 ∷ ((s ++ 34 ∷ []) ++ rest)) refl refl)) refl

atom_single : (s rest : List ℕ) → is_inner 39 false s ≡ true → value_token false (39 ∷ ((s ++ 39 ∷ []) ++ rest)) ≡ unbracketed true rest
unfolding value_token unbracketed_at undoubled_at
atom_single s rest fits =
    let after_it : after_quote 39 false ((s ++ 39 ∷ []) ++ rest) ≡ Some rest = ap (after_quote 39 false) (append_assoc s (39 ∷ []) rest) ∙ after_quote-append 39 false s rest fits in
    rw (after_byte-not 91 (39 ∷ ((s ++ 39 ∷ []) ++ rest)) refl, after_byte-not 123 (39 ∷ ((s ++ 39 ∷ []) ++ rest)) refl, after_byte-not 34 (39 ∷ ((s ++ 39 ∷ []) ++ rest)) refl, after_byte-same 39 ((s ++ 39 ∷ []) ++ rest), after_it, sym (in_range_at-quote 39 ((s ++ 39 ∷ []) ++ rest) (39 ∷ ((s ++ 39 ∷ []) ++ rest)) refl refl)) refl

-- ---- tokens: brackets

value_bracket : (inside : Bool) (k : Bracket) (t : List ℕ) → value_token inside (opener k ∷ t) ≡ bracket_token k (after_white t)
unfolding value_token
value_bracket inside array t = rw (after_byte-same 91 t) refl
value_bracket inside object t = rw (after_byte-not 91 (123 ∷ t) refl, after_byte-same 123 t) refl

token_hollow : (k : Bracket) (w rest : List ℕ) → IsWhite w → bracket_token k (after_white ((w ++ closer k ∷ []) ++ rest)) ≡ empty_brackets rest
unfolding bracket_token
token_hollow array w rest white =
    let dark : after_white ((w ++ 93 ∷ []) ++ rest) ≡ 93 ∷ rest = ap after_white (append_assoc w (93 ∷ []) rest) ∙ after_white-append w (93 ∷ rest) white refl in
    rw (dark, after_byte-same 93 rest) refl
token_hollow object w rest white =
    let dark : after_white ((w ++ 125 ∷ []) ++ rest) ≡ 125 ∷ rest = ap after_white (append_assoc w (125 ∷ []) rest) ∙ after_white-append w (125 ∷ rest) white refl in
    rw (dark, after_byte-same 125 rest) refl

-- what leads to an entry is read, and no closing bracket is there
record ReadsLead (k : Bracket) (u t : List ℕ) : Type 0 where
  leads : after_lead k u ≡ Some t
  no_closer : after_byte (closer k) u ≡ None

reads_key : (key u v t : List ℕ) → is_inner 34 false key ≡ true → IsWhite u → IsWhite v → starts is_white t ≡ false → after_lead object (34 ∷ (key ++ 34 ∷ (u ++ 58 ∷ (v ++ t)))) ≡ Some t
reads_key key u v t fits white white' dark =
    rw (after_byte-same 34 (key ++ 34 ∷ (u ++ 58 ∷ (v ++ t))), after_quote-append 34 false key (u ++ 58 ∷ (v ++ t)) fits, after_white-append u (58 ∷ (v ++ t)) white refl, after_byte-same 58 (v ++ t), after_white-append v t white' dark) refl

reads_lead : (k : Bracket) (lead : Lead) (t : List ℕ) → IsLead k lead → starts begins_literal t ≡ true → ReadsLead k (after_white (spelled_lead lead ++ t)) t
reads_lead array (unnamed w) t fits begins =
    let dark = after_white-append w t fits (starts-other begins_literal is_white t begins_dark begins) in
    let no_shut = after_byte-not 93 t (starts-other begins_literal (λ b. b == 93) t (other_byte begins_literal 93 refl) begins) in
    record { leads = ap (λ (z : List ℕ). Some z) dark; no_closer = ap (after_byte 93) dark ∙ no_shut }
reads_lead array (keyed w key u v) t fits begins = absurd fits
reads_lead object (unnamed w) t fits begins = absurd fits
reads_lead object (keyed w key u v) t fits begins =
    let inner : List ℕ = 34 ∷ (key ++ 34 ∷ (u ++ 58 ∷ (v ++ t))) in
    let dark : after_white ((w ++ 34 ∷ (key ++ 34 ∷ (u ++ 58 ∷ v))) ++ t) ≡ 34 ∷ (key ++ 34 ∷ (u ++ 58 ∷ (v ++ t))) =
    ap after_white (sym (lead_regroup w key u v t)) ∙ after_white-append w (34 ∷ (key ++ 34 ∷ (u ++ 58 ∷ (v ++ t)))) fits.0 refl in
    record {
      leads = ap (after_lead object) dark ∙ reads_key key u v t fits.1 fits.2 fits.3 (starts-other begins_literal is_white t begins_dark begins);
      no_closer = ap (after_byte 125) dark ∙ after_byte-not 125 (34 ∷ (key ++ 34 ∷ (u ++ 58 ∷ (v ++ t)))) refl;
    }

token_opening : (k : Bracket) (lead : Lead) (t : List ℕ) → IsLead k lead → starts begins_literal t ≡ true → bracket_token k (after_white (spelled_lead lead ++ t)) ≡ opening_bracket k t
unfolding bracket_token
token_opening k lead t fits begins =
    let h = reads_lead k lead t fits begins in
    rw (h.no_closer, h.leads) refl

token_next : (k : Bracket) (v : List ℕ) (lead : Lead) (t : List ℕ) → IsWhite v → IsLead k lead → starts begins_literal t ≡ true → entry_token k (after_white (v ++ 44 ∷ (spelled_lead lead ++ t))) ≡ another_entry t
unfolding entry_token
token_next k v lead t white fits begins =
    let h = reads_lead k lead t fits begins in
    rw (after_white-append v (44 ∷ (spelled_lead lead ++ t)) white refl, after_byte-same 44 (spelled_lead lead ++ t), h.leads) refl

token_shutting : (k : Bracket) (v rest : List ℕ) → IsWhite v → entry_token k (after_white (v ++ closer k ∷ rest)) ≡ closing_bracket rest
unfolding entry_token
token_shutting array v rest white = rw (after_white-append v (93 ∷ rest) white refl, after_byte-not 44 (93 ∷ rest) refl, after_byte-same 93 rest) refl
token_shutting object v rest white = rw (after_white-append v (125 ∷ rest) white refl, after_byte-not 44 (125 ∷ rest) refl, after_byte-same 125 rest) refl

-- outside brackets
atom_single_in : (ks : List Bracket) (s rest : List ℕ) → is_inner 39 false s ≡ true → (is_some (innermost ks) ≡ true → false ≡ true) → value_token (is_some (innermost ks)) (39 ∷ ((s ++ 39 ∷ []) ++ rest)) ≡ unbracketed true rest
atom_single_in [] s rest fits element = atom_single s rest fits
atom_single_in (k ∷ ks) s rest fits element = let never : false ≡ true = element refl in absurd cc

-- ---- whole literals

mutual
  literal_runs : (l : Literal) (ks : List Bracket) (rest : List ℕ) (xs : List StepFinding) (e : List ℕ) → IsLiteral l → (is_some (innermost ks) ≡ true → is_element l ≡ true) → starts continues_literal rest ≡ false → StepsTo literal_step (after ks) rest xs e → StepsTo literal_step (ahead ks) (spelled_literal l ++ rest) (heights (length ks) l ++ xs) e
  literal_runs (quoted s) ks rest xs e fits element stop h = onward (opened_brackets 0) (after ks) rest (ap (taken ks) (atom_quoted (is_some (innermost ks)) s rest fits)) h
  literal_runs (single_quoted s) ks rest xs e fits element stop h = onward (opened_brackets 0) (after ks) rest (ap (taken ks) (atom_single_in ks s rest fits element)) h
  literal_runs (number t) ks rest xs e fits element stop h = onward (unbracketed_read (is_in_range t)) (after ks) rest (ap (taken ks) (atom_plain (is_some (innermost ks)) (is_in_range t) t rest (rw fits refl) (rw fits refl) stop)) h
  literal_runs (word t) ks rest xs e fits element stop h = onward (opened_brackets 0) (after ks) rest (ap (taken ks) (atom_plain (is_some (innermost ks)) true t rest (rw fits (or_right (is_number t) true refl)) (rw (word_no_number t fits) refl) stop)) h
  literal_runs (empty k w) ks rest xs e fits element stop h = onward (opened_brackets (suc (length ks))) (after ks) rest (ap (taken ks) (value_bracket (is_some (innermost ks)) k ((w ++ closer k ∷ []) ++ rest) ∙ token_hollow k w rest fits)) h
  literal_runs (filled k lead l v more) ks rest xs e fits element stop h =
      let follow = v ++ (spelled_entries k more ++ rest) in
      let after_first_mark = entries_run more k ks v rest xs e fits.3 fits.4 h in
      let first = literal_runs l (k ∷ ks) follow (entry_heights (suc (length ks)) more ++ xs) e fits.2 (λ inner. fits.1) (white_then v (spelled_entries k more ++ rest) fits.3 (entries_begin k more rest)) after_first_mark in
      let begin : literal_step (ahead ks) (opener k ∷ (spelled_lead lead ++ (spelled_literal l ++ follow))) ≡ goes (opened_brackets (suc (length ks))) (ahead (k ∷ ks)) (spelled_literal l ++ follow) =
      ap (taken ks) (value_bracket (is_some (innermost ks)) k (spelled_lead lead ++ (spelled_literal l ++ follow)) ∙ token_opening k lead (spelled_literal l ++ follow) fits.0 (literal_starts l follow fits.2)) in
      let whole = onward (opened_brackets (suc (length ks))) (ahead (k ∷ ks)) (spelled_literal l ++ follow) begin first in
      subst (λ (z : List ℕ). StepsTo literal_step (ahead ks) z (heights (length ks) (filled k lead l v more) ++ xs) e) (ap (λ (z : List ℕ). opener k ∷ z) (regroup (spelled_lead lead) (spelled_literal l) v (spelled_entries k more) rest))
      (subst (λ (z : List StepFinding). StepsTo literal_step (ahead ks) (opener k ∷ (spelled_lead lead ++ (spelled_literal l ++ follow))) (opened_brackets (suc (length ks)) ∷ z) e) (sym (append_assoc (heights (suc (length ks)) l) (entry_heights (suc (length ks)) more) xs)) whole)

  entries_run : (es : Entries) (k : Bracket) (ks : List Bracket) (v rest : List ℕ) (xs : List StepFinding) (e : List ℕ) → IsWhite v → AreEntries k es → StepsTo literal_step (after ks) rest xs e → StepsTo literal_step (after (k ∷ ks)) (v ++ (spelled_entries k es ++ rest)) (entry_heights (suc (length ks)) es ++ xs) e
  entries_run closing k ks v rest xs e white fits h = onward (opened_brackets 0) (after ks) rest (ap (taken (k ∷ ks)) (token_shutting k v rest white)) h
  entries_run (another lead l u es) k ks v rest xs e white fits h =
      let follow = u ++ (spelled_entries k es ++ rest) in
      let after_first_mark = entries_run es k ks u rest xs e fits.3 fits.4 h in
      let first = literal_runs l (k ∷ ks) follow (entry_heights (suc (length ks)) es ++ xs) e fits.2 (λ inner. fits.1) (white_then u (spelled_entries k es ++ rest) fits.3 (entries_begin k es rest)) after_first_mark in
      let whole = onward (opened_brackets 0) (ahead (k ∷ ks)) (spelled_literal l ++ follow) (ap (taken (k ∷ ks)) (token_next k v lead (spelled_literal l ++ follow) white fits.0 (literal_starts l follow fits.2))) first in
      subst (λ (z : List ℕ). StepsTo literal_step (after (k ∷ ks)) (v ++ 44 ∷ z) (entry_heights (suc (length ks)) (another lead l u es) ++ xs) e) (regroup (spelled_lead lead) (spelled_literal l) u (spelled_entries k es) rest)
      (subst (λ (z : List StepFinding). StepsTo literal_step (after (k ∷ ks)) (v ++ 44 ∷ (spelled_lead lead ++ (spelled_literal l ++ follow))) (opened_brackets 0 ∷ z) e) (sym (append_assoc (heights (suc (length ks)) l) (entry_heights (suc (length ks)) es) xs)) whole)

-- ---- how deep it is

mutual
  most-literal : (l : Literal) (n m : ℕ) (xs : List StepFinding) → n ≤ m → most m (heights n l ++ xs) ≡ most (max m (n + literal_depth l)) xs
  most-literal (quoted t) n m xs le = ap (λ (z : ℕ). most z xs) (let e : max m 0 ≡ max m (n + 0) = omega arith in e)
  most-literal (single_quoted t) n m xs le = ap (λ (z : ℕ). most z xs) (let e : max m 0 ≡ max m (n + 0) = omega arith in e)
  most-literal (number t) n m xs le = ap (λ (z : ℕ). most z xs) (let e : max m 0 ≡ max m (n + 0) = omega arith in e)
  most-literal (word t) n m xs le = ap (λ (z : ℕ). most z xs) (let e : max m 0 ≡ max m (n + 0) = omega arith in e)
  most-literal (empty k w) n m xs le = ap (λ (z : ℕ). most (max m z) xs) (let e : suc n ≡ n + 1 = omega arith in e)
  most-literal (filled k lead l v more) n m xs le =
      let e : max (max (max m (suc n)) (suc n + literal_depth l)) (suc n + entries_depth more) ≡ max m (n + suc (max (literal_depth l) (entries_depth more))) = omega arith in
      ap (most (max m (suc n))) (append_assoc (heights (suc n) l) (entry_heights (suc n) more) xs)
      ∙ most-literal l (suc n) (max m (suc n)) (entry_heights (suc n) more ++ xs) (omega arith)
      ∙ most-entries more (suc n) (max (max m (suc n)) (suc n + literal_depth l)) xs (omega arith)
      ∙ ap (λ (z : ℕ). most z xs) e

  most-entries : (es : Entries) (n m : ℕ) (xs : List StepFinding) → n ≤ m → most m (entry_heights n es ++ xs) ≡ most (max m (n + entries_depth es)) xs
  most-entries closing n m xs le = ap (λ (z : ℕ). most z xs) (let e : max m 0 ≡ max m (n + 0) = omega arith in e)
  most-entries (another lead l v es) n m xs le =
      let e : max (max m (n + literal_depth l)) (n + entries_depth es) ≡ max m (n + max (literal_depth l) (entries_depth es)) = omega arith in
      let at_most : max m 0 ≡ m = omega arith in
      ap (λ (z : List StepFinding). most (max m 0) z) (append_assoc (heights n l) (entry_heights n es) xs)
      ∙ ap (λ (z : ℕ). most z (heights n l ++ (entry_heights n es ++ xs))) at_most
      ∙ most-literal l n m (entry_heights n es ++ xs) le
      ∙ most-entries es n (max m (n + literal_depth l)) xs (omega arith)
      ∙ ap (λ (z : ℕ). most z xs) e

most-whole : (l : Literal) → most 0 (heights 0 l ++ []) ≡ literal_depth l
most-whole l = most-literal l 0 0 [] (omega arith) ∙ (let e : max 0 (0 + literal_depth l) ≡ literal_depth l = omega arith in e)

-- ---- whether its numbers are in range

and_assoc : (a b c : Bool) → ((a && b) && c) ≡ (a && (b && c))
and_assoc true b c = refl
and_assoc false b c = refl

pub and_true : (a : Bool) → (a && true) ≡ a
and_true true = refl
and_true false = refl

regroup_in_range : (b c d : Bool) → (((b && true) && c) && d) ≡ (b && (c && d))
regroup_in_range b c d = rw (and_true b, and_assoc b c d) refl

mutual
  in_range-literal : (l : Literal) (n : ℕ) (b : Bool) (xs : List StepFinding) → all_in_range b (heights n l ++ xs) ≡ all_in_range (b && numbers_in_range l) xs
  in_range-literal (quoted t) n b xs = refl
  in_range-literal (single_quoted t) n b xs = refl
  in_range-literal (number t) n b xs = refl
  in_range-literal (word t) n b xs = refl
  in_range-literal (empty k w) n b xs = refl
  in_range-literal (filled k lead l w more) n b xs =
      ap (all_in_range (b && true)) (append_assoc (heights (suc n) l) (entry_heights (suc n) more) xs)
      ∙ in_range-literal l (suc n) (b && true) (entry_heights (suc n) more ++ xs)
      ∙ in_range-entries more (suc n) ((b && true) && numbers_in_range l) xs
      ∙ ap (λ (z : Bool). all_in_range z xs) (regroup_in_range b (numbers_in_range l) (entries_in_range more))

  in_range-entries : (es : Entries) (n : ℕ) (b : Bool) (xs : List StepFinding) → all_in_range b (entry_heights n es ++ xs) ≡ all_in_range (b && entries_in_range es) xs
  in_range-entries closing n b xs = refl
  in_range-entries (another lead l v es) n b xs =
      ap (all_in_range (b && true)) (append_assoc (heights n l) (entry_heights n es) xs)
      ∙ in_range-literal l n (b && true) (entry_heights n es ++ xs)
      ∙ in_range-entries es n ((b && true) && numbers_in_range l) xs
      ∙ ap (λ (z : Bool). all_in_range z xs) (regroup_in_range b (numbers_in_range l) (entries_in_range es))

in_range-whole : (l : Literal) → all_in_range true (heights 0 l ++ []) ≡ numbers_in_range l
in_range-whole l = in_range-literal l 0 true []

-- ---- the literal at the start

pub literal_at-some : (t : List ℕ) (f : LiteralToken) → literal_at t ≡ Some f → HasLiteral t f
unfolding literal_at
literal_at-some t f e =
    let b = bind_some (read_all literal_step (length t + 1) (ahead []) t) (λ r. literal_token_to t r.1 (most 0 r.0) (all_in_range true r.0)) f e in
    let h = runs-spelled (ahead []) t b.0.0 b.0.1 (read_all-runs literal_step (length t + 1) (ahead []) t b.0 b.1) in
    let made : LiteralToken = record { raw = take (length t - length b.0.1) t; rest = b.0.1; depth = most 0 b.0.0; in_range = all_in_range true b.0.0 } in
    let g = guard_some (starts continues_literal b.0.1) made f b.2 in
    let whole : t ≡ spelled_literal h.literal ++ b.0.1 = h.whole ∙ ap (λ (z : List ℕ). spelled_literal h.literal ++ z) h.closes.0 in
    let found : b.0.0 ≡ heights 0 h.literal ++ [] = h.found ∙ ap (λ (z : List StepFinding). heights 0 h.literal ++ z) h.closes.1 in
    let depth : most 0 b.0.0 ≡ literal_depth h.literal = ap (most 0) found ∙ most-whole h.literal in
    let in_range : all_in_range true b.0.0 ≡ numbers_in_range h.literal = ap (all_in_range true) found ∙ in_range-whole h.literal in
    subst (HasLiteral t) g.1 (record {
      literal = h.literal;
      is = record { whole = whole; fits = h.fits; stops = g.0 };
      raw = take-prefix t (spelled_literal h.literal) b.0.1 whole;
      depth = depth;
      in_range = in_range;
    })

pub literal_at-is : (t : List ℕ) (f : LiteralToken) → HasLiteral t f → literal_at t ≡ Some f
unfolding literal_at
literal_at-is t f h =
    let runs : StepsTo literal_step (ahead []) (spelled_literal h.literal ++ f.rest) (heights 0 h.literal ++ []) f.rest = literal_runs h.literal [] f.rest [] f.rest h.is.fits (λ never. absurd cc) h.is.stops (last refl) in
    let goes_so = read_all-some literal_step shortens (length t + 1) (ahead []) t (heights 0 h.literal ++ []) f.rest (omega arith) (subst (λ (z : List ℕ). StepsTo literal_step (ahead []) z (heights 0 h.literal ++ []) f.rest) (sym h.is.whole) runs) in
    let depth : most 0 (heights 0 h.literal ++ []) ≡ f.depth = most-whole h.literal ∙ sym h.depth in
    let in_range : all_in_range true (heights 0 h.literal ++ []) ≡ f.in_range = in_range-whole h.literal ∙ sym h.in_range in
    let raw : take (length t - length f.rest) t ≡ f.raw = take-prefix t (spelled_literal h.literal) f.rest h.is.whole ∙ sym h.raw in
    rw (goes_so, h.is.stops, raw, depth, in_range) refl

pub literal_at-none : (t : List ℕ) → literal_at t ≡ None → NoLiteral t
literal_at-none t e f h = let no : None ≡ Some f = sym e ∙ literal_at-is t f h in absurd cc

pub one_literal : (t : List ℕ) (a b : LiteralToken) → HasLiteral t a → HasLiteral t b → a ≡ b
one_literal t a b h g = same_Some a b (sym (literal_at-is t a h) ∙ literal_at-is t b g)
