-- Reading a text chunk by chunk.
use Rattle.std.proofs.Common.{◌≡◌, ◌≢◌, ℕ, zero, suc, ◌+◌, ◌-◌, ◌<◌, ◌≤◌, Bool, true, false, [], ◌∷◌, ◌++◌, length, get_or, take, drop, refl, sym, ap, subst, ◌∙◌, append_assoc, arith, add-zero, add-one, drop-cons, ◌⊎◌, inl, inr, length-append}
use Rattle.std.specs.Prelude.{◌==◌, not, replicate, if◌then◌else◌}
use Rattle.std.specs.List.{prefix_len, before_first}
use Rattle.std.proofs.lemmas.Bool.{eqb-true, eqb-false, ne_eqb, cases_Bool, false≢true}
use Rattle.std.proofs.lemmas.List.{get_or-drop, take-append-drop, append-nil, take_at, drop_at, length-drop, nil_from_length}
use Rattle.std.specs.Str.{IsCharBoundary, IsUtf8}
use Rattle.std.proofs.lemmas.Str.{IsCharBoundary-at_seam}
use Rattle.handlebars_lexer.specs.Text.{Braces, two_braces, four_braces, IsText, at_end, at_tag, a_byte, two_escaped, four_escaped, is_backslash, backslashes, starts_with_two, braces, before_braces}
use Rattle.handlebars_base.specs.Bytes.{Text, backslash, left_brace}
use Rattle.handlebars_lexer.specs.TextReading.{ends_with_backslash, clear_len, GoesOn, Ends}
use Rattle.handlebars_lexer.proofs.Runs.{take-backslashes, backslashes-other, before_braces-run, backslashes-braces, braces-none, starts_with_two-shape, braces-shape, escape_at}

-- ---- clear bytes, with which no tag and no escape begins

pub clear_len-le : (w : Braces) (t : Text) → clear_len w t ≤ length t
clear_len-le w [] = omega arith
clear_len-le w (b ∷ t) = elim (cases_Bool (before_braces w (b ∷ t))) [
  | inl marks ↦ rw marks (omega arith)
  | inr clear ↦ let more = clear_len-le w t in rw clear (omega arith)
]

-- after them the source ends, or a run of backslashes precedes braces
pub drop-clear_len : (w : Braces) (t : Text) → (drop (clear_len w t) t ≡ []) ⊎ (before_braces w (drop (clear_len w t) t) ≡ true)
drop-clear_len w [] = inl refl
drop-clear_len w (b ∷ t) = elim (cases_Bool (before_braces w (b ∷ t))) [
  | inl marks ↦ rw marks (inr marks)
  | inr clear ↦ rw clear (drop-clear_len w t)
]

pub IsText-clear : (w : Braces) (t follows token more : Text) → drop (clear_len w t) t ≡ token ++ follows → IsText w follows token more
    → IsText w follows (take (clear_len w t) t ++ token) (take (clear_len w t) t ++ more)
IsText-clear w [] follows token more e h = h
IsText-clear w (b ∷ t) follows token more e h = elim (cases_Bool (before_braces w (b ∷ t))) [
  | inl marks ↦ rw marks h
  | inr clear ↦
      let rest : drop (clear_len w t) t ≡ token ++ follows = rw clear at e in
      let whole : (take (clear_len w t) t ++ token) ++ follows ≡ t = append_assoc (take (clear_len w t) t) token follows ∙ ap (λ (z : Text). take (clear_len w t) t ++ z) (sym rest) ∙ take-append-drop (clear_len w t) t in
      rw clear (a_byte b (ap (λ (z : Text). before_braces w (b ∷ z)) whole ∙ clear) (IsText-clear w t follows token more rest h))
]

pub GoesOn-clear : (w : Braces) (t : Text) → GoesOn w t (take (clear_len w t) t) (drop (clear_len w t) t)
GoesOn-clear w t = record {
  taken = take (clear_len w t) t;
  whole = sym (take-append-drop (clear_len w t) t);
  on = IsText-clear w t;
}

-- Clear bytes that no backslash follows end the text.
pub Ends-clear : (w : Braces) (t : Text) → backslashes (drop (clear_len w t) t) ≡ 0 → Ends w t (take (clear_len w t) t) (drop (clear_len w t) t)
Ends-clear w t none =
    let rest = drop (clear_len w t) t in
    let end : IsText w rest [] [] = elim (drop-clear_len w t) [
      | inl over ↦ at_end over
      | inr marks ↦ at_tag 0 (subst (λ (n : ℕ). braces w (drop n rest) ≡ true) none marks) (λ e. absurd (omega (arith, e)))
    ] in
    let ends : IsText w rest (take (clear_len w t) t ++ []) (take (clear_len w t) t ++ []) = IsText-clear w t rest [] [] refl end in
    record { taken = take (clear_len w t) t; whole = sym (take-append-drop (clear_len w t) t); ends = rw append-nil at ends }

-- ---- where clear bytes end, by how many backslashes were just read

clear_len-run : (w : Braces) (n : ℕ) (t : Text) → backslashes t ≡ 0 → braces w t ≡ false → clear_len w (replicate n backslash ++ t) ≡ n + clear_len w t
clear_len-run w zero t stop clear = omega arith
clear_len-run w (suc n) t stop clear =
    let on : before_braces w (replicate (suc n) backslash ++ t) ≡ false = before_braces-run w (suc n) t stop ∙ clear in
    rw on (omega (arith, clear_len-run w n t stop clear))

clear_len-marks : (w : Braces) (n : ℕ) (t : Text) → braces w t ≡ true → clear_len w (replicate n backslash ++ t) ≡ 0
clear_len-marks w zero [] marks = refl
clear_len-marks w zero (b ∷ t) marks = rw (before_braces-run w zero (b ∷ t) (backslashes-braces w (b ∷ t) marks) ∙ marks) refl
clear_len-marks w (suc n) t marks = rw (before_braces-run w (suc n) t (backslashes-braces w t marks) ∙ marks) refl

-- Of the bytes before `at` the first ones are clear. The others are backslashes, and it depends on what follows whether they
-- are clear.
pub record ClearUpTo (w : Braces) (t : Text) (clear at : ℕ) : Type 0 where
  pub run : ℕ
  pub here : at ≡ clear + run
  pub within : at ≤ length t
  pub backslashes : drop clear t ≡ replicate run backslash ++ drop at t
  pub so_far : clear_len w t ≡ clear + clear_len w (drop clear t)

pub ClearUpTo-from : (w : Braces) (t : Text) (from : ℕ) → from ≤ length t → clear_len w t ≡ from + clear_len w (drop from t) → ClearUpTo w t from from
ClearUpTo-from w t from le so_far = record { run = 0; here = omega arith; within = le; backslashes = refl; so_far = so_far }

pub clear_len-stops : (w : Braces) (t : Text) (clear at : ℕ) → ClearUpTo w t clear at → braces w (drop at t) ≡ true → clear_len w t ≡ clear
clear_len-stops w t clear at h marks = omega (arith, h.so_far, ap (clear_len w) h.backslashes, clear_len-marks w h.run (drop at t) marks)

pub clear_len-ends : (w : Braces) (t : Text) (clear at : ℕ) → ClearUpTo w t clear at → at ≡ length t → clear_len w t ≡ at
clear_len-ends w t clear at h over =
    let none : drop at t ≡ [] = nil_from_length (drop at t) (omega (arith, length-drop at t)) in
    omega (arith, h.so_far, ap (clear_len w) (h.backslashes ∙ ap (λ (z : Text). replicate h.run backslash ++ z) none), clear_len-run w h.run [] refl (braces-none w), h.here)

drop-at : (t : Text) (at : ℕ) → at < length t → drop at t ≡ get_or t at 0 ∷ drop (at + 1) t
drop-at t at lt = rw (add-one, drop-cons t at 0) refl

replicate-suc : (n : ℕ) (t : Text) → replicate n backslash ++ (backslash ∷ t) ≡ replicate (suc n) backslash ++ t
replicate-suc zero t = refl
replicate-suc (suc n) t = ap (λ (z : Text). backslash ∷ z) (replicate-suc n t)

pub ClearUpTo-backslash : (w : Braces) (t : Text) (clear at : ℕ) → ClearUpTo w t clear at → at < length t → get_or t at 0 ≡ backslash → ClearUpTo w t clear (at + 1)
ClearUpTo-backslash w t clear at h lt slash = record {
  run = suc h.run;
  here = omega (arith, h.here);
  within = omega arith;
  backslashes = h.backslashes ∙ ap (λ (z : Text). replicate h.run backslash ++ z) (drop-at t at lt ∙ ap (λ (b : ℕ). b ∷ drop (at + 1) t) slash) ∙ replicate-suc h.run (drop (at + 1) t);
  so_far = h.so_far;
}

clear_len-other : (w : Braces) (b : ℕ) (t : Text) → is_backslash b ≡ false → braces w (b ∷ t) ≡ false → clear_len w (b ∷ t) ≡ suc (clear_len w t)
clear_len-other w b t other none = let on : before_braces w (b ∷ t) ≡ false = rw other none in rw on refl

clear_len-run_other : (w : Braces) (n b : ℕ) (t : Text) → is_backslash b ≡ false → braces w (b ∷ t) ≡ false → clear_len w (replicate n backslash ++ (b ∷ t)) ≡ n + suc (clear_len w t)
clear_len-run_other w n b t other none = clear_len-run w n (b ∷ t) (backslashes-other b t other) none ∙ ap (λ (k : ℕ). n + k) (clear_len-other w b t other none)

-- a byte that is no backslash, with which no tag begins
pub ClearUpTo-other : (w : Braces) (t : Text) (clear at : ℕ) → ClearUpTo w t clear at → at < length t → get_or t at 0 ≢ backslash → braces w (drop at t) ≡ false → ClearUpTo w t (at + 1) (at + 1)
ClearUpTo-other w t clear at h lt other none =
    let b = get_or t at 0 in
    let z = drop (at + 1) t in
    let cut : drop at t ≡ b ∷ z = drop-at t at lt in
    let past = clear_len-run_other w h.run b z (ne_eqb b backslash other) (ap (braces w) (sym cut) ∙ none) in
    let all : clear_len w (drop clear t) ≡ clear_len w (replicate h.run backslash ++ (b ∷ z)) = ap (clear_len w) (h.backslashes ∙ ap (λ (y : Text). replicate h.run backslash ++ y) cut) in
    record { run = 0; here = omega arith; within = omega arith; backslashes = refl; so_far = omega (arith, h.so_far, all, past, h.here) }

-- ---- before the next brace

abbrev before_brace : Text → Text
before_brace t = before_first (λ b. b == left_brace) t

abbrev pub is_other : ℕ → Bool
is_other b = not (b == left_brace)

last_backslash : (b : ℕ) (t : Text) → (get_or (b ∷ t) (length (b ∷ t) - 1) 0 == backslash) ≡ ends_with_backslash (b ∷ t)
last_backslash b [] = refl
last_backslash b (c ∷ t) =
    let at : length (b ∷ c ∷ t) - 1 ≡ suc (length (c ∷ t) - 1) = omega arith in
    rw at (last_backslash c t)

pub ends_with_backslash-last : (t : Text) → 0 < length t → (get_or t (length t - 1) 0 == backslash) ≡ ends_with_backslash t
ends_with_backslash-last [] some = absurd (omega arith)
ends_with_backslash-last (b ∷ t) some = last_backslash b t

before_brace-mark : (b : ℕ) (t : Text) → (b == left_brace) ≡ true → before_brace (b ∷ t) ≡ []
before_brace-mark b t mark = rw mark refl

before_brace-other : (b : ℕ) (t : Text) → (b == left_brace) ≡ false → before_brace (b ∷ t) ≡ b ∷ before_brace t
before_brace-other b t other =
    let more : 1 + prefix_len is_other t ≡ suc (prefix_len is_other t) = omega arith in
    rw (other, more) refl

ends_with_backslash-more : (b : ℕ) (t : Text) → ends_with_backslash (b ∷ t) ≡ false → ends_with_backslash t ≡ false
ends_with_backslash-more b [] h = refl
ends_with_backslash-more b (c ∷ t) h = h

braces-other : (w : Braces) (b : ℕ) (t : Text) → (b == left_brace) ≡ false → braces w (b ∷ t) ≡ false
braces-other w b t other = elim (cases_Bool (braces w (b ∷ t))) [
  | inl marks ↦
      let two = braces-shape w (b ∷ t) marks in
      let is : b ≡ left_brace = ap (λ (z : Text). get_or z 0 0) two.1 in
      absurd (eqb-false b left_brace other is)
  | inr none ↦ none
]

before_braces-slash : (w : Braces) (b : ℕ) (t : Text) → is_backslash b ≡ true → before_braces w (b ∷ t) ≡ before_braces w t
before_braces-slash w b t slash =
    let more : backslashes (b ∷ t) ≡ suc (backslashes t) = rw slash (omega arith) in
    rw more refl

-- no braces begin, not even after backslashes, if another byte comes first
no_braces : (w : Braces) (t : Text) → ends_with_backslash (before_brace t) ≡ false → before_brace t ≢ [] → before_braces w t ≡ false
no_braces w [] h some = absurd (some refl)
no_braces w (b ∷ t) h some = elim (cases_Bool (b == left_brace)) [
  | inl mark ↦ absurd (some (before_brace-mark b t mark))
  | inr other ↦
      let cut : ends_with_backslash (b ∷ before_brace t) ≡ false = ap ends_with_backslash (sym (before_brace-other b t other)) ∙ h in
      elim (cases_Bool (is_backslash b)) [
        | inl slash ↦ before_braces-slash w b t slash ∙ no_braces w t (ends_with_backslash-more b (before_brace t) cut)
            (λ e. false≢true (sym cut ∙ ap (λ (z : Text). ends_with_backslash (b ∷ z)) e ∙ slash))
        | inr clear ↦ let here = braces-other w b t other in rw clear here
      ]
]

cons-not_nil : (b : ℕ) (t : Text) → b ∷ t ≢ []
cons-not_nil b t e = absurd cc

pub clear_len-before_brace : (w : Braces) (t : Text) → ends_with_backslash (before_brace t) ≡ false
    → clear_len w t ≡ length (before_brace t) + clear_len w (drop (length (before_brace t)) t)
clear_len-before_brace w [] h = omega arith
clear_len-before_brace w (b ∷ t) h = elim (cases_Bool (b == left_brace)) [
  | inl mark ↦ rw (before_brace-mark b t mark) (omega arith)
  | inr other ↦
      let is = before_brace-other b t other in
      let cut : ends_with_backslash (b ∷ before_brace t) ≡ false = ap ends_with_backslash (sym is) ∙ h in
      let none = no_braces w (b ∷ t) h (λ e. cons-not_nil b (before_brace t) (sym is ∙ e)) in
      let more = clear_len-before_brace w t (ends_with_backslash-more b (before_brace t) cut) in
      let one : clear_len w (b ∷ t) ≡ suc (clear_len w t) = rw none refl in
      let all : clear_len w (b ∷ t) ≡ length (b ∷ before_brace t) + clear_len w (drop (length (before_brace t)) t) = omega (arith, one, more) in
      rw is all
]

-- ---- escapes

-- how many of the braces at the start one backslash escapes
abbrev pub escaped_len : Text → ℕ
escaped_len t = if starts_with_two (drop 2 t) then 4 else 2

GoesOn-four : (w : Braces) (r : Text) → GoesOn w (backslash ∷ left_brace ∷ left_brace ∷ left_brace ∷ left_brace ∷ r) (left_brace ∷ left_brace ∷ left_brace ∷ left_brace ∷ []) r
GoesOn-four w r = record { taken = backslash ∷ left_brace ∷ left_brace ∷ left_brace ∷ left_brace ∷ []; whole = refl; on = λ follows token more e h. four_escaped h }

GoesOn-two : (w : Braces) (r : Text) → w ≡ two_braces → starts_with_two r ≡ false → GoesOn w (backslash ∷ left_brace ∷ left_brace ∷ r) (left_brace ∷ left_brace ∷ []) r
GoesOn-two w r two clear = record { taken = backslash ∷ left_brace ∷ left_brace ∷ []; whole = refl; on = λ follows token more e h. two_escaped two (ap starts_with_two (sym e) ∙ clear) h }

-- fewer than four braces end only texts that end at two
only_two : (w : Braces) (r : Text) → braces w (left_brace ∷ left_brace ∷ r) ≡ true → starts_with_two r ≡ false → w ≡ two_braces
only_two two_braces r marks clear = refl
only_two four_braces r marks clear = absurd (false≢true (sym clear ∙ marks))

GoesOn-braces : (w : Braces) (r : Text) → braces w (left_brace ∷ left_brace ∷ r) ≡ true
    → GoesOn w (backslash ∷ left_brace ∷ left_brace ∷ r) (take (escaped_len (left_brace ∷ left_brace ∷ r)) (left_brace ∷ left_brace ∷ r)) (drop (escaped_len (left_brace ∷ left_brace ∷ r)) (left_brace ∷ left_brace ∷ r))
GoesOn-braces w r marks = elim (cases_Bool (starts_with_two r)) [
  | inl more ↦ let two = starts_with_two-shape r more in rw (more, two.1) (GoesOn-four w two.0)
  | inr clear ↦ rw clear (GoesOn-two w r (only_two w r marks clear) clear)
]

pub GoesOn-escape : (w : Braces) (t : Text) → before_braces w t ≡ true → backslashes t ≡ 1 → GoesOn w t (take (escaped_len (drop 1 t)) (drop 1 t)) (drop (escaped_len (drop 1 t)) (drop 1 t))
GoesOn-escape w t marks one =
    let e = escape_at w t marks one in
    let here : braces w (left_brace ∷ left_brace ∷ e.0) ≡ true = subst (λ (z : Text). before_braces w z ≡ true) e.1 marks in
    rw e.1 (GoesOn-braces w e.0 here)

run_and_rest : (t : Text) → t ≡ replicate (backslashes t) backslash ++ drop (backslashes t) t
run_and_rest t = sym (take-append-drop (backslashes t) t) ∙ ap (λ (z : Text). z ++ drop (backslashes t) t) (take-backslashes t)

suc-sub_one : (n : ℕ) → (suc n - 1) ≡ n
suc-sub_one n = omega arith

length-replicate : (n : ℕ) → length {A = ℕ} (replicate n backslash) ≡ n
length-replicate zero = refl
length-replicate (suc n) = omega (arith, length-replicate n)

Ends-run_of : (w : Braces) (n : ℕ) (y : Text) → suc n ≢ 1 → braces w y ≡ true → Ends w (replicate (suc n) backslash ++ y) (take (suc n - 1) (drop 1 (replicate (suc n) backslash ++ y))) (drop (suc n - 1) (drop 1 (replicate (suc n) backslash ++ y)))
Ends-run_of w n y more marks = rw (suc-sub_one n, take_at (replicate n backslash) y n (length-replicate n), drop_at (replicate n backslash) y n (length-replicate n)) (record {
  taken = replicate (suc n) backslash;
  whole = refl;
  ends = subst (λ (z : ℕ). IsText w y (replicate (suc n) backslash) (replicate z backslash)) (suc-sub_one n) (at_tag (suc n) marks more);
})

-- several backslashes before a tag, of which the first is dropped
pub Ends-run : (w : Braces) (t : Text) (run : ℕ) → run ≡ backslashes t → run ≢ 0 → run ≢ 1 → before_braces w t ≡ true → Ends w t (take (run - 1) (drop 1 t)) (drop (run - 1) (drop 1 t))
Ends-run w t zero is some more marks = absurd (some refl)
Ends-run w t (suc n) is some more marks =
    let y = drop (backslashes t) t in
    let shape : t ≡ replicate (suc n) backslash ++ y = run_and_rest t ∙ ap (λ (k : ℕ). replicate k backslash ++ y) (sym is) in
    subst (λ (z : Text). Ends w z (take (suc n - 1) (drop 1 z)) (drop (suc n - 1) (drop 1 z))) (sym shape) (Ends-run_of w n y more marks)

-- ---- chunk after chunk

pub GoesOn-append : (w : Braces) (t unescaped u part v : Text) → GoesOn w t unescaped u → GoesOn w u part v → GoesOn w t (unescaped ++ part) v
GoesOn-append w t unescaped u part v a b = record {
  taken = a.taken ++ b.taken;
  whole = a.whole ∙ ap (λ (z : Text). a.taken ++ z) b.whole ∙ sym (append_assoc a.taken b.taken v);
  on = λ follows token more e h. rw (append_assoc a.taken b.taken token, append_assoc unescaped part more) (a.on follows (b.taken ++ token) (part ++ more) (b.whole ∙ ap (λ (z : Text). b.taken ++ z) e ∙ sym (append_assoc b.taken token follows)) (b.on follows token more e h));
}

pub Ends-append : (w : Braces) (t unescaped u part v : Text) → GoesOn w t unescaped u → Ends w u part v → Ends w t (unescaped ++ part) v
Ends-append w t unescaped u part v a b = record {
  taken = a.taken ++ b.taken;
  whole = a.whole ∙ ap (λ (z : Text). a.taken ++ z) b.whole ∙ sym (append_assoc a.taken b.taken v);
  ends = a.on v b.taken part b.whole b.ends;
}

-- ---- where chunks end

marks_ascii : (w : Braces) (t : Text) → before_braces w t ≡ true → get_or t 0 0 < 128
marks_ascii w [] marks = absurd (false≢true (sym (braces-none w) ∙ marks))
marks_ascii w (b ∷ t) marks = elim (cases_Bool (is_backslash b)) [
  | inl slash ↦ let is = eqb-true b backslash slash in omega arith
  | inr other ↦
      let here : braces w (b ∷ t) ≡ true = rw other at marks in
      let two = braces-shape w (b ∷ t) here in
      let is : get_or (b ∷ t) 0 0 ≡ left_brace = ap (λ (z : Text). get_or z 0 0) two.1 in
      omega arith
]

pub IsCharBoundary-clear_len : (w : Braces) (t : Text) → IsCharBoundary t (clear_len w t)
IsCharBoundary-clear_len w t = (
  clear_len-le w t,
  λ lt le. elim (drop-clear_len w t) [
    | inl over ↦ absurd (omega (arith, length-drop (clear_len w t) t, ap length over))
    | inr marks ↦ let small = marks_ascii w (drop (clear_len w t) t) marks in let same = (get_or-drop (clear_len w t) t 0 0 ∙ ap (λ (n : ℕ). get_or t n 0) (add-zero (clear_len w t))) in absurd (omega arith)
  ],
)

get_or-run : (t : Text) (k : ℕ) → k < backslashes t → get_or t k 0 ≡ backslash
get_or-run [] k lt = absurd (omega arith)
get_or-run (b ∷ t) zero lt = elim (cases_Bool (is_backslash b)) [
  | inl slash ↦ eqb-true b backslash slash
  | inr other ↦ let none : backslashes (b ∷ t) ≡ 0 = rw other refl in absurd (omega arith)
]
get_or-run (b ∷ t) (suc k) lt = elim (cases_Bool (is_backslash b)) [
  | inl slash ↦ let more : backslashes (b ∷ t) ≡ 1 + backslashes t = rw slash refl in get_or-run t k (omega arith)
  | inr other ↦ let none : backslashes (b ∷ t) ≡ 0 = rw other refl in absurd (omega arith)
]

-- after the first of several backslashes
pub more_ascii : (t : Text) (run : ℕ) → run ≡ backslashes t → run ≢ 0 → run ≢ 1 → get_or (drop 1 t) (run - 1 - 1) 0 < 128
more_ascii [] run is some more = absurd (some is)
more_ascii (b ∷ t) zero is some more = absurd (some refl)
more_ascii (b ∷ t) (suc zero) is some more = absurd (more refl)
more_ascii (b ∷ t) (suc (suc n)) is some more =
    let at : suc (suc n) - 1 - 1 ≡ n = omega arith in
    let e = get_or-run (b ∷ t) (suc n) (omega (arith, is)) in
    rw at (omega (arith, e))

pub IsCharBoundary-end : (w : Braces) (t unescaped v : Text) → IsUtf8 v → Ends w t unescaped v → IsCharBoundary t (length t - length v)
IsCharBoundary-end w t unescaped v utf8 h =
    let len : length t - length v ≡ length h.taken = omega (arith, ap length h.whole, length-append h.taken v) in
    rw len (IsCharBoundary-at_seam t h.taken v h.whole utf8)
