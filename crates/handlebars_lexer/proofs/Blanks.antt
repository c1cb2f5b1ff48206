-- The blanks that end a text, and what freshness depends on: the byte before them.
use Rattle.std.proofs.Common.{◌≡◌, ℕ, ◌+◌, ◌-◌, ◌<◌, ◌≤◌, Bool, true, false, length, get_or, [], ◌∷◌, ◌++◌, take, refl, sym, ap, ◌∙◌, arith, inl, inr, length-drop}
use Rattle.std.specs.Prelude.{◌==◌, reverse}
use Rattle.std.specs.List.{fold, list_all, suffix_len}
use Rattle.std.proofs.lemmas.Bool.{cases_Bool, eqb-true, eqb-false, and_parts}
use Rattle.std.proofs.lemmas.List.{get_or-drop, get_or-reverse, get_or_default, take_more, take-append-drop, drop_all, length-reverse}
use Rattle.std.proofs.lemmas.List.Sums.{fold-append, prefix_len_passes, prefix_len_stops, suffix_len-le-length, suffix_len-take_no, list_all-from_AllPass}
use Rattle.handlebars_base.specs.Bytes.{Text}
use Rattle.handlebars_lexer.specs.Trim.{is_blank, is_break, is_fresh_after, dark_len, before_blanks, last_blanks, LastBlanks}
use Rattle.handlebars_lexer.proofs.Trims.{no_break, or_false}

-- ---- where they begin

pub dark_len-fits : (t : Text) → dark_len t ≤ length t
dark_len-fits t = omega arith

-- from there on all bytes are blanks
blank-after : (t : Text) (k : ℕ) → dark_len t ≤ k → k < length t → is_blank (get_or t k 0) ≡ true
blank-after t k from below =
    let short = suffix_len-le-length is_blank t in
    let at : length t - 1 - (length t - 1 - k) ≡ k = omega arith in
    let passes = prefix_len_passes is_blank (reverse t) (length t - 1 - k) 0 (omega arith) in
    ap (λ (j : ℕ). is_blank (get_or t j 0)) (sym at) ∙ ap is_blank (sym (get_or-reverse t (length t - 1 - k) 0 (omega arith))) ∙ passes

-- the byte before them is no blank
dark-before : (t : Text) → 0 < dark_len t → is_blank (get_or t (dark_len t - 1) 0) ≡ false
dark-before t some =
    let short = suffix_len-le-length is_blank t in
    let long = length-reverse t in
    let at : length t - 1 - suffix_len is_blank t ≡ dark_len t - 1 = omega arith in
    let stops = prefix_len_stops is_blank (reverse t) 0 (omega arith) in
    ap (λ (j : ℕ). is_blank (get_or t j 0)) (sym at) ∙ ap is_blank (sym (get_or-reverse t (suffix_len is_blank t) 0 (omega arith))) ∙ stops

-- ---- that they end the text

all_blank : (t : Text) → list_all is_blank (last_blanks t) ≡ true
all_blank t = list_all-from_AllPass is_blank (last_blanks t) (λ k d lt.
    let long = length-drop (dark_len t) t in
    ap is_blank (get_or-drop (dark_len t) t k d) ∙ ap is_blank (get_or_default t (dark_len t + k) d 0 (omega arith)) ∙ blank-after t (dark_len t + k) (omega arith) (omega arith))

-- ---- freshness

fresh-blank : (f : Bool) (b : ℕ) → is_blank b ≡ true → is_fresh_after f b ≡ f
fresh-blank f b h = rw (no_break b h, h) refl

fresh-dark : (f : Bool) (b : ℕ) → is_blank b ≡ false → is_fresh_after f b ≡ is_break b
fresh-dark f b h = rw h (or_false (is_break b))

fresh-blanks : (f : Bool) (y : Text) → list_all is_blank y ≡ true → fold is_fresh_after f y ≡ f
fresh-blanks f [] all = refl
fresh-blanks f (b ∷ y) all =
    let both = and_parts (is_blank b) (list_all is_blank y) all in
    ap (λ (g : Bool). fold is_fresh_after g y) (fresh-blank f b both.0) ∙ fresh-blanks f y both.1

-- blanks do not change freshness
pub fresh-before_blanks : (f : Bool) (t : Text) → fold is_fresh_after f (before_blanks t) ≡ fold is_fresh_after f t
fresh-before_blanks f t =
    sym (ap (fold is_fresh_after f) (sym (take-append-drop (dark_len t) t)) ∙ fold-append is_fresh_after f (before_blanks t) (last_blanks t)
    ∙ fresh-blanks (fold is_fresh_after f (before_blanks t)) (last_blanks t) (all_blank t))

-- a text of blanks alone
pub fresh-none : (f : Bool) (t : Text) → dark_len t ≡ 0 → f ≡ fold is_fresh_after f t
fresh-none f t none = ap (λ (n : ℕ). fold is_fresh_after f (take n t)) (sym none) ∙ fresh-before_blanks f t

-- a text with more than blanks
pub fresh-last : (f : Bool) (t : Text) → 0 < dark_len t → is_break (get_or t (dark_len t - 1) 0) ≡ fold is_fresh_after f t
fresh-last f t some =
    let n = dark_len t in
    let b = get_or t (n - 1) 0 in
    let prefix = take (n - 1) t in
    let on : n ≡ n - 1 + 1 = omega arith in
    let parts : before_blanks t ≡ prefix ++ (b ∷ []) = ap (λ (k : ℕ). take k t) on ∙ take_more t (n - 1) 0 (omega (arith, dark_len-fits t)) in
    sym (sym (fresh-before_blanks f t) ∙ ap (fold is_fresh_after f) parts ∙ fold-append is_fresh_after f prefix (b ∷ []) ∙ fresh-dark (fold is_fresh_after f prefix) b (dark-before t some))

-- ---- the law

none_left : (t : Text) → last_blanks (before_blanks t) ≡ []
none_left t = elim (cases_Bool (dark_len t == 0)) [
  | inl none ↦ ap (λ (n : ℕ). last_blanks (take n t)) (eqb-true (dark_len t) 0 none)
  | inr some ↦
      let n = dark_len t in
      let lt : 0 < n = (let apart = eqb-false n 0 some in omega arith) in
      let stops = suffix_len-take_no is_blank t n 0 lt (dark_len-fits t) (dark-before t lt) in
      drop_all (dark_len (before_blanks t)) (before_blanks t) (omega (arith, stops))
]

pub last_blanks-end : LastBlanks
last_blanks-end t = record { joins = take-append-drop (dark_len t) t; blank = all_blank t; all = none_left t }
