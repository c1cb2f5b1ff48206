-- At most one text is at the start of a source, and where it holds no braces.
use Rattle.std.proofs.Common.{◌≡◌, ◌≢◌, ℕ, zero, suc, ◌-◌, ◌<◌, [], ◌∷◌, ◌++◌, length, drop, true, false, cond, Bool, refl, sym, ap, ◌∙◌, subst, arith, length-append}
use Rattle.std.specs.Prelude.{◌==◌, ◌||◌, replicate}
use Rattle.std.specs.List.{list_any}
use Rattle.std.proofs.lemmas.List.{append_cancel_right}
use Rattle.std.proofs.lemmas.Bool.{ne_eqb, false≢true}
use Rattle.handlebars_base.specs.Bytes.{Text, backslash, left_brace}
use Rattle.handlebars_lexer.specs.Text.{Braces, two_braces, four_braces, IsText, at_end, at_tag, a_byte, two_escaped, four_escaped, is_backslash, backslashes, starts_with_two, braces, before_braces, OneText, ClearText}
use Rattle.handlebars_lexer.proofs.Runs.{backslashes-run, backslashes-braces, backslashes-other, before_braces-run, braces-none, drop-run}

-- ---- a text, read by a function

abbrev prepend : ℕ → Text × Text → Text × Text
prepend b q = (b ∷ q.0, q.1)

abbrev prepend_two : Text × Text → Text × Text
prepend_two q = prepend left_brace (prepend left_brace q)

-- the unescaped text at the start, and what follows it; the first n bytes are text
text_at : Braces → ℕ → Text → Text × Text
text_at w n [] = ([], [])
text_at w zero (b ∷ t) = cond (before_braces w (b ∷ t)) (cond (backslashes (b ∷ t) == 1) (text_at w (cond (starts_with_two (drop 2 t)) 4 2) t) (replicate (backslashes (b ∷ t) - 1) backslash, drop (backslashes (b ∷ t)) (b ∷ t))) (prepend b (text_at w zero t))
text_at w (suc n) (b ∷ t) = prepend b (text_at w n t)

text_at-before_braces : (w : Braces) (t : Text) → 0 < length t → before_braces w t ≡ true → backslashes t ≢ 1 → text_at w 0 t ≡ (replicate (backslashes t - 1) backslash, drop (backslashes t) t)
unfolding text_at
text_at-before_braces w [] lt marks more = absurd (omega arith)
text_at-before_braces w (b ∷ t) lt marks more = rw (marks, ne_eqb (backslashes (b ∷ t)) 1 more) refl

braces-some : (w : Braces) (t : Text) → braces w t ≡ true → 0 < length t
braces-some w [] h = absurd (false≢true (sym (braces-none w) ∙ h))
braces-some w (b ∷ t) h = omega arith

text_at-run : (w : Braces) (run : ℕ) (follows : Text) → braces w follows ≡ true → run ≢ 1 → text_at w 0 (replicate run backslash ++ follows) ≡ (replicate (run - 1) backslash, follows)
text_at-run w run follows marks more =
    let stop = backslashes-braces w follows marks in
    let len = backslashes-run run follows stop in
    let long : 0 < length (replicate run backslash ++ follows) = omega (arith, length-append (replicate run backslash) follows, braces-some w follows marks) in
    text_at-before_braces w (replicate run backslash ++ follows) long (before_braces-run w run follows stop ∙ marks) (λ e. more (sym len ∙ e))
    ∙ ap (λ (n : ℕ). (replicate (n - 1) backslash, drop n (replicate run backslash ++ follows))) len ∙ ap (λ (z : Text). (replicate (run - 1) backslash, z)) (drop-run run follows)

text_at-two : (t : Text) → starts_with_two t ≡ false → text_at two_braces 0 (backslash ∷ left_brace ∷ left_brace ∷ t) ≡ prepend_two (text_at two_braces 0 t)
unfolding text_at
text_at-two t clear = rw clear refl

text_at-four : (w : Braces) (t : Text) → text_at w 0 (backslash ∷ left_brace ∷ left_brace ∷ left_brace ∷ left_brace ∷ t) ≡ prepend_two (prepend_two (text_at w 0 t))
unfolding text_at
text_at-four two_braces t = refl
text_at-four four_braces t = refl

text_at-text : {w : Braces} {follows token unescaped : Text} → IsText w follows token unescaped → text_at w 0 (token ++ follows) ≡ (unescaped, follows)
unfolding text_at
text_at-text {w} {follows} (at_end over) = rw over refl
text_at-text {w} {follows} (at_tag run marks more) = text_at-run w run follows marks more
text_at-text {w} {follows} (a_byte {token = token} b clear h) = rw clear (ap (prepend b) (text_at-text h))
text_at-text {w} {follows} (two_escaped {token = token} two clear h) =
    ap (λ (v : Braces). text_at v 0 (backslash ∷ left_brace ∷ left_brace ∷ (token ++ follows))) two ∙ text_at-two (token ++ follows) clear
    ∙ ap (λ (v : Braces). prepend_two (text_at v 0 (token ++ follows))) (sym two) ∙ ap prepend_two (text_at-text h)
text_at-text {w} {follows} (four_escaped {token = token} h) = text_at-four w (token ++ follows) ∙ ap (λ (q : Text × Text). prepend_two (prepend_two q)) (text_at-text h)

pub one_text : OneText
one_text n source token token' follows follows' unescaped unescaped' e f h g =
    let both : ◌≡◌ {A = Text × Text} (unescaped, follows) (unescaped', follows') = sym (text_at-text h) ∙ ap (text_at n 0) (sym e ∙ f) ∙ text_at-text g in
    let rests : follows ≡ follows' = ap (λ (q : Text × Text). q.1) both in
    let tokens : token ≡ token' = append_cancel_right token token' follows' (ap (λ (z : Text). token ++ z) (sym rests) ∙ sym e ∙ f) in
    (tokens, rests, ap (λ (q : Text × Text). q.0) both)

-- ---- texts without backslashes

no_run : (run : ℕ) → list_any is_backslash (replicate run backslash) ≡ false → run ≡ 0
no_run zero none = refl
no_run (suc n) none = absurd (false≢true (sym none))

one_of : (b : ℕ) (t : Text) → list_any is_backslash (b ∷ t) ≡ false → (is_backslash b ≡ false) × (list_any is_backslash t ≡ false)
one_of b t none = or_parts (is_backslash b) (list_any is_backslash t) none
  where
    or_parts : (p q : Bool) → (p || q) ≡ false → (p ≡ false) × (q ≡ false)
    or_parts true q h = absurd (false≢true (sym h))
    or_parts false q h = (refl, h)

nothing_left : (a b : Text) → [] ≡ a ++ b → b ≡ []
nothing_left [] b e = sym e
nothing_left (x ∷ a) b e = absurd cc

pub clear_text : ClearText
clear_text n follows _ _ a b (at_end over) none e some = absurd (some (nothing_left a b e))
clear_text n follows _ _ a b (at_tag run marks more) none e some = absurd (some (nothing_left a b (sym (ap (λ (k : ℕ). replicate k backslash) (no_run run none)) ∙ e)))
clear_text n follows _ _ [] b (a_byte {token = token} c clear h) none e some =
    let first = one_of c token none in
    let here : braces n (c ∷ (token ++ follows)) ≡ false = subst (λ (k : ℕ). braces n (drop k (c ∷ (token ++ follows))) ≡ false) (backslashes-other c (token ++ follows) first.0) clear in
    subst (λ (z : Text). braces n (z ++ follows) ≡ false) e here
clear_text n follows _ _ (x ∷ a) b (a_byte {token = token} {unescaped = unescaped} c clear h) none e some =
    let tails : token ≡ a ++ b = cc in
    clear_text n follows token unescaped a b h (one_of c token none).1 tails some
clear_text n follows _ _ a b (two_escaped two clear h) none e some = absurd (false≢true (sym none))
clear_text n follows _ _ a b (four_escaped h) none e some = absurd (false≢true (sym none))
