-- The lines that a reader takes, one after another.
use Rattle.std.proofs.Common.{◌≡◌, ℕ, suc, ◌+◌, ◌-◌, List, [], ◌∷◌, ◌++◌, length, get_or, take, drop, filter, Bool, true, false, not, ◌==◌, cond, nat_lt, subst, Ok, Err, IsUtf8, ◌⊎◌, Option, Some, None, IfSome, refl, sym, ap, ◌∙◌, arith, sub-one}
use Rattle.std.proofs.Math.ListN.{drop_of_length-le}
use Rattle.std.proofs.lemmas.List.{take_all}
use Rattle.std.specs.List.{slice_split, position_or_len, before_first, after_first}
use Rattle.std.specs.Io.BufRead.{take_through, drop_through, strip_last, DropsThrough}
use Rattle.std.proofs.lemmas.List.Sums.{prefix_len-le-length}
use Rattle.serde_json.specs.View.{view}
use Rattle.serde_json.specs.declared.value.Value.{Value}
use Rattle.std.proofs.lemmas.Bool.{lt-ltb, ltb-true, ltb-false}
use Rattle.handlebars_data.specs.Counts.{counted}
use Rattle.handlebars_data.specs.Errors.{kind_of}
use Rattle.handlebars_data.specs.JsonText.{text_data}
use Rattle.handlebars_data.specs.Lines.{is_newline, is_blank, texts_in, below_lines, TakesText, IsNextText, IsNextValue}
use Rattle.handlebars_data.specs.Stopping.{stops_reading}
use Rattle.handlebars_data.specs.declared.error.DataError.{DataError}
use Rattle.handlebars_data.specs.declared.json_text.Numbers.{Numbers}
use Rattle.handlebars_data.specs.LinesView.{TakesLine}
use Rattle.handlebars_data.proofs.LineTexts.{texts_of, first_of_text, last_of_text}

strip_cons : (b : Bool) (x : ℕ) (n : ℕ) (ys : List ℕ) → cond b (x ∷ take n ys) (x ∷ ys) ≡ x ∷ cond b (take n ys) ys
strip_cons true x n ys = refl
strip_cons false x n ys = refl

strip_last-cons : (x : ℕ) (ys : List ℕ) → (x == 10) ≡ false → strip_last 10 (x ∷ ys) ≡ x ∷ strip_last 10 ys
strip_last-cons x [] is = rw is
strip_last-cons x (y ∷ zs) is =
    let long : nat_lt 0 (length (x ∷ y ∷ zs)) ≡ true = lt-ltb _ _ (omega arith) in
    let short : nat_lt 0 (length (y ∷ zs)) ≡ true = lt-ltb _ _ (omega arith) in
    let one : suc (suc (length zs)) - 1 ≡ suc (length zs) = sub-one (suc (suc (length zs))) in
    let other : suc (length zs) - 1 ≡ length zs = sub-one (suc (length zs)) in
    rw (long, short, one, other) (strip_cons (get_or (y ∷ zs) (length zs) 0 == 10) x (length zs) (y ∷ zs))

strip_at : (b : Bool) (x n : ℕ) (xs : List ℕ) → (x == 10) ≡ b → strip_last 10 (take_through 10 xs) ≡ take n xs
    → strip_last 10 (cond b (x ∷ []) (x ∷ take_through 10 xs)) ≡ take (cond (not b) (1 + n) 0) (x ∷ xs)
strip_at true x n xs is rest = rw is
strip_at false x n xs is rest =
    let one : 1 + n ≡ suc n = omega arith in
    let more : take (1 + n) (x ∷ xs) ≡ x ∷ take n xs = rw one in
    strip_last-cons x (take_through 10 xs) is ∙ ap (λ ys. x ∷ ys) rest ∙ sym more

strip-through : (xs : List ℕ) → strip_last 10 (take_through 10 xs) ≡ before_first is_newline xs
strip-through [] = refl
strip-through (x ∷ xs) = strip_at (is_newline x) x (position_or_len is_newline xs) xs refl (strip-through xs)

drop_at : (b : Bool) (x n : ℕ) (xs : List ℕ) → drop_through 10 xs ≡ drop (n + 1) xs → cond b xs (drop_through 10 xs) ≡ drop (cond (not b) (1 + n) 0 + 1) (x ∷ xs)
drop_at true x n xs rest = refl
drop_at false x n xs rest =
    let one : 1 + n + 1 ≡ suc (n + 1) = omega arith in
    let more : drop (1 + n + 1) (x ∷ xs) ≡ drop (n + 1) xs = rw one in
    rest ∙ sym more

drop-through : (xs : List ℕ) → drop_through 10 xs ≡ after_first is_newline xs
drop-through [] = refl
drop-through (x ∷ xs) = drop_at (is_newline x) x (position_or_len is_newline xs) xs (drop-through xs)

-- what a read up to a newline takes
pub line_taken : (old left : Option (List ℕ)) (start buffer line : List ℕ) → start ≡ [] → IfSome old (λ xs. buffer ≡ start ++ take_through 10 xs) → DropsThrough old left 10
    → line ≡ strip_last 10 buffer → IfSome old (λ bytes. TakesLine true bytes line left)
line_taken None left start buffer line none read rest is = tt
line_taken (Some xs) left start buffer line none read rest is = (
  is ∙ ap (strip_last 10) (read ∙ ap (λ bs. bs ++ take_through 10 xs) none) ∙ strip-through xs,
  rest ∙ ap Some (drop-through xs),
)

lone_line : (blank : Bool) (line : List ℕ) → cond (not blank) (line ∷ []) [] ≡ cond (not blank) (line ∷ filter (λ l. not (is_blank l)) ([] ∷ [])) (filter (λ l. not (is_blank l)) ([] ∷ []))
lone_line true line = refl
lone_line false line = refl

no_newline : (xs : List ℕ) → position_or_len is_newline xs ≡ length xs → texts_in xs ≡ texts_of (before_first is_newline xs ∷ slice_split is_newline (after_first is_newline xs))
no_newline xs there =
    let before : before_first is_newline xs ≡ xs = take_all _ xs (omega (arith, there)) in
    let after : after_first is_newline xs ≡ [] = drop_of_length-le xs (omega (arith, there)) in
    rw (last_of_text xs there, before, after) (lone_line (is_blank xs) xs)

-- the first line, and the texts of the lines after it
first_at : (found : Bool) (xs : List ℕ) → nat_lt (position_or_len is_newline xs) (length xs) ≡ found
    → texts_in xs ≡ texts_of (before_first is_newline xs ∷ slice_split is_newline (after_first is_newline xs))
first_at true xs is = ap texts_of (first_of_text xs _ _ (ltb-true _ _ is) refl refl)
first_at false xs is = no_newline xs (omega (arith, ltb-false _ _ is, prefix_len-le-length (λ b. not (is_newline b)) xs))

pub texts-first : (xs : List ℕ) → texts_in xs ≡ texts_of (before_first is_newline xs ∷ slice_split is_newline (after_first is_newline xs))
texts-first xs = first_at _ xs refl

-- What is left has the texts of the whole, after some blank lines. Of the text `counts` lines were taken before these, and `count`
-- with them, which is said of one more line: that number is in range.
abbrev pub HasTexts : List ℕ → ℕ → ℕ → Option (List ℕ) → Type 0
HasTexts bytes counts count left =
    (blanks : ℕ) × (left ≡ Some (below_lines blanks bytes)) × (texts_in bytes ≡ texts_in (below_lines blanks bytes)) × (counted (count + 1) ≡ counted (counts + blanks + 1))

pub has_all : (counts : ℕ) (left : Option (List ℕ)) → IfSome left (λ bytes. HasTexts bytes counts counts left)
has_all counts None = tt
has_all counts (Some bytes) = (0, refl, refl, ap counted (omega arith))

pub counted-next : (n : ℕ) → counted (counted n + 1) ≡ counted (n + 1)
counted-next n = omega arith

one_more : (n m k : ℕ) → counted (n + 1) ≡ counted (m + k + 1) → counted (counted (n + 1) + 1) ≡ counted (m + suc k + 1)
one_more n m k is = ap (λ c. counted (c + 1)) is ∙ counted-next (m + k + 1) ∙ ap counted (omega arith)

-- a line that was taken: the texts before are its own, if it has one, and those that are left
taken_of : (bytes line : List ℕ) (counts count : ℕ) (left after : Option (List ℕ)) → (h : HasTexts bytes counts count left) → IfSome left (λ xs. TakesLine true xs line after)
    → (line ≡ before_first is_newline (below_lines h.0 bytes)) × (after ≡ Some (after_first is_newline (below_lines h.0 bytes)))
    × (texts_in bytes ≡ texts_of (line ∷ slice_split is_newline (after_first is_newline (below_lines h.0 bytes))))
taken_of bytes line counts count left after so_far taken =
    let here = rw so_far.1 at taken in
    (here.0, here.1, so_far.2 ∙ texts-first (below_lines so_far.0 bytes) ∙ ap (λ l. texts_of (l ∷ slice_split is_newline (after_first is_newline (below_lines so_far.0 bytes)))) (sym here.0))

pub blank_taken : (counts count next : ℕ) (old left after : Option (List ℕ)) (line : List ℕ) (found : Bool) → found ≡ true → IfSome old (λ bytes. HasTexts bytes counts count left)
    → IfSome left (λ xs. TakesLine found xs line after) → is_blank line ≡ true → next ≡ counted (count + 1) → IfSome old (λ bytes. HasTexts bytes counts next after)
blank_taken counts count next old left after line false is so_far taken blank one = absurd (cc)
blank_taken counts count next None left after line true is so_far taken blank one = tt
blank_taken counts count next (Some bytes) left after line true is so_far taken blank one =
    let t = taken_of bytes line counts count left after so_far taken in (
      suc so_far.0,
      t.1,
      t.2 ∙ ap (λ b. cond (not b) (line ∷ texts_in (after_first is_newline (below_lines so_far.0 bytes))) (texts_in (after_first is_newline (below_lines so_far.0 bytes)))) blank,
      ap (λ c. counted (c + 1)) one ∙ one_more count counts so_far.0 so_far.3,
    )

text_taken : (counts count next : ℕ) (bytes line : List ℕ) (left after : Option (List ℕ)) → HasTexts bytes counts count left → IfSome left (λ xs. TakesLine true xs line after)
    → is_blank line ≡ false → next ≡ counted (count + 1) → TakesText bytes counts next line after
text_taken counts count next bytes line left after so_far taken full one =
    let t = taken_of bytes line counts count left after so_far taken in (
      so_far.0,
      after_first is_newline (below_lines so_far.0 bytes),
      t.1,
      t.2 ∙ ap (λ b. cond (not b) (line ∷ texts_in (after_first is_newline (below_lines so_far.0 bytes))) (texts_in (after_first is_newline (below_lines so_far.0 bytes)))) full,
      t.0,
      refl,
      one ∙ so_far.3,
    )

pub text_found : (counts count next : ℕ) (old left after : Option (List ℕ)) (line : List ℕ) (found : Bool) → found ≡ true → IfSome old (λ bytes. HasTexts bytes counts count left)
    → IfSome left (λ xs. TakesLine found xs line after) → is_blank line ≡ false → next ≡ counted (count + 1) → IfSome old (λ bytes. TakesText bytes counts next line after)
text_found counts count next old left after line false is so_far taken full one = absurd (cc)
text_found counts count next None left after line true is so_far taken full one = tt
text_found counts count next (Some bytes) left after line true is so_far taken full one = text_taken counts count next bytes line left after so_far taken full one

pub none_left : (counts count : ℕ) (old left after : Option (List ℕ)) (line : List ℕ) (found : Bool) → found ≡ false → IfSome old (λ bytes. HasTexts bytes counts count left)
    → IfSome left (λ xs. TakesLine found xs line after) → IfSome old (λ bytes. texts_in bytes ≡ [])
none_left counts count old left after line true is so_far taken = absurd (cc)
none_left counts count None left after line false is so_far taken = tt
none_left counts count (Some bytes) left after line false is so_far taken =
    let here = rw so_far.1 at taken in
    so_far.2 ∙ ap texts_in here

-- ---- the value of a line that was taken

pub value_read : (counts count : ℕ) (old left : Option (List ℕ)) (line : List ℕ) (found : Bool) (numbers given : Numbers) (v : Value) → found ≡ true
    → IfSome old (λ bytes. IsNextText bytes counts count line left (Ok found)) → given ≡ numbers → text_data given line ≡ Some (view v)
    → IfSome old (λ bytes. IsNextValue numbers bytes counts count left (Ok (Some v)))
value_read counts count old left line false numbers given v is taken same read = absurd (cc)
value_read counts count None left line true numbers given v is taken same read = tt
value_read counts count (Some bytes) left line true numbers given v is taken same read = (line, taken, ap (λ n. text_data n line) (sym same) ∙ read)

pub value_refused : (counts count : ℕ) (old left : Option (List ℕ)) (line : List ℕ) (found : Bool) (numbers given : Numbers) (e : DataError) → found ≡ true
    → IfSome old (λ bytes. IsNextText bytes counts count line left (Ok found)) → given ≡ numbers
    → (stops_reading (kind_of e) ≡ false → ¬ IsUtf8 line ⊎ (text_data given line ≡ None)) → IfSome old (λ bytes. IsNextValue numbers bytes counts count left (Err e))
value_refused counts count old left line false numbers given e is taken same why = absurd (cc)
value_refused counts count None left line true numbers given e is taken same why = tt
value_refused counts count (Some bytes) left line true numbers given e is taken same why =
    let P : Numbers → Type 0 = λ n. ¬ IsUtf8 line ⊎ (text_data n line ≡ None) in
    λ goes_on. (line, taken, subst P same (why goes_on))
