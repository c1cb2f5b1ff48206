-- The lines of a text, one after another, and their values.
use Rattle.std.proofs.Common.{◌≡◌, ℕ, ◌+◌, ◌<◌, List, [], ◌∷◌, ◌++◌, length, map, filter, Bool, true, false, not, cond, All, Option, IsSome, Some, None, option_map, option_and_then, refl, sym, ap, ◌∙◌, arith}
use Rattle.std.specs.List.{slice_split, onto_first, position_or_len, before_first, after_first}
use Rattle.std.proofs.lemmas.List.{append_assoc, length_push, map-append}
use Rattle.std.proofs.lemmas.List.Elements.{All-push}
use Rattle.std.proofs.lemmas.List.Splits.{slice_split_first}
use Rattle.serde_json.specs.Data.{Data, Items, no_items, item}
use Rattle.serde_json.specs.View.{items_of, view}
use Rattle.serde_json.specs.declared.value.Value.{Value}
use Rattle.handlebars_data.specs.Counts.{counted}
use Rattle.handlebars_data.specs.JsonText.{text_data}
use Rattle.handlebars_data.specs.declared.json_text.Numbers.{Numbers}
use Rattle.handlebars_data.specs.Lines.{HasBadLine, is_newline, is_blank, texts_in, values_of, line_values}

-- the lines that aren't blank
abbrev pub texts_of : List (List ℕ) → List (List ℕ)
texts_of lines = filter (λ line. not (is_blank line)) lines

-- values before others
abbrev pub with_items : List Data → Items → Items
with_items [] ds = ds
with_items (d ∷ es) ds = item d (with_items es ds)

with_items-append : (xs ys : List Data) (ds : Items) → with_items (xs ++ ys) ds ≡ with_items xs (with_items ys ds)
with_items-append [] ys ds = refl
with_items-append (x ∷ xs) ys ds = ap (item x) (with_items-append xs ys ds)

pub with_items-none : (xs : List Data) → with_items xs no_items ≡ items_of xs
with_items-none [] = refl
with_items-none (x ∷ xs) = ap (item x) (with_items-none xs)

map-with_items : (xs : List Data) (o : Option Items) → option_map (with_items (xs ++ [])) o ≡ option_map (with_items xs) o
map-with_items xs None = refl
map-with_items xs (Some ds) = ap Some (with_items-append xs [] ds)

pub map-with_item : (xs : List Data) (d : Data) (o : Option Items) → option_map (with_items (xs ++ d ∷ [])) o ≡ option_map (with_items xs) (option_map (item d) o)
map-with_item xs d None = refl
map-with_item xs d (Some ds) = ap Some (with_items-append xs (d ∷ []) ds)

pub first_of_text : (text before after : List ℕ) → position_or_len is_newline text < length text → before ≡ before_first is_newline text → after ≡ after_first is_newline text
    → slice_split is_newline text ≡ before ∷ slice_split is_newline after
first_of_text text before after there first second = rw (first, second) (slice_split_first is_newline text 0 there)

last_at : (newline : Bool) (n : ℕ) (b : ℕ) (bs : List ℕ) → cond (not newline) (1 + n) 0 ≡ length (b ∷ bs) → (n ≡ length bs → slice_split is_newline bs ≡ bs ∷ [])
    → cond newline ([] ∷ slice_split is_newline bs) (onto_first b (slice_split is_newline bs)) ≡ (b ∷ bs) ∷ []
last_at true n b bs there later = absurd (omega (arith, there))
last_at false n b bs there later = let rest : slice_split is_newline bs ≡ bs ∷ [] = later (omega (arith, there)) in rw rest

pub last_of_text : (text : List ℕ) → position_or_len is_newline text ≡ length text → slice_split is_newline text ≡ text ∷ []
last_of_text [] there = refl
last_of_text (b ∷ bs) there = last_at (is_newline b) (position_or_len is_newline bs) b bs there (last_of_text bs)

none_after : (o : Option Items) (r : Option Data) → option_map (λ d. d ∷ []) r ≡ None → option_and_then (λ d. option_map (item d) o) r ≡ None
none_after o None is = refl
none_after o (Some d) is = absurd (cc)

value_after : (xs ds : List Data) (o : Option Items) (r : Option Data) → option_map (λ d. d ∷ []) r ≡ Some ds
    → option_map (with_items (xs ++ ds)) o ≡ option_map (with_items xs) (option_and_then (λ d. option_map (item d) o) r)
value_after xs ds o None is = absurd (cc)
value_after xs ds o (Some d) is = let same : ds ≡ d ∷ [] = cc in rw same (map-with_item xs d o)

module _ (read : List ℕ → Option Data) where
  refused_at : (blank : Bool) (line : List ℕ) (texts : List (List ℕ)) → cond blank (Some []) (option_map (λ d. d ∷ []) (read line)) ≡ None
      → values_of read (cond (not blank) (line ∷ texts) texts) ≡ None
  refused_at true line texts is = absurd (cc)
  refused_at false line texts is = none_after (values_of read texts) (read line) is

  -- a line that is refused refuses the text
  pub refused_line : (line : List ℕ) (lines : List (List ℕ)) → line_values read line ≡ None → values_of read (texts_of (line ∷ lines)) ≡ None
  refused_line line lines is = refused_at (is_blank line) line (texts_of lines) is

  value_at : (blank : Bool) (xs ds : List Data) (line : List ℕ) (texts : List (List ℕ))
      → cond blank (Some []) (option_map (λ d. d ∷ []) (read line)) ≡ Some ds
      → option_map (with_items (xs ++ ds)) (values_of read texts) ≡ option_map (with_items xs) (values_of read (cond (not blank) (line ∷ texts) texts))
  value_at true xs ds line texts is = let same : ds ≡ [] = cc in rw same (map-with_items xs (values_of read texts))
  value_at false xs ds line texts is = value_after xs ds (values_of read texts) (read line) is

  -- the value of a line comes before those of the lines after it
  pub value_of_line : (xs ds : List Data) (line : List ℕ) (lines : List (List ℕ)) → line_values read line ≡ Some ds
      → option_map (with_items (xs ++ ds)) (values_of read (texts_of lines)) ≡ option_map (with_items xs) (values_of read (texts_of (line ∷ lines)))
  value_of_line xs ds line lines is = value_at (is_blank line) xs ds line (texts_of lines) is

  one_value : (blank : Bool) (line : List ℕ) (d : Data) → blank ≡ false → read line ≡ Some d → cond blank (Some []) (option_map (λ x. x ∷ []) (read line)) ≡ Some (d ∷ [])
  one_value true line d is found = absurd (cc)
  one_value false line d is found = rw found

  pub value_of_text : (line : List ℕ) (d : Data) → is_blank line ≡ false → read line ≡ Some d → line_values read line ≡ Some (d ∷ [])
  value_of_text line d is found = one_value (is_blank line) line d is found

  -- ---- a text, line after line

  -- the first line, which a newline ends, and the lines after it
  pub next_values : (xs ds : List Data) (text before after : List ℕ) (all : Option Items) → position_or_len is_newline text < length text
      → before ≡ before_first is_newline text → after ≡ after_first is_newline text → line_values read before ≡ Some ds
      → option_map (with_items xs) (values_of read (texts_in text)) ≡ all → option_map (with_items (xs ++ ds)) (values_of read (texts_in after)) ≡ all
  next_values xs ds text before after all there first second value so_far =
      let split = first_of_text text before after there first second in
      let whole : option_map (with_items xs) (values_of read (texts_of (before ∷ slice_split is_newline after))) ≡ all = rw split at so_far in
      value_of_line xs ds before (slice_split is_newline after) value ∙ whole

  pub next_refused : (xs : List Data) (text before after : List ℕ) (all : Option Items) → position_or_len is_newline text < length text
      → before ≡ before_first is_newline text → after ≡ after_first is_newline text → line_values read before ≡ None
      → option_map (with_items xs) (values_of read (texts_in text)) ≡ all → all ≡ None
  next_refused xs text before after all there first second value so_far =
      let split = first_of_text text before after there first second in
      sym so_far ∙ rw (split, refused_line before (slice_split is_newline after) value)

  -- the last line
  pub last_values : (xs ds : List Data) (text : List ℕ) (all : Option Items) → position_or_len is_newline text ≡ length text → line_values read text ≡ Some ds
      → option_map (with_items xs) (values_of read (texts_in text)) ≡ all → all ≡ Some (items_of (xs ++ ds))
  last_values xs ds text all there value so_far =
      let split = last_of_text text there in
      let whole : option_map (with_items xs) (values_of read (texts_of (text ∷ []))) ≡ all = rw split at so_far in
      sym whole ∙ sym (value_of_line xs ds text [] value) ∙ ap Some (with_items-none (xs ++ ds))

  pub last_refused : (xs : List Data) (text : List ℕ) (all : Option Items) → position_or_len is_newline text ≡ length text → line_values read text ≡ None
      → option_map (with_items xs) (values_of read (texts_in text)) ≡ all → all ≡ None
  last_refused xs text all there value so_far =
      let split = last_of_text text there in
      sym so_far ∙ rw (split, refused_line text [] value)

-- ---- the number of a line

-- the lines of a text before the rest have values, and the next one has this number
abbrev pub Passed : (List ℕ → Option Data) → List ℕ → List ℕ → ℕ → Type 0
Passed read text rest number =
    (before : List (List ℕ)) × (slice_split is_newline text ≡ before ++ slice_split is_newline rest) × All (λ l. IsSome (line_values read l)) before
    × (number ≡ counted (length before + 1))

pub none_passed : (read : List ℕ → Option Data) (text : List ℕ) → Passed read text text 1
none_passed read text = ([], refl, λ k d below. absurd (omega arith), refl)

has_value : (o : Option (List Data)) (ds : List Data) → o ≡ Some ds → IsSome o
has_value o ds is = rw is

counted-next : (n : ℕ) → counted (counted n + 1) ≡ counted (n + 1)
counted-next n = omega arith

pub one_passed : (read : List ℕ → Option Data) (text rest line after : List ℕ) (ds : List Data) (number next : ℕ) → position_or_len is_newline rest < length rest
    → line ≡ before_first is_newline rest → after ≡ after_first is_newline rest → line_values read line ≡ Some ds → next ≡ counted (number + 1)
    → Passed read text rest number → Passed read text after next
one_passed read text rest line after ds number next there first second value one p = (
  p.0 ++ line ∷ [],
  p.1 ∙ ap (λ lines. p.0 ++ lines) (first_of_text rest line after there first second) ∙ sym (append_assoc p.0 (line ∷ []) (slice_split is_newline after)),
  All-push (λ l. IsSome (line_values read l)) p.0 line p.2 (has_value _ ds value),
  one ∙ ap (λ n. counted (n + 1)) p.3 ∙ counted-next (length p.0 + 1) ∙ ap (λ n. counted (n + 1)) (sym (length_push p.0 line)),
)

pub bad_line : (numbers : Numbers) (text rest line after : List ℕ) (number n : ℕ) → position_or_len is_newline rest < length rest
    → line ≡ before_first is_newline rest → after ≡ after_first is_newline rest → (line_values (text_data numbers) line ≡ None) × (n ≡ number)
    → Passed (text_data numbers) text rest number → HasBadLine numbers text n
bad_line numbers text rest line after number n there first second bad p =
    (p.0, line, slice_split is_newline after, p.1 ∙ ap (λ lines. p.0 ++ lines) (first_of_text rest line after there first second), p.2, bad.0, bad.1 ∙ p.3)

pub last_bad : (numbers : Numbers) (text rest : List ℕ) (number n : ℕ) → position_or_len is_newline rest ≡ length rest → (line_values (text_data numbers) rest ≡ None) × (n ≡ number)
    → Passed (text_data numbers) text rest number → HasBadLine numbers text n
last_bad numbers text rest number n there bad p = (p.0, rest, [], p.1 ∙ ap (λ lines. p.0 ++ lines) (last_of_text rest there), p.2, bad.0, bad.1 ∙ p.3)

pub map-push : (new old : List Value) (v : Value) → new ≡ old ++ v ∷ [] → map view new ≡ map view old ++ view v ∷ []
map-push new old v is = ap (map view) is ∙ map-append view old (v ∷ [])
