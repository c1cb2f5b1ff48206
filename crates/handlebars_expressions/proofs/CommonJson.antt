-- What JSON reads in the commonest texts.
use Rattle.std.proofs.Common.{codes, cond, ◌≡◌, ℕ, ◌<◌, ◌≤◌, not, ◌++◌, ap₂, ◌^◌, true, false, ◌&&◌, List, [], ◌∷◌, length, get_or, Option, Some, None, IfSome, option_map, option_and_then, decimal, refl, sym, ap, ◌∙◌, arith, append-nil}
use Rattle.std.specs.Prelude.{◌==◌, nat_lt, nat_le}
use Rattle.std.specs.List.{list_all}
use Rattle.std.specs.Str.Parse.{digits_value}
use Rattle.std.proofs.lemmas.Bool.{and_parts, eqb-false, leb-true, ltb-true, not-true}
use Rattle.std.proofs.lemmas.Fmt.{decimal-digits_value}
use Rattle.std.proofs.lemmas.Option.{cond_some}
use Rattle.json.specs.Json as json
use Rattle.json.specs.Lex.{lex, punctuate, tokens}
use Rattle.json.specs.Print.{escape, quoted, print, print_from, ArePrintable}
use Rattle.json.specs.Token.{Token, number as number_token, string as string_token}
use Rattle.json.specs.Word.{word}
use Rattle.json.proofs.Printed.Decimals.{IsNumber-decimal}
use Rattle.json.proofs.Printed.Strings.{escape_byte_plain}
use Rattle.json.proofs.Printed.Tokens.{tokens-print}
use Rattle.serde_json.specs.Data.{Data, null, boolean, number, string, unsigned}
use Rattle.serde_json.specs.Read.{of_json, max_depth, read as read_text}
use Rattle.serde_json.specs.View.{view}
use Rattle.serde_json.specs.declared.value.Value.{Null, Bool as BoolOf}
use Rattle.serde_json.proofs.Numbers.{number_of-decimal}
use Rattle.handlebars_base.proofs.Prefixes.{after_byte_other}
use Rattle.handlebars_base.proofs.ShownValues.{view-Null, view-Bool}
use Rattle.handlebars_expressions.specs.Literal.{is_inner, is_digits, number_of, is_in_range, quoted as quoted_literal, single_quoted, number as number_literal, word as word_literal}
use Rattle.handlebars_expressions.specs.CommonJson.{has_leading_zero, is_plain_byte, is_not_single}
use Rattle.handlebars_expressions.specs.LiteralValue.{escaped_doubles, double_quoted}
use Rattle.handlebars_expressions.specs.LiteralValueReading.{literal_value_of}
use Rattle.handlebars_expressions.proofs.JsonOf.{value_of_literal}
use Rattle.handlebars_expressions.proofs.Numbers.{digits}
use Rattle.handlebars_expressions.proofs.Plain.{no_minus, is_number-digits}
use Rattle.handlebars_expressions.proofs.Quotes.{Lacks, plain_singles-none, escaped_doubles-none}

-- the value that is read from tokens
abbrev from_tokens : List Token → Option Data
from_tokens ts = option_and_then of_json (option_and_then (λ p. json.if_last p.0 p.1) (json.value max_depth ts))

print-number : (s : List ℕ) → print (number_token s ∷ []) ≡ s
unfolding print_from
print-number s = append-nil s

are_printable-decimal : (n : ℕ) → n < 2 ^ 64 → ArePrintable (number_token (decimal n) ∷ [])
unfolding ArePrintable
are_printable-decimal n h = (IsNumber-decimal n h, tt)

tokens-decimal : (n : ℕ) → n < 2 ^ 64 → tokens (decimal n) ≡ number_token (decimal n) ∷ []
tokens-decimal n h = ap tokens (sym (print-number (decimal n))) ∙ tokens-print (number_token (decimal n) ∷ []) (are_printable-decimal n h)

read-decimal : (n : ℕ) → n < 2 ^ 64 → read_text (decimal n) ≡ Some (number (unsigned n))
unfolding json.value
read-decimal n h = ap from_tokens (tokens-decimal n h) ∙ ap (option_map number) (number_of-decimal n h)

below : (t : List ℕ) (n : ℕ) → number_of t ≡ Some n → (is_digits t ≡ true) × (digits_value 10 t < 2 ^ 64) × (digits_value 10 t ≡ n)
unfolding number_of
below t n e =
    let found = cond_some (is_digits t && nat_lt (digits_value 10 t) (2 ^ 64)) (digits_value 10 t) n e in
    let both = and_parts (is_digits t) (nat_lt (digits_value 10 t) (2 ^ 64)) found.0 in
    (both.0, ltb-true (digits_value 10 t) (2 ^ 64) both.1, found.1)

alone : (t : List ℕ) → has_leading_zero t ≡ false → get_or t 0 0 ≡ 48 → 0 < length t → length t ≡ 1
alone [] h is some = omega arith
alone (b ∷ []) h is some = refl
alone (b ∷ c ∷ t) h is some = absurd (eqb-false b 48 h is)

read-digits : (t : List ℕ) (n : ℕ) → has_leading_zero t ≡ false → number_of t ≡ Some n → read_text t ≡ Some (number (unsigned n))
read-digits [] n single e = absurd (let found = below [] n e in cc)
read-digits (b ∷ t) n single e =
    let found = below (b ∷ t) n e in
    let spelled : decimal (digits_value 10 (b ∷ t)) ≡ b ∷ t =
    decimal-digits_value digits (b ∷ t) found.0 (omega arith) (λ is. alone (b ∷ t) single is (omega arith)) found.1 in
    ap read_text (sym spelled) ∙ read-decimal (digits_value 10 (b ∷ t)) found.1 ∙ ap (λ v. Some (number (unsigned v))) found.2

-- ---- digits as literals

is_in_range-digits : (t : List ℕ) (n : ℕ) → is_digits t ≡ true → number_of t ≡ Some n → is_in_range t ≡ true
unfolding is_in_range
is_in_range-digits [] n h e = absurd cc
is_in_range-digits (b ∷ t) n h e = rw (after_byte_other 45 b t (no_minus b t h), e) refl

literal_value-digits : (t : List ℕ) (n : ℕ) → has_leading_zero t ≡ false → number_of t ≡ Some n → literal_value_of t ≡ Some (number (unsigned n))
literal_value-digits t n single e =
    let found = below t n e in
    value_of_literal (number_literal t) (is_number-digits t found.0)
    ∙ ap (λ b. cond b (read_text t) None) (is_in_range-digits t n found.0 e)
    ∙ read-digits t n single e

pub if_digits : (t : List ℕ) (o : Option ℕ) → has_leading_zero t ≡ false → o ≡ number_of t → IfSome o (λ n. literal_value_of t ≡ Some (number (unsigned n)))
if_digits t None single e = tt
if_digits t (Some n) single e = literal_value-digits t n single (sym e)

-- ---- words

read-true : read_text (codes "true") ≡ Some (boolean true)
unfolding lex punctuate word json.value
read-true = refl

read-false : read_text (codes "false") ≡ Some (boolean false)
unfolding lex punctuate word json.value
read-false = refl

read-null : read_text (codes "null") ≡ Some null
unfolding lex punctuate word json.value
read-null = refl

pub if_true : (t : List ℕ) → t ≡ codes "true" → literal_value_of t ≡ Some (view (BoolOf true))
if_true t is = ap literal_value_of is ∙ value_of_literal (word_literal (codes "true")) refl ∙ read-true ∙ ap Some (sym (view-Bool true))

pub if_false : (t : List ℕ) → t ≡ codes "false" → literal_value_of t ≡ Some (view (BoolOf false))
if_false t is = ap literal_value_of is ∙ value_of_literal (word_literal (codes "false")) refl ∙ read-false ∙ ap Some (sym (view-Bool false))

pub if_null : (t : List ℕ) → t ≡ codes "null" → literal_value_of t ≡ Some (view Null)
if_null t is = ap literal_value_of is ∙ value_of_literal (word_literal (codes "null")) refl ∙ read-null ∙ ap Some (sym view-Null)

-- ---- plain texts

record Plain (b : ℕ) : Type 0 where
  quote : (b == 34) ≡ false
  backslash : (b == 92) ≡ false
  above : 32 ≤ b

plain : (b : ℕ) → is_plain_byte b ≡ true → Plain b
plain b h =
    let first = and_parts (not (b == 34)) (not (b == 92) && nat_le 32 b) h in
    let second = and_parts (not (b == 92)) (nat_le 32 b) first.1 in
    record { quote = not-true (b == 34) first.0; backslash = not-true (b == 92) second.0; above = leb-true 32 b second.1 }

escape-plain : (t : List ℕ) → list_all is_plain_byte t ≡ true → escape t ≡ t
escape-plain [] h = refl
escape-plain (b ∷ t) h =
    let both = and_parts (is_plain_byte b) (list_all is_plain_byte t) h in
    let is = plain b both.0 in
    ap₂ (λ (x y : List ℕ). x ++ y) (escape_byte_plain b (eqb-false b 34 is.quote) (eqb-false b 92 is.backslash) is.above) (escape-plain t both.1)

read-string : (s : List ℕ) → read_text (quoted s) ≡ Some (string s)
unfolding print_from ArePrintable json.value
read-string s = ap from_tokens (ap tokens (sym (append-nil (quoted s))) ∙ tokens-print (string_token s ∷ []) (tt, tt))

read-plain : (t : List ℕ) → list_all is_plain_byte t ≡ true → read_text (34 ∷ (t ++ 34 ∷ [])) ≡ Some (string t)
read-plain t h = ap (λ (z : List ℕ). read_text (34 ∷ (z ++ 34 ∷ []))) (sym (escape-plain t h)) ∙ read-string t

lacks : (mark : ℕ) (t : List ℕ) → ((b : ℕ) → Plain b → (b == mark) ≡ false) → list_all is_plain_byte t ≡ true → Lacks mark t
lacks mark [] other h = tt
lacks mark (b ∷ t) other h =
    let both = and_parts (is_plain_byte b) (list_all is_plain_byte t) h in
    (ap not (other b (plain b both.0)), lacks mark t other both.1)

double_quoted-plain : (t : List ℕ) → list_all is_plain_byte t ≡ true → double_quoted t ≡ 34 ∷ (t ++ 34 ∷ [])
double_quoted-plain t h =
    ap (λ (z : List ℕ). 34 ∷ (escaped_doubles z ++ 34 ∷ [])) (plain_singles-none t (lacks 92 t (λ b is. is.backslash) h))
    ∙ ap (λ (z : List ℕ). 34 ∷ (z ++ 34 ∷ [])) (escaped_doubles-none t (lacks 34 t (λ b is. is.quote) h))

read-turned : (t : List ℕ) → list_all is_plain_byte t ≡ true → read_text (double_quoted t) ≡ Some (string t)
read-turned t h = ap read_text (double_quoted-plain t h) ∙ read-plain t h

is_inner-plain : (t : List ℕ) → list_all is_plain_byte t ≡ true → is_inner 34 false t ≡ true
is_inner-plain [] h = refl
is_inner-plain (b ∷ t) h =
    let both = and_parts (is_plain_byte b) (list_all is_plain_byte t) h in
    let is = plain b both.0 in
    rw (is.quote, is.backslash) (is_inner-plain t both.1)

pub literal_value-double : (t inner : List ℕ) → t ≡ 34 ∷ (inner ++ 34 ∷ []) → list_all is_plain_byte inner ≡ true → literal_value_of t ≡ Some (string inner)
literal_value-double t inner is h = ap literal_value_of is ∙ value_of_literal (quoted_literal inner) (is_inner-plain inner h) ∙ read-plain inner h

is_inner-single : (t : List ℕ) → list_all is_plain_byte t ≡ true → list_all is_not_single t ≡ true → is_inner 39 false t ≡ true
is_inner-single [] h single = refl
is_inner-single (b ∷ t) h single =
    let both = and_parts (is_plain_byte b) (list_all is_plain_byte t) h in
    let others = and_parts (is_not_single b) (list_all is_not_single t) single in
    let is = plain b both.0 in
    rw (not-true (b == 39) others.0, is.backslash) (is_inner-single t both.1 others.1)

pub literal_value-single : (t inner : List ℕ) → t ≡ 39 ∷ (inner ++ 39 ∷ []) → list_all is_plain_byte inner ≡ true → list_all is_not_single inner ≡ true → literal_value_of t ≡ Some (string inner)
literal_value-single t inner is h single = ap literal_value_of is ∙ value_of_literal (single_quoted inner) (is_inner-single inner h single) ∙ read-turned inner h
