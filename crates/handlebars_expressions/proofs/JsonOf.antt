-- What is read as JSON is the literal's JSON, and that is the value of the literal.
use Rattle.std.proofs.Common.{◌≡◌, ℕ, suc, ◌-◌, Bool, true, false, ◌&&◌, cond, List, [], ◌∷◌, ◌++◌, length, get_or, Option, Some, None, refl, sym, ap, ◌∙◌, append-nil, arith, length-append}
use Rattle.std.specs.Prelude.{◌==◌, nat_lt}
use Rattle.std.proofs.Math.Dec.{eqb-suc-zero}
use Rattle.std.proofs.lemmas.Bool.{lt-ltb, eq-eqb}
use Rattle.std.proofs.lemmas.List.{take_at}
use Rattle.handlebars_base.specs.Optional.{◌>>=◌}
use Rattle.handlebars_base.specs.Texts.{after_byte}
use Rattle.handlebars_base.proofs.Prefixes.{after_byte-not, after_byte-same}
use Rattle.handlebars_expressions.specs.Literal.{array, object, Literal, quoted, single_quoted, number, word, empty, filled, spelled_literal, literal_depth, numbers_in_range, IsLiteral}
use Rattle.handlebars_expressions.specs.LiteralValue.{json_of}
use Rattle.handlebars_expressions.specs.LiteralValueReading.{before, json_text, literal_value_of}
use Rattle.serde_json.specs.Data.{Data}
use Rattle.serde_json.specs.Read.{read as read_text}
use Rattle.handlebars_expressions.specs.Laws.{HasLiteral, ValueOfLiteral, ValueOfOther}
use Rattle.handlebars_expressions.specs.LiteralReading.{LiteralToken, literal_at}
use Rattle.handlebars_expressions.proofs.Plain.{number_goes_on, word_goes_on}
use Rattle.handlebars_expressions.proofs.LiteralsFound.{plain_begins, no_mark, literal_at-some, literal_at-is}

get_or-last : (t : List ℕ) (c : ℕ) → get_or (t ++ c ∷ []) (length t) 0 ≡ c
get_or-last [] c = refl
get_or-last (b ∷ t) c = get_or-last t c

before-last : (c : ℕ) (t : List ℕ) → before c (t ++ c ∷ []) ≡ Some t
unfolding before
before-last c t =
    let long : length (t ++ c ∷ []) ≡ suc (length t) = length-append t (c ∷ []) ∙ omega arith in
    let less : length (t ++ c ∷ []) - 1 ≡ length t = omega (arith, long) in
    let some : nat_lt 0 (length (t ++ c ∷ [])) ≡ true = lt-ltb 0 (length (t ++ c ∷ [])) (omega (arith, long)) in
    let same : (c == c) ≡ true = eq-eqb c c refl in
    rw (some, less, get_or-last t c, same, take_at t (c ∷ []) (length t) refl) refl

-- what begins with no single quote is read as written
as_written : (t : List ℕ) → after_byte 39 t ≡ None → json_text t ≡ t
as_written t h = rw h refl

json_text-literal : (l : Literal) → IsLiteral l → json_text (spelled_literal l) ≡ json_of l
json_text-literal (quoted t) fits = as_written (spelled_literal (quoted t)) (after_byte-not 39 (spelled_literal (quoted t)) refl)
json_text-literal (single_quoted t) fits = rw (after_byte-same 39 (t ++ 39 ∷ []), before-last 39 t) refl
json_text-literal (number t) fits = as_written t (no_mark 39 t refl (plain_begins t (number_goes_on t fits)))
json_text-literal (word t) fits = as_written t (no_mark 39 t refl (plain_begins t (word_goes_on t fits)))
json_text-literal (empty array w) fits = as_written (spelled_literal (empty array w)) (after_byte-not 39 (spelled_literal (empty array w)) refl)
json_text-literal (empty object w) fits = as_written (spelled_literal (empty object w)) (after_byte-not 39 (spelled_literal (empty object w)) refl)
json_text-literal (filled array lead l w more) fits = as_written (spelled_literal (filled array lead l w more)) (after_byte-not 39 (spelled_literal (filled array lead l w more)) refl)
json_text-literal (filled object lead l w more) fits = as_written (spelled_literal (filled object lead l w more)) (after_byte-not 39 (spelled_literal (filled object lead l w more)) refl)

abbrev token_alone : Literal → LiteralToken
token_alone l = record { raw = spelled_literal l; rest = []; depth = literal_depth l; in_range = numbers_in_range l }

has_literal-alone : (l : Literal) → IsLiteral l → HasLiteral (spelled_literal l) (token_alone l)
has_literal-alone l fits = record {
  literal = l;
  is = record { whole = sym (append-nil (spelled_literal l)); fits = fits; stops = refl };
  raw = refl;
  depth = refl;
  in_range = refl;
}

pub value_of_literal : ValueOfLiteral
unfolding literal_value_of
value_of_literal l fits =
    rw (literal_at-is (spelled_literal l) (token_alone l) (has_literal-alone l fits))
    (on (numbers_in_range l))
  where
    on : (b : Bool) → cond (b && true) (read_text (json_text (spelled_literal l))) None ≡ cond b (read_text (json_of l)) None
    on true = ap read_text (json_text-literal l fits)
    on false = refl

abbrev token_value : LiteralToken → Option Data
token_value token = cond (token.in_range && (length token.rest == 0)) (read_text (json_text token.raw)) None

pub value_of_other : ValueOfOther
unfolding literal_value_of
value_of_other text none = on (literal_at text) refl
  where
    rejected : (b : Bool) (x : Option Data) → cond (b && false) x None ≡ None
    rejected true x = refl
    rejected false x = refl

    after : (f : LiteralToken) (rest : List ℕ) → f.rest ≡ rest → HasLiteral text f → token_value f ≡ None
    after f [] e h = absurd (none h.literal h.is.fits (h.is.whole ∙ ap (λ (z : List ℕ). spelled_literal h.literal ++ z) e ∙ append-nil (spelled_literal h.literal)))
    after f (b ∷ rest) e h = rw (e, eqb-suc-zero (length rest)) (rejected f.in_range (read_text (json_text f.raw)))

    on : (o : Option LiteralToken) → literal_at text ≡ o → (o >>= token_value) ≡ None
    on None e = refl
    on (Some f) e = after f f.rest refl (literal_at-some text f e)
