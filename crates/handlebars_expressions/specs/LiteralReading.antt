-- Reading a literal from left to right, with the kinds of its open brackets, as functions on lists.
use Rattle.std.specs.Prelude.{ℕ, suc, ◌+◌, ◌-◌, Bool, true, false, not, ◌&&◌, ◌||◌, ◌==◌, if◌then◌else◌, max, List, [], ◌∷◌, length, take, drop, Option, Some, None, is_some}
use Rattle.std.specs.Char.{is_ascii_digit, is_ascii_lowercase}
use Rattle.std.specs.List.{prefix_len}
use Rattle.handlebars_base.specs.Bytes.{Text, double_quote, single_quote, hyphen, colon, backslash, left_bracket, left_brace, after_white}
use Rattle.handlebars_base.specs.Optional.{◌>>=◌, with_or}
use Rattle.handlebars_base.specs.Texts.{starts, after_byte}
use Rattle.handlebars_expressions.specs.Runs.{ReadingStep, goes, ends, stuck, read_all}
use Rattle.handlebars_expressions.specs.Literal.{comma, is_number, is_in_range, is_word, Bracket, array, object, closer, continues_literal}

-- ---- marks and runs

-- what follows the quote that closes a text, after a backslash or not
abbrev pub after_quote : ℕ → Bool → Text → Option Text
after_quote quote escaped [] = None
after_quote quote true (b ∷ t) = after_quote quote false t
after_quote quote false (b ∷ t) = if b == quote then Some t else after_quote quote (b == backslash) t

-- a byte that a number may begin with
abbrev pub begins_number : ℕ → Bool
begins_number b = is_ascii_digit b || (b == hyphen)

-- a lowercase letter with which no literal begins
abbrev pub begins_name : ℕ → Bool
begins_name b = is_ascii_lowercase b && not ((b == 110) || ((b == 116) || (b == 102)))

-- the longest prefix in which each byte may continue a literal
abbrev pub run_of : Text → Text
run_of t = take (prefix_len continues_literal t) t

abbrev pub after_run : Text → Text
after_run t = drop (prefix_len continues_literal t) t

-- ---- what comes next

-- what follows a number or a word
unfoldable pub after_scalar : Text → Option Text
after_scalar t = if is_number (run_of t) || is_word (run_of t) then Some (after_run t) else None

-- what follows a number or a word, or outside brackets a text in single quotes
unfoldable pub undoubled_at : Bool → Text → Option Text
undoubled_at true t = after_scalar t
undoubled_at false t = with_or (after_byte single_quote t) (after_quote single_quote false) (after_scalar t)

-- what follows a text in quotes, a number or a word, inside brackets or not
unfoldable pub unbracketed_at : Bool → Text → Option Text
unbracketed_at inside t = with_or (after_byte double_quote t) (after_quote double_quote false) (undoubled_at inside t)

-- Whether the number at the start is in range. If another literal is at the start, no number is out of range.
unfoldable pub in_range_at : Text → Bool
in_range_at t = not (is_number (run_of t)) || is_in_range (run_of t)

-- where the literal of an entry is: in an object after a key, its colon and whitespace
abbrev pub after_lead : Bracket → Text → Option Text
after_lead array t = Some t
after_lead object t =
    after_byte double_quote t >>= after_quote double_quote false >>= λ r.
    after_byte colon (after_white r) >>= λ r. Some (after_white r)

-- what comes next, and what follows it: a literal with no brackets, its number in range or not; empty brackets; an opening
-- bracket and what leads to its first entry; a comma and what leads to another; or a closing bracket
pub data Lexeme : Type 0 where
  unbracketed : Bool → Text → Lexeme
  empty_brackets : Text → Lexeme
  opening_bracket : Bracket → Text → Lexeme
  another_entry : Text → Lexeme
  closing_bracket : Text → Lexeme
  literal_end : Lexeme
  no_token : Lexeme

-- after an opening bracket and whitespace
unfoldable pub bracket_token : Bracket → Text → Lexeme
bracket_token k t = with_or (after_byte (closer k) t) empty_brackets (with_or (after_lead k t) (opening_bracket k) no_token)

-- where a literal is expected, inside brackets or not
unfoldable pub value_token : Bool → Text → Lexeme
value_token inside t =
    with_or (after_byte left_bracket t) (λ r. bracket_token array (after_white r))
    (with_or (after_byte left_brace t) (λ r. bracket_token object (after_white r)) (with_or (unbracketed_at inside t) (unbracketed (in_range_at t)) no_token))

-- after an entry and whitespace
unfoldable pub entry_token : Bracket → Text → Lexeme
entry_token k t =
    with_or (after_byte comma t) (λ r. with_or (after_lead k (after_white r)) another_entry no_token)
    (with_or (after_byte (closer k) t) closing_bracket no_token)

-- after a literal, in brackets or not
abbrev pub after_token : Option Bracket → Text → Lexeme
after_token None t = literal_end
after_token (Some k) t = entry_token k (after_white t)

unfoldable pub token_at : Bool → Option Bracket → Text → Lexeme
token_at true inner t = value_token (is_some inner) t
token_at false inner t = after_token inner t

-- ---- steps

-- A literal is expected here, or precedes; in these brackets, the innermost first.
pub data LiteralState : Type 0 where
  ahead : List Bracket → LiteralState
  after : List Bracket → LiteralState

abbrev pub innermost : List Bracket → Option Bracket
innermost [] = None
innermost (k ∷ ks) = Some k

abbrev pub outer : List Bracket → List Bracket
outer [] = []
outer (k ∷ ks) = ks

-- what a step finds: how many nested brackets are open when it has opened one, or 0 if it opens none; and whether it reads no
-- number, or one in range
pub record StepFinding : Type 0 where
  pub height : ℕ
  pub within_range : Bool

abbrev pub opened_brackets : ℕ → StepFinding
opened_brackets n = record { height = n; within_range = true }

abbrev pub unbracketed_read : Bool → StepFinding
unbracketed_read in_range = record { height = 0; within_range = in_range }

abbrev pub taken : List Bracket → Lexeme → ReadingStep StepFinding LiteralState
taken ks (unbracketed in_range r) = goes (unbracketed_read in_range) (after ks) r
taken ks (empty_brackets r) = goes (opened_brackets (suc (length ks))) (after ks) r
taken ks (opening_bracket k r) = goes (opened_brackets (suc (length ks))) (ahead (k ∷ ks)) r
taken ks (another_entry r) = goes (opened_brackets 0) (ahead ks) r
taken ks (closing_bracket r) = goes (opened_brackets 0) (after (outer ks)) r
taken ks literal_end = ends
taken ks no_token = stuck

abbrev pub literal_step : LiteralState → Text → ReadingStep StepFinding LiteralState
literal_step (ahead ks) t = taken ks (value_token (is_some (innermost ks)) t)
literal_step (after ks) t = taken ks (after_token (innermost ks) t)

-- the greatest of these heights and m
abbrev pub most : ℕ → List StepFinding → ℕ
most m [] = m
most m (x ∷ xs) = most (max m x.height) xs

-- each of these numbers is in range, and b holds
abbrev pub all_in_range : Bool → List StepFinding → Bool
all_in_range b [] = b
all_in_range b (x ∷ xs) = all_in_range (b && x.within_range) xs

-- ---- the literal at the start

-- a literal's text, what follows it, how deep it is, and whether its numbers are in range
pub record LiteralToken : Type 0 where
  pub raw : Text
  pub rest : Text
  pub depth : ℕ
  pub in_range : Bool

-- the literal that ends before this rest, unless its last word continues there
abbrev pub literal_token_to : Text → Text → ℕ → Bool → Option LiteralToken
literal_token_to t rest depth in_range =
    if starts continues_literal rest
    then None
    else Some (record { raw = take (length t - length rest) t; rest = rest; depth = depth; in_range = in_range })

unfoldable pub literal_at : Text → Option LiteralToken
literal_at t =
    read_all literal_step (length t + 1) (ahead []) t >>= λ r. literal_token_to t r.1 (most 0 r.0) (all_in_range true r.0)
