-- The kind of a tag, determined by its beginning, and what closes the tag.
use Rattle.std.specs.Prelude.{Bool, true, false, ◌||◌, ◌==◌, if◌then◌else◌, List, [], ◌∷◌, Option, Some, None, codes, is_some}
use Rattle.handlebars_base.specs.Bytes.{Text, right_brace, is_white, after_white}
use Rattle.handlebars_base.specs.Optional.{◌>>=◌, with_or}
use Rattle.handlebars_base.specs.Texts.{starts, after_byte}
use Rattle.handlebars_expressions.specs.Expression.{tilde}

-- what follows a mark of several bytes, if the text begins with it
abbrev pub after_text : Text → Text → Option Text
after_text [] t = Some t
after_text (b ∷ mark) t = after_byte b t >>= after_text mark

-- the kinds of tags: a value, escaped, raw by its braces, or raw by a sign; the beginning of a block, its end, its inverse, or
-- `else`, which is its inverse too or, with the expression of a block, a chained one; the beginning of a raw block, or its end;
-- a decorator, or the beginning of a decorator block; a partial, or the beginning of a partial block; or a comment
pub data TagKind : Type 0 where
  escaped_kind : TagKind
  html_kind : TagKind
  html_sign_kind : TagKind
  block_kind : TagKind
  close_kind : TagKind
  inverse_kind : TagKind
  else_kind : TagKind
  raw_kind : TagKind
  raw_close_kind : TagKind
  decorator_kind : TagKind
  decorator_block_kind : TagKind
  partial_kind : TagKind
  partial_block_kind : TagKind
  comment_kind : TagKind

-- the kind of a tag, whether a tilde follows its opening braces, and what is inside
pub record TagBeginning : Type 0 where
  pub kind : TagKind
  pub tilde : Bool
  pub inside : Text

abbrev pub beginning : TagKind → Bool → Text → TagBeginning
beginning kind tilde inside = record { kind = kind; tilde = tilde; inside = inside }

-- optional whitespace and, optionally, a tilde with optional whitespace after it: whether the tilde is there, and what follows
abbrev pub tilde_at : Text → Bool × Text
tilde_at t = with_or (after_byte tilde (after_white t)) (λ r. (true, after_white r)) (false, after_white t)

-- ---- the table of kinds

-- What follows the braces: optional whitespace and, optionally, a tilde with optional whitespace after it; the same with a
-- mandatory tilde; or nothing, so that the inside begins at once.
pub data Tilde : Type 0 where
  maybe_tilde : Tilde
  a_tilde : Tilde
  no_tilde : Tilde

-- what precedes the inside: nothing; a mark, with optional whitespace after it; or a word by itself
pub data Sign : Type 0 where
  no_sign : Sign
  mark : Text → Sign
  word : Text → Sign

-- a row of the table: braces, a tilde and a sign, and the kind of the tags that begin with them
pub record Row : Type 0 where
  pub braces : Text
  pub tilde : Tilde
  pub sign : Sign
  pub kind : TagKind

abbrev pub row : Text → Tilde → Sign → TagKind → Row
row braces tilde sign kind = record { braces = braces; tilde = tilde; sign = sign; kind = kind }

-- The ordered table: the kind of a tag is that of the first row that matches its beginning.
abbrev pub rows : List Row
rows =
    row (codes "{{{{") maybe_tilde (mark (codes "/")) raw_close_kind ∷
    row (codes "{{{{") maybe_tilde no_sign raw_kind ∷
    row (codes "{{{") maybe_tilde no_sign html_kind ∷
    row (codes "{{!") no_tilde no_sign comment_kind ∷
    row (codes "{{") a_tilde (mark (codes "{")) html_kind ∷
    row (codes "{{") maybe_tilde (mark (codes "&")) html_sign_kind ∷
    row (codes "{{") maybe_tilde (mark (codes "#*")) decorator_block_kind ∷
    row (codes "{{") maybe_tilde (mark (codes "#>")) partial_block_kind ∷
    row (codes "{{") maybe_tilde (mark (codes "#")) block_kind ∷
    row (codes "{{") maybe_tilde (mark (codes "/")) close_kind ∷
    row (codes "{{") maybe_tilde (mark (codes "^")) inverse_kind ∷
    row (codes "{{") maybe_tilde (mark (codes "*")) decorator_kind ∷
    row (codes "{{") maybe_tilde (mark (codes ">")) partial_kind ∷
    row (codes "{{") maybe_tilde (word (codes "else")) else_kind ∷
    row (codes "{{") maybe_tilde no_sign escaped_kind ∷ []

-- ---- how it is read

-- whether a tilde is there, and what follows it
abbrev pub after_tilde : Tilde → Text → Option (Bool × Text)
after_tilde maybe_tilde t = Some (tilde_at t)
after_tilde a_tilde t = after_byte tilde (after_white t) >>= λ r. Some (true, after_white r)
after_tilde no_tilde t = Some (false, t)

-- whether a word ends before the text: whitespace, a tilde or closing braces are at its start
abbrev pub ends_word : Text → Bool
ends_word t = starts (λ b. is_white b || (b == tilde)) t || is_some (after_text (codes "}}") t)

abbrev pub after_sign : Sign → Text → Option Text
after_sign no_sign t = Some t
after_sign (mark m) t = after_text m t >>= λ r. Some (after_white r)
after_sign (word w) t = after_text w t >>= λ r. if ends_word r then Some r else None

-- the beginning that this row gives, if it matches the start of the text
abbrev pub row_at : Row → Text → Option TagBeginning
row_at row t =
    after_text row.braces t >>= after_tilde row.tilde >>=
    λ p. after_sign row.sign p.1 >>= λ inside. Some (beginning row.kind p.0 inside)

-- the beginning that the first matching row gives
abbrev pub first_of : List Row → Text → Option TagBeginning
first_of [] t = None
first_of (row ∷ rest) t = with_or (row_at row t) Some (first_of rest t)

-- the beginning of the tag at the start of the text
unfoldable pub beginning_of : Text → Option TagBeginning
beginning_of t = first_of rows t

-- ---- what closes a tag

-- these braces after an optional tilde: whether the tilde is there, and what follows the braces
abbrev pub close_by : Text → Text → Option (Bool × Text)
close_by braces t = after_text braces (tilde_at t).1 >>= λ r. Some ((tilde_at t).0, r)

-- one brace, a tilde, and two braces
abbrev pub brace_tilde_braces : Text → Option (Bool × Text)
brace_tilde_braces t =
    after_byte right_brace (after_white t) >>= λ r. after_byte tilde (after_white r) >>=
    λ s. after_text (codes "}}") (after_white s) >>= λ u. Some (true, u)

-- three braces after an optional tilde, or with a tilde between the first and the others
abbrev pub three_close : Text → Option (Bool × Text)
three_close t = with_or (close_by (codes "}}}") t) Some (brace_tilde_braces t)

-- whether a tilde precedes the closing braces, and what follows them. A comment holds its own closing braces.
unfoldable pub closing_of : TagKind → Text → Option (Bool × Text)
closing_of html_kind t = three_close t
closing_of raw_kind t = close_by (codes "}}}}") t
closing_of raw_close_kind t = close_by (codes "}}}}") t
closing_of comment_kind t = Some (false, t)
closing_of kind t = close_by (codes "}}") t
