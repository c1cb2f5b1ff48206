-- Comments: where a comment ends, and its text.
use Rattle.std.specs.Prelude.{◌≡◌, Bool, false, ℕ, zero, suc, [], ◌∷◌, ◌++◌, length, reverse, Option, Some, None, codes}
use Rattle.handlebars_base.specs.Bytes.{Text, after_white}
use Rattle.handlebars_base.specs.Optional.{◌>>=◌, with_or}
use Rattle.handlebars_lexer.specs.Kind.{after_text}

-- what follows the first occurrence of the mark
abbrev pub after_mark : Text → Text → Option Text
after_mark mark [] = None
after_mark mark (b ∷ t) = with_or (after_text mark (b ∷ t)) Some (after_mark mark t)

-- What follows a long comment, which is optional whitespace, two dashes, and a text up to the next `--}}`.
abbrev pub after_long : Text → Option Text
after_long t = after_text (codes "--") (after_white t) >>= after_mark (codes "--}}")

-- What follows a compact comment, which is a text up to the next `}}`.
abbrev pub after_compact : Text → Option Text
after_compact t = after_mark (codes "}}") t

-- the text without the mark at its start, removed at most n times, as often as it is repeated there
abbrev pub without_prefixes : ℕ → Text → Text → Text
without_prefixes zero mark t = t
without_prefixes (suc n) mark t = with_or (after_text mark t) (without_prefixes n mark) t

abbrev pub without_prefix : Text → Text → Text
without_prefix mark t = without_prefixes (length t) mark t

-- the text without the mark at its end, removed as often as it is repeated there
abbrev pub without_back : Text → Text → Text
without_back mark t = reverse (without_prefix (reverse mark) (reverse t))

abbrev pub long_text : Text → Text
long_text token = without_back (codes "--}}") (without_prefix (codes "{{!--") token)

abbrev pub compact_text : Text → Text
compact_text token = without_back (codes "}}") (without_prefix (codes "{{!") token)

-- If `long_ahead` is false, no long comment ends in the text.
abbrev pub HasNoLong : Bool → Text → Type 0
HasNoLong long_ahead t = long_ahead ≡ false → after_mark (codes "--}}") t ≡ None

-- IsComment inside comment_text rest: a comment with this text follows `{{!`, and the rest follows the comment. It is a long
-- comment if one fits, and a compact one otherwise.
pub data IsComment (inside : Text) : Text → Text → Type 0 where
  long : {rest : Text} (body : Text) → inside ≡ body ++ rest → after_long inside ≡ Some rest
      → IsComment inside (long_text (codes "{{!" ++ body)) rest
  compact : {rest : Text} (body : Text) → inside ≡ body ++ rest → after_long inside ≡ None
      → after_compact inside ≡ Some rest → IsComment inside (compact_text (codes "{{!" ++ body)) rest

-- There is no comment here.
abbrev pub NoComment : Text → Type 0
NoComment inside = (comment_text rest : Text) → IsComment inside comment_text rest → ⊥

-- There is at most one comment here.
abbrev pub OneComment : Type 0
OneComment = (inside comment_text comment_text' rest rest' : Text) → IsComment inside comment_text rest → IsComment inside comment_text' rest'
    → (comment_text ≡ comment_text') × (rest ≡ rest')
