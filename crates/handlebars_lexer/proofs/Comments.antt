-- Where comments end.
use Rattle.std.proofs.Common.{◌≡◌, ◌<◌, length, get_or, drop, Bool, true, false, [], ◌∷◌, ◌++◌, Option, Some, None, option_map, refl, sym, ap, subst, ◌∙◌, append_assoc, arith, inl, inr}
use Rattle.std.specs.Prelude.{not, codes}
use Rattle.std.specs.Option.{is_some}
use denote.Ref.{Bor}
use Rattle.std.specs.Str.{IsCharBoundary, IsUtf8}
use Rattle.std.proofs.lemmas.Str.{IsCharBoundary-after_ascii}
use Rattle.std.proofs.lemmas.Bool.{cases_Bool}
use Rattle.std.proofs.lemmas.Option.{same_Some, none-some}
use Rattle.std.proofs.lemmas.List.{append_cancel_right}
use Rattle.handlebars_base.specs.Bytes.{Text, right_brace, is_white, after_white}
use Rattle.handlebars_base.proofs.OptionBinds.{bind_some, none_or_some}
use Rattle.handlebars_base.proofs.Prefixes.{after_byte_other}
use Rattle.handlebars_base.specs.Texts.{IsSuffix, after_byte}
use Rattle.handlebars_base.proofs.Ends.{end-after, end-white}
use Rattle.handlebars_base.proofs.Bytes.{other_byte}
use Rattle.handlebars_lexer.specs.Kind.{after_text}
use Rattle.handlebars_lexer.specs.Comment.{after_mark, after_long, after_compact, long_text, compact_text, HasNoLong, IsComment, long, compact, OneComment}
use Rattle.handlebars_lexer.proofs.Marks.{after_text-takes, after_mark-cut, after_mark-end}

-- ---- suffixes of a text

dashes-end : (t d : Text) → after_text (codes "--") (after_white t) ≡ Some d → IsSuffix t d
dashes-end t d e = end-after t (after_white t) d (end-white t) (codes "--", after_text-takes (codes "--") (after_white t) d e)

after_long-end : (t rest : Text) → after_long t ≡ Some rest → IsSuffix t rest
after_long-end t rest e =
    let b = bind_some (after_text (codes "--") (after_white t)) (after_mark (codes "--}}")) rest e in
    end-after t b.0 rest (dashes-end t b.0 b.1) (after_mark-cut (codes "--}}") b.0 rest b.2)

-- ---- what is here

-- after its mark, the token spells the comment
spelled : (source inside token rest : Text) → after_text (codes "{{!") source ≡ Some inside → source ≡ token ++ rest → (cut : IsSuffix inside rest) → codes "{{!" ++ cut.0 ≡ token
spelled source inside token rest e whole cut =
    append_cancel_right (codes "{{!" ++ cut.0) token rest (append_assoc (codes "{{!") cut.0 rest ∙ ap (λ (z : Text). codes "{{!" ++ z) (sym cut.1) ∙ sym (after_text-takes (codes "{{!") source inside e) ∙ whole)

pub IsComment-long : (source inside token rest : Text) → after_text (codes "{{!") source ≡ Some inside → source ≡ token ++ rest → after_long inside ≡ Some rest → IsComment inside (long_text token) rest
IsComment-long source inside token rest e whole ends =
    let cut = after_long-end inside rest ends in
    subst (λ (z : Text). IsComment inside (long_text z) rest) (spelled source inside token rest e whole cut) (long cut.0 cut.1 ends)

pub IsComment-compact : (source inside token rest : Text) → after_text (codes "{{!") source ≡ Some inside → source ≡ token ++ rest → after_long inside ≡ None → after_compact inside ≡ Some rest
    → IsComment inside (compact_text token) rest
IsComment-compact source inside token rest e whole none ends =
    let cut = after_mark-cut (codes "}}") inside rest ends in
    subst (λ (z : Text). IsComment inside (compact_text z) rest) (spelled source inside token rest e whole cut) (compact cut.0 cut.1 none ends)

same_body : (inside body body' rest rest' : Text) → inside ≡ body ++ rest → inside ≡ body' ++ rest' → rest ≡ rest' → body ≡ body'
same_body inside body body' rest rest' e e' same = append_cancel_right body body' rest' (ap (λ (z : Text). body ++ z) (sym same) ∙ sym e ∙ e')

pub one_comment : OneComment
one_comment inside _ _ _ _ (long {rest = rest} body e is) (long {rest = rest'} body' e' is') =
    let same = same_Some rest rest' (sym is ∙ is') in
    (ap (λ (z : Text). long_text (codes "{{!" ++ z)) (same_body inside body body' rest rest' e e' same), same)
one_comment inside _ _ _ _ (long {rest = rest} body e is) (compact body' e' none is') = absurd (none-some rest (sym none ∙ is))
one_comment inside _ _ _ _ (compact body e none is) (long {rest = rest'} body' e' is') = absurd (none-some rest' (sym none ∙ is'))
one_comment inside _ _ _ _ (compact {rest = rest} body e none is) (compact {rest = rest'} body' e' none' is') =
    let same = same_Some rest rest' (sym is ∙ is') in
    (ap (λ (z : Text). compact_text (codes "{{!" ++ z)) (same_body inside body body' rest rest' e e' same), same)

-- ---- what begins with the mark

pub begins-boundary : (source : Text) → IsUtf8 source → after_text (codes "{{!") source ≡ Some (drop 3 source) → IsCharBoundary source 3
begins-boundary source utf8 e =
    let whole = after_text-takes (codes "{{!") source (drop 3 source) e in
    let long : 2 < length source = omega (arith, ap length whole) in
    let low : get_or source 2 0 < 128 = omega (arith, ap (λ (z : Text). get_or z 2 0) whole) in
    IsCharBoundary-after_ascii source 2 utf8 long low

pub inside-end : (source inside rest : Text) → after_text (codes "{{!") source ≡ Some inside → IsSuffix inside rest → IsSuffix source rest
inside-end source inside rest e cut = end-after source inside rest (codes "{{!", after_text-takes (codes "{{!") source inside e) cut

pub long-end : (source rest : Text) → after_text (codes "{{!") source ≡ Some (drop 3 source) → after_long (drop 3 source) ≡ Some rest → IsSuffix source rest
long-end source rest e is = inside-end source (drop 3 source) rest e (after_long-end (drop 3 source) rest is)

-- ---- if no long comment ends further on

-- the end of a compact comment comes after whitespace and dashes
after_compact-white : (t : Text) → after_compact (after_white t) ≡ after_compact t
after_compact-white [] = refl
after_compact-white (b ∷ t) = elim (cases_Bool (is_white b)) [
  | inl white ↦
      let none : after_text (codes "}}") (b ∷ t) ≡ None = rw (after_byte_other right_brace b t (other_byte is_white right_brace refl b white)) refl in
      rw (white, none) (after_compact-white t)
  | inr dark ↦ rw dark refl
]

after_compact-dashes : (d : Text) → after_compact (codes "--" ++ d) ≡ after_compact d
unfolding after_byte
after_compact-dashes d = refl

-- after a compact comment no long one ends, if none ends in all of the text, or none after the dashes
no_end-after : (t rest : Text) → IsSuffix t rest → after_mark (codes "--}}") t ≡ None → after_mark (codes "--}}") rest ≡ None
no_end-after t rest cut none = after_mark-end (codes "--}}") cut.0 rest (ap (after_mark (codes "--}}")) (sym cut.1) ∙ none)

-- what holds of a text holds of its suffixes
pub HasNoLong-end : (long_ahead : Bool) (t rest : Text) → IsSuffix t rest → HasNoLong long_ahead t → HasNoLong long_ahead rest
HasNoLong-end long_ahead t rest cut none = λ e. no_end-after t rest cut (none e)

no_end-dashes : (t d rest : Text) → after_text (codes "--") (after_white t) ≡ Some d → after_long t ≡ None → after_compact t ≡ Some rest → after_mark (codes "--}}") rest ≡ None
no_end-dashes t d rest dashes no_long e =
    let there : after_mark (codes "--}}") d ≡ None = rw dashes at no_long in
    let shape : after_white t ≡ codes "--" ++ d = after_text-takes (codes "--") (after_white t) d dashes in
    let same : after_compact d ≡ Some rest = sym (after_compact-dashes d) ∙ ap after_compact (sym shape) ∙ after_compact-white t ∙ e in
    no_end-after d rest (after_mark-cut (codes "}}") d rest same) there

pub no_end-searched : (t rest : Text) (o : Option (Bor Text)) (none : Bool) → option_map (λ (x : Bor Text). x.now) o ≡ after_text (codes "--") (after_white t) → is_some o ≡ not none → none ≡ false
    → after_long t ≡ None → after_compact t ≡ Some rest → after_mark (codes "--}}") rest ≡ None
no_end-searched t rest None none is said some no_long e = let there : not none ≡ true = ap not some in absurd cc
no_end-searched t rest (Some d) none is said some no_long e = no_end-dashes t d.now rest (sym is) no_long e

-- if no long comment ends in the text, none is at the start
pub after_long-none : (t : Text) → after_mark (codes "--}}") t ≡ None → after_long t ≡ None
after_long-none t none = elim (none_or_some (after_text (codes "--") (after_white t))) [
  | inl short ↦ rw short refl
  | inr some ↦ rw some.1 (no_end-after t some.0 (dashes-end t some.0 some.1) none)
]
