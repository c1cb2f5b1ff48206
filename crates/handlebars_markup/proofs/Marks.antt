-- The marks of texts, and what of a text that is put comes from templates.
use Rattle.std.proofs.Common.{◌≡◌, ℕ, Bool, true, false, List, [], ◌∷◌, ◌++◌, Option, None, Some, unwrap_or, if◌then◌else◌, refl, sym, ap, ap₂, ◌∙◌, append_assoc, append-nil}
use Rattle.std.proofs.lemmas.Bool.{ne_eqb}
use Rattle.std.proofs.lemmas.List.Elements.{filter-append}
use Rattle.handlebars_base.specs.Bytes.{Text}
use Rattle.handlebars_base.specs.Escape.{escaped_byte, escaped}
use Rattle.handlebars_base.specs.EscapeLaws.{is_mark, marks_in}
use Rattle.handlebars_base.proofs.EscapedBytes.{IsOther, by_bytes, escaped_byte-other}
use Rattle.handlebars_scope.specs.Indentation.{lines_of, between, indented, takes_indent, indent_before, written_in}
use Rattle.handlebars_scope.specs.LineState.{LineState}
use Rattle.handlebars_scope.proofs.Indents.{indented-none}
use Rattle.handlebars_semantics.specs.Inclusion.{joined_indent}
use Rattle.handlebars_semantics.specs.Pieces.{Origin, of_text, of_value, of_raw, of_boolean_text, of_step, of_indent, occurrence_of, Piece, join, pieces_of, indent_pieces, pieces_between, pieces_before, put}
use Rattle.handlebars_semantics.proofs.Pieces.{join-put}
use Rattle.handlebars_semantics.proofs.Runs.{join-append}
use Rattle.handlebars_laws.proofs.RunStates.{joined_indent-own}
use Rattle.handlebars_markup.specs.TwoRuns.{fixed_text, fixed_texts, HaveSameMarkup}

-- ---- marks

pub marks_in-append : (t u : Text) → marks_in (t ++ u) ≡ marks_in t ++ marks_in u
marks_in-append t u = filter-append is_mark t u

marks_in-other : (b : ℕ) → IsOther b → marks_in (b ∷ []) ≡ []
marks_in-other b o = rw (
  ne_eqb 60 b (λ e. o.less (sym e)),
  ne_eqb 62 b (λ e. o.greater (sym e)),
  ne_eqb 34 b (λ e. o.quote (sym e)),
  ne_eqb 39 b (λ e. o.apostrophe (sym e)),
  ne_eqb 96 b (λ e. o.back (sym e)),
  ne_eqb 61 b (λ e. o.equals (sym e)),
) refl

marks_in-escaped_byte : (b : ℕ) → marks_in (escaped_byte b) ≡ []
marks_in-escaped_byte = by_bytes (λ b. marks_in (escaped_byte b) ≡ []) refl refl refl refl refl refl refl
    (λ b o. ap marks_in (escaped_byte-other b o) ∙ marks_in-other b o)

pub marks_in-escaped : (t : Text) → marks_in (escaped t) ≡ []
unfolding escaped
marks_in-escaped [] = refl
marks_in-escaped (b ∷ t) =
    marks_in-append (escaped_byte b) (escaped t) ∙ ap₂ (λ x y. x ++ y) (marks_in-escaped_byte b) (marks_in-escaped t)

pub marks_in-joined_indent : (i own : Option Text) → marks_in (unwrap_or i []) ≡ [] → marks_in (unwrap_or own []) ≡ []
    → marks_in (unwrap_or (joined_indent i own) []) ≡ []
marks_in-joined_indent i own h k =
    ap marks_in (joined_indent-own i own) ∙ marks_in-append (unwrap_or i []) (unwrap_or own []) ∙ ap₂ (λ x y. x ++ y) h k

-- ---- marks of what is put

marks_in-between : (indent : Text) (ls : List Text) → marks_in indent ≡ []
    → marks_in (between indent ls) ≡ marks_in (between [] ls)
marks_in-between indent [] none = refl
marks_in-between indent (l ∷ []) none = refl
marks_in-between indent (l ∷ m ∷ ls) none =
    marks_in-append l (indent ++ between indent (m ∷ ls))
    ∙ ap (λ (z : Text). marks_in l ++ z) (marks_in-append indent (between indent (m ∷ ls))
    ∙ ap₂ (λ (x y : Text). x ++ y) none (marks_in-between indent (m ∷ ls) none))
    ∙ sym (marks_in-append l (between [] (m ∷ ls)))

marks_in-before : (b : Bool) (indent : Text) → marks_in indent ≡ [] → marks_in (if b then indent else []) ≡ []
marks_in-before true indent none = none
marks_in-before false indent none = refl

-- An indentation without marks adds none.
marks_in-written : (indent : Text) (line : LineState) (t : Text) → marks_in indent ≡ []
    → marks_in (written_in indent line t) ≡ marks_in t
marks_in-written indent line t none =
    marks_in-append (indent_before indent line t) (indented indent t)
    ∙ ap₂ (λ (x y : Text). x ++ y) (marks_in-before (takes_indent line t) indent none)
    (marks_in-between indent (lines_of t) none ∙ ap marks_in (indented-none t))

marks_in-put : (o : Origin) (indent : Option Text) (t : Text) (line : LineState) → marks_in (unwrap_or indent []) ≡ []
    → marks_in (join (put o indent t line).0) ≡ marks_in t
marks_in-put o indent t line none =
    ap marks_in (join-put o indent t line) ∙ marks_in-written (unwrap_or indent []) line t none

-- ---- what of it comes from templates

fixed_text-nil : (o : Origin) → fixed_text o [] ≡ []
fixed_text-nil (of_text occurrence) = refl
fixed_text-nil (of_value occurrence found) = refl
fixed_text-nil (of_raw occurrence found) = refl
fixed_text-nil (of_boolean_text occurrence b) = refl
fixed_text-nil (of_step occurrence i) = refl
fixed_text-nil (of_indent occurrence) = refl

fixed_text-append : (o : Origin) (t u : Text) → fixed_text o (t ++ u) ≡ fixed_text o t ++ fixed_text o u
fixed_text-append (of_text occurrence) t u = refl
fixed_text-append (of_value occurrence found) t u = refl
fixed_text-append (of_raw occurrence found) t u = refl
fixed_text-append (of_boolean_text occurrence b) t u = refl
fixed_text-append (of_step occurrence i) t u = refl
fixed_text-append (of_indent occurrence) t u = refl

fixed_texts-append : (ps qs : List Piece) → fixed_texts (ps ++ qs) ≡ fixed_texts ps ++ fixed_texts qs
fixed_texts-append [] qs = refl
fixed_texts-append (p ∷ ps) qs =
    ap (λ (z : Text). fixed_text p.origin p.text ++ z) (fixed_texts-append ps qs)
    ∙ sym (append_assoc (fixed_text p.origin p.text) (fixed_texts ps) (fixed_texts qs))

fixed_texts-indent : (o : Origin) (t : Text) → fixed_texts (pieces_of (of_indent (occurrence_of o)) t) ≡ []
fixed_texts-indent o [] = refl
fixed_texts-indent o (b ∷ t) = refl

fixed_texts-of : (o : Origin) (t : Text) → fixed_texts (pieces_of o t) ≡ fixed_text o t
fixed_texts-of o [] = sym (fixed_text-nil o)
fixed_texts-of o (b ∷ t) = append-nil (fixed_text o (b ∷ t))

fixed_texts-between : (o : Origin) (ps : List Piece) (ls : List Text) → fixed_texts ps ≡ []
    → fixed_texts (pieces_between o ps ls) ≡ fixed_text o (between [] ls)
fixed_texts-between o ps [] none = sym (fixed_text-nil o)
fixed_texts-between o ps (l ∷ []) none = append-nil (fixed_text o l)
fixed_texts-between o ps (l ∷ m ∷ ls) none =
    ap (λ (z : Text). fixed_text o l ++ z) (fixed_texts-append ps (pieces_between o ps (m ∷ ls))
    ∙ ap₂ (λ (x y : Text). x ++ y) none (fixed_texts-between o ps (m ∷ ls) none))
    ∙ sym (fixed_text-append o l (between [] (m ∷ ls)))

fixed_texts-before : (b : Bool) (ps : List Piece) → fixed_texts ps ≡ [] → fixed_texts (if b then ps else []) ≡ []
fixed_texts-before true ps none = none
fixed_texts-before false ps none = refl

fixed_texts-put : (o : Origin) (indent : Option Text) (t : Text) (line : LineState)
    → fixed_texts (put o indent t line).0 ≡ fixed_text o t
fixed_texts-put o None t line = fixed_texts-of o t
fixed_texts-put o (Some indent) t line =
    let ps = indent_pieces o indent in
    let none = fixed_texts-indent o indent in
    fixed_texts-append (pieces_before o indent t line) (pieces_between o ps (lines_of t))
    ∙ ap₂ (λ (x y : Text). x ++ y) (fixed_texts-before (takes_indent line t) ps none)
    (fixed_texts-between o ps (lines_of t) none ∙ ap (fixed_text o) (indented-none t))

-- ---- pieces with the same markup

pub HaveSameMarkup-nil : HaveSameMarkup [] []
HaveSameMarkup-nil = record { marks = refl; fixed = refl }

pub HaveSameMarkup-append : (ps xs qs ys : List Piece) → HaveSameMarkup ps xs → HaveSameMarkup qs ys
    → HaveSameMarkup (ps ++ qs) (xs ++ ys)
HaveSameMarkup-append ps xs qs ys h k = record {
  marks = joined ps qs ∙ ap₂ (λ (x y : Text). x ++ y) h.marks k.marks ∙ sym (joined xs ys);
  fixed = fixed_texts-append ps qs ∙ ap₂ (λ (x y : Text). x ++ y) h.fixed k.fixed ∙ sym (fixed_texts-append xs ys);
}
  where
    joined : (us vs : List Piece) → marks_in (join (us ++ vs)) ≡ marks_in (join us) ++ marks_in (join vs)
    joined us vs = ap marks_in (join-append us vs) ∙ marks_in-append (join us) (join vs)

-- If texts have the same marks, and the same part of them comes from templates, they are put so that their pieces have the
-- same markup, whatever the lines.
pub HaveSameMarkup-put : (o x : Origin) (i j : Option Text) (t u : Text) (line other : LineState) → i ≡ j
    → marks_in (unwrap_or i []) ≡ [] → marks_in t ≡ marks_in u → fixed_text o t ≡ fixed_text x u
    → HaveSameMarkup (put o i t line).0 (put x j u other).0
HaveSameMarkup-put o x i j t u line other is none same own = record {
  marks = marks_in-put o i t line none ∙ same
      ∙ sym (marks_in-put x j u other (ap (λ z. marks_in (unwrap_or z [])) (sym is) ∙ none));
  fixed = fixed_texts-put o i t line ∙ own ∙ sym (fixed_texts-put x j u other);
}
