-- The pieces of a text that is put, read as HTML.
use Rattle.std.proofs.Common.{◌≡◌, ℕ, ◌==◌, Bool, true, false, List, [], ◌∷◌, ◌++◌, refl, sym, ap, ◌∙◌, subst, Option, None, Some, unwrap_or, if◌then◌else◌}
use Rattle.std.specs.List.{list_all, AllByRecursion}
use Rattle.std.proofs.lemmas.Bool.{eqb-true}
use Rattle.handlebars_base.specs.Bytes.{Text, newline}
use Rattle.handlebars_base.specs.Outputs.{IsPrefix}
use Rattle.handlebars_scope.specs.Indentation.{longer, lines_of, between, takes_indent, written_in}
use Rattle.handlebars_scope.specs.LineState.{LineState}
use Rattle.handlebars_semantics.specs.Occurrences.{Occurrence}
use Rattle.handlebars_semantics.specs.Pieces.{Origin, of_text, of_indent, occurrence_of, Piece, join, indent_pieces, pieces_between, pieces_before, pieces_put}
use Rattle.handlebars_semantics.specs.Runs.{Prefix, none, truncated, more}
use Rattle.handlebars_semantics.proofs.Pieces.{join-put}
use Rattle.handlebars_html.specs.Html.{Html, beginning, step, after, is_safe, is_unmarked, is_blank}
use Rattle.handlebars_html.specs.Safety.{IsOfData, Stays, StandsAt, IsUrlAt, Stands, as_text, as_url, StandSafely}
use Rattle.handlebars_html.proofs.Blanks.{after_newline-blanks, after_blanks-text, blanks-unmarked}
use Rattle.handlebars_html.proofs.Data.{both, after-append, after-stays, stands_at, Stays-self, Stays-safe, Stays-join}

-- ---- pieces that stand safely

-- each piece that comes from data, in the state after those before it
abbrev pub AreSafe : Html → List Piece → Type 0
AreSafe a [] = Unit {0}
AreSafe a (x ∷ xs) = (IsOfData x.origin → Stands a x.text) × AreSafe (after a x.text) xs

pub AreSafe-append : (a : Html) (xs ys : List Piece) → AreSafe a xs → AreSafe (after a (join xs)) ys → AreSafe a (xs ++ ys)
AreSafe-append a [] ys first second = second
AreSafe-append a (x ∷ xs) ys first second = (
  first.0,
  AreSafe-append (after a x.text) xs ys first.1
      (subst (λ (g : Html). AreSafe g ys) (after-append a x.text (join xs)) second),
)

AreSafe-later : (a : Html) (xs ys : List Piece) → AreSafe a (xs ++ ys) → AreSafe (after a (join xs)) ys
AreSafe-later a [] ys safe = safe
AreSafe-later a (x ∷ xs) ys safe =
    subst (λ (g : Html). AreSafe g ys) (sym (after-append a x.text (join xs))) (AreSafe-later (after a x.text) xs ys safe.1)

append_assoc : (a b c : Text) → a ++ (b ++ c) ≡ (a ++ b) ++ c
append_assoc [] b c = refl
append_assoc (x ∷ a) b c = ap (λ (t : Text). x ∷ t) (append_assoc a b c)

StandsAt-prefix : (a : Html) (t all : Text) → IsPrefix t all → StandsAt a all → StandsAt a t
StandsAt-prefix a t all (rest, e) stands = record {
  safe = stands.safe;
  stays = λ prefix f.
      stands.stays prefix (f.0 ++ rest, e ∙ ap (λ (x : Text). x ++ rest) f.1 ∙ sym (append_assoc prefix f.0 rest));
}

IsUrlAt-prefix : (a : Html) (t all : Text) → IsPrefix t all → IsUrlAt a all → IsUrlAt a t
IsUrlAt-prefix a t all (rest, e) at = record {
  begins = at.begins;
  address = at.address;
  safe = at.safe;
  text = (rest ++ at.text.0, at.text.1 ∙ ap (λ (x : Text). x ++ at.text.0) e ∙ sym (append_assoc t rest at.text.0));
  stays = λ prefix f.
      at.stays prefix (f.0 ++ rest, e ∙ ap (λ (x : Text). x ++ rest) f.1 ∙ sym (append_assoc prefix f.0 rest));
}

Stands-prefix : (a : Html) (t all : Text) → IsPrefix t all → Stands a all → Stands a t
Stands-prefix a t all f (as_text at) = as_text (StandsAt-prefix a t all f at)
Stands-prefix a t all f (as_url at) = as_url (IsUrlAt-prefix a t all f at)

pub AreSafe-prefix : {xs ys : List Piece} → Prefix xs ys → (a : Html) → AreSafe a ys → AreSafe a xs
AreSafe-prefix none a safe = tt
AreSafe-prefix (truncated {p = p} {t = t} is) a safe = (λ of_data. Stands-prefix a t p.text is (safe.0 of_data), tt)
AreSafe-prefix (more {p = p} f) a safe = (safe.0, AreSafe-prefix f (after a p.text) safe.1)

-- From the beginning of a document this says that data stands safely.
pub stand_safely : (ps : List Piece) → AreSafe beginning ps → StandSafely ps
stand_safely ps safe before piece later is of_data =
    let there = AreSafe-later beginning before (piece ∷ later) (subst (AreSafe beginning) is safe) in
    there.0 of_data

-- ---- what holds of each piece that is put

module _ (P : Piece → Type 0) (o : Origin) where
  abbrev All : List Piece → Type 0
  All ps = AllByRecursion P ps

  abbrev with_text : Text → Piece
  with_text t = record { origin = o; text = t }

  abbrev indent_piece : Text → Piece
  indent_piece t = record { origin = of_indent (occurrence_of o); text = t }

  All-append : (xs ys : List Piece) → All xs → All ys → All (xs ++ ys)
  All-append [] ys a b = b
  All-append (x ∷ xs) ys a b = (a.0, All-append xs ys a.1 b)

  indent-all : (indent : Text) → P (indent_piece indent) → All (indent_pieces o indent)
  indent-all [] is = tt
  indent-all (b ∷ t) is = (is, tt)

  between-all : (indent : List Piece) → All indent → (ls : List Text) → AllByRecursion (λ l. P (with_text l)) ls
      → All (pieces_between o indent ls)
  between-all indent is [] all = tt
  between-all indent is (l ∷ []) all = (all.0, tt)
  between-all indent is (l ∷ m ∷ ls) all =
      (all.0, All-append indent (pieces_between o indent (m ∷ ls)) is (between-all indent is (m ∷ ls) all.1))

  before-all : (x : Bool) (indent : List Piece) → All indent → All (if x then indent else [])
  before-all true indent is = is
  before-all false indent is = tt

  put-all : (i : Option Text) (t : Text) (line : LineState) → P (indent_piece (unwrap_or i [])) → P (with_text t)
      → AllByRecursion (λ l. P (with_text l)) (lines_of t) → All (pieces_put o i t line)
  put-all None [] line indent whole lines = tt
  put-all None (b ∷ t) line indent whole lines = (whole, tt)
  put-all (Some w) t line indent whole lines =
      All-append (pieces_before o w t line) (pieces_between o (indent_pieces o w) (lines_of t))
      (before-all (takes_indent line t) (indent_pieces o w) (indent-all w indent))
      (between-all (indent_pieces o w) (indent-all w indent) (lines_of t) lines)

-- ---- data that is put

abbrev HasNoMarks : Piece → Type 0
HasNoMarks x = list_all is_unmarked x.text ≡ true

pub calm : (a : Html) → is_safe a ≡ true → (ps : List Piece) → AllByRecursion HasNoMarks ps
    → AreSafe a ps × Stays a (after a (join ps))
calm a safe [] all = (tt, Stays-self a)
calm a safe (x ∷ xs) all =
    let first = after-stays a x.text safe all.0 in
    let rest = calm (after a x.text) (Stays-safe a (after a x.text) safe first) xs all.1 in (
      ((λ of_data. as_text (stands_at a x.text safe all.0)), rest.0),
      subst (Stays a) (sym (after-append a x.text (join xs)))
          (Stays-join a (after a x.text) (after (after a x.text) (join xs)) first rest.1),
    )

lines-unmarked : (t : Text) → list_all is_unmarked t ≡ true → AllByRecursion (λ (l : Text). list_all is_unmarked l ≡ true) (lines_of t)
lines-unmarked [] is = tt
lines-unmarked (b ∷ t) is =
    let each = both (is_unmarked b) (list_all is_unmarked t) is in
    choose (b == newline) b t each.0 (lines-unmarked t each.1)
  where
    single : (b : ℕ) (l : Text) → is_unmarked b ≡ true → list_all is_unmarked l ≡ true → list_all is_unmarked (b ∷ l) ≡ true
    single b l x y = rw x y

    longer-unmarked : (b : ℕ) (ls : List Text) → is_unmarked b ≡ true
        → AllByRecursion (λ (l : Text). list_all is_unmarked l ≡ true) ls
        → AllByRecursion (λ (l : Text). list_all is_unmarked l ≡ true) (longer b ls)
    longer-unmarked b [] x all = (single b [] x refl, tt)
    longer-unmarked b (l ∷ ls) x all = (single b l x all.0, all.1)

    choose : (x : Bool) (b : ℕ) (t : Text) → is_unmarked b ≡ true
        → AllByRecursion (λ (l : Text). list_all is_unmarked l ≡ true) (lines_of t)
        → AllByRecursion (λ (l : Text). list_all is_unmarked l ≡ true)
        (if x then (b ∷ []) ∷ lines_of t else longer b (lines_of t))
    choose true b t x all = (single b [] x refl, all)
    choose false b t x all = longer-unmarked b (lines_of t) x all

-- Data without marks that is put where it may stand stands safely, and the state stays.
pub put-data : (o : Origin) (i : Option Text) (t : Text) (line : LineState) (a : Html)
    → list_all is_blank (unwrap_or i []) ≡ true → is_safe a ≡ true → list_all is_unmarked t ≡ true
    → AreSafe a (pieces_put o i t line) × Stays a (after a (join (pieces_put o i t line)))
put-data o i t line a blank safe is =
    calm a safe (pieces_put o i t line)
    (put-all HasNoMarks o i t line (blanks-unmarked (unwrap_or i []) blank) is (lines-unmarked t is))

-- ---- texts of a template that are put

abbrev IsFree : Piece → Type 0
IsFree x = IsOfData x.origin → ⊥

free : (a : Html) (ps : List Piece) → AllByRecursion IsFree ps → AreSafe a ps
free a [] all = tt
free a (x ∷ xs) all = (λ of_data. absurd (all.0 of_data), free (after a x.text) xs all.1)

lines-free : (occurrence : Occurrence) (ls : List Text)
    → AllByRecursion (λ (l : Text). IsFree (record { origin = of_text occurrence; text = l })) ls
lines-free occurrence [] = tt
lines-free occurrence (l ∷ ls) = (λ of_data. of_data, lines-free occurrence ls)

-- No data is in them.
pub put-free : (occurrence : Occurrence) (i : Option Text) (t : Text) (line : LineState) (a : Html)
    → AreSafe a (pieces_put (of_text occurrence) i t line)
put-free occurrence i t line a =
    free a (pieces_put (of_text occurrence) i t line)
    (put-all IsFree (of_text occurrence) i t line (λ of_data. of_data) (λ of_data. of_data) (lines-free occurrence (lines_of t)))

module _ (indent : Text) (blank : list_all is_blank indent ≡ true) where
  between-longer : (b : ℕ) (ls : List Text) → between indent (longer b ls) ≡ b ∷ between indent ls
  between-longer b [] = refl
  between-longer b (l ∷ []) = refl
  between-longer b (l ∷ m ∷ ls) = refl

  between-newline : (h : Html) (ls : List Text)
      → after h (between indent ((newline ∷ []) ∷ ls)) ≡ after (step h newline) (between indent ls)
  between-newline h [] = refl
  between-newline h (m ∷ ls) =
      after-append (step h newline) indent (between indent (m ∷ ls))
      ∙ ap (λ (g : Html). after g (between indent (m ∷ ls))) (after_newline-blanks h indent blank)

  -- Indentation after newlines changes nothing.
  between-after : (t : Text) (h : Html) → after h (between indent (lines_of t)) ≡ after h t
  between-after [] h = refl
  between-after (b ∷ t) h = choose (between-after t (step h b)) (b == newline) refl
    where
      choose : after (step h b) (between indent (lines_of t)) ≡ after (step h b) t → (x : Bool) → (b == newline) ≡ x
          → after h (between indent (if x then (b ∷ []) ∷ lines_of t else longer b (lines_of t))) ≡ after (step h b) t
      choose rest true e =
          let is : b ≡ newline = eqb-true b newline e in
          ap (λ (c : ℕ). after h (between indent ((c ∷ []) ∷ lines_of t))) is
          ∙ between-newline h (lines_of t)
          ∙ ap (λ (c : ℕ). after (step h c) (between indent (lines_of t))) (sym is) ∙ rest
      choose rest false e = ap (after h) (between-longer b (lines_of t)) ∙ rest

  written-after : (t : Text) (line : LineState) (h : Html) → after (step h 32) t ≡ after h t
      → after h (written_in indent line t) ≡ after h t
  written-after t line h same = choose (takes_indent line t)
    where
      choose : (x : Bool) → after h ((if x then indent else []) ++ between indent (lines_of t)) ≡ after h t
      choose true =
          after-append h indent (between indent (lines_of t)) ∙ between-after t (after h indent)
          ∙ sym (after-append h indent t) ∙ after_blanks-text h indent t blank same
      choose false = between-after t h

-- A text that doesn't mind a space before it leads to the same state, however it is indented.
pub put-text : (o : Origin) (i : Option Text) (t : Text) (line : LineState) (h : Html)
    → list_all is_blank (unwrap_or i []) ≡ true → after (step h 32) t ≡ after h t
    → after h (join (pieces_put o i t line)) ≡ after h t
put-text o i t line h blank same =
    ap (after h) (join-put o i t line) ∙ written-after (unwrap_or i []) blank t line h same
