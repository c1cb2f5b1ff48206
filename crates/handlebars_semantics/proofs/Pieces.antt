-- What pieces join to.
use Rattle.std.proofs.Common.{◌≡◌, ℕ, Bool, true, false, List, [], ◌∷◌, ◌++◌, Option, None, Some, unwrap_or, refl, sym, ap, ◌∙◌, append-nil, ◌⊎◌, inl, inr, if◌then◌else◌}
use Rattle.handlebars_base.specs.Bytes.{Text}
use Rattle.handlebars_scope.specs.Indentation.{lines_of, between, takes_indent, written_in}
use Rattle.handlebars_scope.specs.LineState.{LineState}
use Rattle.handlebars_scope.proofs.Indents.{written_in-none}
use Rattle.handlebars_semantics.specs.Pieces.{Origin, of_indent, occurrence_of, Piece, join, pieces_of, indent_pieces, pieces_between, pieces_before, put}
use Rattle.handlebars_semantics.specs.Runs.{Prefix, none, truncated, more}
use Rattle.handlebars_semantics.proofs.Runs.{join-append}

pub join-pieces_of : (o : Origin) (t : Text) → join (pieces_of o t) ≡ t
join-pieces_of o [] = refl
join-pieces_of o (b ∷ t) = append-nil (b ∷ t)

join-between : (o : Origin) (ps : List Piece) (indent : Text) → join ps ≡ indent → (ls : List Text)
    → join (pieces_between o ps ls) ≡ between indent ls
join-between o ps indent is [] = refl
join-between o ps indent is (l ∷ []) = append-nil l
join-between o ps indent is (l ∷ m ∷ ls) = ap (λ zs. l ++ zs)
    (join-append ps (pieces_between o ps (m ∷ ls)) ∙ ap (λ zs. zs ++ join (pieces_between o ps (m ∷ ls))) is
    ∙ ap (λ zs. indent ++ zs) (join-between o ps indent is (m ∷ ls)))

join-before : (b : Bool) (ps : List Piece) (indent : Text) → join ps ≡ indent
    → join (if b then ps else []) ≡ (if b then indent else [])
join-before true ps indent is = is
join-before false ps indent is = refl

-- The pieces that are put of a text join to what is written of it.
pub join-put : (o : Origin) (indent : Option Text) (t : Text) (line : LineState)
    → join (put o indent t line).0 ≡ written_in (unwrap_or indent []) line t
join-put o None t line = join-pieces_of o t ∙ sym (written_in-none [] line t refl)
join-put o (Some indent) t line =
    let ps = indent_pieces o indent in
    let is = join-pieces_of (of_indent (occurrence_of o)) indent in
    join-append (pieces_before o indent t line) (pieces_between o ps (lines_of t))
    ∙ ap (λ zs. zs ++ join (pieces_between o ps (lines_of t))) (join-before (takes_indent line t) ps indent is)
    ∙ ap (λ zs. (if takes_indent line t then indent else []) ++ zs) (join-between o ps indent is (lines_of t))

-- ---- a prefix of a text, as pieces

head_or : ℕ → Text → ℕ
head_or d [] = d
head_or d (b ∷ t) = b

tail_of : Text → Text
tail_of [] = []
tail_of (b ∷ t) = t

split : (a b c d : Text) → a ++ b ≡ c ++ d
    → ((m : Text) × (a ≡ c ++ m)) ⊎ ((m : Text) × (c ≡ a ++ m) × (b ≡ m ++ d))
unfolding head_or tail_of
split [] b c d e = inr (c, refl, e)
split (x ∷ a) b [] d e = inl (x ∷ a, refl)
split (x ∷ a) b (y ∷ c) d e =
    let same : x ≡ y = ap (head_or x) e in
    elim (split a b c d (ap tail_of e)) [
      | inl (m, is) ↦ inl (m, ap (λ (z : ℕ). z ∷ a) same ∙ ap (λ (z : Text). y ∷ z) is)
      | inr (m, is, rest) ↦ inr (m, ap (λ (z : ℕ). z ∷ c) (sym same) ∙ ap (λ (z : Text). x ∷ z) is, rest)
    ]

-- A prefix of the pieces' text is the text of the first pieces, the last of them perhaps only in part.
pub Prefix-of : (ps : List Piece) (prefix rest : Text) → join ps ≡ prefix ++ rest
    → (ys : List Piece) × Prefix ys ps × (join ys ≡ prefix)
Prefix-of [] [] rest e = ([], none, refl)
Prefix-of [] (b ∷ prefix) rest e = cc
Prefix-of (x ∷ xs) prefix rest e = elim (split x.text (join xs) prefix rest e) [
  | inl (m, is) ↦ (record x { text = prefix } ∷ [], truncated (m, is), append-nil prefix)
  | inr (m, is, tail) ↦
      let y = Prefix-of xs m rest tail in (x ∷ y.0, more y.1, ap (λ (z : Text). x.text ++ z) y.2 ∙ sym is)
]
