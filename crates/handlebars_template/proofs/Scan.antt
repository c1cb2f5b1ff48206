-- What was read of a source so far, and what the next tag does.
use Rattle.std.proofs.Common.{◌≡◌, ℕ, Option, Some, None, Bool, true, false, ◌+◌, ◌-◌, ◌<◌, ◌≤◌, List, [], ◌∷◌, ◌++◌, length, refl, sym, ap, ◌∙◌, subst, append_assoc, arith, length-append, inl, inr}
use Rattle.std.specs.Prelude.{◌==◌, fold, if◌then◌else◌, codes}
use Rattle.std.specs.Str.{IsUtf8, IsCharBoundary, chars}
use Rattle.std.proofs.lemmas.Bool.{cases_Bool, false≢true}
use Rattle.std.proofs.lemmas.List.{append-nil, nil_from_length}
use Rattle.std.proofs.lemmas.List.Sums.{fold-append}
use Rattle.std.proofs.lemmas.Str.{chars-append, chars-nil, IsUtf8-append, IsUtf8-nil, IsUtf8-take, IsCharBoundary-at_seam, length-le-encodes, encodes-chars}
use Rattle.handlebars_base.specs.Bytes.{Text}
use Rattle.handlebars_base.proofs.Ends.{length-prefix, take-prefix}
use Rattle.handlebars_lexer.specs.Comment.{after_mark, HasNoLong}
use Rattle.handlebars_lexer.proofs.Marks.{after_mark-end}
use Rattle.handlebars_lexer.specs.Text.{Braces, IsText, at_end, at_tag, a_byte, two_escaped, four_escaped, braces}
use Rattle.handlebars_lexer.specs.Tag.{Tag, Tildes, IsTag, NoTag, OneTag}
use Rattle.handlebars_lexer.specs.Trim.{WhitespaceControl, no_control, is_fresh_after, is_fresh, before_blanks, last_blanks, control_of, control_with, braces_after, has_element, trimmed}
use Rattle.handlebars_lexer.proofs.TagLengths.{length-tag}
use Rattle.handlebars_lexer.proofs.Blanks.{fresh-before_blanks}
use Rattle.handlebars_lexer.specs.Options.{Options}
use Rattle.handlebars_template.specs.Position.{Position, origin, after_char, position_after, position}
use Rattle.handlebars_template.specs.Tree.{raw_string}
use Rattle.handlebars_template.specs.Nest.{SourcePiece, leaf, NestingError, PositionedElement, syntax_alone, Rejects}
use Rattle.handlebars_template.specs.Machine.{BlockSoFar, open_in, goes, stops}
use Rattle.handlebars_template.proofs.Machine.{apply, late_after}
use Rattle.handlebars_template.specs.Tokens.{Token, text_token, tag_token, may_follow, Reads, nothing_read, goes_on, AreTokens}
use Rattle.handlebars_template.specs.Compile.{tag_piece, text_pieces, pieces_in, unreadable_tag, refusal_for, NoTagAfter, Compilation, Compiles, rejected, whole, no_tag, misplaced, left_open, late}
use Rattle.handlebars_template.specs.ScanView.{positioned_text, compilation_at_end as ended}
use Rattle.handlebars_template.proofs.NestsDone.{option_or-none}
use Rattle.handlebars_template.proofs.NestsFits.{apply-fits, IsAcceptedPiece-leaf}
use Rattle.handlebars_template.proofs.NestsSteps.{Opens-shallow, OpensSoFar-opens}
use Rattle.handlebars_template.proofs.NestsStates.{NestInvariant, NestInvariant-start, NestInvariant-moves, NestInvariant-stops, NestInvariant-whole, NestInvariant-late, NestInvariant-open}

pub position_after-append : (p : Position) (x y : Text) → IsUtf8 x → position_after p (x ++ y) ≡ position_after (position_after p x) y
position_after-append p x y h = ap (fold after_char p) (chars-append x y h) ∙ fold-append after_char p (chars x) (chars y)

pub pieces_in-append : (options : Options) (ps qs : List Token) → pieces_in options (ps ++ qs) ≡ pieces_in options ps ++ pieces_in options qs
pieces_in-append options [] qs = refl
pieces_in-append options (text_token p e x k n ∷ ps) qs = ap (λ (z : List SourcePiece). text_pieces options p e x k n ++ z) (pieces_in-append options ps qs) ∙ sym (append_assoc (text_pieces options p e x k n) (pieces_in options ps) (pieces_in options qs))
pieces_in-append options (tag_token p x t e ∷ ps) qs = ap (λ (z : List SourcePiece). tag_piece options p e t ∷ z) (pieces_in-append options ps qs)

-- ---- a text

NestInvariant-none : {late : Option NestingError} {ps : List SourcePiece} {d : ℕ} {fs : List BlockSoFar} {es : List PositionedElement} → NestInvariant late ps d fs es → NestInvariant late (ps ++ []) d fs (es ++ [])
NestInvariant-none {ps = ps} {es = es} s = rw (append-nil ps, append-nil es) s

NestInvariant-leaf : {late : Option NestingError} {ps : List SourcePiece} {d : ℕ} {fs : List BlockSoFar} {es : List PositionedElement} → (p : Position) (x : Text) → NestInvariant late ps d fs es
    → NestInvariant late (ps ++ leaf p (raw_string x) 0 None ∷ []) d fs (es ++ record { position = p; element = raw_string x } ∷ [])
NestInvariant-leaf {late} {ps} {d} {fs} {es} p x s =
    subst (λ (z : Option NestingError). NestInvariant z (ps ++ leaf p (raw_string x) 0 None ∷ []) d fs (es ++ record { position = p; element = raw_string x } ∷ [])) (option_or-none late)
    (NestInvariant-moves (leaf p (raw_string x) 0 None) s (apply-fits syntax_alone (leaf p (raw_string x) 0 None) d fs es (IsAcceptedPiece-leaf syntax_alone d (open_in fs) p (raw_string x) 0 None (omega (arith, Opens-shallow (OpensSoFar-opens s.loose))) refl)))

NestInvariant-when : {late : Option NestingError} {ps : List SourcePiece} {d : ℕ} {fs : List BlockSoFar} {es : List PositionedElement} → (b : Bool) (p : Position) (x : Text) → NestInvariant late ps d fs es
    → NestInvariant late (ps ++ (if b then leaf p (raw_string x) 0 None ∷ [] else [])) d fs (es ++ (if b then record { position = p; element = raw_string x } ∷ [] else []))
NestInvariant-when true p x s = NestInvariant-leaf p x s
NestInvariant-when false p x s = NestInvariant-none s

NestInvariant-text : {late : Option NestingError} {ps : List SourcePiece} {d : ℕ} {fs : List BlockSoFar} {es : List PositionedElement} (options : Options) → (p : Position) (e : WhitespaceControl) (x k : Text) (n : WhitespaceControl) → NestInvariant late ps d fs es
    → NestInvariant late (ps ++ text_pieces options p e x k n) d fs (es ++ positioned_text options p e x k n)
NestInvariant-text options p e x k n s = NestInvariant-when (has_element e x) p (trimmed options e k n) s

-- ---- a prefix of the source

-- After a prefix of the source, which ends with this whitespace control, is this text, and after it what is left.
pub record Scans (source : Text) (options : Options) (token unescaped left : Text) (at : Position) (fresh : Bool) (e : WhitespaceControl) (late : Option NestingError) (d : ℕ) (fs : List BlockSoFar) (es : List PositionedElement) : Type 0 where
  pub before : Text
  pub tokens : List Token
  pub begins : Reads source options before e tokens
  pub parts : source ≡ before ++ (token ++ left)
  pub is_text : IsText (braces_after e) left token unescaped
  pub utf8 : IsUtf8 before
  pub there : at ≡ position before
  pub lines : fresh ≡ is_fresh before
  pub state : NestInvariant late (pieces_in options tokens) d fs es

pub Scans-start : (source : Text) (options : Options) (token unescaped left : Text) (e : WhitespaceControl) → e ≡ no_control → source ≡ token ++ left → IsText (braces_after e) left token unescaped → Scans source options token unescaped left origin true e None 0 [] []
Scans-start source options token unescaped left e is parts h = record {
  before = [];
  tokens = [];
  begins = subst (λ (z : WhitespaceControl). Reads source options [] z []) (sym is) nothing_read;
  parts = parts;
  is_text = h;
  utf8 = IsUtf8-nil;
  there = sym (ap (fold after_char origin) chars-nil);
  lines = refl;
  state = NestInvariant-start;
}

-- a tag that may follow the text
pub record TagHere (sections : Bool) (left : Text) (e : WhitespaceControl) (t : Tag) (tildes : Tildes) (spelled rest : Text) : Type 0 where
  pub whole : left ≡ spelled ++ rest
  pub is_tag : IsTag sections spelled rest t tildes
  pub follows : may_follow e t ≡ true

-- a text and a tag
abbrev pub pair_of : Position → WhitespaceControl → Text → Text → Position → Text → Tag → WhitespaceControl → List Token
pair_of p e x k q spelled t n = text_token p e x k n ∷ tag_token q spelled t n ∷ []

Reads-along : (source : Text) (options : Options) (before x k spelled : Text) (tokens : List Token) (t : Tag) (at p q there : Position) (e n m : WhitespaceControl) → at ≡ p → q ≡ there → n ≡ m
    → Reads source options before m (tokens ++ pair_of p e x k there spelled t m) → Reads source options before n (tokens ++ pair_of at e x k q spelled t n)
Reads-along source options before x k spelled tokens t at p q there e n m a b c h = rw (a, b, c) h

-- the position of the code after the text, what the text before it ends with, and what the tag does to it
pub record TagAfterText {source : Text} {options : Options} {token unescaped left : Text} {at : Position} {fresh : Bool} {e : WhitespaceControl} {late : Option NestingError} {d : ℕ} {fs : List BlockSoFar} {es : List PositionedElement}
    (h : Scans source options token unescaped left at fresh e late d fs es) (t : Tag) (tildes : Tildes) (spelled rest : Text) (q : Position) (mid : Bool) (n : WhitespaceControl) : Type 0 where
  pub here : TagHere options.sections left e t tildes spelled rest
  pub there : q ≡ position_after at token
  pub lines : mid ≡ fold is_fresh_after fresh token
  pub control : n ≡ control_with mid (last_blanks token) t tildes rest

pub position_after-position : {source : Text} {options : Options} {token unescaped left : Text} {at : Position} {fresh : Bool} {e : WhitespaceControl} {late : Option NestingError} {d : ℕ} {fs : List BlockSoFar} {es : List PositionedElement}
    → (h : Scans source options token unescaped left at fresh e late d fs es) (q : Position) → q ≡ position_after at token → q ≡ position (h.before ++ token)
position_after-position {token = token} h q is = is ∙ ap (λ (p : Position). position_after p token) h.there ∙ sym (position_after-append origin h.before token h.utf8)

fresh-position : {source : Text} {options : Options} {token unescaped left : Text} {at : Position} {fresh : Bool} {e : WhitespaceControl} {late : Option NestingError} {d : ℕ} {fs : List BlockSoFar} {es : List PositionedElement}
    → (h : Scans source options token unescaped left at fresh e late d fs es) (mid : Bool) → mid ≡ fold is_fresh_after fresh token → mid ≡ is_fresh (h.before ++ token)
fresh-position {token = token} h mid is = is ∙ ap (λ (b : Bool). fold is_fresh_after b token) h.lines ∙ sym (fold-append is_fresh_after true h.before token)

TagAfterText-reads : {source : Text} {options : Options} {token unescaped left : Text} {at : Position} {fresh : Bool} {e : WhitespaceControl} {late : Option NestingError} {d : ℕ} {fs : List BlockSoFar} {es : List PositionedElement}
    → (h : Scans source options token unescaped left at fresh e late d fs es) (t : Tag) (tildes : Tildes) (spelled rest : Text) (q : Position) (mid : Bool) (n : WhitespaceControl)
    → TagAfterText h t tildes spelled rest q mid n → Reads source options (h.before ++ (token ++ spelled)) n (h.tokens ++ pair_of at e token unescaped q spelled t n)
TagAfterText-reads {source} {options} {token} {unescaped} {left} {at} {fresh} {e} h t tildes spelled rest q mid n iteration =
    let b : Text = h.before in
    let m : WhitespaceControl = control_of b token t tildes rest in
    let one : Reads source options (b ++ (token ++ spelled)) m (h.tokens ++ pair_of (position b) e token unescaped (position (b ++ token)) spelled t m) = goes_on h.begins (record {
      text = token;
      unescaped = unescaped;
      token = spelled;
      tag = t;
      tildes = tildes;
      rest = rest;
      whole = h.parts ∙ ap (λ (z : Text). b ++ (token ++ z)) iteration.here.whole;
      is_text = subst (λ (z : Text). IsText (braces_after e) z token unescaped) iteration.here.whole h.is_text;
      is_tag = iteration.here.is_tag;
      may_follow = iteration.here.follows;
    }) in
    Reads-along source options (b ++ (token ++ spelled)) token unescaped spelled h.tokens t at (position b) q (position (b ++ token)) e n m
    h.there (position_after-position h q iteration.there) (iteration.control ∙ ap (λ (z : Bool). control_with z (last_blanks token) t tildes rest) (fresh-position h mid iteration.lines)) one

-- the pieces after the text and the tag
pieces_in-pair : (options : Options) (ps : List Token) (p : Position) (e : WhitespaceControl) (x k : Text) (q : Position) (spelled : Text) (t : Tag) (n : WhitespaceControl)
    → pieces_in options (ps ++ pair_of p e x k q spelled t n) ≡ (pieces_in options ps ++ text_pieces options p e x k n) ++ tag_piece options q n t ∷ []
pieces_in-pair options ps p e x k q spelled t n = pieces_in-append options ps (pair_of p e x k q spelled t n) ∙ sym (append_assoc (pieces_in options ps) (text_pieces options p e x k n) (tag_piece options q n t ∷ []))

-- the state after the text, in the code's values
pub record Mid {source : Text} {options : Options} {token unescaped left : Text} {at : Position} {fresh : Bool} {e : WhitespaceControl} {late : Option NestingError} {d : ℕ} {fs : List BlockSoFar} {es : List PositionedElement}
    (h : Scans source options token unescaped left at fresh e late d fs es) (n : WhitespaceControl) (late' : Option NestingError) (d' : ℕ) (fs' : List BlockSoFar) (es' : List PositionedElement) : Type 0 where
  pub depth : d' ≡ d
  pub open_blocks : fs' ≡ fs
  pub late_unchanged : late' ≡ late
  pub elements : es' ≡ es ++ positioned_text options at e token unescaped n

NestInvariant-along : {late late' : Option NestingError} {ps : List SourcePiece} {d d' : ℕ} {fs fs' : List BlockSoFar} {es es' : List PositionedElement} → late' ≡ late → d' ≡ d → fs' ≡ fs → es' ≡ es → NestInvariant late ps d fs es → NestInvariant late' ps d' fs' es'
NestInvariant-along a b c e s = rw (a, b, c, e) s

Mid-state : {source : Text} {options : Options} {token unescaped left : Text} {at : Position} {fresh : Bool} {e : WhitespaceControl} {late : Option NestingError} {d : ℕ} {fs : List BlockSoFar} {es : List PositionedElement}
    → (h : Scans source options token unescaped left at fresh e late d fs es) (n : WhitespaceControl) (late' : Option NestingError) (d' : ℕ) (fs' : List BlockSoFar) (es' : List PositionedElement) → Mid h n late' d' fs' es'
    → NestInvariant late' (pieces_in options h.tokens ++ text_pieces options at e token unescaped n) d' fs' es'
Mid-state {options = options} {token = token} {unescaped = unescaped} {at = at} {e = e} h n late' d' fs' es' m = NestInvariant-along m.late_unchanged m.depth m.open_blocks m.elements (NestInvariant-text options at e token unescaped n h.state)

regroup : (b s t x y : Text) → b ++ (s ++ (t ++ (x ++ y))) ≡ (b ++ (s ++ t)) ++ (x ++ y)
regroup b s t x y = sym (simp append_assoc)

IsUtf8-three : (b s t : Text) → IsUtf8 b → IsUtf8 s → IsUtf8 t → IsUtf8 (b ++ (s ++ t))
IsUtf8-three b s t x y z = IsUtf8-append b (s ++ t) x (IsUtf8-append s t y z)

-- the text after the tag, and the position at which it begins
pub record TextAfter (n : WhitespaceControl) (q : Position) (mid : Bool) (spelled rest x k y : Text) (next : Position) (fresh : Bool) : Type 0 where
  pub parts : rest ≡ x ++ y
  pub is_text : IsText (braces_after n) y x k
  pub there : next ≡ position_after q spelled
  pub lines : fresh ≡ fold is_fresh_after mid spelled

-- one iteration: the text, the tag after it, and the next text
pub Scans-step : {source : Text} {options : Options} {token unescaped left : Text} {at : Position} {fresh : Bool} {e : WhitespaceControl} {late : Option NestingError} {d : ℕ} {fs : List BlockSoFar} {es : List PositionedElement}
    → (h : Scans source options token unescaped left at fresh e late d fs es) (t : Tag) (tildes : Tildes) (spelled rest : Text) (q : Position) (mid : Bool) (n : WhitespaceControl) → TagAfterText h t tildes spelled rest q mid n
    → (late' : Option NestingError) (d' : ℕ) (fs' : List BlockSoFar) (es' : List PositionedElement) → Mid h n late' d' fs' es'
    → (late'' : Option NestingError) (d'' : ℕ) (fs'' : List BlockSoFar) (es'' : List PositionedElement) → apply syntax_alone (tag_piece options q n t) d' fs' es' ≡ goes d'' fs'' es'' → late'' ≡ late_after late' (tag_piece options q n t) (open_in fs')
    → (x k y : Text) (next : Position) (fresh' : Bool) → TextAfter n q mid spelled rest x k y next fresh' → IsUtf8 token → IsUtf8 spelled
    → Scans source options x k y next fresh' n late'' d'' fs'' es''
Scans-step {source} {options} {token} {unescaped} {left} {at} {fresh} {e} h t tildes spelled rest q mid n iteration late' d' fs' es' m late'' d'' fs'' es'' moved lates x k y next fresh' after u v =
    let b : Text = h.before in
    let new : List Token = pair_of at e token unescaped q spelled t n in
    let state : NestInvariant (late_after late' (tag_piece options q n t) (open_in fs')) ((pieces_in options h.tokens ++ text_pieces options at e token unescaped n) ++ tag_piece options q n t ∷ []) d'' fs'' es'' =
    NestInvariant-moves (tag_piece options q n t) (Mid-state h n late' d' fs' es' m) moved in
    record {
      before = b ++ (token ++ spelled);
      tokens = h.tokens ++ new;
      begins = TagAfterText-reads h t tildes spelled rest q mid n iteration;
      parts = h.parts ∙ ap (λ (z : Text). b ++ (token ++ z)) (iteration.here.whole ∙ ap (λ (z : Text). spelled ++ z) after.parts) ∙ regroup b token spelled x y;
      is_text = after.is_text;
      utf8 = IsUtf8-three b token spelled h.utf8 u v;
      there = after.there ∙ ap (λ (p : Position). position_after p spelled) (position_after-position h q iteration.there) ∙ sym (position_after-append origin (b ++ token) spelled (IsUtf8-append b token h.utf8 u)) ∙ ap position (append_assoc b token spelled);
      lines = after.lines ∙ ap (λ (z : Bool). fold is_fresh_after z spelled) (fresh-position h mid iteration.lines) ∙ sym (fold-append is_fresh_after true (b ++ token) spelled) ∙ ap is_fresh (append_assoc b token spelled);
      state = subst (λ (z : List SourcePiece). NestInvariant late'' z d'' fs'' es'') (sym (pieces_in-pair options h.tokens at e token unescaped q spelled t n))
          (subst (λ (z : Option NestingError). NestInvariant z ((pieces_in options h.tokens ++ text_pieces options at e token unescaped n) ++ tag_piece options q n t ∷ []) d'' fs'' es'') (sym lates) state);
    }

-- the tag is not allowed there
pub Compiles-misplaced : {source : Text} {options : Options} {token unescaped left : Text} {at : Position} {fresh : Bool} {e : WhitespaceControl} {late : Option NestingError} {d : ℕ} {fs : List BlockSoFar} {es : List PositionedElement}
    → (h : Scans source options token unescaped left at fresh e late d fs es) (t : Tag) (tildes : Tildes) (spelled rest : Text) (q : Position) (mid : Bool) (n : WhitespaceControl) → TagAfterText h t tildes spelled rest q mid n
    → (late' : Option NestingError) (d' : ℕ) (fs' : List BlockSoFar) (es' : List PositionedElement) → Mid h n late' d' fs' es'
    → (f : NestingError) → apply syntax_alone (tag_piece options q n t) d' fs' es' ≡ stops f → Compiles source options (rejected (refusal_for options f))
Compiles-misplaced {source} {options} {token} {unescaped} {left} {at} {fresh} {e} h t tildes spelled rest q mid n iteration late' d' fs' es' m f stopped =
    misplaced (TagAfterText-reads h t tildes spelled rest q mid n iteration)
    (subst (λ (z : List SourcePiece). Rejects syntax_alone z f) (sym (pieces_in-pair options h.tokens at e token unescaped q spelled t n)) (NestInvariant-stops (tag_piece options q n t) [] (Mid-state h n late' d' fs' es' m) stopped))

-- ---- braces with which no tag begins

-- a text that something follows is followed by braces
IsText-some : {n : Braces} {left token unescaped : Text} → IsText n left token unescaped → 0 < length left → braces n left ≡ true
IsText-some (at_end over) lt = absurd (omega (arith, ap length over))
IsText-some (at_tag run marks more) lt = marks
IsText-some (a_byte b clear h) lt = IsText-some h lt
IsText-some (two_escaped two clear h) lt = IsText-some h lt
IsText-some (four_escaped h) lt = IsText-some h lt

pub NoTagAfter-none : (options : Options) (e : WhitespaceControl) (left : Text) → NoTag options.sections left → NoTagAfter options e left
NoTagAfter-none options e left none token rest t tildes is h f = none token rest t tildes is h

-- after the opening of a raw block is a tag that isn't its end
pub NoTagAfter-other : OneTag → (options : Options) (e : WhitespaceControl) (left token rest : Text) (t : Tag) (tildes : Tildes) → left ≡ token ++ rest → IsTag options.sections token rest t tildes → may_follow e t ≡ false → NoTagAfter options e left
NoTagAfter-other tags options e left token rest t tildes is h other token' rest' t' tildes' is' h' f =
    let one = tags options.sections left token token' rest rest' t t' tildes tildes' is is' h h' in
    false≢true (sym other ∙ ap (may_follow e) one.2 ∙ f)

pub Compiles-unreadable : {source : Text} {options : Options} {token unescaped left : Text} {at : Position} {fresh : Bool} {e : WhitespaceControl} {late : Option NestingError} {d : ℕ} {fs : List BlockSoFar} {es : List PositionedElement}
    → Scans source options token unescaped left at fresh e late d fs es → 0 < length left → NoTagAfter options e left → (q : Position) → q ≡ position_after at token
    → Compiles source options (rejected (unreadable_tag options q))
Compiles-unreadable {source} {options} {token} {unescaped} {left} {at} {fresh} {e} {late} {d} {fs} {es} h lt none q qe = no_tag (record {
  before = h.before;
  control = e;
  tokens = h.tokens;
  begins = h.begins;
  depth = d;
  open_blocks = open_in fs;
  nests = OpensSoFar-opens h.state.loose;
  text = token;
  unescaped = unescaped;
  left = left;
  whole = h.parts;
  is_text = h.is_text;
  marks = IsText-some h.is_text lt;
  none = none;
  there = position_after-position h q qe;
})

-- ---- the end of the source

Scans-tokenized : {source : Text} {options : Options} {token unescaped left : Text} {at : Position} {fresh : Bool} {e : WhitespaceControl} {late : Option NestingError} {d : ℕ} {fs : List BlockSoFar} {es : List PositionedElement}
    → (h : Scans source options token unescaped left at fresh e late d fs es) → length left ≡ 0 → AreTokens source options (h.tokens ++ text_token at e token unescaped no_control ∷ [])
Scans-tokenized {source} {options} {token} {unescaped} {left} {at} {fresh} {e} h over =
    let none : left ≡ [] = nil_from_length left over in
    record {
      before = h.before;
      control = e;
      tokens = h.tokens;
      begins = h.begins;
      text = token;
      unescaped = unescaped;
      whole = h.parts ∙ ap (λ (z : Text). h.before ++ (token ++ z)) none ∙ ap (λ (z : Text). h.before ++ z) (append-nil token);
      is_text = subst (λ (z : Text). IsText (braces_after e) z token unescaped) none h.is_text;
      gives = ap (λ (p : Position). h.tokens ++ text_token p e token unescaped no_control ∷ []) h.there;
    }

pieces_in-last : (options : Options) (ps : List Token) (p : Position) (e : WhitespaceControl) (x k : Text) (n : WhitespaceControl) → pieces_in options (ps ++ text_token p e x k n ∷ []) ≡ pieces_in options ps ++ text_pieces options p e x k n
pieces_in-last options ps p e x k n = pieces_in-append options ps (text_token p e x k n ∷ []) ∙ ap (λ (z : List SourcePiece). pieces_in options ps ++ z) (append-nil (text_pieces options p e x k n))

Tokens-comes : {source : Text} {options : Options} {ps : List Token} {d : ℕ} {es : List PositionedElement} → (late : Option NestingError) (fs : List BlockSoFar) → AreTokens source options ps → NestInvariant late (pieces_in options ps) d fs es → Compiles source options (ended options fs late es)
Tokens-comes late' (f ∷ fs) tokenized s = left_open tokenized (NestInvariant-open s)
Tokens-comes (Some f) [] tokenized s = (let both = NestInvariant-late s in late tokenized both.0 both.1)
Tokens-comes None [] tokenized s = whole tokenized (NestInvariant-whole s)

pub Scans-end : {source : Text} {options : Options} {token unescaped left : Text} {at : Position} {fresh : Bool} {e : WhitespaceControl} {late : Option NestingError} {d : ℕ} {fs : List BlockSoFar} {es : List PositionedElement}
    → (h : Scans source options token unescaped left at fresh e late d fs es) → length left ≡ 0 → (n : WhitespaceControl) → n ≡ no_control → (late' : Option NestingError) (d' : ℕ) (fs' : List BlockSoFar) (es' : List PositionedElement) → Mid h n late' d' fs' es'
    → (end : Compilation) → end ≡ ended options fs' late' es' → Compiles source options end
Scans-end {source} {options} {token} {unescaped} {left} {at} {fresh} {e} h over n ne late' d' fs' es' m end is =
    let state : NestInvariant late' (pieces_in options h.tokens ++ text_pieces options at e token unescaped no_control) d' fs' es' = subst (λ (z : WhitespaceControl). NestInvariant late' (pieces_in options h.tokens ++ text_pieces options at e token unescaped z) d' fs' es') ne (Mid-state h n late' d' fs' es' m) in
    subst (Compiles source options) (sym is) (Tokens-comes late' fs' (Scans-tokenized h over) (subst (λ (z : List SourcePiece). NestInvariant late' z d' fs' es') (sym (pieces_in-last options h.tokens at e token unescaped no_control)) state))

-- ---- lines and columns fit

after_char-bound : (p : Position) (c : ℕ) → ((after_char p c).line ≤ p.line + 1) × ((after_char p c).column ≤ p.column + 1)
after_char-bound p c = elim (cases_Bool (c == 10)) [
  | inl is ↦ rw is (omega arith, omega arith)
  | inr isnt ↦ rw isnt (omega arith, omega arith)
]

fold-bound : (cs : Text) (p : Position) → ((fold after_char p cs).line ≤ p.line + length cs) × ((fold after_char p cs).column ≤ p.column + 1 + length cs)
fold-bound [] p = (omega arith, omega arith)
fold-bound (c ∷ cs) p = let r = fold-bound cs (after_char p c) in let s = after_char-bound p c in (omega (arith, r.0, s.0), omega (arith, r.1, s.1))

position-bound : (before : Text) → IsUtf8 before → ((position before).line ≤ 1 + length before) × ((position before).column ≤ 2 + length before)
position-bound before h =
    let short : length (chars before) ≤ length before = omega (arith, length-le-encodes (chars before), ap length (encodes-chars before h)) in
    let r = fold-bound (chars before) origin in
    (omega (arith, r.0), omega (arith, r.1))

pub Scans-fits : {source : Text} {options : Options} {token unescaped left : Text} {at : Position} {fresh : Bool} {e : WhitespaceControl} {late : Option NestingError} {d : ℕ} {fs : List BlockSoFar} {es : List PositionedElement}
    → Scans source options token unescaped left at fresh e late d fs es → (at.line + length token ≤ 1 + length source) × (at.column + length token ≤ 2 + length source)
Scans-fits {source} {options} {token} {unescaped} {left} {at} h =
    let r = position-bound h.before h.utf8 in
    let line : at.line ≡ (position h.before).line = ap (λ (p : Position). p.line) h.there in
    let column : at.column ≡ (position h.before).column = ap (λ (p : Position). p.column) h.there in
    let long : length source ≡ length h.before + (length token + length left) = omega (arith, ap length h.parts, length-append h.before (token ++ left), length-append token left) in
    (omega (arith, r.0), omega (arith, r.1))

pub Scans-fits_after : {source : Text} {options : Options} {token unescaped left : Text} {at : Position} {fresh : Bool} {e : WhitespaceControl} {late : Option NestingError} {d : ℕ} {fs : List BlockSoFar} {es : List PositionedElement}
    → Scans source options token unescaped left at fresh e late d fs es → IsUtf8 token → (q : Position) → q ≡ position_after at token → (k : ℕ) → k ≤ length left → (q.line + k ≤ 1 + length source) × (q.column + k ≤ 2 + length source)
Scans-fits_after {source} {options} {token} {unescaped} {left} {at} h u q is k le =
    let r = position-bound (h.before ++ token) (IsUtf8-append h.before token h.utf8 u) in
    let same : q ≡ position (h.before ++ token) = position_after-position h q is in
    let line : q.line ≡ (position (h.before ++ token)).line = ap (λ (p : Position). p.line) same in
    let column : q.column ≡ (position (h.before ++ token)).column = ap (λ (p : Position). p.column) same in
    let prefix : length (h.before ++ token) ≡ length h.before + length token = length-append h.before token in
    let long : length source ≡ length h.before + (length token + length left) = omega (arith, ap length h.parts, length-append h.before (token ++ left), length-append token left) in
    (omega (arith, r.0), omega (arith, r.1))

-- ---- the last blanks of the text, and the spelling of the tag, as they are split off

pub fresh-split : (fresh mid : Bool) (token dark : Text) → dark ≡ before_blanks token → mid ≡ fold is_fresh_after fresh dark → mid ≡ fold is_fresh_after fresh token
fresh-split fresh mid token dark is lines = lines ∙ ap (fold is_fresh_after fresh) is ∙ fresh-before_blanks fresh token

pub control-split : (mid : Bool) (token blanks : Text) (t : Tag) (tildes : Tildes) (rest : Text) (n : WhitespaceControl) → blanks ≡ last_blanks token → n ≡ control_with mid blanks t tildes rest → n ≡ control_with mid (last_blanks token) t tildes rest
control-split mid token blanks t tildes rest n is control = control ∙ ap (λ (z : Text). control_with mid z t tildes rest) is

pub IsCharBoundary-seam : (left s rest : Text) → left ≡ s ++ rest → IsUtf8 rest → IsCharBoundary left (length left - length rest)
IsCharBoundary-seam left s rest e u = rw (length-prefix left s rest e) (IsCharBoundary-at_seam left s rest e u)

pub IsUtf8-prefix : (left s rest : Text) → left ≡ s ++ rest → IsUtf8 left → IsUtf8 rest → IsUtf8 s
IsUtf8-prefix left s rest e u v = subst IsUtf8 (take-prefix left s rest e) (IsUtf8-take left (length left - length rest) u (IsCharBoundary-seam left s rest e v))

pub length-rest : (sections : Bool) (left spelled rest x y : Text) (t : Tag) (tildes : Tildes) → left ≡ spelled ++ rest → IsTag sections spelled rest t tildes → rest ≡ x ++ y → length y < length left
length-rest sections left spelled rest x y t tildes is fits tokenized =
    let some = length-tag sections spelled rest t tildes fits in
    omega (arith, some, ap length is, length-append spelled rest, ap length tokenized, length-append x y)

-- ---- in the code's own values

pub HasNoLong-after : (long_ahead : Bool) (rest x y : Text) → rest ≡ x ++ y → HasNoLong long_ahead rest → HasNoLong long_ahead y
HasNoLong-after long_ahead rest x y is h e = after_mark-end (codes "--}}") x y (subst (λ (z : Text). after_mark (codes "--}}") z ≡ None) is (h e))

pub Scans-at : (source : Text) (options : Options) (token unescaped left : Text) (e : WhitespaceControl) (l : Option NestingError) (d : ℕ) (fs : List BlockSoFar) (es : List PositionedElement) → e ≡ no_control → source ≡ token ++ left → IsText (braces_after e) left token unescaped
    → l ≡ None → d ≡ 0 → fs ≡ [] → es ≡ [] → Scans source options token unescaped left origin true e l d fs es
Scans-at source options token unescaped left e l d fs es is parts h a b c f = rw (a, b, c, f) (Scans-start source options token unescaped left e is parts h)
