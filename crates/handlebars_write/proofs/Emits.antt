-- Pieces that are emitted, one after another.
use Rattle.std.proofs.Common.{◌≡◌, ◌≢◌, ℕ, zero, suc, ◌+◌, ◌-◌, ◌^◌, ◌<◌, ◌≤◌, Bool, true, false, List, map, [], ◌∷◌, ◌++◌, length, get_or, take, drop, length-drop, drop-drop, Option, None, Some, Ok, Err, refl, sym, ap, ap₂, ◌∙◌, subst, append_assoc, append-nil, arith}
use Rattle.std.specs.Prelude.{◌==◌, if◌then◌else◌, IfOk}
use Rattle.std.specs.declared.io.Error.{Error}
use Rattle.std.proofs.lemmas.Bool.{ne_eqb}
use Rattle.std.proofs.lemmas.List.{take-append-drop}
use Rattle.handlebars_base.specs.Bytes.{Text, newline}
use Rattle.handlebars_base.specs.declared.error.render_error.RenderError.{RenderError}
use Rattle.handlebars_scope.specs.Indentation.{lines_of, longer, takes_indent}
use Rattle.handlebars_scope.specs.LineState.{LineState, line_after_text}
use Rattle.handlebars_scope.proofs.Indents.{HasNoNewline, read_line, read-more}
use Rattle.handlebars_semantics.specs.Pieces.{Origin, Piece, indent_pieces, pieces_before, pieces_between, pieces_of, pieces_put}
use Rattle.handlebars_semantics.specs.Runs.{Prefix, none, truncated, more}
use Rattle.handlebars_semantics.specs.State.{State}
use Rattle.handlebars_semantics.specs.Emitted.{Provenance, provenance, Emitted, emitted}
use Rattle.handlebars_expand.specs.PiecesView.{emitted_by}
use Rattle.handlebars_expand.specs.View.{state_after, with_line}
use Rattle.handlebars_write.specs.View.{Answered, Gains, Holding, Moment, moment_at, with_emitted}
use Rattle.handlebars_write.specs.Writes.{AreSome, EmitsPiece, Puts, WritesPieces, WritesAsIs, all_written, and_emitted, prefix_written, part_written, piece_lost, piece_failed, piece_emitted}
use Rattle.handlebars_expand.specs.declared.ahead.CapturedPiece.{CapturedPiece}
use Rattle.handlebars_write.specs.OutcomeView.{outcome_answer}
use Rattle.handlebars_write.specs.declared.outcome.Outcome.{Outcome}
use Rattle.handlebars_write.specs.declared.outcome.Outcome.TheVariants.{Done, OutOfMemory, Error as Failed}
use Rattle.handlebars_write.proofs.Refinement.{gains-append, gains-none}

-- ---- the lines of a text

lines-cut : (u t : Text) → HasNoNewline u → lines_of (u ++ newline ∷ t) ≡ (u ++ newline ∷ []) ∷ lines_of t
lines-cut [] t all = refl
lines-cut (b ∷ u) t all = rw (ne_eqb b newline all.0) (ap (longer b) (lines-cut u t all.1))

last-line : (b : ℕ) → lines_of (b ∷ []) ≡ (b ∷ []) ∷ []
last-line b = by_test (b == newline)
  where
    by_test : (test : Bool) → (if test then (b ∷ []) ∷ [] else longer b []) ≡ (b ∷ []) ∷ []
    by_test true = refl
    by_test false = refl

-- a line with no newline except perhaps at its end
one-line : (n : ℕ) (t : Text) → 0 < length t → length t ≤ n + 1 → HasNoNewline (take n t) → lines_of t ≡ t ∷ []
one-line n [] some le all = absurd (omega arith)
one-line n (b ∷ []) some le all = last-line b
one-line zero (b ∷ c ∷ t) some le all = absurd (omega arith)
one-line (suc n) (b ∷ c ∷ t) some le all =
    rw (ne_eqb b newline all.0) (ap (longer b) (one-line n (c ∷ t) (omega arith) (omega arith) all.1))

-- ---- the pieces of a text, from a byte on

abbrev pub pieces_from : Origin → Text → Text → ℕ → List Piece
pieces_from o indent text written = pieces_between o (indent_pieces o indent) (lines_of (drop written text))

abbrev pub one_piece : Origin → Text → List Piece
one_piece o t = record { origin = o; text = t } ∷ []

some-lines : (t : Text) → 0 < length t → (m : Text) × (ls : List Text) × (lines_of t ≡ m ∷ ls)
some-lines [] some = absurd (omega arith)
some-lines (b ∷ t) some = by_test (b == newline) (lines_of t)
  where
    by_test : (test : Bool) (ls : List Text)
        → (m : Text) × (ms : List Text) × ((if test then (b ∷ []) ∷ ls else longer b ls) ≡ m ∷ ms)
    by_test true ls = (b ∷ [], ls, refl)
    by_test false [] = (b ∷ [], [], refl)
    by_test false (l ∷ ls) = (b ∷ l, ls, refl)

-- after a newline
pub pieces-cut : (o : Origin) (indent text bytes run : Text) (written at : ℕ) → bytes ≡ text
    → run ≡ take (at - written) (drop written text) → written < at → at < length bytes → get_or bytes (at - 1) 0 ≡ newline
    → HasNoNewline (read_line text written at)
    → pieces_from o indent text written ≡ one_piece o run ++ (indent_pieces o indent ++ pieces_from o indent text at)
pieces-cut o indent text bytes run written at is is_run w l here all =
    let inside : at < length text = subst (λ t. at < length t) is l in
    let u : Text = read_line text written at in
    let line : run ≡ u ++ newline ∷ [] = is_run ∙ read-more text written at w (omega arith)
    ∙ ap (λ b. u ++ b ∷ []) (ap (λ (t : Text). get_or t (at - 1) 0) (sym is) ∙ here) in
    let whole : drop written text ≡ run ++ drop at text = sym (take-append-drop (at - written) (drop written text))
    ∙ ap₂ (λ s t. s ++ t) (sym is_run) (drop-drop (at - written) written text ∙ ap (λ n. drop n text) (omega arith)) in
    let rest = some-lines (drop at text) (omega (arith, length-drop at text)) in
    ap (pieces_between o (indent_pieces o indent)) (ap lines_of (whole ∙ ap (λ z. z ++ drop at text) line ∙ append_assoc u (newline ∷ []) (drop at text))
    ∙ lines-cut u (drop at text) all ∙ ap₂ (λ x y. x ∷ y) (sym line) rest.2)
    ∙ ap (λ z. record { origin = o; text = run } ∷ (indent_pieces o indent ++ pieces_between o (indent_pieces o indent) z)) (sym rest.2)

-- at the end one line is left, or none
pub pieces-end : (o : Origin) (indent text bytes run : Text) (written at : ℕ) → bytes ≡ text → run ≡ drop written text
    → length bytes ≤ at → HasNoNewline (read_line text written at) → pieces_from o indent text written ≡ pieces_of o run
pieces-end o indent text bytes run written at is is_run l all =
    let past : length text ≤ at = subst (λ t. length t ≤ at) is l in
    by_rest (drop written text) (at - 1 - written) (omega (arith, length-drop written text)) all ∙ ap (pieces_of o) (sym is_run)
  where
    by_rest : (t : Text) (n : ℕ) → length t ≤ n + 1 → HasNoNewline (take n t)
        → pieces_between o (indent_pieces o indent) (lines_of t) ≡ pieces_of o t
    by_rest [] n le all = refl
    by_rest (b ∷ t) n le all = ap (pieces_between o (indent_pieces o indent)) (one-line n (b ∷ t) (omega arith) le all)

pub pieces-some : (o : Origin) (t : Text) → 0 < length t → pieces_of o t ≡ one_piece o t
pieces-some o [] some = absurd (omega arith)
pieces-some o (b ∷ t) some = refl

pub not-empty : (t : Text) → (length t == 0) ≡ false → 0 < length t
not-empty [] is = cc
not-empty (b ∷ t) is = omega arith

-- ---- prefixes of pieces

Prefix-left : {zs xs : List Piece} (ys : List Piece) → Prefix zs xs → Prefix zs (xs ++ ys)
Prefix-left ys none = none
Prefix-left ys (truncated is) = truncated is
Prefix-left ys (more f) = more (Prefix-left ys f)

Prefix-right : (xs : List Piece) {zs ys : List Piece} → Prefix zs ys → Prefix (xs ++ zs) (xs ++ ys)
Prefix-right [] f = f
Prefix-right (x ∷ xs) f = more (Prefix-right xs f)

some-left : (xs ys : List Piece) → AreSome xs → AreSome (xs ++ ys)
some-left [] ys some = absurd some
some-left (x ∷ xs) ys some = tt

some-right : (xs ys : List Piece) → AreSome ys → AreSome (xs ++ ys)
some-right [] ys some = some
some-right (x ∷ xs) ys some = tt

module _ (may : Error → Type 0) (at_boolean_text : Bool) where
  -- ---- one after another

  pub writes-nil : {h : Holding} {u : Unit {0}} → WritesAsIs [] at_boolean_text may h (Ok u) h
  writes-nil {h = h} = λ s. all_written refl (gains-none h) refl

  pub writes-over : (xs ys : List Piece) (o : Outcome) {h new : Holding} → o ≢ Done
      → WritesAsIs xs at_boolean_text may h (outcome_answer o) new → WritesAsIs (xs ++ ys) at_boolean_text may h (outcome_answer o) new
  writes-over xs ys o failed w = λ s. over o failed (w s)
    where
      error_over : {h : Holding} {after : Moment} {e : RenderError} {s : State} → WritesPieces xs at_boolean_text s may h (Err e) after
          → WritesPieces (xs ++ ys) at_boolean_text s may h (Err e) after
      error_over (prefix_written cause given some prefix gains counted reports) =
          prefix_written cause given (some-left xs ys some) (Prefix-left ys prefix) gains counted reports
      error_over (part_written prefix gains same memory) = part_written (Prefix-left ys prefix) gains same memory

      over : (o : Outcome) {h : Holding} {after : Moment} {s : State} → o ≢ Done
          → WritesPieces xs at_boolean_text s may h (outcome_answer o) after
          → WritesPieces (xs ++ ys) at_boolean_text s may h (outcome_answer o) after
      over Done failed w = absurd (failed refl)
      over OutOfMemory failed w = error_over w
      over (Failed e) failed w = error_over w

  then-second : (xs ys : List Piece) {h mid : Holding} {after : Moment} {r : Answered} {s : State} → Gains h xs mid
      → mid.write_errors ≡ h.write_errors → WritesPieces ys at_boolean_text s may mid r after → WritesPieces (xs ++ ys) at_boolean_text s may h r after
  then-second xs ys {h = h} {mid = mid} {after = after} g same (all_written is gains f) =
      all_written is (gains-append h mid after.held xs ys g gains) (f ∙ same)
  then-second xs ys {h = h} {mid = mid} {after = after} g same (prefix_written {ys = zs} cause given some prefix gains counted reports) =
      prefix_written cause given (some-right xs ys some) (Prefix-right xs prefix) (gains-append h mid after.held xs zs g gains)
      (subst (λ (n : ℕ). n + 1 < 2 ^ 64 → after.held.write_errors ≡ n + 1) same counted) reports
  then-second xs ys {h = h} {mid = mid} {after = after} g same (part_written {ys = zs} prefix gains f memory) =
      part_written (Prefix-right xs prefix) (gains-append h mid after.held xs zs g gains) (f ∙ same) memory

  then-first : (xs ys : List Piece) {h : Holding} {mid after : Moment} {u : Unit {0}} {r : Answered} {s : State}
      → WritesPieces xs at_boolean_text s may h (Ok u) mid → WritesPieces ys at_boolean_text s may mid.held r after
      → WritesPieces (xs ++ ys) at_boolean_text s may h r after
  then-first xs ys (all_written is g same) w = then-second xs ys g same w

  pub writes-then : (xs ys : List Piece) {h mid new : Holding} {u : Unit {0}} {r : Answered}
      → WritesAsIs xs at_boolean_text may h (Ok u) mid → WritesAsIs ys at_boolean_text may mid r new
      → WritesAsIs (xs ++ ys) at_boolean_text may h r new
  writes-then xs ys v w = λ s. then-first xs ys (v s) (w s)

  -- the state of the line is updated
  writes-noted : {ps : List Piece} {h : Holding} {mid : Moment} {r : Answered} {s m next : State}
      → IfOk r (λ u. next ≡ m) → WritesPieces ps at_boolean_text s may h r mid
      → WritesPieces ps at_boolean_text m may h r (record { state = next; held = mid.held })
  writes-noted is (all_written _ gains same) = all_written is gains same
  writes-noted is (prefix_written cause given some prefix gains counted reports) =
      prefix_written cause given some prefix gains counted reports
  writes-noted is (part_written prefix gains same memory) = part_written prefix gains same memory

  pub writes-to : (ps : List Piece) (m next : State) {h new : Holding} {r : Answered} → IfOk r (λ u. next ≡ m)
      → WritesAsIs ps at_boolean_text may h r new → WritesPieces ps at_boolean_text m may h r (record { state = next; held = new })
  writes-to ps m next is w = writes-noted is (w m)

  -- or the pieces were not written
  pub writes-failed : (ps : List Piece) (m next : State) (o : Outcome) {h new : Holding} → o ≢ Done
      → WritesAsIs ps at_boolean_text may h (outcome_answer o) new
      → WritesPieces ps at_boolean_text m may h (outcome_answer o) (record { state = next; held = new })
  writes-failed ps m next Done failed w = absurd (failed refl)
  writes-failed ps m next OutOfMemory failed w = writes-to ps m next tt w
  writes-failed ps m next (Failed e) failed w = writes-to ps m next tt w

  -- ---- a piece

  by-piece : (o : Origin) (t : Text) {h new : Holding} {r : Answered} {s : State}
      → EmitsPiece (emitted (record { origin = o; text = t })) at_boolean_text may h r new
      → WritesPieces (one_piece o t) at_boolean_text s may h r (record { state = s; held = new })
  by-piece o t {h = h} {new = new} (piece_emitted all same) = all_written refl (record {
    text = all.text ∙ ap (λ z. h.text ++ z) (sym (append-nil t));
    emitted = emitted-as h.emitted new.emitted same;
  }) all.write_errors
    where
      emitted-as : (a b : Option (List Emitted)) → b ≡ and_emitted (emitted (record { origin = o; text = t })) a → b ≡ with_emitted (one_piece o t) a
      emitted-as None b same = same
      emitted-as (Some ts) b same = same
  by-piece o t {h = h} (piece_failed cause given text same counted reports) = prefix_written cause given tt none (record {
    text = text ∙ sym (append-nil h.text);
    emitted = same ∙ (gains-none h).emitted;
  }) counted reports
  by-piece o t {h = h} (piece_lost same memory) = part_written none (subst (Gains h []) (sym same) (gains-none h))
      (ap (λ (z : Holding). z.write_errors) same) memory

  pub writes-piece : (o : Origin) (t : Text) (seen : Provenance) {h new : Holding} {r : Answered} → provenance o ≡ seen
      → EmitsPiece (record { text = t; provenance = seen }) at_boolean_text may h r new
      → WritesAsIs (one_piece o t) at_boolean_text may h r new
  writes-piece o t seen {h = h} {new = new} {r = r} is emits = λ s. by-piece o t
      (subst (λ (z : Provenance). EmitsPiece (record { text = t; provenance = z }) at_boolean_text may h r new) (sym is) emits)

module _ (may : Error → Type 0) (o : Origin) (t : Text) (s : State) {indent : Option Text} {line : LineState}
    (is : s.indent ≡ indent) (same : s.line ≡ line) where
  -- ---- a text in a line

  pieces-in : {h new : Holding} {r : Answered} → WritesAsIs (pieces_put o indent t line) false may h r new
      → WritesAsIs (pieces_put o s.indent t s.line) false may h r new
  pieces-in {h = h} {new = new} {r = r} =
      subst (λ (ps : List Piece). WritesAsIs ps false may h r new) (ap₂ (λ i l. pieces_put o i t l) (sym is) (sym same))

  -- its pieces were written, and the state of the line is updated
  pub pieces-done : (next : LineState) {h new : Holding} {u : Unit {0}} → next ≡ line_after_text t line
      → WritesAsIs (pieces_put o indent t line) false may h (Ok u) new
      → Puts o t may (moment_at s h) (Ok u) (moment_at (with_line next s) new)
  pieces-done next after w = writes-to may false (pieces_put o s.indent t s.line) (state_after t s) (with_line next s)
      (ap (λ (z : LineState). with_line z s) (after ∙ ap (λ (z : LineState). line_after_text t z) (sym same))) (pieces-in w)

  -- or they were not, and the state may be any
  pub pieces-failed : (next : State) (outcome : Outcome) {h new : Holding} → outcome ≢ Done
      → WritesAsIs (pieces_put o indent t line) false may h (outcome_answer outcome) new
      → Puts o t may (moment_at s h) (outcome_answer outcome) (moment_at next new)
  pieces-failed next outcome failed w =
      writes-failed may false (pieces_put o s.indent t s.line) (state_after t s) next outcome failed (pieces-in w)

-- ---- before a text

pub before-takes : (o : Origin) (indent t : Text) (line : LineState) → takes_indent line t ≡ true
    → pieces_before o indent t line ≡ indent_pieces o indent
before-takes o indent t line is = ap (λ (b : Bool). if b then indent_pieces o indent else []) is

pub before-none : (o : Origin) (indent t : Text) (line : LineState) → takes_indent line t ≡ false
    → pieces_before o indent t line ≡ []
before-none o indent t line is = ap (λ (b : Bool). if b then indent_pieces o indent else []) is

-- ---- captured pieces

pub captured-next : (ps : List Piece) (ks : List CapturedPiece) (i : ℕ) (d : CapturedPiece) → map emitted ps ≡ map emitted_by ks → i < length ks
    → (p : Piece) × (drop i ps ≡ p ∷ drop (i + 1) ps) × (emitted p ≡ emitted_by (get_or ks i d))
captured-next [] [] i d is lt = absurd (omega (arith, lt))
captured-next [] (k ∷ ks) i d is lt = cc
captured-next (p ∷ ps) [] i d is lt = cc
captured-next (p ∷ ps) (k ∷ ks) zero d is lt = (p, refl, ap (first-or (emitted p)) is)
  where
    first-or : Emitted → List Emitted → Emitted
    first-or x [] = x
    first-or x (t ∷ ts) = t
captured-next (p ∷ ps) (k ∷ ks) (suc i) d is lt =
    let r = captured-next ps ks i d (ap rest is) (omega (arith, lt)) in
    let same : suc (i + 1) ≡ suc i + 1 = omega arith in
    (r.0, r.1 ∙ ap (λ (n : ℕ). r.0 ∷ drop n (p ∷ ps)) same, r.2)
  where
    rest : List Emitted → List Emitted
    rest [] = []
    rest (t ∷ ts) = ts

pub captured-end : (ps : List Piece) (ks : List CapturedPiece) (i : ℕ) → map emitted ps ≡ map emitted_by ks → length ks ≤ i → drop i ps ≡ []
captured-end [] ks i is le = drop-nothing i
  where
    drop-nothing : (i : ℕ) → drop {A = Piece} i [] ≡ []
    drop-nothing zero = refl
    drop-nothing (suc i) = refl
captured-end (p ∷ ps) [] i is le = cc
captured-end (p ∷ ps) (k ∷ ks) zero is le = absurd (omega (arith, le))
captured-end (p ∷ ps) (k ∷ ks) (suc i) is le = captured-end ps ks i (ap rest is) (omega (arith, le))
  where
    rest : List Emitted → List Emitted
    rest [] = []
    rest (t ∷ ts) = ts

-- a piece whose text and origin are emitted again
pub captured-emitted : (o : Origin) (t : Text) (k x : Emitted) (may : Error → Type 0) {h new : Holding} {r : Answered}
    → emitted (record { origin = o; text = t }) ≡ k → x ≡ k → EmitsPiece x false may h r new
    → WritesAsIs (one_piece o t) false may h r new
captured-emitted o t k x may {h = h} {new = new} {r = r} is same emits = λ s. by-piece may false o t
    (subst (λ (z : Emitted). EmitsPiece z false may h r new) (same ∙ sym is) emits)

-- ---- an empty text

-- has no pieces
no-pieces : (o : Origin) (indent : Option Text) (line : LineState) → [] ≡ pieces_put o indent [] line
no-pieces o None line = refl
no-pieces o (Some indent) line = refl

-- so it is put by doing nothing
pub empty-puts : (may : Error → Type 0) (o : Origin) (t : Text) (s : State) {indent : Option Text} {line : LineState} {h : Holding} {u : Unit {0}}
    → s.indent ≡ indent → s.line ≡ line → t ≡ []
    → Puts o t may (moment_at s h) (Ok u) (moment_at (with_line line s) h)
empty-puts may o t s {indent = indent} {line = line} {h = h} {u = u} is same empty =
    subst (λ (z : Text). Puts o z may (moment_at s h) (Ok u) (moment_at (with_line line s) h)) (sym empty)
    (pieces-done may o [] s is same line refl
    (subst (λ (ps : List Piece). WritesAsIs ps false may h (Ok u) h) (no-pieces o indent line) (writes-nil may false)))
