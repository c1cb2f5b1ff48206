-- At most one outcome.
use Rattle.std.proofs.Common.{◌≡◌, ◌<◌, List, [], ◌∷◌, ◌++◌, refl, sym, ap, ◌∙◌, subst, append_assoc, ◌⊎◌, inl, inr}
use Rattle.std.proofs.lemmas.Bool.{false≢true}
use Rattle.std.proofs.lemmas.List.{append-nil}
use Rattle.handlebars_base.specs.Bytes.{Text}
use Rattle.handlebars_template.proofs.Scan.{pieces_in-append}
use Rattle.handlebars_lexer.specs.Text.{braces}
use Rattle.handlebars_lexer.specs.Trim.{WhitespaceControl, no_control, braces_after}
use Rattle.handlebars_lexer.proofs.Runs.{braces-none}
use Rattle.handlebars_lexer.specs.Options.{Options}
use Rattle.handlebars_template.specs.Position.{Position, position}
use Rattle.handlebars_template.specs.Nest.{SourcePiece, NestingError, PositionedElement, syntax_alone, names_and_literals, Nests, Rejects, LeavesOpen, left_open as still_open}
use Rattle.handlebars_template.specs.Tokens.{Token, text_token, Reads, AreTokens}
use Rattle.handlebars_template.specs.Compile.{pieces_in, tree_of, unreadable_tag, refusal_for, IsUnreadable, Compilation, compiled, rejected, Compiles, whole, no_tag, misplaced, left_open, late, OneCompilation}
use Rattle.handlebars_template.proofs.NestsSteps.{Rejects-append}
use Rattle.handlebars_template.proofs.NestsOne.{Opens-Rejects, Nests-one, Rejects-one, LeavesOpen-one, Nests-Rejects, Nests-LeavesOpen, Nests-loose}
use Rattle.handlebars_template.proofs.Tokens.{count, one_beginning, back, LastText, no_longer, by_order, both_end, same_end, tokens_end, one_tokenization}

-- ---- the pieces of tokens

rejects_more : (options : Options) (f : NestingError) (ps more : List Token) → Rejects syntax_alone (pieces_in options ps) f → Rejects syntax_alone (pieces_in options (ps ++ more)) f
rejects_more options f ps more h = subst (λ (z : List SourcePiece). Rejects syntax_alone z f) (sym (pieces_in-append options ps more)) (Rejects-append (pieces_in options more) h)

-- ---- the outcome of a whole source

-- by the pieces of a whole source
data Verdict (options : Options) (ps : List SourcePiece) : Compilation → Type 0 where
  nests : {es : List PositionedElement} → Nests names_and_literals 0 ps es → Verdict options ps (compiled (tree_of options es))
  open_block : {f : NestingError} → LeavesOpen syntax_alone ps f → Verdict options ps (rejected (refusal_for options f))
  late_nesting_error : {es : List PositionedElement} {f : NestingError} → Nests syntax_alone 0 ps es → Rejects names_and_literals ps f
      → Verdict options ps (rejected (refusal_for options f))

one_verdict : (options : Options) (ps : List SourcePiece) (a b : Compilation) → Verdict options ps a → Verdict options ps b → a ≡ b
one_verdict options ps a b (nests h) (nests k) = ap (λ (z : List PositionedElement). compiled (tree_of options z)) (Nests-one h k)
one_verdict options ps a b (nests h) (open_block k) = absurd (Nests-LeavesOpen (Nests-loose h) k)
one_verdict options ps a b (nests h) (late_nesting_error n k) = absurd (Nests-Rejects h k)
one_verdict options ps a b (open_block h) (nests k) = absurd (Nests-LeavesOpen (Nests-loose k) h)
one_verdict options ps a b (open_block h) (open_block k) = ap (λ (z : NestingError). rejected (refusal_for options z)) (LeavesOpen-one h k)
one_verdict options ps a b (open_block h) (late_nesting_error n k) = absurd (Nests-LeavesOpen n h)
one_verdict options ps a b (late_nesting_error n h) (nests k) = absurd (Nests-Rejects k h)
one_verdict options ps a b (late_nesting_error n h) (open_block k) = absurd (Nests-LeavesOpen n k)
one_verdict options ps a b (late_nesting_error n h) (late_nesting_error m k) = ap (λ (z : NestingError). rejected (refusal_for options z)) (Rejects-one h k)

-- The syntax rejects no piece of a source that it reads to the end.
LeavesOpen-fair : {ps : List SourcePiece} {f g : NestingError} → LeavesOpen syntax_alone ps f → Rejects syntax_alone ps g → ⊥
LeavesOpen-fair (still_open o) bad = Opens-Rejects o bad

verdict_fair : {options : Options} {ps : List SourcePiece} {o : Compilation} {f : NestingError} → Verdict options ps o → Rejects syntax_alone ps f → ⊥
verdict_fair (nests h) bad = Nests-Rejects (Nests-loose h) bad
verdict_fair (open_block h) bad = LeavesOpen-fair h bad
verdict_fair (late_nesting_error n h) bad = Nests-Rejects n bad

-- ---- the three ways in which a source ends

record Full (s : Text) (options : Options) (o : Compilation) : Type 0 where
  pub tokens : List Token
  pub tokenized : AreTokens s options tokens
  pub says : Verdict options (pieces_in options tokens) o

record Early (s : Text) (options : Options) (o : Compilation) : Type 0 where
  pub before : Text
  pub control : WhitespaceControl
  pub tokens : List Token
  pub begins : Reads s options before control tokens
  pub error : NestingError
  pub rejects : Rejects syntax_alone (pieces_in options tokens) error
  pub is : o ≡ rejected (refusal_for options error)

record Stuck (s : Text) (options : Options) (o : Compilation) : Type 0 where
  pub at : Position
  pub unreadable : IsUnreadable s options at
  pub is : o ≡ rejected (unreadable_tag options at)

stuck_ends : (s : Text) (options : Options) (at : Position) → (u : IsUnreadable s options at) → LastText options s u.before u.control u.text u.unescaped u.left
stuck_ends s options at u = record { whole = u.whole; is_text = u.is_text; none = u.none }

-- an error in a prefix is an error in every longer prefix
rejects_longer : {s b c : Text} {e f : WhitespaceControl} {ps qs : List Token} {options : Options} → (r : Reads s options b e ps) (q : Reads s options c f qs) (error : NestingError) (more : List Token)
    → Rejects syntax_alone (pieces_in options qs) error → (count q ≡ count r) ⊎ (count q < count r) → Rejects syntax_alone (pieces_in options (ps ++ more)) error
rejects_longer {ps = ps} {qs = qs} {options = options} r q error more bad le = elim le [
  | inl same ↦ let a = one_beginning q r same in
      subst (λ (z : List Token). Rejects syntax_alone (pieces_in options (z ++ more)) error) a.tokens (rejects_more options error qs more bad)
  | inr less ↦
      let k = back r (count q) less in
      let a = one_beginning q k.begins (sym k.long) in
      let all : qs ++ (k.more ++ more) ≡ ps ++ more = ap (λ (z : List Token). z ++ (k.more ++ more)) a.tokens ∙ sym (append_assoc k.tokens k.more more) ∙ ap (λ (z : List Token). z ++ more) (sym k.parts) in
      subst (λ (z : List Token). Rejects syntax_alone (pieces_in options z) error) all (rejects_more options error qs (k.more ++ more) bad)
]

-- where a reading ends, a syntax error is in what was read
early_rejects : {s b c x unescaped left : Text} {e f : WhitespaceControl} {ps qs : List Token} {options : Options} → (r : Reads s options b e ps) → LastText options s b e x unescaped left → (q : Reads s options c f qs) (error : NestingError) (more : List Token)
    → Rejects syntax_alone (pieces_in options qs) error → Rejects syntax_alone (pieces_in options (ps ++ more)) error
early_rejects r ends q error more bad = elim (by_order (count q) (count r)) [
  | inl same ↦ rejects_longer r q error more bad (inl same)
  | inr other ↦ elim other [
    | inl less ↦ rejects_longer r q error more bad (inr less)
    | inr longer ↦ absurd (no_longer r ends q longer)
  ]
]

-- ---- two of them

two_early : {s : Text} {options : Options} {o p : Compilation} → Early s options o → Early s options p → o ≡ p
two_early {s} {options} {o} {p} a b =
    let one : a.error ≡ b.error = elim (by_order (count a.begins) (count b.begins)) [
      | inl same ↦ Rejects-one (rejects_longer b.begins a.begins a.error [] a.rejects (inl same)) (rejects_more options b.error b.tokens [] b.rejects)
      | inr other ↦ elim other [
        | inl less ↦ Rejects-one (rejects_longer b.begins a.begins a.error [] a.rejects (inr less)) (rejects_more options b.error b.tokens [] b.rejects)
        | inr more ↦ Rejects-one (rejects_more options a.error a.tokens [] a.rejects) (rejects_longer a.begins b.begins b.error [] b.rejects (inr more))
      ]
    ] in
    a.is ∙ ap (λ (z : NestingError). rejected (refusal_for options z)) one ∙ sym b.is

two_full : {s : Text} {options : Options} {o p : Compilation} → Full s options o → Full s options p → o ≡ p
two_full {s} {options} {o} {p} a b =
    one_verdict options (pieces_in options b.tokens) o p (subst (λ (z : List Token). Verdict options (pieces_in options z) o) (one_tokenization s options a.tokens b.tokens a.tokenized b.tokenized) a.says) b.says

two_stuck : {s : Text} {options : Options} {o p : Compilation} → Stuck s options o → Stuck s options p → o ≡ p
two_stuck {s} {options} a b =
    let u = a.unreadable in let v = b.unreadable in
    let at = both_end u.begins (stuck_ends s options a.at u) v.begins (stuck_ends s options b.at v) in
    let texts = same_end s u.before v.before u.text v.text u.unescaped v.unescaped u.left v.left u.control v.control at.here at.control (stuck_ends s options a.at u) (stuck_ends s options b.at v) in
    let here = at.here in let text = texts.tokens in
    let there : u.before ++ u.text ≡ v.before ++ v.text = cc in
    a.is ∙ ap (λ (z : Position). rejected (unreadable_tag options z)) (u.there ∙ ap position there ∙ sym v.there) ∙ sym b.is

full_stuck : {s : Text} {options : Options} {o p : Compilation} → Full s options o → Stuck s options p → ⊥
full_stuck {s} {options} a b =
    let c = a.tokenized in let v = b.unreadable in
    let at = both_end c.begins (tokens_end s options a.tokens c) v.begins (stuck_ends s options b.at v) in
    let texts = same_end s c.before v.before c.text v.text c.unescaped v.unescaped [] v.left c.control v.control at.here at.control (tokens_end s options a.tokens c) (stuck_ends s options b.at v) in
    false≢true (sym (braces-none (braces_after v.control)) ∙ ap (braces (braces_after v.control)) texts.follows ∙ v.marks)

full_early : {s : Text} {options : Options} {o p : Compilation} → Full s options o → Early s options p → ⊥
full_early {s} {options} a b =
    let c = a.tokenized in
    let bad = early_rejects c.begins (tokens_end s options a.tokens c) b.begins b.error (text_token (position c.before) c.control c.text c.unescaped no_control ∷ []) b.rejects in
    verdict_fair a.says (subst (λ (z : List Token). Rejects syntax_alone (pieces_in options z) b.error) (sym c.gives) bad)

stuck_early : {s : Text} {options : Options} {o p : Compilation} → Stuck s options o → Early s options p → ⊥
stuck_early {s} {options} a b =
    let u = a.unreadable in
    let bad = early_rejects u.begins (stuck_ends s options a.at u) b.begins b.error [] b.rejects in
    Opens-Rejects u.nests (subst (λ (z : List Token). Rejects syntax_alone (pieces_in options z) b.error) (append-nil u.tokens) bad)

-- ---- the law

data Class (s : Text) (options : Options) (o : Compilation) : Type 0 where
  full : Full s options o → Class s options o
  stuck : Stuck s options o → Class s options o
  early : Early s options o → Class s options o

class_of : {s : Text} {options : Options} {o : Compilation} → Compiles s options o → Class s options o
class_of (whole {ps = ps} tokenized n) = full (record { tokens = ps; tokenized = tokenized; says = nests n })
class_of (no_tag {at = at} u) = stuck (record { at = at; unreadable = u; is = refl })
class_of (misplaced {before = before} {control = control} {ps = ps} {f = f} r bad) =
    early (record { before = before; control = control; tokens = ps; begins = r; error = f; rejects = bad; is = refl })
class_of (left_open {ps = ps} tokenized bad) = full (record { tokens = ps; tokenized = tokenized; says = open_block bad })
class_of (late {ps = ps} tokenized n bad) = full (record { tokens = ps; tokenized = tokenized; says = late_nesting_error n bad })

same_class : {s : Text} {options : Options} {o p : Compilation} → Class s options o → Class s options p → o ≡ p
same_class (full a) (full b) = two_full a b
same_class (full a) (stuck b) = absurd (full_stuck a b)
same_class (full a) (early b) = absurd (full_early a b)
same_class (stuck a) (full b) = absurd (full_stuck b a)
same_class (stuck a) (stuck b) = two_stuck a b
same_class (stuck a) (early b) = absurd (stuck_early a b)
same_class (early a) (full b) = absurd (full_early b a)
same_class (early a) (stuck b) = absurd (stuck_early b a)
same_class (early a) (early b) = two_early a b

pub one_compilation : OneCompilation
one_compilation s options a b h k = same_class (class_of h) (class_of k)
