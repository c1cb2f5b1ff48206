-- When a piece may come next, and what the machine does then; and why it is rejected, by the machine and by the relation.
use Rattle.std.proofs.Common.{◌≡◌, ℕ, suc, ◌+◌, ◌<◌, ◌≤◌, List, [], ◌∷◌, Bool, true, false, Option, None, Some, refl, ap, ◌∙◌, subst, arith}
use Rattle.std.specs.Prelude.{if◌then◌else◌, option_map}
use Rattle.std.specs.Option.{option_or}
use Rattle.std.proofs.lemmas.Bool.{lt-ltb, le-ltb}
use Rattle.std.proofs.lemmas.Option.{same_Some, none-some}
use borrow.Author.Tests.{ltb-true, ltb-false}
use Rattle.handlebars_base.specs.Bytes.{Text}
use Rattle.handlebars_template.specs.Position.{Position}
use Rattle.handlebars_template.specs.Tree.{Element}
use Rattle.handlebars_template.specs.Calls.{max_nesting}
use Rattle.handlebars_template.specs.Nest.{BlockKind, Opening, SourcePiece, leaf, opens, inverts, chains, closes, position_in, rejected_in, may_end, NestingError, unexpected, too_deep, mismatched, no_value, PositionedElement, Checks, syntax_alone, names_and_literals, may_close, has_values, OpenBlock, takes_inverse, is_allowed_in, cost, RejectsAt, not_allowed, past_limit, without_value, other_name}
use Rattle.handlebars_template.specs.Machine.{BlockSoFar, open_in, Moved, stops, after_piece, syntax_error_by, is_too_deep, early_in, name_error_in, late_in}
use Rattle.handlebars_template.proofs.Machine.{tried, nesting_error_in, unless_error, moved_by, apply}

-- ---- how deep

deep-past : (d : ℕ) (x : SourcePiece) → is_too_deep d x ≡ true → max_nesting < d + cost x
deep-past d (leaf p e n r) is = ltb-true _ _ is
deep-past d (opens p o n r) is = ltb-true _ _ is
deep-past d (inverts p) is = absurd cc
deep-past d (chains p o n r) is = ltb-true _ _ is
deep-past d (closes p raw m) is = absurd cc

past-deep : (d : ℕ) (x : SourcePiece) → d ≤ max_nesting → max_nesting < d + cost x → is_too_deep d x ≡ true
past-deep d (leaf p e n r) le lt = lt-ltb max_nesting (d + n) lt
past-deep d (opens p o n r) le lt = lt-ltb max_nesting (d + suc n) lt
past-deep d (inverts p) le lt = absurd (omega (arith, le, lt))
past-deep d (chains p o n r) le lt = lt-ltb max_nesting (d + suc n) lt
past-deep d (closes p raw m) le lt = absurd (omega (arith, le, lt))

shallow-fits : (d : ℕ) (x : SourcePiece) → d ≤ max_nesting → is_too_deep d x ≡ false → d + cost x ≤ max_nesting
shallow-fits d (leaf p e n r) le is = ltb-false _ _ is
shallow-fits d (opens p o n r) le is = ltb-false _ _ is
shallow-fits d (inverts p) le is = omega (arith, le)
shallow-fits d (chains p o n r) le is = ltb-false _ _ is
shallow-fits d (closes p raw m) le is = omega (arith, le)

fits-shallow : (d : ℕ) (x : SourcePiece) → d + cost x ≤ max_nesting → is_too_deep d x ≡ false
fits-shallow d (leaf p e n r) fits = le-ltb max_nesting (d + n) fits
fits-shallow d (opens p o n r) fits = le-ltb max_nesting (d + suc n) fits
fits-shallow d (inverts p) fits = refl
fits-shallow d (chains p o n r) fits = le-ltb max_nesting (d + suc n) fits
fits-shallow d (closes p raw m) fits = refl

-- ---- names and literals

tried-none : (t : Checks) → tried t None ≡ None
tried-none syntax_alone = refl
tried-none names_and_literals = refl

tried-values : (t : Checks) (r : Option Text) → has_values t r ≡ true → tried t (option_or (option_map no_value r) None) ≡ None
tried-values syntax_alone r fair = refl
tried-values names_and_literals None fair = refl
tried-values names_and_literals (Some raw) fair = absurd cc

pub values-tried : (t : Checks) (r : Option Text) → tried t (option_or (option_map no_value r) None) ≡ None → has_values t r ≡ true
values-tried syntax_alone r none = refl
values-tried names_and_literals None none = refl
values-tried names_and_literals (Some raw) none = absurd cc

tried-worthless : (t : Checks) (r : Option Text) (raw : Text) (f : Option NestingError) → r ≡ Some raw → has_values t (Some raw) ≡ false
    → tried t (option_or (option_map no_value r) f) ≡ Some (no_value raw)
tried-worthless syntax_alone r raw f is bad = absurd cc
tried-worthless names_and_literals r raw f is bad = ap (λ (z : Option Text). option_or (option_map no_value z) f) is

abbrev name_error : Bool → BlockKind → Text → Text → Position → Option NestingError
name_error b k n m p = if b then None else Some (mismatched k n m p)

module _ (k : BlockKind) (n m : Text) (p : Position) where
  tried-named : (t : Checks) → may_close t n m ≡ true → tried t (name_error (may_close names_and_literals n m) k n m p) ≡ None
  tried-named syntax_alone is = refl
  tried-named names_and_literals is = ap (λ (b : Bool). name_error b k n m p) is

  tried-other : (t : Checks) → may_close t n m ≡ false
      → tried t (name_error (may_close names_and_literals n m) k n m p) ≡ Some (mismatched k n m p)
  tried-other syntax_alone is = absurd cc
  tried-other names_and_literals is = ap (λ (b : Bool). name_error b k n m p) is

  name_error-none : (b : Bool) → name_error b k n m p ≡ None → b ≡ true
  name_error-none true is = refl
  name_error-none false is = absurd cc

  pub named-tried : (t : Checks) → tried t (name_error (may_close names_and_literals n m) k n m p) ≡ None → may_close t n m ≡ true
  named-tried syntax_alone is = refl
  named-tried names_and_literals is = name_error-none (may_close names_and_literals n m) is

-- ---- what is allowed

pub record IsAcceptedPiece (t : Checks) (d : ℕ) (fs : List OpenBlock) (x : SourcePiece) : Type 0 where
  pub allowed : is_allowed_in fs x ≡ true
  pub shallow : is_too_deep d x ≡ false
  pub fair : tried t (late_in fs x) ≡ None

abbrev nesting_error_by : Bool → Bool → Position → Option NestingError → Option NestingError
nesting_error_by b c p late = option_or (syntax_error_by b c p) late

nesting_error_by-none : (b c : Bool) (p : Position) (late : Option NestingError) → nesting_error_by b c p late ≡ None → (b ≡ true) × (c ≡ false) × (late ≡ None)
nesting_error_by-none false c p late is = absurd cc
nesting_error_by-none true true p late is = absurd cc
nesting_error_by-none true false p late is = (refl, refl, is)

pub nesting_error_in-none : (t : Checks) (d : ℕ) (fs : List OpenBlock) (x : SourcePiece) → nesting_error_in t d fs x ≡ None → IsAcceptedPiece t d fs x
nesting_error_in-none t d fs x is =
    let all = nesting_error_by-none (is_allowed_in fs x) (is_too_deep d x) (position_in x) (tried t (late_in fs x)) (is) in
    record { allowed = all.0; shallow = all.1; fair = all.2 }

none-nesting_error_in : (t : Checks) (d : ℕ) (fs : List OpenBlock) (x : SourcePiece) → IsAcceptedPiece t d fs x → nesting_error_in t d fs x ≡ None
none-nesting_error_in t d fs x h =
    ap (λ (b : Bool). nesting_error_by b (is_too_deep d x) (position_in x) (tried t (late_in fs x))) h.allowed
    ∙ ap (λ (b : Bool). nesting_error_by true b (position_in x) (tried t (late_in fs x))) h.shallow ∙ h.fair

pub apply-moved_by : (t : Checks) (x : SourcePiece) (d : ℕ) (fs : List BlockSoFar) (es : List PositionedElement) → apply t x d fs es ≡ moved_by t x d fs es
apply-moved_by t (leaf p e n r) d fs es = refl
apply-moved_by t (opens p o n r) d fs es = refl
apply-moved_by t (inverts p) d fs es = refl
apply-moved_by t (chains p o n r) d fs es = refl
apply-moved_by t (closes p raw m) d fs es = refl

pub apply-fits : (t : Checks) (x : SourcePiece) (d : ℕ) (fs : List BlockSoFar) (es : List PositionedElement) → IsAcceptedPiece t d (open_in fs) x → apply t x d fs es ≡ after_piece x d fs es
apply-fits t x d fs es h = apply-moved_by t x d fs es ∙ ap (λ (f : Option NestingError). unless_error f (after_piece x d fs es)) (none-nesting_error_in t d (open_in fs) x h)

-- by the syntax alone
pub apply-early : (x : SourcePiece) (d : ℕ) (fs : List BlockSoFar) (es : List PositionedElement) (m : Moved) → early_in d (open_in fs) x ≡ None → after_piece x d fs es ≡ m → apply syntax_alone x d fs es ≡ m
apply-early x d fs es m is moves = apply-moved_by syntax_alone x d fs es ∙ ap (λ (f : Option NestingError). unless_error (option_or f None) (after_piece x d fs es)) is ∙ moves

pub apply-stops : (x : SourcePiece) (d : ℕ) (fs : List BlockSoFar) (es : List PositionedElement) (f : NestingError) → early_in d (open_in fs) x ≡ Some f → apply syntax_alone x d fs es ≡ stops f
apply-stops x d fs es f is = apply-moved_by syntax_alone x d fs es ∙ ap (λ (f : Option NestingError). unless_error (option_or f None) (after_piece x d fs es)) is

pub early-shallow : (x : SourcePiece) (d : ℕ) (fs : List OpenBlock) → early_in d fs x ≡ None → is_too_deep d x ≡ false
early-shallow x d fs is = (nesting_error_in-none syntax_alone d fs x (ap (λ (f : Option NestingError). option_or f None) is)).shallow

-- ---- each piece

pub IsAcceptedPiece-leaf : (t : Checks) (d : ℕ) (fs : List OpenBlock) (p : Position) (e : Element) (n : ℕ) (r : Option Text) → d + n ≤ max_nesting → has_values t r ≡ true → IsAcceptedPiece t d fs (leaf p e n r)
IsAcceptedPiece-leaf t d fs p e n r fits fair = record { allowed = refl; shallow = le-ltb max_nesting (d + n) fits; fair = tried-values t r fair }

pub IsAcceptedPiece-opens : (t : Checks) (d : ℕ) (fs : List OpenBlock) (p : Position) (o : Opening) (n : ℕ) (r : Option Text) → d + suc n ≤ max_nesting → has_values t r ≡ true → IsAcceptedPiece t d fs (opens p o n r)
IsAcceptedPiece-opens t d fs p o n r fits fair = record { allowed = refl; shallow = le-ltb max_nesting (d + suc n) fits; fair = tried-values t r fair }

pub IsAcceptedPiece-inverts : (t : Checks) (d : ℕ) (f : OpenBlock) (fs : List OpenBlock) (p : Position) → takes_inverse f ≡ true → IsAcceptedPiece t d (f ∷ fs) (inverts p)
IsAcceptedPiece-inverts t d f fs p takes = record { allowed = takes; shallow = refl; fair = tried-none t }

pub IsAcceptedPiece-chains : (t : Checks) (d : ℕ) (f : OpenBlock) (fs : List OpenBlock) (p : Position) (o : Opening) (n : ℕ) (r : Option Text) → takes_inverse f ≡ true → d + suc n ≤ max_nesting → has_values t r ≡ true
    → IsAcceptedPiece t d (f ∷ fs) (chains p o n r)
IsAcceptedPiece-chains t d f fs p o n r takes fits fair = record { allowed = takes; shallow = le-ltb max_nesting (d + suc n) fits; fair = tried-values t r fair }

pub IsAcceptedPiece-closes : (t : Checks) (d : ℕ) (f : OpenBlock) (fs : List OpenBlock) (p : Position) (raw : Bool) (m : Text) → may_end f.opening.kind raw m ≡ true → may_close t f.opening.closing m ≡ true
    → IsAcceptedPiece t d (f ∷ fs) (closes p raw m)
IsAcceptedPiece-closes t d f fs p raw m ends is = record { allowed = ends; shallow = refl; fair = tried-named f.opening.kind f.opening.closing m p t is }

-- ---- errors

pub RejectsAt-error : {t : Checks} {d : ℕ} {fs : List OpenBlock} {x : SourcePiece} {f : NestingError} → d ≤ max_nesting → RejectsAt t d fs x f → nesting_error_in t d fs x ≡ Some f
RejectsAt-error {t} {d} {fs} {x} le (not_allowed is) =
    ap (λ (b : Bool). nesting_error_by b (is_too_deep d x) (position_in x) (tried t (late_in fs x))) is
RejectsAt-error {t} {d} {fs} {x} le (past_limit is deep) =
    ap (λ (b : Bool). nesting_error_by b (is_too_deep d x) (position_in x) (tried t (late_in fs x))) is
    ∙ ap (λ (b : Bool). nesting_error_by true b (position_in x) (tried t (late_in fs x))) (past-deep d x le deep)
RejectsAt-error {t} {d} {fs} {x} le (without_value {raw = raw} is fits rejected bad) =
    ap (λ (b : Bool). nesting_error_by b (is_too_deep d x) (position_in x) (tried t (late_in fs x))) is
    ∙ ap (λ (b : Bool). nesting_error_by true b (position_in x) (tried t (late_in fs x))) (fits-shallow d x fits)
    ∙ tried-worthless t (rejected_in x) raw (name_error_in x fs) rejected bad
RejectsAt-error {t} {d} le (other_name {f = f} {fs = fs} {p = p} {raw = raw} {m = m} is other) =
    ap (λ (b : Bool). nesting_error_by b false p (tried t (late_in (f ∷ fs) (closes p raw m)))) is ∙ tried-other f.opening.kind f.opening.closing m p t other

RejectsAt-name : (d : ℕ) (fs : List OpenBlock) (x : SourcePiece) (f : NestingError) → is_allowed_in fs x ≡ true → name_error_in x fs ≡ Some f → RejectsAt names_and_literals d fs x f
RejectsAt-name d fs (leaf p e n r) f allowed is = absurd (none-some f is)
RejectsAt-name d fs (opens p o n r) f allowed is = absurd (none-some f is)
RejectsAt-name d fs (inverts p) f allowed is = absurd (none-some f is)
RejectsAt-name d fs (chains p o n r) f allowed is = absurd (none-some f is)
RejectsAt-name d [] (closes p raw m) f allowed is = absurd (none-some f is)
RejectsAt-name d (g ∷ fs) (closes p raw m) f allowed is = by_name (may_close names_and_literals g.opening.closing m) refl is
  where
    by_name : (b : Bool) → may_close names_and_literals g.opening.closing m ≡ b → name_error b g.opening.kind g.opening.closing m p ≡ Some f
        → RejectsAt names_and_literals d (g ∷ fs) (closes p raw m) f
    by_name true same is = absurd (none-some f is)
    by_name false other is = subst (RejectsAt names_and_literals d (g ∷ fs) (closes p raw m)) (same_Some _ f is) (other_name allowed other)

RejectsAt-late : (t : Checks) (d : ℕ) (fs : List OpenBlock) (x : SourcePiece) (f : NestingError) (r : Option Text) → rejected_in x ≡ r → is_allowed_in fs x ≡ true → d + cost x ≤ max_nesting
    → tried t (option_or (option_map no_value r) (name_error_in x fs)) ≡ Some f → RejectsAt t d fs x f
RejectsAt-late syntax_alone d fs x f r rejected allowed fits is = absurd (none-some f is)
RejectsAt-late names_and_literals d fs x f None rejected allowed fits is = RejectsAt-name d fs x f allowed is
RejectsAt-late names_and_literals d fs x f (Some raw) rejected allowed fits is = subst (RejectsAt names_and_literals d fs x) (same_Some (no_value raw) f is) (without_value allowed fits rejected refl)

RejectsAt-by : (t : Checks) (d : ℕ) (fs : List OpenBlock) (x : SourcePiece) (f : NestingError) (b c : Bool) → d ≤ max_nesting → is_allowed_in fs x ≡ b → is_too_deep d x ≡ c
    → nesting_error_by b c (position_in x) (tried t (late_in fs x)) ≡ Some f → RejectsAt t d fs x f
RejectsAt-by t d fs x f false c le allowed deep is = subst (RejectsAt t d fs x) (same_Some (unexpected (position_in x)) f is) (not_allowed allowed)
RejectsAt-by t d fs x f true true le allowed deep is = subst (RejectsAt t d fs x) (same_Some (too_deep (position_in x)) f is) (past_limit allowed (deep-past d x deep))
RejectsAt-by t d fs x f true false le allowed deep is = RejectsAt-late t d fs x f (rejected_in x) refl allowed (shallow-fits d x le deep) is

pub error-RejectsAt : (t : Checks) (d : ℕ) (fs : List OpenBlock) (x : SourcePiece) (f : NestingError) → d ≤ max_nesting → nesting_error_in t d fs x ≡ Some f → RejectsAt t d fs x f
error-RejectsAt t d fs x f le is = RejectsAt-by t d fs x f (is_allowed_in fs x) (is_too_deep d x) le refl refl (is)
