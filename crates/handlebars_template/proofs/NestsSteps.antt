-- What one piece does to the state before it.
use Rattle.std.proofs.Common.{◌≡◌, ℕ, suc, ◌+◌, ◌≤◌, List, [], ◌∷◌, ◌++◌, Bool, true, Option, None, Some, refl, sym, ◌∙◌, subst, append_assoc, arith}
use Rattle.std.proofs.lemmas.Bool.{false≢true}
use Rattle.std.proofs.lemmas.List.{append-nil}
use borrow.Author.Tests.{ltb-false}
use Rattle.handlebars_base.specs.Bytes.{Text}
use Rattle.handlebars_template.specs.Position.{Position}
use Rattle.handlebars_template.specs.Calls.{max_nesting}
use Rattle.handlebars_template.specs.Nest.{BlockKind, admits_inverse, may_end, Opening, SourcePiece, leaf, opens, inverts, chains, closes, NestingError, PositionedElement, Branch, Checks, may_close, has_values, Nests, nothing, a_leaf, a_block, Chains, no_more, a_branch, no_inverse, an_inverse, OpenBlock, takes_inverse, BeginsBlock, in_a_body, in_its_inverse, Opens, none_open, and_another, RejectsAt, Rejects, rejects_at}
use Rattle.handlebars_template.specs.Machine.{BlockSoFar, without_elements, open_in, closed_block, Moved, goes, stops, after_piece}
use Rattle.handlebars_template.proofs.Machine.{nesting_error_in, unless_error, apply}
use Rattle.handlebars_template.proofs.NestsOpen.{BeginsSoFar, in_its_body, in_a_branch, in_an_inverse, OpensSoFar, no_block, a_block_more}
use Rattle.handlebars_template.proofs.NestsFits.{apply-moved_by, IsAcceptedPiece, nesting_error_in-none, values-tried, named-tried, error-RejectsAt}

-- ---- along an equation

nests_at : {t : Checks} {d : ℕ} {ps qs : List SourcePiece} {es xs : List PositionedElement} → Nests t d ps es → ps ≡ qs → es ≡ xs → Nests t d qs xs
nests_at {t} {d} {ps} {qs} {es} {xs} h e f =
    subst (λ (x : List PositionedElement). Nests t d qs x) f (subst (λ (x : List SourcePiece). Nests t d x es) e h)

chains_at : {t : Checks} {k : BlockKind} {d e : ℕ} {ps qs : List SourcePiece} {bs : List Branch} → Chains t k d ps bs e → ps ≡ qs → Chains t k d qs bs e
chains_at {t} {k} {d} {e} {ps} {qs} {bs} h is = subst (λ (x : List SourcePiece). Chains t k d x bs e) is h

begins_block_at : {t : Checks} {f : BlockSoFar} {ps qs : List SourcePiece} {d : ℕ} {es : List PositionedElement} → BeginsSoFar t f ps d es → ps ≡ qs → BeginsSoFar t f qs d es
begins_block_at {t} {f} {ps} {qs} {d} {es} h is = subst (λ (x : List SourcePiece). BeginsSoFar t f x d es) is h

opens_at : {t : Checks} {d : ℕ} {ps qs : List SourcePiece} {fs : List BlockSoFar} {es : List PositionedElement} → OpensSoFar t d ps fs es → ps ≡ qs → OpensSoFar t d qs fs es
opens_at {t} {d} {ps} {qs} {fs} {es} h is = subst (λ (x : List SourcePiece). OpensSoFar t d x fs es) is h

-- ---- no more than the limit is open

Chains-shallow : {t : Checks} {k : BlockKind} {d e : ℕ} {cs : List SourcePiece} {bs : List Branch} → Chains t k d cs bs e → d ≤ max_nesting → e ≤ max_nesting
Chains-shallow no_more le = le
Chains-shallow (a_branch p o n r may fits fair nb ch) le = Chains-shallow ch (omega (arith, fits))

BeginsBlock-shallow : {t : Checks} {o : ℕ} {f : OpenBlock} {qs : List SourcePiece} {d : ℕ} → BeginsBlock t o f qs d → d ≤ max_nesting
BeginsBlock-shallow (in_a_body p x n r fits fair nb ch) = Chains-shallow ch (omega (arith, fits))
BeginsBlock-shallow (in_its_inverse p q x n r fits fair nb ch may ng) = Chains-shallow ch (omega (arith, fits))

pub Opens-shallow : {t : Checks} {d : ℕ} {ps : List SourcePiece} {fs : List OpenBlock} → Opens t d ps fs → d ≤ max_nesting
Opens-shallow (none_open h) = omega arith
Opens-shallow (and_another o i) = BeginsBlock-shallow i

-- ---- more at the end

Nests-append : {t : Checks} {d : ℕ} {ps qs : List SourcePiece} {es xs : List PositionedElement} → Nests t d ps es → Nests t d qs xs → Nests t d (ps ++ qs) (es ++ xs)
Nests-append nothing m = m
Nests-append (a_leaf p e n r fits fair h) m = a_leaf p e n r fits fair (Nests-append h m)
Nests-append (a_block p q o n r raw k fits fair ends named nb ch la h) m =
    nests_at (a_block p q o n r raw k fits fair ends named nb ch la (Nests-append h m)) (sym (simp append_assoc)) refl

Chains-append : {t : Checks} {k : BlockKind} {d e : ℕ} {cs gs : List SourcePiece} {es : List PositionedElement} {bs : List Branch}
    → (q : Position) (g : Opening) (n : ℕ) (r : Option Text) → Chains t k d cs bs e → admits_inverse k ≡ true → e + suc n ≤ max_nesting → has_values t r ≡ true → Nests t (suc e) gs es
    → Chains t k d (cs ++ (chains q g n r ∷ gs)) (bs ++ (record { opening = g; elements = es } ∷ [])) (suc e)
Chains-append q g n r no_more may fits fair m = chains_at (a_branch q g n r may fits fair m no_more) (simp append-nil)
Chains-append q g n r (a_branch p o j u may' fits' fair' nb ch) may fits fair m =
    chains_at (a_branch p o j u may' fits' fair' nb (Chains-append q g n r ch may fits fair m)) (sym (simp append_assoc))

BeginsSoFar-append : {t : Checks} {f : BlockSoFar} {qs xs : List SourcePiece} {d : ℕ} {es ys : List PositionedElement} → BeginsSoFar t f qs d es → Nests t d xs ys → BeginsSoFar t f (qs ++ xs) d (es ++ ys)
BeginsSoFar-append (in_its_body p x n r fits fair nb) m = in_its_body p x n r fits fair (Nests-append nb m)
BeginsSoFar-append (in_a_branch p q x g n k r u fits fair nb ch may fits' fair' ng) m =
    begins_block_at (in_a_branch p q x g n k r u fits fair nb ch may fits' fair' (Nests-append ng m)) (sym (simp append_assoc))
BeginsSoFar-append (in_an_inverse p q x n r fits fair nb ch may ng) m =
    begins_block_at (in_an_inverse p q x n r fits fair nb ch may (Nests-append ng m)) (sym (simp append_assoc))

OpensSoFar-append : {t : Checks} {d : ℕ} {ps xs : List SourcePiece} {fs : List BlockSoFar} {es ys : List PositionedElement} → OpensSoFar t d ps fs es → Nests t d xs ys → OpensSoFar t d (ps ++ xs) fs (es ++ ys)
OpensSoFar-append (no_block h) m = no_block (Nests-append h m)
OpensSoFar-append (a_block_more o i) m = opens_at (a_block_more o (BeginsSoFar-append i m)) (sym (simp append_assoc))

-- what is open, without the elements so far
BeginsSoFar-begins : {t : Checks} {f : BlockSoFar} {qs : List SourcePiece} {d : ℕ} {es : List PositionedElement} → BeginsSoFar t f qs d es → BeginsBlock t f.around (without_elements f) qs d
BeginsSoFar-begins {t} {f} {d = d} (in_its_body {bs = bs} p x n r fits fair nb) =
    subst (λ (z : List SourcePiece). BeginsBlock t f.around (without_elements f) (opens p x n r ∷ z) d) (append-nil bs) (in_a_body p x n r fits fair nb no_more)
BeginsSoFar-begins (in_a_branch p q x g n k r u fits fair nb ch may fits' fair' ng) = in_a_body p x n r fits fair nb (Chains-append q g k u ch may fits' fair' ng)
BeginsSoFar-begins (in_an_inverse p q x n r fits fair nb ch may ng) = in_its_inverse p q x n r fits fair nb ch may ng

pub OpensSoFar-opens : {t : Checks} {d : ℕ} {ps : List SourcePiece} {fs : List BlockSoFar} {es : List PositionedElement} → OpensSoFar t d ps fs es → Opens t d ps (open_in fs)
OpensSoFar-opens (no_block h) = none_open h
OpensSoFar-opens (a_block_more o i) = and_another (OpensSoFar-opens o) (BeginsSoFar-begins i)

-- a close makes a whole block
BeginsSoFar-closed : {t : Checks} {f : BlockSoFar} {qs : List SourcePiece} {d : ℕ} {es : List PositionedElement} → (q : Position) (raw : Bool) (m : Text) → may_end f.opening.kind raw m ≡ true → may_close t f.opening.closing m ≡ true
    → BeginsSoFar t f qs d es → Nests t f.around (qs ++ (closes q raw m ∷ [])) (closed_block f es ∷ [])
BeginsSoFar-closed q raw m ends named (in_its_body p x n r fits fair nb) = a_block p q x n r raw m fits fair ends named nb no_more no_inverse nothing
BeginsSoFar-closed q raw m ends named (in_a_branch p q' x g n k r u fits fair nb ch may fits' fair' ng) =
    nests_at (a_block p q x n r raw m fits fair ends named nb (Chains-append q' g k u ch may fits' fair' ng) no_inverse nothing) (simp append_assoc) refl
BeginsSoFar-closed q raw m ends named (in_an_inverse p q' x n r fits fair nb ch may ng) =
    nests_at (a_block p q x n r raw m fits fair ends named nb ch (an_inverse q' may ng) nothing) (simp append_assoc) refl

-- ---- one piece that is allowed

-- the state after it, in the relation
abbrev Leaves : Checks → List SourcePiece → Moved → Type 0
Leaves t ps (goes d fs es) = OpensSoFar t d ps fs es
Leaves t ps (stops f) = ⊥

Leaves-inverts : {t : Checks} {d : ℕ} {ps qs : List SourcePiece} {f : BlockSoFar} {fs : List BlockSoFar} {es : List PositionedElement} → (q : Position) → takes_inverse (without_elements f) ≡ true
    → OpensSoFar t f.around ps fs f.outside → BeginsSoFar t f qs d es → Leaves t ((ps ++ qs) ++ (inverts q ∷ [])) (after_piece (inverts q) d (f ∷ fs) es)
Leaves-inverts q takes o (in_its_body p x n r fits fair nb) = opens_at (a_block_more o (in_an_inverse p q x n r fits fair nb no_more takes nothing)) (sym (simp append_assoc))
Leaves-inverts q takes o (in_a_branch p q' x g n k r u fits fair nb ch may fits' fair' ng) =
    opens_at (a_block_more o (in_an_inverse p q x n r fits fair nb (Chains-append q' g k u ch may fits' fair' ng) takes nothing)) (sym (simp append_assoc))
Leaves-inverts q takes o (in_an_inverse p q' x n r fits fair nb ch may ng) = absurd (false≢true takes)

Leaves-chains : {t : Checks} {d : ℕ} {ps qs : List SourcePiece} {f : BlockSoFar} {fs : List BlockSoFar} {es : List PositionedElement} → (q : Position) (g : Opening) (k : ℕ) (u : Option Text)
    → takes_inverse (without_elements f) ≡ true → d + suc k ≤ max_nesting → has_values t u ≡ true
    → OpensSoFar t f.around ps fs f.outside → BeginsSoFar t f qs d es → Leaves t ((ps ++ qs) ++ (chains q g k u ∷ [])) (after_piece (chains q g k u) d (f ∷ fs) es)
Leaves-chains q g k u takes deep has_value o (in_its_body p x n r fits fair nb) =
    opens_at (a_block_more o (in_a_branch p q x g n k r u fits fair nb no_more takes deep has_value nothing)) (sym (simp append_assoc))
Leaves-chains q g k u takes deep has_value o (in_a_branch p q' x g' n k' r u' fits fair nb ch may fits' fair' ng) =
    opens_at (a_block_more o (in_a_branch p q x g n k r u fits fair nb (Chains-append q' g' k' u' ch may fits' fair' ng) takes deep has_value nothing)) (sym (simp append_assoc))
Leaves-chains q g k u takes deep has_value o (in_an_inverse p q' x n r fits fair nb ch may ng) = absurd (false≢true takes)

leaves : {t : Checks} {d : ℕ} {ps : List SourcePiece} {fs : List BlockSoFar} {es : List PositionedElement} → (x : SourcePiece) → IsAcceptedPiece t d (open_in fs) x → OpensSoFar t d ps fs es → Leaves t (ps ++ (x ∷ [])) (after_piece x d fs es)
leaves {t} {d} {fs = fs} (leaf p e n r) h o = OpensSoFar-append o (a_leaf p e n r (ltb-false _ _ h.shallow) (values-tried t r h.fair) nothing)
leaves {t} {d} {fs = fs} (opens p x n r) h o = a_block_more o (in_its_body p x n r (ltb-false _ _ h.shallow) (values-tried t r h.fair) nothing)
leaves {fs = []} (inverts p) h o = absurd (false≢true h.allowed)
leaves {fs = f ∷ fs} (inverts p) h (a_block_more o i) = Leaves-inverts p h.allowed o i
leaves {fs = []} (chains p x n r) h o = absurd (false≢true h.allowed)
leaves {t} {d} {fs = f ∷ fs} (chains p x n r) h (a_block_more o i) = Leaves-chains p x n r h.allowed (ltb-false _ _ h.shallow) (values-tried t r h.fair) o i
leaves {fs = []} (closes p raw m) h o = absurd (false≢true h.allowed)
leaves {t} {d} {fs = f ∷ fs} (closes p raw m) h (a_block_more o i) =
    opens_at (OpensSoFar-append o (BeginsSoFar-closed p raw m h.allowed (named-tried f.opening.kind f.opening.closing m p t h.fair) i)) (sym (simp append_assoc))

-- ---- a step

OpensSoFar-by : {t : Checks} {d e : ℕ} {ps : List SourcePiece} {fs gs : List BlockSoFar} {es hs : List PositionedElement} → (x : SourcePiece) (r : Option NestingError) → nesting_error_in t d (open_in fs) x ≡ r
    → OpensSoFar t d ps fs es → unless_error r (after_piece x d fs es) ≡ goes e gs hs → OpensSoFar t e (ps ++ (x ∷ [])) gs hs
OpensSoFar-by {t} {d} {ps = ps} {fs = fs} x None none o is = subst (Leaves t (ps ++ (x ∷ []))) is (leaves x (nesting_error_in-none t d (open_in fs) x none) o)
OpensSoFar-by x (Some f) some o is = absurd cc

pub OpensSoFar-step : {t : Checks} {d e : ℕ} {ps : List SourcePiece} {fs gs : List BlockSoFar} {es hs : List PositionedElement} → (x : SourcePiece)
    → OpensSoFar t d ps fs es → apply t x d fs es ≡ goes e gs hs → OpensSoFar t e (ps ++ (x ∷ [])) gs hs
OpensSoFar-step {t} {d} {fs = fs} x o is = OpensSoFar-by x (nesting_error_in t d (open_in fs) x) refl o (sym (apply-moved_by t x d fs _) ∙ is)

RejectsAt-by : {t : Checks} {d : ℕ} {ps : List SourcePiece} {fs : List BlockSoFar} {es : List PositionedElement} {f : NestingError} → (x : SourcePiece) (r : Option NestingError) → nesting_error_in t d (open_in fs) x ≡ r
    → OpensSoFar t d ps fs es → unless_error r (after_piece x d fs es) ≡ stops f → RejectsAt t d (open_in fs) x f
RejectsAt-by {t} {d} {ps} {fs} x None none o is = absurd (subst (Leaves t (ps ++ (x ∷ []))) is (leaves x (nesting_error_in-none t d (open_in fs) x none) o))
RejectsAt-by {t} {d} {fs = fs} {f = f} x (Some g) some o is = subst (RejectsAt t d (open_in fs) x) (stops-same g f is) (error-RejectsAt t d (open_in fs) x g (Opens-shallow (OpensSoFar-opens o)) some)
  where
    stops-same : (g f : NestingError) → stops g ≡ stops f → g ≡ f
    stops-same g f is = cc

pub Rejects-step : {t : Checks} {d : ℕ} {ps : List SourcePiece} {fs : List BlockSoFar} {es : List PositionedElement} {f : NestingError} → (x : SourcePiece) (rest : List SourcePiece)
    → OpensSoFar t d ps fs es → apply t x d fs es ≡ stops f → Rejects t (ps ++ (x ∷ rest)) f
Rejects-step {t} {d} {fs = fs} x rest o is = rejects_at rest (OpensSoFar-opens o) (RejectsAt-by x (nesting_error_in t d (open_in fs) x) refl o (sym (apply-moved_by t x d fs _) ∙ is))

-- An error remains, whatever follows.
pub Rejects-append : {t : Checks} {ps : List SourcePiece} {f : NestingError} → (more : List SourcePiece) → Rejects t ps f → Rejects t (ps ++ more) f
Rejects-append {t} {f = f} more (rejects_at {ps = ps} {x = x} rest o bad) =
    subst (λ (z : List SourcePiece). Rejects t z f) (sym (append_assoc ps (x ∷ rest) more)) (rejects_at (rest ++ more) o bad)
