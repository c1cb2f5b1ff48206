-- The state after a prefix: what is open by the syntax alone, together with the first late error.
use Rattle.std.proofs.Common.{◌≡◌, ℕ, List, [], ◌∷◌, ◌++◌, Option, None, Some, refl, subst}
use Rattle.std.specs.Prelude.{⊤}
use Rattle.std.specs.Option.{option_or}
use Rattle.handlebars_template.specs.Nest.{SourcePiece, NestingError, not_closed, PositionedElement, syntax_alone, names_and_literals, Nests, nothing, Rejects, LeavesOpen, left_open}
use Rattle.handlebars_template.specs.Machine.{BlockSoFar, open_in, Moved, goes, stops, after_piece, early_in, late_in}
use Rattle.handlebars_template.proofs.Machine.{late_after, unless_error, apply}
use Rattle.handlebars_template.proofs.NestsOpen.{OpensSoFar, no_block}
use Rattle.handlebars_template.proofs.NestsFits.{apply-moved_by}
use Rattle.handlebars_template.proofs.NestsSteps.{OpensSoFar-opens, OpensSoFar-step, Rejects-step, Rejects-append}

-- with names and literals checked too
abbrev pub Strict : Option NestingError → List SourcePiece → ℕ → List BlockSoFar → List PositionedElement → Type 0
Strict None ps d fs es = OpensSoFar names_and_literals d ps fs es
Strict (Some f) ps d fs es = Rejects names_and_literals ps f

pub record NestInvariant (late : Option NestingError) (ps : List SourcePiece) (d : ℕ) (fs : List BlockSoFar) (es : List PositionedElement) : Type 0 where
  pub loose : OpensSoFar syntax_alone d ps fs es
  pub strict : Strict late ps d fs es

pub NestInvariant-start : NestInvariant None [] 0 [] []
NestInvariant-start = record { loose = no_block nothing; strict = no_block nothing }

-- ---- one piece, by both checks

-- Without a late error both checks do the same. A late error stops the stricter one, where the syntax doesn't.
abbrev Agree : Option NestingError → Moved → Moved → Type 0
Agree None m k = k ≡ m
Agree (Some f) (goes d fs es) k = k ≡ stops f
Agree (Some f) (stops g) k = ⊤

error_agrees : (early late : Option NestingError) (m : Moved) → Agree late (unless_error (option_or early None) m) (unless_error (option_or early late) m)
error_agrees None None m = refl
error_agrees None (Some f) (goes d fs es) = refl
error_agrees None (Some f) (stops g) = tt
error_agrees (Some g) None m = refl
error_agrees (Some g) (Some f) m = tt

apply_agrees : (x : SourcePiece) (d : ℕ) (fs : List BlockSoFar) (es : List PositionedElement)
    → Agree (late_in (open_in fs) x) (apply syntax_alone x d fs es) (apply names_and_literals x d fs es)
apply_agrees x d fs es =
    rw (apply-moved_by syntax_alone x d fs es, apply-moved_by names_and_literals x d fs es) (error_agrees (early_in d (open_in fs) x) (late_in (open_in fs) x) (after_piece x d fs es))

-- ---- a step

Strict-step : (late : Option NestingError) (x : SourcePiece) (ps : List SourcePiece) (d e : ℕ) (fs gs : List BlockSoFar) (es hs : List PositionedElement)
    → Agree late (goes e gs hs) (apply names_and_literals x d fs es) → OpensSoFar names_and_literals d ps fs es → Strict late (ps ++ (x ∷ [])) e gs hs
Strict-step None x ps d e fs gs es hs is o = OpensSoFar-step x o is
Strict-step (Some f) x ps d e fs gs es hs is o = Rejects-step x [] o is

Strict-moves : (late : Option NestingError) (x : SourcePiece) (ps : List SourcePiece) (d e : ℕ) (fs gs : List BlockSoFar) (es hs : List PositionedElement)
    → apply syntax_alone x d fs es ≡ goes e gs hs → Strict late ps d fs es → Strict (late_after late x (open_in fs)) (ps ++ (x ∷ [])) e gs hs
Strict-moves None x ps d e fs gs es hs is o =
    Strict-step (late_in (open_in fs) x) x ps d e fs gs es hs (subst (λ (m : Moved). Agree (late_in (open_in fs) x) m (apply names_and_literals x d fs es)) is (apply_agrees x d fs es)) o
Strict-moves (Some f) x ps d e fs gs es hs is bad = Rejects-append (x ∷ []) bad

pub NestInvariant-moves : {late : Option NestingError} {ps : List SourcePiece} {d e : ℕ} {fs gs : List BlockSoFar} {es hs : List PositionedElement} → (x : SourcePiece)
    → NestInvariant late ps d fs es → apply syntax_alone x d fs es ≡ goes e gs hs → NestInvariant (late_after late x (open_in fs)) (ps ++ (x ∷ [])) e gs hs
NestInvariant-moves {late} {ps} {d} {e} {fs} {gs} {es} {hs} x s is =
    record { loose = OpensSoFar-step x s.loose is; strict = Strict-moves late x ps d e fs gs es hs is s.strict }

-- A piece at which the syntax stops is rejected, whatever follows.
pub NestInvariant-stops : {late : Option NestingError} {ps : List SourcePiece} {d : ℕ} {fs : List BlockSoFar} {es : List PositionedElement} {f : NestingError} → (x : SourcePiece) (rest : List SourcePiece)
    → NestInvariant late ps d fs es → apply syntax_alone x d fs es ≡ stops f → Rejects syntax_alone (ps ++ (x ∷ rest)) f
NestInvariant-stops x rest s is = Rejects-step x rest s.loose is

-- ---- the end

OpensSoFar-none : {d : ℕ} {ps : List SourcePiece} {es : List PositionedElement} → OpensSoFar syntax_alone d ps [] es → Nests syntax_alone 0 ps es
OpensSoFar-none (no_block h) = h

OpensSoFar-none-strict : {d : ℕ} {ps : List SourcePiece} {es : List PositionedElement} → OpensSoFar names_and_literals d ps [] es → Nests names_and_literals 0 ps es
OpensSoFar-none-strict (no_block h) = h

pub NestInvariant-whole : {ps : List SourcePiece} {d : ℕ} {es : List PositionedElement} → NestInvariant None ps d [] es → Nests names_and_literals 0 ps es
NestInvariant-whole s = OpensSoFar-none-strict s.strict

pub NestInvariant-late : {f : NestingError} {ps : List SourcePiece} {d : ℕ} {es : List PositionedElement} → NestInvariant (Some f) ps d [] es → Nests syntax_alone 0 ps es × Rejects names_and_literals ps f
NestInvariant-late s = (OpensSoFar-none s.loose, s.strict)

pub NestInvariant-open : {late : Option NestingError} {ps : List SourcePiece} {d : ℕ} {f : BlockSoFar} {fs : List BlockSoFar} {es : List PositionedElement} → NestInvariant late ps d (f ∷ fs) es → LeavesOpen syntax_alone ps (not_closed f.position)
NestInvariant-open s = left_open (OpensSoFar-opens s.loose)
