-- What the program does at a chained inverse and at a close, and what the machine does.
use Rattle.std.proofs.Common.{◌≡◌, ◌∙◌, ℕ, suc, ◌+◌, ◌<◌, ◌≤◌, List, [], ◌∷◌, ◌++◌, Bool, Option, None, Some, refl, sym, ap, arith}
use Rattle.std.specs.Option.{option_or}
use borrow.Author.Tests.{ltb-false}
use Rattle.handlebars_base.specs.Bytes.{Text}
use Rattle.handlebars_template.specs.Position.{Position}
use Rattle.handlebars_template.specs.Calls.{max_nesting}
use Rattle.handlebars_template.specs.Nest.{Opening, chains, closes, NestingError, PositionedElement}
use Rattle.handlebars_template.specs.Machine.{in_branch, BlockSoFar, open_in, goes, next_stage, closed_block, after_piece, early_in}
use Rattle.handlebars_template.proofs.NestsFits.{early-shallow}

pub option_or-none : (late : Option NestingError) → option_or late None ≡ late
option_or-none None = refl
option_or-none (Some f) = refl

one_deeper : (d n e : ℕ) → (d < max_nesting → e ≡ suc d) → d + suc n ≤ max_nesting → suc d ≡ e
one_deeper d n e more le = sym (more (omega (arith, le)))

pub chains-goes : (p : Position) (o : Opening) (n : ℕ) (r : Option Text) (d e : ℕ) (f g : BlockSoFar) (all fs : List BlockSoFar) (es : List PositionedElement)
    → all ≡ f ∷ fs → g ≡ next_stage f es (in_branch o) → (d < max_nesting → e ≡ suc d)
    → early_in d (open_in all) (chains p o n r) ≡ None → after_piece (chains p o n r) d all es ≡ goes e (g ∷ fs) []
chains-goes p o n r d e f g all fs es head_is next more may =
    ap (λ (z : List BlockSoFar). after_piece (chains p o n r) d z es) head_is
    ∙ ap (λ (z : BlockSoFar). goes (suc d) (z ∷ fs) []) (sym next)
    ∙ ap (λ (k : ℕ). goes k (g ∷ fs) []) (one_deeper d n e more (ltb-false _ _ (early-shallow (chains p o n r) d (open_in all) may)))

pub closes-goes : (p : Position) (raw : Bool) (m : Text) (d : ℕ) (f : BlockSoFar) (all fs : List BlockSoFar) (es done : List PositionedElement)
    → all ≡ f ∷ fs → done ≡ f.outside ++ closed_block f es ∷ [] → after_piece (closes p raw m) d all es ≡ goes f.around fs done
closes-goes p raw m d f all fs es done head_is made =
    ap (λ (z : List BlockSoFar). after_piece (closes p raw m) d z es) head_is ∙ ap (goes f.around fs) (sym made)
