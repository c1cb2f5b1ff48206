-- An offset between two characters is its own floor.
use Rattle.std.proofs.Common.{◌≡◌, ℕ, arith, max, subst, sym}
use Rattle.std.proofs.Math.Logic.{⊎_elim}
use Rattle.std.proofs.Math.Nat.{eq-or-lt_of_le}
use Rattle.std.specs.Prelude.{IsCharBoundary}
use Rattle.handlebars_report.specs.Place.{IsFloor, IsPlaceIn}
use Rattle.handlebars_report.specs.Position.{Text}
use Rattle.handlebars_report.specs.Problem.{Place}
use Rattle.handlebars_syntax.specs.Range.{IsTagRange, LiesIn}
use Rattle.hb_check.specs.Place.{IsAt}

floor-boundary : (text : Text) (n f : ℕ) → IsFloor text n f → IsCharBoundary text n → f ≡ n
floor-boundary text n f floor boundary =
    ⊎_elim (λ same. same) (λ less. let never : ⊥ = floor.last n less (omega arith) boundary in elim never [ ])
    (eq-or-lt_of_le floor.up_to)

pub at-range : (path text : Text) (line column start end : ℕ) (p : Place) → IsPlaceIn path text p → IsFloor text start p.start.offset
    → IsFloor text (max start end) p.end.offset → IsTagRange text line column start end → LiesIn text start end
    → IsAt path text line column p
at-range path text line column start end p lies starts ends tag within = record {
  lies = lies;
  tag = subst (λ (n : ℕ). IsTagRange text line column n p.end.offset) (sym (floor-boundary text start p.start.offset starts within.starts))
      (subst (λ (n : ℕ). IsTagRange text line column start n)
      (sym (floor-boundary text end p.end.offset (subst (λ (n : ℕ). IsFloor text n p.end.offset) larger ends) within.ends)) tag);
}
  where
    larger : max start end ≡ end
    larger = omega arith
