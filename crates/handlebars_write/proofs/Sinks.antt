-- Where a rendering writes: what is unchanged.
use Rattle.std.proofs.Common.{refl, ◌∙◌}
use Rattle.handlebars_write.specs.View.{IsSame}
use Rattle.handlebars_write.specs.declared.sink.Sink.{Sink}
use Rattle.handlebars_write.specs.declared.sink.Sink.TheVariants.{Out, Ahead}

pub same-refl : {O T : Type 0} (a : Sink O T) → IsSame a a
same-refl (Out a x) = refl
same-refl (Ahead a) = refl

pub same-trans : {O T : Type 0} (a b c : Sink O T) → IsSame a b → IsSame b c → IsSame a c
same-trans (Out a x) (Out b y) (Out c z) first second = second ∙ first
same-trans (Out a x) (Out b y) (Ahead c) first second = second
same-trans (Out a x) (Ahead b) c first second = absurd first
same-trans (Ahead a) (Out b y) c first second = absurd first
same-trans (Ahead a) (Ahead b) (Out c z) first second = second
same-trans (Ahead a) (Ahead b) (Ahead c) first second = second ∙ first
