-- The check of a chained inverse before it is added: that of an inverse, and then that of a block.
use Rattle.std.proofs.Common.{ℕ, suc, ◌+◌, List, [], ◌∷◌, Bool, true, false, Option, None, Some, nat_lt}
use Rattle.std.specs.Option.{option_or}
use Rattle.handlebars_base.specs.Bytes.{Text}
use Rattle.handlebars_template.specs.Position.{Position}
use Rattle.handlebars_template.specs.Calls.{max_nesting}
use Rattle.handlebars_template.specs.Nest.{Opening, opens, inverts, chains, OpenBlock, takes_inverse}
use Rattle.handlebars_template.specs.Machine.{syntax_error_by, early_in}
use Rattle.handlebars_template.specs.NestView.{Looks}
use Rattle.handlebars_template.specs.declared.template.nest.SyntaxError.{SyntaxError}

module _ (p : Position) where
  Looks-both : (b c : Bool) (misplaced deep : Option SyntaxError) → Looks p (syntax_error_by b false p) misplaced → Looks p (syntax_error_by true c p) deep
      → Looks p (syntax_error_by b c p) (option_or misplaced deep)
  Looks-both true c None deep h k = k
  Looks-both false c None deep h k = absurd cc
  Looks-both true c (Some error) deep h k = absurd cc
  Looks-both false c (Some error) deep h k = h

  pub Looks-chained : (o : Opening) (r : Option Text) (d n : ℕ) (fs : List OpenBlock) (misplaced deep : Option SyntaxError)
      → Looks p (early_in d fs (inverts p)) misplaced → Looks p (early_in d fs (opens p o n r)) deep
      → Looks p (early_in d fs (chains p o n r)) (option_or misplaced deep)
  Looks-chained o r d n [] misplaced deep h k = Looks-both false (nat_lt max_nesting (d + suc n)) misplaced deep h k
  Looks-chained o r d n (f ∷ fs) misplaced deep h k = Looks-both (takes_inverse f) (nat_lt max_nesting (d + suc n)) misplaced deep h k
