-- What is called by a name.
use Rattle.std.proofs.Common.{◌≡◌, sym, ap, ◌∙◌, Option, Some, option_map}
use Rattle.handlebars_base.specs.Bytes.{Text}
use Rattle.handlebars_helpers.specs.Callee as callee
use Rattle.handlebars_helpers.specs.UserView.{callee_of}
use Rattle.handlebars_helpers.specs.declared.user.Callee.{Callee}

pub called-there : (helper : Text → Option callee.Callee) (n : Text) (o : Option Callee) (k : Callee)
    → option_map (callee_of n) o ≡ helper n → o ≡ Some k → Some (callee_of n k) ≡ helper n
called-there helper n o k answers is = sym (ap (option_map (callee_of n)) is) ∙ answers
