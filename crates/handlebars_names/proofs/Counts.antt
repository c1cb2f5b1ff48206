-- How many parameters there are.
use Rattle.std.proofs.Common.{◌≡◌, ℕ, zero, suc, List, [], ◌∷◌, length, ◌∙◌}
use Rattle.std.proofs.Math.Dec.{leb, leb-zero, leb-suc-zero, leb-suc-suc}
use Rattle.handlebars_template.specs.TreeView.{params_view}
use Rattle.handlebars_template.specs.declared.template.tree.Parameter.{Parameter}
use Rattle.handlebars_names.specs.Whys.{has_params}

pub has_params-length : (n : ℕ) (ps : List Parameter) → leb n (length ps) ≡ has_params n (params_view ps)
has_params-length zero ps = leb-zero (length ps)
has_params-length (suc n) [] = leb-suc-zero n
has_params-length (suc n) (p ∷ ps) = leb-suc-suc n (length ps) ∙ has_params-length n ps
