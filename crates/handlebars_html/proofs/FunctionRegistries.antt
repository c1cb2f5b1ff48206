-- The law of the check at registries whose user-defined parts are functions.
use Rattle.std.proofs.Common.{◌≡◌, Bool, true, false, if◌then◌else◌, List, [], ◌∷◌, refl, ap, ◌∙◌, Some, arith}
use Rattle.std.specs.List.{Contains}
use Rattle.std.specs.Str.{bytes_eq}
use Rattle.std.proofs.lemmas.List.Elements.{Contains-append_right}
use Rattle.handlebars_base.specs.Bytes.{Text}
use Rattle.handlebars_template.specs.Tree.{Tree}
use Rattle.handlebars_html.specs.Functions.{template_in, setting_of, CheckedKeepDataSafe}
use Rattle.handlebars_html.proofs.CleanFindings.{text-is}
use Rattle.handlebars_html.proofs.Rounds.{accepted_keep_data_safe}

template_in-contained : (xs : List (Text × Tree)) (n : Text) (t : Tree) → template_in xs n ≡ Some t → Contains xs (n, t)
template_in-contained [] n t is = cc
template_in-contained (x ∷ xs) n t is = by (bytes_eq x.0 n) (text-is x.0 n) is (template_in-contained xs n t)
  where
    same-tree : (a b : Tree) → Some a ≡ Some b → a ≡ b
    same-tree a b is = cc

    by : (z : Bool) → (z ≡ true → x.0 ≡ n) → (if z then Some x.1 else template_in xs n) ≡ Some t
        → (template_in xs n ≡ Some t → Contains xs (n, t)) → Contains (x ∷ xs) (n, t)
    by true to is rest =
        (0, omega arith, ap (λ (z : Tree). (x.0, z)) (same-tree x.1 t is) ∙ ap (λ (z : Text). (z, t)) (to refl))
    by false to is rest = Contains-append_right (x ∷ []) xs (n, t) (rest is)

pub checked_keep_data_safe : CheckedKeepDataSafe
checked_keep_data_safe r d u lists pages verdict t page =
    accepted_keep_data_safe (setting_of r d) u lists r.templates (λ n x is. template_in-contained r.templates n x is) pages verdict
    t page
