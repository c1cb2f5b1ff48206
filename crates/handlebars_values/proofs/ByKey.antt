-- Hash arguments by key, as a map with `&str` keys and as plain data.
use Rattle.std.proofs.Common.{◌≡◌, cond, List, [], ◌∷◌, map, Option, Some, None, option_map, Bor, bytes_eq, nat_cmp, refl, ap, ◌∙◌}
use Rattle.std.proofs.lemmas.Map.Text.{is_eq-slice_cmp}
use Rattle.std.specs.BTreeMap.{is_at}
use Rattle.std.specs.Cmp.Lexicographic.{slice_cmp}
use Rattle.std.specs.Map.{lookup}
use Rattle.std.specs.Option.{option_copied}
use Rattle.handlebars_base.specs.Bytes.{Text}
use Rattle.handlebars_base.proofs.OptionBinds.{option_map-cond}

pub option_map-now : {A B : Type 0} (f : A → B) (r : Option (Bor A)) → option_map (λ x. f x.now) r ≡ option_map f (option_copied r)
option_map-now f None = refl
option_map-now f (Some x) = refl

pub option_map-lookup : {A B : Type 0} (f : A → B) (key : Text) (es : List (Bor Text × A))
    → option_map f (lookup (is_at (λ k. slice_cmp nat_cmp key k.now)) es) ≡ lookup (bytes_eq key) (map (λ e. (e.0.now, f e.1)) es)
option_map-lookup f key [] = refl
option_map-lookup f key (e ∷ es) =
    ap (λ b. option_map f (cond b (Some e.1) (lookup (is_at (λ k. slice_cmp nat_cmp key k.now)) es))) (is_eq-slice_cmp key e.0.now)
    ∙ option_map-cond f (bytes_eq key e.0.now) e.1 _
    ∙ ap (cond (bytes_eq key e.0.now) (Some (f e.1))) (option_map-lookup f key es)
