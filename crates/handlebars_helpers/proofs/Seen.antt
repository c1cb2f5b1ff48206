-- What an entry is seen as, under its name.
use Rattle.std.proofs.Common.{◌≡◌, cond, Bool, true, false, Option, option_map, refl, sym, ap, ◌∙◌}
use Rattle.std.specs.Str.{bytes_eq}
use Rattle.std.proofs.lemmas.Slice.Eq.{bytes_eq-Decides}
use Rattle.handlebars_base.specs.Bytes.{Text}

-- what an entry is seen as under its own name, after a change of what is there
pub seen-put : {E C : Type 0} (seen : Text → E → C) (name other : Text) (entry old new : Option E)
    → new ≡ cond (bytes_eq name other) entry old
    → option_map (seen other) new ≡ cond (bytes_eq name other) (option_map (seen name) entry) (option_map (seen other) old)
seen-put seen name other entry old new is =
    let go : (b : Bool) → bytes_eq name other ≡ b
    → option_map (seen other) (cond b entry old) ≡ cond b (option_map (seen name) entry) (option_map (seen other) old) = elim [
      | true ↦ λ same. ap (λ n. option_map (seen n) entry) (sym ((bytes_eq-Decides name other).0 same))
      | false ↦ λ differ. refl
    ] in ap (option_map (seen other)) is ∙ go (bytes_eq name other) refl
