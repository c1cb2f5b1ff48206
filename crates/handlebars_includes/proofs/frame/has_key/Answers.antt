use Rattle.std.proofs.Common.{◌≡◌, Bool, true, false, ◌||◌, List, [], ◌∷◌, Option, Some, ℕ, refl, ap, ◌∙◌}
use Rattle.std.specs.Prelude.{String, string_bytes, cond, is_some}
use Rattle.std.specs.BTreeMap.{is_at}
use Rattle.std.specs.Cmp.Lexicographic.{slice_cmp}
use Rattle.std.specs.Map.{lookup}
use Rattle.std.specs.Ordering.{nat_cmp}
use Rattle.std.specs.Str.{bytes_eq}
use Rattle.std.specs.declared.alloc.Global.{Global}
use Rattle.std.proofs.lemmas.Map.Text.{is_eq-slice_cmp}
use Rattle.handlebars_template.specs.TreeView.{hash_view}
use Rattle.handlebars_template.specs.declared.template.tree.Parameter.{Parameter}
use Rattle.handlebars_includes.specs.Frames.{hash_keys, is_one_of}
use Rattle.handlebars_includes.proofs.frame.has_key.Goals as goal

found-or : (b : Bool) (v : Parameter) (o : Option Parameter) (r : Bool) → is_some o ≡ r → is_some (cond b (Some v) o) ≡ (b || r)
found-or true v o r h = refl
found-or false v o r h = h

found-key : (n : List ℕ) (es : List (String Global × Parameter))
    → is_some (lookup (is_at (λ k. slice_cmp nat_cmp n (string_bytes k))) es) ≡ is_one_of (hash_keys (hash_view es)) n
found-key n [] = refl
found-key n (e ∷ es) =
    ap (λ (b : Bool). is_some (cond b (Some e.1) (lookup (is_at (λ k. slice_cmp nat_cmp n (string_bytes k))) es)))
    (is_eq-slice_cmp n (string_bytes e.0))
    ∙ found-or (bytes_eq n (string_bytes e.0)) e.1 _ _ (found-key n es)

pub returns : goal.returns
returns c = c.contains_key.ensures ∙ found-key c.args.name.now c.args.hash.now.entries
