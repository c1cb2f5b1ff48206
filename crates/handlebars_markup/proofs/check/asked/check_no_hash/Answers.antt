use Rattle.std.proofs.Common.{◌≡◌, refl, Bool, false, length, List, [], ◌∷◌, String, Global}
use Rattle.std.specs.Prelude.{IsTrue}
use Rattle.handlebars_template.specs.Tree.{lacks_hash}
use Rattle.handlebars_template.specs.TreeView.{hash_view}
use Rattle.handlebars_template.specs.declared.template.tree.Parameter.{Parameter}
use Rattle.handlebars_markup.proofs.check.asked.check_no_hash.Goals as goal

not-lacking : (hs : List (String Global × Parameter)) (b : Bool) → b ≡ false → (length hs ≡ 0 → IsTrue b)
    → lacks_hash (hash_view hs) ≡ false
not-lacking [] b is empty = let h : IsTrue b = empty refl in cc
not-lacking (h ∷ hs) b is empty = refl

pub returns : goal.returns
returns c = rw (not-lacking c.args.hash.now.entries _ c.if-is_empty.false c.is_empty.ensures.1) c.push_fault.ensures
