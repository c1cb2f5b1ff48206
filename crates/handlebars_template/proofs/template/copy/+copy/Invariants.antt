use Rattle.std.proofs.Common.{◌≡◌, List, ◌++◌, map, take}
use Rattle.handlebars_template.specs.TreeView.{element_view, hash_view, param_view}
use Rattle.handlebars_template.proofs.Hash.{HashEntry}
use Rattle.handlebars_template.proofs.template.copy.+copy.Given as goal

abbrev pub invariant-copied_elements-elements : goal.invariant-copied_elements-elements
invariant-copied_elements-elements l = map element_view l.copies.items ≡ map element_view (take l.element-index l.element-items)

abbrev pub invariant-copied_parameters-parameters : goal.invariant-copied_parameters-parameters
invariant-copied_parameters-parameters l = map param_view l.copies.items ≡ map param_view (take l.parameter-index l.parameter-items)

abbrev pub invariant-copied_hash-hash : goal.invariant-copied_hash-hash
invariant-copied_hash-hash l =
    (done : List HashEntry) × (l.hash.entries ≡ done ++ l.key-iterator) × (hash_view l.copies.entries ≡ hash_view done)
