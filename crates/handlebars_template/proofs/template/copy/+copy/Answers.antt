use Rattle.std.proofs.Common.{◌≡◌, [], ◌∷◌, ◌++◌, string_cmp, sym, ap, ◌∙◌, subst, append_assoc}
use Rattle.std.specs.List.Sorted.{IsStrictlySortedBy}
use Rattle.std.specs.Map.{keys_of}
use Rattle.handlebars_template.specs.TreeView.{text, binding_view, call_view, hash_view}
use Rattle.handlebars_template.proofs.Levels.{call_view-roll, call_view-out, binding_view-Pair}
use Rattle.handlebars_template.proofs.ExpressionsBuilt.{hash_view_insert}
use Rattle.handlebars_template.proofs.Hash.{HashEntry, put_hash_pair-above}
use Rattle.handlebars_template.proofs.template.copy.+copy.Goals as goal

pub copied_call-returns : goal.copied_call-returns
copied_call-returns t c =
    ap call_view c.in_ok-new.ensures.ok ∙ call_view-roll _ ∙ rw (
      c.in_ok-copied_parameter.ensures,
      c.in_ok-copied_parameters.ensures,
      c.in_ok-copied_hash.ensures,
      c.in_ok-copied_block_param.ensures,
      c.in_ok-copied_body.ensures,
      c.in_ok-copied_body-2.ensures,
    ) (sym (call_view-out c.args.call.now))

pub copied_names-returns-in_ok-second-in-Pair : goal.copied_names-returns-in_ok-second-in-Pair
copied_names-returns-in_ok-second-in-Pair t c =
    binding_view-Pair _ _ ∙ rw (c.in_ok-first-in-Pair.ensures, c.in_ok-second-in-Pair.ensures) (sym (binding_view-Pair _ _))
    ∙ ap binding_view (sym c.in-Pair.is)

pub copied_hash-hash-preserved : goal.copied_hash-hash-preserved
copied_hash-hash-preserved t c =
    let l = c.hash in
    let done = l.invariant.0 in
    let e : HashEntry = (c.in-Some.key.now, c.in-Some.parameter.now) in
    let rest = c.next.new.self in
    let all : c.args.hash.now.entries ≡ done ++ e ∷ rest = l.invariant.1 ∙ ap (λ es. done ++ es) c.in-Some.ensures.steps in
    let last = put_hash_pair-above done e rest (subst (λ es. IsStrictlySortedBy string_cmp (keys_of es)) all c.iter-key-items.ensures.ordered) in
    let named : text c.in_ok-key.key ≡ text e.0 = c.in_ok-key.ensures.cases in (
      done ++ e ∷ [],
      all ∙ sym (append_assoc done (e ∷ []) rest),
      ap hash_view c.in_ok-insert.ensures.entries ∙ hash_view_insert l.copies.entries c.in_ok-key.key c.in_ok-copied_parameter.field-0
          ∙ rw (named, c.in_ok-copied_parameter.ensures, l.invariant.2) last,
    )
