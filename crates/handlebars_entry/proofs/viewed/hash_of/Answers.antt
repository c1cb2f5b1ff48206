use Rattle.handlebars_entry.proofs.ArgumentsViewed.{data_of_argument, data_passed, hash-viewed, viewed-all, viewed-next}
use Rattle.handlebars_entry.proofs.viewed.hash_of.Goals as goal

pub hash-preserved : goal.hash-preserved
hash-preserved c =
    viewed-next data_of_argument data_passed c.args.hash.now.entries c.hash.key-iterator _ c.hash.arguments.entries _ c.in-Some.key.now
    c.argument_of.result c.in-Some.value.now c.iter-key-items.ensures.ordered c.hash.invariant
    c.in-Some.ensures.steps c.argument_of.ensures c.in_ok-put.ensures

pub returns : goal.returns
returns c = hash-viewed c.hash.arguments.entries c.args.hash.now.entries
    (viewed-all (λ h. (h.0.now, data_of_argument h.1)) (λ h. (h.0.now, data_passed h.1)) _ c.hash.arguments.entries c.hash.key-iterator
    c.hash.invariant c.in-None.ensures.steps.0)
