use Rattle.std.proofs.Common.{◌≡◌, ◌∙◌, Some, arith, below_more, slice_get, string_bytes, subst}
use Rattle.std.proofs.lemmas.List.{length-map}
use Rattle.std.proofs.lemmas.Option.{slice_get_within}
use Rattle.std.proofs.lemmas.Result.{err_from_is_err_and}
use Rattle.hb_build.specs.Entries.{IsClear}
use Rattle.hb_build.specs.Name.{Name, IsAcceptable, names_of}
use Rattle.hb_build.specs.Passes.{IsInShard}
use Rattle.hb_build.proofs.Gets.{All-at_get}
use Rattle.hb_build.proofs.NamesOf.{slice_get-text}
use Rattle.hb_build.proofs.Ways.{IsClear-before, IsWayError-before}
use Rattle.hb_build.proofs.look.check_ways.Goals as goal

pub check_item-requires : goal.check_item-requires
check_item-requires g c =
    let xs = c.args.names.now in
    let at = slice_get-text xs c.loop-item.item c.index-names-item.result c.as_str.result.now c.loop-item-test.true c.index-names-item.is c.as_str.ensures.value in
    All-at_get IsAcceptable (names_of xs) c.loop-item.item c.as_str.result.now c.requires at

pub returns-in_err-check_item-clause-err : goal.returns-in_err-check_item-clause-err
returns-in_err-check_item-clause-err g c =
    let xs = c.args.names.now in
    let at = slice_get-text xs c.loop-item.item c.index-names-item.result c.as_str.result.now c.loop-item-test.true c.index-names-item.is c.as_str.ensures.value in
    let p = err_from_is_err_and c.from_residual.result c.from_residual.ensures.1 in
    rw (p.1, p.2) (IsWayError-before g.S.Store c.args.store.now c.loop-item.store c.check_item.new.store c.loop-item.invariant.kept
    c.in_err-check_item.ensures.preserved.was_reliable c.args.shard.now (names_of xs) c.in_err-check_item.field-0.0 (c.in_err-check_item.ensures.err (names_of xs) at))

pub loop-item-preserved : goal.loop-item-preserved
loop-item-preserved g c =
    let xs = c.args.names.now in
    let i = c.loop-item.item in
    let old = g.S.Store.entries c.args.store.now in
    let kept = c.loop-item.invariant.kept in
    let now = c.in_ok-check_item.ensures.preserved in
    let at = slice_get-text xs i c.index-names-item.result c.as_str.result.now c.loop-item-test.true c.index-names-item.is c.as_str.ensures.value in
    record {
      kept = record {
        was_reliable = λ r. kept.was_reliable (now.was_reliable r);
        change = λ r q. now.change r q ∙ kept.change (now.was_reliable r) q;
      };
      clear = λ r k name l e s.
          let was = now.was_reliable r in
          below_more (λ k. (n : Name) → slice_get (names_of xs) k ≡ Some n → IsInShard c.args.shard.now k → IsClear old n) i
          (λ k below n. c.loop-item.invariant.clear was k n below)
          (λ n here in_shard. let same : c.as_str.result.now ≡ n = cc in
          subst (IsClear old) same (IsClear-before old (g.S.Store.entries c.loop-item.store) c.as_str.result.now (kept.change was) (c.in_ok-check_item.ensures.ok r in_shard)))
          k l name e s;
    }

pub returns-clause-ok : goal.returns-clause-ok
returns-clause-ok g c = λ r k name at.
    let xs = c.args.names.now in
    c.loop-item.invariant.clear r k name (omega (arith, slice_get_within (names_of xs) k name at, length-map xs string_bytes, c.loop-item-test.false)) at
