use Rattle.std.proofs.Common.{◌≡◌, None, Some, slice_get, arith, below_more, string_bytes, subst}
use Rattle.std.proofs.lemmas.List.{length-map}
use Rattle.std.proofs.lemmas.Option.{slice_get_within}
use Rattle.hb_build.specs.Name.{Name, IsFolderOf, names_of}
use Rattle.hb_build.specs.Numbers.{number_in}
use Rattle.hb_build.proofs.NamesOf.{slice_get-names_of}
use Rattle.hb_build.proofs.Numbering.{AreAcceptable-from_numbers}
use Rattle.hb_build.proofs.checks.check_names.Goals as goal

pub returns-clause-ok : goal.returns-clause-ok
returns-clause-ok c =
    let xs = c.args.names.now in
    AreAcceptable-from_numbers (names_of xs) (number_in c.in_ok-numbers.numbers) c.in_ok-numbers.ensures.numbered c.in_ok-numbers.ensures.acceptable
    (λ k b at. c.loop-item.invariant k b
    (omega (arith, slice_get_within (names_of xs) k b at, length-map xs string_bytes, c.loop-item-test.false)) at)

pub loop-item-preserved : goal.loop-item-preserved
loop-item-preserved c =
    let xs = c.args.names.now in
    let i = c.loop-item.item in
    let x = c.index-names-item.result in
    let number = number_in c.in_ok-numbers.numbers in
    let at = slice_get-names_of xs i x c.loop-item-test.true c.index-names-item.is in
    λ j name l. below_more (λ k. (n : Name) → slice_get (names_of xs) k ≡ Some n → (f : Name) → IsFolderOf f n → number f ≡ None) i
    (λ k below n. c.loop-item.invariant k n below)
    (λ n here f is_folder. let same : n ≡ c.as_str.result.now = (let value = c.as_str.ensures.value in cc) in
    c.in_ok-check_folders.ensures.ok f (subst (IsFolderOf f) same is_folder))
    j l name
