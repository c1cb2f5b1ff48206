use Rattle.std.proofs.Common.{◌≡◌, ◌∙◌, ◌<◌, ◌∷◌, [], None, Some, cond, ap, sym, subst, string_bytes, take, arith}
use Rattle.std.specs.Str.{bytes_eq}
use Rattle.std.proofs.lemmas.List.Elements.{All-append, All-cons, All-nil}
use Rattle.std.proofs.lemmas.Map.Text.{btree_map_updates_str}
use Rattle.std.proofs.lemmas.Option.{slice_get_within}
use Rattle.std.proofs.lemmas.Result.{err_from_is_err_and}
use Rattle.hb_build.specs.Name.{Name, IsAcceptable, names_of}
use Rattle.hb_build.specs.Numbers.{number_in}
use Rattle.hb_build.proofs.NamesOf.{names_of-take, slice_get-names_of, slice_get-names_of-take, length-names_of-take}
use Rattle.hb_build.proofs.Numbering.{IsNumbering-push}
use Rattle.hb_build.proofs.checks.number_names.Goals as goal

pub returns-in_err-check_name-clause-err : goal.returns-in_err-check_name-clause-err
returns-in_err-check_name-clause-err c =
    let p = err_from_is_err_and c.from_residual.result c.from_residual.ensures.1 in
    let at = slice_get-names_of c.args.names.now c.loop-item.item c.index-names-item.result c.loop-item-test.true c.index-names-item.is in
    rw (p.1, p.2) (c.in_err-check_name.ensures.err (names_of c.args.names.now) (at ∙ ap Some (sym c.as_str.ensures.value)))

pub returns-in-Some-clause-err : goal.returns-in-Some-clause-err
returns-in-Some-clause-err c =
    let xs = c.args.names.now in
    let i = c.loop-item.item in
    let x = c.index-names-item.result in
    let first = c.in-Some.first in
    let found : number_in c.loop-item.numbers (string_bytes x) ≡ Some first =
    ap (number_in c.loop-item.numbers) (sym c.as_str-in-loop-item.ensures.value) ∙ sym c.in_ok-first.ensures.old ∙ c.in-Some.is in
    let at = c.loop-item.invariant.numbered.only (string_bytes x) first found in
    let within = slice_get_within (names_of (take i xs)) first (string_bytes x) at in
    let name : string_bytes c.in_ok-from_str.field-0 ≡ string_bytes x = c.in_ok-from_str.ensures.ok ∙ c.as_str-in-Some.ensures.value in
    let below : first < i = omega (arith, within, length-names_of-take xs i c.loop-item-test.true) in
    rw name (below, slice_get-names_of-take xs i first (string_bytes x) at, slice_get-names_of xs i x c.loop-item-test.true c.index-names-item.is)

pub loop-item-preserved : goal.loop-item-preserved
loop-item-preserved c =
    let xs = c.args.names.now in
    let i = c.loop-item.item in
    let x = c.index-names-item.result in
    let old = number_in c.loop-item.numbers in
    let new = number_in c.insert.new.self in
    let key = c.as_str-in-loop-item.result.now in
    let is_key : key ≡ string_bytes x = c.as_str-in-loop-item.ensures.value in
    let acceptable : IsAcceptable (string_bytes x) = subst IsAcceptable c.as_str.ensures.value c.in_ok-check_name.ensures.ok in
    let none : old (string_bytes x) ≡ None = ap old (sym is_key) ∙ sym c.in_ok-first.ensures.old ∙ c.in_default.is in
    let is_new = subst (λ name. (q : Name) → new q ≡ cond (bytes_eq name q) (Some i) (old q)) is_key
    (btree_map_updates_str key c.loop-item.numbers c.insert.new.self (Some i) c.in_ok-first.ensures.updates) in
    rw (names_of-take xs i x c.loop-item-test.true c.index-names-item.is) (record {
      numbered = IsNumbering-push (names_of (take i xs)) (string_bytes x) old new c.loop-item.invariant.numbered none i
          (sym (length-names_of-take xs i c.loop-item-test.true)) is_new;
      acceptable = All-append IsAcceptable (names_of (take i xs)) (string_bytes x ∷ []) c.loop-item.invariant.acceptable
          (All-cons IsAcceptable (string_bytes x) [] acceptable (All-nil IsAcceptable));
    })
