use Rattle.std.proofs.Common.{◌≡◌, sym, arith}
use Rattle.std.proofs.lemmas.Bool.{eqb-true, eqb-false, not-true, not-false}
use Rattle.handlebars_base.specs.PathReading.{reference_len}
use Rattle.handlebars_base.proofs.PathPrefixes.{path_token_at-goes, left_length, boundary_before, path_token_before}
use Rattle.handlebars_base.proofs.json.path.prefix.token_before.Goals as goal

pub returns-then-goes_on : goal.returns-then-goes_on
returns-then-goes_on c =
    let more : reference_len c.args.rest.now ≡ 0 → ⊥ = eqb-false _ 0 (not-true _ (sym c.if-goes_on.ensures)) in
    sym (path_token_at-goes c.args.text.now c.requires.0 c.args.rest.now c.requires.1 (omega arith))

pub overflow_sub-text : goal.overflow_sub-text
overflow_sub-text c = left_length c.args.text.now c.requires.0 c.args.rest.now c.requires.1

pub split_at-requires : goal.split_at-requires
split_at-requires c =
    let ends : reference_len c.args.rest.now ≡ 0 = eqb-true _ 0 (not-false _ (sym c.if-goes_on.ensures)) in
    boundary_before c.args.text.now c.requires.0 c.args.rest.now c.requires.1 ends

pub returns : goal.returns
returns c =
    let ends : reference_len c.args.rest.now ≡ 0 = eqb-true _ 0 (not-false _ (sym c.if-goes_on.ensures)) in
    rw (c.split_at.ensures.front, c.split_at.ensures.back) (sym (path_token_before c.args.text.now c.requires.0 c.args.rest.now c.requires.1 ends))
