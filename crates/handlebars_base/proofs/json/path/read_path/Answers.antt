use Rattle.std.proofs.Common.{refl, sym}
use Rattle.std.proofs.lemmas.Bool.{true≢false}
use Rattle.handlebars_base.specs.PathView.{prefix_of}
use Rattle.handlebars_base.proofs.OptionBinds.{is_empty_length, nonempty}
use Rattle.handlebars_base.proofs.PathPrefixes.{is_whole, is_no_whole, is_no_path}
use Rattle.handlebars_base.proofs.json.path.read_path.Goals as goal

pub returns-then-is_empty-clause-found : goal.returns-then-is_empty-clause-found
returns-then-is_empty-clause-found c =
    is_whole c.args.raw.now (prefix_of c.in-Some.prefix) (sym (rw c.in-Some.is at c.in_ok-prefix.ensures)) (is_empty_length c.in-Some.prefix.rest.now c.if-is_empty.ensures)

pub returns-then-is_empty-clause-none : goal.returns-then-is_empty-clause-none
returns-then-is_empty-clause-none c =
    let is = is_whole c.args.raw.now (prefix_of c.in-Some.prefix) (sym (rw c.in-Some.is at c.in_ok-prefix.ensures)) (is_empty_length c.in-Some.prefix.rest.now c.if-is_empty.ensures) in
    (λ none. absurd (true≢false none), λ other. absurd (other _ is))

pub returns-else-is_empty-clause-none : goal.returns-else-is_empty-clause-none
returns-else-is_empty-clause-none c =
    let other = is_no_whole c.args.raw.now (prefix_of c.in-Some.prefix) (sym (rw c.in-Some.is at c.in_ok-prefix.ensures)) (nonempty c.in-Some.prefix.rest.now c.if-is_empty.ensures) in
    (λ _. other, λ _. refl)

pub returns-in-None-clause-none : goal.returns-in-None-clause-none
returns-in-None-clause-none c = (λ _. is_no_path c.args.raw.now (sym (rw c.in-None.is at c.in_ok-prefix.ensures)), λ _. refl)
