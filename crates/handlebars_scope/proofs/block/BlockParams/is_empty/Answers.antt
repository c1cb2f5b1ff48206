use Rattle.std.proofs.Common.{List, ℕ, refl, sym, ◌∙◌}
use Rattle.std.proofs.lemmas.Bool.{false≢true}
use Rattle.std.proofs.lemmas.List.{nil_from_length}
use Rattle.handlebars_scope.specs.ScopeView.{bound_of}
use Rattle.handlebars_scope.proofs.Maps.{get_by_text-empty, get_by_text-first}
use Rattle.handlebars_scope.proofs.block.BlockParams.is_empty.Goals as goal

pub returns-clause-none : goal.returns-clause-none
returns-clause-none c is =
    let all = λ (name : List ℕ). get_by_text-empty bound_of c.args.self.now.data
    (nil_from_length c.args.self.now.data.entries (c.is_empty.ensures.0 is)) name in
    λ i name. all name i

pub returns-clause-some : goal.returns-clause-some
returns-clause-some c is = get_by_text-first bound_of c.args.self.now.data
    c.args.self.now.data.entries refl (λ none. false≢true (sym is ∙ c.is_empty.ensures.1 none))
