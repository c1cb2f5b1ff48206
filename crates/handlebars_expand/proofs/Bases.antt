-- The base of an inclusion.
use Rattle.std.proofs.Common.{◌≡◌, List, [], ◌∷◌, Some, subst}
use Rattle.std.specs.Prelude.{slice_get}
use Rattle.handlebars_base.specs.PathAndData.{PathAndData}
use Rattle.handlebars_base.specs.Scoped.{data_in}
use Rattle.handlebars_semantics.specs.Including.{base_value}
use Rattle.handlebars_semantics.specs.State.{Setting, State}
use Rattle.handlebars_expand.specs.View.{GivesValue}

first : (v q : PathAndData) → Some q ≡ Some v → v ≡ q
first v q is = cc

module _ (p : Setting) (s : State) where
  -- the value of the first parameter
  pub base-param : (vs : List PathAndData) (q : PathAndData) → Some q ≡ slice_get vs 0
      → GivesValue p (base_value vs) s (data_in q.found)
  base-param [] q is = cc
  base-param (v ∷ vs) q is =
      let same : v ≡ q = first v q is in
      subst (λ (z : PathAndData). GivesValue p (base_value (v ∷ vs)) s (data_in z.found)) same (λ k ps o r. r)
