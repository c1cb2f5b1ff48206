-- The values that paths and parameters have in a context.
use Rattle.std.proofs.Common.{◌≡◌, Option, None, Some, sym, ap, ◌∙◌}
use Rattle.std.specs.Prelude.{unwrap_or}
use Rattle.serde_json.specs.Data.{Data}
use Rattle.handlebars_base.specs.Answers.{answer_map, fails, gives}
use Rattle.handlebars_base.specs.Path.{Reference}
use Rattle.handlebars_base.specs.Reasons.{Refusal}
use Rattle.handlebars_base.specs.Scoped.{Found}
use Rattle.handlebars_scope.specs.Resolve.{resolve}
use Rattle.handlebars_semantics.specs.State.{State}
use Rattle.handlebars_semantics.specs.Values.{as_read, without_path}
use Rattle.handlebars_entry.specs.Entry.{read_over}

module _ (given : Data) (s : State) (r : Reference) where
  pub read-given : None ≡ s.changed → read_over given s r ≡ resolve s.recursive s.blocks r given
  read-given none =
      sym (ap (λ (c : Option Data). as_read c (resolve s.recursive s.blocks r (unwrap_or c given))) none)

  read-changed : (d : Data) → Some d ≡ s.changed → read_over given s r ≡ answer_map without_path (resolve s.recursive s.blocks r d)
  read-changed d is =
      sym (ap (λ (c : Option Data). as_read c (resolve s.recursive s.blocks r (unwrap_or c given))) is)

  -- in changed data, without its path
  pub gives-pathless : (d : Data) (found f : Found) → Some d ≡ s.changed → resolve s.recursive s.blocks r d ≡ gives found
      → f ≡ without_path found → read_over given s r ≡ gives f
  gives-pathless d found f is has without =
      read-changed d is ∙ ap (answer_map without_path) has ∙ ap (λ (z : Found). gives z) (sym without)

  pub fails-changed : (d : Data) (e : Refusal) → Some d ≡ s.changed → resolve s.recursive s.blocks r d ≡ fails e
      → read_over given s r ≡ fails e
  fails-changed d e is has = read-changed d is ∙ ap (answer_map without_path) has
