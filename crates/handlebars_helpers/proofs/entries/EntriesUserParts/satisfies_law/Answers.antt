use Rattle.handlebars_helpers.specs.ByNameView.{entry_at}
use Rattle.handlebars_helpers.proofs.OneAnswer.{user_at-once, user_decorator_at-once, user_escape_of-once}
use Rattle.handlebars_helpers.proofs.entries.EntriesUserParts.satisfies_law.Goals as goal

pub returns : goal.returns
returns g c = record {
  helpers = λ name. user_at-once _ _ _ _ c.satisfies_law.ensures.steps c.satisfies_law.ensures.offer c.satisfies_law-2.ensures.steps
      c.satisfies_law-2.ensures.offer name (entry_at c.args.self.now.helpers name);
  decorators = λ name. user_decorator_at-once _ _ c.satisfies_law-3.ensures c.satisfies_law-4.ensures name
      (entry_at c.args.self.now.decorators name);
  escape = user_escape_of-once _ c.satisfies_law-5.ensures c.args.self.now.escape;
}
