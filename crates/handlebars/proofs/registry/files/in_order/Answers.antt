use Rattle.std.proofs.Common.{◌≡◌, rules}
use Rattle.std.specs.Ordering.{is_lt}
use Rattle.std.specs.String.{string_cmp_total}
use Rattle.std.proofs.lemmas.Fn.{always_returns_same}
use Rattle.std.proofs.lemmas.List.Sorted.{ranks_by}
use Rattle.handlebars.specs.Folder.{comes_before}
use Rattle.handlebars.proofs.registry.files.in_order.Goals as goal

pub returns : goal.returns
returns c = record {
  same = c.in_ok-sort_by.ensures.permutation;
  rising = c.in_ok-sort_by.ensures.sorted comes_before (ranks_by string_cmp_total (λ e. e.0))
      (always_returns_same _ (λ a r. is_lt r ≡ comes_before a.0.now a.1.0.now) _ (λ a r q k. search rules));
  stable = c.in_ok-sort_by.ensures.stable comes_before (ranks_by string_cmp_total (λ e. e.0))
      (always_returns_same _ (λ a r. is_lt r ≡ comes_before a.0.now a.1.0.now) _ (λ a r q k. search rules));
}
