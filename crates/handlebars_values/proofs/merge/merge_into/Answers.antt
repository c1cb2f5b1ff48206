use Rattle.std.proofs.Common.{ap, ◌∙◌}
use Rattle.serde_json.proofs.Views.{view-Object}
use Rattle.serde_json.specs.Data.{Members}
use Rattle.serde_json.specs.View.{view}
use Rattle.handlebars_scope.specs.Merged.{with_hash}
use Rattle.handlebars_semantics.specs.Inclusion.{hash_data}
use Rattle.handlebars_values.specs.View.{arguments_seen}
use Rattle.handlebars_values.proofs.Merging.{merge-some}
use Rattle.handlebars_values.proofs.merge.merge_into.Goals as goal

pub returns : goal.returns
returns c =
    view-Object c.in_ok-with_hash.field-0
    ∙ merge-some (view c.args.base) c.args.hash.now.entries c.if-is_empty.ensures.1
    (c.in_ok-with_hash.ensures ∙ ap (λ (ms : Members). with_hash (hash_data (arguments_seen c.args.hash.now.entries)) ms) c.in_ok-members.ensures)
