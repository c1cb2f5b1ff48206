use Rattle.std.proofs.Common.{string_bytes, refl}
use Rattle.handlebars_helpers.specs.ByNameView.{entry_at}
use Rattle.handlebars_helpers.specs.DecoratorEntryView.{entry_kind}
use Rattle.handlebars_helpers.specs.declared.decorators.entry.DecoratorEntryOf.TheVariants.{Inline}
use Rattle.handlebars_helpers.proofs.FirstEntries.{kinds-first}
use Rattle.handlebars_helpers.proofs.first.built_in_decorators.Goals as goal

pub returns : goal.returns
returns g c = kinds-first entry_kind (entry_at c.new-decorators.result) (entry_at c.insert.new.self) (string_bytes c.in_ok-from_str.field-0)
    Inline c.in_ok-from_str.ensures.ok c.new-decorators.ensures c.in_ok-insert.ensures.ok (λ n. refl)
