use Rattle.std.proofs.Common.{string_bytes}
use Rattle.std.proofs.lemmas.Result.{on_ok_weaker}
use Rattle.handlebars_helpers.specs.ByNameView.{entry_at}
use Rattle.handlebars_helpers.specs.EntryView.{entry_callee}
use Rattle.handlebars_helpers.specs.declared.user.entry.HelperEntryOf.TheVariants.{Built}
use Rattle.handlebars_helpers.proofs.FirstEntries.{seen-inserted}
use Rattle.handlebars_helpers.proofs.first.put.Goals as goal

pub returns : goal.returns
returns g c = on_ok_weaker c.insert.result
    (seen-inserted entry_callee (entry_at c.args.helpers.now) (entry_at c.insert.new.self) (string_bytes c.in_ok-from_str.field-0)
    c.args.name.now (Built c.args.kind) c.in_ok-from_str.ensures.ok)
    c.insert.ensures.ok
