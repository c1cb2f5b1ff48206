use Rattle.std.proofs.Common.{◌+◌, ◌*◌, List, drop}
use Rattle.handlebars.specs.Files.{HasLoaded, Loaded}
use Rattle.handlebars.specs.Folder.{filter_of}
use Rattle.handlebars.specs.View.{modes_of}
use Rattle.handlebars.proofs.Walks.{ExtendsWalk}
use Rattle.handlebars.proofs.registry.RegistryOf.+folder.Given as goal

-- From one level to the next the functions follow in this order.
abbrev pub decreases-register_folder : goal.decreases-register_folder
decreases-register_folder g l = 3 * l.levels + 2

abbrev pub decreases-register_entries : goal.decreases-register_entries
decreases-register_entries g l = 3 * l.levels + 1

abbrev pub decreases-register_entry : goal.decreases-register_entry
decreases-register_entry g l = 3 * l.levels

abbrev pub invariant-register_entries-entries : goal.invariant-register_entries-entries
invariant-register_entries-entries g l = (loaded : List Loaded) × HasLoaded loaded l.fn.self l.self
    × ExtendsWalk g.R.TemplateReader.reads g.R.TemplateReader.lists (modes_of l.fn.self).prevent_indent (filter_of l.options) loaded
    (record { path = l.folder; prefix = l.prefix; levels = l.levels }) l.entries (drop l.entry-index l.entries) l.fn.files l.files
