use Rattle.handlebars.specs.Files.{overlaid_on, tree_in}
use Rattle.handlebars.specs.Html.{templates_under}
use Rattle.handlebars.specs.Markup.{key_names, unread}
use Rattle.handlebars.specs.View.{stored_tree}
use Rattle.handlebars.proofs.HtmlTemplates.{FromNames}
use Rattle.handlebars.proofs.registry.RegistryOf.list_stored.Given as goal

abbrev pub invariant-names : goal.invariant-names
invariant-names g l =
    FromNames (overlaid_on (tree_in l.read) (stored_tree l.self)) l.fn.templates.items
    (templates_under (overlaid_on (tree_in l.read) (stored_tree l.self)) (unread (tree_in l.read) (key_names l.self.templates.entries)))
    l.templates.items (unread (tree_in l.read) (key_names l.name-iterator))
