use Rattle.std.proofs.Common.{true, false}
use Rattle.std.specs.Prelude.{string_bytes}
use Rattle.handlebars.specs.Files.{overlaid_on, tree_in}
use Rattle.handlebars.specs.Html.{templates_under}
use Rattle.handlebars.specs.Markup.{key_names, unread}
use Rattle.handlebars.specs.View.{stored_tree}
use Rattle.handlebars.proofs.HtmlTemplates.{unread-next, unread-skip, unread-end}
use Rattle.handlebars.proofs.MarkupNames.{tree_in-found}
use Rattle.handlebars.proofs.registry.RegistryOf.list_stored.Goals as goal

pub names-preserved-in-Continue-1 : goal.names-preserved-in-Continue-1
names-preserved-in-Continue-1 g c =
    unread-next (overlaid_on (tree_in c.args.read.now) (stored_tree c.args.self.now))
    c.args.templates.now.items _ (tree_in c.args.read.now) c.names.templates.items c.list_named.new.templates.items
    c.names.name-iterator c.next.new.self (c.in-Some.name.now, c.in-Some.field-0-1.now) c.as_str-then-not-contains_key.result.now
    c.in-Some.ensures.steps c.as_str-then-not-contains_key.ensures.value
    (tree_in-found c.args.read.now (string_bytes c.in-Some.name.now) c.as_str.result.now c.contains_key.result false
    c.contains_key.ensures c.as_str.ensures.value c.if-not-contains_key.true)
    c.names.invariant c.in_ok-list_named.ensures

pub names-preserved : goal.names-preserved
names-preserved g c =
    unread-skip (overlaid_on (tree_in c.args.read.now) (stored_tree c.args.self.now))
    c.args.templates.now.items _ (tree_in c.args.read.now) c.names.templates.items
    c.names.name-iterator c.next.new.self (c.in-Some.name.now, c.in-Some.field-0-1.now) c.in-Some.ensures.steps
    (tree_in-found c.args.read.now (string_bytes c.in-Some.name.now) c.as_str.result.now c.contains_key.result true
    c.contains_key.ensures c.as_str.ensures.value c.if-not-contains_key.false)
    c.names.invariant

pub returns : goal.returns
returns g c =
    unread-end (overlaid_on (tree_in c.args.read.now) (stored_tree c.args.self.now)) c.args.templates.now.items _
    (tree_in c.args.read.now) c.names.templates.items c.names.name-iterator c.in-None.ensures.steps.0 c.names.invariant
