use Rattle.std.proofs.lemmas.Result.{on_ok_weaker}
use Rattle.handlebars_markup.specs.Faults.{faults_of_parts}
use Rattle.handlebars.specs.Files.{overlaid_on, tree_in}
use Rattle.handlebars.specs.Markup.{faults_under_all, key_names, unread}
use Rattle.handlebars.specs.View.{stored_tree}
use Rattle.handlebars.proofs.MarkupNames.{finds-then}
use Rattle.handlebars.proofs.MarkupRead.{reported-in-maps}
use Rattle.handlebars.proofs.registry.RegistryOf.check_registered.Goals as goal

pub returns : goal.returns
returns g c =
    let r = g.E.UserParts.registered c.args.self.now.entries in
    let template = overlaid_on (tree_in c.args.read.now) (stored_tree c.args.self.now) in
    let ns = key_names c.args.read.now.entries in
    let ms = unread (tree_in c.args.read.now) (key_names c.args.self.now.templates.entries) in
    on_ok_weaker c.check_stored.result (λ h. (
      _,
      finds-then c.args.faults.now.items c.check_parts.new.faults.items c.check_stored.new.faults.items (faults_of_parts r) _
          c.in_ok-check_parts.ensures
          (finds-then c.check_parts.new.faults.items c.check_read.new.faults.items c.check_stored.new.faults.items
          (faults_under_all r template ns) (faults_under_all r template ms) c.in_ok-check_read.ensures h),
      reported-in-maps g.E.UserParts.registered g.E.UserParts.user c.args.self.now c.args.read.now c.names_are_in_order.ensures
          c.names_are_in_order-2.ensures,
    )) c.check_stored.ensures
