use Rattle.std.proofs.Common.{None}
use Rattle.std.proofs.lemmas.Map.Text.{hash_map_updates_text}
use Rattle.handlebars_helpers.proofs.Marked.{marked-removed}
use Rattle.handlebars_helpers.proofs.by_name.ByName.remove.Goals as goal

pub invariant_of-self : goal.invariant_of-self
invariant_of-self g c = record {
  marked = marked-removed c.args.self.now.by_name c.remove.new.self c.args.name.now c.args.self.now.marks
      c.remove.ensures.updates c.args.self.now.marked;
}

pub returns : goal.returns
returns g c = hash_map_updates_text c.args.name.now c.args.self.now.by_name c.remove.new.self None c.remove.ensures.updates
