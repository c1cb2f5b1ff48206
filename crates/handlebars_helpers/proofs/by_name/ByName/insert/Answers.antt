use Rattle.std.proofs.Common.{string_bytes, Some, sym, ap, ◌∙◌}
use Rattle.std.proofs.lemmas.Map.Text.{hash_map_updates_text}
use Rattle.handlebars_helpers.specs.Marks.{is_marked}
use Rattle.handlebars_helpers.proofs.Marked.{marked-inserted}
use Rattle.handlebars_helpers.proofs.by_name.ByName.insert.Goals as goal

pub invariant_of-self : goal.invariant_of-self
invariant_of-self g c = record {
  marked = marked-inserted c.insert.result c.args.self.now.by_name c.insert.new.self c.args.name c.args.entry c.mark.new.marks
      c.insert.ensures.updates c.insert.ensures.err
      (ap (is_marked c.mark.new.marks) (sym c.deref.ensures) ∙ c.mark.ensures.marked)
      (λ name there. c.mark.ensures.unchanged name (c.args.self.now.marked name there));
}

pub returns-clause-ok : goal.returns-clause-ok
returns-clause-ok g c = hash_map_updates_text (string_bytes c.args.name) c.args.self.now.by_name c.insert.new.self (Some c.args.entry)
    c.in_ok-insert.ensures.updates
