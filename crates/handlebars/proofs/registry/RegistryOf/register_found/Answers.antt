use Rattle.std.proofs.Common.{ap, sym, ◌∙◌}
use Rattle.handlebars.specs.Folder.{filter_of, is_taken}
use Rattle.handlebars.proofs.Walks.{file-named, file-passes}
use Rattle.handlebars.proofs.registry.RegistryOf.register_found.Goals as goal

pub returns-then-takes : goal.returns-then-takes
returns-then-takes g c = λ p is_path is_below. file-named _ _ (filter_of c.args.options.now) p c.args.name.now c.name_in.result.now c.args.path.now
    c.args.below.now c.args.self.now c.register_template_file.new.self _ _ c.register_template_file.result is_path is_below c.name_in.ensures
    (ap (is_taken (filter_of c.args.options.now) c.args.path.now) (sym c.as_str.ensures.value) ∙ sym c.takes.ensures ∙ c.if-takes.true)
    c.register_template_file.ensures.ok c.register_template_file.ensures.err c.register_template_file.ensures.unchanged

pub returns-else-takes : goal.returns-else-takes
returns-else-takes g c = λ p is_path is_below. file-passes _ _ (filter_of c.args.options.now) p c.args.name.now c.args.path.now c.args.self.now _ is_path
    (ap (is_taken (filter_of c.args.options.now) c.args.path.now) (sym c.as_str.ensures.value) ∙ sym c.takes.ensures ∙ c.if-takes.false)
