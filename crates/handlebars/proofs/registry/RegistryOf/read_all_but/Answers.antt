use Rattle.std.proofs.Common.{option_map, ap, sym, ◌∙◌}
use Rattle.std.proofs.lemmas.Result.{err_from_is_err_and}
use Rattle.handlebars.specs.Dev.{is_asked}
use Rattle.handlebars.proofs.ReadFiles.{files-begin, files-next, files-fail, files-end}
use Rattle.handlebars.proofs.registry.RegistryOf.read_all_but.Goals as goal

pub paths-init : goal.paths-init
paths-init g c = files-begin g.R.TemplateReader.reads c.args.self.now.prevent_indent (option_map (λ s. s.now) c.args.asked)
    c.args.paths.now.entries c.into_iter-name-iterator.result c.args.files.now c.args.trees.now c.into_iter-name-iterator.ensures.into_iter_gives.0

pub paths-preserved-in-Continue-1 : goal.paths-preserved-in-Continue-1
paths-preserved-in-Continue-1 g c =
    files-next g.R.TemplateReader.reads c.args.self.now.prevent_indent (option_map (λ s. s.now) c.args.asked)
    c.args.paths.now.entries c.paths.name-iterator c.next.new.self (c.in-Some.name.now, c.in-Some.path.now)
    c.as_str-then-not-is_asked.result.now c.as_str-then-not-is_asked-2.result.now c.args.files.now c.paths.files c.read_into.new.files
    c.args.trees.now c.paths.trees c.in-Some.ensures.steps c.as_str-then-not-is_asked.ensures.value c.as_str-then-not-is_asked-2.ensures.value
    (ap (is_asked (option_map (λ s. s.now) c.args.asked)) (sym c.as_str.ensures.value) ∙ sym c.is_asked.ensures ∙ c.if-not-is_asked.true)
    c.paths.invariant c.read_into.new.trees c.in_ok-read_into.ensures.ok

pub returns-in_err-read_into-clause-err : goal.returns-in_err-read_into-clause-err
returns-in_err-read_into-clause-err g c =
    let p = err_from_is_err_and c.from_residual.result c.from_residual.ensures.1 in
    rw (p.1, p.2) (files-fail g.R.TemplateReader.reads c.args.self.now.prevent_indent (option_map (λ s. s.now) c.args.asked)
    c.args.paths.now.entries c.paths.name-iterator c.next.new.self (c.in-Some.name.now, c.in-Some.path.now)
    c.as_str-then-not-is_asked.result.now c.as_str-then-not-is_asked-2.result.now c.args.files.now c.paths.files c.read_into.new.files
    c.args.trees.now c.paths.trees c.in-Some.ensures.steps c.as_str-then-not-is_asked.ensures.value c.as_str-then-not-is_asked-2.ensures.value
    (ap (is_asked (option_map (λ s. s.now) c.args.asked)) (sym c.as_str.ensures.value) ∙ sym c.is_asked.ensures ∙ c.if-not-is_asked.true)
    c.paths.invariant _ c.in_err-read_into.ensures.err)

pub returns-clause-ok : goal.returns-clause-ok
returns-clause-ok g c = files-end g.R.TemplateReader.reads c.args.self.now.prevent_indent (option_map (λ s. s.now) c.args.asked)
    c.args.paths.now.entries c.paths.name-iterator c.args.files.now c.paths.files c.args.trees.now c.paths.trees c.in-None.ensures.steps.0
    c.paths.invariant
