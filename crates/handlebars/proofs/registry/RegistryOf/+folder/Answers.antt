use Rattle.std.proofs.Common.{◌++◌, ap, sym, subst, ◌∙◌, arith}
use Rattle.std.proofs.lemmas.Result.{err_from_is_err_and}
use Rattle.std.specs.Prelude.{codes}
use Rattle.handlebars.specs.Folder.{IsInOrder, an_entry, filter_of}
use Rattle.handlebars.proofs.Walks.{registers-alloc_fails, entries-begin, entry-goes_on, entry-ends, entries-end, entry-of-kind, folder-listed, folder-alloc_fails, folder-unlisted, folder-enters, folder-too_deep, zero-from}
use Rattle.handlebars.proofs.registry.RegistryOf.+folder.Goals as goal

pub register_entries-entries-init : goal.register_entries-entries-init
register_entries-entries-init g t c = entries-begin g.R.TemplateReader.reads g.R.TemplateReader.lists (filter_of c.args.options.now)
    (record { path = c.args.folder.now; prefix = c.args.prefix.now; levels = c.args.levels }) c.args.entries.now c.args.self.now c.args.files.now

pub register_entries-returns-in_err-register_entry : goal.register_entries-returns-in_err-register_entry
register_entries-returns-in_err-register_entry g t c =
    let p = err_from_is_err_and c.from_residual.result c.from_residual.ensures.1 in
    rw (p.1, p.2) (entry-ends g.R.TemplateReader.reads g.R.TemplateReader.lists (filter_of c.args.options.now) (record { path = c.args.folder.now; prefix = c.args.prefix.now; levels = c.args.levels })
    c.entry-item.result c.args.entries.now c.entries.entry-index c.args.self.now c.entries.self
    c.register_entry.new.self c.args.files.now c.entries.files c.register_entry.new.files _
    c.entries-test.true c.entry-item.is c.entries.invariant c.in_err-register_entry.ensures)

pub register_entries-entries-preserved : goal.register_entries-entries-preserved
register_entries-entries-preserved g t c = entry-goes_on g.R.TemplateReader.reads g.R.TemplateReader.lists (filter_of c.args.options.now) (record { path = c.args.folder.now; prefix = c.args.prefix.now; levels = c.args.levels })
    c.entry-item.result c.args.entries.now c.entries.entry-index c.args.self.now c.entries.self
    c.register_entry.new.self c.args.files.now c.entries.files c.register_entry.new.files tt
    c.entries-test.true c.entry-item.is c.entries.invariant c.in_ok-register_entry.ensures

pub register_entries-returns : goal.register_entries-returns
register_entries-returns g t c = entries-end g.R.TemplateReader.reads g.R.TemplateReader.lists (filter_of c.args.options.now) (record { path = c.args.folder.now; prefix = c.args.prefix.now; levels = c.args.levels })
    c.args.entries.now c.entries.entry-index c.args.self.now c.entries.self c.args.files.now c.entries.files c.entries-test.false c.entries.invariant

pub register_entry-returns-in_err-path : goal.register_entry-returns-in_err-path
register_entry-returns-in_err-path g t c =
    let p = err_from_is_err_and c.from_residual.result c.from_residual.ensures.1 in
    rw p.1 (registers-alloc_fails g.R.TemplateReader.reads g.R.TemplateReader.lists (filter_of c.args.options.now) (an_entry (record { path = c.args.folder.now; prefix = c.args.prefix.now; levels = c.args.levels }) c.args.entry.now)
    c.args.self.now c.args.files.now p.0 (ap (λ r. r.reason) p.2))

pub register_entry-returns-in_err-push_str : goal.register_entry-returns-in_err-push_str
register_entry-returns-in_err-push_str g t c =
    let p = err_from_is_err_and c.from_residual-in_err-push_str.result c.from_residual-in_err-push_str.ensures.1 in
    rw p.1 (registers-alloc_fails g.R.TemplateReader.reads g.R.TemplateReader.lists (filter_of c.args.options.now) (an_entry (record { path = c.args.folder.now; prefix = c.args.prefix.now; levels = c.args.levels }) c.args.entry.now)
    c.args.self.now c.args.files.now p.0 (ap (λ r. r.reason) p.2))

pub register_entry-returns-in_err-below : goal.register_entry-returns-in_err-below
register_entry-returns-in_err-below g t c =
    let p = err_from_is_err_and c.from_residual-in_err-below.result c.from_residual-in_err-below.ensures.1 in
    rw p.1 (registers-alloc_fails g.R.TemplateReader.reads g.R.TemplateReader.lists (filter_of c.args.options.now) (an_entry (record { path = c.args.folder.now; prefix = c.args.prefix.now; levels = c.args.levels }) c.args.entry.now)
    c.args.self.now c.args.files.now p.0 (ap (λ r. r.reason) p.2))

pub register_entry-returns-in-File : goal.register_entry-returns-in-File
register_entry-returns-in-File g t c =
    entry-of-kind g.R.TemplateReader.reads g.R.TemplateReader.lists (filter_of c.args.options.now) (record { path = c.args.folder.now; prefix = c.args.prefix.now; levels = c.args.levels }) c.args.entry.now _
    c.args.self.now c.register_found.new.self c.args.files.now c.register_found.new.files c.register_found.result c.in-File.is
    (c.register_found.ensures (record { path = c.args.folder.now; prefix = c.args.prefix.now; levels = c.args.levels })
    (c.as_str-in-File.ensures.value ∙ c.in_ok-push_str.ensures.bytes ∙ ap (λ z. z ++ c.as_str.result.now) c.in_ok-path.ensures
    ∙ ap (λ z. c.args.folder.now ++ codes "/" ++ z) c.as_str.ensures.value)
    (c.as_str-in-File-2.ensures.value ∙ c.in_ok-below.ensures ∙ ap (λ z. c.args.prefix.now ++ z) c.as_str-2.ensures.value))

pub register_entry-returns-in_default : goal.register_entry-returns-in_default
register_entry-returns-in_default g t c =
    entry-of-kind g.R.TemplateReader.reads g.R.TemplateReader.lists (filter_of c.args.options.now) (record { path = c.args.folder.now; prefix = c.args.prefix.now; levels = c.args.levels }) c.args.entry.now _
    c.args.self.now c.args.self.now c.args.files.now c.args.files.now _ c.in-Folder.is
    (folder-too_deep g.R.TemplateReader.reads g.R.TemplateReader.lists (filter_of c.args.options.now) (record { path = c.args.folder.now; prefix = c.args.prefix.now; levels = c.args.levels }) c.args.entry.now.0 c.args.self.now
    c.args.files.now (zero-from c.args.levels c.in_default.ensures))

pub register_entry-returns-in_err-prefix-in-Folder : goal.register_entry-returns-in_err-prefix-in-Folder
register_entry-returns-in_err-prefix-in-Folder g t c =
    let p = err_from_is_err_and c.from_residual-in_err-prefix-in-Folder.result c.from_residual-in_err-prefix-in-Folder.ensures.1 in
    rw p.1 (registers-alloc_fails g.R.TemplateReader.reads g.R.TemplateReader.lists (filter_of c.args.options.now) (an_entry (record { path = c.args.folder.now; prefix = c.args.prefix.now; levels = c.args.levels }) c.args.entry.now)
    c.args.self.now c.args.files.now p.0 (ap (λ r. r.reason) p.2))

pub register_entry-returns : goal.register_entry-returns
register_entry-returns g t c =
    entry-of-kind g.R.TemplateReader.reads g.R.TemplateReader.lists (filter_of c.args.options.now) (record { path = c.args.folder.now; prefix = c.args.prefix.now; levels = c.args.levels }) c.args.entry.now _
    c.args.self.now c.register_folder.new.self c.args.files.now c.register_folder.new.files c.register_folder.result c.in-Folder.is
    (folder-enters g.R.TemplateReader.reads g.R.TemplateReader.lists (filter_of c.args.options.now) (record { path = c.args.folder.now; prefix = c.args.prefix.now; levels = c.args.levels }) c.args.entry.now.0 c.in-Some.levels c.as_str-in-Folder-2.result.now c.as_str-in-Folder-3.result.now
    c.args.self.now c.register_folder.new.self c.args.files.now c.register_folder.new.files c.register_folder.result
    (c.as_str-in-Folder-2.ensures.value ∙ c.in_ok-push_str.ensures.bytes ∙ ap (λ z. z ++ c.as_str.result.now) c.in_ok-path.ensures
    ∙ ap (λ z. c.args.folder.now ++ codes "/" ++ z) c.as_str.ensures.value)
    (c.as_str-in-Folder-3.ensures.value ∙ c.in_ok-prefix-in-Folder.ensures ∙ ap (λ z. z ++ codes "/")
    (c.as_str-in-Folder.ensures.value ∙ c.in_ok-below.ensures ∙ ap (λ z. c.args.prefix.now ++ z) c.as_str-2.ensures.value))
    (grind (arith, c.in-Some.ensures)) c.register_folder.ensures)

pub register_folder-returns-in_err-entries-in-Ok : goal.register_folder-returns-in_err-entries-in-Ok
register_folder-returns-in_err-entries-in-Ok g t c =
    let p = err_from_is_err_and c.from_residual.result c.from_residual.ensures.1 in
    rw p.1 (folder-alloc_fails g.R.TemplateReader.reads g.R.TemplateReader.lists (filter_of c.args.options.now) (record { path = c.args.folder.now; prefix = c.args.prefix.now; levels = c.args.levels }) _ c.args.self.now c.args.files.now c.list.new.self p.0 c.in-Ok.ensures
    (ap (λ r. r.reason) p.2))

pub register_folder-returns-in_ok-entries-in-Ok : goal.register_folder-returns-in_ok-entries-in-Ok
register_folder-returns-in_ok-entries-in-Ok g t c =
    folder-listed g.R.TemplateReader.reads g.R.TemplateReader.lists (filter_of c.args.options.now) (record { path = c.args.folder.now; prefix = c.args.prefix.now; levels = c.args.levels }) c.in-Ok.listed _ c.args.self.now
    c.register_entries.new.self c.args.files.now c.list.new.self c.register_entries.new.files c.register_entries.result c.in-Ok.ensures
    (subst (λ xs. IsInOrder c.in-Ok.listed.items xs) (sym c.as_slice.ensures.value) c.in_ok-entries-in-Ok.ensures)
    c.register_entries.ensures

pub register_folder-returns-in-Err : goal.register_folder-returns-in-Err
register_folder-returns-in-Err g t c = folder-unlisted g.R.TemplateReader.reads g.R.TemplateReader.lists (filter_of c.args.options.now) (record { path = c.args.folder.now; prefix = c.args.prefix.now; levels = c.args.levels }) c.in-Err.cause c.args.self.now c.args.files.now
    c.list.new.self c.passed_over.result c.in-Err.ensures c.passed_over.ensures.ok c.passed_over.ensures.err
