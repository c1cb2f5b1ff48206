use Rattle.std.proofs.Common.{◌++◌, option_map, refl, ◌∙◌, sym}
use Rattle.std.proofs.lemmas.Result.{err_from_is_err_and}
use Rattle.handlebars.specs.Dev.{asked_file, is_known, others}
use Rattle.handlebars.specs.Files.{files_of, remembered_path}
use Rattle.handlebars.proofs.Asks.{asks-all, asks-up-to}
use Rattle.handlebars.proofs.ReadFiles.{into-then, into-then-fails, fails-first, fails-known, read-known, read-unknown}
use Rattle.handlebars.proofs.registry.RegistryOf.read_files.Goals as goal

pub returns-then-not-is_known-clause-ok : goal.returns-then-not-is_known-clause-ok
returns-then-not-is_known-clause-ok g c = read-unknown g.R.TemplateReader.reads c.args.self.now.prevent_indent (is_known c.args.self.now (option_map (λ s. s.now) c.args.asked))
    (asked_file (option_map (λ s. s.now) c.args.asked) (remembered_path c.args.self.now) ++ others (option_map (λ s. s.now) c.args.asked) (files_of c.args.self.now))
    c.args.files.now c.new-trees.result (sym c.is_known.ensures ∙ c.if-not-is_known.true) (λ n. rw c.new-trees.ensures.empty refl)

pub returns-in_err-read_asked-clause-err : goal.returns-in_err-read_asked-clause-err
returns-in_err-read_asked-clause-err g c =
    let p = err_from_is_err_and c.from_residual.result c.from_residual.ensures.1 in
    rw (p.1, p.2) (fails-known g.R.TemplateReader.reads c.args.self.now.prevent_indent (is_known c.args.self.now (option_map (λ s. s.now) c.args.asked))
    (asked_file (option_map (λ s. s.now) c.args.asked) (remembered_path c.args.self.now) ++ others (option_map (λ s. s.now) c.args.asked) (files_of c.args.self.now))
    (sym c.is_known.ensures ∙ c.if-not-is_known.false)
    (fails-first g.R.TemplateReader.reads c.args.self.now.prevent_indent (others (option_map (λ s. s.now) c.args.asked) (files_of c.args.self.now)) c.in_err-read_asked.ensures.err))

pub returns-in_err-read_others-clause-err : goal.returns-in_err-read_others-clause-err
returns-in_err-read_others-clause-err g c =
    let p = err_from_is_err_and c.from_residual-in_err-read_others.result c.from_residual-in_err-read_others.ensures.1 in
    rw (p.1, p.2) (fails-known g.R.TemplateReader.reads c.args.self.now.prevent_indent (is_known c.args.self.now (option_map (λ s. s.now) c.args.asked))
    (asked_file (option_map (λ s. s.now) c.args.asked) (remembered_path c.args.self.now) ++ others (option_map (λ s. s.now) c.args.asked) (files_of c.args.self.now))
    (sym c.is_known.ensures ∙ c.if-not-is_known.false)
    (into-then-fails g.R.TemplateReader.reads c.args.self.now.prevent_indent c.in_ok-read_asked.ensures.ok c.in_err-read_others.ensures.err))

pub returns-clause-ok : goal.returns-clause-ok
returns-clause-ok g c = read-known g.R.TemplateReader.reads c.args.self.now.prevent_indent (is_known c.args.self.now (option_map (λ s. s.now) c.args.asked))
    (asked_file (option_map (λ s. s.now) c.args.asked) (remembered_path c.args.self.now) ++ others (option_map (λ s. s.now) c.args.asked) (files_of c.args.self.now))
    (sym c.is_known.ensures ∙ c.if-not-is_known.false) (λ n. rw c.new-trees.ensures.empty refl)
    (into-then g.R.TemplateReader.reads c.args.self.now.prevent_indent c.in_ok-read_asked.ensures.ok c.in_ok-read_others.ensures.ok)

pub returns-then-not-is_known-clause-asks : goal.returns-then-not-is_known-clause-asks
returns-then-not-is_known-clause-asks g c =
    let all = read-unknown g.R.TemplateReader.reads c.args.self.now.prevent_indent (is_known c.args.self.now (option_map (λ s. s.now) c.args.asked))
    (asked_file (option_map (λ s. s.now) c.args.asked) (remembered_path c.args.self.now) ++ others (option_map (λ s. s.now) c.args.asked) (files_of c.args.self.now))
    c.args.files.now c.new-trees.result (sym c.is_known.ensures ∙ c.if-not-is_known.true) (λ n. rw c.new-trees.ensures.empty refl) in
    asks-all g.R.TemplateReader.reads c.args.self.now (option_map (λ s. s.now) c.args.asked) all.0 all.1

pub returns-in_err-read_asked-clause-asks : goal.returns-in_err-read_asked-clause-asks
returns-in_err-read_asked-clause-asks g c = asks-up-to g.R.TemplateReader.reads c.args.self.now (option_map (λ s. s.now) c.args.asked)
    (fails-known g.R.TemplateReader.reads c.args.self.now.prevent_indent (is_known c.args.self.now (option_map (λ s. s.now) c.args.asked))
    (asked_file (option_map (λ s. s.now) c.args.asked) (remembered_path c.args.self.now) ++ others (option_map (λ s. s.now) c.args.asked) (files_of c.args.self.now))
    (sym c.is_known.ensures ∙ c.if-not-is_known.false)
    (fails-first g.R.TemplateReader.reads c.args.self.now.prevent_indent (others (option_map (λ s. s.now) c.args.asked) (files_of c.args.self.now)) c.in_err-read_asked.ensures.err))

pub returns-in_err-read_others-clause-asks : goal.returns-in_err-read_others-clause-asks
returns-in_err-read_others-clause-asks g c = asks-up-to g.R.TemplateReader.reads c.args.self.now (option_map (λ s. s.now) c.args.asked)
    (fails-known g.R.TemplateReader.reads c.args.self.now.prevent_indent (is_known c.args.self.now (option_map (λ s. s.now) c.args.asked))
    (asked_file (option_map (λ s. s.now) c.args.asked) (remembered_path c.args.self.now) ++ others (option_map (λ s. s.now) c.args.asked) (files_of c.args.self.now))
    (sym c.is_known.ensures ∙ c.if-not-is_known.false)
    (into-then-fails g.R.TemplateReader.reads c.args.self.now.prevent_indent c.in_ok-read_asked.ensures.ok c.in_err-read_others.ensures.err))

pub returns-clause-asks : goal.returns-clause-asks
returns-clause-asks g c =
    let all = read-known g.R.TemplateReader.reads c.args.self.now.prevent_indent (is_known c.args.self.now (option_map (λ s. s.now) c.args.asked))
    (asked_file (option_map (λ s. s.now) c.args.asked) (remembered_path c.args.self.now) ++ others (option_map (λ s. s.now) c.args.asked) (files_of c.args.self.now))
    (sym c.is_known.ensures ∙ c.if-not-is_known.false) (λ n. rw c.new-trees.ensures.empty refl)
    (into-then g.R.TemplateReader.reads c.args.self.now.prevent_indent c.in_ok-read_asked.ensures.ok c.in_ok-read_others.ensures.ok) in
    asks-all g.R.TemplateReader.reads c.args.self.now (option_map (λ s. s.now) c.args.asked) all.0 all.1
