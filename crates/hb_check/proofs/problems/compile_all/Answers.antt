use Rattle.std.proofs.Common.{Bor, [], cond, Some, ap, get_or, refl, take, ◌∙◌}
use Rattle.std.specs.Str.{bytes_eq}
use Rattle.std.proofs.lemmas.List.{take_more}
use Rattle.handlebars_base.specs.Bytes.{Text}
use Rattle.handlebars_template.specs.TreeView.{tree_view}
use Rattle.hb_check.specs.Compiled.{ReportsFiles}
use Rattle.hb_check.specs.Sources.{source_under}
use Rattle.hb_check.specs.declared.question.File.{File}
use Rattle.hb_check.specs.declared.sources.Source.{Source}
use Rattle.hb_check.proofs.Compilations.{files-next, sources-none}
use Rattle.hb_check.proofs.Reports.{adds-none}
use Rattle.hb_check.proofs.problems.compile_all.Goals as goal

pub files-init : goal.files-init
files-init c =
    adds-none (ReportsFiles [] c.new-sources.result) c.args.problems.now.items (sources-none c.new-sources.result c.new-sources.ensures)

pub files-preserved : goal.files-preserved
files-preserved c =
    let nothing : Bor Text = record { ref_ptr = (0, 0); now = [] } in
    let no_file : File = record { name = nothing; path = nothing; text = nothing } in
    let file = get_or c.args.files.now c.files.file-index no_file in
    let source : Source = record { path = file.path; text = file.text; template = c.in_ok-template.template } in
    files-next (take c.files.file-index c.args.files.now) _ file (tree_view c.in_ok-template.template) source c.files.sources c.insert.new.self
    c.args.problems.now.items c.files.problems.items c.compile.new.problems.items
    (take_more c.args.files.now c.files.file-index no_file c.files-test.true) refl
    (λ n. c.in_ok-insert.ensures n ∙ ap (λ (t : Text). cond (bytes_eq t n) (Some source) (source_under c.files.sources n)) c.in_ok-from_str.ensures.ok)
    c.files.invariant c.in_ok-template.ensures
