use Rattle.std.proofs.lemmas.Result.{err_from_is_err_and}
use Rattle.handlebars_base.specs.TemplateRefusals.{template_refusal_of}
use Rattle.handlebars_template.specs.TreeView.{tree_view}
use Rattle.handlebars.specs.View.{options_of}
use Rattle.handlebars.proofs.Asks.{asks-nothing}
use Rattle.handlebars.proofs.MarkupRead.{reported-by-source}
use Rattle.handlebars.proofs.OverLaws.{source-fails-at-file, source-rejected}
use Rattle.handlebars.proofs.registry.RegistryOf.template_markup_faults.Goals as goal

pub returns-in_err-template-clause-err : goal.returns-in_err-template-clause-err
returns-in_err-template-clause-err g c = source-rejected _ _ _ _ _ _ (template_refusal_of c.in_err-template.field-0.0) c.from_residual.result
    c.in_err-template.ensures.err c.from_residual.ensures.1

pub returns-in_err-template-clause-asks : goal.returns-in_err-template-clause-asks
returns-in_err-template-clause-asks g c = asks-nothing g.R.TemplateReader.reads c.args.self.now _ c.args.files.now

pub returns-in_err-read-clause-err : goal.returns-in_err-read-clause-err
returns-in_err-read-clause-err g c =
    let p = err_from_is_err_and c.from_residual-in_err-read.result c.from_residual-in_err-read.ensures.1 in
    rw (p.1, p.2) (λ other. source-fails-at-file _ _ _ _ _ (tree_view c.in_ok-template.template) _ _ c.in_err-read.field-0.0
    c.in_ok-template.ensures.ok c.in_err-read.ensures.err)

pub returns-clause-ok : goal.returns-clause-ok
returns-clause-ok g c =
    let all = c.in_ok-read.ensures.ok in
    let found = c.in_ok-check_registered.ensures in
    record {
      read = all.0;
      reads_all = all.1;
      holds = reported-by-source g.E.UserParts.registered g.E.UserParts.user c.args.self.now (options_of c.args.self.now) c.args.source.now
          (tree_view c.in_ok-template.template) all.0 c.in_ok-read.read c.new-faults.result.items c.check_template.new.faults.items
          c.check_registered.new.faults.items found.0 c.in_ok-template.ensures.ok all.2 c.new-faults.ensures.items
          c.in_ok-check_template.ensures found.1 found.2;
    }
