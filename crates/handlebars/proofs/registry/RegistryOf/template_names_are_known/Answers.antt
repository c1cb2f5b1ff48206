use Rattle.std.proofs.lemmas.Result.{err_from_is_err_and}
use Rattle.handlebars_base.specs.TemplateRefusals.{template_refusal_of}
use Rattle.handlebars_template.specs.TreeView.{tree_view}
use Rattle.handlebars_semantics.specs.Answer.{compiles}
use Rattle.handlebars_names.specs.NamesView.{verdict_of}
use Rattle.handlebars_names.specs.Search.{a_source}
use Rattle.handlebars.proofs.Asks.{asks-nothing}
use Rattle.handlebars.proofs.NamesRead.{says-read}
use Rattle.handlebars.proofs.OverLaws.{source-fails-at-file, source-rejected}
use Rattle.handlebars.proofs.registry.RegistryOf.template_names_are_known.Goals as goal

pub returns-in_err-template-clause-err : goal.returns-in_err-template-clause-err
returns-in_err-template-clause-err g c = source-rejected _ _ _ _ _ _ (template_refusal_of c.in_err-template.field-0.0) c.from_residual.result
    c.in_err-template.ensures.err c.from_residual.ensures.1

pub returns-in_err-template-clause-asks : goal.returns-in_err-template-clause-asks
returns-in_err-template-clause-asks g c = asks-nothing g.R.TemplateReader.reads c.args.self.now _ c.args.files.now

pub returns-in_err-read-clause-err : goal.returns-in_err-read-clause-err
returns-in_err-read-clause-err g c =
    let p = err_from_is_err_and c.from_residual-in_err-read.result c.from_residual-in_err-read.ensures.1 in
    rw (p.1, p.2) (λ other. source-fails-at-file _ _ _ _ _ (tree_view c.in_ok-template.template) _ _ c.in_err-read.field-0.0
    c.in_ok-template.ensures.ok c.in_err-read.ensures.err)

pub returns-clause-ok : goal.returns-clause-ok
returns-clause-ok g c =
    let all = c.in_ok-read.ensures.ok in
    record {
      read = all.0;
      reads_all = all.1;
      holds = (
        tree_view c.in_ok-template.template,
        compiles c.in_ok-template.ensures.ok,
        says-read g.E.UserParts.registered g.E.UserParts.user c.args.self.now (a_source (tree_view c.in_ok-template.template))
            (verdict_of c.in_ok-verdict.verdict) all.0 c.in_ok-read.read all.2 c.in_ok-verdict.ensures,
      );
    }
