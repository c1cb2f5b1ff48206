use Rattle.std.proofs.lemmas.Result.{err_from_is_err_and}
use Rattle.handlebars_names.specs.NamesView.{verdict_of}
use Rattle.handlebars_names.specs.Search.{a_template}
use Rattle.handlebars.proofs.NamesRead.{says-read}
use Rattle.handlebars.proofs.OverLaws.{fails-at-file}
use Rattle.handlebars.proofs.registry.RegistryOf.names_are_known.Goals as goal

pub returns-in_err-read-clause-err : goal.returns-in_err-read-clause-err
returns-in_err-read-clause-err g c =
    let p = err_from_is_err_and c.from_residual.result c.from_residual.ensures.1 in
    rw (p.1, p.2) (λ other. fails-at-file _ _ _ _ _ _ c.in_err-read.field-0.0 c.in_err-read.ensures.err)

pub returns-clause-ok : goal.returns-clause-ok
returns-clause-ok g c =
    let all = c.in_ok-read.ensures.ok in
    record {
      read = all.0;
      reads_all = all.1;
      holds = says-read g.E.UserParts.registered g.E.UserParts.user c.args.self.now (a_template c.args.name.now) (verdict_of c.in_ok-verdict.verdict) all.0
          c.in_ok-read.read all.2 c.in_ok-verdict.ensures;
    }
