use Rattle.handlebars.proofs.DevLaws.{names-agree, sources-agree}
use Rattle.handlebars.proofs.MetPremises.{holds-loaded}
use Rattle.handlebars.proofs.laws.dev_mode_law.Goals as goal

pub returns-clause-names : goal.returns-clause-names
returns-clause-names g c = λ dev plain read d holds. names-agree g.E.UserParts.registered g.E.UserParts.user d read dev plain holds

pub returns-clause-sources : goal.returns-clause-sources
returns-clause-sources g c = λ dev plain read d holds. sources-agree g.E.UserParts.registered g.E.UserParts.user d read dev plain holds

pub returns-clause-loaded : goal.returns-clause-loaded
returns-clause-loaded g c = λ dev plain read loaded. holds-loaded dev plain read loaded
