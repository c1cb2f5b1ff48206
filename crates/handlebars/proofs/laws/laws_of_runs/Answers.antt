use Rattle.handlebars_laws.proofs.LeftAround.{leaves_around}
use Rattle.handlebars_laws.proofs.RunLaws.{Runs-one, Runs-beginning}
use Rattle.handlebars_laws.proofs.Once.{comes_once}
use Rattle.handlebars_laws.proofs.RunOrigins.{all_have_origins, comes_in_trees, element_has_origins}
use Rattle.handlebars_laws.proofs.OtherTemplates.{only_named_count, same_under_larger}
use Rattle.handlebars_laws.proofs.Sections.{runs_stay}
use Rattle.handlebars.specs.View.{setting_of}
use Rattle.handlebars.proofs.UserLaws.{parts-lawful}
use Rattle.handlebars.proofs.laws.laws_of_runs.Goals as goal

pub returns : goal.returns
returns g c =
    let p = setting_of g.E.UserParts.registered g.E.UserParts.user c.args.registry.now c.args.context.now in
    let lawful = parts-lawful g.E.UserParts.registered g.E.UserParts.user c.args.registry.now c.satisfies_law.ensures in
    record {
      one = λ k s ps qs o q a b h g. Runs-one lawful a b h g;
      beginning = λ k s ps qs o q a b h g. Runs-beginning lawful a b h g;
      once = comes_once p;
      origins = all_have_origins p;
      element = element_has_origins p;
      trees = comes_in_trees p;
      around = leaves_around p;
      larger = same_under_larger p;
      named = only_named_count p;
      sections = runs_stay p;
    }
