-- The calls obey the laws of answers.
use Rattle.std.proofs.Common.{List}
use Rattle.serde_json.specs.Data.{Data}
use Rattle.handlebars_base.specs.Bytes.{Text}
use Rattle.handlebars_helpers.specs.UserAnswers.{HaveOne, UserAnswers, Registrations}
use Rattle.handlebars_html.proofs.CheckedAnswers.{keeps_answers_safe}
use Rattle.handlebars_laws.proofs.RenamedRuns.{agrees_by_name}
use Rattle.handlebars_markup.proofs.FixedMarkup.{two_runs}
use Rattle.handlebars_names.proofs.CheckedAnswers.{keeps_answers_known}
use Rattle.handlebars.specs.AnswerLaws.{SourceAnswerLaws, NamedAnswerLaws, ObeysLaws, ObeysLawsByName}
use Rattle.handlebars.specs.Files.{Loaded}
use Rattle.handlebars.specs.View.{options_of}
use Rattle.handlebars.specs.declared.registry.RegistryOf.{RegistryOf}
use Rattle.handlebars.proofs.AnswerLaws.{FromName-one, FromSource-one, has_one_answer, answer_has_origins, answer_stays, named_answer_stays}
use Rattle.handlebars.proofs.OverLaws.{over-lawful}

module _ {E : Type 0} (registered : E → Registrations) (user : E → UserAnswers) (r : RegistryOf E)
    (one : HaveOne (user r.entries)) where
  pub obeys_laws : (source : Text) → ObeysLaws registered user r source
  obeys_laws source d read =
      let lawful = over-lawful registered user r d read one in
      record {
        one = has_one_answer _ lawful _ (FromSource-one _ _);
        origins = answer_has_origins _ _;
        stays = answer_stays _ _;
        agree = two_runs _ lawful _ (FromSource-one _ _);
        safe = keeps_answers_safe _ _;
        known = keeps_answers_known _ _;
        by_name = agrees_by_name _ (options_of r) source;
      }

  pub obeys_laws_by_name : (name : Text) → ObeysLawsByName registered user r name
  obeys_laws_by_name name d read =
      let lawful = over-lawful registered user r d read one in
      record {
        one = has_one_answer _ lawful _ (FromName-one _ _);
        origins = answer_has_origins _ _;
        stays = named_answer_stays _ _;
        agree = two_runs _ lawful _ (FromName-one _ _);
        safe = keeps_answers_safe _ _;
        known = keeps_answers_known _ _;
      }
