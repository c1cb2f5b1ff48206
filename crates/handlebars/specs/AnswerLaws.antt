-- The laws that the answer of a call obeys, whatever the call returns.
use Rattle.std.specs.Prelude.{List, Option}
use Rattle.serde_json.specs.Data.{Data}
use Rattle.handlebars_base.specs.Bytes.{Text}
use Rattle.handlebars_helpers.specs.UserAnswers.{UserAnswers, Registrations}
use Rattle.handlebars_lexer.specs.Options.{Options}
use Rattle.handlebars_semantics.specs.Answer.{FromSource, FromName, HasOneAnswer, AnswerHasOrigins, AgreesByName, AnswerStays, NamedAnswerStays}
use Rattle.handlebars_semantics.specs.State.{Setting}
use Rattle.handlebars_html.specs.Checked.{KeepsAnswersSafe}
use Rattle.handlebars_markup.specs.TwoRuns.{HasFixedMarkup}
use Rattle.handlebars_names.specs.Checked.{KeepsAnswersKnown}
use Rattle.handlebars.specs.Files.{Loaded}
use Rattle.handlebars.specs.Over.{setting_under}
use Rattle.handlebars.specs.View.{options_of}
use Rattle.handlebars.specs.declared.registry.RegistryOf.{RegistryOf}

-- There is at most one answer by the source; each of its pieces has an origin; it is independent of what it does not ask for;
-- if all templates are blind, its markup is independent of the strings in the data; if the check of HTML finds no fault, data
-- stands only where it may; if the check of names finds none, it fails only for what is still possible; and it agrees with the
-- answer by each name under which that source is registered, both ways.
pub record SourceAnswerLaws (p : Setting) (options : Options) (source : Text) : Type 0 where
  pub one : HasOneAnswer p (FromSource options source)
  pub origins : AnswerHasOrigins p (FromSource options source)
  pub stays : AnswerStays p (FromSource options source)
  pub agree : HasFixedMarkup p (FromSource options source)
  pub safe : KeepsAnswersSafe p (FromSource options source)
  pub known : KeepsAnswersKnown p (FromSource options source)
  pub by_name : AgreesByName p options source

-- There is at most one answer by the name; each of its pieces has an origin; it is independent of what it does not ask for, and
-- agrees with the answer by the source of that template, both ways; if all templates are blind, its markup is independent of the
-- strings in the data; if the check of HTML finds no fault, data stands only where it may; and if the check of names finds none,
-- it fails only for what is still possible.
pub record NamedAnswerLaws (p : Setting) (name : Text) : Type 0 where
  pub one : HasOneAnswer p (FromName p.parts.template name)
  pub origins : AnswerHasOrigins p (FromName p.parts.template name)
  pub stays : NamedAnswerStays p name
  pub agree : HasFixedMarkup p (FromName p.parts.template name)
  pub safe : KeepsAnswersSafe p (FromName p.parts.template name)
  pub known : KeepsAnswersKnown p (FromName p.parts.template name)

-- The laws of the calls by a source and by a name, over any data and with the trees of any files that were read.
module _ {E : Type 0} (registered : E → Registrations) (user : E → UserAnswers) (r : RegistryOf E) where
  abbrev pub ObeysLaws : Text → Type 0
  ObeysLaws source = (d : Data) (read : List Loaded)
      → SourceAnswerLaws (setting_under registered user read r d) (options_of r) source

  abbrev pub ObeysLawsByName : Text → Type 0
  ObeysLawsByName name = (d : Data) (read : List Loaded) → NamedAnswerLaws (setting_under registered user read r d) name
