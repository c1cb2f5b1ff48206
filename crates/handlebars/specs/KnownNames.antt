-- What is said of whether the names are known that a page of a registry uses.
use Rattle.handlebars_base.specs.Bytes.{Text}
use Rattle.handlebars_template.specs.Tree.{Tree}
use Rattle.handlebars_helpers.specs.UserAnswers.{UserAnswers, Registrations}
use Rattle.std.specs.Prelude.{Option}
use Rattle.handlebars_names.specs.Checked.{Says}
use Rattle.handlebars_names.specs.Search.{Page, Verdict}
use Rattle.handlebars.specs.Html.{AreInOrder}
use Rattle.handlebars.specs.Over.{parts_over}
use Rattle.handlebars.specs.View.{stored_tree}
use Rattle.handlebars.specs.declared.registry.RegistryOf.{RegistryOf}

module _ {E : Type 0} (registered : E → Registrations) (user : E → UserAnswers) (trees : Text → Option Tree) (r : RegistryOf E) where
  -- The check says this of a page, with these trees over those of a registry.
  pub record SaysNames (page : Page) (v : Verdict) : Type 0 where
    pub says : Says (parts_over registered user trees r) page v
    pub order : AreInOrder trees (stored_tree r) says.templates
