-- What a run reads if trees that were read are overlaid on those of a registry.
use Rattle.std.specs.Prelude.{◌≡◌, List, Option}
use Rattle.serde_json.specs.Data.{Data}
use Rattle.handlebars_base.specs.Bytes.{Text}
use Rattle.handlebars_template.specs.Tree.{Tree}
use Rattle.handlebars_helpers.specs.UserAnswers.{UserAnswers, Registrations}
use Rattle.handlebars_semantics.specs.Answer.{Beginning, FromName, FromSource, RenderAnswers}
use Rattle.handlebars_semantics.specs.Laws.{with_templates}
use Rattle.handlebars_semantics.specs.Pieces.{Piece}
use Rattle.handlebars_semantics.specs.Runs.{Outcome}
use Rattle.handlebars_semantics.specs.State.{Parts, Setting}
use Rattle.handlebars.specs.Dev.{stored_under}
use Rattle.handlebars.specs.Files.{Loaded, overlaid_on}
use Rattle.handlebars.specs.View.{modes_of, options_of, parts_of, setting_over, stored_tree}
use Rattle.handlebars.specs.declared.registry.RegistryOf.{RegistryOf}

module _ {E : Type 0} (registered : E → Registrations) (user : E → UserAnswers) where
  -- what a run reads, with these trees over those of a registry
  abbrev pub parts_over : (Text → Option Tree) → RegistryOf E → Parts
  parts_over trees r = record (parts_of registered user r) { template = overlaid_on trees (stored_tree r) }

  -- the setting of a run over data, with these trees over those of a registry
  abbrev pub setting_with : (Text → Option Tree) → RegistryOf E → Data → Setting
  setting_with trees r d = with_templates (overlaid_on trees (stored_tree r)) (setting_over registered user r d)

  -- the same with trees that were read
  abbrev pub setting_under : List Loaded → RegistryOf E → Data → Setting
  setting_under read r d = with_templates (stored_under read r) (setting_over registered user r d)

-- What is said of a rendering, as `GivesText` is, is said of what the rendering reads and of what it begins with. So it is said
-- of a registry's rendering over data, with trees that were read.
module _ {X : Type 1} (Says : Setting → (Beginning → Type 0) → X) {E : Type 0} (registered : E → Registrations)
    (user : E → UserAnswers) (r : RegistryOf E) where
  -- of the template under a name
  abbrev pub ForName : Text → List Loaded → Data → X
  ForName name read d = Says (setting_under registered user read r d) (FromName (stored_under read r) name)

  -- of a source
  abbrev pub ForSource : Text → List Loaded → Data → X
  ForSource source read d = Says (setting_under registered user read r d) (FromSource (options_of r) source)

-- Renderings have the same answers: each one has the pieces and the outcome of an answer of the other.
pub record SameAnswers (p : Setting) (begins : Beginning → Type 0) (q : Setting) (starts : Beginning → Type 0) : Type 0 where
  pub to : (ps : List Piece) (o : Outcome) → RenderAnswers p begins ps o → RenderAnswers q starts ps o
  pub from : (ps : List Piece) (o : Outcome) → RenderAnswers q starts ps o → RenderAnswers p begins ps o

-- A registry holds the trees that were read, overlaid on those of one in dev mode; all else is the same.
pub record HoldsRead {E : Type 0} (read : List Loaded) (dev plain : RegistryOf E) : Type 0 where
  pub entries : plain.entries ≡ dev.entries
  pub modes : modes_of plain ≡ modes_of dev
  pub trees : (name : Text) → stored_tree plain name ≡ stored_under read dev name
