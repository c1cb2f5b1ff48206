-- The texts of a build, by the definition of the language.
use Rattle.std.specs.Io.KnownBytes.{Appends}
use Rattle.std.specs.Prelude.{◌≡◌, Bool, not, [], Option, Some, None, Result, Ok, Err}
use Rattle.serde_json.specs.Data.{Data}
use Rattle.handlebars_base.specs.Bytes.{Text}
use Rattle.handlebars_base.specs.Reasons.{Refusal}
use Rattle.handlebars_template.specs.Tree.{Tree}
use Rattle.handlebars_helpers.specs.UserAnswers.{UserAnswers, Registrations}
use Rattle.handlebars_semantics.specs.Means.{render_tree}
use Rattle.handlebars_semantics.specs.State.{State}
use Rattle.handlebars_write.specs.View.{GivesString, StringFails}
use Rattle.handlebars.specs.View.{modes_of, setting_over}
use Rattle.handlebars.specs.declared.registry.RegistryOf.{RegistryOf}
use Rattle.hb_command.specs.Failures.{kind_of}
use Rattle.hb_command.specs.declared.failure.Failure.{Failure}
use Rattle.hb_command.specs.declared.failure.Kind.TheVariants.{Output, OutOfMemory}

module _ {E : Type 0} (registered : E → Registrations) (user : E → UserAnswers) (r : RegistryOf E) where
  -- the state in which a template of an item is rendered: with the registry's lookup, and with escaping or, as names are, raw
  abbrev pub page_state : Bool → State → State
  page_state raw s = record s { recursive = (modes_of r).recursive; escapes = not raw }

  module _ (tree : Tree) (raw : Bool) (given : Option Data) (begins : State) where
    -- There is an item, and over its data and in its state the template gives this text.
    pub record GivesPage (text : Text) : Type 0 where
      pub over : Data
      pub is_given : given ≡ Some over
      pub last : State
      pub gives : GivesString (setting_over registered user r over) (render_tree tree) (page_state raw begins) last text

    -- There is no item, or the rendering over its data fails.
    pub data GivesNoPage : Type 0 where
      no_item : given ≡ None → GivesNoPage
      fails : {over : Data} {q : Refusal} → given ≡ Some over
          → StringFails (setting_over registered user r over) (render_tree tree) (page_state raw begins) q → GivesNoPage

    -- the text of the template for an item, or none
    abbrev pub IsPage : Option Text → Type 0
    IsPage (Some text) = GivesPage text
    IsPage None = GivesNoPage

    -- What is written to an output: all of the text, or nothing if the rendering fails. If the output fails or memory runs out,
    -- nothing is said of it.
    pub data Prints (before after : Option Text) : Result (Unit {0}) Failure → Type 0 where
      printed : {text : Text} {u : Unit {0}} → GivesPage text → Appends before after text → Prints before after (Ok u)
      not_rendered : {f : Failure} → GivesNoPage → Appends before after [] → Prints before after (Err f)
      not_written : {f : Failure} → kind_of f ≡ Output → Prints before after (Err f)
      no_memory : {f : Failure} → kind_of f ≡ OutOfMemory → Prints before after (Err f)
