-- An answer in dev mode is that of a registry without it that holds the trees that were read.
use mathlib.Core.Path.{fun_ext}
use Rattle.std.proofs.Common.{◌≡◌, true, List, Option, None, sym, ap, ◌∙◌, subst}
use Rattle.serde_json.specs.Data.{Data}
use Rattle.handlebars_base.specs.Bytes.{Text}
use Rattle.handlebars_lexer.specs.Options.{Options}
use Rattle.handlebars_template.specs.Tree.{Tree}
use Rattle.handlebars_helpers.specs.UserAnswers.{UserAnswers, Registrations}
use Rattle.handlebars_semantics.specs.Answer.{Beginning, FromName, FromSource}
use Rattle.handlebars_semantics.specs.State.{Setting}
use Rattle.handlebars.specs.Dev.{stored_under}
use Rattle.handlebars.specs.Files.{Loaded}
use Rattle.handlebars.specs.Over.{HoldsRead, SameAnswers, setting_under}
use Rattle.handlebars.specs.View.{Modes, modes_of, options_of, setting_over, stored_tree}
use Rattle.handlebars.specs.declared.registry.RegistryOf.{RegistryOf}

module _ {E : Type 0} (registered : E → Registrations) (user : E → UserAnswers) (d : Data) (read : List Loaded) (dev plain : RegistryOf E)
    (holds : HoldsRead read dev plain) where
  setting_from : E → Modes → (Text → Option Tree) → Setting
  setting_from e m template = record {
    given = d;
    parts = record {
      helper = (registered e).helper;
      user = (user e).helper;
      decorator = (registered e).decorator;
      user_decorator = (user e).decorator;
      escape = (registered e).escape;
      user_escape = (user e).escape;
      strict = m.strict;
      recursive = m.recursive;
      sections = true;
      template = template;
      limit = m.limit;
    };
  }

  trees-same : stored_under read dev ≡ stored_tree plain
  trees-same = fun_ext (λ n. sym (holds.trees n))

  setting-same : setting_under registered user read dev d ≡ setting_over registered user plain d
  unfolding setting_from
  setting-same =
      ap (λ (e : E). setting_from e (modes_of dev) (stored_under read dev)) (sym holds.entries)
      ∙ ap (λ (m : Modes). setting_from plain.entries m (stored_under read dev)) (sym holds.modes)
      ∙ ap (λ (f : Text → Option Tree). setting_from plain.entries (modes_of plain) f) trees-same

  options-same : options_of dev ≡ options_of plain
  options-same = ap (λ (m : Modes). record { name = None; prevent_indent = m.prevent_indent; sections = true }) (sym holds.modes)

  abbrev AnswersAgree : (Beginning → Type 0) → (Beginning → Type 0) → Type 0
  AnswersAgree begins starts = SameAnswers (setting_under registered user read dev d) begins (setting_over registered user plain d) starts

  begun-agree : (begins : Beginning → Type 0) → AnswersAgree begins begins
  begun-agree begins =
      subst (λ (q : Setting). SameAnswers (setting_under registered user read dev d) begins q begins) setting-same
      (record { to = λ ps o a. a; from = λ ps o a. a })

  pub names-agree : (name : Text) → AnswersAgree (FromName (stored_under read dev) name) (FromName (stored_tree plain) name)
  names-agree name =
      subst (λ (f : Text → Option Tree). AnswersAgree (FromName (stored_under read dev) name) (FromName f name)) trees-same
      (begun-agree (FromName (stored_under read dev) name))

  pub sources-agree : (source : Text) → AnswersAgree (FromSource (options_of dev) source) (FromSource (options_of plain) source)
  sources-agree source =
      subst (λ (o : Options). AnswersAgree (FromSource (options_of dev) source) (FromSource o source)) options-same
      (begun-agree (FromSource (options_of dev) source))
