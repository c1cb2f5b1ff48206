-- What a registry and its contexts stand for.
use Rattle.std.specs.BTreeMap.{get_by_text}
use Rattle.std.specs.Prelude.{ℕ, Bool, true, Option, None, Some, option_map}
use Rattle.serde_json.specs.Data.{Data}
use Rattle.handlebars_base.specs.Bytes.{Text}
use Rattle.handlebars_lexer.specs.Options.{Options}
use Rattle.handlebars_template.specs.Tree.{Tree}
use Rattle.handlebars_template.specs.TreeView.{tree_view}
use Rattle.handlebars_scope.specs.Contexts.{data_of}
use Rattle.handlebars_scope.specs.declared.context.Context.{Context}
use Rattle.handlebars_helpers.specs.UserAnswers.{UserAnswers, Registrations}
use Rattle.handlebars_semantics.specs.State.{Parts, Setting}
use Rattle.handlebars.specs.declared.registry.RegistryOf.{RegistryOf}

-- The modes of a registry: whether it is strict, whether lookup is recursive, whether partials add no indentation, and how
-- many partials may be nested.
pub record Modes : Type 0 where
  pub strict : Bool
  pub recursive : Bool
  pub prevent_indent : Bool
  pub limit : ℕ

-- how sources of this name are compiled
abbrev pub registered_options : Bool → Text → Options
registered_options prevent_indent name = record { name = Some name; prevent_indent = prevent_indent; sections = true }

module _ {E : Type 0} where
  abbrev pub modes_of : RegistryOf E → Modes
  modes_of r = record {
    strict = r.strict_mode;
    recursive = r.recursive_lookup;
    prevent_indent = r.prevent_indent;
    limit = r.inclusion_limit;
  }

  -- the tree under a name, if there is one
  abbrev pub stored_tree : RegistryOf E → Text → Option Tree
  stored_tree r name = option_map tree_view (get_by_text r.templates name)

  -- how a registry compiles sources that have no name
  abbrev pub options_of : RegistryOf E → Options
  options_of r = record { name = None; prevent_indent = r.prevent_indent; sections = true }

  -- What a run reads: what is registered under the names of a registry's entries, and what user-defined parts answer.
  module _ (registered : E → Registrations) (user : E → UserAnswers) where
    abbrev pub parts_of : RegistryOf E → Parts
    parts_of r = record {
      helper = (registered r.entries).helper;
      user = (user r.entries).helper;
      decorator = (registered r.entries).decorator;
      user_decorator = (user r.entries).decorator;
      escape = (registered r.entries).escape;
      user_escape = (user r.entries).escape;
      strict = r.strict_mode;
      recursive = r.recursive_lookup;
      sections = true;
      template = stored_tree r;
      limit = r.inclusion_limit;
    }

    -- the setting of a run, with a registry and over data
    abbrev pub setting_over : RegistryOf E → Data → Setting
    setting_over r d = record { given = d; parts = parts_of r }

    -- the same over a context
    abbrev pub setting_of : RegistryOf E → Context → Setting
    setting_of r c = record { given = data_of c; parts = parts_of r }
