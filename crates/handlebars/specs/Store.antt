-- What a registry stores under names.
use Rattle.std.specs.Prelude.{◌≡◌, Option, None, Some, cond}
use Rattle.std.specs.Str.{bytes_eq}
use Rattle.handlebars_base.specs.Bytes.{Text}
use Rattle.handlebars_template.specs.Tree.{Tree}
use Rattle.handlebars_helpers.specs.ByNameView.{HasSame, PutsEntry}
use Rattle.handlebars_helpers.specs.declared.decorators.entry.DecoratorEntryOf.{DecoratorEntryOf}
use Rattle.handlebars_helpers.specs.declared.entries.Entries.{Entries}
use Rattle.handlebars_helpers.specs.declared.escape.EscapeKindOf.{EscapeKindOf}
use Rattle.handlebars_helpers.specs.declared.user.entry.HelperEntryOf.{HelperEntryOf}
use Rattle.handlebars.specs.View.{modes_of, stored_tree}
use Rattle.handlebars.specs.declared.registry.RegistryOf.{RegistryOf}

-- ---- templates

module _ {E : Type 0} where
  -- The tree is registered under the name now; what is registered under other names is unchanged.
  abbrev pub Stores : RegistryOf E → RegistryOf E → Text → Tree → Type 0
  Stores old new name t = (other : Text) → stored_tree new other ≡ cond (bytes_eq name other) (Some t) (stored_tree old other)

  -- What is registered under each name is unchanged.
  abbrev pub HasSameTemplates : RegistryOf E → RegistryOf E → Type 0
  HasSameTemplates old new = (name : Text) → stored_tree new name ≡ stored_tree old name

  -- No tree is registered under the name now; what is registered under other names is unchanged.
  abbrev pub TakesTemplate : RegistryOf E → RegistryOf E → Text → Type 0
  TakesTemplate old new name = (other : Text) → stored_tree new other ≡ cond (bytes_eq name other) None (stored_tree old other)

-- ---- helpers, decorators and modes

module _ {B F D G X : Type 0} (old new : RegistryOf (Entries B F D G X)) where
  -- Nothing that a run reads is changed.
  pub record HasSameParts : Type 0 where
    pub helpers : HasSame old.entries.helpers new.entries.helpers
    pub decorators : HasSame old.entries.decorators new.entries.decorators
    pub escape : new.entries.escape ≡ old.entries.escape
    pub modes : modes_of new ≡ modes_of old

  -- The helper, or none, is registered under the name now; what is registered under other names, and all else, is unchanged.
  pub record PutsHelper (name : Text) (entry : Option (HelperEntryOf B F)) : Type 0 where
    pub helpers : PutsEntry old.entries.helpers new.entries.helpers name entry
    pub decorators : HasSame old.entries.decorators new.entries.decorators
    pub escape : new.entries.escape ≡ old.entries.escape
    pub modes : modes_of new ≡ modes_of old

  -- The decorator, or none, is registered under the name now; what is registered under other names, and all else, is
  -- unchanged.
  pub record PutsDecorator (name : Text) (entry : Option (DecoratorEntryOf D G)) : Type 0 where
    pub helpers : HasSame old.entries.helpers new.entries.helpers
    pub decorators : PutsEntry old.entries.decorators new.entries.decorators name entry
    pub escape : new.entries.escape ≡ old.entries.escape
    pub modes : modes_of new ≡ modes_of old

  -- Values are escaped by this function now; all else is unchanged.
  pub record PutsEscape (escape_fn : EscapeKindOf X) : Type 0 where
    pub helpers : HasSame old.entries.helpers new.entries.helpers
    pub decorators : HasSame old.entries.decorators new.entries.decorators
    pub escape : new.entries.escape ≡ escape_fn
    pub modes : modes_of new ≡ modes_of old
