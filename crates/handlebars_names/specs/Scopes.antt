-- What is known where an element is rendered: which inline partials can be found there, and whether a block was captured.
use Rattle.std.specs.Prelude.{ℕ, zero, suc, Bool, false, not, ◌&&◌, ◌||◌, if◌then◌else◌, List, [], ◌∷◌, ◌++◌, Option, None, Some}
use Rattle.std.specs.List.{list_all}
use Rattle.std.specs.Str.{bytes_eq}
use Rattle.handlebars_base.specs.Bytes.{Text}
use Rattle.handlebars_base.specs.Optional.{with_or}
use Rattle.handlebars_template.specs.Tree.{Tree, tree_elements, Elements, no_elements, element, Element, decorator_expression, decorator_block, Decorator, decorator}
use Rattle.handlebars_html.specs.Ascii.{is_one_of}
use Rattle.handlebars_html.specs.Rule.{inline_name}

-- These inline partials are set, and whether the block of an inclusion was captured, which `@partial-block` writes. There may
-- be more than is known.
pub record Scope : Type 0 where
  pub partials : List Text
  pub block : Bool

-- where a page begins
abbrev pub first_scope : Scope
first_scope = record { partials = []; block = false }

abbrev pub without_block : Scope → Scope
without_block h = record h { block = false }

-- All that the first says is known in the second.
abbrev pub covers : Scope → Scope → Bool
covers h g = list_all (is_one_of g.partials) h.partials && (not h.block || g.block)

-- ---- what elements set

-- The tag of an inline partial sets it, if its name is written. Any decorator's tag counts as one: another decorator is a fault.
abbrev pub after_decorator : Decorator → Scope → Scope
after_decorator (decorator n xs b marks) h = with_or (inline_name xs) (λ m. record h { partials = h.partials ++ m ∷ [] }) h

-- No other element sets any for what comes behind it.
abbrev pub after_element : Element → Scope → Scope
after_element (decorator_expression t) h = after_decorator t h
after_element (decorator_block t) h = after_decorator t h
after_element e h = h

-- after so many elements
abbrev pub after_first : ℕ → Elements → Scope → Scope
after_first zero es h = h
after_first (suc i) no_elements h = h
after_first (suc i) (element e es) h = after_first i es (after_element e h)

abbrev pub after_elements : Elements → Scope → Scope
after_elements no_elements h = h
after_elements (element e es) h = after_elements es (after_element e h)

abbrev pub after_tree : Tree → Scope → Scope
after_tree t h = after_elements (tree_elements t) h

-- ---- tables

-- A name that may be included, with what is known wherever it is.
pub record Entry : Type 0 where
  pub name : Text
  pub scope : Scope

-- what is known wherever this name is included, if it is in the table
abbrev pub scope_at : List Entry → Text → Option Scope
scope_at [] n = None
scope_at (x ∷ xs) n = if bytes_eq x.name n then Some x.scope else scope_at xs n
