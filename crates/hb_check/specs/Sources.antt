-- The registered templates, as plain data.
use Rattle.std.specs.BTreeMap.{get_by_text}
use Rattle.std.specs.Prelude.{List, Option, map, string_bytes}
use Rattle.handlebars_base.specs.Bytes.{Text}
use Rattle.handlebars_template.specs.Tree.{Tree}
use Rattle.handlebars_template.specs.TreeView.{tree_view}
use Rattle.handlebars_includes.specs.declared.template.NamedTemplate.{NamedTemplate}
use Rattle.hb_check.specs.declared.sources.Source.{Source}
use Rattle.hb_check.specs.declared.sources.Sources.{Sources}

-- the template under a name
abbrev pub source_under : Sources → Text → Option Source
source_under ss n = get_by_text ss.by_name n

-- all templates, in byte order of name
abbrev pub templates_in : Sources → List (Text × Tree)
templates_in ss = map (λ p. (string_bytes p.0, tree_view p.1.template)) ss.by_name.entries

-- a template with its name
abbrev pub numbered_of : NamedTemplate → Text × Tree
numbered_of t = (t.name.now, tree_view t.template.now)

-- what is registered under a name: where it was read from, its text, and what that compiles to
pub record Registered : Type 0 where
  pub path : Text
  pub text : Text
  pub tree : Tree

abbrev pub registered_of : Source → Registered
registered_of s = record { path = s.path.now; text = s.text.now; tree = tree_view s.template }
