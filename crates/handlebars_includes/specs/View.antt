-- How the definitions view the code's values.
use Rattle.std.specs.Prelude.{◌≡◌, Bool, List, ◌++◌, map, Option, option_map}
use Rattle.std.specs.Prelude.{Vec}
use Rattle.std.specs.declared.alloc.Global.{Global}
use denote.Ref.{Bor}
use Rattle.handlebars_base.specs.Bytes.{Text}
use Rattle.handlebars_template.specs.Position.{Position}
use Rattle.handlebars_template.specs.Tree.{Tree}
use Rattle.handlebars_template.specs.TreeView.{position_of, tree_view}
use Rattle.handlebars_template.specs.declared.template.tree.TemplateMapping.{TemplateMapping}
use Rattle.handlebars_includes.specs.Circles as circles
use Rattle.handlebars_includes.specs.Graph as graph
use Rattle.handlebars_includes.specs.Mentions as mentions
use Rattle.handlebars_includes.specs.declared.circles.Circle.{Circle}
use Rattle.handlebars_includes.specs.declared.includes.Includes.{Includes}
use Rattle.handlebars_includes.specs.declared.includes.Inclusion.{Inclusion}
use Rattle.handlebars_includes.specs.declared.mention.Mention.{Mention}
use Rattle.handlebars_includes.specs.declared.mention.Mention.TheVariants as mention
use Rattle.handlebars_includes.specs.declared.template.NamedTemplate.{NamedTemplate}

abbrev pub name_of : NamedTemplate → Text
name_of t = t.name.now

abbrev pub tree_of : NamedTemplate → Tree
tree_of t = tree_view t.template.now

-- the position of a tag, if it has one
abbrev pub position_in : Option TemplateMapping → Option Position
position_in p = option_map position_of p

abbrev pub text_in : Option (Bor Text) → Option Text
text_in s = option_map (λ t. t.now) s

abbrev pub mention_of : Mention → mentions.Mention
mention_of (mention.Includes n p always) = mentions.includes n.now (position_in p) always
mention_of (mention.Sets n) = mentions.sets (text_in n)

-- These mentions are added, in order, to those that there were.
abbrev pub AddsMentions : List Mention → List Mention → List mentions.Mention → Type 0
AddsMentions before after found = map mention_of after ≡ map mention_of before ++ found

abbrev pub inclusion_view : Inclusion → graph.Inclusion
inclusion_view x = record { target = x.target; position = position_in x.position; always = x.always }

abbrev pub row_view : Vec Inclusion Global → List graph.Inclusion
row_view v = map inclusion_view v.items

abbrev pub rows : List (Vec Inclusion Global) → graph.Graph
rows vs = map row_view vs

abbrev pub graph_view : Includes → graph.Graph
graph_view x = rows x.graph.items

-- whether an inline partial may take the place of a template
abbrev pub replaced_of : Includes → Bool
replaced_of x = x.replaced

abbrev pub tag_of : Circle → circles.Tag
tag_of x = record { template = x.template; inclusion = inclusion_view x.inclusion }

-- Tags of which this holds are added, in order, to those that there were.
abbrev pub AddsTags : (List circles.Tag → Type 0) → List Circle → List Circle → Type 0
AddsTags P before after = (ts : List circles.Tag) × P ts × (map tag_of after ≡ map tag_of before ++ ts)
