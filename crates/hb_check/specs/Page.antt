-- The source that includes each page.
use Rattle.std.specs.Prelude.{ℕ, List, [], ◌++◌, None, false, map, slice_get, unwrap_or}
use Rattle.handlebars_base.specs.Bytes.{Text}
use Rattle.handlebars_template.specs.Tree.{Tree, tree, elements_of, Element, partial_block, partial_expression, decorator, args, no_params, no_hash, name, body, empty_tree, no_body}

-- `{{> n}}`
abbrev pub tag_of : Text → Element
tag_of n = partial_expression (decorator (name n) (args no_params no_hash) no_body (record { indent = None; indent_before_write = false }))

-- the tree of a source with the tags of these names, one after the other
abbrev pub including : List Text → Tree
including ns = tree None (elements_of (map tag_of ns)) []

-- `{{#> n}}{{/n}}`
abbrev pub block_tag_of : Text → Element
block_tag_of n =
    partial_block (decorator (name n) (args no_params no_hash) (body empty_tree) (record { indent = None; indent_before_write = false }))

-- The tree of a source that includes each of the first by a tag, and each of the others by a tag with a block: these may be layouts.
abbrev pub including_all : List Text → List Text → Tree
including_all pages others = tree None (elements_of (map tag_of pages ++ map block_tag_of others)) []

-- the name of this index among these, or an empty one
abbrev pub name_at : List Text → ℕ → Text
name_at names i = unwrap_or (slice_get names i) []

abbrev pub names_at : List Text → List ℕ → List Text
names_at names is = map (name_at names) is
