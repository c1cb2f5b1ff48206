-- Where an element is, as the code represents it.
use Rattle.std.specs.Prelude.{◌≡◌, ◌++◌, ◌∷◌, [], ℕ, Bool, true, List, Option, map, option_map, slice_get}
use Rattle.handlebars_base.specs.Bytes.{Text}
use Rattle.handlebars_template.specs.TreeView.{position_of}
use Rattle.handlebars_semantics.specs.Emitted.{Kind, Provenance}
use Rattle.handlebars_semantics.specs.Occurrences.{Occurrence, Whereabouts, whereabouts}
use Rattle.handlebars_expand.specs.PiecesView.{template_seen}
use Rattle.handlebars_write.specs.declared.location.ElementLocation.{ElementLocation}
use Rattle.handlebars_write.specs.declared.location.IterationsAround.{IterationsAround, fold-IterationsAround}
use Rattle.handlebars_write.specs.declared.location.IterationsAround.TheOpen.{IterationsAround-F}

-- the indexes of the iterations around an element, outermost first
abbrev pub indexes_layer : IterationsAround-F (List ℕ) → List ℕ
indexes_layer IterationsAround-F.None = []
indexes_layer (IterationsAround-F.Within index outer) = outer.now ++ index ∷ []

abbrev pub indexes_of : IterationsAround → List ℕ
indexes_of = fold-IterationsAround _ indexes_layer

-- where the element is: its position is the one that its tree has at its index, if the tree has one there
abbrev pub whereabouts_in : ElementLocation → Whereabouts
whereabouts_in x = record {
  around = record {
    template = template_seen x.surroundings.now.placement.now.template;
    iterations = indexes_of x.surroundings.now.iterations.now;
  };
  position = slice_get (map position_of x.surroundings.now.mapping.now.items) x.index;
}

-- the indentation in force, if there is one
abbrev pub indent_in : ElementLocation → Option Text
indent_in x = option_map (λ t. t.now) x.surroundings.now.placement.now.indent

-- of this kind and path, from the location of the element
abbrev pub provenance_in : ElementLocation → Kind → Option (List Text) → Provenance
provenance_in x kind path = record { kind = kind; location = whereabouts_in x; path = path }

-- The element at the occurrence is at this location, if pieces are received.
abbrev pub IsAt : Bool → ElementLocation → Occurrence → Type 0
IsAt asks x occurrence = asks ≡ true → whereabouts occurrence ≡ whereabouts_in x
