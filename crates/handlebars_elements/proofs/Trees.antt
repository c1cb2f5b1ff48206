-- Elements of a tree: where each of them is, and what an error within it becomes.
use Rattle.std.proofs.Common.{◌≡◌, Bool, true, None, refl, sym, ap, ◌∙◌}
use Rattle.handlebars_base.specs.Reasons.{out_of_memory}
use Rattle.handlebars_base.specs.RenderRefusals.{reason_in}
use Rattle.handlebars_base.specs.declared.error.render_error.RenderError.{RenderError}
use Rattle.handlebars_semantics.specs.Emitted.{provenance, template_text}
use Rattle.handlebars_semantics.specs.Occurrences.{Around, Occurrence, TreeOccurrence, Whereabouts, element_in}
use Rattle.handlebars_semantics.specs.Pieces.{of_text}
use Rattle.handlebars_semantics.specs.Steps.{Task}
use Rattle.handlebars_values.specs.View.{within}
use Rattle.handlebars_values.specs.declared.environment.Environment as declared
use Rattle.handlebars_write.specs.LocationView.{indent_in, provenance_in, whereabouts_in}
use Rattle.handlebars_write.specs.declared.location.ElementLocation.{ElementLocation}
use Rattle.handlebars_write.proofs.Refinement.{IsMarked}
use Rattle.handlebars_elements.specs.View.{KnowsAround, KnowsElement, KnowsLocation, around_in}

-- an element of a tree
pub element-known : {P : Type 0} {asks : Bool} {x : declared.Environment P} (at : TreeOccurrence) (l : ElementLocation)
    → indent_in l ≡ (within x).indent → (whereabouts_in l).around ≡ around_in x → KnowsAround asks x at
    → KnowsLocation asks x l (element_in at l.index (whereabouts_in l).position)
element-known at l indent around known = record {
  indent = indent;
  around = around;
  location = λ is. ap (λ (z : Around). record { around = z; position = (whereabouts_in l).position }) (known is ∙ sym around);
}

-- what is around an element whose location is known
pub element-around : {P : Type 0} {asks : Bool} {x : declared.Environment P} {l : ElementLocation} {occurrence : Occurrence}
    → KnowsLocation asks x l occurrence → KnowsElement asks x occurrence
element-around known is = ap (λ (z : Whereabouts). z.around) (known.location is) ∙ known.around

-- the text of an element has its location
pub text-from : {P : Type 0} {asks : Bool} {x : declared.Environment P} {l : ElementLocation} {occurrence : Occurrence}
    → KnowsLocation asks x l occurrence → asks ≡ true → provenance (of_text occurrence) ≡ provenance_in l template_text None
text-from known is = ap (λ (z : Whereabouts). record { kind = template_text; location = z; path = None }) (known.location is)

-- an error that is out of memory has every mark
pub memory-marks : (t : Task) (e : RenderError) → reason_in e ≡ out_of_memory → IsMarked t e e
memory-marks t e memory = record {
  location = λ other. absurd (other memory);
  cause = λ _. refl;
  memory = λ is. is;
}
