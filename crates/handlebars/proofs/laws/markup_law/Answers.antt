use Rattle.handlebars_laws.proofs.CompiledTrees.{compiles_so}
use Rattle.handlebars_laws.proofs.MarkedPieces.{name-indents_are_blank, source-indents_are_blank, name-data_is_no_markup, source-data_is_no_markup}
use Rattle.handlebars.specs.Over.{setting_under}
use Rattle.handlebars.specs.View.{options_of}
use Rattle.handlebars.proofs.laws.markup_law.Goals as goal

pub returns : goal.returns
returns g c = record {
  names = λ r read d name. name-data_is_no_markup c.escape_laws.ensures.unmarked c.escape_laws.ensures.entities
      (setting_under g.E.UserParts.registered g.E.UserParts.user read r d) name;
  sources = λ r read d source.
      source-data_is_no_markup c.escape_laws.ensures.unmarked c.escape_laws.ensures.entities
      (setting_under g.E.UserParts.registered g.E.UserParts.user read r d) (options_of r) source;
  named_indents = λ r read d name.
      name-indents_are_blank (setting_under g.E.UserParts.registered g.E.UserParts.user read r d) name;
  source_indents = λ r read d source.
      source-indents_are_blank (setting_under g.E.UserParts.registered g.E.UserParts.user read r d) (options_of r) source;
  compiled = compiles_so;
}
