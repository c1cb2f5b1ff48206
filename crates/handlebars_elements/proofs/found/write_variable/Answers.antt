use Rattle.std.proofs.Common.{refl}
use Rattle.handlebars_write.proofs.Refinement.{refines_prog-no_memory}
use Rattle.handlebars_elements.proofs.found.write_variable.Goals as goal

pub returns-in-Err-clause-shows : goal.returns-in-Err-clause-shows
returns-in-Err-clause-shows g c = λ occurrence at found is path given s indent line escapes.
    refines_prog-no_memory _ _ _ refl
