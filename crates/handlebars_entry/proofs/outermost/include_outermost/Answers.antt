use Rattle.std.proofs.Common.{refl}
use Rattle.handlebars_expand.specs.Boxed.{error_of}
use Rattle.handlebars_expand.specs.declared.boxed.BoxedError.TheVariants.{OutOfMemory}
use Rattle.handlebars_write.proofs.Refinement.{refines_prog-no_memory}
use Rattle.handlebars_entry.proofs.outermost.include_outermost.Goals as goal

pub returns-in_default-clause-renders : goal.returns-in_default-clause-renders
returns-in_default-clause-renders g c = λ occurrence. refines_prog-no_memory _ _ (error_of OutOfMemory) refl
