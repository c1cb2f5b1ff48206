-- Which files are asked for, whatever the call returns.
use Rattle.std.proofs.Common.{List, [], Option, Result, Ok, Err, String, Global}
use Rattle.std.specs.declared.io.Error.{Error}
use Rattle.handlebars_base.specs.Bytes.{Text}
use Rattle.handlebars_base.specs.declared.error.template_error.TemplateError.{TemplateError}
use Rattle.handlebars.specs.Dev.{AsksFor, FailsReading, ReadsFiles, files_for, alloc_fails}
use Rattle.handlebars.specs.Files.{Loaded, no_memory}
use Rattle.handlebars.specs.declared.registry.RegistryOf.{RegistryOf}

module _ {S : Type 0} (reads : S → Text → Result (String Global) Error → S → Type 0) {E : Type 0} (r : RegistryOf E)
    (asked : Option Text) where
  pub asks-nothing : (s : S) → AsksFor reads r asked s s
  asks-nothing s = record { read = []; end = Err no_memory; reads_up_to = alloc_fails }

  pub asks-all : {before after : S} (read : List Loaded)
      → ReadsFiles reads r.prevent_indent (files_for r asked) before read (Ok tt) after → AsksFor reads r asked before after
  asks-all read all = record { read = read; end = Ok tt; reads_up_to = all }

  pub asks-up-to : {before after : S} {e : TemplateError} → FailsReading reads r.prevent_indent (files_for r asked) before after e
      → AsksFor reads r asked before after
  asks-up-to x = record { read = x.read; end = Err x.why; reads_up_to = x.reads_up_to }
