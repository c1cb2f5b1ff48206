-- The outcome of loading a file.
use Rattle.std.proofs.Common.{◌≡◌, ◌≢◌, Bool, Result, Ok, Err, String, Global, refl, subst, ◌⊎◌, inl, inr}
use Rattle.std.specs.IoError.{error_kind}
use Rattle.std.specs.Prelude.{string_bytes}
use Rattle.std.specs.declared.io.Error.{Error}
use Rattle.std.specs.declared.io.ErrorKind.TheVariants.{OutOfMemory}
use Rattle.handlebars_base.specs.Bytes.{Text}
use Rattle.handlebars_base.specs.Reasons.{TemplateReason, template_out_of_memory, mismatching_closed_helper, mismatching_closed_decorator, invalid_syntax, invalid_param, nested_subexpression, template_io_error, walkdir_error}
use Rattle.handlebars_base.specs.TemplateRefusals.{template_refusal_of}
use Rattle.handlebars_base.specs.declared.error.template_error.TemplateError.{TemplateError}
use Rattle.handlebars_template.specs.Compile.{Compiles, compiled, rejected}
use Rattle.handlebars_template.specs.Tree.{Tree}
use Rattle.handlebars.specs.Files.{HoldsKind, Stop, refusal, no_memory, not_read, IsStopFor, LoadsFile, compiles, does_not, unreadable, alloc_fails, unreadable_file}
use Rattle.handlebars.specs.View.{registered_options}

pub memory_or_not : (r : TemplateReason) → (r ≡ template_out_of_memory) ⊎ (r ≢ template_out_of_memory)
memory_or_not (mismatching_closed_helper a b) = inr (λ e. cc)
memory_or_not (mismatching_closed_decorator a b) = inr (λ e. cc)
memory_or_not (invalid_syntax a) = inr (λ e. cc)
memory_or_not (invalid_param a) = inr (λ e. cc)
memory_or_not nested_subexpression = inr (λ e. cc)
memory_or_not (template_io_error a) = inr (λ e. cc)
memory_or_not (walkdir_error a) = inr (λ e. cc)
memory_or_not template_out_of_memory = inl refl

module _ {S : Type 0} (reads : S → Text → Result (String Global) Error → S → Type 0) (prevents : Bool) (name path : Text)
    (before after : S) where
  -- a load with another end may also run out of memory at its end
  pub loads-alloc_fails : (o : Result Tree Stop) → LoadsFile reads prevents name path before o after
      → LoadsFile reads prevents name path before (Err no_memory) after
  loads-alloc_fails o (compiles r c) = alloc_fails r
  loads-alloc_fails o (does_not r c) = alloc_fails r
  loads-alloc_fails o (unreadable r n) = alloc_fails r
  loads-alloc_fails o (alloc_fails r) = alloc_fails r

  abbrev pub IsSourceError : TemplateError → Type 0
  IsSourceError e = (why : Stop) × IsStopFor e why × LoadsFile reads prevents name path before (Err why) after

  pub load-compiled : (t : Tree) (text : String Global) (source : Text) → source ≡ string_bytes text
      → reads before path (Ok text) after → Compiles source (registered_options prevents name) (compiled t)
      → LoadsFile reads prevents name path before (Ok t) after
  load-compiled t text source is r c = compiles r (subst (λ z. Compiles z (registered_options prevents name) (compiled t)) is c)

  rejected-by : (e : TemplateError) (text : String Global) → reads before path (Ok text) after
      → ((template_refusal_of e).reason ≡ template_out_of_memory) ⊎ ((template_refusal_of e).reason ≢ template_out_of_memory)
      → ((template_refusal_of e).reason ≢ template_out_of_memory
      → Compiles (string_bytes text) (registered_options prevents name) (rejected (template_refusal_of e))) → IsSourceError e
  rejected-by e text r (inl m) c = (no_memory, m, alloc_fails r)
  rejected-by e text r (inr n) c = (refusal (template_refusal_of e), refl, does_not r (c n))

  pub load-rejected : (e : TemplateError) (text : String Global) (source : Text) → source ≡ string_bytes text
      → reads before path (Ok text) after → ((template_refusal_of e).reason ≢ template_out_of_memory
      → Compiles source (registered_options prevents name) (rejected (template_refusal_of e))) → IsSourceError e
  load-rejected e text source is r c = rejected-by e text r (memory_or_not (template_refusal_of e).reason)
      (λ n. subst (λ z. Compiles z (registered_options prevents name) (rejected (template_refusal_of e))) is (c n))

  unreadable_file-by : (e : TemplateError) (cause : Error) → reads before path (Err cause) after
      → ((template_refusal_of e).reason ≡ template_out_of_memory) ⊎ ((template_refusal_of e).reason ≢ template_out_of_memory)
      → ((template_refusal_of e).reason ≢ template_out_of_memory
      → (template_refusal_of e ≡ unreadable_file name) × HoldsKind (error_kind cause) e × (error_kind cause ≢ OutOfMemory)) → IsSourceError e
  unreadable_file-by e cause r (inl m) c = (no_memory, m, alloc_fails r)
  unreadable_file-by e cause r (inr n) c = (not_read name (error_kind cause), ((c n).0, (c n).1), unreadable r (c n).2)

  pub load-unread : (e : TemplateError) (cause : Error) → reads before path (Err cause) after
      → ((template_refusal_of e).reason ≢ template_out_of_memory
      → (template_refusal_of e ≡ unreadable_file name) × HoldsKind (error_kind cause) e × (error_kind cause ≢ OutOfMemory)) → IsSourceError e
  load-unread e cause r c = unreadable_file-by e cause r (memory_or_not (template_refusal_of e).reason) c
