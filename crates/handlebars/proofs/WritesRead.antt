-- What the contracts of calls that read files first say of their output.
use mathlib.Core.Path.{fun_ext}
use Rattle.std.proofs.Common.{◌≡◌, ◌≢◌, Option, None, Some, Result, Ok, Err, List, ap, ◌∙◌, subst, refl, inl, inr}
use Rattle.std.specs.BTreeMap.{BTreeMap}
use Rattle.std.specs.Global.{Global}
use Rattle.std.specs.Prelude.{String}
use Rattle.std.specs.declared.io.Error.{Error}
use Rattle.serde_json.specs.Data.{Data}
use Rattle.handlebars_base.specs.Bytes.{Text}
use Rattle.handlebars_base.specs.Reasons.{Refusal, TemplateRefusal, TemplateReason, of_template, out_of_memory, reason_for, template_out_of_memory}
use Rattle.handlebars_base.specs.RenderRefusals.{plain_refusal, reason_in, refusal_of}
use Rattle.handlebars_base.specs.declared.error.render_error.RenderError.{RenderError}
use Rattle.handlebars_lexer.specs.Options.{Options}
use Rattle.handlebars_template.specs.Compile.{Compiles, compiled, rejected}
use Rattle.handlebars_template.specs.Tree.{Tree}
use Rattle.handlebars_template.specs.declared.template.tree.Template.{Template}
use Rattle.handlebars_helpers.specs.UserAnswers.{UserAnswers, Registrations}
use Rattle.handlebars_semantics.specs.Answer.{Beginning, FromName, FromSource, a_tree, compiles}
use Rattle.handlebars_semantics.specs.Laws.{with_templates}
use Rattle.handlebars_semantics.specs.State.{Setting}
use Rattle.handlebars_write.specs.View.{Answered}
use Rattle.handlebars_write.proofs.Refinement.{memory_or}
use Rattle.handlebars.specs.Calls.{BeginsWith, Reading, ReadingSource, written_after, failed_at_file, no_memory_to_read, compiled_so, failed_so, no_memory_to_compile}
use Rattle.handlebars.specs.Dev.{FailsRendering, HoldsTrees, ReadsFiles, files_for, stored_under}
use Rattle.handlebars.specs.Files.{Loaded, overlaid_on, tree_in}
use Rattle.handlebars.specs.Over.{setting_under, setting_with}
use Rattle.handlebars.specs.View.{setting_over, stored_tree}
use Rattle.handlebars.specs.declared.registry.RegistryOf.{RegistryOf}
use Rattle.handlebars.proofs.AnswerLaws.{FromSource-one, IsOne}

module _ {X : Type 0} (IsAsBefore : X → X → Type 0) (Says : (p : Setting) → (Beginning → Type 0) → X → X → Answered → Type 0)
    {E : Type 0} (registered : E → Registrations) (user : E → UserAnswers) (r : RegistryOf E) (d : Data)
    {S : Type 0} (reads : S → Text → Result (String Global) Error → S → Type 0) (before after : S) where
  -- ---- all files were read

  module _ (trees : BTreeMap (String Global) Template) {first last : X} {a : Answered} where
    pub reading-by-name : (name : Text) (rd : (read : List Loaded)
        × ReadsFiles reads r.prevent_indent (files_for r (Some name)) before read (Ok tt) after × HoldsTrees read trees)
        → Says (setting_with registered user (tree_in trees) r d) (FromName (overlaid_on (tree_in trees) (stored_tree r)) name) first last a
        → Reading reads r IsAsBefore (Some name) before after (λ read. Says (setting_under registered user read r d)
        (FromName (stored_under read r) name)) first last a
    reading-by-name name rd w =
        written_after rd.1 (subst (λ (above : Text → Option Tree). Says (with_templates (overlaid_on above (stored_tree r)) (setting_over registered user r d))
        (FromName (overlaid_on above (stored_tree r)) name) first last a) (fun_ext (λ n. rd.2 n)) w)

    pub reading-compiled : (t : Tree) (rd : (read : List Loaded)
        × ReadsFiles reads r.prevent_indent (files_for r None) before read (Ok tt) after × HoldsTrees read trees)
        → Says (setting_with registered user (tree_in trees) r d) (BeginsWith t) first last a
        → Reading reads r IsAsBefore None before after (λ read. Says (setting_under registered user read r d) (BeginsWith t)) first last a
    reading-compiled t rd w =
        written_after rd.1 (subst (λ (above : Text → Option Tree). Says (with_templates (overlaid_on above (stored_tree r)) (setting_over registered user r d))
        (BeginsWith t) first last a) (fun_ext (λ n. rd.2 n)) w)

  -- ---- a source that compiles

  module _ (begun : (p : Setting) (begins : Beginning → Type 0) (one : IsOne begins) (t : Tree) (first last : X) (a : Answered)
      → begins (a_tree t) → Says p (BeginsWith t) first last a → Says p begins first last a)
      (options : Options) (source : Text) (t : Tree) (is_source : Compiles source options (compiled t)) {first last : X} where
    from_source : {a : Answered}
        → Reading reads r IsAsBefore None before after (λ read. Says (setting_under registered user read r d) (BeginsWith t)) first last a
        → Reading reads r IsAsBefore None before after (λ read. Says (setting_under registered user read r d) (FromSource options source)) first last a
    from_source {a = a} (written_after {read = read} all w) = written_after all
        (begun (setting_under registered user read r d) (FromSource options source) (FromSource-one options source) t first last a (compiles is_source) w)
    from_source (failed_at_file all reports w) = failed_at_file all reports w
    from_source (no_memory_to_read is w) = no_memory_to_read is w

    pub reading-source : {a : Answered}
        → Reading reads r IsAsBefore None before after (λ read. Says (setting_under registered user read r d) (BeginsWith t)) first last a
        → ReadingSource reads r IsAsBefore options source before after (λ read. Says (setting_under registered user read r d) (FromSource options source))
        first last a
    reading-source w = compiled_so is_source (from_source w)

-- ---- what fails before that

module _ {X : Type 0} (IsAsBefore : X → X → Type 0) (as_before : (x : X) → IsAsBefore x x)
    {E : Type 0} (r : RegistryOf E) {S : Type 0} (reads : S → Text → Result (String Global) Error → S → Type 0)
    (to : List Loaded → X → X → Answered → Type 0) where
  pub reading-rejected : (asked : Option Text) (before after : S) (x : RenderError) (o : X)
      → FailsRendering reads r.prevent_indent (files_for r asked) before after x
      → Reading reads r IsAsBefore asked before after to o o (Err x)
  reading-rejected asked before after x o fails = failed_at_file fails.reads_up_to fails.stop (as_before o)

  module _ (options : Options) (source : Text) (s : S) (f : TemplateRefusal) (x : RenderError) (o : X)
      (fails : f.reason ≢ template_out_of_memory → Compiles source options (rejected f))
      (is : refusal_of x ≡ plain_refusal (of_template f)) where
    not_memory : reason_in x ≢ out_of_memory → f.reason ≢ template_out_of_memory
    not_memory other memory = other (ap (λ (z : Refusal). z.reason) is ∙ ap (λ (z : TemplateReason). reason_for f z) memory)

    pub reading-uncompiled : ReadingSource reads r IsAsBefore options source s s to o o (Err x)
    reading-uncompiled = elim (memory_or (reason_in x)) [
      | inl memory ↦ no_memory_to_compile memory refl (as_before o)
      | inr other ↦ failed_so (fails (not_memory other)) refl is (as_before o)
    ]
