-- What is answered with trees that were read.
use mathlib.Core.Path.{fun_ext}
use Rattle.std.proofs.Common.{◌≡◌, ◌≢◌, List, Option, None, Some, Result, Ok, Err, refl, sym, ap, ◌∙◌, subst}
use Rattle.std.specs.BTreeMap.{BTreeMap}
use Rattle.std.specs.Global.{Global}
use Rattle.std.specs.Option.{option_or}
use Rattle.std.specs.Prelude.{IfErr, IsErrAnd, String}
use Rattle.std.specs.declared.io.Error.{Error}
use Rattle.serde_json.specs.Data.{Data}
use Rattle.handlebars_base.specs.Bytes.{Text}
use Rattle.handlebars_base.specs.Reasons.{Refusal, TemplateRefusal, TemplateReason, template_out_of_memory, out_of_memory, of_template, reason_for, template_not_found}
use Rattle.handlebars_base.specs.RenderRefusals.{plain_refusal, refusal_of, reason_in}
use Rattle.handlebars_base.specs.declared.error.render_error.RenderError.{RenderError}
use Rattle.handlebars_lexer.specs.Options.{Options}
use Rattle.handlebars_template.specs.Compile.{Compiles, compiled, rejected}
use Rattle.handlebars_template.specs.Tree.{Tree}
use Rattle.handlebars_template.specs.declared.template.tree.Template.{Template}
use Rattle.handlebars_helpers.specs.UserAnswers.{HaveOne, UserAnswers, Registrations}
use Rattle.handlebars_semantics.specs.Answer.{FromName, FromSource, GivesText, FailsWith, compiles, is_not, is_stored}
use Rattle.handlebars_semantics.specs.Laws.{with_templates}
use Rattle.handlebars_semantics.specs.Means.{render_tree}
use Rattle.handlebars_semantics.specs.State.{IsLawful, Setting, State, first_state}
use Rattle.handlebars_write.specs.View.{GivesString, StringFails}
use Rattle.handlebars.specs.Dev.{FailsRendering, HasRead, HoldsTrees, ReadsFiles, FailsWithFiles, at_a_file, after_all, FailsWithSource, not_compiled, is_compiled, files_for, stored_under}
use Rattle.handlebars.specs.Files.{Loaded, overlaid_on, tree_in}
use Rattle.handlebars.specs.Over.{setting_under, setting_with}
use Rattle.handlebars.specs.View.{setting_over, stored_tree}
use Rattle.handlebars.specs.declared.registry.RegistryOf.{RegistryOf}
use Rattle.handlebars.proofs.AnswerLaws.{gives_text, fails_before, fails_with}

module _ {E : Type 0} (registered : E → Registrations) (user : E → UserAnswers) (r : RegistryOf E) (d : Data) where
  -- the law of user-defined parts, whatever trees were read
  pub over-lawful : (read : List Loaded) → HaveOne (user r.entries) → IsLawful (setting_under registered user read r d).parts
  over-lawful read one = record { helpers = one.helpers; decorators = one.decorators; escape = one.escape }

  pub with-lawful : (trees : Text → Option Tree) → HaveOne (user r.entries) → IsLawful (setting_with registered user trees r d).parts
  with-lawful trees one = record { helpers = one.helpers; decorators = one.decorators; escape = one.escape }

  over-same : (read : List Loaded) (trees : BTreeMap (String Global) Template) → HoldsTrees read trees
      → setting_with registered user (tree_in trees) r d ≡ setting_under registered user read r d
  over-same read trees holds =
      ap (λ (above : Text → Option Tree). with_templates (overlaid_on above (stored_tree r)) (setting_over registered user r d))
      (fun_ext (λ n. holds n))

  module _ {S : Type 0} (reads : S → Text → Result (String Global) Error → S → Type 0) (before after : S)
      (trees : BTreeMap (String Global) Template) where
    -- ---- a call by name

    module _ (name : Text) (rd : (read : List Loaded)
        × ReadsFiles reads r.prevent_indent (files_for r (Some name)) before read (Ok tt) after × HoldsTrees read trees) where
      found : (o : Option Tree) → o ≡ overlaid_on (tree_in trees) (stored_tree r) name → stored_under rd.0 r name ≡ o
      found o is = ap (λ a. option_or a (stored_tree r name)) (sym (rd.2 name)) ∙ sym is

      pub gives-by-name : (t : Tree) (first next : State) (text : Text) → Some t ≡ overlaid_on (tree_in trees) (stored_tree r) name
          → first ≡ first_state r.recursive_lookup
          → GivesString (setting_with registered user (tree_in trees) r d) (render_tree t) first next text
          → HasRead reads r (Some name) before after (λ read. GivesText (setting_under registered user read r d)
          (FromName (stored_under read r) name) text)
      gives-by-name t first next text is begins g = record {
        read = rd.0;
        reads_all = rd.1;
        holds = gives_text (setting_under registered user rd.0 r d) (FromName (stored_under rd.0 r) name) t first
            (is_stored (found (Some t) is)) begins
            (subst (λ (p : Setting). GivesString p (render_tree t) first next text) (over-same rd.0 trees rd.2) g);
      }

      pub fails-by-name : (t : Tree) (first : State) (e : RenderError) → Some t ≡ overlaid_on (tree_in trees) (stored_tree r) name
          → first ≡ first_state r.recursive_lookup
          → StringFails (setting_with registered user (tree_in trees) r d) (render_tree t) first (refusal_of e)
          → FailsWithFiles reads r (Some name) before after (λ read q. FailsWith (setting_under registered user read r d)
          (FromName (stored_under read r) name) q) e
      fails-by-name t first e is begins g =
          after_all rd.1 (fails_with (setting_under registered user rd.0 r d) (FromName (stored_under rd.0 r) name) t first
          (is_stored (found (Some t) is)) begins
          (subst (λ (p : Setting). StringFails p (render_tree t) first (refusal_of e)) (over-same rd.0 trees rd.2) g))

      pub not-found-by-name : (e : RenderError) → None ≡ overlaid_on (tree_in trees) (stored_tree r) name
          → refusal_of e ≡ plain_refusal (template_not_found name)
          → FailsWithFiles reads r (Some name) before after (λ read q. FailsWith (setting_under registered user read r d)
          (FromName (stored_under read r) name) q) e
      not-found-by-name e is why =
          after_all rd.1 (fails_before (setting_under registered user rd.0 r d) (FromName (stored_under rd.0 r) name)
          (plain_refusal (template_not_found name)) e (is_not (found None is)) why)

    -- ---- a call by source

    module _ (options : Options) (source : Text) (t : Tree) (is_source : Compiles source options (compiled t))
        (rd : (read : List Loaded) × ReadsFiles reads r.prevent_indent (files_for r None) before read (Ok tt) after
        × HoldsTrees read trees) where
      pub gives-by-source : (first next : State) (text : Text) → first ≡ first_state r.recursive_lookup
          → GivesString (setting_with registered user (tree_in trees) r d) (render_tree t) first next text
          → HasRead reads r None before after (λ read. GivesText (setting_under registered user read r d)
          (FromSource options source) text)
      gives-by-source first next text begins g = record {
        read = rd.0;
        reads_all = rd.1;
        holds = gives_text (setting_under registered user rd.0 r d) (FromSource options source) t first
            (compiles is_source) begins
            (subst (λ (p : Setting). GivesString p (render_tree t) first next text) (over-same rd.0 trees rd.2) g);
      }

      pub fails-by-source : (first : State) (e : RenderError) → first ≡ first_state r.recursive_lookup
          → StringFails (setting_with registered user (tree_in trees) r d) (render_tree t) first (refusal_of e)
          → FailsWithSource reads r options source before after (λ read q. FailsWith (setting_under registered user read r d)
          (FromSource options source) q) e
      fails-by-source first e begins g =
          is_compiled is_source
          (after_all rd.1 (fails_with (setting_under registered user rd.0 r d) (FromSource options source) t first
          (compiles is_source) begins
          (subst (λ (p : Setting). StringFails p (render_tree t) first (refusal_of e)) (over-same rd.0 trees rd.2) g)))

-- ---- files that fail

module _ {S : Type 0} (reads : S → Text → Result (String Global) Error → S → Type 0) {E : Type 0} (r : RegistryOf E)
    (asked : Option Text) (before after : S) (Fails : List Loaded → Refusal → Type 0) where
  pub fails-at-file : (d : RenderError) → FailsRendering reads r.prevent_indent (files_for r asked) before after d
      → FailsWithFiles reads r asked before after Fails d
  fails-at-file d x = at_a_file x.reads_up_to x.stop

module _ {S : Type 0} (reads : S → Text → Result (String Global) Error → S → Type 0) {E : Type 0} (r : RegistryOf E)
    (options : Options) (source : Text) (Fails : List Loaded → Refusal → Type 0) where
  pub source-fails-at-file : (t : Tree) (before after : S) (d : RenderError) → Compiles source options (compiled t)
      → FailsRendering reads r.prevent_indent (files_for r None) before after d
      → FailsWithSource reads r options source before after Fails d
  source-fails-at-file t before after d c x = is_compiled c (fails-at-file reads r None before after Fails d x)

  rejected-so : (s : S) (f : TemplateRefusal) (d : RenderError)
      → (f.reason ≢ template_out_of_memory → Compiles source options (rejected f))
      → refusal_of d ≡ plain_refusal (of_template f) → reason_in d ≢ out_of_memory
      → FailsWithSource reads r options source s s Fails d
  rejected-so s f d fails is other =
      let not_memory : f.reason ≢ template_out_of_memory =
      λ memory. other (ap (λ (z : Refusal). z.reason) is ∙ ap (λ (z : TemplateReason). reason_for f z) memory) in
      not_compiled (fails not_memory) refl is

  pub source-rejected : {X : Type 0} (s : S) (f : TemplateRefusal) (answer : Result X RenderError)
      → (f.reason ≢ template_out_of_memory → Compiles source options (rejected f))
      → IsErrAnd answer (λ d. refusal_of d ≡ plain_refusal (of_template f))
      → IfErr answer (λ d. reason_in d ≢ out_of_memory → FailsWithSource reads r options source s s Fails d)
  source-rejected s f (Ok text) fails is = absurd is
  source-rejected s f (Err d) fails is = λ other. rejected-so s f d fails is other
