use Rattle.std.proofs.Common.{◌≡◌, []}
use Rattle.handlebars_base.specs.Bytes.{Text}
use Rattle.handlebars_lexer.specs.Options.{Options}
use Rattle.handlebars_scope.specs.Contexts.{data_of}
use Rattle.handlebars_template.specs.Compile.{compiled, OneCompilation}
use Rattle.handlebars_template.specs.Tree.{Tree}
use Rattle.handlebars_semantics.specs.Answer.{a_tree, FromSource, compiles}
use Rattle.handlebars_html.specs.Search.{source}
use Rattle.handlebars.proofs.WithoutFiles.{without-files}
use Rattle.test_api.proofs.strangers.rendered_safely.Goals as goal

-- A source compiles to one tree.
compiled-same : (s t : Tree) → compiled s ≡ compiled t → s ≡ t
compiled-same s t is = cc

same-tree : (options : Options) (text : Text) (s t : Tree) → OneCompilation → FromSource options text (a_tree s)
    → FromSource options text (a_tree t) → s ≡ t
same-tree options text s t one (compiles x) (compiles y) = compiled-same s t (one text options (compiled s) (compiled t) x y)

pub returns : goal.returns
returns g c =
    let judged = without-files _ (λ s t path text h. h.0) _ c.in_ok-template_html_is_safe.ensures.ok in
    let safe = rw c.in-Safe.is at judged in
    let answer = without-files _ (λ s t path text h. h.0) _ c.in_ok-text.ensures.ok in (
      answer,
      (c.in_ok-text.ensures.laws (data_of c.args.context.now) []).safe
          (λ t begins. (source safe.0, same-tree _ _ safe.0 t c.one_compilation.ensures safe.1 begins, safe.2.says)) answer.pieces
          _ answer.answers,
    )
