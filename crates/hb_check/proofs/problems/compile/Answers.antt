use Rattle.std.proofs.Common.{rules, sym, subst}
use Rattle.handlebars_base.specs.TemplateRefusals.{template_refusal_of}
use Rattle.handlebars_lexer.specs.Options.{named_options}
use Rattle.handlebars_template.specs.Compile.{Compiles, compiled, rejected}
use Rattle.handlebars_template.specs.Tree.{empty_tree}
use Rattle.handlebars_template.specs.TreeView.{tree_view}
use Rattle.hb_check.specs.Compiled.{CompilesAs, IsErrorIn, well}
use Rattle.hb_check.specs.Reported.{AddsSome, One}
use Rattle.hb_check.proofs.Compilations.{compiles-ill}
use Rattle.hb_check.proofs.Reports.{adds-none, adds-weaker}
use Rattle.hb_check.proofs.problems.compile.Goals as goal

pub returns-in-Ok : goal.returns-in-Ok
returns-in-Ok c =
    adds-none (CompilesAs c.args.file (tree_view c.in-Ok.template)) c.args.problems.now.items
    (well (subst (λ n. Compiles c.args.file.text.now (named_options n) (compiled (tree_view c.in-Ok.template))) c.in_ok-name.ensures.ok
    c.in-Ok.ensures.ok))

pub returns-in_ok-add_error-in-Err : goal.returns-in_ok-add_error-in-Err
returns-in_ok-add_error-in-Err c =
    let r = template_refusal_of c.in-Err.cause in
    subst (λ t. AddsSome (CompilesAs c.args.file t) c.args.problems.now.items c.add_error.new.problems.items) (sym c.new.ensures)
    (adds-weaker (One (IsErrorIn c.args.file)) (CompilesAs c.args.file empty_tree) c.args.problems.now.items c.add_error.new.problems.items
    (λ ps one. compiles-ill c.args.file r ps
    (subst (λ n. Compiles c.args.file.text.now (named_options n) (rejected r)) c.in_ok-name.ensures.ok (c.in-Err.ensures.err (search rules))) one)
    c.in_ok-add_error-in-Err.ensures.adds)
