use Rattle.std.proofs.Common.{◌≡◌, ◌≤◌, ◌-◌, ℕ, List, Some, true, false, cond, length, take, ap, ◌∙◌, arith}
use Rattle.std.specs.Str.Pattern.{FindsTextSuffix}
use Rattle.std.proofs.lemmas.Str.Pattern.{ends_text}
use Rattle.handlebars.specs.Folder.{has_end}
use Rattle.handlebars.proofs.sources.options.DirectorySourceOptions.name_in.Goals as goal

is_end : (end text : List ℕ) (x : ℕ) → FindsTextSuffix end text (Some x) → x ≤ length text → true ≡ has_end text end
is_end end text x f le = ends_text true end text (x, f, le, rw f.0 f.2)

pub returns-in-Some : goal.returns-in-Some
returns-in-Some c =
    let h = c.in-Some.ensures.cases in
    let text = c.args.below.now in
    let end = c.args.self.now.tpl_extension.now in
    h.2 ∙ ap (λ n. take (length text - n) text) h.1.0
    ∙ ap (λ b. cond b (take (length text - length end) text) text) (is_end end text h.0 h.1 (omega (arith, h.3)))

pub returns-in-None : goal.returns-in-None
returns-in-None c =
    let text = c.args.below.now in
    let end = c.args.self.now.tpl_extension.now in
    ap (λ b. cond b (take (length text - length end) text) text) (ends_text false end text c.in-None.ensures.cases)
