use Rattle.std.proofs.Common.{◌≡◌, ◌∙◌, ◌&&◌, Bool, true, false, length, vec_len, sym, ap, arith}
use Rattle.std.specs.Prelude.{◌==◌}
use Rattle.std.specs.BTreeMap.{btree_map_len}
use Rattle.std.proofs.lemmas.Bool.Decides.{same_from_decides, Decides-eqb}
use Rattle.handlebars_template.proofs.ExpressionsBuilt.{lacks_arguments-view}
use Rattle.handlebars_template.proofs.template.arguments.Arguments.is_empty.Goals as goal

pub returns-then-is_empty : goal.returns-then-is_empty
returns-then-is_empty c =
    let ps = c.args.self.now.params in
    let hs = c.args.self.now.hash in
    let same : vec_len ps ≡ length ps.items = omega (arith, ps.ok.0) in
    let empty : (length ps.items == 0) ≡ true = ap (λ n. n == 0) (sym same) ∙ sym c.is_empty.ensures ∙ c.if-is_empty.true in
    same_from_decides _ (btree_map_len hs == 0) c.is_empty-then-is_empty.ensures (Decides-eqb _ _)
    ∙ sym (lacks_arguments-view ps.items hs.entries ∙ ap (λ (b : Bool). b && (length hs.entries == 0)) empty)

pub returns-else-is_empty : goal.returns-else-is_empty
returns-else-is_empty c =
    let ps = c.args.self.now.params in
    let hs = c.args.self.now.hash in
    let same : vec_len ps ≡ length ps.items = omega (arith, ps.ok.0) in
    let some : (length ps.items == 0) ≡ false = ap (λ n. n == 0) (sym same) ∙ sym c.is_empty.ensures ∙ c.if-is_empty.false in
    c.if-is_empty.false
    ∙ sym (lacks_arguments-view ps.items hs.entries ∙ ap (λ (b : Bool). b && (length hs.entries == 0)) some)
