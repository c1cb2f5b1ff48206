use Rattle.std.proofs.Common.{◌≡◌, ◌∙◌, ◌&&◌, ℕ, Bool, true, false, length, vec_len, sym, ap, arith}
use Rattle.std.specs.Prelude.{◌==◌}
use Rattle.std.specs.BTreeMap.{btree_map_len}
use Rattle.std.proofs.lemmas.Bool.Decides.{same_from_decides, Decides-eqb}
use Rattle.handlebars_template.specs.declared.template.tree.HelperTemplate.{HelperTemplate, out-HelperTemplate}
use Rattle.handlebars_template.proofs.Levels.{is_value-view}
use Rattle.handlebars_template.proofs.template.tree.HelperTemplate.is_value.Goals as goal

params_empty : (h : HelperTemplate) (empty : Bool) → empty ≡ (vec_len (out-HelperTemplate h).params == 0) → (length (out-HelperTemplate h).params.items == 0) ≡ empty
params_empty h empty e =
    let same : vec_len (out-HelperTemplate h).params ≡ length (out-HelperTemplate h).params.items = omega (arith, (out-HelperTemplate h).params.ok.0) in
    sym (e ∙ ap (λ (n : ℕ). n == 0) same)

pub returns-then-is_empty : goal.returns-then-is_empty
returns-then-is_empty c =
    let h = c.args.self.now in
    let ps : (length (out-HelperTemplate h).params.items == 0) ≡ true = params_empty h true (sym c.if-is_empty.true ∙ c.is_empty.ensures) in
    same_from_decides _ (btree_map_len (out-HelperTemplate h).hash == 0) c.is_empty-then-is_empty.ensures (Decides-eqb _ _)
    ∙ sym (is_value-view h ∙ ap (λ (b : Bool). b && (length (out-HelperTemplate h).hash.entries == 0)) ps)

pub returns-else-is_empty : goal.returns-else-is_empty
returns-else-is_empty c =
    let h = c.args.self.now in
    let ps : (length (out-HelperTemplate h).params.items == 0) ≡ false = params_empty h false (sym c.if-is_empty.false ∙ c.is_empty.ensures) in
    c.if-is_empty.false ∙ sym (is_value-view h ∙ ap (λ (b : Bool). b && (length (out-HelperTemplate h).hash.entries == 0)) ps)
