-- What the program builds from blocks, and what that stands for.
use Rattle.std.proofs.Common.{◌≡◌, suc, Bool, List, [], ◌∷◌, ◌++◌, map, length, refl, ap, arith}
use Rattle.std.specs.Prelude.{◌==◌, not}
use Rattle.std.proofs.lemmas.Bool.{ne_eqb}
use Rattle.std.proofs.lemmas.List.{reverse-append, map-append}
use Rattle.handlebars_template.specs.Position.{Position}
use Rattle.handlebars_template.specs.Tree.{Element, Body}
use Rattle.handlebars_template.specs.TreeView.{position_of, element_view}
use Rattle.handlebars_template.specs.Nest.{Opening, PositionedElement, Branch, block_call, inverse_of, is_chain}
use Rattle.handlebars_template.specs.NestView.{paired, branch_view, open_block_view, stack_view}
use Rattle.handlebars_template.specs.declared.template.tree.TemplateMapping.{TemplateMapping}
use Rattle.handlebars_template.specs.declared.template.tree.TemplateElement.{TemplateElement}
use Rattle.handlebars_template.specs.declared.template.chain.Branch.{Branch as BuiltBranch}
use Rattle.handlebars_template.specs.declared.template.nest.OpenBlock.{OpenBlock as BuiltBlock}

inverse_of-append : (bs cs : List Branch) (last : Body) → inverse_of (bs ++ cs) last ≡ inverse_of bs (inverse_of cs last)
inverse_of-append [] cs last = refl
inverse_of-append (b ∷ bs) cs last = rw (inverse_of-append bs cs last) refl

pub inverse_of_pop : (bs : List BuiltBranch) (b : BuiltBranch) (last : Body)
    → inverse_of (map branch_view (bs ++ b ∷ [])) last ≡ inverse_of (map branch_view bs) (inverse_of (branch_view b ∷ []) last)
inverse_of_pop bs b last = rw (map-append) (inverse_of-append (map branch_view bs) (branch_view b ∷ []) last)

pub stack_view_push : (os : List BuiltBlock) (o : BuiltBlock) → stack_view (os ++ o ∷ []) ≡ open_block_view o ∷ stack_view os
stack_view_push os o = rw (map-append) (reverse-append (map open_block_view os) (open_block_view o ∷ []))

pub block_call-along : {i j : Body} {b c : Bool} (o : Opening) (first : List PositionedElement) → i ≡ j → b ≡ c → block_call o first i b ≡ block_call o first j c
block_call-along o first inverses chains = rw (inverses, chains) refl

pub is_chain-view : (bs : List BuiltBranch) → not (length bs == 0) ≡ is_chain (map branch_view bs)
is_chain-view [] = refl
is_chain-view (b ∷ bs) = ap not (ne_eqb (suc (length bs)) 0 (λ e. absurd (omega arith)))

-- ---- elements and their positions

pub paired_push : (es : List TemplateElement) (ms : List TemplateMapping) (e : TemplateElement) (m : TemplateMapping) → length es ≡ length ms
    → paired (es ++ e ∷ []) (ms ++ m ∷ []) ≡ paired es ms ++ record { position = position_of m; element = element_view e } ∷ []
paired_push [] [] e m h = refl
paired_push [] (n ∷ ms) e m h = absurd (omega arith)
paired_push (f ∷ es) [] e m h = absurd (omega arith)
paired_push (f ∷ es) (n ∷ ms) e m h =
    ap (λ (z : List PositionedElement). record { position = position_of n; element = element_view f } ∷ z) (paired_push es ms e m (omega arith))

pub paired_elements : (es : List TemplateElement) (ms : List TemplateMapping) → length es ≡ length ms
    → map (λ (x : PositionedElement). x.element) (paired es ms) ≡ map element_view es
paired_elements [] [] h = refl
paired_elements [] (n ∷ ms) h = absurd (omega arith)
paired_elements (f ∷ es) [] h = absurd (omega arith)
paired_elements (f ∷ es) (n ∷ ms) h = ap (λ (z : List Element). element_view f ∷ z) (paired_elements es ms (omega arith))

pub paired_positions : (es : List TemplateElement) (ms : List TemplateMapping) → length es ≡ length ms
    → map (λ (x : PositionedElement). x.position) (paired es ms) ≡ map position_of ms
paired_positions [] [] h = refl
paired_positions [] (n ∷ ms) h = absurd (omega arith)
paired_positions (f ∷ es) [] h = absurd (omega arith)
paired_positions (f ∷ es) (n ∷ ms) h = ap (λ (z : List Position). position_of n ∷ z) (paired_positions es ms (omega arith))
