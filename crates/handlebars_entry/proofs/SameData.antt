-- Calls with the same data include alike.
use Rattle.std.proofs.Common.{◌≡◌, Bool, true, false, List, [], ◌∷◌, Option, Some, None, map, refl, ap, ◌∙◌}
use mathlib.Core.Path.{fun_ext}
use Rattle.std.specs.Str.{bytes_eq}
use Rattle.serde_json.specs.Data.{Data}
use Rattle.handlebars_base.specs.Bytes.{Text}
use Rattle.handlebars_base.specs.PathAndData.{PathAndData}
use Rattle.handlebars_base.specs.Scoped.{data_in}
use Rattle.handlebars_template.specs.Tree.{Body, Tree, tree_name}
use Rattle.handlebars_helpers.specs.Decoration.{DecoratorView}
use Rattle.handlebars_semantics.specs.Execute.{change}
use Rattle.handlebars_semantics.specs.Inclusion.{Partial, begin_inclusion, end_inclusion, hash_data, inclusion_frame, is_current, is_local, is_nowhere, is_own_block, is_registered}
use Rattle.handlebars_semantics.specs.Including.{base_value, enter_frame, include, include_named, include_other, include_partial, include_tree, partial_block_name, render_ahead}
use Rattle.handlebars_semantics.specs.Occurrences.{Occurrence, TreeOccurrence, as_part, body_at, included_at}
use Rattle.handlebars_semantics.specs.Pieces.{Piece}
use Rattle.handlebars_semantics.specs.State.{State, nearest_variables, push_frame}
use Rattle.handlebars_semantics.specs.Steps.{Prog, Whole, ◌>>=◌, ◌>>◌, become, check_limit, find, perform, return, state}
use Rattle.handlebars_entry.specs.Entry.{HasSameData}

base-same : (vs ws : List PathAndData) → map (λ p. data_in p.found) vs ≡ map (λ p. data_in p.found) ws → base_value vs ≡ base_value ws
base-same [] [] is = refl
base-same [] (w ∷ ws) is = cc
base-same (v ∷ vs) [] is = cc
base-same (v ∷ vs) (w ∷ ws) is = let same : data_in v.found ≡ data_in w.found = cc in ap (λ (d : Data). return d) same

-- a tag of this name, body and indentation
abbrev viewed : Text → Body → Option Text → List PathAndData → List (Text × PathAndData) → DecoratorView
viewed n b i vs hs = record { call = record { name = n; params = vs; hash = hs }; body = b; indent = i }

module _ (occurrence : Occurrence) (n : Text) (b : Body) (i : Option Text) (vs ws : List PathAndData) (hs ks : List (Text × PathAndData))
    (base : base_value vs ≡ base_value ws) (hash : hash_data hs ≡ hash_data ks) where
  frame-same : enter_frame (viewed n b i vs hs) ≡ enter_frame (viewed n b i ws ks)
  frame-same =
      ap (λ (m : Prog Data). m >>= (λ d. state >>= (λ s. become (push_frame (inclusion_frame d (hash_data hs) (nearest_variables s.blocks)) s)))) base
      ∙ ap (λ (bound : List (Text × Data)). base_value ws >>= (λ d. state >>= (λ s. become (push_frame (inclusion_frame d bound (nearest_variables s.blocks)) s)))) hash

  tree-same : (at : TreeOccurrence) (t : Tree) (ahead : Prog (Option (List Piece)))
      → include_tree (viewed n b i vs hs) at t ahead ≡ include_tree (viewed n b i ws ks) at t ahead
  tree-same at t ahead =
      ap (λ (m : Prog (Unit {0})). check_limit >> (state >>= (λ s. m >> (ahead >>= (λ k. change (begin_inclusion i k)
      >> (perform (Whole at t) >> change (end_inclusion s)))))))
      frame-same

  partial-same : (found : Partial) → include_partial occurrence (viewed n b i vs hs) found ≡ include_partial occurrence (viewed n b i ws ks) found
  partial-same (is_local t) = tree-same (included_at occurrence (tree_name t) t) t (render_ahead occurrence b)
  partial-same (is_registered t) = tree-same (included_at occurrence (Some n) t) t (render_ahead occurrence b)
  partial-same (is_own_block t) = tree-same (body_at occurrence (as_part 0)) t (return None)
  partial-same is_nowhere = refl

  other-same : (found : Partial) (s : State) (captured : Bool)
      → include_other occurrence (viewed n b i vs hs) found s captured ≡ include_other occurrence (viewed n b i ws ks) found s captured
  other-same found s true = refl
  other-same found s false = partial-same found

  named-same : (found : Partial) (s : State) (current : Bool)
      → include_named occurrence (viewed n b i vs hs) found s current ≡ include_named occurrence (viewed n b i ws ks) found s current
  named-same found s true = refl
  named-same found s false = other-same found s (bytes_eq partial_block_name n)

  viewed-same : include occurrence (viewed n b i vs hs) ≡ include occurrence (viewed n b i ws ks)
  viewed-same = ap (λ (f : Partial → State → Prog (Unit {0})). find n b >>= (λ found. state >>= (λ s. f found s)))
      (fun_ext (λ found. fun_ext (λ s. named-same found s (is_current n s.current))))

-- Calls of the same data, in tags of the same body and indentation.
pub include-same : (occurrence : Occurrence) (v w : DecoratorView) → HasSameData v.call w.call → v.body ≡ w.body
    → v.indent ≡ w.indent → include occurrence v ≡ include occurrence w
include-same occurrence v w same body indent =
    ap (λ (n : Text). include occurrence (viewed n v.body v.indent v.call.params v.call.hash)) same.name
    ∙ ap (λ (b : Body). include occurrence (viewed w.call.name b v.indent v.call.params v.call.hash)) body
    ∙ ap (λ (i : Option Text). include occurrence (viewed w.call.name w.body i v.call.params v.call.hash)) indent
    ∙ viewed-same occurrence w.call.name w.body w.indent v.call.params w.call.params v.call.hash w.call.hash
    (base-same v.call.params w.call.params same.params) same.hash
