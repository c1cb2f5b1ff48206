-- What a law says holds of inclusions. The block of a tag is its part 0, and the tree that was found is its part 1.
use Rattle.std.proofs.Common.{◌≡◌, ℕ, ◌+◌, ◌≤◌, List, [], ◌∷◌, Bool, true, false, refl, ap, ◌∙◌, Option, Some, None, arith}
use Rattle.std.specs.Str.{bytes_eq}
use Rattle.serde_json.specs.Data.{Data}
use Rattle.handlebars_base.specs.Answers.{gives}
use Rattle.handlebars_base.specs.PathAndData.{PathAndData}
use Rattle.handlebars_base.specs.Reasons.{partial_block_not_found}
use Rattle.handlebars_base.specs.Scoped.{data_in}
use Rattle.handlebars_template.specs.Tree.{Tree, tree_name, Element, Decorator, decorator_name, decorator_args, decorator_body, decorator_marks, Body, no_body, body}
use Rattle.handlebars_scope.specs.LineState.{LineState}
use Rattle.handlebars_scope.specs.Scopes.{Frame}
use Rattle.handlebars_helpers.specs.CallView.{CallView}
use Rattle.handlebars_helpers.specs.Decoration.{DecoratorView}
use Rattle.handlebars_semantics.specs.Inclusion.{Partial, is_local, is_registered, is_own_block, is_nowhere, is_current, newest, hash_data, inclusion_frame, begin_inclusion, named_as_before, end_inclusion, partial_for, local_or_other}
use Rattle.handlebars_semantics.specs.Including.{render_own_block, write_captured, partial_block_name, this_param, base_value, render_ahead, include_tree, include_partial, include_other, include_named}
use Rattle.handlebars_semantics.specs.Means.{line_at, shown_tag, include_tag, render_partial}
use Rattle.handlebars_semantics.specs.Origins.{body_tree, inclusion_tag, Finds, IsBlockAlone, ahead_of_local, ahead_of_registered, instead_of_captured}
use Rattle.handlebars_semantics.specs.Pieces.{Piece}
use Rattle.handlebars_semantics.specs.Questions.{value_of, view_of, IsAnswered}
use Rattle.handlebars_semantics.specs.Occurrences.{as_part, TreeOccurrence, body_at, included_at, Occurrence}
use Rattle.handlebars_semantics.specs.State.{Setting, State, push_frame, nearest_variables, partial_in}
use Rattle.handlebars_semantics.specs.Steps.{Task, One, Whole, Steps, Get, Set, Do, Prog, return, ◌>>=◌, ◌>>◌}
use Rattle.handlebars_laws.proofs.Failures.{for_inclusion_view, for_current_value, for_itself, for_nothing, for_no_block, for_limit}
use Rattle.handlebars_laws.proofs.Closed.{ComesToTag, element_body-tag, MayCapture, IsAhead, begun, Closed}
use Rattle.handlebars_laws.proofs.Law.{Law, HoldsThrough}
use Rattle.handlebars_laws.proofs.Programs.{upto, any, LeadsThrough, ask-holds, on_line-holds}

-- ---- what is found: a local partial, a registered tree, or the tag's own block

local_found : Partial → Option Tree
local_found (is_local t) = Some t
local_found found = None

registered_found : Partial → Option Tree
registered_found (is_registered t) = Some t
registered_found found = None

own_found : Partial → Body
own_found (is_own_block t) = body t
own_found found = no_body

local_or_other-local : (l o : Option Tree) (b : Body) (t : Tree) → local_or_other l o b ≡ is_local t → l ≡ Some t
unfolding local_found
local_or_other-local (Some x) o b t is = ap local_found is
local_or_other-local None (Some x) b t is = ap local_found is
local_or_other-local None None no_body t is = ap local_found is
local_or_other-local None None (body x) t is = ap local_found is

pub local_or_other-registered : (l o : Option Tree) (b : Body) (t : Tree) → local_or_other l o b ≡ is_registered t
    → o ≡ Some t
unfolding registered_found
local_or_other-registered (Some x) o b t is = cc
local_or_other-registered None (Some x) b t is = ap registered_found is
local_or_other-registered None None no_body t is = ap registered_found is
local_or_other-registered None None (body x) t is = ap registered_found is

local_or_other-own : (l o : Option Tree) (b : Body) (t : Tree) → local_or_other l o b ≡ is_own_block t → b ≡ body t
unfolding own_found
local_or_other-own (Some x) o b t is = cc
local_or_other-own None (Some x) b t is = cc
local_or_other-own None None no_body t is = ap own_found is
local_or_other-own None None (body x) t is = ap own_found is

-- ---- the tag of an inclusion, to which the run came in a state before

module _ (p : Setting) (law : Law) (closed : Closed p law) (occurrence : Occurrence) (e : Element)
    (t : Decorator) (tag : inclusion_tag e ≡ Some t) (before : State) (comes : law.ComesTo occurrence e before) where
  abbrev this : Task
  this = One occurrence e

  abbrev Goes : State → Prog (Unit {0}) → Type 1
  Goes s m = LeadsThrough p law this 0 any s m

  -- ---- the block of the tag

  -- What is captured, between two states.
  abbrev Between : Type 1
  Between = Option (List Piece) → State → State → Type 0

  -- The block is rendered ahead, or none is, and the number is then up to this one.
  abbrev LeadsAhead : ℕ → Between → Prog (Option (List Piece)) → Type 1
  LeadsAhead m between ahead = (s : State) → law.Fits occurrence before s → law.IsWell s → (end : ℕ → State → Type 0) (i : ℕ)
      → i ≤ 0 → (next : Option (List Piece) → Steps)
      → ((captured : Option (List Piece)) → MayCapture law.MayWrite captured → (j : ℕ) (n : State) → upto m j
      → law.IsNext s n → between captured s n → HoldsThrough p law this end j n (next captured))
      → HoldsThrough p law this end i s (ahead next)

  module _ (v : CallView) (tagged : ComesToTag p law occurrence e inclusion_tag t before v) (alone : IsBlockAlone p t before v) where
    block_part : (x : Tree) → decorator_body t ≡ body x → (s : State) → law.Fits occurrence before s → law.IsWell s
        → law.IsPart this 0 s (Whole (body_at occurrence (as_part 0)) x)
    block_part x is s fits h = closed.block_part tagged alone (element_body-tag e t tag ∙ ap body_tree is) fits h

    render_own_block-holds : (b : Body) → decorator_body t ≡ b → (decorator_body t ≡ no_body → law.MayFail partial_block_not_found)
        → (s : State) → law.Fits occurrence before s → Goes s (render_own_block occurrence b s)
    unfolding ◌>>=◌ ◌>>◌
    render_own_block-holds no_body is may s fits h end i le next g = may is
    render_own_block-holds (body x) is may s fits h end i le next g =
        (0, le, block_part x is s fits h, λ n over. g 1 (named_as_before s n) tt (closed.own_next h over))

    write_captured-holds : (s : State) (captured : Option (List Piece))
        → (captured ≡ None → decorator_body t ≡ no_body → law.MayFail partial_block_not_found)
        → law.Fits occurrence before s → MayCapture law.MayWrite captured
        → Goes s (write_captured occurrence (decorator_body t) s captured)
    write_captured-holds s None fails fits may = render_own_block-holds (decorator_body t) refl (fails refl) s fits
    write_captured-holds s (Some ps) fails fits may = λ h end i le next g. (may, g i s tt (closed.same_next h))

    render_ahead-leads : (b : Body) → decorator_body t ≡ b → LeadsAhead 1 (IsAhead law occurrence b) (render_ahead occurrence b)
    unfolding ◌>>=◌
    render_ahead-leads no_body is s fits h end i le next g =
        g None tt i s (omega (arith, le)) (closed.same_next h) (refl, refl)
    render_ahead-leads (body x) is s fits h end i le next g = (
      0,
      le,
      block_part x is s fits h,
      λ n over ps written. g (Some ps) written 1 n (omega arith)
          (closed.ahead_next tagged (element_body-tag e t tag ∙ ap body_tree is) over) ((ps, refl), over),
    )

  abbrev anyhow : Between
  anyhow k s n = Unit {0}

  return-leads : LeadsAhead 0 anyhow (return None)
  return-leads s fits h end i le next g = g None tt i s le (closed.same_next h) tt

  -- ---- what is included

  base_value-holds : (l : LineState) (xs : List PathAndData) (end : ℕ → State → Type 0) (i : ℕ) (next : Data → Steps)
      → ((d : Data) → HoldsThrough p law this end i (record before { line = l }) (next d))
      → HoldsThrough p law this end i (record before { line = l }) (base_value xs next)
  unfolding ◌>>=◌
  base_value-holds l [] end i next g = ask-holds p law this end i (record before { line = l }) (value_of this_param) _
      (λ r failed. closed.fails comes (for_current_value r tag failed)) (λ found is. g (data_in found))
  base_value-holds l (x ∷ xs) end i next g = g (data_in x.found)

  -- by a view that the tag has in the state before, on a line that is made of the one there
  module _ (l : LineState) (v : CallView)
      (viewed : IsAnswered p before (view_of (decorator_name t) (decorator_args t)) (gives v)) where
    abbrev s : State
    s = record before { line = l }

    abbrev view : DecoratorView
    view = shown_tag before.indent t v

    tagged : ComesToTag p law occurrence e inclusion_tag t before v
    tagged = record { comes = comes; tag = tag; viewed = viewed }

    -- the scope frame of the inclusion is entered, at this value; and what follows the block that was rendered ahead
    abbrev block_of : Data → State → State
    block_of d z = push_frame (inclusion_frame d (hash_data v.hash) (nearest_variables z.blocks)) z

    abbrev after_ahead : TreeOccurrence → Tree → (Unit {0} → Steps) → Option (List Piece) → Steps
    after_ahead at x next captured =
        Get (λ n. Set (begin_inclusion view.indent captured n) (Do (Whole at x) (Get (λ z. Set (end_inclusion s z) (next tt)))))

    -- the tree is this part of the element, wherever it is begun
    abbrev BeginsAs : ℕ → Between → TreeOccurrence → Tree → Type 0
    BeginsAs m between at x = (f : Frame) (n : State) (k : Option (List Piece)) → law.Fits occurrence before n
        → between k (push_frame f s) n → law.IsWell (begun s t k n) → law.IsPart this m (begun s t k n) (Whole at x)

    include_tree-holds : (m : ℕ) (between : Between) (at : TreeOccurrence) (x : Tree) (ahead : Prog (Option (List Piece)))
        → BeginsAs m between at x → law.Fits occurrence before s → LeadsAhead m between ahead
        → Goes s (include_tree view at x ahead)
    unfolding ◌>>=◌ ◌>>◌
    include_tree-holds m between at x ahead part fits leads h end i le next g = (
      closed.fails comes (for_limit tag),
      base_value-holds l v.params end i (λ d. Get (λ z. Set (block_of d z) (ahead (after_ahead at x next)))) (λ d.
          leads (block_of d s) (closed.block_fits fits)
          (closed.block_well (closed.inclusion_enters d (hash_data v.hash) (nearest_variables s.blocks)) h) end i le
          (after_ahead at x next) (λ captured may j n far is was. (
            m,
            far,
            part _ n captured (closed.next_fits (closed.block_fits fits) is) was (closed.begun_well (closed.next_well is) may),
            λ z last. g (m + 1) (end_inclusion s z) tt (closed.over_next h is last),
          ))),
    )

    module _ (fits : law.Fits occurrence before s) (well : law.IsWell s) (other : is_current v.name before.current ≡ false) where
      module _ (no_captured : bytes_eq partial_block_name v.name ≡ false) where
        include_partial-holds : (found : Partial) → partial_for p.parts before v.name (decorator_body t) ≡ found
            → Goes s (include_partial occurrence view found)
        include_partial-holds (is_local x) is =
            let finds : Finds p t before v (is_local x) = record { other = other; no_captured = no_captured; finds = is } in
            include_tree-holds 1 (IsAhead law occurrence (decorator_body t)) (included_at occurrence (tree_name x) x) x
            (render_ahead occurrence (decorator_body t))
            (λ f n k fit was h. closed.local_part f tagged finds well (local_or_other-local (partial_in before.blocks v.name)
            (p.parts.template v.name) (decorator_body t) x is) fits fit was h) fits
            (render_ahead-leads v tagged (ahead_of_local finds) (decorator_body t) refl)
        include_partial-holds (is_registered x) is =
            let finds : Finds p t before v (is_registered x) = record { other = other; no_captured = no_captured; finds = is } in
            include_tree-holds 1 (IsAhead law occurrence (decorator_body t)) (included_at occurrence (Some v.name) x) x
            (render_ahead occurrence (decorator_body t))
            (λ f n k fit was h. closed.registered_part f tagged finds fits fit was h) fits
            (render_ahead-leads v tagged (ahead_of_registered finds) (decorator_body t) refl)
        include_partial-holds (is_own_block x) is = include_tree-holds 0 anyhow (body_at occurrence (as_part 0)) x (return None)
            (λ f n k fit was h. closed.own_block_part tagged (record { other = other; no_captured = no_captured; finds = is })
            (element_body-tag e t tag ∙ ap body_tree (local_or_other-own (partial_in before.blocks v.name)
            (p.parts.template v.name) (decorator_body t) x is)) fits fit h) fits return-leads
        include_partial-holds is_nowhere is = λ h end i le next g. closed.fails comes
            (for_nothing tag viewed (record { other = other; no_captured = no_captured; finds = is }))

      abbrev found_there : Partial
      found_there = partial_for p.parts before v.name (decorator_body t)

      include_other-holds : (is_captured : Bool) → bytes_eq partial_block_name v.name ≡ is_captured
          → Goes s (include_other occurrence view found_there s is_captured)
      include_other-holds true is =
          write_captured-holds v tagged (instead_of_captured is) s (newest s.captured)
          (λ none lacks. closed.fails comes (for_no_block tag viewed is none lacks)) fits (closed.newest_captured well)
      include_other-holds false is = include_partial-holds is found_there refl

    include_named-holds : (is_itself : Bool) → is_current v.name before.current ≡ is_itself → law.IsWell s
        → law.Fits occurrence before s
        → Goes s (include_named occurrence view (partial_for p.parts before v.name (decorator_body t)) s is_itself)
    include_named-holds true is well fits = λ h end i le next g. closed.fails comes (for_itself tag viewed is)
    include_named-holds false is well fits =
        include_other-holds fits well is (bytes_eq partial_block_name v.name) refl

    include_tag-holds : law.Fits occurrence before s → Goes s (include_tag occurrence t v)
    unfolding ◌>>=◌
    include_tag-holds fits h = include_named-holds (is_current v.name before.current) refl h fits h

  pub render_partial-holds : law.Fits occurrence before before → Goes before (render_partial occurrence t)
  unfolding ◌>>=◌
  render_partial-holds fits h end i le next g =
      ask-holds p law this end i before (view_of (decorator_name t) (decorator_args t)) _
      (λ r failed. closed.fails comes (for_inclusion_view r tag failed)) (λ v viewed.
      on_line-holds p law closed this before (line_at (decorator_marks t)) (include_tag occurrence t v)
      (include_tag-holds _ v viewed (closed.next_fits fits (closed.line_next _ h))) h end i le next g)
