-- Decorators and inclusions that lead as a rule has it go on so.
use Rattle.std.proofs.Common.{◌≡◌, Bool, true, false, List, [], ◌∷◌, refl, sym, ◌∙◌, subst, Option, None, Some, unwrap_or, cond}
use Rattle.std.specs.List.{AllByRecursion}
use Rattle.std.specs.Str.{bytes_eq}
use Rattle.std.proofs.lemmas.Slice.Eq.{bytes_eq-Decides}
use Rattle.serde_json.specs.Data.{Data}
use Rattle.handlebars_base.specs.Bytes.{Text}
use Rattle.handlebars_base.specs.PathAndData.{PathAndData}
use Rattle.handlebars_base.specs.Scoped.{data_in}
use Rattle.handlebars_template.specs.Tree.{Tree, tree_name, Decorator, decorator, Args, Body, no_body, body}
use Rattle.handlebars_scope.specs.Resolve.{or_else}
use Rattle.handlebars_scope.specs.Scopes.{Frame}
use Rattle.handlebars_helpers.specs.Decoration.{DecoratorView, Action, sets_data, binds, unbinds, sets_partial}
use Rattle.handlebars_semantics.specs.Inclusion.{partial_for, local_or_other, is_current, newest, hash_data, inclusion_frame, joined_indent}
use Rattle.handlebars_semantics.specs.Including.{render_own_block, write_captured, partial_block_name, this_param, base_value, render_ahead, include_tree, include_partial, include_other, include_named}
use Rattle.handlebars_semantics.specs.Means.{shown_tag, set_partial, do_action, do_actions, render_decorator, line_at, include_tag, render_partial}
use Rattle.handlebars_semantics.specs.Occurrences.{as_part, TreeOccurrence, body_at, included_at, Occurrence}
use Rattle.handlebars_semantics.specs.Pieces.{Piece}
use Rattle.handlebars_semantics.specs.Questions.{value_of, view_of, decorator_of, actions_of}
use Rattle.handlebars_semantics.specs.State.{Setting, State, nearest_variables, partial_in, with_partial}
use Rattle.handlebars_semantics.specs.Steps.{Steps, Prog, return, ◌>>=◌, ◌>>◌}
use Rattle.handlebars_html.specs.Rule.{Rule, Table, written_name, inline_name, IsNamed, NameLeads, WrittenLeads, Leads, DecoratorLeads, InclusionLeads, BlockLeadsTo}
use Rattle.handlebars_html.specs.Usual.{IsUsual, IsClosed}
use Rattle.handlebars_html.proofs.Calls.{none-some}
use Rattle.handlebars_html.proofs.Effects.{IsSet}
use Rattle.handlebars_html.proofs.Plans.{Meaning, IsCaptured, IsWellFrame, IsWell, Plan}
use Rattle.handlebars_html.proofs.Programs.{Goes, blocks-well, outer-well, nearest-well, answer-goes, on_line-goes}
use Rattle.handlebars_html.proofs.Targets.{view-named, actions-set}
use Rattle.handlebars_html.proofs.Weaker.{Leads-weaker}

some-tree : (x y : Tree) → Some x ≡ Some y → x ≡ y
some-tree x y e = cc

module _ (p : Setting) (rule : Rule) (table : Table rule) (meaning : Meaning p rule) where
  -- ---- inline partials

  module _ (h : rule.Known) (xs : Args) (b : Body)
      (block : (m : Text) → IsNamed (inline_name xs) m → (g : rule.Known) → table.enters m g
      → BlockLeadsTo rule table b g (table.leaves m g)) where
    with_partial-frame : (n : Text) (t : Tree) → b ≡ body t → IsNamed (inline_name xs) n → (f : Frame)
        → IsWellFrame p rule table meaning f → IsWellFrame p rule table meaning (with_partial n t f)
    with_partial-frame n t same named f frame m x found g enters = choose (bytes_eq n m) refl found
      where
        choose : (test : Bool) → bytes_eq n m ≡ test → cond test (Some t) (f.partial m) ≡ Some x
            → Leads rule table x g (table.leaves m g)
        choose true e there =
            let one : n ≡ m = (bytes_eq-Decides n m).0 e in
            let leads = block n named g (subst (λ (z : Text). table.enters z g) (sym one) enters) in
            subst (λ (z : Tree). Leads rule table z g (table.leaves m g)) (some-tree t x there)
            (subst (λ (z : Text). Leads rule table t g (table.leaves z g)) one
            (subst (λ (z : Body). BlockLeadsTo rule table z g (table.leaves n g)) same leads))
        choose false e there = frame m x there g enters

    set_partial-goes : (s : State) (n : Text) (y : Body) → b ≡ y → IsNamed (inline_name xs) n
        → Goes p rule table meaning true (λ g. g ≡ h) h s (set_partial n y)
    unfolding ◌>>=◌
    set_partial-goes s n no_body same named w last next g = tt
    set_partial-goes s n (body t) same named w last next g =
        g h _ refl (blocks-well p rule table meaning _ w
        (nearest-well p rule table meaning (with_partial n t) s.blocks (with_partial-frame n t same named) w.frames))

    do_action-goes : (s : State) (action : Action) → IsSet xs action
        → Goes p rule table meaning true (λ g. g ≡ h) h s (do_action b action)
    do_action-goes s (sets_partial n) named = set_partial-goes s n b refl named
    do_action-goes s (sets_data d) named = absurd named
    do_action-goes s (binds n l) named = absurd named
    do_action-goes s (unbinds n) named = absurd named

    do_actions-go : (end : rule.Known → Type 0) → end h → (actions : List Action) (s : State) → AllByRecursion (IsSet xs) actions
        → Goes p rule table meaning true end h s (do_actions b actions)
    unfolding ◌>>◌
    do_actions-go end is [] s all w last next g = g h s is w
    do_actions-go end is (action ∷ actions) s all w last next g =
        do_action-goes s action all.0 w last (λ u. do_actions b actions next)
        (λ y z same wz. subst (λ (x : rule.Known). Plan p rule table meaning last x z (do_actions b actions next)) (sym same)
        (do_actions-go end is actions z all.1 wz last next g))

  -- ---- the tag of an inclusion

  joined-indent : (i own : Option Text) → rule.MayIndent (unwrap_or i []) → rule.MayIndent (unwrap_or own [])
      → rule.MayIndent (unwrap_or (joined_indent i own) [])
  joined-indent None own x y = y
  joined-indent (Some i) None x y = x
  joined-indent (Some i) (Some own) x y = meaning.join_indent i own x y

  newest-captured : (ks : List (Option (List Piece))) → AllByRecursion (IsCaptured p rule table meaning) ks
      → IsCaptured p rule table meaning (newest ks)
  newest-captured [] all = tt
  newest-captured (k ∷ ks) all = all.0

  partial-leads : (fs : List Frame) → AllByRecursion (IsWellFrame p rule table meaning) fs → (n : Text) (t : Tree)
      → partial_in fs n ≡ Some t → (h : rule.Known) → table.enters n h → Leads rule table t h (table.leaves n h)
  partial-leads [] all n t is = none-some is
  partial-leads (f ∷ fs) all n t is = choose (partial-leads fs all.1 n t) (f.partial n) refl is
    where
      choose : (partial_in fs n ≡ Some t → (h : rule.Known) → table.enters n h → Leads rule table t h (table.leaves n h))
          → (o : Option Tree) → f.partial n ≡ o → or_else o (partial_in fs n) ≡ Some t → (h : rule.Known) → table.enters n h
          → Leads rule table t h (table.leaves n h)
      choose rest None e is = rest is
      choose rest (Some x) e is = all.0 n t (e ∙ is)

  module _ (end : rule.Known → Type 0) (h : rule.Known) (occurrence : Occurrence) (b : Body) (block : BlockLeadsTo rule table b h end)
      (ahead : BlockLeadsTo rule table b rule.captured (λ g. g ≡ rule.captured)) where
    -- The block is rendered in its place; or the captured text is written, where it may stand.
    render_own_block-goes : (s : State) (x : Body) → BlockLeadsTo rule table x h end
        → Goes p rule table meaning true end h s (render_own_block occurrence x s)
    unfolding ◌>>=◌ ◌>>◌
    render_own_block-goes s no_body is w last next g = tt
    render_own_block-goes s (body t) is w last next g = (
      w,
      (
        h,
        meaning.nothing h,
        Leads-weaker rule table t h end _ (λ y e z wz. g y _ e (record {
          escaping = wz.escaping;
          indent = w.indent;
          frames = wz.frames;
          captured = wz.captured;
          local = wz.local;
        })) is,
      ),
    )

    write_captured-goes : (s : State) (k : Option (List Piece)) → IsCaptured p rule table meaning k → h ≡ rule.captured
        → end rule.captured → Goes p rule table meaning true end h s (write_captured occurrence b s k)
    write_captured-goes s None may same is = render_own_block-goes s b block
    write_captured-goes s (Some ps) may same is = λ w last next g.
        (rule.captured, subst (λ (x : rule.Known). meaning.Emits x ps rule.captured) (sym same) may, g rule.captured s is w)

    -- The block is rendered ahead, and captured, or none is.
    GoesAhead : Prog (Option (List Piece)) → Type 1
    GoesAhead m = (s : State) → IsWell p rule table meaning true s → (last : rule.Known → State → Type 0)
        → (next : Option (List Piece) → Steps)
        → ((k : Option (List Piece)) → IsCaptured p rule table meaning k → (z : State) → IsWell p rule table meaning true z
        → Plan p rule table meaning last h z (next k)) → Plan p rule table meaning last h s (m next)

    return-ahead : GoesAhead (return None)
    unfolding GoesAhead
    return-ahead s w last next g = g None tt s w

    render_ahead-goes : (x : Body) → BlockLeadsTo rule table x rule.captured (λ g. g ≡ rule.captured)
        → GoesAhead (render_ahead occurrence x)
    unfolding GoesAhead ◌>>=◌
    render_ahead-goes no_body is s w last next g = g None tt s w
    render_ahead-goes (body t) is s w last next g = (
      h,
      meaning.nothing h,
      (
        w,
        (
          rule.captured,
          meaning.nothing rule.captured,
          Leads-weaker rule table t rule.captured (λ g. g ≡ rule.captured) _
              (λ y same z wz. (y, meaning.nothing y, (same, λ ps kept. g (Some ps) kept z wz))) is,
        ),
      ),
    )

    base_value-goes : (s : State) (xs : List PathAndData) (last : rule.Known → State → Type 0) (next : Data → Steps)
        → ((d : Data) → Plan p rule table meaning last h s (next d)) → Plan p rule table meaning last h s (base_value xs next)
    unfolding ◌>>=◌
    base_value-goes s [] last next g =
        answer-goes p rule table meaning last h s (value_of this_param) _ (λ found is. g (data_in found))
    base_value-goes s (x ∷ xs) last next g = g (data_in x.found)

    frame-well : (d : Data) (hs : List (Text × Data)) (variables : Text → Option Data)
        → IsWellFrame p rule table meaning (inclusion_frame d hs variables)
    frame-well d hs variables n t e = none-some e

    -- A tree is included, which leads to the end.
    include_tree-goes : (s : State) (v : DecoratorView) (at : TreeOccurrence) (x : Tree) (m : Prog (Option (List Piece)))
        → rule.MayIndent (unwrap_or v.indent []) → GoesAhead m → Leads rule table x h end
        → Goes p rule table meaning true end h s (include_tree v at x m)
    unfolding GoesAhead ◌>>=◌ ◌>>◌
    include_tree-goes s v at x m indent goes is w last next g =
        base_value-goes s v.call.params last _ (λ d.
        goes _ (blocks-well p rule table meaning _ w (frame-well d (hash_data v.call.hash) (nearest_variables s.blocks), w.frames)) last _
        (λ k may z wz. (
          record {
            escaping = wz.escaping;
            indent = indent;
            frames = wz.frames;
            captured = (may, wz.captured);
            local = wz.local;
          },
          (
            h,
            meaning.nothing h,
            Leads-weaker rule table x h end _ (λ y e z1 w1. g y _ e (record {
              escaping = w1.escaping;
              indent = w.indent;
              frames = outer-well p rule table meaning z1.blocks w1.frames;
              captured = w.captured;
              local = w1.local;
            })) is,
          ),
        )))

    -- what is found is included
    include_partial-goes : IsClosed p rule table → (s : State) (v : DecoratorView) → v.body ≡ b
        → rule.MayIndent (unwrap_or v.indent []) → AllByRecursion (IsWellFrame p rule table meaning) s.blocks
        → table.enters v.call.name h × ((g : rule.Known) → table.leaves v.call.name h g → end g)
        → (l o : Option Tree) → partial_in s.blocks v.call.name ≡ l → p.parts.template v.call.name ≡ o
        → Goes p rule table meaning true end h s (include_partial occurrence v (local_or_other l o v.body))
    include_partial-goes closed s v same indent frames enters (Some t) o local stored =
        include_tree-goes s v (included_at occurrence (tree_name t) t) t (render_ahead occurrence v.body) indent
        (render_ahead-goes v.body (subst (λ (x : Body). BlockLeadsTo rule table x rule.captured (λ g. g ≡ rule.captured)) (sym same) ahead))
        (Leads-weaker rule table t h _ end enters.1 (partial-leads s.blocks frames v.call.name t local h enters.0))
    include_partial-goes closed s v same indent frames enters None (Some t) local stored =
        include_tree-goes s v (included_at occurrence (Some v.call.name) t) t (render_ahead occurrence v.body) indent
        (render_ahead-goes v.body (subst (λ (x : Body). BlockLeadsTo rule table x rule.captured (λ g. g ≡ rule.captured)) (sym same) ahead))
        (Leads-weaker rule table t h _ end enters.1 (closed v.call.name t stored h enters.0))
    include_partial-goes closed s v same indent frames enters None None local stored = by v.body same
      where
        by : (x : Body) → x ≡ b
            → Goes p rule table meaning true end h s (include_partial occurrence v (local_or_other None None x))
        by no_body e = λ w last next g. tt
        by (body t) e = include_tree-goes s v (body_at occurrence (as_part 0)) t (return None) indent return-ahead
            (subst (λ (x : Body). BlockLeadsTo rule table x h end) (sym e) block)

    include_named-goes : IsClosed p rule table → (s : State) (v : DecoratorView) → v.body ≡ b
        → rule.MayIndent (unwrap_or v.indent []) → NameLeads rule table v.call.name h end → IsWell p rule table meaning true s
        → (itself : Bool)
        → Goes p rule table meaning true end h s (include_named occurrence v (partial_for p.parts s v.call.name v.body) s itself)
    include_named-goes closed s v same indent may w true = λ w last next g. tt
    include_named-goes closed s v same indent may w false = other (bytes_eq partial_block_name v.call.name) refl
      where
        other : (is_captured : Bool) → bytes_eq partial_block_name v.call.name ≡ is_captured
            → Goes p rule table meaning true end h s
            (include_other occurrence v (partial_for p.parts s v.call.name v.body) s is_captured)
        other true e =
            subst (λ (x : Body). Goes p rule table meaning true end h s (write_captured occurrence x s (newest s.captured))) (sym same)
            (write_captured-goes s (newest s.captured) (newest-captured s.captured w.captured) (may.0 e).0 (may.0 e).1)
        other false e = include_partial-goes closed s v same indent w.frames (may.1 e) (partial_in s.blocks v.call.name)
            (p.parts.template v.call.name) refl refl

  name-leads : (o : Option Text) (n : Text) (end : rule.Known → Type 0) (h : rule.Known) → IsNamed o n
      → WrittenLeads rule table o h end → NameLeads rule table n h end
  name-leads None n end h named is = absurd is
  name-leads (Some m) n end h named is = subst (λ (x : Text). NameLeads rule table x h end) (sym named) is

  module _ (usual : IsUsual p table.registered) where
    pub render_decorator-goes : (end : rule.Known → Type 0) (h : rule.Known) (s : State) (t : Decorator)
        → DecoratorLeads rule table t h end → Goes p rule table meaning true end h s (render_decorator t)
    unfolding ◌>>=◌
    render_decorator-goes end h s (decorator n xs b marks) leads w last next g =
        let t : Decorator = decorator n xs b marks in
        answer-goes p rule table meaning last h s (view_of n xs) _ (λ v viewed.
        answer-goes p rule table meaning last h s (decorator_of v.name) _ (λ k named.
        answer-goes p rule table meaning last h s (actions_of k (shown_tag s.indent t v)) _ (λ actions answered.
        do_actions-go h xs b leads.1 end leads.0 actions s
        (actions-set p table.registered usual s w.local n xs (shown_tag s.indent t v) viewed k named actions answered) w last next g)))

    pub render_partial-goes : IsClosed p rule table → (end : rule.Known → Type 0) (h : rule.Known) (s : State)
        → (occurrence : Occurrence) (t : Decorator) → InclusionLeads rule table t h end
        → Goes p rule table meaning true end h s (render_partial occurrence t)
    unfolding ◌>>=◌
    render_partial-goes closed end h s occurrence (decorator n xs b marks) leads w last next g =
        let t : Decorator = decorator n xs b marks in
        answer-goes p rule table meaning last h s (view_of n xs) _ (λ v viewed.
        on_line-goes p rule table meaning true end h s (line_at marks) (include_tag occurrence t v)
        (λ wl last next g. include_named-goes end h occurrence b leads.2 leads.3 closed _ (shown_tag s.indent t v) refl
        (joined-indent s.indent marks.indent w.indent leads.0)
        (name-leads (written_name n) v.name end h (view-named p table.registered usual s w.local n xs v viewed) leads.1) wl
        (is_current v.name s.current) wl last next g) w last next g)
