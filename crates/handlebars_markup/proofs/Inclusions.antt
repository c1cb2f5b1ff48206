-- Inclusions do the same, up to texts, in states that are equal up to texts.
use Rattle.std.proofs.Common.{◌≡◌, Bool, true, false, List, [], ◌∷◌, Option, Some, None, refl, ap, ◌∙◌, subst}
use Rattle.std.specs.Str.{bytes_eq}
use Rattle.serde_json.specs.Data.{Data}
use Rattle.handlebars_base.specs.Bytes.{Text}
use Rattle.handlebars_base.specs.PathAndData.{PathAndData}
use Rattle.handlebars_base.specs.Reasons.{partial_not_found}
use Rattle.handlebars_base.specs.RenderRefusals.{plain_refusal}
use Rattle.handlebars_base.specs.Scoped.{data_in}
use Rattle.handlebars_template.specs.Tree.{Tree, tree_name, args_hash, lacks_hash, Decorator, decorator_name, decorator_args, decorator_body, decorator_marks, Body, no_body, body}
use Rattle.handlebars_helpers.specs.CallView.{CallView}
use Rattle.handlebars_semantics.specs.Including.{render_own_block, write_captured, partial_block_name, this_param, base_value, render_ahead, include_tree, include_partial, include_other, include_named, include}
use Rattle.handlebars_semantics.specs.Inclusion.{Partial, is_local, is_registered, is_own_block, is_nowhere, own_block, registered_or_own, local_or_other, partial_for, is_current, newest, hash_data, inclusion_frame, joined_indent, named_as_before, end_inclusion}
use Rattle.handlebars_semantics.specs.Means.{shown_tag, line_at, include_tag, render_partial}
use Rattle.handlebars_semantics.specs.Pieces.{Piece}
use Rattle.handlebars_semantics.specs.Questions.{IsAnswered, value_of, view_of}
use Rattle.handlebars_semantics.specs.Occurrences.{as_part, TreeOccurrence, body_at, included_at, Occurrence}
use Rattle.handlebars_semantics.specs.State.{Setting, State, push_frame, nearest_variables, partial_in}
use Rattle.handlebars_semantics.specs.Steps.{Steps, Prog, return, ◌>>=◌, ◌>>◌}
use Rattle.handlebars_laws.proofs.RunStates.{None≢Some}
use Rattle.handlebars_markup.specs.Alike.{AreAlike}
use Rattle.handlebars_markup.specs.Blind.{IsStaticName, IsUnmarkedIndent, IsBlindTree, AreBlindArgs, IsBlindBody}
use Rattle.handlebars_markup.specs.TwoRuns.{registrations}
use Rattle.handlebars_markup.proofs.Alikeness.{AreAlikeLists, AreAlikeFound, AreAlikeParams}
use Rattle.handlebars_markup.proofs.AlikeRuns.{DoAlike}
use Rattle.handlebars_markup.proofs.Asked.{AreAnswered-weaker}
use Rattle.handlebars_markup.proofs.Frames.{inclusion_frame-alike, nearest_variables-alike, partial_in-alike}
use Rattle.handlebars_markup.proofs.Marks.{marks_in-joined_indent}
use Rattle.handlebars_markup.proofs.Programs.{AreSides, LeadAlike, ask-alike, on_line-alike}
use Rattle.handlebars_markup.proofs.States.{AreAlikeCaptured, newest-alike, partial_in-blind, push_frame-alike, named_as_before-alike, begin_inclusion-alike, end_inclusion-alike}
use Rattle.handlebars_markup.proofs.TwoSettings.{HasTwin, twin}
use Rattle.handlebars_markup.proofs.Values.{data_in-alike}
use Rattle.handlebars_markup.proofs.Views.{AreValuesOf, AreViewsOf, HasValue-alike, HasView-alike}

-- ---- what is found

partial_for-alike : (p : Setting) (w : HasTwin p) (s t : State) (n m : Text) (b : Body) → AreSides p w s t → n ≡ m
    → partial_for p.parts s n b ≡ partial_for p.parts t m b
partial_for-alike p w s t n m b h same =
    ap (λ (o : Option Tree). local_or_other o (p.parts.template n) b) (partial_in-alike s.blocks t.blocks n h.blocks)
    ∙ ap (λ (z : Text). local_or_other (partial_in t.blocks z) (p.parts.template z) b) same

is_current-alike : (n m : Text) (o q : Option Text) → n ≡ m → o ≡ q → is_current n o ≡ is_current m q
is_current-alike n m o q e k = λ i. is_current (e i) (k i)

module _ (p : Setting) (w : HasTwin p) where
  abbrev IsBlindPartial : Partial → Type 0
  IsBlindPartial (is_local t) = IsBlindTree (registrations p.parts) t
  IsBlindPartial (is_registered t) = IsBlindTree (registrations p.parts) t
  IsBlindPartial (is_own_block t) = IsBlindTree (registrations p.parts) t
  IsBlindPartial is_nowhere = Unit {0}

  own_block-blind : (b : Body) → IsBlindBody (registrations p.parts) b → IsBlindPartial (own_block b)
  own_block-blind no_body k = tt
  own_block-blind (body t) k = k

  registered_or_own-blind : (n : Text) (b : Body) (o : Option Tree) → p.parts.template n ≡ o
      → IsBlindBody (registrations p.parts) b → IsBlindPartial (registered_or_own o b)
  registered_or_own-blind n b None is k = own_block-blind b k
  registered_or_own-blind n b (Some t) is k = w.blind.stored n t is

  local_or_other-blind : (n : Text) (b : Body) (l o : Option Tree)
      → ((t : Tree) → l ≡ Some t → IsBlindTree (registrations p.parts) t) → p.parts.template n ≡ o
      → IsBlindBody (registrations p.parts) b → IsBlindPartial (local_or_other l o b)
  local_or_other-blind n b None o local is k = registered_or_own-blind n b o is k
  local_or_other-blind n b (Some t) o local is k = local t refl

  partial_for-blind : (s t : State) (n : Text) (b : Body) → AreSides p w s t → IsBlindBody (registrations p.parts) b
      → IsBlindPartial (partial_for p.parts s n b)
  partial_for-blind s t n b h k = local_or_other-blind n b (partial_in s.blocks n) (p.parts.template n)
      (λ x is. partial_in-blind (registrations p.parts) s.blocks h.partials n x is) refl k

  -- ---- the block of the tag

  render_own_block-alike : (s t : State) (occurrence : Occurrence) (b : Body) → AreSides p w s t
      → IsBlindBody (registrations p.parts) b
      → LeadAlike p w s (render_own_block occurrence b s) t (render_own_block occurrence b t)
  unfolding ◌>>=◌ ◌>>◌
  render_own_block-alike s t occurrence no_body h k next next' g = refl
  render_own_block-alike s t occurrence (body x) h k next next' g = (
    refl,
    k,
    h,
    λ n n' a. g (named_as_before s n) (named_as_before t n')
        (named_as_before-alike (registrations p.parts) s t n n' h a),
  )

  write_captured-alike : (s t : State) (occurrence : Occurrence) (b : Body) (o q : Option (List Piece)) → AreSides p w s t
      → IsBlindBody (registrations p.parts) b → AreAlikeCaptured o q
      → LeadAlike p w s (write_captured occurrence b s o) t (write_captured occurrence b t q)
  write_captured-alike s t occurrence b None None h k same next next' g = render_own_block-alike s t occurrence b h k next next' g
  write_captured-alike s t occurrence b (Some ps) (Some qs) h k same next next' g = (same, g s t h)
  write_captured-alike s t occurrence b o q h k same next next' g = absurd same

  -- what holds of a block that is rendered ahead, or of none
  abbrev LeadsAhead : Prog (Option (List Piece)) → Type 0
  LeadsAhead ahead = (s t : State) (next next' : Option (List Piece) → Steps) → AreSides p w s t
      → ((o q : Option (List Piece)) (n n' : State) → AreAlikeCaptured o q → AreSides p w n n'
      → DoAlike p w n (next o) n' (next' q)) → DoAlike p w s (ahead next) t (ahead next')

  render_ahead-alike : (occurrence : Occurrence) (b : Body) → IsBlindBody (registrations p.parts) b → LeadsAhead (render_ahead occurrence b)
  unfolding ◌>>=◌
  render_ahead-alike occurrence no_body k s t next next' h g = g None None s t tt h
  render_ahead-alike occurrence (body x) k s t next next' h g =
      ((refl, k, h, λ n m a. a), λ ps qs n n' same a. g (Some ps) (Some qs) n n' same a)

  none-alike : LeadsAhead (return None)
  none-alike s t next next' h g = g None None s t tt h

  -- ---- the value of the inclusion's scope frame

  base_value-alike : (s t : State) (xs ys : List PathAndData) (next next' : Data → Steps) → AreSides p w s t
      → AreAlikeLists AreAlikeParams xs ys → ((d e : Data) → AreAlike d e → DoAlike p w s (next d) t (next' e))
      → DoAlike p w s (base_value xs next) t (base_value ys next')
  unfolding ◌>>=◌
  base_value-alike s t [] [] next next' h k g =
      ask-alike p w AreAlikeFound s t (IsAnswered p s (value_of this_param)) (IsAnswered (twin p w) t (value_of this_param))
      (λ x. next (data_in x)) (λ y. next' (data_in y))
      (AreAnswered-weaker (AreValuesOf this_param) AreAlikeFound (IsAnswered p s (value_of this_param))
      (IsAnswered (twin p w) t (value_of this_param)) (HasValue-alike p w s t h this_param tt) (λ x y a. a.0))
      (λ x y a. g (data_in x) (data_in y) (data_in-alike x y a))
  base_value-alike s t (x ∷ xs) (y ∷ ys) next next' h k g =
      g (data_in x.found) (data_in y.found) (data_in-alike x.found y.found k.0.found)
  base_value-alike s t xs ys next next' h k g = absurd k

  -- ---- the tag of an inclusion

  module _ (x : Decorator) (lone : lacks_hash (args_hash (decorator_args x)) ≡ true)
      (blind_body : IsBlindBody (registrations p.parts) (decorator_body x))
      (unmarked : IsUnmarkedIndent (decorator_marks x)) where
    -- two views of the tag
    abbrev AreViews : CallView → CallView → Type 0
    AreViews v u = AreViewsOf (λ n. true) (decorator_args x) v u

    include_tree-alike : (s t : State) (v u : CallView) (at : TreeOccurrence) (tr : Tree) (ahead : Prog (Option (List Piece)))
        → AreSides p w s t → AreViews v u → IsBlindTree (registrations p.parts) tr → LeadsAhead ahead
        → LeadAlike p w s (include_tree (shown_tag s.indent x v) at tr ahead) t
        (include_tree (shown_tag t.indent x u) at tr ahead)
    unfolding ◌>>=◌ ◌>>◌
    include_tree-alike s t v u at tr ahead h e blind leads_ahead next next' g =
        let own = (decorator_marks x).indent in
        let variables = nearest_variables s.blocks in
        let others = nearest_variables t.blocks in (
          h.inclusions,
          base_value-alike s t v.params u.params _ _ h e.views.params
              (λ d d' k.
              let f = inclusion_frame d (hash_data v.hash) variables in
              let f' = inclusion_frame d' (hash_data u.hash) others in
              leads_ahead (push_frame f s) (push_frame f' t) _ _
              (push_frame-alike (registrations p.parts) s t f f' h
              (inclusion_frame-alike d d' v.hash u.hash variables others k (e.lone lone) e.views.hash
              (nearest_variables-alike s.blocks t.blocks h.blocks)) (λ n z i. None≢Some i))
              (λ o q n n' same a. (
                refl,
                blind,
                begin_inclusion-alike (registrations p.parts) n n' (joined_indent s.indent own)
                    (joined_indent t.indent own) o q a (ap (λ z. joined_indent z own) h.indent)
                    (marks_in-joined_indent s.indent own h.unmarked unmarked) same,
                λ y y' last. g (end_inclusion s y) (end_inclusion t y')
                    (end_inclusion-alike (registrations p.parts) s t y y' h last),
              ))),
        )

    include_partial-alike : (s t : State) (occurrence : Occurrence) (v u : CallView) (found : Partial) → AreSides p w s t → AreViews v u
        → IsBlindPartial found
        → LeadAlike p w s (include_partial occurrence (shown_tag s.indent x v) found) t
        (include_partial occurrence (shown_tag t.indent x u) found)
    include_partial-alike s t occurrence v u (is_local tr) h e k =
        include_tree-alike s t v u (included_at occurrence (tree_name tr) tr) tr (render_ahead occurrence (decorator_body x)) h e k
        (render_ahead-alike occurrence (decorator_body x) blind_body)
    include_partial-alike s t occurrence v u (is_registered tr) h e k =
        let ahead = render_ahead occurrence (decorator_body x) in
        subst (λ (n : Text). LeadAlike p w s (include_tree (shown_tag s.indent x v) (included_at occurrence (Some v.name) tr) tr ahead) t
        (include_tree (shown_tag t.indent x u) (included_at occurrence (Some n) tr) tr ahead)) e.views.name
        (include_tree-alike s t v u (included_at occurrence (Some v.name) tr) tr ahead h e k
        (render_ahead-alike occurrence (decorator_body x) blind_body))
    include_partial-alike s t occurrence v u (is_own_block tr) h e k =
        include_tree-alike s t v u (body_at occurrence (as_part 0)) tr (return None) h e k none-alike
    include_partial-alike s t occurrence v u is_nowhere h e k = λ next next' g.
        ap (λ (n : Text). plain_refusal (partial_not_found n)) e.views.name

    include_other-alike : (s t : State) (occurrence : Occurrence) (v u : CallView) (found : Partial) (b : Bool) → AreSides p w s t
        → AreViews v u → IsBlindPartial found
        → LeadAlike p w s (include_other occurrence (shown_tag s.indent x v) found s b) t
        (include_other occurrence (shown_tag t.indent x u) found t b)
    include_other-alike s t occurrence v u found true h e k next next' g =
        write_captured-alike s t occurrence (decorator_body x) (newest s.captured) (newest t.captured) h blind_body
        (newest-alike s.captured t.captured h.captured) next next' g
    include_other-alike s t occurrence v u found false h e k next next' g =
        include_partial-alike s t occurrence v u found h e k next next' g

    include_named-alike : (s t : State) (occurrence : Occurrence) (v u : CallView) (found : Partial) (b : Bool) → AreSides p w s t
        → AreViews v u → IsBlindPartial found
        → LeadAlike p w s (include_named occurrence (shown_tag s.indent x v) found s b) t
        (include_named occurrence (shown_tag t.indent x u) found t b)
    include_named-alike s t occurrence v u found true h e k next next' g = refl
    include_named-alike s t occurrence v u found false h e k next next' g =
        let captured = bytes_eq partial_block_name v.name in
        subst (λ (n : Text). DoAlike p w s (include_other occurrence (shown_tag s.indent x v) found s captured next) t
        (include_other occurrence (shown_tag t.indent x u) found t (bytes_eq partial_block_name n) next')) e.views.name
        (include_other-alike s t occurrence v u found captured h e k next next' g)

    include-alike : (s t : State) (occurrence : Occurrence) (v u : CallView) → AreSides p w s t → AreViews v u
        → LeadAlike p w s (include occurrence (shown_tag s.indent x v)) t (include occurrence (shown_tag t.indent x u))
    unfolding ◌>>=◌
    include-alike s t occurrence v u h e next next' g =
        let found = partial_for p.parts s v.name (decorator_body x) in
        let itself = is_current v.name s.current in
        subst (λ (z : Partial). DoAlike p w s (include_named occurrence (shown_tag s.indent x v) found s itself next) t
        (include_named occurrence (shown_tag t.indent x u) z t (is_current u.name t.current) next'))
        (partial_for-alike p w s t v.name u.name (decorator_body x) h e.views.name)
        (subst (λ (b : Bool). DoAlike p w s (include_named occurrence (shown_tag s.indent x v) found s itself next) t
        (include_named occurrence (shown_tag t.indent x u) found t b next'))
        (is_current-alike v.name u.name s.current t.current e.views.name h.current)
        (include_named-alike s t occurrence v u found itself h e (partial_for-blind s t v.name (decorator_body x) h blind_body)
        next next' g))

    include_tag-alike : (s t : State) (occurrence : Occurrence) (v u : CallView) → AreSides p w s t → AreViews v u
        → LeadAlike p w s (include_tag occurrence x v) t (include_tag occurrence x u)
    unfolding ◌>>=◌
    include_tag-alike s t occurrence v u h e next next' g = include-alike s t occurrence v u h e next next' g

    pub render_partial-alike : (s t : State) (occurrence : Occurrence) → AreSides p w s t → IsStaticName (λ n. true) (decorator_name x)
        → AreBlindArgs (registrations p.parts) (decorator_args x)
        → LeadAlike p w s (render_partial occurrence x) t (render_partial occurrence x)
    unfolding ◌>>=◌
    render_partial-alike s t occurrence h written blind_args next next' g =
        ask-alike p w AreViews s t (IsAnswered p s (view_of (decorator_name x) (decorator_args x)))
        (IsAnswered (twin p w) t (view_of (decorator_name x) (decorator_args x))) _ _
        (HasView-alike p w s t h (λ n. true) (decorator_name x) (decorator_args x) written blind_args)
        (λ v u e. on_line-alike p w s t (line_at (decorator_marks x)) (include_tag occurrence x v) (include_tag occurrence x u)
        (include_tag-alike (record s { line = line_at (decorator_marks x) s.line })
        (record t { line = line_at (decorator_marks x) t.line }) occurrence v u h e) next next' g)
