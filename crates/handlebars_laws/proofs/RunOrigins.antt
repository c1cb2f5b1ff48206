-- All that a run writes has an origin, and each occurrence to which it comes is in a tree of the run.
use Rattle.std.proofs.Common.{◌≡◌, List, [], Bool, true, false, not, ◌||◌, refl, sym, ap, ◌∙◌, subst, unwrap_or, Option, Some, None, option_and_then, arith}
use Rattle.std.specs.List.{Contains}
use Rattle.std.proofs.lemmas.List.Elements.{Contains-append_left, Contains-append_right}
use Rattle.handlebars_base.specs.Bytes.{Text}
use Rattle.handlebars_base.specs.Optional.{with_or}
use Rattle.handlebars_base.specs.Scoped.{Found, present_in}
use Rattle.handlebars_base.specs.Values.{boolean_text}
use Rattle.handlebars_template.specs.Tree.{Tree, tree_name, Element, html_expression, Call, Decorator}
use Rattle.handlebars_scope.specs.Scopes.{Frame}
use Rattle.handlebars_helpers.specs.CallView.{CallView}
use Rattle.handlebars_helpers.specs.Iterations.{iteration_frame}
use Rattle.handlebars_semantics.specs.Laws.{IsPlain, alone}
use Rattle.handlebars_semantics.specs.Means.{render_alone}
use Rattle.handlebars_semantics.specs.Origins.{IsWithin, nth_in, nth_position, element_call, element_body, element_inverse, tree_occurrence_of, tree_at, element_at, shown_call, is_html, is_raw_tree, is_raw_occurrence, WritesValue, IsReached, IsVisited, IsCalled, Shows, IsOfShown, HaveOrigins, IsTagged, AreIndents, around_body, around_block, around_inverse, set_by, passed_in, IsTreeOfRun, is_first, is_body, is_inverse, is_local_of, is_stored, IsOccurrenceOfRun, OccurInTrees, IsOfText, IsWriter, writes_text, writes_shown}
use Rattle.handlebars_semantics.specs.Pieces.{of_text, of_value, of_raw, of_step, Piece}
use Rattle.handlebars_semantics.specs.Runs.{Outcome, Runs, Means}
use Rattle.handlebars_semantics.specs.Occurrences.{TreeOccurrence, first_tree, Occurrence, element_in}
use Rattle.handlebars_semantics.specs.State.{Setting, State, with_partial}
use Rattle.handlebars_semantics.specs.Steps.{Task, One, Whole, Done, Do}
use Rattle.handlebars_semantics.specs.Visits.{Visit, arrival, visits}
use Rattle.handlebars_semantics.specs.Writing.{rendered_if_any}
use Rattle.handlebars_laws.proofs.Closed.{ComesToCall, ComesToTag, Closed}
use Rattle.handlebars_laws.proofs.Law.{Law, Obeys, IsSound, Runs-obeys}
use Rattle.handlebars_laws.proofs.Lists.{All-append}
use Rattle.handlebars_laws.proofs.OriginPieces.{HaveOrigins-prefix, all-within, pieces_of-origins, put-origins}
use Rattle.handlebars_laws.proofs.RunStates.{included_at-indents, own_block-indents, no_indent-indents, IsFrameOfRun, IsOfRun, IsReachedFrom, newest-origins, outer_frames-frames, nearest_as-frames, partial_in-local, with_partial-frame, iteration_frame-frame, with_frame-frame, first-of_run}
use Rattle.handlebars_laws.proofs.Walk.{todo-holds}
use Rattle.handlebars_laws.proofs.Within.{all_begins}

raw-not : (raw b : Bool) → b ≡ not raw → raw ≡ not b
raw-not true b is = ap not (sym is)
raw-not false b is = ap not (sym is)

-- whether escaping is off around an element
abbrev pub is_raw_around : Tree → Occurrence → Bool
is_raw_around u occurrence = is_raw_tree u (tree_occurrence_of occurrence)

-- the tree in which a part begins
abbrev tree_before : Task → TreeOccurrence
tree_before (One occurrence e) = tree_occurrence_of occurrence
tree_before (Whole at t) = at

-- whether it is off where a part begins
abbrev is_raw_before : Tree → Task → Bool
is_raw_before u (One occurrence e) = is_raw_around u occurrence
is_raw_before u (Whole at t) = is_raw_tree u at

pub is_raw_occurrence-at : (u : Tree) (occurrence : Occurrence) (e : Element) → element_at u occurrence ≡ Some e
    → is_raw_occurrence u occurrence ≡ (is_html e || is_raw_around u occurrence)
is_raw_occurrence-at u (element_in at i position) e is = ap (λ (o : Option Element). with_or o is_html false || is_raw_tree u at) is

-- what is read of the element at an occurrence
element_at-read : {A : Type 0} (u : Tree) (occurrence : Occurrence) (read : Element → Option A) (e : Element) (x : Option A)
    → element_at u occurrence ≡ Some e → read e ≡ x → option_and_then read (element_at u occurrence) ≡ x
element_at-read u occurrence read e x occurs is = ap (option_and_then read) occurs ∙ is

IsReached-visited : {vs : List Visit} {occurrence : Occurrence} {s : State} → IsReached vs occurrence s → IsVisited vs occurrence
IsReached-visited reached = record { state = reached.first; comes = reached.comes }

pub IsWriter-visited : {p : Setting} {u : Tree} {vs : List Visit} {occurrence : Occurrence} → IsWriter p u vs occurrence
    → IsVisited vs occurrence
IsWriter-visited (writes_text x) = IsReached-visited x.reached
IsWriter-visited (writes_shown x) = IsReached-visited x.called.reached

module _ (p : Setting) (u : Tree) (blocks : List Frame) (vs : List Visit) where
  -- an element or a tree that is at its occurrence, in a tree of the run
  abbrev Occurs : Task → Type 0
  Occurs (One occurrence e) = IsOccurrenceOfRun p u blocks vs occurrence × (element_at u occurrence ≡ Some e)
  Occurs (Whole at t) = IsTreeOfRun p u blocks vs at × (tree_at u at ≡ Some t)

  arrival-occurs : (t : Task) (s : State) → Occurs t → OccurInTrees p u blocks vs (arrival t s)
  arrival-occurs (One occurrence e) s h = (h.0, tt)
  arrival-occurs (Whole at t) s h = tt

  -- ---- the law

  -- the indentation in force in a tree of the run, as its inclusions have it
  abbrev IsIndented : TreeOccurrence → State → Type 0
  IsIndented at s = AreIndents p u vs at (unwrap_or s.indent [])

  -- A part begins at its occurrence, with escaping and the indentation as the tree has them there.
  record BeginsAt (t : Task) (s : State) : Type 0 where
    occurs : Occurs t
    raw : s.escapes ≡ not (is_raw_before u t)
    indented : IsIndented (tree_before t) s
    of_run : IsOfRun p u blocks vs s

  -- Steps of the element at an occurrence go on, with both as they are there.
  record FitsAt (occurrence : Occurrence) (s : State) : Type 0 where
    raw : s.escapes ≡ not (is_raw_occurrence u occurrence)
    indented : IsIndented (tree_occurrence_of occurrence) s

  IsIndented-next : (at : TreeOccurrence) (i j : Option Text) → j ≡ i → AreIndents p u vs at (unwrap_or i [])
      → AreIndents p u vs at (unwrap_or j [])
  IsIndented-next at i j is h = subst (λ (k : Option Text). AreIndents p u vs at (unwrap_or k [])) (sym is) h

  -- The run comes to an element at its occurrence.
  record ComesAt (occurrence : Occurrence) (e : Element) (s : State) : Type 0 where
    of_run : IsOccurrenceOfRun p u blocks vs occurrence
    occurs : element_at u occurrence ≡ Some e
    reached : IsReached vs occurrence s

  -- Escaping is on, except at html expressions and within them, the indentation is that of the inclusions around, and states
  -- are of the run. So each part is in a tree of the run, and each piece has an origin.
  abbrev has_origins : Law
  has_origins = record {
    IsWell = λ s. IsOfRun p u blocks vs s;
    IsNext = λ s n. IsReachedFrom p u blocks vs s n;
    MayEnter = λ f. IsFrameOfRun p u blocks vs f;
    ComesTo = λ occurrence e s. ComesAt occurrence e s;
    Fits = λ occurrence b s. FitsAt occurrence s;
    Begins = λ t s. BeginsAt t s;
    IsPart = λ x m s t. BeginsAt t s;
    IsAfter = λ t s n. IsReachedFrom p u blocks vs s n;
    IsAmid = λ x i s n. IsReachedFrom p u blocks vs s n;
    MayFail = λ r. Unit {0};
    MayWrite = λ ps. HaveOrigins p u vs ps;
    AreKnown = λ xs. (v : Visit) → Contains xs v → Contains vs v;
    AreIn = λ x n m xs. OccurInTrees p u blocks vs xs;
  }

  has_origins-sound : IsSound has_origins
  has_origins-sound = record {
    part_begins = λ h. h;
    none_written = tt;
    join_written = λ xs ys a b. All-append _ xs ys a b;
    prefix_written = λ f h. HaveOrigins-prefix p u vs f h;
    first_known = λ xs ys are v has. are v (Contains-append_left xs ys v has);
    later_known = λ xs ys are v has. are v (Contains-append_right xs ys v has);
    none_in = λ x n. tt;
    part_in = λ x t n m i s xs le h are. All-append _ (arrival t s) xs (arrival-occurs t s h.occurs) are;
    join_in = λ x n m i xs ys le far a b. All-append _ xs ys a b;
  }

  after : {s n : State} → n.escapes ≡ s.escapes → n.indent ≡ s.indent → IsOfRun p u blocks vs n → IsReachedFrom p u blocks vs s n
  after is same h = record { escapes = is; indent = same; of_run = h }

  -- ---- what is written

  ComesToCall-called : {occurrence : Occurrence} {e : Element} {block : Bool} {c : Call} {s : State} {v : CallView}
      → ComesToCall p has_origins occurrence e block c s v → IsCalled p u vs occurrence block c s v
  ComesToCall-called {occurrence = occurrence} {e = e} {block = block} {c = c} called = record {
    occurs = element_at-read u occurrence shown_call e (Some (block, c)) called.comes.occurs called.shown;
    reached = called.comes.reached;
    viewed = called.viewed;
  }

  ComesToTag-tagged : {occurrence : Occurrence} {e : Element} {tag_of : Element → Option Decorator} {t : Decorator} {s : State}
      {v : CallView} → ComesToTag p has_origins occurrence e tag_of t s v → IsTagged p u vs occurrence tag_of t s v
  ComesToTag-tagged {occurrence = occurrence} {e = e} {tag_of = tag_of} {t = t} tagged = record {
    occurs = element_at-read u occurrence tag_of e (Some t) tagged.comes.occurs tagged.tag;
    reached = tagged.comes.reached;
    viewed = tagged.viewed;
  }

  -- a part of the text of the value that a call writes, escaped or not
  WritesValue-shown : {occurrence : Occurrence} {e : Element} {block : Bool} {c : Call} {before : State} {v : CallView} {found : Found}
      {all : Text} (s : State) (escapes : Bool) → ComesToCall p has_origins occurrence e block c before v
      → WritesValue p block c before v found → s.escapes ≡ not (is_raw_occurrence u occurrence) → s.escapes ≡ escapes
      → Shows p before escapes found all → (a : Text) → IsWithin a all → IsOfShown p u vs escapes occurrence found a
  WritesValue-shown {occurrence = occurrence} {block = block} {c = c} {before = before} {v = v} {all = all} s escapes called has fits is
      shows a within = record {
        block = block;
        helper = c;
        state = before;
        view = v;
        called = ComesToCall-called called;
        is_raw = raw-not (is_raw_occurrence u occurrence) escapes (sym is ∙ fits);
        writes = has;
        all = all;
        shows = shows;
        is = within;
      }

  -- ---- all that templates do is as the law says

  has_origins-closed : Closed p has_origins
  has_origins-closed = record {
    same_next = λ h. after refl refl h;
    then_next = λ a b. after (b.escapes ∙ a.escapes) (b.indent ∙ a.indent) b.of_run;
    next_well = λ h. h.of_run;
    next_fits = λ {occurrence = occurrence} {s = s} {n = n} h is.
        record { raw = is.escapes ∙ h.raw; indented = IsIndented-next (tree_occurrence_of occurrence) s.indent n.indent is.indent h.indented };
    line_next = λ l h. after refl refl h;
    data_next = λ d h. after refl refl h;
    local_next = λ name l tagged acts has h. after refl refl h;
    no_local_next = λ name tagged acts has h. after refl refl h;
    iteration_next = λ {s = s} path b t h. after refl refl (record {
      captured = h.captured;
      frames = nearest_as-frames p u blocks vs (iteration_frame path b t) s.blocks (iteration_frame-frame p u blocks vs path b t) h.frames;
    });
    partial_next = λ {s = s} {before = before} {occurrence = occurrence} {t = t} {v = v} {name = name} {x = x} tagged sets h.
        after refl refl (record {
          captured = h.captured;
          frames = nearest_as-frames p u blocks vs (with_partial name x) s.blocks (with_partial-frame p u blocks vs name x
              (set_by tagged.comes.of_run.0 (ComesToTag-tagged tagged) sets)) h.frames;
        });
    block_well = λ may h. record { captured = h.captured; frames = (may, h.frames) };
    block_fits = λ h. record { raw = h.raw; indented = h.indented };
    block_next = λ {n = n} is. after is.escapes is.indent (record {
      captured = is.of_run.captured;
      frames = outer_frames-frames p u blocks vs n.blocks is.of_run.frames;
    });
    empty_enters = λ n t is. cc;
    with_enters = with_frame-frame p u blocks vs;
    inclusion_enters = λ d hs variables n t is. cc;
    passed_enters = λ {occurrence = occurrence} {block = block} {c = c} {s = s} {v = v} {all = all} {f = f} i called answers is n t has.
        passed_in f (record {
          occurrence = occurrence;
          block = block;
          helper = c;
          state = s;
          view = v;
          called = ComesToCall-called called;
          steps = all;
          answers = answers;
          index = i;
          step = is;
        }) has;
    raw_well = λ h. h;
    raw_comes = λ at. record {
      of_run = at.of_run;
      occurs = at.occurs;
      reached = record {
        first = at.reached.first;
        comes = at.reached.comes;
        is = ap (λ (z : State). record z { escapes = false }) at.reached.is;
      };
    };
    raw_next = λ is. after refl is.indent is.of_run;
    own_next = λ h is. after is.escapes refl (record { captured = is.of_run.captured; frames = is.of_run.frames });
    newest_captured = λ {s = s} h. newest-origins p u blocks vs s.captured h.captured;
    begun_well = λ h may. record { captured = (may, h.captured); frames = h.frames };
    over_next = λ {z = z} h first last. after (last.escapes ∙ first.escapes) refl (record {
      captured = h.captured;
      frames = outer_frames-frames p u blocks vs z.blocks last.of_run.frames;
    });
    begins_well = λ h. h.of_run;
    begins_comes = λ {s = s} h known. record {
      of_run = h.occurs.0;
      occurs = h.occurs.1;
      reached = record { first = s; comes = known _ (0, omega arith, refl); is = refl };
    };
    begins_fits = λ {occurrence = occurrence} {e = e} h is. record {
      raw = h.raw
          ∙ ap not (sym (is_raw_occurrence-at u occurrence e h.occurs.1 ∙ ap (λ (b : Bool). b || is_raw_around u occurrence) is));
      indented = h.indented;
    };
    begins_raw = λ {occurrence = occurrence} {c = c} h. record {
      raw = ap not (sym (is_raw_occurrence-at u occurrence (html_expression c) h.occurs.1));
      indented = h.indented;
    };
    element_part = λ {at = at} {s = s} {z = z} i h is is_after. record {
      occurs = (
        (h.occurs.0, sym (ap (λ (o : Option Tree). nth_position o i) h.occurs.1)),
        ap (λ (o : Option Tree). nth_in o i) h.occurs.1 ∙ is,
      );
      raw = is_after.escapes ∙ h.raw;
      indented = IsIndented-next at s.indent z.indent is_after.indent h.indented;
      of_run = is_after.of_run;
    };
    body_part = λ {occurrence = occurrence} {e = e} {c = c} {t = t} time at call is fits h.
        let there = element_at-read u occurrence element_body e (Some t) at.occurs is in record {
          occurs = (is_body at.of_run.0 (IsReached-visited at.reached) there, there);
          raw = fits.raw;
          indented = around_body fits.indented (element_at-read u occurrence element_call e (Some c) at.occurs call);
          of_run = h;
        };
    block_part = λ {occurrence = occurrence} {e = e} {t = t} {x = x} {before = before} {v = v} tagged alone is fits h.
        let there = element_at-read u occurrence element_body e (Some x) tagged.comes.occurs is in record {
          occurs = (is_body tagged.comes.of_run.0 (IsReached-visited tagged.comes.reached) there, there);
          raw = fits.raw;
          indented = around_block fits.indented (ComesToTag-tagged tagged) alone;
          of_run = h;
        };
    inverse_part = λ {occurrence = occurrence} {e = e} {t = t} i at is fits h.
        let there = element_at-read u occurrence element_inverse e (Some t) at.occurs is in record {
          occurs = (is_inverse at.of_run.0 (IsReached-visited at.reached) there, there);
          raw = fits.raw;
          indented = around_inverse fits.indented;
          of_run = h;
        };
    local_part = λ {occurrence = occurrence} {t = t} {x = x} {before = before} {s = s} {v = v} f tagged finds well is fits fit was h.
        let there = ComesToTag-tagged tagged in record {
          occurs = (
            is_local_of tagged.comes.of_run.0 there finds (partial_in-local p u blocks vs s.blocks well.frames v.name x is),
            refl,
          );
          raw = fit.raw;
          indented = included_at-indents occurrence (tree_name x) x t s.indent fits.indented there.occurs;
          of_run = h;
        };
    registered_part = λ {occurrence = occurrence} {t = t} {x = x} {before = before} {s = s} {v = v} f tagged finds fits fit was h.
        let there = ComesToTag-tagged tagged in record {
          occurs = (is_stored tagged.comes.of_run.0 there finds, refl);
          raw = fit.raw;
          indented = included_at-indents occurrence (Some v.name) x t s.indent fits.indented there.occurs;
          of_run = h;
        };
    own_block_part = λ {occurrence = occurrence} {e = e} {t = t} {x = x} {before = before} {s = s} {v = v} tagged finds is fits fit h.
        let there = element_at-read u occurrence element_body e (Some x) tagged.comes.occurs is in record {
          occurs = (is_body tagged.comes.of_run.0 (IsReached-visited tagged.comes.reached) there, there);
          raw = fit.raw;
          indented = own_block-indents occurrence x t before v s.indent fits.indented (ComesToTag-tagged tagged) finds;
          of_run = h;
        };
    body_next = λ at call is over. over;
    inverse_next = λ at is over. over;
    ahead_next = λ tagged is over. over;
    element_after = λ at plain is. is;
    decorator_after = λ tagged acts is. is;
    amid_first = λ h. after refl refl h.of_run;
    amid_next = λ i amid is over. after (over.escapes ∙ amid.escapes) (over.indent ∙ amid.indent) over.of_run;
    amid_last = λ i amid is. amid;
    fails = λ at failed. tt;
    text_written = λ {occurrence = occurrence} {t = t} {s = s} at fits h.
        let comes : (a : Text) → IsWithin a t → IsOfText u vs occurrence a =
        λ a within. record { all = t; occurs = at.occurs; state = s; reached = at.reached; is = within } in
        put-origins p u vs (of_text occurrence) s.indent t s.line (writes_text (comes t (all-within p u vs t))) fits.indented comes;
    value_written = λ {occurrence = occurrence} {s = s} {found = found} t called has fits is shows h.
        let comes = WritesValue-shown s true called has fits.raw is shows in
        put-origins p u vs (of_value occurrence found) s.indent t s.line (writes_shown (comes t (all-within p u vs t))) fits.indented comes;
    raw_written = λ {occurrence = occurrence} {s = s} {found = found} called has fits is h.
        let t = rendered_if_any (present_in found) in
        let comes = WritesValue-shown s false called has fits.raw is refl in
        put-origins p u vs (of_raw occurrence found) s.indent t s.line (writes_shown (comes t (all-within p u vs t))) fits.indented comes;
    boolean_text_written = λ {c = c} {s = s} {v = v} b called says. (
      record { helper = c; state = s; view = v; called = ComesToCall-called called; says = says; is = all_begins (boolean_text b) },
      tt,
    );
    step_written = λ {occurrence = occurrence} {block = block} {c = c} {s = s} {v = v} {all = all} i t called answers is.
        pieces_of-origins p u vs (of_step occurrence i) t (record {
          block = block;
          helper = c;
          state = s;
          view = v;
          called = ComesToCall-called called;
          steps = all;
          answers = answers;
          all = t;
          step = is;
          is = all_begins t;
        });
  }

-- ---- runs

-- a run of a part alone, from a plain state on, where escaping is on and no inclusion is around
Do-obeys : (p : Setting) (u : Tree) (t : Task) (s : State) (ps : List Piece) (o : Outcome) → IsPlain s
    → s.escapes ≡ not (is_raw_before u t) → tree_before t ≡ first_tree → (r : Runs p (Do t Done) s ps o) → Occurs p u s.blocks (visits r) t
    → Obeys (has_origins p u s.blocks (visits r)) (Whole first_tree u) (λ j z. Unit {0}) 0 ps o (visits r)
Do-obeys p u t s ps o plain raw first r occurs =
    let law = has_origins p u s.blocks (visits r) in
    Runs-obeys p law (has_origins-sound p u s.blocks (visits r))
    (todo-holds p law (has_origins-closed p u s.blocks (visits r))) r (Whole first_tree u) (λ j z. Unit {0}) 0 (
      0,
      omega arith,
      record {
        occurs = occurs;
        raw = raw;
        indented = subst (λ (at : TreeOccurrence). AreIndents p u (visits r) at (unwrap_or s.indent [])) (sym first)
            (no_indent-indents s.indent plain.indent);
        of_run = first-of_run p u s.blocks (visits r) s plain (λ f has. has);
      },
      λ z is. tt,
    ) (λ v has. has)

pub all_have_origins : (p : Setting) (t : Tree) (s : State) (ps : List Piece) (o : Outcome) → IsPlain s
    → (r : Means p t s ps o) → HaveOrigins p t (visits r) ps
all_have_origins p t s ps o plain r =
    (Do-obeys p t (Whole first_tree t) s ps o plain plain.escapes refl r (is_first, refl)).written

pub comes_in_trees : (p : Setting) (t : Tree) (s : State) (ps : List Piece) (o : Outcome) → IsPlain s
    → (r : Means p t s ps o) → OccurInTrees p t s.blocks (visits r) (visits r)
comes_in_trees p t s ps o plain r =
    (Do-obeys p t (Whole first_tree t) s ps o plain plain.escapes refl r (is_first, refl)).are_in

pub element_has_origins : (p : Setting) (e : Element) (s : State) (ps : List Piece) (o : Outcome) → IsPlain s
    → (r : Runs p (render_alone e) s ps o) → HaveOrigins p (alone e) (visits r) ps
element_has_origins p e s ps o plain r =
    (Do-obeys p (alone e) (One (element_in first_tree 0 None) e) s ps o plain plain.escapes refl r ((is_first, refl), refl)).written
