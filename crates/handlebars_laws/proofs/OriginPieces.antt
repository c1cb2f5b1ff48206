-- Pieces that have origins: prefixes of them, and those of a text that is put.
use Rattle.std.proofs.Common.{List, [], ◌∷◌, Bool, true, false, Option, None, Some, unwrap_or, if◌then◌else◌, sym, append-nil}
use Rattle.std.specs.List.{AllByRecursion}
use Rattle.handlebars_base.specs.Bytes.{Text}
use Rattle.handlebars_base.specs.Outputs.{IsPrefix}
use Rattle.handlebars_base.specs.Values.{boolean_text}
use Rattle.handlebars_template.specs.Tree.{Tree}
use Rattle.handlebars_scope.specs.Indentation.{lines_of, takes_indent}
use Rattle.handlebars_scope.specs.LineState.{LineState}
use Rattle.handlebars_semantics.specs.Origins.{IsWithin, tree_occurrence_of, AreIndents, IsWriter, ComesFrom, HasOrigin, HaveOrigins}
use Rattle.handlebars_semantics.specs.Pieces.{Origin, of_text, of_value, of_raw, of_boolean_text, of_step, of_indent, occurrence_of, Piece, pieces_of, indent_pieces, pieces_between, pieces_before, put}
use Rattle.handlebars_semantics.specs.Runs.{Prefix, none, truncated, more}
use Rattle.handlebars_semantics.specs.State.{Setting}
use Rattle.handlebars_semantics.specs.Visits.{Visit}
use Rattle.handlebars_laws.proofs.Lists.{All-weaker, All-append}
use Rattle.handlebars_laws.proofs.Within.{beginning_within, all_begins, beginning_beginning, lines_within}

module _ (p : Setting) (u : Tree) (vs : List Visit) where
  -- ---- prefixes

  ComesFrom-prefix : (o : Origin) (a b : Text) → IsPrefix a b → ComesFrom p u vs o b → ComesFrom p u vs o a
  ComesFrom-prefix (of_text occurrence) a b c h = record {
    all = h.all;
    occurs = h.occurs;
    state = h.state;
    reached = h.reached;
    is = beginning_within a b h.all c h.is;
  }
  ComesFrom-prefix (of_value occurrence v) a b c h = record {
    block = h.block;
    helper = h.helper;
    state = h.state;
    view = h.view;
    called = h.called;
    is_raw = h.is_raw;
    writes = h.writes;
    all = h.all;
    shows = h.shows;
    is = beginning_within a b h.all c h.is;
  }
  ComesFrom-prefix (of_raw occurrence v) a b c h = record {
    block = h.block;
    helper = h.helper;
    state = h.state;
    view = h.view;
    called = h.called;
    is_raw = h.is_raw;
    writes = h.writes;
    all = h.all;
    shows = h.shows;
    is = beginning_within a b h.all c h.is;
  }
  ComesFrom-prefix (of_boolean_text occurrence w) a b c h = record {
    helper = h.helper;
    state = h.state;
    view = h.view;
    called = h.called;
    says = h.says;
    is = beginning_beginning a b (boolean_text w) c h.is;
  }
  ComesFrom-prefix (of_step occurrence i) a b c h = record {
    block = h.block;
    helper = h.helper;
    state = h.state;
    view = h.view;
    called = h.called;
    steps = h.steps;
    answers = h.answers;
    all = h.all;
    step = h.step;
    is = beginning_beginning a b h.all c h.is;
  }
  ComesFrom-prefix (of_indent occurrence) a b c h = record {
    writer = h.writer;
    all = h.all;
    indents = h.indents;
    is = beginning_beginning a b h.all c h.is;
  }

  pub HaveOrigins-prefix : {xs ys : List Piece} → Prefix xs ys → HaveOrigins p u vs ys → HaveOrigins p u vs xs
  HaveOrigins-prefix none h = tt
  HaveOrigins-prefix (truncated {p = x} {t = t} b) h = (ComesFrom-prefix x.origin t x.text b h.0, tt)
  HaveOrigins-prefix (more f) h = (h.0, HaveOrigins-prefix f h.1)

  -- ---- texts that are put

  pub pieces_of-origins : (o : Origin) (t : Text) → ComesFrom p u vs o t → HaveOrigins p u vs (pieces_of o t)
  pieces_of-origins o [] h = tt
  pieces_of-origins o (b ∷ t) h = (h, tt)

  pieces_between-origins : (o : Origin) (ps : List Piece) (ls : List Text) → HaveOrigins p u vs ps
      → AllByRecursion (ComesFrom p u vs o) ls → HaveOrigins p u vs (pieces_between o ps ls)
  pieces_between-origins o ps [] h are = tt
  pieces_between-origins o ps (l ∷ []) h are = (are.0, tt)
  pieces_between-origins o ps (l ∷ m ∷ ls) h are = (
    are.0,
    All-append (HasOrigin p u vs) ps (pieces_between o ps (m ∷ ls)) h (pieces_between-origins o ps (m ∷ ls) h are.1),
  )

  pieces_if-origins : (b : Bool) (ps : List Piece) → HaveOrigins p u vs ps → HaveOrigins p u vs (if b then ps else [])
  pieces_if-origins true ps h = h
  pieces_if-origins false ps h = tt

  pub all-within : (t : Text) → IsWithin t t
  all-within t = record { left = []; right = []; is = sym (append-nil t) }

  -- by the element at its occurrence
  pub put-origins : (o : Origin) (i : Option Text) (t : Text) (line : LineState) → IsWriter p u vs (occurrence_of o)
      → AreIndents p u vs (tree_occurrence_of (occurrence_of o)) (unwrap_or i [])
      → ((a : Text) → IsWithin a t → ComesFrom p u vs o a) → HaveOrigins p u vs (put o i t line).0
  put-origins o None t line writer indents comes = pieces_of-origins o t (comes t (all-within t))
  put-origins o (Some i) t line writer indents comes =
      let own = pieces_of-origins (of_indent (occurrence_of o)) i (record {
        writer = writer;
        all = i;
        indents = indents;
        is = all_begins i;
      }) in
      All-append (HasOrigin p u vs) (pieces_before o i t line) (pieces_between o (indent_pieces o i) (lines_of t))
      (pieces_if-origins (takes_indent line t) (indent_pieces o i) own)
      (pieces_between-origins o (indent_pieces o i) (lines_of t) own (All-weaker (lines_of t) comes (lines_within t)))
