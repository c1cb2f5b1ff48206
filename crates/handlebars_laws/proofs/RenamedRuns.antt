-- An answer by a name and one by its source agree, both ways, if no inclusion of the run names it.
use Rattle.std.proofs.Common.{◌≡◌, ◌≢◌, List, [], ◌∷◌, ◌++◌, Bool, true, false, refl, sym, ap, ◌∙◌, subst, Option, None, Some}
use Rattle.std.specs.List.{AllByRecursion}
use Rattle.std.specs.Str.{bytes_eq}
use Rattle.std.proofs.lemmas.Slice.Eq.{bytes_eq-Decides}
use Rattle.handlebars_base.specs.Bytes.{Text}
use Rattle.handlebars_base.specs.Reasons.{Location, TemplateRefusal}
use Rattle.handlebars_lexer.specs.Options.{Options}
use Rattle.handlebars_lexer.specs.Tag.{Tag, escaped_tag, html_tag, block_tag, inverse_tag, chain_tag, close_tag, raw_tag, raw_close_tag, decorator_tag, decorator_block_tag, partial_tag, partial_block_tag, comment_tag}
use Rattle.handlebars_lexer.specs.Trim.{WhitespaceControl}
use Rattle.handlebars_template.specs.Compile.{tag_piece, text_pieces, pieces_in, tree_of, Compiles, compiled, rejected, whole}
use Rattle.handlebars_template.specs.Tokens.{Token, text_token, tag_token, TextAndTag, Reads, nothing_read, goes_on, AreTokens}
use Rattle.handlebars_template.specs.Nest.{SourcePiece, PositionedElement, names_and_literals, Nests}
use Rattle.handlebars_template.specs.Position.{Position}
use Rattle.handlebars_template.specs.Tree.{Tree, tree, tree_name, Elements}
use Rattle.handlebars_template.proofs.One.{one_compilation}
use Rattle.handlebars_semantics.specs.Answer.{FromName, is_stored, is_not, FromSource, compiles, does_not, not_begun, has_begun, IsSamePosition, Agree, HasAgreeingAnswer, NamedAnswerAsSource, SourceAnswerAsNamed, AgreesByName}
use Rattle.handlebars_semantics.specs.Means.{todo}
use Rattle.handlebars_semantics.specs.Names.{included_names}
use Rattle.handlebars_semantics.specs.Pieces.{Piece}
use Rattle.handlebars_semantics.specs.Runs.{Outcome, Ended, Failed, WriteFailed, NoMemory, IsOver, IsOverInMemory, named_as, mark_outcome, Runs, done, failed, wrote, got, set, asked, did, did_over, did_capture, did_capture_over, looked, below_limit, at_limit, stop, cut, Means}
use Rattle.handlebars_semantics.specs.Occurrences.{first_tree}
use Rattle.handlebars_semantics.specs.State.{Setting, State, first_state}
use Rattle.handlebars_semantics.specs.Steps.{Task, Whole, Steps, Done, Do, Capture, ◌>>=◌, ◌>>◌}
use Rattle.handlebars_laws.proofs.Lists.{All-first, All-later}
use Rattle.handlebars_laws.proofs.Outcomes.{over_marked, stop_over, in_memory_over}
use Rattle.handlebars_laws.proofs.Renamed.{NamesAgree, renamed_state, Twin, both_end, both_fail, both_write, both_get, both_set, both_ask, both_do, both_capture, both_find, both_check, render_elements-goes, todo-twin}
use Rattle.handlebars_laws.proofs.SameAnswers.{renamed_answers}

-- ---- runs

-- Both end in states that differ in the current name alone, or both are over with the same outcome.
data Ends (n : Text) : Outcome → Outcome → Type 0 where
  both_ended : {s : State} {c : Option Text} → NamesAgree n s.current c → Ends n (Ended s) (Ended (renamed_state c s))
  both_over : {o : Outcome} → IsOver o → Ends n o o

-- The other steps write the same from the renamed state.
record TwinRun (p : Setting) (n : Text) (l : Steps) (s : State) (c : Option Text) (ps : List Piece) (o : Outcome) : Type 0 where
  outcome : Outcome
  runs : Runs p l (renamed_state c s) ps outcome
  ends : Ends n o outcome

named_as-position : (a b : Option Text) (s : Location) → IsSamePosition (named_as a s) (named_as b s)
named_as-position None None s = (refl, refl)
named_as-position None (Some m) s = (refl, refl)
named_as-position (Some m) None s = (refl, refl)
named_as-position (Some m) (Some l) s = (refl, refl)

module _ (p : Setting) (n : Text) where
  abbrev OtherNames : List Text → Type 0
  OtherNames names = AllByRecursion (λ m. m ≢ n) names

  -- what is written before the rest of a run comes before what the other run writes
  did-twin : {t : Task} {l : Steps} {s z : State} {c : Option Text} {ps qs : List Piece} {q o : Outcome}
      → Runs p (todo t) (renamed_state c s) ps q → Ends n (Ended z) q
      → ((d : Option Text) → NamesAgree n z.current d → TwinRun p n l z d qs o)
      → TwinRun p n (Do t l) s c (ps ++ qs) o
  did-twin a (both_ended {c = d} is) next =
      let rest = next d is in record { outcome = rest.outcome; runs = did a rest.runs; ends = rest.ends }
  did-twin a (both_over over) next = absurd over

  did_over-twin : {t : Task} {l : Steps} {s : State} {c : Option Text} {ps : List Piece} {o q : Outcome}
      → Runs p (todo t) (renamed_state c s) ps q → Ends n o q → IsOver o → TwinRun p n (Do t l) s c ps (mark_outcome t o)
  did_over-twin a (both_ended is) over = absurd over
  did_over-twin {t = t} a (both_over {o = o} is) over =
      record { outcome = mark_outcome t o; runs = did_over a over; ends = both_over (over_marked t o over) }

  did_capture-twin : {m : Steps} {g : List Piece → Steps} {s z : State} {c : Option Text} {ps qs : List Piece} {q o : Outcome}
      → Runs p m (renamed_state c s) ps q → Ends n (Ended z) q
      → ((d : Option Text) → NamesAgree n z.current d → TwinRun p n (g ps) z d qs o)
      → TwinRun p n (Capture m g) s c qs o
  did_capture-twin a (both_ended {c = d} is) next =
      let rest = next d is in record { outcome = rest.outcome; runs = did_capture a rest.runs; ends = rest.ends }
  did_capture-twin a (both_over over) next = absurd over

  did_capture_over-twin : {m : Steps} {g : List Piece → Steps} {s : State} {c : Option Text} {ps : List Piece} {o q : Outcome}
      → Runs p m (renamed_state c s) ps q → Ends n o q → IsOverInMemory o → TwinRun p n (Capture m g) s c [] o
  did_capture_over-twin a (both_ended is) over = absurd over
  did_capture_over-twin a (both_over {o = o} is) over =
      record { outcome = o; runs = did_capture_over a over; ends = both_over (in_memory_over o over) }

  Runs-twin : {k l : Steps} {s : State} {c : Option Text} {ps : List Piece} {o : Outcome} → Twin p n s c k l
      → (r : Runs p k s ps o) → OtherNames (included_names r) → TwinRun p n l s c ps o
  Runs-twin (both_end is) done names = record { outcome = _; runs = done; ends = both_ended is }
  Runs-twin twin stop names = record { outcome = NoMemory; runs = stop; ends = both_over tt }
  Runs-twin both_fail failed names = record { outcome = _; runs = failed; ends = both_over tt }
  Runs-twin (both_write twin) (wrote r) names =
      let rest = Runs-twin twin r names in record { outcome = rest.outcome; runs = wrote rest.runs; ends = rest.ends }
  Runs-twin (both_write twin) (cut {at_boolean_text = w} {o = o} i f) names =
      record { outcome = o; runs = cut i f; ends = both_over (stop_over w o i) }
  Runs-twin (both_get twin) (got r) names =
      let rest = Runs-twin twin r names in record { outcome = rest.outcome; runs = got rest.runs; ends = rest.ends }
  Runs-twin (both_set twin) (set r) names =
      let rest = Runs-twin twin r names in record { outcome = rest.outcome; runs = set rest.runs; ends = rest.ends }
  Runs-twin {s = s} {c = c} (both_ask {q = q} twin) (asked a i r) names =
      let rest = Runs-twin (twin a) r names in record {
        outcome = rest.outcome;
        runs = asked a (renamed_answers p p.parts.template p.parts.limit s c q a i) rest.runs;
        ends = rest.ends;
      }
  Runs-twin {s = s} {c = c} (both_do {t = t} is twin) (did {next = z} a b) names =
      let first = Runs-twin (todo-twin p n t s c is) a (All-first _ (included_names a) (included_names b) names) in
      did-twin first.runs first.ends
      (λ d same. Runs-twin (twin z d same) b (All-later _ (included_names a) (included_names b) names))
  Runs-twin {s = s} {c = c} (both_do {t = t} is twin) (did_over a over) names =
      let first = Runs-twin (todo-twin p n t s c is) a names in did_over-twin first.runs first.ends over
  Runs-twin (both_capture is twin) (did_capture {next = z} {ps = ps} a b) names =
      let first = Runs-twin (both_do is (λ y d same. both_end same)) a
      (All-first _ (included_names a) (included_names b) names) in
      did_capture-twin first.runs first.ends
      (λ d same. Runs-twin (twin z d ps same) b (All-later _ (included_names a) (included_names b) names))
  Runs-twin (both_capture is twin) (did_capture_over a over) names =
      let first = Runs-twin (both_do is (λ y d same. both_end same)) a names in
      did_capture_over-twin first.runs first.ends over
  Runs-twin (both_find twin) (looked r) names =
      let rest = Runs-twin (twin names.0) r names.1 in
      record { outcome = rest.outcome; runs = looked rest.runs; ends = rest.ends }
  Runs-twin (both_check twin) (below_limit lt r) names =
      let rest = Runs-twin twin r names in
      record { outcome = rest.outcome; runs = below_limit lt rest.runs; ends = rest.ends }
  Runs-twin (both_check twin) (at_limit le) names = record { outcome = _; runs = at_limit le; ends = both_over tt }

  -- ---- a tree under two names

  Some-agrees : NamesAgree n (Some n) None
  Some-agrees m apart = by (bytes_eq n m) refl
    where
      by : (b : Bool) → bytes_eq n m ≡ b → bytes_eq n m ≡ false
      by true is = absurd (apart (sym ((bytes_eq-Decides n m).0 is)))
      by false is = is

  None-agrees : NamesAgree n None (Some n)
  None-agrees m apart = sym (Some-agrees m apart)

  -- marking an error with a tree's name doesn't change its position
  marked-agree : (t u : Tree) (o : Outcome) → IsOver o
      → Agree (mark_outcome (Whole first_tree t) o) (mark_outcome (Whole first_tree u) o)
  marked-agree t u (Ended s) over = absurd over
  marked-agree t u (Failed r) over = (refl, named_as-position (tree_name t) (tree_name u) r.location)
  marked-agree t u (WriteFailed f) over = (refl, named_as-position (tree_name t) (tree_name u) f.location)
  marked-agree t u NoMemory over = tt

  -- a tree's elements under one name, or without one, and under the other
  module _ (es : Elements) (positions : List Position) (a b : Option Text) (apart : NamesAgree n a b) (s : State) where
    abbrev one : Tree
    one = tree a es positions

    abbrev other : Tree
    other = tree b es positions

    -- a run of the other tree
    record OtherRun (ps : List Piece) (o : Outcome) : Type 0 where
      outcome : Outcome
      runs : Means p other s ps outcome
      agrees : Agree o outcome

    Whole-twin : Twin p n s s.current (todo (Whole first_tree one)) (todo (Whole first_tree other))
    unfolding ◌>>=◌ ◌>>◌
    Whole-twin = both_get (both_set (render_elements-goes p n first_tree 0 es positions (renamed_state a s) b apart
        (λ u. Done) (λ u. Done) (λ z d is. both_end is)))

    ended-other : {z : State} {ps : List Piece} {q : Outcome} → Runs p (todo (Whole first_tree other)) s ps q → Ends n (Ended z) q
        → OtherRun (ps ++ []) (Ended z)
    ended-other r (both_ended is) = record { outcome = _; runs = did r done; agrees = tt }
    ended-other r (both_over over) = absurd over

    stopped-other : {z : State} {ps : List Piece} {q : Outcome} → Runs p (todo (Whole first_tree other)) s ps q → Ends n (Ended z) q
        → OtherRun (ps ++ []) NoMemory
    stopped-other r (both_ended is) = record { outcome = NoMemory; runs = did r stop; agrees = tt }
    stopped-other r (both_over over) = absurd over

    over-other : {ps : List Piece} {o q : Outcome} → Runs p (todo (Whole first_tree other)) s ps q → Ends n o q → IsOver o
        → OtherRun ps (mark_outcome (Whole first_tree one) o)
    over-other r (both_ended is) over = absurd over
    over-other r (both_over {o = o} is) over = record {
      outcome = mark_outcome (Whole first_tree other) o;
      runs = did_over r over;
      agrees = marked-agree one other o over;
    }

    Means-renamed : (ps : List Piece) (o : Outcome) (r : Means p one s ps o) → OtherNames (included_names r) → OtherRun ps o
    Means-renamed ps o (did r done) names =
        let first = Runs-twin Whole-twin r (All-first _ (included_names r) [] names) in ended-other first.runs first.ends
    Means-renamed ps o (did r stop) names =
        let first = Runs-twin Whole-twin r (All-first _ (included_names r) [] names) in stopped-other first.runs first.ends
    Means-renamed ps o (did_over r over) names =
        let first = Runs-twin Whole-twin r names in over-other first.runs first.ends over
    Means-renamed ps o stop names = record { outcome = NoMemory; runs = stop; agrees = tt }

-- ---- what a source compiles to, under a name and without one

module _ (source name : Text) (options : Options) where
  abbrev under_name : Options
  under_name = record options { name = Some name }

  abbrev without_name : Options
  without_name = record options { name = None }

  Reads-unnamed : {before : Text} {control : WhitespaceControl} {ps : List Token} → Reads source under_name before control ps
      → Reads source without_name before control ps
  Reads-unnamed nothing_read = nothing_read
  Reads-unnamed (goes_on {before = before} {control = control} r x) =
      let y : TextAndTag source without_name before control = record {
        text = x.text;
        unescaped = x.unescaped;
        token = x.token;
        tag = x.tag;
        tildes = x.tildes;
        rest = x.rest;
        whole = x.whole;
        is_text = x.is_text;
        is_tag = x.is_tag;
        may_follow = x.may_follow;
      } in
      goes_on (Reads-unnamed r) y

  AreTokens-unnamed : (ps : List Token) → AreTokens source under_name ps → AreTokens source without_name ps
  AreTokens-unnamed ps c = record {
    before = c.before;
    control = c.control;
    tokens = c.tokens;
    begins = Reads-unnamed c.begins;
    text = c.text;
    unescaped = c.unescaped;
    whole = c.whole;
    is_text = c.is_text;
    gives = c.gives;
  }

  tag_piece-unnamed : (at : Position) (e : WhitespaceControl) (t : Tag) → tag_piece under_name at e t ≡ tag_piece without_name at e t
  tag_piece-unnamed at e (escaped_tag expression) = refl
  tag_piece-unnamed at e (html_tag expression) = refl
  tag_piece-unnamed at e (block_tag expression) = refl
  tag_piece-unnamed at e inverse_tag = refl
  tag_piece-unnamed at e (chain_tag expression) = refl
  tag_piece-unnamed at e (close_tag m) = refl
  tag_piece-unnamed at e (raw_tag expression) = refl
  tag_piece-unnamed at e (raw_close_tag m) = refl
  tag_piece-unnamed at e (decorator_tag expression) = refl
  tag_piece-unnamed at e (decorator_block_tag expression) = refl
  tag_piece-unnamed at e (partial_tag expression) = refl
  tag_piece-unnamed at e (partial_block_tag expression) = refl
  tag_piece-unnamed at e (comment_tag t) = refl

  pieces_in-unnamed : (ps : List Token) → pieces_in under_name ps ≡ pieces_in without_name ps
  pieces_in-unnamed [] = refl
  pieces_in-unnamed (text_token at e token unescaped m ∷ ps) =
      ap (λ (z : List SourcePiece). text_pieces without_name at e token unescaped m ++ z) (pieces_in-unnamed ps)
  pieces_in-unnamed (tag_token at token t e ∷ ps) =
      ap (λ (x : SourcePiece). x ∷ pieces_in under_name ps) (tag_piece-unnamed at e t)
      ∙ ap (λ (z : List SourcePiece). tag_piece without_name at e t ∷ z) (pieces_in-unnamed ps)

  whole-unnamed : (ps : List Token) (es : List PositionedElement) → AreTokens source under_name ps
      → Nests names_and_literals 0 (pieces_in under_name ps) es → Compiles source without_name (compiled (tree_of without_name es))
  whole-unnamed ps es c nests = whole (AreTokens-unnamed ps c)
      (subst (λ (z : List SourcePiece). Nests names_and_literals 0 z es) (pieces_in-unnamed ps) nests)

-- ---- answers

Some≢None : {t : Tree} {o : Option Tree} → o ≡ Some t → o ≡ None → ⊥
Some≢None a b = cc

Some-injective : {t x : Tree} {o : Option Tree} → o ≡ Some t → o ≡ Some x → t ≡ x
Some-injective a b = cc

-- one source compiles to one tree
one_tree : (source : Text) (options : Options) {t x : Tree} → Compiles source options (compiled t)
    → Compiles source options (compiled x) → t ≡ x
one_tree source options a b = let same = one_compilation source options _ _ a b in cc

compiled≢rejected : (source : Text) (options : Options) {t : Tree} {f : TemplateRefusal} → Compiles source options (compiled t)
    → Compiles source options (rejected f) → ⊥
compiled≢rejected source options a b = let same = one_compilation source options _ _ a b in cc

module _ (p : Setting) (name : Text) where
  abbrev OthersAlone : {t : Tree} {s : State} {ps : List Piece} {o : Outcome} → Means p t s ps o → Type 0
  OthersAlone r = AllByRecursion (λ m. m ≢ name) (included_names r)

  -- a run of what is registered under the name, as one of the tree that the source compiles to
  tree-unnamed : (source : Text) (options : Options) (t : Tree) → Compiles source (under_name source name options) (compiled t)
      → (ps : List Piece) (o : Outcome) (r : Means p t (first_state p.parts.recursive) ps o) → OthersAlone r
      → HasAgreeingAnswer p (FromSource (without_name source name options) source) ps o
  tree-unnamed source options t (whole {ps = tokens} {es = es} c nests) ps o r names =
      let other = Means-renamed p name _ _ (Some name) None (Some-agrees p name) (first_state p.parts.recursive) ps o r names in record {
        outcome = other.outcome;
        answers = has_begun (compiles (whole-unnamed source name options tokens es c nests)) other.runs;
        agrees = other.agrees;
      }

  -- a run of the tree that the source compiles to, as one of what is registered under the name
  tree-named : (source : Text) (options : Options) (t x : Tree) → p.parts.template name ≡ Some t
      → Compiles source (under_name source name options) (compiled t) → Compiles source (without_name source name options) (compiled x)
      → (ps : List Piece) (o : Outcome) (r : Means p x (first_state p.parts.recursive) ps o) → OthersAlone r
      → HasAgreeingAnswer p (FromName p.parts.template name) ps o
  tree-named source options t x is (whole {ps = tokens} {es = es} c nests) d ps o =
      let same = one_tree source (without_name source name options) (whole-unnamed source name options tokens es c nests) d in
      subst (λ (y : Tree). (r : Means p y (first_state p.parts.recursive) ps o) → OthersAlone r
      → HasAgreeingAnswer p (FromName p.parts.template name) ps o) same (λ r names.
      let other = Means-renamed p name _ _ None (Some name) (None-agrees p name) (first_state p.parts.recursive) ps o r names in record {
        outcome = other.outcome;
        answers = has_begun (is_stored is) other.runs;
        agrees = other.agrees;
      })

  pub named_answer_as_source : NamedAnswerAsSource p name
  named_answer_as_source source options t is c ps o (not_begun (is_not none)) names = absurd (Some≢None is none)
  named_answer_as_source source options t is c ps o (has_begun {t = x} (is_stored is_tree) r) names =
      tree-unnamed source options x
      (subst (λ (z : Tree). Compiles source (record options { name = Some name }) (compiled z))
      (Some-injective is is_tree) c) ps o r names

  -- a source that is registered under a name isn't rejected without one
  not-rejected : (source : Text) (options : Options) (t : Tree) (f : TemplateRefusal)
      → Compiles source (under_name source name options) (compiled t) → Compiles source (without_name source name options) (rejected f)
      → ⊥
  not-rejected source options t f (whole {ps = tokens} {es = es} c nests) d =
      compiled≢rejected source (without_name source name options) (whole-unnamed source name options tokens es c nests) d

  pub source_answer_as_named : SourceAnswerAsNamed p name
  source_answer_as_named source options t is c ps o (not_begun (does_not {r = f} d)) names =
      absurd (not-rejected source options t f c d)
  source_answer_as_named source options t is c ps o (has_begun {t = x} (compiles d) r) names =
      tree-named source options t x is c d ps o r names

pub agrees_by_name : (p : Setting) (options : Options) (source : Text) → AgreesByName p (record options { name = None }) source
agrees_by_name p options source name t is c =
    (named_answer_as_source p name source options t is c, source_answer_as_named p name source options t is c)
