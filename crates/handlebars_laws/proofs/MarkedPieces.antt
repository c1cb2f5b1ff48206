-- With the default escape, and over trees that are as compiled, marks occur only where a template or a user-defined helper
-- has them.
use Rattle.std.proofs.Common.{◌≡◌, ℕ, ◌==◌, Bool, true, false, not, ◌&&◌, ◌||◌, List, [], ◌∷◌, ◌++◌, Some, refl, sym, ap, ◌∙◌, subst, append_assoc, append-nil, inl, inr}
use Rattle.std.specs.List.{AllByRecursion, Contains, list_all}
use Rattle.std.proofs.lemmas.Bool.{eq-eqb, eqb-true}
use Rattle.std.proofs.lemmas.List.Elements.{Contains-append_left, Contains-append_right}
use Rattle.std.proofs.lemmas.List.Folds.{list_all-append}
use Rattle.handlebars_base.specs.Answers.{Answer, gives}
use Rattle.handlebars_base.specs.Bytes.{Text, ampersand, space, tab}
use Rattle.handlebars_base.specs.Escape.{escaped}
use Rattle.handlebars_base.specs.EscapeLaws.{marks, IsUnmarked, BeginsEntity, BeginsEntities}
use Rattle.handlebars_base.specs.Outputs.{IsPrefix}
use Rattle.handlebars_base.specs.Scoped.{Found, present_in}
use Rattle.handlebars_base.specs.Values.{boolean_text}
use Rattle.handlebars_lexer.specs.Options.{Options}
use Rattle.handlebars_lexer.specs.Trim.{is_blank}
use Rattle.handlebars_template.specs.Tree.{Tree, Element, html_expression, Call}
use Rattle.handlebars_helpers.specs.Escaping.{Escaping, for_html, HasEscaped}
use Rattle.handlebars_scope.specs.Scopes.{Frame}
use Rattle.handlebars_semantics.specs.Answer.{Beginning, a_tree, FromName, is_stored, FromSource, compiles, not_begun, has_begun}
use Rattle.handlebars_semantics.specs.Compiled.{IsBlank, IsAsCompiled, PassesCompiled}
use Rattle.handlebars_semantics.specs.Laws.{IsPlain}
use Rattle.handlebars_semantics.specs.Marked.{AllAsCompiled, MayHaveMarks, IsInPiece, OccursMarked, IsOfEscaped, IsEscaped, IsBlankIndent, IndentsAreBlank, DataIsNoMarkup}
use Rattle.handlebars_semantics.specs.Origins.{shown_call, is_html, element_at, is_raw_tree, tree_occurrence_of, IsWithin, IsOfShown, IsOfIndent, ComesFrom, HasOrigin, HaveOrigins, IsOccurrenceOfRun, OccurInTrees}
use Rattle.handlebars_semantics.specs.Pieces.{Origin, of_text, of_value, of_raw, of_boolean_text, of_step, of_indent, Piece, join}
use Rattle.handlebars_semantics.specs.Occurrences.{Occurrence}
use Rattle.handlebars_semantics.specs.State.{Setting, first_state}
use Rattle.handlebars_semantics.specs.Visits.{Visit, visits}
use Rattle.handlebars_semantics.specs.Writing.{rendered_if_any}
use Rattle.handlebars_laws.proofs.CompiledRuns.{read-at, IsTreeOfRun-well, AreIndents-blank}
use Rattle.handlebars_laws.proofs.CompiledTrees.{compiles_so}
use Rattle.handlebars_laws.proofs.Lists.{All-weaker, All-later, All-has, list_all-has, Contains-prefix, append-cases}
use Rattle.handlebars_laws.proofs.OneAnswer.{gives-injective}
use Rattle.handlebars_laws.proofs.RunOrigins.{IsWriter-visited, is_raw_occurrence-at, all_have_origins, comes_in_trees}

-- ---- texts without marks

is_unmarked : ℕ → Bool
is_unmarked b = list_all (λ k. not (k == b)) marks

unmarked-never : (b : ℕ) → is_unmarked b ≡ true → Contains marks b → ⊥
unfolding is_unmarked
unmarked-never b is has = never (b == b) (eq-eqb b b refl) (list_all-has (λ k. not (k == b)) marks b is has)
  where
    never : (x : Bool) → x ≡ true → not x ≡ true → ⊥
    never true e h = cc
    never false e h = cc

boolean_text-unmarked : (b : Bool) → list_all is_unmarked (boolean_text b) ≡ true
unfolding is_unmarked
boolean_text-unmarked true = refl
boolean_text-unmarked false = refl

blank-unmarked : (b : ℕ) → is_blank b ≡ true → is_unmarked b ≡ true
unfolding is_unmarked
blank-unmarked b is = by (b == space) (b == tab) refl refl is
  where
    by : (x y : Bool) → (b == space) ≡ x → (b == tab) ≡ y → (x || y) ≡ true → is_unmarked b ≡ true
    by true y i j e = ap is_unmarked (eqb-true b space i)
    by false true i j e = ap is_unmarked (eqb-true b tab j)
    by false false i j e = cc

first_true : (x y : Bool) → (x && y) ≡ true → x ≡ true
first_true true y e = refl
first_true false y e = cc

list_all-prefix : (test : ℕ → Bool) (t all : Text) → IsPrefix t all → list_all test all ≡ true → list_all test t ≡ true
list_all-prefix test t all begins is = first_true (list_all test t) (list_all test begins.0)
    (sym (list_all-append test t begins.0) ∙ ap (list_all test) (sym begins.1) ∙ is)

Contains-within : (t all : Text) (b : ℕ) → IsWithin t all → Contains t b → Contains all b
Contains-within t all b within has = subst (λ (z : Text). Contains z b) (sym within.is)
    (Contains-append_right within.left (t ++ within.right) b (Contains-append_left t within.right b has))

-- ---- where a byte occurs

IsInPiece-after : (x : Piece) (xs : List Piece) (prefix m : Text) (b : ℕ) (rest : Text) → prefix ≡ x.text ++ m
    → IsInPiece xs m b rest → IsInPiece (x ∷ xs) prefix b rest
IsInPiece-after x xs prefix m b rest is w = record {
  before = x ∷ w.before;
  piece = w.piece;
  after = w.after;
  left = w.left;
  right = w.right;
  pieces = ap (λ (z : List Piece). x ∷ z) w.pieces;
  text = w.text;
  is_prefix = is ∙ ap (λ (z : Text). x.text ++ z) w.is_prefix ∙ sym (append_assoc x.text (join w.before) w.left);
  is_rest = w.is_rest;
}

IsInPiece-first : (x : Piece) (xs : List Piece) (prefix m : Text) (b : ℕ) (rest : Text) → x.text ≡ prefix ++ b ∷ m
    → rest ≡ m ++ join xs → IsInPiece (x ∷ xs) prefix b rest
IsInPiece-first x xs prefix m b rest is is_rest = record {
  before = [];
  piece = x;
  after = xs;
  left = prefix;
  right = m;
  pieces = refl;
  text = is;
  is_prefix = refl;
  is_rest = is_rest;
}

join-occurs : (ps : List Piece) (prefix : Text) (b : ℕ) (rest : Text) → join ps ≡ prefix ++ b ∷ rest
    → IsInPiece ps prefix b rest
join-occurs [] [] b rest e = cc
join-occurs [] (c ∷ prefix) b rest e = cc
join-occurs (x ∷ xs) prefix b rest e = elim (append-cases x.text (join xs) prefix (b ∷ rest) e) [
  | inl ([], is, is_rest) ↦
      IsInPiece-after x xs prefix [] b rest (sym (append-nil prefix) ∙ sym is ∙ sym (append-nil x.text))
      (join-occurs xs [] b rest is_rest)
  | inl (c ∷ m, is, is_rest) ↦
      let same : c ≡ b = cc in
      let tail : m ++ join xs ≡ rest = cc in
      IsInPiece-first x xs prefix m b rest (is ∙ ap (λ (z : ℕ). prefix ++ z ∷ m) same) (sym tail)
  | inr (m, is, is_rest) ↦ IsInPiece-after x xs prefix m b rest is (join-occurs xs m b rest is_rest)
]

-- ---- pieces

html_of : (e : Element) → is_html e ≡ true → (c : Call) × (e ≡ html_expression c)
html_of (html_expression c) is = (c, refl)
html_of e is = cc

-- what is escaped of a text, where the default escape is in force
HasEscaped-html : (escape : Escaping) (user : Text → Answer Text → Type 0) (t all : Text) → escape ≡ for_html
    → HasEscaped escape user t (gives all) → all ≡ escaped t
HasEscaped-html escape user t all html is =
    gives-injective (subst (λ (z : Escaping). HasEscaped z user t (gives all)) html is)

module _ (p : Setting) (u : Tree) (blocks : List Frame) (vs : List Visit) (first : IsAsCompiled u)
    (stored : (n : Text) (t : Tree) → p.parts.template n ≡ Some t → IsAsCompiled t)
    (passed : (name : Text) → PassesCompiled (p.parts.user name))
    (before : AllByRecursion (λ f. (n : Text) (t : Tree) → f.partial n ≡ Some t → IsAsCompiled t) blocks)
    (trees : OccurInTrees p u blocks vs vs) where
  occurrence-of_run : (v : Visit) → Contains vs v → IsOccurrenceOfRun p u blocks vs v.occurrence
  occurrence-of_run v has = All-has (λ w. IsOccurrenceOfRun p u blocks vs w.occurrence) vs v trees has

  -- ---- indentations

  IsOfIndent-blank : (occurrence : Occurrence) (t : Text) → IsOfIndent p u vs occurrence t → IsBlank t
  IsOfIndent-blank occurrence t h = list_all-prefix is_blank t h.all h.is
      (AreIndents-blank p u blocks vs first stored passed before h.indents (occurrence-of_run _ (IsWriter-visited h.writer).comes).0)

  ComesFrom-blank : (o : Origin) (t : Text) → ComesFrom p u vs o t → IsBlankIndent o t
  ComesFrom-blank (of_text occurrence) t h = tt
  ComesFrom-blank (of_value occurrence found) t h = tt
  ComesFrom-blank (of_raw occurrence found) t h = tt
  ComesFrom-blank (of_boolean_text occurrence b) t h = tt
  ComesFrom-blank (of_step occurrence i) t h = tt
  ComesFrom-blank (of_indent occurrence) t h = IsOfIndent-blank occurrence t h

  pub HaveOrigins-blank : (ps : List Piece) → HaveOrigins p u vs ps
      → AllByRecursion (λ x. IsBlankIndent x.origin x.text) ps
  HaveOrigins-blank ps h = All-weaker ps (λ x is. ComesFrom-blank x.origin x.text is) h

  -- ---- values that aren't escaped

  raw-html : (occurrence : Occurrence) (found : Found) (t : Text) → IsOfShown p u vs false occurrence found t
      → (c : Call) × (element_at u occurrence ≡ Some (html_expression c))
  raw-html occurrence found t h =
      let well = IsTreeOfRun-well p u blocks vs first stored passed before (occurrence-of_run _ h.called.reached.comes).0 in
      let r = read-at (element_at u occurrence) shown_call (h.block, h.helper) h.called.occurs in
      let is : (is_html r.0 || is_raw_tree u (tree_occurrence_of occurrence)) ≡ true = sym (is_raw_occurrence-at u occurrence r.0 r.1) ∙ h.is_raw in
      let html = html_of r.0 (or-false (is_html r.0) (is_raw_tree u (tree_occurrence_of occurrence)) well.1 is) in
      (html.0, r.1 ∙ ap (λ (e : Element). Some e) html.1)
    where
      or-false : (x y : Bool) → y ≡ false → (x || y) ≡ true → x ≡ true
      or-false true y n is = refl
      or-false false y n is = cc

  -- ---- marks

  -- by what is proved of every escaped text
  module _ (html : p.parts.escape ≡ for_html) (is_unmarked_escaped : IsUnmarked) (begins_entities : BeginsEntities) where
    shown-escaped : (occurrence : Occurrence) (found : Found) (t : Text) (h : IsOfShown p u vs true occurrence found t)
        → h.all ≡ escaped (rendered_if_any (present_in found))
    shown-escaped occurrence found t h =
        HasEscaped-html p.parts.escape p.parts.user_escape (rendered_if_any (present_in found)) h.all html h.shows

    ComesFrom-marks : (o : Origin) (t : Text) → ComesFrom p u vs o t → (mark : ℕ) → Contains marks mark
        → Contains t mark → MayHaveMarks u o
    ComesFrom-marks (of_text occurrence) t h mark is has = tt
    ComesFrom-marks (of_value occurrence found) t h mark is has =
        is_unmarked_escaped (rendered_if_any (present_in found)) mark is
        (subst (λ (z : Text). Contains z mark) (shown-escaped occurrence found t h) (Contains-within t h.all mark h.is has))
    ComesFrom-marks (of_raw occurrence found) t h mark is has = raw-html occurrence found t h
    ComesFrom-marks (of_boolean_text occurrence b) t h mark is has = unmarked-never mark
        (list_all-has is_unmarked t mark (list_all-prefix is_unmarked t (boolean_text b) h.is (boolean_text-unmarked b)) has) is
    ComesFrom-marks (of_step occurrence i) t h mark is has = tt
    ComesFrom-marks (of_indent occurrence) t h mark is has =
        unmarked-never mark (blank-unmarked mark (list_all-has is_blank t mark (IsOfIndent-blank occurrence t h) has)) is

    pub HaveOrigins-marks : (ps : List Piece) → HaveOrigins p u vs ps → (prefix rest : Text) (mark : ℕ)
        → Contains marks mark → join ps ≡ prefix ++ mark ∷ rest → OccursMarked p u vs ps prefix mark rest
    HaveOrigins-marks ps h prefix rest mark has is =
        let w = join-occurs ps prefix mark rest is in
        let comes = (All-later (HasOrigin p u vs) w.before (w.piece ∷ w.after) (subst (HaveOrigins p u vs) w.pieces h)).0 in
        record {
          occurs = w;
          comes = comes;
          may = ComesFrom-marks w.piece.origin w.piece.text comes mark has (subst (λ (z : Text). Contains z mark) (sym w.text)
              (Contains-append_right w.left (mark ∷ w.right) mark (Contains-prefix mark w.right)));
        }

    -- ---- entities

    part-entities : (value left t right : Text) → escaped value ≡ left ++ (t ++ right) → (prefix rest : Text)
        → t ≡ prefix ++ ampersand ∷ rest → BeginsEntity (ampersand ∷ (rest ++ right))
    part-entities value left t right is prefix rest same =
        begins_entities value (left ++ prefix) (rest ++ right)
        (is ∙ ap (λ (z : Text). left ++ (z ++ right)) same
        ∙ ap (λ (z : Text). left ++ z) (append_assoc prefix (ampersand ∷ rest) right)
        ∙ sym (append_assoc left prefix (ampersand ∷ (rest ++ right))))

    IsOfShown-escaped : (occurrence : Occurrence) (found : Found) (t : Text) → IsOfShown p u vs true occurrence found t → IsOfEscaped found t
    IsOfShown-escaped occurrence found t h =
        let is = sym (shown-escaped occurrence found t h) ∙ h.is.is in record {
          left = h.is.left;
          right = h.is.right;
          is = is;
          entities = part-entities (rendered_if_any (present_in found)) h.is.left t h.is.right is;
        }

    ComesFrom-escaped : (o : Origin) (t : Text) → ComesFrom p u vs o t → IsEscaped o t
    ComesFrom-escaped (of_text occurrence) t h = tt
    ComesFrom-escaped (of_value occurrence found) t h = IsOfShown-escaped occurrence found t h
    ComesFrom-escaped (of_raw occurrence found) t h = tt
    ComesFrom-escaped (of_boolean_text occurrence b) t h = tt
    ComesFrom-escaped (of_step occurrence i) t h = tt
    ComesFrom-escaped (of_indent occurrence) t h = tt

    pub HaveOrigins-escaped : (ps : List Piece) → HaveOrigins p u vs ps
        → AllByRecursion (λ x. IsEscaped x.origin x.text) ps
    HaveOrigins-escaped ps h = All-weaker ps (λ x is. ComesFrom-escaped x.origin x.text is) h

-- ---- answers

abbrev plain_first : (recursive : Bool) → IsPlain (first_state recursive)
plain_first recursive = record { escapes = refl; indent = refl; captured = refl }

-- what it begins with is as compiled, if all registered trees are
abbrev BeginsCompiled : Setting → (Beginning → Type 0) → Type 0
BeginsCompiled p begins = (t : Tree) → begins (a_tree t) → AllAsCompiled p → IsAsCompiled t

FromName-compiled : (p : Setting) (name : Text) → BeginsCompiled p (FromName p.parts.template name)
FromName-compiled p name t (is_stored is) all = all.stored name t is

FromSource-compiled : (p : Setting) (options : Options) (source : Text) → BeginsCompiled p (FromSource options source)
FromSource-compiled p options source t (compiles is) all = compiles_so source options t is

module _ (p : Setting) (begins : Beginning → Type 0) (first : BeginsCompiled p begins) where
  indents_are_blank : IndentsAreBlank p begins
  indents_are_blank all ps o (not_begun b) = tt
  indents_are_blank all ps o (has_begun {t = t} b r) =
      let s = first_state p.parts.recursive in
      let plain = plain_first p.parts.recursive in
      HaveOrigins-blank p t s.blocks (visits r) (first t b all) all.stored all.passed ((λ n x is. cc), tt)
      (comes_in_trees p t s ps o plain r) ps (all_have_origins p t s ps o plain r)

  data_is_no_markup : IsUnmarked → BeginsEntities → DataIsNoMarkup p begins
  data_is_no_markup unmarked entities html all ps o (not_begun b) = record { marks = tt; entities = tt }
  data_is_no_markup unmarked entities html all ps o (has_begun {t = t} b r) =
      let s = first_state p.parts.recursive in
      let plain = plain_first p.parts.recursive in
      let trees = comes_in_trees p t s ps o plain r in
      let origins = all_have_origins p t s ps o plain r in
      record {
        marks = HaveOrigins-marks p t s.blocks (visits r) (first t b all) all.stored all.passed ((λ n x is. cc), tt) trees
            html unmarked entities ps origins;
        entities = HaveOrigins-escaped p t s.blocks (visits r) (first t b all) all.stored all.passed ((λ n x is. cc), tt)
            trees html unmarked entities ps origins;
      }

pub name-indents_are_blank : (p : Setting) (name : Text) → IndentsAreBlank p (FromName p.parts.template name)
name-indents_are_blank p name = indents_are_blank p _ (FromName-compiled p name)

pub source-indents_are_blank : (p : Setting) (options : Options) (source : Text)
    → IndentsAreBlank p (FromSource options source)
source-indents_are_blank p options source = indents_are_blank p _ (FromSource-compiled p options source)

pub name-data_is_no_markup : IsUnmarked → BeginsEntities → (p : Setting) (name : Text)
    → DataIsNoMarkup p (FromName p.parts.template name)
name-data_is_no_markup unmarked entities p name = data_is_no_markup p _ (FromName-compiled p name) unmarked entities

pub source-data_is_no_markup : IsUnmarked → BeginsEntities → (p : Setting) (options : Options) (source : Text)
    → DataIsNoMarkup p (FromSource options source)
source-data_is_no_markup unmarked entities p options source =
    data_is_no_markup p _ (FromSource-compiled p options source) unmarked entities
