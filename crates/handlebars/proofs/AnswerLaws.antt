-- A rendering has one answer, whose pieces have their origins.
use Rattle.std.proofs.Common.{◌≡◌, List, [], Option, None, Some, refl, sym, ap, ◌∙◌, subst}
use Rattle.std.proofs.Math.Logic.{∥∥₁_map}
use Rattle.handlebars_base.specs.Bytes.{Text}
use Rattle.handlebars_base.specs.Reasons.{Refusal, TemplateRefusal, of_template}
use Rattle.handlebars_base.specs.RenderRefusals.{plain_refusal, refusal_of}
use Rattle.handlebars_base.specs.declared.error.render_error.RenderError.{RenderError}
use Rattle.handlebars_template.specs.Tree.{Tree}
use Rattle.handlebars_lexer.specs.Options.{Options}
use Rattle.handlebars_template.specs.Compile.{Compilation, compiled, rejected}
use Rattle.handlebars_template.proofs.One.{one_compilation}
use Rattle.handlebars_semantics.specs.Names.{included_names}
use Rattle.handlebars_semantics.specs.Pieces.{Piece}
use Rattle.handlebars_semantics.specs.State.{IsLawful, Setting, State, first_state}
use Rattle.handlebars_semantics.specs.Means.{render_tree}
use Rattle.handlebars_semantics.specs.Runs.{Outcome, Ended, Failed, Means}
use Rattle.handlebars_write.specs.View.{GivesString, StringFails}
use Rattle.handlebars_semantics.specs.Answer.{Beginning, a_tree, no_tree, FromSource, compiles, does_not, FromName, is_stored, is_not, not_begun, has_begun, GivesText, FailsWith, HasOneAnswer, AnswerHasOrigins, AnswerStays, NamedAnswerStays}
use Rattle.handlebars_laws.proofs.Once.{comes_once}
use Rattle.handlebars_laws.proofs.OtherTemplates.{same_answer_under_larger, answer_only_by_names, named_answer_only_by_names}
use Rattle.handlebars_laws.proofs.RenamedRuns.{named_answer_as_source, source_answer_as_named}
use Rattle.handlebars_laws.proofs.RunLaws.{Runs-one}
use Rattle.handlebars_laws.proofs.RunOrigins.{all_have_origins, comes_in_trees}
use Rattle.handlebars_semantics.specs.Laws.{IsPlain}

-- ---- at most one beginning

refusal_or : TemplateRefusal → Compilation → TemplateRefusal
refusal_or d (compiled t) = d
refusal_or d (rejected f) = f

tree_or : Tree → Compilation → Tree
tree_or d (compiled t) = t
tree_or d (rejected f) = d

rejected-injective : {f g : TemplateRefusal} → rejected f ≡ rejected g → f ≡ g
unfolding refusal_or
rejected-injective {f = f} e = ap (refusal_or f) e

compiled-injective : {t u : Tree} → compiled t ≡ compiled u → t ≡ u
unfolding tree_or
compiled-injective {t = t} e = ap (tree_or t) e

compiled≢rejected : {t : Tree} {f : TemplateRefusal} → compiled t ≡ rejected f → ⊥
compiled≢rejected e = cc

abbrev pub IsOne : (Beginning → Type 0) → Type 0
IsOne begins = (a b : Beginning) → begins a → begins b → a ≡ b

pub FromSource-one : (options : Options) (source : Text) → IsOne (FromSource options source)
FromSource-one options source _ _ (compiles {t = t} a) (compiles {t = u} b) =
    ap a_tree (compiled-injective (one_compilation source options (compiled t) (compiled u) a b))
FromSource-one options source _ _ (compiles {t = t} a) (does_not {r = f} b) =
    absurd (compiled≢rejected (one_compilation source options (compiled t) (rejected f) a b))
FromSource-one options source _ _ (does_not {r = f} a) (compiles {t = t} b) =
    absurd (compiled≢rejected (one_compilation source options (compiled t) (rejected f) b a))
FromSource-one options source _ _ (does_not {r = f} a) (does_not {r = g} b) =
    ap (λ (z : TemplateRefusal). no_tree (plain_refusal (of_template z)))
    (rejected-injective (one_compilation source options (rejected f) (rejected g) a b))

Some-injective : {t u : Tree} → Some t ≡ Some u → t ≡ u
Some-injective e = cc

Some≢None : {t : Tree} {o : Option Tree} → o ≡ Some t → o ≡ None → ⊥
Some≢None a b = cc

pub FromName-one : (stored : Text → Option Tree) (name : Text) → IsOne (FromName stored name)
FromName-one stored name _ _ (is_stored a) (is_stored b) = ap a_tree (Some-injective (sym a ∙ b))
FromName-one stored name _ _ (is_stored a) (is_not b) = absurd (Some≢None a b)
FromName-one stored name _ _ (is_not a) (is_stored b) = absurd (Some≢None b a)
FromName-one stored name _ _ (is_not a) (is_not b) = refl

-- ---- at most one answer

beginning_tree : Tree → Beginning → Tree
beginning_tree d (a_tree t) = t
beginning_tree d (no_tree r) = d

beginning_refusal : Refusal → Beginning → Refusal
beginning_refusal d (a_tree t) = d
beginning_refusal d (no_tree r) = r

pub a_tree-injective : {t u : Tree} → a_tree t ≡ a_tree u → t ≡ u
unfolding beginning_tree
a_tree-injective {t = t} e = ap (beginning_tree t) e

no_tree-injective : {r q : Refusal} → no_tree r ≡ no_tree q → r ≡ q
unfolding beginning_refusal
no_tree-injective {r = r} e = ap (beginning_refusal r) e

pub a_tree≢no_tree : {t : Tree} {r : Refusal} → a_tree t ≡ no_tree r → ⊥
a_tree≢no_tree e = cc

module _ (p : Setting) (lawful : IsLawful p.parts) (begins : Beginning → Type 0) (one : IsOne begins) where
  -- a tree's run whose inclusions have these names
  abbrev NamedMeans : Tree → List Piece → Outcome → List Text → Type 0
  NamedMeans t ps o names = (r : Means p t (first_state p.parts.recursive) ps o) × (included_names r ≡ names)

  Means-tree : {t u : Tree} {ps : List Piece} {o : Outcome} → t ≡ u → (r : Means p u (first_state p.parts.recursive) ps o)
      → NamedMeans t ps o (included_names r)
  Means-tree {ps = ps} {o = o} e r =
      subst (λ (t : Tree). NamedMeans t ps o (included_names r)) (sym e) (r, refl)

  pub has_one_answer : HasOneAnswer p begins
  has_one_answer _ _ _ _ (not_begun {r = r} a) (not_begun {r = q} b) h i =
      ∣ (refl, ap (λ (z : Refusal). Failed z) (no_tree-injective (one (no_tree r) (no_tree q) a b)), refl) ∣₁
  has_one_answer _ _ _ _ (not_begun {r = r} a) (has_begun {t = t} b x) h i = absurd (a_tree≢no_tree (one (a_tree t) (no_tree r) b a))
  has_one_answer _ _ _ _ (has_begun {t = t} b x) (not_begun {r = r} a) h i = absurd (a_tree≢no_tree (one (a_tree t) (no_tree r) b a))
  has_one_answer _ _ _ _ (has_begun {t = t} a x) (has_begun {t = u} b y) h i =
      let n = Means-tree (a_tree-injective (one (a_tree t) (a_tree u) a b)) y in
      ∥∥₁_map (Runs-one lawful x n.0 h i) (λ e. (e.0, e.1, e.2 ∙ n.1))

-- ---- origins

pub answer_has_origins : (p : Setting) (begins : Beginning → Type 0) → AnswerHasOrigins p begins
answer_has_origins p begins ps o (not_begun a) = tt
answer_has_origins p begins ps o (has_begun {t = t} a r) =
    let plain : IsPlain (first_state p.parts.recursive) = record { escapes = refl; indent = refl; captured = refl } in (
      all_have_origins p t (first_state p.parts.recursive) ps o plain r,
      (comes_once p t (first_state p.parts.recursive) ps o r, comes_in_trees p t (first_state p.parts.recursive) ps o plain r),
    )

-- ---- what doesn't matter

pub answer_stays : (p : Setting) (begins : Beginning → Type 0) → AnswerStays p begins
answer_stays p begins =
    record { larger = same_answer_under_larger p begins; others = answer_only_by_names p begins }

pub named_answer_stays : (p : Setting) (name : Text) → NamedAnswerStays p name
named_answer_stays p name = record {
  larger = same_answer_under_larger p (FromName p.parts.template name);
  others = named_answer_only_by_names p name;
  source = named_answer_as_source p name;
  named = source_answer_as_named p name;
}

-- ---- what calls answer

module _ (p : Setting) (begins : Beginning → Type 0) where
  pub fails_before : (q : Refusal) (e : RenderError) → begins (no_tree q) → refusal_of e ≡ q → FailsWith p begins (refusal_of e)
  fails_before q e b is =
      subst (λ (z : Refusal). FailsWith p begins z) (sym is) (record { pieces = []; answers = not_begun b })

  module _ (t : Tree) (first : State) (begun : begins (a_tree t)) (is_first : first ≡ first_state p.parts.recursive) where
    pub gives_text : {next : State} {text : Text} → GivesString p (render_tree t) first next text → GivesText p begins text
    gives_text {next = next} g = record {
      pieces = g.pieces;
      last = next;
      answers = has_begun begun (subst (λ (s : State). Means p t s g.pieces (Ended next)) is_first g.runs);
      is = g.is;
    }

    pub fails_with : {f : Refusal} → StringFails p (render_tree t) first f → FailsWith p begins f
    fails_with {f = f} g = record {
      pieces = g.pieces;
      answers = has_begun begun (subst (λ (s : State). Means p t s g.pieces (Failed f)) is_first g.runs);
    }
