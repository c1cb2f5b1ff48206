-- Tags of inline partials whose names are known: what they set, and for what they fail.
use Rattle.std.proofs.Common.{◌≡◌, List, [], ◌∷◌, refl, ap, ◌∙◌, subst, Option, None, Some, option_and_then, codes}
use Rattle.std.specs.List.{slice_get}
use Rattle.serde_json.specs.Data.{Data, string}
use Rattle.handlebars_base.specs.Answers.{Answer, gives, fails, fails_for}
use Rattle.handlebars_base.specs.Bytes.{Text}
use Rattle.handlebars_base.specs.Optional.{with_or}
use Rattle.handlebars_base.specs.PathAndData.{PathAndData}
use Rattle.handlebars_base.specs.Reasons.{Refusal, param_not_found_for_index}
use Rattle.handlebars_base.specs.Scoped.{data_in}
use Rattle.handlebars_template.specs.Position.{Position}
use Rattle.handlebars_template.specs.Tree.{Tree, Decorator, decorator, decorator_name, decorator_args, decorator_body, Args, args, args_params, literal, param, Body, no_body, body}
use Rattle.handlebars_helpers.specs.CallView.{CallView}
use Rattle.handlebars_helpers.specs.Decoration.{DecoratorKind, kind_inline, kind_user, Action, sets_partial, by_text, by_body, inline_actions}
use Rattle.handlebars_semantics.specs.Asks.{goes_on}
use Rattle.handlebars_semantics.specs.Means.{shown_tag}
use Rattle.handlebars_semantics.specs.Questions.{view_of, decorator_of, actions_of, decorator_or_refusal, IsAnswered}
use Rattle.handlebars_semantics.specs.State.{Setting, State}
use Rattle.handlebars_semantics.specs.Values.{as_written, HaveValues}
use Rattle.handlebars_html.specs.Rule.{written_name, inline_name}
use Rattle.handlebars_laws.proofs.Failures.{TagHas, Acts}
use Rattle.handlebars_names.specs.Check.{decorator_findings, inline_findings, tree_findings, AreFine}
use Rattle.handlebars_names.specs.Faults.{faults_at}
use Rattle.handlebars_names.specs.Law.{IsStillPossible}
use Rattle.handlebars_names.specs.Names.{Names, AreNames}
use Rattle.handlebars_names.specs.Scopes.{Scope, Entry, scope_at}
use Rattle.handlebars_names.specs.Whys.{by_written_name, whys_of_args, whys_of_inline, whys_of_kind, whys_of_decorator}
use Rattle.handlebars_names.proofs.Arguments.{both-empty, never-one, gives-same, viewed-name, viewed-params, never-gives, view-fails}
use Rattle.handlebars_names.proofs.Fine.{fine-parts, fine-none}
use Rattle.handlebars_names.proofs.States.{none-some, some-same}

-- A tag sets a partial, whose name is written, and which has a body.
pub record KnownDecorator (names : Names) (t : Decorator) : Type 0 where
  pub called : Text
  pub written : written_name (decorator_name t) ≡ Some called
  pub arguments : whys_of_args names (decorator_args t) ≡ []
  pub inline : names.decorator called ≡ Some kind_inline
  pub name : Text
  pub named : inline_name (decorator_args t) ≡ Some name
  pub tree : Tree
  pub is : decorator_body t ≡ body tree

pub decorator-known : (names : Names) (t : Decorator) → whys_of_decorator names t ≡ [] → KnownDecorator names t
decorator-known names (decorator n xs b marks) is =
    let both = both-empty (whys_of_args names xs) _ is in
    named both.0 (written_name n) refl both.1
  where
    set : whys_of_args names xs ≡ [] → (m : Text) → written_name n ≡ Some m → names.decorator m ≡ Some kind_inline
        → (o : Option Text) → inline_name xs ≡ o → (y : Body) → b ≡ y → whys_of_inline o y ≡ []
        → KnownDecorator names (decorator n xs b marks)
    set arguments m written inline None same y e w = never-one w
    set arguments m written inline (Some x) same no_body e w = never-one w
    set arguments m written inline (Some x) same (body t) e w = record {
      called = m;
      written = written;
      arguments = arguments;
      inline = inline;
      name = x;
      named = same;
      tree = t;
      is = e;
    }

    called : whys_of_args names xs ≡ [] → (m : Text) → written_name n ≡ Some m → (k : Option DecoratorKind)
        → names.decorator m ≡ k → whys_of_kind k m (inline_name xs) b ≡ [] → KnownDecorator names (decorator n xs b marks)
    called arguments m written None same w = never-one w
    called arguments m written (Some kind_inline) same w = set arguments m written same (inline_name xs) refl b refl w
    called arguments m written (Some (kind_user x)) same w = never-one w

    named : whys_of_args names xs ≡ [] → (o : Option Text) → written_name n ≡ o
        → by_written_name o (λ m. whys_of_kind (names.decorator m) m (inline_name xs) b) ≡ []
        → KnownDecorator names (decorator n xs b marks)
    named arguments None same w = never-one w
    named arguments (Some m) same w = called arguments m same (names.decorator m) refl w

-- ---- findings

module _ (names : Names) (table : List Entry) (t : Option Text) where
  pub decorator-whys : (p : Option Position) (d : Decorator) → AreFine table (decorator_findings names table t p d)
      → whys_of_decorator names d ≡ []
  decorator-whys p (decorator n xs b marks) fine = fine-none table t p _ (fine-parts table _ _ fine).0

  -- the partial, by what the table has of its name
  pub partial-fine : (p : Option Position) (d : Decorator) → AreFine table (decorator_findings names table t p d) → (m : Text)
      → inline_name (decorator_args d) ≡ Some m → (x : Tree) → decorator_body d ≡ body x → (h : Scope) → scope_at table m ≡ Some h
      → AreFine table (tree_findings names table t x h)
  partial-fine p (decorator n xs b marks) fine m named x is h there =
      let rest = (fine-parts table (faults_at t p (whys_of_decorator names (decorator n xs b marks))) _ fine).1 in
      let at = ap (option_and_then (scope_at table)) named ∙ there in
      subst (λ (o : Option Scope). AreFine table (inline_findings names table t (body x) o)) at
      (subst (λ (y : Body). AreFine table (inline_findings names table t y (option_and_then (scope_at table) (inline_name xs)))) is rest)

-- ---- what a tag does

module _ (p : Setting) (names : Names) (are : AreNames p.parts names) (s : State) (local : (n : Text) → s.local n ≡ None)
    (t : Decorator) (known : KnownDecorator names t) where
  abbrev Still : Refusal → Type 0
  Still r = IsStillPossible p.parts r.reason

  pub decorator_view-fails : (r : Refusal) → IsAnswered p s (view_of (decorator_name t) (decorator_args t)) (fails r) → Still r
  decorator_view-fails r is =
      view-fails p names are s local (decorator_name t) (decorator_args t) known.arguments known.called known.written r is

  -- the value of a literal text that is the first parameter
  first-text : (xs : Args) (m : Text) → inline_name xs ≡ Some m → (vs : List PathAndData) → HaveValues p s (args_params xs) (gives vs)
      → (w : PathAndData) × (slice_get vs 0 ≡ Some w) × (data_in w.found ≡ string m)
  first-text (args (param (literal (string x)) ps) hs) m is vs (goes_on {x = w} (goes_on {x = f} i made) (goes_on {x = ws} j joined)) = (
    w,
    ap (λ (l : List PathAndData). slice_get l 0) (gives-same p s vs (w ∷ ws) joined),
    ap (λ (z : PathAndData). data_in z.found) (gives-same p s w (as_written (literal (string x)) f) made)
        ∙ ap data_in (gives-same p s f _ i) ∙ ap string (some-same x m is),
  )
  first-text xs m is vs has = none-some is

  module _ (v : CallView) (viewed : TagHas p t s v) where
    kind-given : p.parts.decorator v.name ≡ Some kind_inline
    kind-given =
        ap p.parts.decorator (viewed-name p s (decorator_name t) (decorator_args t) v known.called viewed known.written)
        ∙ are.decorators known.called ∙ known.inline

    kind-answers : (a : Answer DecoratorKind) → IsAnswered p s (decorator_of v.name) a → a ≡ gives kind_inline
    kind-answers a is = is ∙ ap (decorator_or_refusal v.name) kind-given

    pub decorator-fails : (r : Refusal) → IsAnswered p s (decorator_of v.name) (fails r) → Still r
    decorator-fails r is = never-gives p names are s local (kind-answers (fails r) is)

    actions-given : inline_actions (shown_tag s.indent t v) ≡ gives (sets_partial known.name ∷ [])
    actions-given =
        let first = first-text (decorator_args t) known.name known.named v.params
        (viewed-params p s (decorator_name t) (decorator_args t) v viewed) in
        let f : PathAndData → Answer (List Action) = λ x. by_text (data_in x.found) (λ n. by_body (decorator_body t) (λ y. gives (sets_partial n ∷ []))) in
        ap (λ (o : Option PathAndData). with_or o f (fails_for (param_not_found_for_index (codes "inline") 0))) first.1
        ∙ ap (λ (d : Data). by_text d (λ n. by_body (decorator_body t) (λ y. gives (sets_partial n ∷ [])))) first.2
        ∙ ap (λ (b : Body). by_body b (λ y. gives (sets_partial known.name ∷ []))) known.is

    actions-answers : (kind : DecoratorKind) → IsAnswered p s (decorator_of v.name) (gives kind) → (a : Answer (List Action))
        → IsAnswered p s (actions_of kind (shown_tag s.indent t v)) a → a ≡ gives (sets_partial known.name ∷ [])
    actions-answers kind is a answers = by kind (gives-same p s kind kind_inline (kind-answers (gives kind) is)) answers
      where
        by : (k : DecoratorKind) → k ≡ kind_inline → IsAnswered p s (actions_of k (shown_tag s.indent t v)) a
            → a ≡ gives (sets_partial known.name ∷ [])
        by kind_inline same e = e ∙ actions-given
        by (kind_user called) same e = cc

    pub actions-fail : (kind : DecoratorKind) → IsAnswered p s (decorator_of v.name) (gives kind) → (r : Refusal)
        → IsAnswered p s (actions_of kind (shown_tag s.indent t v)) (fails r) → Still r
    actions-fail kind is r answers = never-gives p names are s local (actions-answers kind is (fails r) answers)

    -- It sets its partial, and nothing else.
    pub acts-are : (all : List Action) → Acts p t s v all → all ≡ sets_partial known.name ∷ []
    acts-are all acts = gives-same p s all _ (actions-answers acts.kind acts.named (gives all) acts.answers)
