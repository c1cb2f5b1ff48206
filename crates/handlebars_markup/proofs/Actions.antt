-- What blind decorators do, and what is escaped, is equal up to texts.
use Rattle.std.proofs.Common.{◌≡◌, List, [], ◌∷◌, Option, None, Some, codes, refl, sym, ◌∙◌, subst}
use Rattle.std.specs.List.{AllByRecursion, slice_get}
use Rattle.serde_json.specs.Data.{Data, null, boolean, number, string, array, object}
use Rattle.handlebars_base.specs.Answers.{Answer, gives, fails_for}
use Rattle.handlebars_base.specs.Bytes.{Text}
use Rattle.handlebars_base.specs.Escape.{escaped}
use Rattle.handlebars_base.specs.EscapeLaws.{marks_in}
use Rattle.handlebars_base.specs.Optional.{with_or}
use Rattle.handlebars_base.specs.PathAndData.{PathAndData}
use Rattle.handlebars_base.specs.Reasons.{param_not_found_for_index}
use Rattle.handlebars_base.specs.Scoped.{data_in}
use Rattle.handlebars_template.specs.Tree.{Body, no_body, body}
use Rattle.handlebars_helpers.specs.Decoration.{DecoratorKind, kind_inline, kind_user, DecoratorView, Action, sets_data, binds, unbinds, sets_partial, by_text, by_body, inline_actions}
use Rattle.handlebars_helpers.specs.Escaping.{Escaping, for_html, for_plain, by_user, UserEscape, HasEscaped}
use Rattle.handlebars_semantics.specs.Questions.{HasActions}
use Rattle.handlebars_semantics.specs.State.{Setting, State}
use Rattle.handlebars_markup.proofs.Alikeness.{AreAlikeAnswers}
use Rattle.handlebars_markup.proofs.Asked.{AreAnswered, only-answered}
use Rattle.handlebars_markup.proofs.Marks.{marks_in-escaped}
use Rattle.handlebars_markup.proofs.Targets.{IsSameDecorator}

-- ---- actions

-- a partial is set
abbrev pub IsSetPartial : Action → Type 0
IsSetPartial (sets_data d) = ⊥
IsSetPartial (binds name l) = ⊥
IsSetPartial (unbinds name) = ⊥
IsSetPartial (sets_partial name) = Unit {0}

abbrev pub AreSameActions : List Action → List Action → Type 0
AreSameActions ds es = (ds ≡ es) × AllByRecursion IsSetPartial ds

-- the actions of `inline`, by the first parameter and the body
abbrev actions_by : Option PathAndData → Body → Answer (List Action)
actions_by o b =
    with_or o (λ p. by_text (data_in p.found) (λ name. by_body b (λ t. gives (sets_partial name ∷ []))))
    (fails_for (param_not_found_for_index (codes "inline") 0))

by_body-partials : (b : Body) (name : Text) → AreAlikeAnswers AreSameActions
    (by_body b (λ t. gives (sets_partial name ∷ []))) (by_body b (λ t. gives (sets_partial name ∷ [])))
by_body-partials no_body name = refl
by_body-partials (body t) name = (refl, (tt, tt))

by_text-partials : (b : Body) (d : Data) → AreAlikeAnswers AreSameActions
    (by_text d (λ name. by_body b (λ t. gives (sets_partial name ∷ []))))
    (by_text d (λ name. by_body b (λ t. gives (sets_partial name ∷ []))))
by_text-partials b null = refl
by_text-partials b (boolean c) = refl
by_text-partials b (number n) = refl
by_text-partials b (string s) = by_body-partials b s
by_text-partials b (array ds) = refl
by_text-partials b (object ms) = refl

actions_by-partials : (o : Option PathAndData) (b : Body) → AreAlikeAnswers AreSameActions (actions_by o b) (actions_by o b)
actions_by-partials None b = refl
actions_by-partials (Some p) b = by_text-partials b (data_in p.found)

inline_actions-alike : (v u : DecoratorView) → v.body ≡ u.body → slice_get v.call.params 0 ≡ slice_get u.call.params 0
    → AreAlikeAnswers AreSameActions (inline_actions v) (inline_actions u)
inline_actions-alike v u same first =
    let is : inline_actions v ≡ inline_actions u = λ i. actions_by (first i) (same i) in
    subst (λ (a : Answer (List Action)). AreAlikeAnswers AreSameActions (inline_actions v) a) is
    (actions_by-partials (slice_get v.call.params 0) v.body)

HasActions-inline : (p q : Setting) (s t : State) (k l : DecoratorKind) (v u : DecoratorView) → k ≡ kind_inline
    → l ≡ kind_inline → AreAlikeAnswers AreSameActions (inline_actions v) (inline_actions u)
    → AreAnswered AreSameActions (HasActions p s k v) (HasActions q t l u)
HasActions-inline p q s t kind_inline kind_inline v u i j h = only-answered AreSameActions (inline_actions v) (inline_actions u) h
HasActions-inline p q s t (kind_user n) l v u i j h = cc
HasActions-inline p q s t kind_inline (kind_user n) v u i j h = cc

is_inline : (k : DecoratorKind) → IsSameDecorator k k → k ≡ kind_inline
is_inline kind_inline h = refl
is_inline (kind_user n) h = let is = h.1 in cc

pub HasActions-alike : (p q : Setting) (s t : State) (k l : DecoratorKind) (v u : DecoratorView) → IsSameDecorator k l
    → v.body ≡ u.body → slice_get v.call.params 0 ≡ slice_get u.call.params 0
    → AreAnswered AreSameActions (HasActions p s k v) (HasActions q t l u)
HasActions-alike p q s t k l v u h same first =
    let is = is_inline k (refl, h.1) in
    HasActions-inline p q s t k l v u is (sym h.0 ∙ is) (inline_actions-alike v u same first)

-- ---- what is escaped

-- Both have the same marks: none.
pub HasEscaped-marks : (how : Escaping) (user : UserEscape) (x y : Text) → how ≡ for_html
    → AreAnswered (λ (c d : Text). marks_in c ≡ marks_in d) (HasEscaped how user x) (HasEscaped how user y)
HasEscaped-marks for_html user x y is =
    only-answered (λ (c d : Text). marks_in c ≡ marks_in d) (gives (escaped x)) (gives (escaped y))
    (marks_in-escaped x ∙ sym (marks_in-escaped y))
HasEscaped-marks for_plain user x y is = cc
HasEscaped-marks by_user user x y is = cc
