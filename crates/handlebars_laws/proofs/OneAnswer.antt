-- A question has at most one answer.
use Rattle.std.proofs.Common.{◌≡◌, refl, sym, ap, ◌∙◌, subst}
use Rattle.std.proofs.Math.Logic.{∥∥₁_elim, ∥∥₁_map, ∥∥₁_prop}
use Rattle.handlebars_base.specs.Answers.{Answer, gives, fails}
use Rattle.handlebars_base.specs.Bytes.{Text}
use Rattle.handlebars_base.specs.Reasons.{Refusal}
use Rattle.handlebars_base.proofs.PathShapes.{one_meaning}
use Rattle.handlebars_helpers.specs.CallView.{CallView}
use Rattle.handlebars_helpers.specs.UserHelper.{HasOne}
use Rattle.handlebars_semantics.specs.Asks.{Asks, ◌>>=◌, goes_on, first_fails}
use Rattle.handlebars_semantics.specs.Sections.{ReadsAsPath, reads, reads_not}
use Rattle.handlebars_semantics.specs.State.{IsLawful, Setting, State}
use Rattle.handlebars_semantics.specs.Questions.{Question, IsAnswered}
use Rattle.handlebars_laws.proofs.RelatedAnswers.{Relation, IsAnswered-related}

value_or : {A : Type 0} → A → Answer A → A
value_or d (gives x) = x
value_or d (fails r) = d

refusal_or : {A : Type 0} → Refusal → Answer A → Refusal
refusal_or d (gives x) = d
refusal_or d (fails r) = r

pub gives-injective : {A : Type 0} {x y : A} → gives x ≡ gives y → x ≡ y
unfolding value_or
gives-injective {x = x} e = ap (value_or x) e

abbrev no_value : (A : Type 0) → Refusal → Answer A
no_value A r = fails r

pub fails-injective : (A : Type 0) {r q : Refusal} → no_value A r ≡ no_value A q → r ≡ q
unfolding refusal_or
fails-injective A {r = r} e = ap (refusal_or r) e

gives≢fails : {A : Type 0} {x : A} {r : Refusal} → gives x ≡ no_value A r → ⊥
gives≢fails e = cc

then-one : {A B : Type 0} (m : Asks A) (f : A → Asks B) → HasOne m → ((x : A) → HasOne (f x)) → HasOne (m >>= f)
then-one m f one ones _ _ (goes_on {x = x} {a = a} i h) (goes_on {x = y} {a = b} j g) =
    ∥∥₁_elim (one (gives x) (gives y) i j) ∥∥₁_prop
    (λ e. ones x a b h (subst (λ z. f z b) (sym (gives-injective e)) g))
then-one m f one ones _ _ (goes_on {x = x} i h) (first_fails {r = r} j) =
    ∥∥₁_elim (one (gives x) (fails r) i j) ∥∥₁_prop (λ e. absurd (gives≢fails e))
then-one m f one ones _ _ (first_fails {r = r} i) (goes_on {x = x} j g) =
    ∥∥₁_elim (one (gives x) (fails r) j i) ∥∥₁_prop (λ e. absurd (gives≢fails e))
then-one {A = A} {B = B} m f one ones _ _ (first_fails {r = r} i) (first_fails {r = q} j) =
    ∥∥₁_map (one (fails r) (fails q) i j) (λ e. ap (no_value B) (fails-injective A e))

ReadsAsPath-one : (n : Text) (v : CallView) → HasOne (ReadsAsPath n v)
ReadsAsPath-one n v _ _ (reads {r = r} i) (reads {r = q} j) = ∣ ap (λ z. gives z) (one_meaning n r q i j) ∣₁
ReadsAsPath-one n v _ _ (reads {r = r} i) (reads_not none) = absurd (none r i)
ReadsAsPath-one n v _ _ (reads_not none) (reads {r = r} i) = absurd (none r i)
ReadsAsPath-one n v _ _ (reads_not none) (reads_not other) = ∣ refl ∣₁

-- A question that has one answer is related to any other.
abbrev first_has_one : Relation
first_has_one = record {
  Relates = λ m n. HasOne m;
  only_related = λ x a b e g. ∣ e ∙ sym g ∣₁;
  then_related = λ m n f g. then-one m f;
  path_related = ReadsAsPath-one;
}

pub IsAnswered-one : (p : Setting) (lawful : IsLawful p.parts) (s : State) (q : Question) → HasOne (IsAnswered p s q)
IsAnswered-one p lawful s q = IsAnswered-related first_has_one p (record {
  steps = λ n x. (lawful.helpers n).steps x;
  offer = λ n x. (lawful.helpers n).offer x;
  actions = λ n x. lawful.decorators n x;
  escape = λ t. lawful.escape t;
}) p.parts.template p.parts.limit s s.current q
