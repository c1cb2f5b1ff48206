-- The law of two runs: blind templates write the same markup over data that is equal up to texts.
use Rattle.std.proofs.Common.{◌≡◌, List, ap, subst}
use Rattle.std.proofs.Math.Logic.{∥∥₁_map}
use Rattle.handlebars_base.specs.Reasons.{Refusal}
use Rattle.handlebars_template.specs.Tree.{Tree}
use Rattle.handlebars_semantics.specs.Answer.{Beginning, a_tree, no_tree, not_begun, has_begun}
use Rattle.handlebars_semantics.specs.Pieces.{Piece}
use Rattle.handlebars_semantics.specs.Runs.{Outcome, Ended, Failed, WriteFailed, NoMemory, Means}
use Rattle.handlebars_semantics.specs.State.{IsLawful, Setting, first_state}
use Rattle.handlebars_laws.proofs.RunLaws.{IsNotStopped, Runs-one}
use Rattle.handlebars_markup.specs.Blind.{IsBlindTree}
use Rattle.handlebars_markup.specs.TwoRuns.{registrations, HaveSameMarkup, EndAlike, given_data, HasFixedMarkup}
use Rattle.handlebars_markup.proofs.AlikeRuns.{AreAlikeOutcomes}
use Rattle.handlebars_markup.proofs.Elements.{has_run_alike}
use Rattle.handlebars_markup.proofs.Marks.{HaveSameMarkup-nil}
use Rattle.handlebars_markup.proofs.TwoSettings.{HasTwin, twin}

-- ---- beginnings

tree_or : Tree → Beginning → Tree
tree_or d (a_tree t) = t
tree_or d (no_tree r) = d

refusal_or : Refusal → Beginning → Refusal
refusal_or d (a_tree t) = d
refusal_or d (no_tree r) = r

a_tree-injective : {t u : Tree} → a_tree t ≡ a_tree u → t ≡ u
unfolding tree_or
a_tree-injective {t = t} is = ap (tree_or t) is

no_tree-injective : {r q : Refusal} → no_tree r ≡ no_tree q → r ≡ q
unfolding refusal_or
no_tree-injective {r = r} is = ap (refusal_or r) is

a_tree≢no_tree : {t : Tree} {r : Refusal} → a_tree t ≡ no_tree r → ⊥
a_tree≢no_tree is = cc

-- ---- outcomes

module _ (p : Setting) where
  AreAlikeOutcomes-whole : (o q : Outcome) → IsNotStopped o → AreAlikeOutcomes p o q → IsNotStopped q
  AreAlikeOutcomes-whole (Ended s) (Ended t) whole h = λ i. i
  AreAlikeOutcomes-whole (Failed r) (Failed q) whole h = λ i. i
  AreAlikeOutcomes-whole (WriteFailed f) q whole h = absurd (whole tt)
  AreAlikeOutcomes-whole NoMemory q whole h = absurd (whole tt)
  AreAlikeOutcomes-whole o q whole h = absurd h

  AreAlikeOutcomes-end : (o q : Outcome) → AreAlikeOutcomes p o q → EndAlike o q
  AreAlikeOutcomes-end (Ended s) (Ended t) h = tt
  AreAlikeOutcomes-end (Failed r) (Failed q) h = h
  AreAlikeOutcomes-end o q h = absurd h

-- A tree's run over the other data is the one that is equal to its run up to texts.
Means-alike : (p : Setting) → IsLawful p.parts → (w : HasTwin p) (t : Tree) → IsBlindTree (registrations p.parts) t
    → (ps qs : List Piece) (o q : Outcome) → Means p t (first_state p.parts.recursive) ps o
    → Means (twin p w) t (first_state p.parts.recursive) qs q → IsNotStopped o → IsNotStopped q
    → ∥ HaveSameMarkup ps qs × EndAlike o q ∥₁
Means-alike p lawful w t blind ps qs o q a b whole whole_too =
    let z = has_run_alike p w t blind ps o a whole in
    ∥∥₁_map (Runs-one lawful z.runs b (AreAlikeOutcomes-whole p o z.outcome whole z.ends) whole_too)
    (λ e. (
      subst (λ (x : List Piece). HaveSameMarkup ps x) e.0 z.same,
      subst (λ (x : Outcome). EndAlike o x) e.1 (AreAlikeOutcomes-end p o z.outcome z.ends),
    ))

pub two_runs : (p : Setting) → IsLawful p.parts → (begins : Beginning → Type 0)
    → ((a b : Beginning) → begins a → begins b → a ≡ b) → HasFixedMarkup p begins
two_runs p lawful begins one blind first d alike _ _ _ _ (not_begun {r = r} a) (not_begun {r = f} b) whole whole_too =
    ∣ (HaveSameMarkup-nil, no_tree-injective (one (no_tree r) (no_tree f) a b)) ∣₁
two_runs p lawful begins one blind first d alike _ _ _ _ (not_begun {r = r} a) (has_begun {t = t} b x) whole whole_too =
    absurd (a_tree≢no_tree (one (a_tree t) (no_tree r) b a))
two_runs p lawful begins one blind first d alike _ _ _ _ (has_begun {t = t} b x) (not_begun {r = r} a) whole whole_too =
    absurd (a_tree≢no_tree (one (a_tree t) (no_tree r) b a))
two_runs p lawful begins one blind first d alike _ _ _ _ (has_begun {t = t} {ps = ps} {o = o} a x)
    (has_begun {t = u} {ps = qs} {o = q} b y) whole whole_too =
    let same : u ≡ t = a_tree-injective (one (a_tree u) (a_tree t) b a) in
    Means-alike p lawful (record { blind = blind; other = d; alike = alike }) t (first t a) ps qs o q x
    (subst (λ (z : Tree). Means (given_data d p) z (first_state p.parts.recursive) qs q) same y) whole whole_too
