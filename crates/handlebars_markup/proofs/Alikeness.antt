-- When things that are made of values are equal up to texts: what is found, scope frames, views of calls, iterations and
-- choices.
use Rattle.std.specs.Prelude.{◌≡◌, List, [], ◌∷◌, Option, None, Some}
use Rattle.serde_json.specs.Data.{Data}
use Rattle.handlebars_base.specs.Answers.{Answer, gives, fails}
use Rattle.handlebars_base.specs.Bytes.{Text}
use Rattle.handlebars_base.specs.PathAndData.{PathAndData}
use Rattle.handlebars_base.specs.Scoped.{Found, walked, value, missing}
use Rattle.handlebars_scope.specs.Resolve.{Resolution, in_block_value, along, under_prefix}
use Rattle.handlebars_scope.specs.Scopes.{Bound, bound_path, bound_value, Frame, Base, at_path, at_value}
use Rattle.handlebars_helpers.specs.CallView.{CallView}
use Rattle.handlebars_helpers.specs.Choice.{Choice, the_body, the_inverse, body_in_block, body_in_iterations, the_value, the_boolean, nothing}
use Rattle.handlebars_helpers.specs.Iterations.{Iteration}
use Rattle.handlebars_markup.specs.Alike.{AreAlike}

-- ---- options, lists and answers

abbrev pub AreAlikeOptions : {A B : Type 0} → (A → B → Type 0) → Option A → Option B → Type 0
AreAlikeOptions R None None = Unit {0}
AreAlikeOptions R (Some x) (Some y) = R x y
AreAlikeOptions R o q = ⊥

abbrev pub AreAlikeLists : {A B : Type 0} → (A → B → Type 0) → List A → List B → Type 0
AreAlikeLists R [] [] = Unit {0}
AreAlikeLists R (x ∷ xs) (y ∷ ys) = R x y × AreAlikeLists R xs ys
AreAlikeLists R xs ys = ⊥

-- Both give values that are equal up to texts, or both fail for the same reason.
abbrev pub AreAlikeAnswers : {A B : Type 0} → (A → B → Type 0) → Answer A → Answer B → Type 0
AreAlikeAnswers R (gives x) (gives y) = R x y
AreAlikeAnswers R (fails r) (fails q) = r ≡ q
AreAlikeAnswers R a b = ⊥

abbrev pub AreAlikeMaps : {A B : Type 0} → (A → B → Type 0) → (Text → Option A) → (Text → Option B) → Type 0
AreAlikeMaps R f g = (n : Text) → AreAlikeOptions R (f n) (g n)

-- ---- what paths lead to

-- What was walked to has the same path.
abbrev pub AreAlikeFound : Found → Found → Type 0
AreAlikeFound (walked d ns) (walked e ms) = AreAlike d e × (ns ≡ ms)
AreAlikeFound (value d) (value e) = AreAlike d e
AreAlikeFound missing missing = Unit {0}
AreAlikeFound x y = ⊥

abbrev pub AreAlikeResolutions : Resolution → Resolution → Type 0
AreAlikeResolutions (in_block_value d ns) (in_block_value e ms) = AreAlike d e × (ns ≡ ms)
AreAlikeResolutions (along ns) (along ms) = ns ≡ ms
AreAlikeResolutions (under_prefix base n) (under_prefix other m) = (base ≡ other) × (n ≡ m)
AreAlikeResolutions x y = ⊥

-- ---- scope frames

abbrev pub AreAlikeBound : Bound → Bound → Type 0
AreAlikeBound (bound_path ns) (bound_path ms) = ns ≡ ms
AreAlikeBound (bound_value d) (bound_value e) = AreAlike d e
AreAlikeBound b c = ⊥

-- They have the same partials.
pub record AreAlikeFrames (f g : Frame) : Type 0 where
  pub base_path : f.base_path ≡ g.base_path
  pub base_value : AreAlikeOptions AreAlike f.base_value g.base_value
  pub bound : AreAlikeMaps AreAlikeBound f.bound g.bound
  pub variable : AreAlikeMaps AreAlike f.variable g.variable
  pub partial : (n : Text) → f.partial n ≡ g.partial n

abbrev pub AreAlikeBases : Base → Base → Type 0
AreAlikeBases (at_path ns) (at_path ms) = ns ≡ ms
AreAlikeBases (at_value d) (at_value e) = AreAlike d e
AreAlikeBases b c = ⊥

-- ---- calls

pub record AreAlikeParams (x y : PathAndData) : Type 0 where
  pub path : x.relative_path ≡ y.relative_path
  pub found : AreAlikeFound x.found y.found

abbrev pub AreAlikeHash : Text × PathAndData → Text × PathAndData → Type 0
AreAlikeHash x y = (x.0 ≡ y.0) × AreAlikeParams x.1 y.1

pub record AreAlikeViews (v w : CallView) : Type 0 where
  pub name : v.name ≡ w.name
  pub params : AreAlikeLists AreAlikeParams v.params w.params
  pub hash : AreAlikeLists AreAlikeHash v.hash w.hash

-- the same iteration, up to the texts of its member
abbrev pub AreAlikeIterations : Iteration → Iteration → Type 0
AreAlikeIterations t u = (d : Data) × (u ≡ record t { member = d }) × AreAlike t.member d

-- No blind helper chooses a line for the logger or the steps of a user-defined helper.
abbrev pub AreAlikeChoices : Choice → Choice → Type 0
AreAlikeChoices the_body the_body = Unit {0}
AreAlikeChoices the_inverse the_inverse = Unit {0}
AreAlikeChoices (body_in_block base) (body_in_block other) = AreAlikeBases base other
AreAlikeChoices (body_in_iterations path ts) (body_in_iterations other us) = (path ≡ other) × AreAlikeLists AreAlikeIterations ts us
AreAlikeChoices (the_value d) (the_value e) = AreAlike d e
AreAlikeChoices (the_boolean b) (the_boolean c) = b ≡ c
AreAlikeChoices nothing nothing = Unit {0}
AreAlikeChoices x y = ⊥
