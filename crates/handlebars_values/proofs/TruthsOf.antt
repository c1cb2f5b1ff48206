-- Whether all, and whether some, of a list's values count as true.
use Rattle.std.proofs.Common.{◌≡◌, ◌++◌, Bool, true, false, ◌&&◌, ◌||◌, map, List, [], ◌∷◌, refl, sym, ap, ◌∙◌}
use Rattle.serde_json.specs.View.{view}
use Rattle.serde_json.specs.declared.value.Value.{Value}
use Rattle.handlebars_base.specs.PathAndData.{PathAndData}
use Rattle.handlebars_base.specs.Scoped.{data_in}
use Rattle.handlebars_base.specs.Values.{truth}
use Rattle.handlebars_helpers.specs.Boolean.{all_true, some_true}
use Rattle.handlebars_helpers.specs.CallView.{plain_value}
use Rattle.handlebars_values.specs.Truths.{AddsTruths, ShowsTruths}
use Rattle.handlebars_values.specs.declared.boolean.Truths.{Truths}

-- constants as values of a call
pub plain-values : (vs : List Value) → map (λ v. plain_value (view v)) vs ≡ map plain_value (map view vs)
plain-values [] = refl
plain-values (v ∷ vs) = ap (λ (z : List PathAndData). plain_value (view v) ∷ z) (plain-values vs)

and-assoc : (a b c : Bool) → (a && (b && c)) ≡ ((a && b) && c)
and-assoc true b c = refl
and-assoc false b c = refl

or-assoc : (a b c : Bool) → (a || (b || c)) ≡ ((a || b) || c)
or-assoc true b c = refl
or-assoc false b c = refl

and-true : (b : Bool) → b ≡ (b && true)
and-true true = refl
and-true false = refl

or-false : (b : Bool) → b ≡ (b || false)
or-false true = refl
or-false false = refl

all_true-append : (xs ys : List PathAndData) → all_true (xs ++ ys) ≡ (all_true xs && all_true ys)
all_true-append [] ys = refl
all_true-append (x ∷ xs) ys =
    ap (λ b. truth false (data_in x.found) && b) (all_true-append xs ys) ∙ and-assoc (truth false (data_in x.found)) (all_true xs) (all_true ys)

some_true-append : (xs ys : List PathAndData) → some_true (xs ++ ys) ≡ (some_true xs || some_true ys)
some_true-append [] ys = refl
some_true-append (x ∷ xs) ys =
    ap (λ b. truth false (data_in x.found) || b) (some_true-append xs ys) ∙ or-assoc (truth false (data_in x.found)) (some_true xs) (some_true ys)

pub adds-nothing : (t : Truths) → AddsTruths t [] t
adds-nothing t = record { all = and-true t.all; some = or-false t.some }

pub adds-one : {t u v : Truths} (xs : List PathAndData) (d : PathAndData) (b : Bool) → AddsTruths t xs u → v.all ≡ (u.all && b)
    → v.some ≡ (u.some || b) → b ≡ truth false (data_in d.found) → AddsTruths t (xs ++ d ∷ []) v
adds-one {t = t} {u = u} xs d b adds all some is = record {
  all = all ∙ ap (λ z. z && b) adds.all ∙ sym (and-assoc t.all (all_true xs) b)
      ∙ ap (λ z. t.all && (all_true xs && z)) (is ∙ and-true (truth false (data_in d.found))) ∙ ap (λ z. t.all && z) (sym (all_true-append xs (d ∷ [])));
  some = some ∙ ap (λ z. z || b) adds.some ∙ sym (or-assoc t.some (some_true xs) b)
      ∙ ap (λ z. t.some || (some_true xs || z)) (is ∙ or-false (truth false (data_in d.found))) ∙ ap (λ z. t.some || z) (sym (some_true-append xs (d ∷ [])));
}

pub adds-shows : {t u : Truths} (xs ys : List PathAndData) → ShowsTruths xs t → AddsTruths t ys u → ShowsTruths (xs ++ ys) u
adds-shows xs ys shows adds = record {
  all = adds.all ∙ ap (λ z. z && all_true ys) shows.all ∙ sym (all_true-append xs ys);
  some = adds.some ∙ ap (λ z. z || some_true ys) shows.some ∙ sym (some_true-append xs ys);
}
