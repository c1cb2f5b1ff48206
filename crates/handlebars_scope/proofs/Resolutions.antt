-- Walking along names that are joined, and the two steps of a resolution.
use Rattle.std.proofs.Common.{◌≡◌, Bool, List, [], ◌∷◌, ◌++◌, Option, Some, None, refl, sym, ap, ◌∙◌}
use Rattle.serde_json.specs.Data.{Data}
use Rattle.handlebars_base.specs.Answers.{Answer, gives, fails}
use Rattle.handlebars_base.specs.Bytes.{Text}
use Rattle.handlebars_base.specs.Optional.{with_or}
use Rattle.handlebars_base.specs.Path.{Segment}
use Rattle.handlebars_scope.specs.Resolve.{Resolution, after_ups, bound_resolution, member_at, resolution_of, then_at, unbound_resolution, value_at}
use Rattle.handlebars_scope.specs.Scopes.{Frame}

then_at-assoc : (a : Answer (Option Data)) (f g : Data → Answer (Option Data))
    → then_at (then_at a f) g ≡ then_at a (λ d. then_at (f d) g)
then_at-assoc (gives (Some d)) f g = refl
then_at-assoc (gives None) f g = refl
then_at-assoc (fails r) f g = refl

-- joined names continue from where the first of them lead
pub value_at-append : (d : Data) (xs ys : List Text)
    → value_at d (xs ++ ys) ≡ then_at (value_at d xs) (λ e. value_at e ys)
value_at-append d [] ys = refl
value_at-append d (x ∷ xs) ys =
    let all : (λ e. value_at e (xs ++ ys)) ≡ (λ e. then_at (value_at e xs) (λ f. value_at f ys)) =
    λ i e. value_at-append e xs ys i in
    ap (then_at (member_at d x)) all ∙ sym (then_at-assoc (member_at d x) (λ e. value_at e xs) (λ e. value_at e ys))

-- if the first of them lead to a value
pub value_at-on : (d e : Data) (xs ys : List Text) → value_at d xs ≡ gives (Some e)
    → value_at d (xs ++ ys) ≡ value_at e ys
value_at-on d e xs ys is = value_at-append d xs ys ∙ ap (λ a. then_at a (λ f. value_at f ys)) is

-- ---- resolutions

pub resolution_of-bound : (recursive : Bool) (fs : List Frame) (segments : List Segment) {after : List Segment} {w : Resolution}
    → after ≡ after_ups segments → Some w ≡ bound_resolution fs after → w ≡ resolution_of recursive fs segments
resolution_of-bound recursive fs segments same is =
    sym (ap (λ (o : Option Resolution). with_or o (λ resolution. resolution) (unbound_resolution recursive fs segments))
    (ap (bound_resolution fs) (sym same) ∙ sym is))

pub resolution_of-unbound : (recursive : Bool) (fs : List Frame) (segments : List Segment) {after : List Segment} {w : Resolution}
    → after ≡ after_ups segments → None ≡ bound_resolution fs after → w ≡ unbound_resolution recursive fs segments
    → w ≡ resolution_of recursive fs segments
resolution_of-unbound recursive fs segments same none is =
    is ∙ sym (ap (λ (o : Option Resolution). with_or o (λ resolution. resolution) (unbound_resolution recursive fs segments))
    (ap (bound_resolution fs) (sym same) ∙ sym none))
