-- What paths lead to in other data: values alone, without their paths.
use Rattle.std.proofs.Common.{◌≡◌, ◌++◌, ◌∙◌, List, Option, None, Result, Ok, Err, sym, ap}
use Rattle.std.specs.Prelude.{IfOk}
use Rattle.std.specs.declared.alloc.AllocError.{AllocError}
use Rattle.serde_json.specs.Data.{Data}
use Rattle.handlebars_base.specs.Answers.{Answer, fails, gives}
use Rattle.handlebars_base.specs.Bytes.{Text}
use Rattle.handlebars_base.specs.Reasons.{Refusal}
use Rattle.handlebars_scope.specs.Resolve.{then_at, value_at}
use Rattle.handlebars_scope.proofs.Resolutions.{value_at-append}
use Rattle.handlebars_layers.specs.Destination.{found_in_data}
use Rattle.handlebars_layers.specs.declared.destination.FoundInData.{FoundInData}

pub ok-data : (r : Result FoundInData AllocError) (a b : Answer (Option Data)) → IfOk r (λ found. found_in_data found ≡ a) → a ≡ b
    → IfOk r (λ found. found_in_data found ≡ b)
ok-data (Ok found) a b is same = is ∙ same
ok-data (Err e) a b is same = is

-- ---- values without paths

-- ---- if the base is missing, or if its names fail, so do all of them

pub data-nothing : (d : Data) (xs ys : List Text) → gives None ≡ value_at d xs → gives None ≡ value_at d (xs ++ ys)
data-nothing d xs ys is = sym (value_at-append d xs ys ∙ ap (λ a. then_at a (λ e. value_at e ys)) (sym is))

pub data-fails : (d : Data) (xs ys : List Text) (r : Refusal) → fails r ≡ value_at d xs → fails r ≡ value_at d (xs ++ ys)
data-fails d xs ys r is = sym (value_at-append d xs ys ∙ ap (λ a. then_at a (λ e. value_at e ys)) (sym is))
