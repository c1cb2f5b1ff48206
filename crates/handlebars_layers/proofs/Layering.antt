-- Layers are the scope frames of the language.
use Rattle.std.proofs.Common.{◌≡◌, ◌==◌, ℕ, Bool, true, false, cond, List, Option, Some, None, refl, sym}
use Rattle.std.specs.Prelude.{codes, is_some}
use Rattle.std.specs.Str.{bytes_eq}
use Rattle.serde_json.specs.Data.{Data, boolean, number, unsigned, string}
use Rattle.handlebars_base.specs.Bytes.{Text}
use Rattle.handlebars_base.specs.Optional.{with_or}
use Rattle.handlebars_template.specs.Tree.{Binding, no_binding, single, both}
use Rattle.handlebars_scope.specs.Scopes.{Base, Bound, Frame, bound_base, bound_value, empty_frame, frame_at, nothing_at}
use Rattle.handlebars_helpers.specs.CallView.{both_names, single_name}
use Rattle.handlebars_helpers.specs.Iterations.{Iteration, bind_both, bind_one, bound_in_iteration, iteration_base, iteration_key, iteration_variables}
use Rattle.handlebars_semantics.specs.State.{nearest_variables}
use Rattle.handlebars_layers.specs.Chain.{block_bound, value_bound, one, two, unnamed}
use Rattle.handlebars_layers.specs.Layering.{IsInInclusionFrame, IsInWithFrame, IteratesInItsFrame, IteratesInTheNextFrame, bound_names}

-- ---- bound names

by-one : (o : Option Text) (b : Bound) (key : Data) → block_bound (with_or o one unnamed) b key ≡ bind_one o b
by-one None b key = refl
by-one (Some name) b key = refl

by-two : (o : Option (Text × Text)) (b : Bound) (key : Data)
    → block_bound (with_or o (λ names. two names.0 names.1) unnamed) b key ≡ bind_both o b (bound_value key)
by-two None b key = refl
by-two (Some names) b key = refl

bound-iteration : (binding : Binding) (b : Bound) (key : Data) → block_bound (bound_names binding) b key ≡ bound_in_iteration binding b key
bound-iteration no_binding b key = refl
bound-iteration (single p) b key = by-one (single_name (single p)) b key
bound-iteration (both p q) b key = by-two (both_names (both p q)) b key

alone-one : (o : Option Text) (b : Bound) → value_bound (with_or o one unnamed) b ≡ bind_one o b
alone-one None b = refl
alone-one (Some name) b = refl

alone-two : (o : Option (Text × Text)) (b : Bound)
    → value_bound (with_or o (λ names. two names.0 names.1) unnamed) b ≡ nothing_at
alone-two None b = refl
alone-two (Some names) b = refl

bound-with : (binding : Binding) (b : Bound) → value_bound (bound_names binding) b ≡ bind_one (single_name binding) b
bound-with no_binding b = refl
bound-with (single p) b = alone-one (single_name (single p)) b
bound-with (both p q) b = alone-two (both_names (both p q)) b

-- ---- variables that are set once more

three : (a b c : Bool) (x y z u v w n : Option Data)
    → cond a x (cond b y (cond c z (cond a u (cond b v (cond c w n))))) ≡ cond a x (cond b y (cond c z n))
three true b c x y z u v w n = refl
three false true c x y z u v w n = refl
three false false true x y z u v w n = refl
three false false false x y z u v w n = refl

four : (k a b c : Bool) (j x y z l u v w n : Option Data)
    → cond k j (cond a x (cond b y (cond c z (cond k l (cond a u (cond b v (cond c w n)))))))
    ≡ cond k j (cond a x (cond b y (cond c z n)))
four true a b c j x y z l u v w n = refl
four false a b c j x y z l u v w n = three a b c x y z u v w n

variables-again : (key before : Option Text) (i j : ℕ) (last other : Bool) (d e : Data) → is_some before ≡ is_some key
    → iteration_variables (record { index = i; key = key; last = last; member = d }) nothing_at
    ≡ iteration_variables (record { index = i; key = key; last = last; member = d })
    (iteration_variables (record { index = j; key = before; last = other; member = e }) nothing_at)
variables-again None None i j last other d e same = λ at name.
    sym (three (bytes_eq (codes "index") name) (bytes_eq (codes "last") name) (bytes_eq (codes "first") name) (Some (number (unsigned i))) (Some (boolean last))
    (Some (boolean (i == 0))) (Some (number (unsigned j))) (Some (boolean other)) (Some (boolean (j == 0))) None) at
variables-again None (Some k) i j last other d e same = absurd (cc)
variables-again (Some k) None i j last other d e same = absurd (cc)
variables-again (Some k) (Some l) i j last other d e same = λ at name.
    sym (four (bytes_eq (codes "key") name) (bytes_eq (codes "index") name) (bytes_eq (codes "last") name) (bytes_eq (codes "first") name) (Some (string k)) (Some (number (unsigned i)))
    (Some (boolean last)) (Some (boolean (i == 0))) (Some (string l)) (Some (number (unsigned j))) (Some (boolean other))
    (Some (boolean (j == 0))) None) at

-- ---- frames

pub iteration_layer-first : (path : Option (List Text)) (binding : Binding) (t : Iteration) (fs : List Frame)
    → IteratesInItsFrame path binding t fs
iteration_layer-first path binding t fs =
    let e = bound-iteration binding (bound_base (iteration_base path t)) (iteration_key t) in
    λ i. record (frame_at (iteration_base path t) empty_frame) { bound = e i; variable = iteration_variables t nothing_at }

pub iteration_layer-next : (path : Option (List Text)) (binding : Binding) (before t : Iteration) (fs : List Frame)
    → IteratesInTheNextFrame path binding before t fs
iteration_layer-next None binding before t fs = λ same.
    let e = bound-iteration binding (bound_base (iteration_base None t)) (iteration_key t) in
    let v = variables-again t.key before.key t.index before.index t.last before.last t.member before.member same in
    λ i. record (frame_at (iteration_base None t) empty_frame) { bound = e i; variable = v i }
iteration_layer-next (Some path) binding before t fs = λ same.
    let e = bound-iteration binding (bound_base (iteration_base (Some path) t)) (iteration_key t) in
    let v = variables-again t.key before.key t.index before.index t.last before.last t.member before.member same in
    λ i. record (frame_at (iteration_base (Some path) t) empty_frame) { bound = e i; variable = v i }

pub with-frame : (base : Base) (binding : Binding) (fs : List Frame) → IsInWithFrame base binding fs
with-frame base binding fs =
    let e = bound-with binding (bound_base base) in
    λ i. record (frame_at base empty_frame) { bound = e i; variable = nearest_variables fs }

pub partial-frame : (d : Data) (hs : List (Text × Data)) (fs : List Frame) → IsInInclusionFrame d hs fs
partial-frame d hs fs = refl
