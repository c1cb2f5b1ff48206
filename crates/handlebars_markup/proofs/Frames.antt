-- Scope frames that are set up equally, and lists of scope frames that are equal up to texts.
use Rattle.std.proofs.Common.{◌≡◌, ◌==◌, List, [], ◌∷◌, Option, None, Some, codes, cond, refl, ap, sym, subst}
use Rattle.std.specs.Str.{bytes_eq}
use Rattle.serde_json.specs.Data.{Data, boolean, number, unsigned, string}
use Rattle.handlebars_base.specs.Bytes.{Text}
use Rattle.handlebars_base.specs.PathAndData.{PathAndData}
use Rattle.handlebars_template.specs.Tree.{Tree, Binding, no_binding, single, both}
use Rattle.handlebars_scope.specs.Resolve.{or_else}
use Rattle.handlebars_scope.specs.Scopes.{nothing_at, put_at, Bound, bound_value, Frame, empty_frame, Base, at_path, at_value, frame_at, bound_base}
use Rattle.handlebars_helpers.specs.CallView.{single_name, both_names}
use Rattle.handlebars_helpers.specs.Iterations.{Iteration, iteration_key, iteration_base, with_key, iteration_variables, bind_one, bind_both, bound_in_iteration, iteration_frame, with_frame}
use Rattle.handlebars_semantics.specs.Inclusion.{hash_data, inclusion_frame}
use Rattle.handlebars_semantics.specs.State.{outer_frames, nearest_as, nearest_variables, partial_in, with_partial}
use Rattle.handlebars_markup.specs.Alike.{AreAlike}
use Rattle.handlebars_markup.proofs.Alikeness.{AreAlikeOptions, AreAlikeLists, AreAlikeMaps, AreAlikeBound, AreAlikeFrames, AreAlikeBases, AreAlikeHash, AreAlikeIterations}
use Rattle.handlebars_markup.proofs.Values.{AreAlike-self, cond-alike}

-- ---- maps by name

put_at-alike : {A B : Type 0} (R : A → B → Type 0) (name : Text) (x : A) (y : B) (f : Text → Option A) (g : Text → Option B)
    → R x y → AreAlikeMaps R f g → AreAlikeMaps R (put_at name x f) (put_at name y g)
put_at-alike R name x y f g h k =
    λ n. cond-alike (AreAlikeOptions R) (bytes_eq name n) (Some x) (f n) (Some y) (g n) h (k n)

nothing_at-alike : {A B : Type 0} (R : A → B → Type 0) → AreAlikeMaps R nothing_at nothing_at
nothing_at-alike R = λ n. tt

-- ---- bases

bound_base-alike : (base other : Base) → AreAlikeBases base other → AreAlikeBound (bound_base base) (bound_base other)
bound_base-alike (at_path ns) (at_path ms) h = refl
bound_base-alike (at_value d) (at_value e) h = h
bound_base-alike base other h = absurd h

frame_at-alike : (base other : Base) (f g : Frame) → AreAlikeBases base other → AreAlikeFrames f g
    → AreAlikeFrames (frame_at base f) (frame_at other g)
frame_at-alike (at_path ns) (at_path ms) f g h k =
    record { base_path = h; base_value = k.base_value; bound = k.bound; variable = k.variable; partial = k.partial }
frame_at-alike (at_value d) (at_value e) f g h k =
    record { base_path = k.base_path; base_value = h; bound = k.bound; variable = k.variable; partial = k.partial }
frame_at-alike base other f g h k = absurd h

pub empty_frame-alike : AreAlikeFrames empty_frame empty_frame
empty_frame-alike = record { base_path = refl; base_value = tt; bound = λ n. tt; variable = λ n. tt; partial = λ n. refl }

-- ---- names that are bound

bind_one-alike : (o : Option Text) (b c : Bound) → AreAlikeBound b c → AreAlikeMaps AreAlikeBound (bind_one o b) (bind_one o c)
bind_one-alike None b c h = nothing_at-alike AreAlikeBound
bind_one-alike (Some name) b c h =
    put_at-alike AreAlikeBound name b c nothing_at nothing_at h (nothing_at-alike AreAlikeBound)

bind_both-alike : (o : Option (Text × Text)) (b c key : Bound) → AreAlikeBound b c → AreAlikeBound key key
    → AreAlikeMaps AreAlikeBound (bind_both o b key) (bind_both o c key)
bind_both-alike None b c key h k = nothing_at-alike AreAlikeBound
bind_both-alike (Some names) b c key h k =
    put_at-alike AreAlikeBound names.1 key key (put_at names.0 b nothing_at) (put_at names.0 c nothing_at) k
    (put_at-alike AreAlikeBound names.0 b c nothing_at nothing_at h (nothing_at-alike AreAlikeBound))

bound_in_iteration-alike : (names : Binding) (b c : Bound) (key : Data) → AreAlikeBound b c
    → AreAlikeMaps AreAlikeBound (bound_in_iteration names b key) (bound_in_iteration names c key)
bound_in_iteration-alike no_binding b c key h = nothing_at-alike AreAlikeBound
bound_in_iteration-alike (single p) b c key h = bind_one-alike (single_name (single p)) b c h
bound_in_iteration-alike (both p q) b c key h =
    bind_both-alike (both_names (both p q)) b c (bound_value key) h (AreAlike-self key)

-- ---- the scope frames of `each` and `with`

with_key-alike : (o : Option Text) (f g : Text → Option Data) → AreAlikeMaps AreAlike f g
    → AreAlikeMaps AreAlike (with_key o f) (with_key o g)
with_key-alike None f g h = h
with_key-alike (Some k) f g h = put_at-alike AreAlike (codes "key") (string k) (string k) f g (AreAlike-self (string k)) h

iteration_variables-alike : (t : Iteration) (f g : Text → Option Data) → AreAlikeMaps AreAlike f g
    → AreAlikeMaps AreAlike (iteration_variables t f) (iteration_variables t g)
iteration_variables-alike t f g h =
    let index = number (unsigned t.index) in
    let last = boolean t.last in
    let first = boolean (t.index == 0) in
    with_key-alike t.key
    (put_at (codes "index") index (put_at (codes "last") last (put_at (codes "first") first f)))
    (put_at (codes "index") index (put_at (codes "last") last (put_at (codes "first") first g)))
    (put_at-alike AreAlike (codes "index") index index (put_at (codes "last") last (put_at (codes "first") first f))
    (put_at (codes "last") last (put_at (codes "first") first g)) refl
    (put_at-alike AreAlike (codes "last") last last (put_at (codes "first") first f) (put_at (codes "first") first g) refl
    (put_at-alike AreAlike (codes "first") first first f g refl h)))

iteration_base-alike : (path : Option (List Text)) (t : Iteration) (d : Data) → AreAlike t.member d
    → AreAlikeBases (iteration_base path t) (iteration_base path (record t { member = d }))
iteration_base-alike None t d h = h
iteration_base-alike (Some path) t d h = refl

iteration_frame-member : (path : Option (List Text)) (names : Binding) (t : Iteration) (d : Data) (f g : Frame) → AreAlike t.member d
    → AreAlikeFrames f g → AreAlikeFrames (iteration_frame path names t f) (iteration_frame path names (record t { member = d }) g)
iteration_frame-member path names t d f g h k =
    let base = iteration_base path t in
    let other = iteration_base path (record t { member = d }) in
    let bases = iteration_base-alike path t d h in
    let at_base = frame_at-alike base other f g bases k in
    record {
      base_path = at_base.base_path;
      base_value = at_base.base_value;
      bound = bound_in_iteration-alike names (bound_base base) (bound_base other) (iteration_key t) (bound_base-alike base other bases);
      variable = iteration_variables-alike t f.variable g.variable k.variable;
      partial = at_base.partial;
    }

pub iteration_frame-alike : (path : Option (List Text)) (names : Binding) (t u : Iteration) (f g : Frame) → AreAlikeIterations t u
    → AreAlikeFrames f g → AreAlikeFrames (iteration_frame path names t f) (iteration_frame path names u g)
iteration_frame-alike path names t u f g h k =
    subst (λ (z : Iteration). AreAlikeFrames (iteration_frame path names t f) (iteration_frame path names z g)) (sym h.1)
    (iteration_frame-member path names t h.0 f g h.2 k)

pub with_frame-alike : (base other : Base) (names : Binding) (f g : Text → Option Data) → AreAlikeBases base other
    → AreAlikeMaps AreAlike f g → AreAlikeFrames (with_frame base names f) (with_frame other names g)
with_frame-alike base other names f g h k =
    let at_base = frame_at-alike base other empty_frame empty_frame h empty_frame-alike in
    record {
      base_path = at_base.base_path;
      base_value = at_base.base_value;
      bound = bind_one-alike (single_name names) (bound_base base) (bound_base other) (bound_base-alike base other h);
      variable = k;
      partial = at_base.partial;
    }

-- ---- the scope frame of an inclusion without hash arguments

AreAlikeLists-nil : (xs ys : List (Text × PathAndData)) → AreAlikeLists AreAlikeHash xs ys → xs ≡ [] → ys ≡ []
AreAlikeLists-nil [] [] h is = refl
AreAlikeLists-nil (x ∷ xs) (y ∷ ys) h is = cc
AreAlikeLists-nil xs ys h is = absurd h

inclusion_frame-lone : (d e : Data) (xs ys : List (Text × PathAndData)) (f g : Text → Option Data) → AreAlike d e → xs ≡ []
    → ys ≡ [] → AreAlikeMaps AreAlike f g
    → AreAlikeFrames (inclusion_frame d (hash_data xs) f) (inclusion_frame e (hash_data ys) g)
inclusion_frame-lone d e [] [] f g h i j k =
    record { base_path = refl; base_value = h; bound = λ n. tt; variable = k; partial = λ n. refl }
inclusion_frame-lone d e (x ∷ xs) ys f g h i j k = cc
inclusion_frame-lone d e [] (y ∷ ys) f g h i j k = cc

pub inclusion_frame-alike : (d e : Data) (xs ys : List (Text × PathAndData)) (f g : Text → Option Data) → AreAlike d e
    → xs ≡ [] → AreAlikeLists AreAlikeHash xs ys → AreAlikeMaps AreAlike f g
    → AreAlikeFrames (inclusion_frame d (hash_data xs) f) (inclusion_frame e (hash_data ys) g)
inclusion_frame-alike d e xs ys f g h is hash k =
    inclusion_frame-lone d e xs ys f g h is (AreAlikeLists-nil xs ys hash is) k

-- ---- a partial of a scope frame

pub with_partial-alike : (name : Text) (t : Tree) (f g : Frame) → AreAlikeFrames f g
    → AreAlikeFrames (with_partial name t f) (with_partial name t g)
with_partial-alike name t f g h = record {
  base_path = h.base_path;
  base_value = h.base_value;
  bound = h.bound;
  variable = h.variable;
  partial = λ n. ap (λ (o : Option Tree). cond (bytes_eq name n) (Some t) o) (h.partial n);
}

-- ---- lists of scope frames

pub outer_frames-alike : (fs gs : List Frame) → AreAlikeLists AreAlikeFrames fs gs
    → AreAlikeLists AreAlikeFrames (outer_frames fs) (outer_frames gs)
outer_frames-alike [] [] h = tt
outer_frames-alike (f ∷ fs) (g ∷ gs) h = h.1
outer_frames-alike fs gs h = absurd h

pub nearest_as-alike : (x y : Frame → Frame) (fs gs : List Frame)
    → ((f g : Frame) → AreAlikeFrames f g → AreAlikeFrames (x f) (y g)) → AreAlikeLists AreAlikeFrames fs gs
    → AreAlikeLists AreAlikeFrames (nearest_as x fs) (nearest_as y gs)
nearest_as-alike x y [] [] k h = tt
nearest_as-alike x y (f ∷ fs) (g ∷ gs) k h = (k f g h.0, h.1)
nearest_as-alike x y fs gs k h = absurd h

pub nearest_variables-alike : (fs gs : List Frame) → AreAlikeLists AreAlikeFrames fs gs
    → AreAlikeMaps AreAlike (nearest_variables fs) (nearest_variables gs)
nearest_variables-alike [] [] h n = tt
nearest_variables-alike (f ∷ fs) (g ∷ gs) h n = h.0.variable n
nearest_variables-alike fs gs h n = absurd h

pub partial_in-alike : (fs gs : List Frame) (n : Text) → AreAlikeLists AreAlikeFrames fs gs
    → partial_in fs n ≡ partial_in gs n
partial_in-alike [] [] n h = refl
partial_in-alike (f ∷ fs) (g ∷ gs) n h = λ i. or_else (h.0.partial n i) (partial_in-alike fs gs n h.1 i)
partial_in-alike fs gs n h = absurd h
