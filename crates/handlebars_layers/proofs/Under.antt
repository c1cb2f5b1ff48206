-- A name under the prefixes of other names.
use Rattle.std.proofs.Common.{◌≡◌, ◌++◌, ℕ, List, [], ◌∷◌, Option, Some, None, take, add-one, append_assoc, refl, subst, sym, ap, ◌∙◌}
use Rattle.std.specs.Prelude.{option_map}
use Rattle.std.proofs.lemmas.List.{append-nil}
use Rattle.serde_json.specs.Data.{Data}
use Rattle.handlebars_base.specs.Answers.{Answer, gives, fails}
use Rattle.handlebars_base.specs.Bytes.{Text}
use Rattle.handlebars_base.specs.Optional.{◌>>=◌}
use Rattle.handlebars_scope.specs.Resolve.{count_one_name, found_prefix, if_any, longest, member_at, or_else, then_at, value_at}
use Rattle.handlebars_scope.proofs.Resolutions.{value_at-on}
use Rattle.handlebars_helpers.specs.Iterations.{iteration_name}
use Rattle.handlebars_layers.specs.Chain.{LayerKind, iteration, iteration_layer, kind_names, partial_layer, with_layer}
use Rattle.handlebars_layers.specs.Under.{Hit, beyond, found_hit, from_end, hit_at, member_value, under}

-- ---- the longest prefix of the definition

-- what is found, with the names of its prefix in place of their number
abbrev by_names : List Text → List Text → Text → Option (ℕ × Data) → Option Hit
by_names before names name None = None
by_names before names name (Some found) = Some (before ++ (take found.0 names ++ name ∷ []), found.1)

by-one_more : (before : List Text) (n : Text) (ns : List Text) (name : Text) (o : Option (ℕ × Data)) (here : Option Data)
    → or_else (by_names (before ++ n ∷ []) ns name o) (option_map (λ v. (before ++ name ∷ [], v)) here)
    ≡ by_names before (n ∷ ns) name (or_else (count_one_name o) (option_map (λ e. (0, e)) here))
by-one_more before n ns name None None = refl
by-one_more before n ns name None (Some v) = refl
by-one_more before n ns name (Some found) here =
    ap (λ names. Some (names, found.1)) (append_assoc before (n ∷ []) (take found.0 ns ++ name ∷ [])
    ∙ sym (ap (λ k. before ++ (take k (n ∷ ns) ++ name ∷ [])) (add-one found.0)))

under-by_names : (d : Data) (before names : List Text) (name : Text)
    → under d before names name ≡ by_names before names name (longest d names name)
under-by_names d before [] name =
    let go : (o : Option Data) → option_map (λ v. (before ++ name ∷ [], v)) o ≡ by_names before [] name (option_map (λ e. (0, e)) o) =
    elim [ None ↦ refl | Some v ↦ refl ] in go (if_any (member_at d name))
under-by_names d before (n ∷ ns) name =
    let here = if_any (member_at d name) in
    let go : (o : Option Data) → or_else (o >>= λ e. under e (before ++ n ∷ []) ns name) (option_map (λ v. (before ++ name ∷ [], v)) here)
    ≡ by_names before (n ∷ ns) name (or_else (o >>= λ e. count_one_name (longest e ns name)) (option_map (λ e. (0, e)) here)) =
    elim [
      | None ↦ by-one_more before n ns name None here
      | Some e ↦
          ap (λ o. or_else o (option_map (λ v. (before ++ name ∷ [], v)) here)) (under-by_names e (before ++ n ∷ []) ns name)
          ∙ by-one_more before n ns name (longest e ns name) here
    ] in go (if_any (member_at d n))

by_names-found : (names : List Text) (name : Text) (o : Option (ℕ × Data))
    → found_hit (by_names [] names name o) ≡ found_prefix names name o
by_names-found names name None = refl
by_names-found names name (Some found) = refl

pub under-found : (d : Data) (names : List Text) (name : Text)
    → found_hit (under d [] names name) ≡ found_prefix names name (longest d names name)
under-found d names name = ap found_hit (under-by_names d [] names name) ∙ by_names-found names name (longest d names name)

by_names-value : (names : List Text) (name : Text) (o : Option (ℕ × Data))
    → option_map (λ (hit : Hit). hit.1) (by_names [] names name o) ≡ option_map (λ (hit : ℕ × Data). hit.1) o
by_names-value names name None = refl
by_names-value names name (Some found) = refl

-- the value alone
pub under-value : (d : Data) (names : List Text) (name : Text)
    → option_map (λ (hit : Hit). hit.1) (under d [] names name) ≡ option_map (λ (hit : ℕ × Data). hit.1) (longest d names name)
under-value d names name =
    ap (option_map (λ (hit : Hit). hit.1)) (under-by_names d [] names name) ∙ by_names-value names name (longest d names name)

-- ---- names that are joined

pub or_else-none : {X : Type 0} (o : Option X) → or_else o None ≡ o
or_else-none None = refl
or_else-none (Some x) = refl

pub or_else-assoc : {X : Type 0} (a b c : Option X) → or_else a (or_else b c) ≡ or_else (or_else a b) c
or_else-assoc None b c = refl
or_else-assoc (Some x) b c = refl

pub under-beyond : (d : Data) (before names : List Text) (name : Text)
    → under d before names name ≡ or_else (beyond d before names name) (hit_at d before name)
under-beyond d before [] name = refl
under-beyond d before (n ∷ ns) name = refl

then-any : (a : Answer (Option Data)) (ns : List Text) → if_any (then_at a (λ e. value_at e ns)) ≡ (if_any a >>= λ e. if_any (value_at e ns))
then-any (gives None) ns = refl
then-any (gives (Some e)) ns = refl
then-any (fails r) ns = refl

value-more : (d : Data) (n : Text) (ns : List Text) → if_any (value_at d (n ∷ ns)) ≡ (if_any (member_at d n) >>= λ e. if_any (value_at e ns))
value-more d n ns = then-any (member_at d n) ns

pub under-joined : (d : Data) (before xs ys : List Text) (name : Text)
    → under d before (xs ++ ys) name ≡ or_else (from_end (if_any (value_at d xs)) (before ++ xs) ys name) (under d before xs name)
under-joined d before [] ys name =
    under-beyond d before ys name ∙ ap (λ b. or_else (beyond d b ys name) (hit_at d before name)) (sym (append-nil before))
under-joined d before (n ∷ ns) ys name =
    let here = hit_at d before name in
    let go : (o : Option Data)
    → or_else (o >>= λ e. under e (before ++ n ∷ []) (ns ++ ys) name) here
    ≡ or_else (from_end (o >>= λ e. if_any (value_at e ns)) (before ++ n ∷ ns) ys name)
    (or_else (o >>= λ e. under e (before ++ n ∷ []) ns name) here) =
    elim [
      | None ↦ refl
      | Some e ↦
          ap (λ o. or_else o here) (under-joined e (before ++ n ∷ []) ns ys name
          ∙ ap (λ b. or_else (from_end (if_any (value_at e ns)) b ys name) (under e (before ++ n ∷ []) ns name))
          (append_assoc before (n ∷ []) ns))
          ∙ sym (or_else-assoc (from_end (if_any (value_at e ns)) (before ++ n ∷ ns) ys name) (under e (before ++ n ∷ []) ns name) here)
    ] in
    go (if_any (member_at d n))
    ∙ ap (λ o. or_else (from_end o (before ++ n ∷ ns) ys name) (under d before (n ∷ ns) name)) (sym (value-more d n ns))

-- the same without what is right after the names before
pub beyond-joined : (d : Data) (before xs ys : List Text) (name : Text)
    → beyond d before (xs ++ ys) name ≡ or_else (from_end (if_any (value_at d xs)) (before ++ xs) ys name) (beyond d before xs name)
beyond-joined d before [] ys name =
    ap (λ b. beyond d b ys name) (sym (append-nil before)) ∙ sym (or_else-none (beyond d (before ++ []) ys name))
beyond-joined d before (n ∷ ns) ys name =
    let go : (o : Option Data)
    → (o >>= λ e. under e (before ++ n ∷ []) (ns ++ ys) name)
    ≡ or_else (from_end (o >>= λ e. if_any (value_at e ns)) (before ++ n ∷ ns) ys name) (o >>= λ e. under e (before ++ n ∷ []) ns name) =
    elim [
      | None ↦ refl
      | Some e ↦
          under-joined e (before ++ n ∷ []) ns ys name
          ∙ ap (λ b. or_else (from_end (if_any (value_at e ns)) b ys name) (under e (before ++ n ∷ []) ns name))
          (append_assoc before (n ∷ []) ns)
    ] in
    go (if_any (member_at d n))
    ∙ ap (λ o. or_else (from_end o (before ++ n ∷ ns) ys name) (beyond d before (n ∷ ns) name)) (sym (value-more d n ns))

-- ---- one step of a walk

pub value-joined : (d : Data) (xs ys : List Text)
    → if_any (value_at d (xs ++ ys)) ≡ (if_any (value_at d xs) >>= λ e. if_any (value_at e ys))
value-joined d [] ys = refl
value-joined d (n ∷ ns) ys =
    let go : (o : Option Data) → (o >>= λ e. if_any (value_at e (ns ++ ys)))
    ≡ ((o >>= λ e. if_any (value_at e ns)) >>= λ e. if_any (value_at e ys)) =
    elim [ None ↦ refl | Some e ↦ value-joined e ns ys ] in
    value-more d n (ns ++ ys) ∙ go (if_any (member_at d n))
    ∙ ap (λ o. o >>= λ e. if_any (value_at e ys)) (sym (value-more d n ns))

value-one : (d : Data) (n : Text) → if_any (value_at d (n ∷ [])) ≡ if_any (member_at d n)
value-one d n =
    let go : (o : Option Data) → (o >>= λ e. Some e) ≡ o = elim [ None ↦ refl | Some e ↦ refl ] in
    value-more d n [] ∙ go (if_any (member_at d n))

module _ (d : Data) (name link : Text) (before : List Text) (best : Option Hit) (is : best ≡ beyond d [] before name) where
  joined-step : (o : Option Data) → o ≡ if_any (value_at d before)
      → beyond d [] (before ++ link ∷ []) name ≡ or_else (from_end o before (link ∷ []) name) best
  joined-step o here =
      beyond-joined d [] before (link ∷ []) name
      ∙ (λ i. or_else (from_end (sym here i) before (link ∷ []) name) (sym is i))

  pub value-step : (o : Option Data) → o ≡ if_any (value_at d before)
      → if_any (value_at d (before ++ link ∷ [])) ≡ (o >>= λ e. if_any (member_at e link))
  value-step o here =
      let go : (p : Option Data) → (p >>= λ e. if_any (value_at e (link ∷ []))) ≡ (p >>= λ e. if_any (member_at e link)) =
      elim [ None ↦ refl | Some e ↦ value-one e link ] in
      value-joined d before (link ∷ []) ∙ go (if_any (value_at d before)) ∙ ap (λ p. p >>= λ e. if_any (member_at e link)) (sym here)

  -- no value was reached before
  pub step-nowhere : None ≡ if_any (value_at d before)
      → (best ≡ beyond d [] (before ++ link ∷ []) name) × (None ≡ if_any (value_at d (before ++ link ∷ [])))
  step-nowhere here = (sym (joined-step None here), sym (value-step None here))

  -- the step leads nowhere
  pub step-stops : (e : Data) → Some e ≡ if_any (value_at d before) → None ≡ if_any (member_at e link)
      → (best ≡ beyond d [] (before ++ link ∷ []) name) × (None ≡ if_any (value_at d (before ++ link ∷ [])))
  step-stops e here none = (
    sym (joined-step (Some e) here ∙ ap (λ o. or_else (o >>= λ v. under v (before ++ link ∷ []) [] name) best) (sym none)),
    sym (value-step (Some e) here ∙ sym none),
  )

  -- the step leads to a value
  pub step-leads : (e next : Data) (new : Option Hit) → Some e ≡ if_any (value_at d before) → Some next ≡ if_any (member_at e link)
      → new ≡ or_else (hit_at next (before ++ link ∷ []) name) best
      → (new ≡ beyond d [] (before ++ link ∷ []) name) × (Some next ≡ if_any (value_at d (before ++ link ∷ [])))
  step-leads e next new here leads hit = (
    hit ∙ sym (joined-step (Some e) here ∙ ap (λ o. or_else (o >>= λ v. under v (before ++ link ∷ []) [] name) best) (sym leads)),
    leads ∙ sym (value-step (Some e) here),
  )

-- ---- hits from another start

moved-hit : (front before : List Text) (name : Text) (o : Option Data)
    → option_map {U = Hit} (λ (h : Hit). (front ++ h.0, h.1)) (option_map {U = Hit} (λ v. (before ++ name ∷ [], v)) o)
    ≡ option_map {U = Hit} (λ v. ((front ++ before) ++ name ∷ [], v)) o
moved-hit front before name None = refl
moved-hit front before name (Some v) = ap (λ names. Some (names, v)) (sym (append_assoc front before (name ∷ [])))

map-or_else : (f : Hit → Hit) (a b : Option Hit) → option_map f (or_else a b) ≡ or_else (option_map f a) (option_map f b)
map-or_else f None b = refl
map-or_else f (Some x) b = refl

under-moved : (d : Data) (front before names : List Text) (name : Text)
    → option_map {U = Hit} (λ (h : Hit). (front ++ h.0, h.1)) (under d before names name) ≡ under d (front ++ before) names name
under-moved d front before [] name = moved-hit front before name (if_any (member_at d name))
under-moved d front before (n ∷ ns) name =
    let move : Hit → Hit = λ h. (front ++ h.0, h.1) in
    let go : (o : Option Data) → option_map move (o >>= λ e. under e (before ++ n ∷ []) ns name)
    ≡ (o >>= λ e. under e ((front ++ before) ++ n ∷ []) ns name) =
    elim [
      | None ↦ refl
      | Some e ↦
          under-moved e front (before ++ n ∷ []) ns name
          ∙ ap (λ names. under e names ns name) (sym (append_assoc front before (n ∷ [])))
    ] in
    map-or_else move (if_any (member_at d n) >>= λ e. under e (before ++ n ∷ []) ns name) (hit_at d before name)
    ∙ (λ i. or_else (go (if_any (member_at d n)) i) (moved-hit front before name (if_any (member_at d name)) i))

pub beyond-moved : (d : Data) (front names : List Text) (name : Text)
    → option_map {U = Hit} (λ (h : Hit). (front ++ h.0, h.1)) (beyond d [] names name) ≡ beyond d front names name
beyond-moved d front [] name = refl
beyond-moved d front (n ∷ ns) name =
    let go : (o : Option Data) → option_map {U = Hit} (λ (h : Hit). (front ++ h.0, h.1)) (o >>= λ e. under e (n ∷ []) ns name)
    ≡ (o >>= λ e. under e (front ++ n ∷ []) ns name) =
    elim [ None ↦ refl | Some e ↦ under-moved e front (n ∷ []) ns name ] in go (if_any (member_at d n))

-- ---- the names of a layer

module _ (d v : Data) (name : Text) where
  -- from the value that the first names lead to
  pub under-from : (xs ys : List Text) → value_at d xs ≡ gives (Some v)
      → under d [] (xs ++ ys) name ≡ or_else (beyond v xs ys name) (under d [] xs name)
  under-from xs ys is =
      under-joined d [] xs ys name ∙ ap (λ a. or_else (from_end (if_any a) xs ys name) (under d [] xs name)) is

  bind-bind : (o : Option Data) (f : Data → Option Data) (g : Data → Option Hit)
      → (o >>= λ e. (f e >>= λ w. g w)) ≡ ((o >>= λ e. f e) >>= λ w. g w)
  bind-bind None f g = refl
  bind-bind (Some e) f g = refl

  last-member : (xs : List Text) (m : Text) → value_at d (xs ++ m ∷ []) ≡ gives (Some v)
      → under d [] (xs ++ m ∷ []) name ≡ or_else (hit_at v (xs ++ m ∷ []) name) (under d [] xs name)
  last-member xs m is =
      let hit : Data → Option Hit = λ w. hit_at w (xs ++ m ∷ []) name in
      let there : (if_any (value_at d xs) >>= λ e. if_any (member_at e m)) ≡ Some v =
      sym (value-step d name m xs (beyond d [] xs name) refl (if_any (value_at d xs)) refl) ∙ ap if_any is in
      under-joined d [] xs (m ∷ []) name
      ∙ ap (λ o. or_else o (under d [] xs name))
      (bind-bind (if_any (value_at d xs)) (λ e. if_any (member_at e m)) hit ∙ ap (λ o. o >>= λ w. hit w) there)

  -- the value of a layer is its member, or it is at the end of the descent
  pub layer-under : (base names : List Text) (kind : LayerKind) → value_at d (base ++ (names ++ kind_names kind)) ≡ gives (Some v)
      → under d [] (base ++ (names ++ kind_names kind)) name
      ≡ or_else (option_map (λ w. ((base ++ (names ++ kind_names kind)) ++ name ∷ [], w)) (member_value kind v name))
      (under d [] (base ++ names) name)
  layer-under base names (iteration_layer i key last block) is =
      let m = iteration_name (iteration i key last) in
      let same : (base ++ names) ++ m ∷ [] ≡ base ++ (names ++ m ∷ []) = append_assoc base names (m ∷ []) in
      subst (λ all. under d [] all name ≡ or_else (hit_at v all name) (under d [] (base ++ names) name)) same
      (last-member (base ++ names) m (ap (value_at d) same ∙ is))
  layer-under base names (with_layer block) is = ap (λ all. under d [] (base ++ all) name) (append-nil names)
  layer-under base names (partial_layer hs) is = ap (λ all. under d [] (base ++ all) name) (append-nil names)

-- ---- where hits are

any-gives : (a : Answer (Option Data)) (v : Data) → if_any a ≡ Some v → a ≡ gives (Some v)
any-gives (gives None) v is = absurd (cc)
any-gives (gives (Some e)) v is = ap gives is
any-gives (fails r) v is = absurd (cc)

step-there : (d e v : Data) (before : List Text) (n : Text) → value_at d before ≡ gives (Some e) → if_any (member_at e n) ≡ Some v
    → value_at d (before ++ n ∷ []) ≡ gives (Some v)
step-there d e v before n is leads =
    value_at-on d e before (n ∷ []) is ∙ ap (λ a. then_at a (λ x. gives (Some x))) (any-gives (member_at e n) v leads)

hit-at-there : (d e : Data) (before : List Text) (name : Text) (h : Hit) → value_at d before ≡ gives (Some e)
    → Some h ≡ hit_at e before name → value_at d h.0 ≡ gives (Some h.1)
hit-at-there d e before name h is found =
    let go : (o : Option Data) → if_any (member_at e name) ≡ o → Some h ≡ option_map {U = Hit} (λ v. (before ++ name ∷ [], v)) o
    → value_at d h.0 ≡ gives (Some h.1) =
    elim [
      | None ↦ λ leads same. absurd (cc)
      | Some v ↦ λ leads same.
          let hit : (before ++ name ∷ [], v) ≡ h = cc in
          subst (λ (g : Hit). value_at d g.0 ≡ gives (Some g.1)) hit (step-there d e v before name is leads)
    ] in go (if_any (member_at e name)) refl found

-- a hit is at its names
pub hit-there : (names : List Text) (d e : Data) (before : List Text) (name : Text) (h : Hit) → value_at d before ≡ gives (Some e)
    → Some h ≡ under e before names name → value_at d h.0 ≡ gives (Some h.1)
hit-there [] d e before name h is found = hit-at-there d e before name h is found
hit-there (n ∷ ns) d e before name h is found =
    let here : (o : Option Hit) → o ≡ None → Some h ≡ or_else o (hit_at e before name) → value_at d h.0 ≡ gives (Some h.1) =
    λ o none same. hit-at-there d e before name h is (same ∙ ap (λ p. or_else p (hit_at e before name)) none) in
    let past : (x : Data) → if_any (member_at e n) ≡ Some x → (o : Option Hit) → under x (before ++ n ∷ []) ns name ≡ o
    → Some h ≡ or_else o (hit_at e before name) → value_at d h.0 ≡ gives (Some h.1) =
    λ x leads. elim [
      | None ↦ λ is_under same. here None refl same
      | Some g ↦ λ is_under same.
          hit-there ns d x (before ++ n ∷ []) name h (step-there d e x before n is leads) (same ∙ sym is_under)
    ] in
    let go : (o : Option Data) → if_any (member_at e n) ≡ o
    → Some h ≡ or_else (o >>= λ x. under x (before ++ n ∷ []) ns name) (hit_at e before name) → value_at d h.0 ≡ gives (Some h.1) =
    elim [
      | None ↦ λ leads same. here None refl same
      | Some x ↦ λ leads same. past x leads (under x (before ++ n ∷ []) ns name) refl same
    ] in go (if_any (member_at e n)) refl found

-- ---- in a frame

pub frame-found : (d : Data) (xs ys : List Text) (name : Text) (o : Option Data) (r : Option Hit) → o ≡ if_any (value_at d xs)
    → r ≡ or_else (from_end o xs ys name) (under d [] xs name) → r ≡ under d [] (xs ++ ys) name
frame-found d xs ys name o r is found =
    found ∙ ap (λ p. or_else (from_end p xs ys name) (under d [] xs name)) is ∙ sym (under-joined d [] xs ys name)

-- ---- at a layer, with further names after its base path

module _ (d v : Data) (name : Text) (base names : List Text) (kind : LayerKind) (here further : List Text)
    (same : here ≡ base ++ (names ++ kind_names kind)) (is : value_at d (base ++ (names ++ kind_names kind)) ≡ gives (Some v)) where
  here-under : under d [] (here ++ further) name ≡ or_else (beyond v here further name) (under d [] here name)
  here-under = under-from d v name here further (ap (value_at d) same ∙ is)

  past-further : None ≡ beyond v here further name → under d [] here name ≡ under d [] (here ++ further) name
  past-further none = ap (λ o. or_else o (under d [] here name)) none ∙ sym here-under

  member-under : under d [] here name
      ≡ or_else (option_map {U = Hit} (λ w. (here ++ name ∷ [], w)) (member_value kind v name)) (under d [] (base ++ names) name)
  member-under =
      subst (λ (all : List Text). under d [] all name
      ≡ or_else (option_map {U = Hit} (λ w. (all ++ name ∷ [], w)) (member_value kind v name)) (under d [] (base ++ names) name))
      (sym same) (layer-under d v name base names kind is)

  pub found-further : (h : Hit) → Some h ≡ beyond v here further name → Some h ≡ under d [] (here ++ further) name
  found-further h found = ap (λ o. or_else o (under d [] here name)) found ∙ sym here-under

  pub found-member : (w : Data) (all : List Text) → all ≡ here ++ name ∷ [] → Some w ≡ member_value kind v name
      → None ≡ beyond v here further name → Some (all, w) ≡ under d [] (here ++ further) name
  found-member w all there found none =
      ap (λ (names : List Text). Some (names, w)) there
      ∙ ap (λ o. or_else (option_map {U = Hit} (λ x. (here ++ name ∷ [], x)) o) (under d [] (base ++ names) name)) found
      ∙ sym member-under
      ∙ past-further none

  pub past-member : None ≡ member_value kind v name → None ≡ beyond v here further name
      → under d [] (base ++ names) name ≡ under d [] (here ++ further) name
  past-member lacks none =
      ap (λ o. or_else (option_map {U = Hit} (λ x. (here ++ name ∷ [], x)) o) (under d [] (base ++ names) name)) lacks
      ∙ sym member-under
      ∙ past-further none

-- ---- values alone

pub hit-value : (d : Data) (before : List Text) (name : Text)
    → option_map (λ (hit : Hit). hit.1) (hit_at d before name) ≡ if_any (member_at d name)
hit-value d before name =
    let go : (o : Option Data) → option_map (λ (hit : Hit). hit.1) (option_map {U = Hit} (λ v. (before ++ name ∷ [], v)) o) ≡ o =
    elim [ None ↦ refl | Some v ↦ refl ] in go (if_any (member_at d name))
