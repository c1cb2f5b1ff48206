-- What is to be followed, step by step.
use Rattle.std.proofs.Common.{◌≡◌, inl, inr, ℕ, zero, suc, ◌+◌, ◌<◌, ◌≤◌, Bool, List, [], ◌∷◌, ◌++◌, length, map, take, get_or, Some, refl, sym, ap, ◌∙◌, subst, arith, true, false, length-append, append_assoc}
use Rattle.std.specs.Prelude.{slice_get}
use Rattle.std.specs.List.{Contains}
use Rattle.std.proofs.Math.ListN.{set}
use Rattle.std.proofs.lemmas.List.{append-nil, get_or_append_left, length-set, map_more}
use Rattle.std.proofs.lemmas.List.Elements.{Contains-append_left, Contains-append_cases, Contains-push, Contains-push_cases}
use Rattle.std.proofs.lemmas.List.Sums.{sum_by-cons, sum_by-set}
use Rattle.std.proofs.lemmas.Grind.{get_or_default_zero}
use Rattle.std.proofs.Math.Nat.{eq-or-lt_of_le}
use Rattle.handlebars_includes.specs.Graph as graph
use Rattle.handlebars_includes.specs.Graph.{Graph, Includes, targets, targets_at}
use Rattle.handlebars_includes.specs.View.{inclusion_view}
use Rattle.handlebars_includes.specs.declared.includes.Inclusion.{Inclusion}
use Rattle.hb_check.specs.Chains.{IsClosed, IsReached, is_unreached}
use Rattle.hb_check.specs.Growing.{AreUnreached, Follows, Grows, IsFound, IsPage, Queues, one_if, unreached}
use Rattle.hb_check.specs.declared.chains.Way.{Way}
use Rattle.hb_check.specs.declared.chains.Way.TheVariants.{Unreached, Page}
use Rattle.hb_check.proofs.Ways.{either, set-cases}

no-item : {X : Type 0} (x : X) → Contains [] x → ⊥
no-item x p = omega (arith, p.1)

single : (i j : ℕ) → Contains (i ∷ []) j → i ≡ j
single i j h = either (λ none. absurd (no-item j none)) (λ is. is) (Contains-push_cases [] i j h)

set-at : (ws : List Way) (i : ℕ) (w : Way) → i < length ws → slice_get (set ws i w) i ≡ Some w
set-at [] i w h = absurd (omega (arith, h))
set-at (v ∷ ws) zero w h = refl
set-at (v ∷ ws) (suc i) w h = set-at ws i w (omega (arith, h))

pub queues-none : (ws : List Way) (order : List ℕ) → Queues [] ws order ws order
queues-none ws order = record {
  each = refl;
  keeps = λ i h. h;
  queued = λ i h. inl h;
  longer = ([], sym (append-nil order));
  all = λ i h l. absurd (no-item i h);
  costs = omega arith;
}

pub queues-then : (ts us : List ℕ) (a b c : List Way) (o p q : List ℕ) → Queues ts a o b p → Queues us b p c q → Queues (ts ++ us) a o c q
queues-then ts us a b c o p q first later = record {
  each = later.each ∙ first.each;
  keeps = λ i h. later.keeps i (first.keeps i h);
  queued = λ i h. either
      (λ old. either (λ x. inl x)
      (λ x. inr (subst (λ (xs : List ℕ). Contains xs i) (sym later.longer.1) (Contains-append_left p later.longer.0 i x))) (first.queued i old))
      (λ x. inr x) (later.queued i h);
  longer = (
    first.longer.0 ++ later.longer.0,
    later.longer.1 ∙ ap (λ (xs : List ℕ). xs ++ later.longer.0) first.longer.1 ∙ append_assoc o first.longer.0 later.longer.0,
  );
  all = λ i h l. either (λ old. later.keeps i (first.all i old (omega (arith, l, later.each)))) (λ x. later.all i x l)
      (Contains-append_cases ts us i h);
  costs = omega (arith, first.costs, later.costs);
}

pub queues-seen : (i : ℕ) (ws : List Way) (order : List ℕ) → (i < length ws → IsReached ws i) → Queues (i ∷ []) ws order ws order
queues-seen i ws order seen = record {
  each = refl;
  keeps = λ j h. h;
  queued = λ j h. inl h;
  longer = ([], sym (append-nil order));
  all = λ j h l. subst (IsReached ws) (single i j h) (seen (subst (λ k. k < length ws) (sym (single i j h)) l));
  costs = omega arith;
}

pub queues-visit : (i : ℕ) (w d : Way) (ws : List Way) (order : List ℕ) → is_unreached w ≡ false → i < length ws
    → is_unreached (get_or ws i d) ≡ true → Queues (i ∷ []) ws order (set ws i w) (order ++ i ∷ [])
queues-visit i w d ws order reached within is = record {
  each = length-set ws i w;
  keeps = λ j h. either (λ same. (h.0, same ∙ h.1, h.2)) (λ new. (w, new.1, reached)) (set-cases ws i j w);
  queued = λ j h. either (λ same. inl (h.0, sym same ∙ h.1, h.2))
      (λ new. inr (subst (Contains (order ++ i ∷ [])) (sym new.0) (Contains-push order i))) (set-cases ws i j w);
  longer = (i ∷ [], refl);
  all = λ j h l. subst (IsReached (set ws i w)) (single i j h) (w, set-at ws i w within, reached);
  costs =
      let now = sum_by-set (λ v. one_if (is_unreached v)) ws i w d within in
      let was = ap one_if is in
      let will = ap one_if reached in
      let longer : length (order ++ i ∷ []) ≡ length order + 1 = length-append order (i ∷ []) in
      omega (arith, now, was, will, longer);
}

-- ---- what a template includes

targets-push : (xs : List graph.Inclusion) (x : graph.Inclusion) → targets (xs ++ x ∷ []) ≡ targets xs ++ x.target ∷ []
targets-push [] x = refl
targets-push (y ∷ xs) x = ap (λ (z : List ℕ). y.target ∷ z) (targets-push xs x)

pub queues-next : (xs : List Inclusion) (k : ℕ) (d : Inclusion) (a b c : List Way) (o p q : List ℕ) → k < length xs
    → Queues (targets (map inclusion_view (take k xs))) a o b p → Queues ((get_or xs k d).target ∷ []) b p c q
    → Queues (targets (map inclusion_view (take (k + 1) xs))) a o c q
queues-next xs k d a b c o p q within first later =
    subst (λ (ts : List ℕ). Queues ts a o c q)
    (sym (ap targets (map_more inclusion_view xs k d within) ∙ targets-push (map inclusion_view (take k xs)) (inclusion_view (get_or xs k d))))
    (queues-then _ _ a b c o p q first later)

-- ---- all

pub follows-one : (g : Graph) (k size : ℕ) (a b : List Way) (o p : List ℕ) → Follows g k size a o → k < length o
    → Queues (targets_at g (get_or o k 0)) a o b p → Follows g (k + 1) size b p
follows-one g k size a b o p follows within more = record {
  sized = more.each ∙ follows.sized;
  queued = λ i h. either
      (λ old. subst (λ (xs : List ℕ). Contains xs i) (sym more.longer.1) (Contains-append_left o more.longer.0 i (follows.queued i old)))
      (λ new. new) (more.queued i h);
  followed = λ n l m j includes h. either
      (λ is. more.all j (subst (λ (x : ℕ). Includes g x j) (same n (omega (arith, l, within)) ∙ ap (λ (x : ℕ). get_or o x 0) is) includes) h)
      (λ less. more.keeps j (follows.followed n less (omega (arith, less, within)) j
      (subst (λ (x : ℕ). Includes g x j) (same n (omega (arith, l, within))) includes) (let z = more.each in omega (arith, h, z))))
      (eq-or-lt_of_le (up-to n l));
  costs = let x = more.costs in let y = follows.costs in let z = more.each in omega (arith, x, y, z);
}
  where
    up-to : (n : ℕ) → n < k + 1 → n ≤ k
    up-to n l = omega (arith, l)

    same : (n : ℕ) → n < length o → get_or p n 0 ≡ get_or o n 0
    same n l = ap (λ (xs : List ℕ). get_or xs n 0) more.longer.1 ∙ get_or_append_left o more.longer.0 0 n l

pub follows-done : (g : Graph) (k size : ℕ) (a : List Way) (o : List ℕ) → Follows g k size a o → length o ≤ k → Follows g (k + 1) size a o
follows-done g k size a o follows past = record {
  sized = follows.sized;
  queued = follows.queued;
  followed = λ n l m j includes h. follows.followed n (omega (arith, m, past)) m j includes h;
  costs = follows.costs;
}

pub follows-closed : (g : Graph) (k size : ℕ) (a : List Way) (o : List ℕ) → Follows g k size a o → size ≤ k → IsClosed g a
follows-closed g k size a o follows past = λ i j h includes l.
    let (n, within, is) = follows.queued i h in
    let costs = follows.costs in
    let sized = follows.sized in
    follows.followed n (omega (arith, within, costs, sized, past)) within j
    (subst (λ (x : ℕ). Includes g x j) (sym (sym (get_or_default_zero o n i within) ∙ is)) includes) l

-- ---- the start

unreached-le : (ws : List Way) → unreached ws ≤ length ws
unreached-le [] = omega arith
unreached-le (w ∷ ws) =
    let rest = unreached-le ws in
    let one = at-most (is_unreached w) in
    let more = sum_by-cons (λ v. one_if (is_unreached v)) w ws in
    omega (arith, rest, one, more)
  where
    at-most : (b : Bool) → one_if b ≤ 1
    at-most true = omega arith
    at-most false = omega arith

nothing-reached : (ws : List Way) → AreUnreached ws → (i : ℕ) → IsReached ws i → ⊥
nothing-reached ws none i (w, at, reached) = let is = ap is_unreached (none i w at) in let so : true ≡ false = sym is ∙ reached in cc

pub follows-first : (g : Graph) (ts : List ℕ) (a b : List Way) (p : List ℕ) → AreUnreached a → Queues ts a [] b p
    → Follows g 0 (length b) b p
follows-first g ts a b p none queues = record {
  sized = refl;
  queued = λ i h. either (λ old. let never : ⊥ = nothing-reached a none i old in elim never [ ]) (λ new. new) (queues.queued i h);
  followed = λ n l m j includes h. absurd (omega (arith, l));
  costs =
      let costs = queues.costs in
      let each = queues.each in
      let most = unreached-le a in
      omega (arith, costs, each, most);
}

-- A page stays one.
pub pages-stay : (g : Graph) (ts : List ℕ) (a b c : List Way) (p : List ℕ) → AreUnreached a → Queues ts a [] b p → Grows IsPage a b
    → Grows (IsFound g) b c → (i : ℕ) → Contains ts i → i < length b → slice_get c i ≡ Some Page
pages-stay g ts a b c p none queues pages found i has within =
    either (λ same. same ∙ page) (λ new. let never : ⊥ = not-both page new.0 in elim never [ ]) (found i)
  where
    not-both : slice_get b i ≡ Some Page → slice_get b i ≡ Some Unreached → ⊥
    not-both is are = cc

    page : slice_get b i ≡ Some Page
    page = let (w, at, reached) = queues.all i has within in
        either (λ same. let never : ⊥ = nothing-reached a none i (w, sym same ∙ at, reached) in elim never [ ])
        (λ new. new.2 ∙ ap (λ v. Some v) new.3) (pages i)
