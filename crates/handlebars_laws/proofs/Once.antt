-- A tree's run comes to no occurrence twice: occurrences are numbered in the order of the run.
use Rattle.std.proofs.Common.{◌≡◌, ◌≢◌, ℕ, ◌+◌, ◌≤◌, ◌<◌, List, [], ◌∷◌, ◌++◌, refl, sym, ap, ◌∙◌, subst, append_assoc, append-nil, arith}
use Rattle.std.specs.List.{AllByRecursion}
use Rattle.std.proofs.lemmas.List.{append_cancel_left}
use Rattle.handlebars_template.specs.Tree.{Tree}
use Rattle.handlebars_semantics.specs.Means.{todo}
use Rattle.handlebars_semantics.specs.Pieces.{Piece}
use Rattle.handlebars_semantics.specs.Runs.{Outcome, Runs, done, did, did_over, stop, Means}
use Rattle.handlebars_semantics.specs.Occurrences.{ordinal_of, TreeOccurrence, first_tree, body_at, inverse_at, included_at, Occurrence, element_in}
use Rattle.handlebars_semantics.specs.State.{Setting, State}
use Rattle.handlebars_semantics.specs.Steps.{Task, One, Whole}
use Rattle.handlebars_semantics.specs.Visits.{Visit, arrival, visits, ComeOnce}
use Rattle.handlebars_laws.proofs.Closed.{MayCapture-any, Closed}
use Rattle.handlebars_laws.proofs.Law.{Law, IsSound, Runs-obeys}
use Rattle.handlebars_laws.proofs.Lists.{All-weaker, All-append}
use Rattle.handlebars_laws.proofs.Walk.{todo-holds}

-- ---- addresses

-- the numbers on the way to an occurrence
abbrev mutual
  tree_address : TreeOccurrence → List ℕ
  tree_address first_tree = []
  tree_address (body_at occurrence time) = address occurrence ++ (ordinal_of time ∷ [])
  tree_address (inverse_at occurrence i) = address occurrence ++ (i ∷ [])
  tree_address (included_at occurrence name t) = address occurrence ++ (1 ∷ [])

  address : Occurrence → List ℕ
  address (element_in at i position) = tree_address at ++ (i ∷ [])

abbrev task_address : Task → List ℕ
task_address (One occurrence e) = address occurrence
task_address (Whole at t) = tree_address at

-- an occurrence is within the part of this number; or within the part of a number from n on and below m
IsIn : List ℕ → ℕ → Visit → Type 0
IsIn pre n v = (rest : List ℕ) × (address v.occurrence ≡ pre ++ (n ∷ rest))

IsBetween : List ℕ → ℕ → ℕ → Visit → Type 0
IsBetween pre n m v = (j : ℕ) × (n ≤ j) × (j < m) × IsIn pre j v

number_in : List ℕ → ℕ
number_in [] = 0
number_in (n ∷ ns) = n

not-both : (pre : List ℕ) (n m i : ℕ) (v w : Visit) → IsBetween pre n m v → IsBetween pre m i w → w.occurrence ≢ v.occurrence
unfolding IsIn IsBetween number_in
not-both pre n m i v w a b same =
    let below : a.0 < m = a.2 in
    let from : m ≤ b.0 = b.1 in
    let is : b.0 ≡ a.0 = ap number_in (append_cancel_left pre (b.0 ∷ b.3.0) (a.0 ∷ a.3.0)
    (sym b.3.1 ∙ ap address same ∙ a.3.1)) in
    omega (arith, below, from, is)

not-within : (pre : List ℕ) (n m : ℕ) (v w : Visit) → address v.occurrence ≡ pre → IsBetween pre n m w → w.occurrence ≢ v.occurrence
unfolding IsIn IsBetween
not-within pre n m v w is b same = absurd (some≢none
    (append_cancel_left pre (b.0 ∷ b.3.0) [] (sym b.3.1 ∙ ap address same ∙ is ∙ sym (append-nil pre))))
  where
    some≢none : {n : ℕ} {ns : List ℕ} → n ∷ ns ≡ [] → ⊥
    some≢none e = cc

-- ---- lists of visits

-- none of the second is at an occurrence of the first
abbrev AreApart : List Visit → List Visit → Type 0
AreApart xs ys = AllByRecursion (λ x. AllByRecursion (λ y. y.occurrence ≢ x.occurrence) ys) xs

ComeOnce-append : (xs ys : List Visit) → ComeOnce xs → ComeOnce ys → AreApart xs ys → ComeOnce (xs ++ ys)
ComeOnce-append [] ys a b apart = b
ComeOnce-append (x ∷ xs) ys a b apart = (All-append _ xs ys a.0 apart.0, ComeOnce-append xs ys a.1 b apart.1)

-- ---- visits between numbers

abbrev ComeBetween : List ℕ → ℕ → ℕ → List Visit → Type 0
ComeBetween pre n m vs = AllByRecursion (IsBetween pre n m) vs × ComeOnce vs

IsBetween-wider : (pre : List ℕ) (n m i j : ℕ) (vs : List Visit) → n ≤ m → i ≤ j → AllByRecursion (IsBetween pre m i) vs
    → AllByRecursion (IsBetween pre n j) vs
unfolding IsBetween
IsBetween-wider pre n m i j vs le far h = All-weaker vs (λ v a. let x : m ≤ a.0 = a.1 in let y : a.0 < i = a.2 in
    (a.0, omega (arith, le, x), omega (arith, far, y), a.3)) h

ComeBetween-append : (pre : List ℕ) (n m i : ℕ) (xs ys : List Visit) → n ≤ m → m ≤ i → ComeBetween pre n m xs
    → ComeBetween pre m i ys → ComeBetween pre n i (xs ++ ys)
ComeBetween-append pre n m i xs ys le far a b = (
  All-append _ xs ys (IsBetween-wider pre n n m i xs (omega arith) far a.0)
      (IsBetween-wider pre n m i i ys le (omega arith) b.0),
  ComeOnce-append xs ys a.1 b.1 (All-weaker xs (λ v x. All-weaker ys (λ w y. not-both pre n m i v w x y) b.0) a.0),
)

-- what a part visits is within its number
IsBetween-part : (pre : List ℕ) (n m i : ℕ) (part : List ℕ) (vs : List Visit) → n ≤ m → part ≡ pre ++ (m ∷ [])
    → AllByRecursion (IsBetween part 0 i) vs → AllByRecursion (IsBetween pre n (m + 1)) vs
unfolding IsIn IsBetween
IsBetween-part pre n m i part vs le is h = All-weaker vs (λ v a. (
  m,
  le,
  omega arith,
  (a.0 ∷ a.3.0, a.3.1 ∙ ap (λ xs. xs ++ (a.0 ∷ a.3.0)) is ∙ append_assoc pre (m ∷ []) (a.0 ∷ a.3.0)),
)) h

ComeBetween-part : (x t : Task) (n m i : ℕ) (s : State) (vs : List Visit) → n ≤ m
    → task_address t ≡ task_address x ++ (m ∷ []) → ComeBetween (task_address t) 0 i vs
    → ComeBetween (task_address x) n (m + 1) (arrival t s ++ vs)
unfolding IsIn IsBetween
ComeBetween-part x (One occurrence e) n m i s vs le is h = (
  ((m, le, omega arith, ([], is)), IsBetween-part (task_address x) n m i (address occurrence) vs le is h.0),
  (All-weaker vs (λ w a. not-within (address occurrence) 0 i (record { occurrence = occurrence; state = s }) w refl a) h.0, h.1),
)
ComeBetween-part x (Whole at t) n m i s vs le is h =
    (IsBetween-part (task_address x) n m i (tree_address at) vs le is h.0, h.1)

-- ---- the law: of parts, that their numbers are those of their occurrences, and of visits

abbrev comes_in_order : Law
comes_in_order = record {
  IsWell = λ s. Unit {0};
  IsNext = λ s n. Unit {0};
  MayEnter = λ f. Unit {0};
  ComesTo = λ occurrence e s. Unit {0};
  Fits = λ occurrence b s. Unit {0};
  Begins = λ t s. Unit {0};
  IsPart = λ x m s t. task_address t ≡ task_address x ++ (m ∷ []);
  IsAfter = λ t s n. Unit {0};
  IsAmid = λ x i s n. Unit {0};
  MayFail = λ r. Unit {0};
  MayWrite = λ ps. Unit {0};
  AreKnown = λ vs. Unit {0};
  AreIn = λ x n m vs. ComeBetween (task_address x) n m vs;
}

comes_in_order-sound : IsSound comes_in_order
comes_in_order-sound = record {
  part_begins = λ h. tt;
  none_written = tt;
  join_written = λ xs ys a b. tt;
  prefix_written = λ f h. tt;
  first_known = λ xs ys h. tt;
  later_known = λ xs ys h. tt;
  none_in = λ x n. (tt, tt);
  part_in = ComeBetween-part;
  join_in = λ x. ComeBetween-append (task_address x);
}

comes_in_order-closed : (p : Setting) → Closed p comes_in_order
comes_in_order-closed p = record {
  same_next = λ h. tt;
  then_next = λ a b. tt;
  next_well = λ h. tt;
  next_fits = λ h is. tt;
  line_next = λ l h. tt;
  data_next = λ d h. tt;
  local_next = λ name l tagged acts has h. tt;
  no_local_next = λ name tagged acts has h. tt;
  iteration_next = λ path b t h. tt;
  partial_next = λ tagged sets h. tt;
  block_well = λ may h. tt;
  block_fits = λ h. tt;
  block_next = λ is. tt;
  empty_enters = tt;
  with_enters = λ base b variables. tt;
  inclusion_enters = λ d hs variables. tt;
  passed_enters = λ i called chooses is. tt;
  raw_well = λ h. tt;
  raw_comes = λ h. tt;
  raw_next = λ is. tt;
  own_next = λ h is. tt;
  newest_captured = λ h. MayCapture-any _;
  begun_well = λ h may. tt;
  over_next = λ h first last. tt;
  begins_well = λ h. tt;
  begins_comes = λ h known. tt;
  begins_fits = λ h is. tt;
  begins_raw = λ h. tt;
  element_part = λ i h is after. refl;
  body_part = λ time comes call is fits h. refl;
  inverse_part = λ i comes is fits h. refl;
  block_part = λ tagged alone is fits h. refl;
  local_part = λ f tagged finds well is fits fit was h. refl;
  registered_part = λ f tagged finds fits fit was h. refl;
  own_block_part = λ tagged finds is fits fit h. refl;
  body_next = λ comes call is over. tt;
  inverse_next = λ comes is over. tt;
  ahead_next = λ tagged is over. tt;
  element_after = λ comes plain is. tt;
  decorator_after = λ tagged acts is. tt;
  amid_first = λ h. tt;
  amid_next = λ i amid is over. tt;
  amid_last = λ i amid is. tt;
  fails = λ comes failed. tt;
  text_written = λ comes fits h. tt;
  value_written = λ t called has fits is shows h. tt;
  raw_written = λ called has fits is h. tt;
  boolean_text_written = λ b called says. tt;
  step_written = λ i t called answers is. tt;
}

-- ---- runs

first_once : (p : Setting) (t : Tree) {s : State} {ps : List Piece} {o : Outcome}
    (r : Runs p (todo (Whole first_tree t)) s ps o) → ComeOnce (visits r)
first_once p t {s = s} r =
    let plan = todo-holds p comes_in_order (comes_in_order-closed p) in
    (Runs-obeys p comes_in_order comes_in_order-sound plan r (Whole first_tree t) (λ j z. Unit {0}) 0
    (plan (Whole first_tree t) s tt tt) tt).are_in.1

-- the first tree is no part of any other
pub comes_once : (p : Setting) (t : Tree) (s : State) (ps : List Piece) (o : Outcome) (r : Means p t s ps o)
    → ComeOnce (visits r)
comes_once p t s ps o (did a done) = subst ComeOnce (sym (append-nil (visits a))) (first_once p t a)
comes_once p t s ps o (did a stop) = subst ComeOnce (sym (append-nil (visits a))) (first_once p t a)
comes_once p t s ps o (did_over a over) = first_once p t a
comes_once p t s ps o stop = tt
