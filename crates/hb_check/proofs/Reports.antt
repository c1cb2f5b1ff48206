-- Problems are reported one after another.
use Rattle.std.proofs.Common.{◌≡◌, ◌++◌, ◌∷◌, ◌+◌, ◌<◌, ℕ, [], List, add-one, suc, length, drop, get_or, take, map, ap, sym, subst, ◌∙◌, append-nil, append_assoc}
use Rattle.std.proofs.lemmas.List.{append_cancel_left, map-append, take_more}
use Rattle.std.proofs.Math.Seq.{drop-cons}
use Rattle.std.specs.List.{AllZip}
use Rattle.std.specs.Prelude.{Err, Ok, OnOk, Result}
use Rattle.handlebars_report.specs.Problem.{Problem}
use Rattle.handlebars_report.specs.View.{problem_view}
use Rattle.handlebars_report.specs.declared.problem.Problem as problem
use Rattle.hb_check.specs.Reported.{Adds, AddsSome, One}

-- ---- lists, place by place

pub all_zip-push : {X Y : Type 0} (R : X → Y → Type 0) (xs : List X) (ys : List Y) (x : X) (y : Y) → AllZip R xs ys → R x y
    → AllZip R (xs ++ x ∷ []) (ys ++ y ∷ [])
all_zip-push R [] [] x y all one = (one, tt)
all_zip-push R [] (z ∷ ys) x y all one = elim all [ ]
all_zip-push R (w ∷ xs) [] x y all one = elim all [ ]
all_zip-push R (w ∷ xs) (z ∷ ys) x y (first, all) one = (first, all_zip-push R xs ys x y all one)

all_zip-one : {X : Type 0} (R : X → Problem → Type 0) (xs : List X) (ps : List Problem) (x : X) (qs : List Problem)
    → AllZip R xs ps → One (R x) qs → AllZip R (xs ++ x ∷ []) (ps ++ qs)
all_zip-one R xs ps x [] all one = elim one [ ]
all_zip-one R xs ps x (q ∷ []) all one = all_zip-push R xs ps x q all one
all_zip-one R xs ps x (q ∷ (r ∷ qs)) all one = elim one [ ]

pub map-take_more : {X Y : Type 0} (v : X → Y) (xs : List X) (i : ℕ) (x : X) → i < length xs → x ≡ get_or xs i x
    → map v (take (i + 1) xs) ≡ map v (take i xs) ++ v x ∷ []
map-take_more v xs i x within is =
    ap (map v) (take_more xs i x within ∙ ap (λ y. take i xs ++ y ∷ []) (sym is)) ∙ map-append v (take i xs) (x ∷ [])

-- the item by its index
pub map-take_more_at : {X Y : Type 0} (v : X → Y) (xs : List X) (i : ℕ) (d : X) → i < length xs
    → map v (take (i + 1) xs) ≡ map v (take i xs) ++ v (get_or xs i d) ∷ []
map-take_more_at v xs i d within = ap (map v) (take_more xs i d within) ∙ map-append v (take i xs) (get_or xs i d ∷ [])

-- an item, and what is left after it
pub drop_more : {X : Type 0} (xs : List X) (i : ℕ) (x : X) → i < length xs → x ≡ get_or xs i x → drop i xs ≡ x ∷ drop (i + 1) xs
drop_more xs i x within is =
    drop-cons xs i x within ∙ rw (add-one) (ap (λ z. z ∷ drop (suc i) xs) (sym is))

-- ---- what is added

-- nothing
pub adds-none : (P : List Problem → Type 0) (a : List problem.Problem) → P [] → AddsSome P a a
adds-none P a holds = ([], holds, sym (append-nil (map problem_view a)))

adds-then : (a b c : List problem.Problem) (ps qs : List Problem) → Adds a b ps → Adds b c qs → Adds a c (ps ++ qs)
adds-then a b c ps qs first later =
    later ∙ ap (λ (xs : List Problem). xs ++ qs) first ∙ append_assoc (map problem_view a) ps qs

-- First these, and then those.
pub adds-both : (P Q R : List Problem → Type 0) (a b c : List problem.Problem)
    → ((ps qs : List Problem) → P ps → Q qs → R (ps ++ qs)) → AddsSome P a b → AddsSome Q b c → AddsSome R a c
adds-both P Q R a b c both (ps, p, first) (qs, q, later) = (ps ++ qs, both ps qs p q, adds-then a b c ps qs first later)

-- one more of those that are reported one by one
pub adds-next : {X : Type 0} (R : X → Problem → Type 0) (xs all : List X) (x : X) (a b c : List problem.Problem)
    → all ≡ xs ++ x ∷ [] → AddsSome (AllZip R xs) a b → AddsSome (One (R x)) b c → AddsSome (AllZip R all) a c
adds-next R xs all x a b c is first one =
    subst (λ ys. AddsSome (AllZip R ys) a c) (sym is)
    (adds-both (AllZip R xs) (One (R x)) (AllZip R (xs ++ x ∷ [])) a b c (λ ps qs. all_zip-one R xs ps x qs) first one)

pub on_ok-both : {T E : Type 0} (P Q : Type 0) (r : Result T E) → OnOk r P → OnOk r Q → OnOk r (P × Q)
on_ok-both P Q (Ok v) p q = (p, q)
on_ok-both P Q (Err e) p q = tt

-- Of what is added, both hold.
pub adds-same : (P Q : List Problem → Type 0) (a b : List problem.Problem) → AddsSome P a b → AddsSome Q a b
    → AddsSome (λ ps. P ps × Q ps) a b
adds-same P Q a b (ps, p, is) (qs, q, are) =
    (ps, (p, subst Q (append_cancel_left (map problem_view a) qs ps (sym are ∙ is)) q), is)

-- Those of which this holds are some of which that holds.
pub adds-weaker : (P Q : List Problem → Type 0) (a b : List problem.Problem) → ((ps : List Problem) → P ps → Q ps)
    → AddsSome P a b → AddsSome Q a b
adds-weaker P Q a b weaker (ps, p, is) = (ps, weaker ps p, is)

pub one-weaker : (P Q : Problem → Type 0) → ((p : Problem) → P p → Q p) → (ps : List Problem) → One P ps → One Q ps
one-weaker P Q weaker [] one = elim one [ ]
one-weaker P Q weaker (p ∷ []) one = weaker p one
one-weaker P Q weaker (p ∷ (q ∷ ps)) one = elim one [ ]
