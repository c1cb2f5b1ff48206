-- Lists that are empty exactly where something holds.
use Rattle.std.proofs.Common.{◌≡◌, List, [], ◌∷◌, ◌++◌, map, refl}

pub record IsEmptyIff {A : Type 0} (xs : List A) (P : Type 0) : Type 0 where
  pub holds : xs ≡ [] → P
  pub empty : P → xs ≡ []

pub prefix-empty : {A : Type 0} (xs ys : List A) → xs ++ ys ≡ [] → xs ≡ []
prefix-empty [] ys e = refl
prefix-empty (x ∷ xs) ys e = cc

pub rest-empty : {A : Type 0} (xs ys : List A) → xs ++ ys ≡ [] → ys ≡ []
rest-empty [] ys e = e
rest-empty (x ∷ xs) ys e = cc

pub both-empty : {A : Type 0} (xs ys : List A) → xs ≡ [] → ys ≡ [] → xs ++ ys ≡ []
both-empty xs ys e f = rw (e, f) refl

pub mapped-empty : {A B : Type 0} (f : A → B) (xs : List A) → map f xs ≡ [] → xs ≡ []
mapped-empty f [] e = refl
mapped-empty f (x ∷ xs) e = cc

pub of_mapped : {A B : Type 0} (f : A → B) {xs : List A} {P : Type 0} → IsEmptyIff xs P → IsEmptyIff (map f xs) P
of_mapped f {xs = xs} h = record {
  holds = λ e. h.holds (mapped-empty f xs e);
  empty = λ p. rw (h.empty p) refl;
}

pub empty_of_two : {A : Type 0} {xs ys : List A} {P Q : Type 0}
    → IsEmptyIff xs P → IsEmptyIff ys Q → IsEmptyIff (xs ++ ys) (P × Q)
empty_of_two {xs = xs} {ys = ys} h k = record {
  holds = λ e. (h.holds (prefix-empty xs ys e), k.holds (rest-empty xs ys e));
  empty = λ pq. both-empty xs ys (h.empty pq.0) (k.empty pq.1);
}

-- ---- one more after others

pub of_three : {A : Type 0} {xs ys : List A} {P Q R : Type 0}
    → IsEmptyIff xs (P × Q) → IsEmptyIff ys R → IsEmptyIff (xs ++ ys) (P × Q × R)
of_three {xs = xs} {ys = ys} h k = record {
  holds = λ e. let p = h.holds (prefix-empty xs ys e) in (p.0, p.1, k.holds (rest-empty xs ys e));
  empty = λ p. both-empty xs ys (h.empty (p.0, p.1)) (k.empty p.2);
}

pub of_four : {A : Type 0} {xs ys : List A} {P Q R S : Type 0}
    → IsEmptyIff xs (P × Q × R) → IsEmptyIff ys S → IsEmptyIff (xs ++ ys) (P × Q × R × S)
of_four {xs = xs} {ys = ys} h k = record {
  holds = λ e. let p = h.holds (prefix-empty xs ys e) in (p.0, p.1, p.2, k.holds (rest-empty xs ys e));
  empty = λ p. both-empty xs ys (h.empty (p.0, p.1, p.2)) (k.empty p.3);
}

pub of_five : {A : Type 0} {xs ys : List A} {P Q R S T : Type 0}
    → IsEmptyIff xs (P × Q × R × S) → IsEmptyIff ys T → IsEmptyIff (xs ++ ys) (P × Q × R × S × T)
of_five {xs = xs} {ys = ys} h k = record {
  holds = λ e. let p = h.holds (prefix-empty xs ys e) in (p.0, p.1, p.2, p.3, k.holds (rest-empty xs ys e));
  empty = λ p. both-empty xs ys (h.empty (p.0, p.1, p.2, p.3)) (k.empty p.4);
}
