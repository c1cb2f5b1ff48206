-- Findings that a loop adds one after another.
use Rattle.std.proofs.Common.{◌≡◌, ◌++◌, [], List, map, sym, ap, ◌∙◌, append_assoc}
use Rattle.std.proofs.lemmas.List.{append-nil}

module _ {A B : Type 0} (view : A → B) where
  -- What is found so far, followed by what the rest gives, is what there was first, followed by all.
  abbrev pub Accumulates : List A → List A → List B → List B → Type 0
  Accumulates first now rest all = map view now ++ rest ≡ map view first ++ all

  pub leads-goes : (first now next : List A) (xs rest all : List B)
      → Accumulates first now (xs ++ rest) all → map view next ≡ map view now ++ xs → Accumulates first next rest all
  leads-goes first now next xs rest all l f = ap (λ z. z ++ rest) f ∙ append_assoc (map view now) xs rest ∙ l

  pub leads-ends : (first now : List A) (rest all : List B)
      → Accumulates first now rest all → rest ≡ [] → map view now ≡ map view first ++ all
  leads-ends first now rest all l e = sym (append-nil (map view now)) ∙ rw e at l
