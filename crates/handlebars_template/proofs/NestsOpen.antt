-- The open blocks, with their elements so far, as the machine goes along.
use Rattle.std.proofs.Common.{◌≡◌, ℕ, suc, ◌+◌, ◌≤◌, List, [], ◌∷◌, ◌++◌, true, Option}
use Rattle.handlebars_base.specs.Bytes.{Text}
use Rattle.handlebars_template.specs.Position.{Position}
use Rattle.handlebars_template.specs.Calls.{max_nesting}
use Rattle.handlebars_template.specs.Nest.{admits_inverse, Opening, SourcePiece, opens, inverts, chains, PositionedElement, Branch, Checks, has_values, Nests, Chains}
use Rattle.handlebars_template.specs.Machine.{in_first, in_branch, in_inverse, BlockSoFar}

-- the pieces begin the block and leave it open, with so many levels open then, after the elements
pub data BeginsSoFar (t : Checks) : BlockSoFar → List SourcePiece → ℕ → List PositionedElement → Type 0 where
  in_its_body : {o : ℕ} {bs : List SourcePiece} {es out : List PositionedElement} (p : Position) (x : Opening) (n : ℕ) (r : Option Text)
      → o + suc n ≤ max_nesting → has_values t r ≡ true → Nests t (suc o) bs es
      → BeginsSoFar t
      (record { position = p; opening = x; around = o; first = []; branches = []; stage = in_first; outside = out })
      (opens p x n r ∷ bs) (suc o) es
  in_a_branch : {o d : ℕ} {bs cs gs : List SourcePiece} {first es out : List PositionedElement} {branches : List Branch}
      (p q : Position) (x g : Opening) (n k : ℕ) (r u : Option Text)
      → o + suc n ≤ max_nesting → has_values t r ≡ true → Nests t (suc o) bs first → Chains t x.kind (suc o) cs branches d
      → admits_inverse x.kind ≡ true → d + suc k ≤ max_nesting → has_values t u ≡ true → Nests t (suc d) gs es
      → BeginsSoFar t
      (record {
        position = p;
        opening = x;
        around = o;
        first = first;
        branches = branches;
        stage = in_branch g;
        outside = out;
      })
      (opens p x n r ∷ (bs ++ (cs ++ (chains q g k u ∷ gs)))) (suc d) es
  in_an_inverse : {o d : ℕ} {bs cs gs : List SourcePiece} {first es out : List PositionedElement} {branches : List Branch}
      (p q : Position) (x : Opening) (n : ℕ) (r : Option Text)
      → o + suc n ≤ max_nesting → has_values t r ≡ true → Nests t (suc o) bs first → Chains t x.kind (suc o) cs branches d
      → admits_inverse x.kind ≡ true → Nests t d gs es
      → BeginsSoFar t
      (record {
        position = p;
        opening = x;
        around = o;
        first = first;
        branches = branches;
        stage = in_inverse;
        outside = out;
      })
      (opens p x n r ∷ (bs ++ (cs ++ (inverts q ∷ gs)))) d es

-- the pieces leave the blocks open, the innermost first, and the elements are in the innermost
pub data OpensSoFar (t : Checks) : ℕ → List SourcePiece → List BlockSoFar → List PositionedElement → Type 0 where
  no_block : {ps : List SourcePiece} {es : List PositionedElement} → Nests t 0 ps es → OpensSoFar t 0 ps [] es
  a_block_more : {d : ℕ} {f : BlockSoFar} {ps qs : List SourcePiece} {fs : List BlockSoFar} {es : List PositionedElement}
      → OpensSoFar t f.around ps fs f.outside → BeginsSoFar t f qs d es → OpensSoFar t d (ps ++ qs) (f ∷ fs) es
