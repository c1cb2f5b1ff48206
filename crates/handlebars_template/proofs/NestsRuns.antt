-- Which pieces nest, are left open or are rejected is what the machine computes piece by piece.
use Rattle.std.proofs.Common.{◌≡◌, ℕ, suc, ◌+◌, ◌≤◌, List, [], ◌∷◌, ◌++◌, Bool, true, false, Option, refl, sym, ap, ◌∙◌, append_assoc}
use Rattle.std.proofs.lemmas.List.{append-nil}
use Rattle.handlebars_base.specs.Bytes.{Text}
use Rattle.handlebars_template.specs.Position.{Position}
use Rattle.handlebars_template.specs.Tree.{Element, Body}
use Rattle.handlebars_template.specs.Calls.{max_nesting}
use Rattle.handlebars_template.specs.Nest.{may_end, Opening, SourcePiece, leaf, opens, inverts, chains, closes, NestingError, PositionedElement, Branch, block_of, Checks, may_close, has_values, Nests, nothing, a_leaf, a_block, Chains, no_more, a_branch, Inverts, no_inverse, an_inverse, OpenBlock, takes_inverse, BeginsBlock, in_a_body, in_its_inverse, Opens, none_open, and_another, Rejects, rejects_at}
use Rattle.handlebars_template.specs.Machine.{Stage, in_first, in_branch, in_inverse, BlockSoFar, without_elements, open_in, closed_block, next_stage, new_open_block, Moved, goes, stops, after_piece}
use Rattle.handlebars_template.proofs.Machine.{nesting_error_in, unless_error, apply}
use Rattle.handlebars_template.proofs.NestsFits.{apply-moved_by, IsAcceptedPiece, apply-fits, IsAcceptedPiece-leaf, IsAcceptedPiece-opens, IsAcceptedPiece-inverts, IsAcceptedPiece-chains, IsAcceptedPiece-closes, RejectsAt-error}
use Rattle.handlebars_template.proofs.NestsSteps.{Opens-shallow}

abbrev go_on : Moved → (ℕ → List BlockSoFar → List PositionedElement → Moved) → Moved
go_on (goes d fs es) k = k d fs es
go_on (stops f) k = stops f

abbrev pub run_pieces : Checks → List SourcePiece → ℕ → List BlockSoFar → List PositionedElement → Moved
run_pieces t [] d fs es = goes d fs es
run_pieces t (x ∷ xs) d fs es = go_on (apply t x d fs es) (run_pieces t xs)

abbrev open_block : Position → Opening → ℕ → List PositionedElement → List Branch → Stage → List PositionedElement → BlockSoFar
open_block p o d first bs s out =
    record { position = p; opening = o; around = d; first = first; branches = bs; stage = s; outside = out }

abbrev branch : Opening → List PositionedElement → Branch
branch g es = record { opening = g; elements = es }

-- ---- one piece

module _ (t : Checks) (xs : List SourcePiece) where
  along : (ys : List SourcePiece) (d : ℕ) (fs : List BlockSoFar) (es : List PositionedElement) → xs ≡ ys → run_pieces t xs d fs es ≡ run_pieces t ys d fs es
  along ys d fs es is = ap (λ (x : List SourcePiece). run_pieces t x d fs es) is

  on : (m k : Moved) → m ≡ k → go_on m (run_pieces t xs) ≡ go_on k (run_pieces t xs)
  on m k is = ap (λ (z : Moved). go_on z (run_pieces t xs)) is

  moves : (x : SourcePiece) (d : ℕ) (fs : List BlockSoFar) (es : List PositionedElement) → IsAcceptedPiece t d (open_in fs) x → run_pieces t (x ∷ xs) d fs es ≡ go_on (after_piece x d fs es) (run_pieces t xs)
  moves x d fs es h = on (apply t x d fs es) (after_piece x d fs es) (apply-fits t x d fs es h)

  run_pieces-leaf : (p : Position) (e : Element) (n : ℕ) (r : Option Text) (d : ℕ) (fs : List BlockSoFar) (es : List PositionedElement) → d + n ≤ max_nesting → has_values t r ≡ true
      → run_pieces t (leaf p e n r ∷ xs) d fs es ≡ run_pieces t xs d fs (es ++ (record { position = p; element = e } ∷ []))
  run_pieces-leaf p e n r d fs es fits fair = moves (leaf p e n r) d fs es (IsAcceptedPiece-leaf t d (open_in fs) p e n r fits fair)

  run_pieces-opens : (p : Position) (o : Opening) (n : ℕ) (r : Option Text) (d : ℕ) (fs : List BlockSoFar) (es : List PositionedElement) → d + suc n ≤ max_nesting → has_values t r ≡ true
      → run_pieces t (opens p o n r ∷ xs) d fs es ≡ run_pieces t xs (suc d) (new_open_block p o d es ∷ fs) []
  run_pieces-opens p o n r d fs es fits fair = moves (opens p o n r) d fs es (IsAcceptedPiece-opens t d (open_in fs) p o n r fits fair)

  run_pieces-inverts : (p : Position) (d : ℕ) (f : BlockSoFar) (fs : List BlockSoFar) (es : List PositionedElement) → takes_inverse (without_elements f) ≡ true
      → run_pieces t (inverts p ∷ xs) d (f ∷ fs) es ≡ run_pieces t xs d (next_stage f es in_inverse ∷ fs) []
  run_pieces-inverts p d f fs es takes = moves (inverts p) d (f ∷ fs) es (IsAcceptedPiece-inverts t d (without_elements f) (open_in fs) p takes)

  run_pieces-chains : (p : Position) (o : Opening) (n : ℕ) (r : Option Text) (d : ℕ) (f : BlockSoFar) (fs : List BlockSoFar) (es : List PositionedElement) → takes_inverse (without_elements f) ≡ true → d + suc n ≤ max_nesting → has_values t r ≡ true
      → run_pieces t (chains p o n r ∷ xs) d (f ∷ fs) es ≡ run_pieces t xs (suc d) (next_stage f es (in_branch o) ∷ fs) []
  run_pieces-chains p o n r d f fs es takes fits fair = moves (chains p o n r) d (f ∷ fs) es (IsAcceptedPiece-chains t d (without_elements f) (open_in fs) p o n r takes fits fair)

  run_pieces-closes : (p : Position) (raw : Bool) (m : Text) (d : ℕ) (f : BlockSoFar) (fs : List BlockSoFar) (es : List PositionedElement) → may_end f.opening.kind raw m ≡ true → may_close t f.opening.closing m ≡ true
      → run_pieces t (closes p raw m ∷ xs) d (f ∷ fs) es ≡ run_pieces t xs f.around fs (f.outside ++ (closed_block f es ∷ []))
  run_pieces-closes p raw m d f fs es ends named = moves (closes p raw m) d (f ∷ fs) es (IsAcceptedPiece-closes t d (without_elements f) (open_in fs) p raw m ends named)

-- ---- after a chain

-- the machine with `rest` to go, after the chained inverses `more`, and then after a whole chain
abbrev after_more : Checks → List SourcePiece → ℕ → Position → Opening → ℕ → List PositionedElement → List BlockSoFar → List PositionedElement → List Branch → Opening → List PositionedElement → List Branch → Moved
after_more t rest e p o d out fs first before g xs [] = run_pieces t rest e (open_block p o d first before (in_branch g) out ∷ fs) xs
after_more t rest e p o d out fs first before g xs (b ∷ more) = after_more t rest e p o d out fs first (before ++ (branch g xs ∷ [])) b.opening b.elements more

abbrev after_chain : Checks → List SourcePiece → ℕ → Position → Opening → ℕ → List PositionedElement → List BlockSoFar → List PositionedElement → List Branch → Moved
after_chain t rest e p o d out fs first [] = run_pieces t rest e (open_block p o d [] [] in_first out ∷ fs) first
after_chain t rest e p o d out fs first (b ∷ more) = after_more t rest e p o d out fs first [] b.opening b.elements more

-- what holds at each stage holds after any chain
module _ (t : Checks) (rest : List SourcePiece) (e : ℕ) (p : Position) (o : Opening) (d : ℕ) (out : List PositionedElement) (fs : List BlockSoFar) (first : List PositionedElement) (goal : List Branch → Moved)
    (each : (before : List Branch) (g : Opening) (xs : List PositionedElement) → run_pieces t rest e (open_block p o d first before (in_branch g) out ∷ fs) xs ≡ goal (before ++ (branch g xs ∷ []))) where
  at_more : (before : List Branch) (g : Opening) (xs : List PositionedElement) (more : List Branch) → after_more t rest e p o d out fs first before g xs more ≡ goal (before ++ (branch g xs ∷ more))
  at_more before g xs [] = each before g xs
  at_more before g xs (b ∷ more) = at_more (before ++ (branch g xs ∷ [])) b.opening b.elements more ∙ ap goal (append_assoc before (branch g xs ∷ []) (b ∷ more))

  at_chain : run_pieces t rest e (open_block p o d [] [] in_first out ∷ fs) first ≡ goal [] → (bs : List Branch) → after_chain t rest e p o d out fs first bs ≡ goal bs
  at_chain none [] = none
  at_chain none (b ∷ more) = at_more [] b.opening b.elements more

abbrev whole : Checks → List SourcePiece → Position → Opening → ℕ → List PositionedElement → List BlockSoFar → List PositionedElement → Body → List Branch → Moved
whole t rest p o d out fs first last bs = run_pieces t rest d fs (out ++ (record { position = p; element = block_of o first bs last } ∷ []))

mutual
  pub Nests-run : {t : Checks} {d : ℕ} {ps : List SourcePiece} {es : List PositionedElement} → Nests t d ps es → (rest : List SourcePiece) (fs : List BlockSoFar) (out : List PositionedElement)
      → run_pieces t (ps ++ rest) d fs out ≡ run_pieces t rest d fs (out ++ es)
  Nests-run {t} {d} nothing rest fs out = ap (run_pieces t rest d fs) (sym (append-nil out))
  Nests-run {t} {d} (a_leaf {ps = ps} {es = es} p e n r fits fair h) rest fs out =
      run_pieces-leaf t (ps ++ rest) p e n r d fs out fits fair
      ∙ Nests-run h rest fs (out ++ (record { position = p; element = e } ∷ [])) ∙ ap (run_pieces t rest d fs) (append_assoc out (record { position = p; element = e } ∷ []) es)
  Nests-run {t} {d} (a_block {e = e} {bs = bs} {cs = cs} {ls = ls} {ps = ps} {first = first} {es = es} {branches = brs} {last = last} p q o n r raw m fits fair ends named nb ch la h) rest fs out =
      run_pieces-opens t ((bs ++ (cs ++ (ls ++ (closes q raw m ∷ ps)))) ++ rest) p o n r d fs out fits fair
      ∙ along t ((bs ++ (cs ++ (ls ++ (closes q raw m ∷ ps)))) ++ rest) (bs ++ (cs ++ (ls ++ (closes q raw m ∷ (ps ++ rest))))) (suc d) (open_block p o d [] [] in_first out ∷ fs) [] (simp append_assoc)
      ∙ Nests-run nb (cs ++ (ls ++ (closes q raw m ∷ (ps ++ rest)))) (open_block p o d [] [] in_first out ∷ fs) []
      ∙ Chains-run o ch (ls ++ (closes q raw m ∷ (ps ++ rest))) p d out fs first
      ∙ at_chain t (ls ++ (closes q raw m ∷ (ps ++ rest))) e p o d out fs first (whole t (ps ++ rest) p o d out fs first last)
      (λ before g xs. Inverts-run-branch o la raw m q p ends named d out fs first before g xs (ps ++ rest)) (Inverts-run-first o la raw m q p ends named d out fs first (ps ++ rest)) brs
      ∙ Nests-run h rest fs (out ++ (record { position = p; element = block_of o first brs last } ∷ []))
      ∙ ap (run_pieces t rest d fs) (append_assoc out (record { position = p; element = block_of o first brs last } ∷ []) es)

  Chains-run : {t : Checks} {c e : ℕ} {cs : List SourcePiece} {brs : List Branch} (o : Opening) → Chains t o.kind c cs brs e → (rest : List SourcePiece) (p : Position) (d : ℕ) (out : List PositionedElement) (fs : List BlockSoFar) (first : List PositionedElement)
      → run_pieces t (cs ++ rest) c (open_block p o d [] [] in_first out ∷ fs) first ≡ after_chain t rest e p o d out fs first brs
  Chains-run o no_more rest p d out fs first = refl
  Chains-run {t} {c} o (a_branch {bs = bs} {cs = cs} {es = xs} q g n r may fits fair nb ch) rest p d out fs first =
      run_pieces-chains t ((bs ++ cs) ++ rest) q g n r c (open_block p o d [] [] in_first out) fs first may fits fair
      ∙ along t ((bs ++ cs) ++ rest) (bs ++ (cs ++ rest)) (suc c) (open_block p o d first [] (in_branch g) out ∷ fs) [] (append_assoc bs cs rest)
      ∙ Nests-run nb (cs ++ rest) (open_block p o d first [] (in_branch g) out ∷ fs) []
      ∙ Chains-run-more o ch rest p d out fs first [] g xs

  Chains-run-more : {t : Checks} {c e : ℕ} {cs : List SourcePiece} {more : List Branch} (o : Opening) → Chains t o.kind c cs more e → (rest : List SourcePiece) (p : Position) (d : ℕ) (out : List PositionedElement) (fs : List BlockSoFar) (first : List PositionedElement) (before : List Branch) (g : Opening) (es : List PositionedElement)
      → run_pieces t (cs ++ rest) c (open_block p o d first before (in_branch g) out ∷ fs) es ≡ after_more t rest e p o d out fs first before g es more
  Chains-run-more o no_more rest p d out fs first before g es = refl
  Chains-run-more {t} {c} o (a_branch {bs = bs} {cs = cs} {es = xs} q k n r may fits fair nb ch) rest p d out fs first before g es =
      run_pieces-chains t ((bs ++ cs) ++ rest) q k n r c (open_block p o d first before (in_branch g) out) fs es may fits fair
      ∙ along t ((bs ++ cs) ++ rest) (bs ++ (cs ++ rest)) (suc c) (open_block p o d first (before ++ (branch g es ∷ [])) (in_branch k) out ∷ fs) [] (append_assoc bs cs rest)
      ∙ Nests-run nb (cs ++ rest) (open_block p o d first (before ++ (branch g es ∷ [])) (in_branch k) out ∷ fs) []
      ∙ Chains-run-more o ch rest p d out fs first (before ++ (branch g es ∷ [])) k xs

  Inverts-run-first : {t : Checks} {e : ℕ} {ls : List SourcePiece} {last : Body} (o : Opening) → Inverts t o.kind e ls last → (raw : Bool) (m : Text) (q p : Position) → may_end o.kind raw m ≡ true → may_close t o.closing m ≡ true
      → (d : ℕ) (out : List PositionedElement) (fs : List BlockSoFar) (first : List PositionedElement) (rest : List SourcePiece)
      → run_pieces t (ls ++ (closes q raw m ∷ rest)) e (open_block p o d [] [] in_first out ∷ fs) first ≡ whole t rest p o d out fs first last []
  Inverts-run-first {t} {e} o no_inverse raw m q p ends named d out fs first rest = run_pieces-closes t rest q raw m e (open_block p o d [] [] in_first out) fs first ends named
  Inverts-run-first {t} {e} o (an_inverse {bs = bs} {es = es} r may nb) raw m q p ends named d out fs first rest =
      run_pieces-inverts t (bs ++ (closes q raw m ∷ rest)) r e (open_block p o d [] [] in_first out) fs first may
      ∙ Nests-run nb (closes q raw m ∷ rest) (open_block p o d first [] in_inverse out ∷ fs) [] ∙ run_pieces-closes t rest q raw m e (open_block p o d first [] in_inverse out) fs es ends named

  Inverts-run-branch : {t : Checks} {e : ℕ} {ls : List SourcePiece} {last : Body} (o : Opening) → Inverts t o.kind e ls last → (raw : Bool) (m : Text) (q p : Position) → may_end o.kind raw m ≡ true → may_close t o.closing m ≡ true
      → (d : ℕ) (out : List PositionedElement) (fs : List BlockSoFar) (first : List PositionedElement) (before : List Branch) (g : Opening) (es : List PositionedElement) (rest : List SourcePiece)
      → run_pieces t (ls ++ (closes q raw m ∷ rest)) e (open_block p o d first before (in_branch g) out ∷ fs) es ≡ whole t rest p o d out fs first last (before ++ (branch g es ∷ []))
  Inverts-run-branch {t} {e} o no_inverse raw m q p ends named d out fs first before g es rest = run_pieces-closes t rest q raw m e (open_block p o d first before (in_branch g) out) fs es ends named
  Inverts-run-branch {t} {e} o (an_inverse {bs = bs} {es = xs} r may nb) raw m q p ends named d out fs first before g es rest =
      run_pieces-inverts t (bs ++ (closes q raw m ∷ rest)) r e (open_block p o d first before (in_branch g) out) fs es may
      ∙ Nests-run nb (closes q raw m ∷ rest) (open_block p o d first (before ++ (branch g es ∷ [])) in_inverse out ∷ fs) []
      ∙ run_pieces-closes t rest q raw m e (open_block p o d first (before ++ (branch g es ∷ [])) in_inverse out) fs xs ends named

-- ---- a block that is open

-- the state of a block after its first body and its chained inverses
record LeadsToBlock (p : Position) (o : Opening) (fs : List BlockSoFar) (goal : Checks → List SourcePiece → ℕ → Moved) : Type 0 where
  pub block : BlockSoFar
  pub elements : List PositionedElement
  pub shows : without_elements block ≡ record { position = p; opening = o; inverted = false }
  pub is : (t : Checks) (rest : List SourcePiece) (e : ℕ) → goal t rest e ≡ run_pieces t rest e (block ∷ fs) elements

more-leads : (p : Position) (o : Opening) (d : ℕ) (out : List PositionedElement) (fs : List BlockSoFar) (first : List PositionedElement) (before : List Branch) (g : Opening) (xs : List PositionedElement) (more : List Branch)
    → LeadsToBlock p o fs (λ t rest e. after_more t rest e p o d out fs first before g xs more)
more-leads p o d out fs first before g xs [] = record {
  block = open_block p o d first before (in_branch g) out;
  elements = xs;
  shows = refl;
  is = λ t rest e. refl;
}
more-leads p o d out fs first before g xs (b ∷ more) = more-leads p o d out fs first (before ++ (branch g xs ∷ [])) b.opening b.elements more

chain-leads : (p : Position) (o : Opening) (d : ℕ) (out : List PositionedElement) (fs : List BlockSoFar) (first : List PositionedElement) (brs : List Branch) → LeadsToBlock p o fs (λ t rest e. after_chain t rest e p o d out fs first brs)
chain-leads p o d out fs first [] = record { block = open_block p o d [] [] in_first out; elements = first; shows = refl; is = λ t rest e. refl }
chain-leads p o d out fs first (b ∷ more) = more-leads p o d out fs first [] b.opening b.elements more

-- the block with its elements so far
record BlockRuns (t : Checks) (o : ℕ) (g : OpenBlock) (qs : List SourcePiece) (d : ℕ) (fs : List BlockSoFar) (out : List PositionedElement) : Type 0 where
  pub block : BlockSoFar
  pub elements : List PositionedElement
  pub shows : without_elements block ≡ g
  pub runs : (rest : List SourcePiece) → run_pieces t (qs ++ rest) o fs out ≡ run_pieces t rest d (block ∷ fs) elements

BeginsBlock-runs : {t : Checks} {o : ℕ} {g : OpenBlock} {qs : List SourcePiece} {d : ℕ} → BeginsBlock t o g qs d → (fs : List BlockSoFar) (out : List PositionedElement) → BlockRuns t o g qs d fs out
BeginsBlock-runs {t} {o} {d = d} (in_a_body {bs = bs} {cs = cs} {first = first} {branches = brs} p x n r fits fair nb ch) fs out =
    let s = chain-leads p x o out fs first brs in
    record {
      block = s.block;
      elements = s.elements;
      shows = s.shows;
      runs = λ rest. run_pieces-opens t ((bs ++ cs) ++ rest) p x n r o fs out fits fair
          ∙ along t ((bs ++ cs) ++ rest) (bs ++ (cs ++ rest)) (suc o) (open_block p x o [] [] in_first out ∷ fs) [] (append_assoc bs cs rest)
          ∙ Nests-run nb (cs ++ rest) (open_block p x o [] [] in_first out ∷ fs) [] ∙ Chains-run x ch rest p o out fs first ∙ s.is t rest d;
    }
BeginsBlock-runs {t} (in_its_inverse {o = o} {d = c} {bs = bs} {cs = cs} {gs = gs} {first = first} {es = es} {branches = brs} p q x n r fits fair nb ch may ng) fs out = record {
  block = open_block p x o first brs in_inverse out;
  elements = es;
  shows = refl;
  runs = λ rest. run_pieces-opens t ((bs ++ (cs ++ (inverts q ∷ gs))) ++ rest) p x n r o fs out fits fair
      ∙ along t ((bs ++ (cs ++ (inverts q ∷ gs))) ++ rest) (bs ++ (cs ++ (inverts q ∷ (gs ++ rest)))) (suc o) (open_block p x o [] [] in_first out ∷ fs) [] (simp append_assoc)
      ∙ Nests-run nb (cs ++ (inverts q ∷ (gs ++ rest))) (open_block p x o [] [] in_first out ∷ fs) []
      ∙ Chains-run x ch (inverts q ∷ (gs ++ rest)) p o out fs first
      ∙ at_chain t (inverts q ∷ (gs ++ rest)) c p x o out fs first (λ b. run_pieces t (gs ++ rest) c (open_block p x o first b in_inverse out ∷ fs) [])
      (λ before j xs. run_pieces-inverts t (gs ++ rest) q c (open_block p x o first before (in_branch j) out) fs xs may) (run_pieces-inverts t (gs ++ rest) q c (open_block p x o [] [] in_first out) fs first may) brs
      ∙ Nests-run ng rest (open_block p x o first brs in_inverse out ∷ fs) [];
}

-- the machine goes along the pieces, and then has these blocks open
pub record Goes (t : Checks) (d : ℕ) (ps : List SourcePiece) (gs : List OpenBlock) : Type 0 where
  pub blocks : List BlockSoFar
  pub elements : List PositionedElement
  pub shows : open_in blocks ≡ gs
  pub runs : (rest : List SourcePiece) → run_pieces t (ps ++ rest) 0 [] [] ≡ run_pieces t rest d blocks elements

pub Opens-goes : {t : Checks} {d : ℕ} {ps : List SourcePiece} {gs : List OpenBlock} → Opens t d ps gs → Goes t d ps gs
Opens-goes (none_open {es = es} h) = record { blocks = []; elements = es; shows = refl; runs = λ rest. Nests-run h rest [] [] }
Opens-goes {t} (and_another {f = g} {ps = ps} {qs = qs} {fs = gs} o i) =
    let h = Opens-goes o in
    let b = BeginsBlock-runs i h.blocks h.elements in
    record {
      blocks = b.block ∷ h.blocks;
      elements = b.elements;
      shows = ap (λ (z : OpenBlock). z ∷ open_in h.blocks) b.shows ∙ ap (λ (z : List OpenBlock). g ∷ z) h.shows;
      runs = λ rest. along t ((ps ++ qs) ++ rest) (ps ++ (qs ++ rest)) 0 [] [] (append_assoc ps qs rest) ∙ h.runs (qs ++ rest) ∙ b.runs rest;
    }

pub Goes-run : {t : Checks} {d : ℕ} {ps : List SourcePiece} {gs : List OpenBlock} → (h : Goes t d ps gs) → run_pieces t ps 0 [] [] ≡ goes d h.blocks h.elements
Goes-run {t} {ps = ps} h = along t ps (ps ++ []) 0 [] [] (sym (append-nil ps)) ∙ h.runs []

-- ---- errors

pub Rejects-run : {t : Checks} {ps : List SourcePiece} {f : NestingError} → Rejects t ps f → run_pieces t ps 0 [] [] ≡ stops f
Rejects-run {t} {f = f} (rejects_at {d = d} {fs = gs} {x = x} rest o bad) =
    let h = Opens-goes o in
    let fs = h.blocks in
    let es = h.elements in
    h.runs (x ∷ rest)
    ∙ on t rest (apply t x d fs es) (stops f) (apply-moved_by t x d fs es
    ∙ ap (λ (z : List OpenBlock). unless_error (nesting_error_in t d z x) (after_piece x d fs es)) h.shows
    ∙ ap (λ (z : Option NestingError). unless_error z (after_piece x d fs es)) (RejectsAt-error (Opens-shallow o) bad))
