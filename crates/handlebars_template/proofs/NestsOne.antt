-- At most one result.
use Rattle.std.proofs.Common.{◌≡◌, ℕ, List, [], ◌∷◌, refl, sym, ap, ◌∙◌}
use Rattle.std.proofs.lemmas.List.{append-nil}
use Rattle.handlebars_template.specs.Nest.{BlockKind, SourcePiece, NestingError, not_closed, PositionedElement, Branch, Checks, syntax_alone, names_and_literals, Nests, nothing, a_leaf, a_block, Chains, no_more, a_branch, Inverts, no_inverse, an_inverse, OpenBlock, Opens, none_open, Rejects, LeavesOpen, left_open}
use Rattle.handlebars_template.specs.Tree.{Body}
use Rattle.handlebars_template.specs.Machine.{BlockSoFar, open_in, goes, stops}
use Rattle.handlebars_template.proofs.NestsRuns.{run_pieces, Nests-run, Opens-goes, Goes-run, Rejects-run}

-- two states of the same pieces
record AreSame (d e : ℕ) (fs gs : List BlockSoFar) (es hs : List PositionedElement) : Type 0 where
  pub open_blocks : fs ≡ gs
  pub elements : es ≡ hs

goes-same : (d e : ℕ) (fs gs : List BlockSoFar) (es hs : List PositionedElement) → goes d fs es ≡ goes e gs hs → AreSame d e fs gs es hs
goes-same d e fs gs es hs is = record { open_blocks = cc; elements = cc }

stops-same : (f g : NestingError) → stops f ≡ stops g → f ≡ g
stops-same f g is = cc

goes-stops : (d : ℕ) (fs : List BlockSoFar) (es : List PositionedElement) (f : NestingError) → goes d fs es ≡ stops f → ⊥
goes-stops d fs es f is = absurd cc

Nests-run-all : {t : Checks} {ps : List SourcePiece} {es : List PositionedElement} → Nests t 0 ps es → run_pieces t ps 0 [] [] ≡ goes 0 [] es
Nests-run-all {t} {ps} h = ap (λ (x : List SourcePiece). run_pieces t x 0 [] []) (sym (append-nil ps)) ∙ Nests-run h [] [] []

pub Opens-one : {t : Checks} {d e : ℕ} {ps : List SourcePiece} {fs gs : List OpenBlock} → Opens t d ps fs → Opens t e ps gs → fs ≡ gs
Opens-one {d = d} {e = e} a b =
    let h = Opens-goes a in
    let k = Opens-goes b in
    sym h.shows ∙ ap open_in (goes-same d e h.blocks k.blocks h.elements k.elements (sym (Goes-run h) ∙ Goes-run k)).open_blocks ∙ k.shows

pub Opens-Rejects : {t : Checks} {d : ℕ} {ps : List SourcePiece} {fs : List OpenBlock} {f : NestingError} → Opens t d ps fs → Rejects t ps f → ⊥
Opens-Rejects {d = d} {f = f} a b = (let h = Opens-goes a in goes-stops d h.blocks h.elements f (sym (Goes-run h) ∙ Rejects-run b))

pub Nests-one : {t : Checks} {ps : List SourcePiece} {es hs : List PositionedElement} → Nests t 0 ps es → Nests t 0 ps hs → es ≡ hs
Nests-one {es = es} {hs = hs} a b = (goes-same 0 0 [] [] es hs (sym (Nests-run-all a) ∙ Nests-run-all b)).elements

pub Rejects-one : {t : Checks} {ps : List SourcePiece} {f g : NestingError} → Rejects t ps f → Rejects t ps g → f ≡ g
Rejects-one {f = f} {g = g} a b = stops-same f g (sym (Rejects-run a) ∙ Rejects-run b)

not_closed-same : (f g : OpenBlock) (fs gs : List OpenBlock) → (f ∷ fs) ≡ (g ∷ gs) → not_closed f.position ≡ not_closed g.position
not_closed-same f g fs gs is = let same : f ≡ g = cc in ap (λ (z : OpenBlock). not_closed z.position) same

pub LeavesOpen-one : {t : Checks} {ps : List SourcePiece} {f g : NestingError} → LeavesOpen t ps f → LeavesOpen t ps g → f ≡ g
LeavesOpen-one (left_open {f = f} {fs = fs} a) (left_open {f = g} {fs = gs} b) = not_closed-same f g fs gs (Opens-one a b)

pub Nests-Rejects : {t : Checks} {ps : List SourcePiece} {es : List PositionedElement} {f : NestingError} → Nests t 0 ps es → Rejects t ps f → ⊥
Nests-Rejects a b = Opens-Rejects (none_open a) b

nil-cons : (f : OpenBlock) (fs : List OpenBlock) → [] ≡ (f ∷ fs) → ⊥
nil-cons f fs is = absurd cc

pub Nests-LeavesOpen : {t : Checks} {ps : List SourcePiece} {es : List PositionedElement} {f : NestingError} → Nests t 0 ps es → LeavesOpen t ps f → ⊥
Nests-LeavesOpen a (left_open {f = f} {fs = fs} b) = nil-cons f fs (Opens-one (none_open a) b)

-- ---- what nests by names and literals too nests by its syntax

mutual
  pub Nests-loose : {d : ℕ} {ps : List SourcePiece} {es : List PositionedElement} → Nests names_and_literals d ps es → Nests syntax_alone d ps es
  Nests-loose nothing = nothing
  Nests-loose (a_leaf p e n r fits fair h) = a_leaf p e n r fits refl (Nests-loose h)
  Nests-loose (a_block p q o n r raw m fits fair ends named nb ch la h) =
      a_block p q o n r raw m fits refl ends refl (Nests-loose nb) (Chains-loose ch) (Inverts-loose la) (Nests-loose h)

  Chains-loose : {k : BlockKind} {d e : ℕ} {cs : List SourcePiece} {bs : List Branch} → Chains names_and_literals k d cs bs e → Chains syntax_alone k d cs bs e
  Chains-loose no_more = no_more
  Chains-loose (a_branch p o n r may fits fair nb ch) = a_branch p o n r may fits refl (Nests-loose nb) (Chains-loose ch)

  Inverts-loose : {k : BlockKind} {d : ℕ} {ls : List SourcePiece} {last : Body} → Inverts names_and_literals k d ls last → Inverts syntax_alone k d ls last
  Inverts-loose no_inverse = no_inverse
  Inverts-loose (an_inverse p may nb) = an_inverse p may (Nests-loose nb)
