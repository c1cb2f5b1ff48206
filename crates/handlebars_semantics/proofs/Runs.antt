-- What is written piece by piece, and runs that could also run out of memory.
use Rattle.std.proofs.Common.{◌≡◌, List, [], ◌∷◌, ◌++◌, refl, sym, ap, ◌∙◌, append_assoc}
use Rattle.handlebars_base.specs.Reasons.{Refusal}
use Rattle.handlebars_semantics.specs.Pieces.{Piece, join}
use Rattle.handlebars_semantics.specs.State.{Setting, State}
use Rattle.handlebars_semantics.specs.Steps.{Steps}
use Rattle.handlebars_semantics.specs.Runs.{Outcome, Ended, Failed, WriteFailed, NoMemory, Runs, done, failed, wrote, got, set, asked, did, did_over, did_capture, did_capture_over, looked, below_limit, at_limit, stop, cut}

pub join-append : (xs ys : List Piece) → join (xs ++ ys) ≡ join xs ++ join ys
join-append [] ys = refl
join-append (x ∷ xs) ys = ap (λ zs. x.text ++ zs) (join-append xs ys) ∙ sym (append_assoc x.text (join xs) (join ys))

-- A run that fails could also run out of memory there.
pub Runs-short : {p : Setting} {k : Steps} {s : State} {ps : List Piece} {f : Refusal} {o : Outcome}
    → Runs p k s ps o → o ≡ Failed f → Runs p k s ps NoMemory
Runs-short done e = cc
Runs-short failed e = stop
Runs-short (wrote r) e = wrote (Runs-short r e)
Runs-short (got r) e = got (Runs-short r e)
Runs-short (set r) e = set (Runs-short r e)
Runs-short (asked a i r) e = asked a i (Runs-short r e)
Runs-short (did a b) e = did a (Runs-short b e)
Runs-short (did_over {o = Ended s} a over) e = absurd over
Runs-short (did_over {o = Failed f} a over) e = did_over (Runs-short a refl) tt
Runs-short (did_over {o = WriteFailed f} a over) e = cc
Runs-short (did_over {o = NoMemory} a over) e = cc
Runs-short (did_capture a b) e = did_capture a (Runs-short b e)
Runs-short (did_capture_over a over) e = stop
Runs-short (looked r) e = looked (Runs-short r e)
Runs-short (below_limit lt r) e = below_limit lt (Runs-short r e)
Runs-short (at_limit le) e = stop
Runs-short stop e = cc
Runs-short (cut {o = Ended s} i b) e = absurd i
Runs-short (cut {o = Failed f} i b) e = absurd i
Runs-short (cut {o = WriteFailed f} i b) e = cc
Runs-short (cut {o = NoMemory} i b) e = cc
