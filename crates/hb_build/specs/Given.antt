-- What the pages answer. When memory runs out, nothing is said.
use Rattle.std.specs.Prelude.{ℕ, Bool, true, false, List, Option, Some, None, Result, MatchResult, String, string_bytes}
use Rattle.std.specs.declared.alloc.Global.{Global}
use Rattle.hb_build.specs.declared.source.Failure.{Failure}
use Rattle.hb_build.specs.declared.source.Failure.TheVariants.{OutOfMemory, Fault}

-- the fact holds if a fault is why
abbrev pub IfFault : Failure → Type 0 → Type 0
IfFault OutOfMemory fact = Unit {0}
IfFault (Fault _) fact = fact

module _ {S : Type 0} where
  -- a rewind succeeds or not, as it may
  abbrev pub Rewinds : (S → Bool → S → Type 0) → S → {X : Type 0} → Result X Failure → S → Type 0
  Rewinds may old r new = MatchResult r (λ _. may old true new) (λ failure. IfFault failure (may old false new))

  -- an advance gives an answer that it may give, or none
  abbrev pub Advances : (S → Option Bool → S → Type 0) → S → Result Bool Failure → S → Type 0
  Advances may old r new = MatchResult r (λ more. may old (Some more) new) (λ failure. IfFault failure (may old None new))

  -- a text is one that may be given, or there is none
  abbrev pub Gives : (S → Option (List ℕ) → Type 0) → S → Result (String Global) Failure → Type 0
  Gives may s r = MatchResult r (λ text. may s (Some (string_bytes text))) (λ failure. IfFault failure (may s None))
