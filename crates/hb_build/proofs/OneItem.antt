-- The current item.
use Rattle.std.proofs.Common.{◌≡◌, ℕ, Bool, true, false, [], ◌∷◌, Some, None, inl, refl, ap}
use Rattle.hb_build.specs.Name.{Name}
use Rattle.hb_build.specs.Entries.{Entries, Text}
use Rattle.hb_build.specs.Items.{IsStored, fate_of, outcome_of}
use Rattle.hb_build.specs.Build.{IsFailure, IsItemFailure}
use Rattle.hb_build.specs.Passes.{Changes}
use Rattle.hb_build.specs.declared.files.Store as stores
use Rattle.hb_build.specs.declared.outcome.Outcome.{Outcome}
use Rattle.hb_build.specs.declared.outcome.Outcome.TheVariants as outcomes
use Rattle.hb_build.specs.declared.error.BuildError.{BuildError}
use Rattle.hb_build.specs.declared.error.BuildError.TheVariants as errors

pub outcome_of-fate_of : (text : Text) (outcome : Outcome) → outcome_of (fate_of text outcome) ≡ outcome
outcome_of-fate_of text outcomes.Created = refl
outcome_of-fate_of text outcomes.Changed = refl
outcome_of-fate_of text outcomes.Unchanged = refl
outcome_of-fate_of text (outcomes.Failed cause) = refl

-- where no item is built nothing changes
IsStored-none : (dry : Bool) (name : Name) (a : Entries) → IsStored dry (record { name = name; fate = None } ∷ []) a a
IsStored-none true name a = λ path. refl
IsStored-none false name a = record { held = (tt, tt); others = λ path _. inl refl }

pub Changes-none : {S : Type 0} (s : stores.Ghosts S) (dry : Bool) (name : Name) (a : S) → Changes s (IsStored dry (record { name = name; fate = None } ∷ [])) a a
Changes-none s dry name a = record { was_reliable = λ r. r; change = λ r. IsStored-none dry name (s.entries a) }

-- the failure, of the item
pub IsItemFailure-from : (keep_going : Bool) (k : ℕ) (name : Name) (text : Text) (outcome : Outcome) (e : BuildError) → IsFailure keep_going k name outcome e
    → IsItemFailure keep_going k (record { name = name; fate = Some (fate_of text outcome) }) e
IsItemFailure-from keep_going k name text outcome errors.OutOfMemory h = (h.0, h.1, ap (λ o. Some (fate_of text o)) h.2)
IsItemFailure-from keep_going k name text outcome (errors.Items _ _) h = h
IsItemFailure-from keep_going k name text outcome (errors.Name _ _) h = h
IsItemFailure-from keep_going k name text outcome (errors.Unacceptable _ _) h = h
IsItemFailure-from keep_going k name text outcome (errors.Twice _ _ _) h = h
IsItemFailure-from keep_going k name text outcome (errors.FileAndFolder _ _ _) h = h
IsItemFailure-from keep_going k name text outcome (errors.Renamed _) h = h
IsItemFailure-from keep_going k name text outcome (errors.Failed n t cause) h = (h.0, h.1, h.2, ap (λ o. Some (fate_of text o)) h.3)
