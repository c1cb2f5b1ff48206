-- A file that couldn't be written.
use Rattle.std.proofs.Common.{◌≡◌, ◌∙◌, Bool, false, [], ◌∷◌, Some, refl, sym, inl, inr}
use Rattle.hb_build.specs.Name.{Name, IsFolderOf}
use Rattle.hb_build.specs.Entries.{Entries, AreSame, MakesFolders}
use Rattle.hb_build.specs.Items.{failed, WasFound, IsStored, IsWritten}
use Rattle.hb_build.specs.Passes.{Changes, HasNoFolder, IsPreserved, IsPlaced, IsWayCause}
use Rattle.hb_build.specs.declared.files.Store as stores
use Rattle.hb_build.specs.declared.outcome.Cause.{Cause}
use Rattle.hb_build.specs.declared.outcome.Cause.TheVariants as causes
use Rattle.hb_build.proofs.Making.{Changes-trans}
use Rattle.hb_build.proofs.Ways.{HasNoFolder-before}

IsWritten-folders : (name : Name) (cause : Cause) (a b c : Entries) → AreSame a b → MakesFolders (λ q. IsFolderOf q name) b c
    → IsWritten (record { name = name; fate = Some (failed cause) } ∷ []) a c
IsWritten-folders name cause a b c same m = record {
  held = (tt, tt);
  others = λ path _. elim (m path) [
    | inl h ↦ inl (h ∙ same path)
    | inr h ↦ inr (record { free = sym (same path) ∙ h.0; made = h.1; of_item = inl (refl, h.2) })
  ];
}

module _ {S : Type 0} (s : stores.Ghosts S) (name : Name) (a b c : S) (kept : IsPreserved s a b)
    (part : Changes s (MakesFolders (λ q. IsFolderOf q name)) b c) where
  found_before : (cause : Cause) → IsWayCause s ⊥ (HasNoFolder s b c name) cause → s.reliable c → WasFound (s.entries a) name (failed cause)
  found_before (causes.Text _) h r = absurd h
  found_before causes.NotAFile h r = absurd h
  found_before causes.NotAFolder h r = HasNoFolder-before s a b c kept part.was_reliable name h r
  found_before (causes.Store _) h r = tt

  pub IsPlaced-failed : (dry_run : Bool) (cause : Cause) → dry_run ≡ false → IsWayCause s ⊥ (HasNoFolder s b c name) cause
      → IsPlaced s dry_run name (failed cause) a c
  IsPlaced-failed dry_run cause run h = record {
    found = found_before cause h;
    stored = rw run (Changes-trans s AreSame (MakesFolders (λ q. IsFolderOf q name)) (IsStored false (record { name = name; fate = Some (failed cause) } ∷ []))
        a b c (λ x y z. IsWritten-folders name cause x y z) kept part);
  }
