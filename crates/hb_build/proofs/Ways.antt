-- What is in the way.
use Rattle.std.proofs.Common.{◌≡◌, ◌∙◌, sym, subst, inl, inr, Bool, true, false, MatchBool, List, string_bytes}
use Rattle.hb_build.specs.Name.{Name}
use Rattle.hb_build.specs.Entries.{Entries, Entry, Text, file, nothing, AreSame, IsClear, IsFileOrFree, IsFolderOrFree}
use Rattle.hb_build.specs.Passes.{IsPreserved, IsWayCause, IsNotAFile, HasNoFolder, IsInTheWay, IsWayError}
use Rattle.hb_build.specs.declared.files.Store as stores
use Rattle.hb_build.specs.declared.options.Shard.{Shard}
use Rattle.hb_build.specs.declared.outcome.Cause.{Cause}
use Rattle.hb_build.specs.declared.outcome.Cause.TheVariants as causes
use Rattle.hb_build.specs.declared.error.BuildError.{BuildError}
use Rattle.hb_build.specs.declared.error.BuildError.TheVariants as errors

pub IsWayCause-weaker : {S : Type 0} (s : stores.Ghosts S) {A B A' B' : Type 0} (c : Cause) → (A → A') → (B → B') → IsWayCause s A B c → IsWayCause s A' B' c
IsWayCause-weaker s (causes.Text _) f g h = absurd h
IsWayCause-weaker s causes.NotAFile f g h = f h
IsWayCause-weaker s causes.NotAFolder f g h = g h
IsWayCause-weaker s (causes.Store _) f g h = h

pub IsFileOrFree-from : (there : Bool) (now before : Entry) → now ≡ before → MatchBool there ((text : Text) × (now ≡ file text)) (now ≡ nothing) → IsFileOrFree before
IsFileOrFree-from true now before e h = inr (h.0, sym e ∙ h.1)
IsFileOrFree-from false now before e h = inl (sym e ∙ h)

pub IsClear-before : (before now : Entries) (name : Name) → AreSame before now → IsClear now name → IsClear before name
IsClear-before before now name same h = record {
  at_path = subst IsFileOrFree (same name) h.at_path;
  at_folders = λ f is_folder. subst IsFolderOrFree (same f) (h.at_folders f is_folder);
}

module _ {S : Type 0} (s : stores.Ghosts S) (a b c : S) (k : IsPreserved s a b) (was : s.reliable c → s.reliable b) where
  pub IsNotAFile-before : (name : Name) → IsNotAFile s b c name → IsNotAFile s a c name
  IsNotAFile-before name h r free = h r (subst IsFileOrFree (sym (k.change (was r) name)) free)

  pub HasNoFolder-before : (name : Name) → HasNoFolder s b c name → HasNoFolder s a c name
  HasNoFolder-before name h r = let x = h r in (x.0, x.1, λ free. x.2 (subst IsFolderOrFree (sym (k.change (was r) x.0)) free))

  pub IsInTheWay-before : (name : Name) (cause : Cause) → IsInTheWay s b c name cause → IsInTheWay s a c name cause
  IsInTheWay-before name cause = IsWayCause-weaker s cause (IsNotAFile-before name) (HasNoFolder-before name)

  pub IsWayError-before : (shard : Shard) (names : List Name) (e : BuildError) → IsWayError s shard b c names e → IsWayError s shard a c names e
  IsWayError-before shard names errors.OutOfMemory h = tt
  IsWayError-before shard names (errors.Items _ _) h = absurd h
  IsWayError-before shard names (errors.Name _ _) h = absurd h
  IsWayError-before shard names (errors.Unacceptable _ _) h = absurd h
  IsWayError-before shard names (errors.Twice _ _ _) h = absurd h
  IsWayError-before shard names (errors.FileAndFolder _ _ _) h = absurd h
  IsWayError-before shard names (errors.Renamed _) h = absurd h
  IsWayError-before shard names (errors.Failed item name cause) h = (h.0, h.1, IsInTheWay-before (string_bytes name) cause h.2)
