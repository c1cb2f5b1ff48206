-- What is read if no file exists.
use Rattle.std.proofs.Common.{◌≡◌, Bool, List, [], Option, Result, Ok, String, Global, refl, subst}
use Rattle.std.specs.declared.io.Error.{Error}
use Rattle.handlebars_base.specs.Bytes.{Text}
use Rattle.handlebars_template.specs.Tree.{Tree}
use Rattle.handlebars.specs.Dev.{HasRead, ReadsFiles, no_file, loads, fails, alloc_fails}
use Rattle.handlebars.specs.Files.{Loaded, LoadsFile, Stop, compiles, does_not, unreadable, alloc_fails as load_alloc_fails}
use Rattle.handlebars.specs.declared.registry.RegistryOf.{RegistryOf}

module _ {S : Type 0} (reads : S → Text → Result (String Global) Error → S → Type 0)
    (never : (s t : S) (path : Text) (text : String Global) → reads s path (Ok text) t → ⊥) where
  loads-nothing : {prevents : Bool} {name path : Text} {s t : S} {o : Result Tree Stop} (made : Tree) → o ≡ Ok made
      → LoadsFile reads prevents name path s o t → ⊥
  loads-nothing made same (compiles r c) = never _ _ _ _ r
  loads-nothing made same (does_not r c) = cc
  loads-nothing made same (unreadable r n) = cc
  loads-nothing made same (load_alloc_fails r) = cc

  pub reads-nothing : {prevents : Bool} {fs : List (Text × Text)} {s t : S} {ls : List Loaded} {o : Result (Unit {0}) Stop}
      → o ≡ Ok tt → ReadsFiles reads prevents fs s ls o t → ls ≡ []
  reads-nothing same no_file = refl
  reads-nothing same (loads l w) = absurd (loads-nothing _ refl l)
  reads-nothing same (fails l) = refl
  reads-nothing same alloc_fails = refl

  -- if all files were read, there were none
  pub without-files : {E : Type 0} {r : RegistryOf E} {asked : Option Text} {s t : S} (Holds : List Loaded → Type 0)
      → HasRead reads r asked s t Holds → Holds []
  without-files Holds x = subst Holds (reads-nothing refl x.reads_all) x.holds
