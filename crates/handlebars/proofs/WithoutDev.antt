-- Without dev mode no file is read.
use Rattle.std.proofs.Common.{◌≡◌, Bool, true, false, cond, List, [], ◌∷◌, ◌++◌, Option, None, Some, Result, String, Global, refl, ap, ◌∙◌}
use Rattle.std.specs.BTreeMap.{BTreeMap}
use Rattle.std.specs.Prelude.{is_some}
use Rattle.std.specs.declared.io.Error.{Error}
use Rattle.handlebars_base.specs.Bytes.{Text}
use Rattle.handlebars.specs.Dev.{ReadsFiles, ReadsFor, no_file, loads, fails, alloc_fails, asked_file, file_at, files_for, is_known, others}
use Rattle.handlebars.specs.Files.{Loaded, Stop, files_in, files_of, is_dev, source_path, remembered_path}
use Rattle.handlebars.specs.Over.{HoldsRead}
use Rattle.handlebars.specs.declared.registry.RegistryOf.{RegistryOf}

files_in-off : (paths : Option (BTreeMap (String Global) (String Global))) → is_some paths ≡ false → files_in paths ≡ []
files_in-off None off = refl
files_in-off (Some m) off = cc

source_path-off : (paths : Option (BTreeMap (String Global) (String Global))) (name : Text) → is_some paths ≡ false
    → source_path paths name ≡ None
source_path-off None name off = refl
source_path-off (Some m) name off = cc

asked_file-none : (asked : Option Text) (paths : Text → Option Text) → ((name : Text) → paths name ≡ None)
    → asked_file asked paths ≡ []
asked_file-none None paths none = refl
asked_file-none (Some name) paths none = ap (file_at name) (none name)

nothing-either : (b : Bool) (fs : List (Text × Text)) → fs ≡ [] → cond b fs [] ≡ []
nothing-either true fs none = none
nothing-either false fs none = refl

some≢none : {V : Type 0} {v : V} {vs : List V} → v ∷ vs ≡ [] → ⊥
some≢none e = cc

module _ {E : Type 0} (r : RegistryOf E) (asked : Option Text) (off : is_dev r ≡ false) where
  no-files : files_for r asked ≡ []
  no-files = nothing-either (is_known r asked) (asked_file asked (remembered_path r) ++ others asked (files_of r))
      (ap (λ fs. fs ++ others asked (files_of r)) (asked_file-none asked (remembered_path r) (λ name. source_path-off r.dev.paths name off))
      ∙ ap (others asked) (files_in-off r.dev.paths off))

  module _ {S : Type 0} (reads : S → Text → Result (String Global) Error → S → Type 0) where
    read-of-nothing : {fs : List (Text × Text)} {s t : S} {ls : List Loaded} {o : Result (Unit {0}) Stop} → fs ≡ []
        → ReadsFiles reads r.prevent_indent fs s ls o t → (ls ≡ []) × (t ≡ s)
    read-of-nothing none no_file = (refl, refl)
    read-of-nothing none (loads l w) = absurd (some≢none none)
    read-of-nothing none (fails l) = absurd (some≢none none)
    read-of-nothing none alloc_fails = (refl, refl)

    pub nothing-read : (before after : S) (read : List Loaded) (o : Result (Unit {0}) Stop)
        → ReadsFor reads r asked before after read o → (read ≡ []) × (after ≡ before)
    nothing-read before after read o w = read-of-nothing no-files w

-- the trees of a registry without dev mode are its stored trees
pub holds-own : {E : Type 0} (r : RegistryOf E) → HoldsRead [] r r
holds-own r = record { entries = refl; modes = refl; trees = λ name. refl }
