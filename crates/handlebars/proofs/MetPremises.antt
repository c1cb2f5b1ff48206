-- The premises of laws are met: by a registry after the registration of files, and by a reader without files.
use Rattle.std.proofs.Common.{◌≡◌, Result, Ok, Err, String, Global, sym, ◌∙◌}
use Rattle.std.specs.Global.{Vec}
use Rattle.std.specs.IoError.{error_kind}
use Rattle.std.specs.Prelude.{List, IsErrAnd}
use Rattle.std.specs.declared.io.Error.{Error}
use Rattle.std.specs.declared.io.ErrorKind.{ErrorKind}
use Rattle.handlebars.specs.Files.{HasLoaded, Loaded}
use Rattle.handlebars.specs.Folder.{Entry}
use Rattle.handlebars.specs.Over.{HoldsRead}
use Rattle.handlebars.specs.Readers.{IsSameList, IsSameRead}
use Rattle.handlebars.specs.declared.registry.RegistryOf.{RegistryOf}

pub holds-loaded : {E : Type 0} (dev plain : RegistryOf E) (read : List Loaded) → HasLoaded read dev plain
    → HoldsRead read dev plain
holds-loaded dev plain read h = record { entries = h.entries; modes = h.modes; trees = h.trees }

pub same_read : (kind : ErrorKind) (a b : Result (String Global) Error) → IsErrAnd a (λ e. error_kind e ≡ kind)
    → IsErrAnd b (λ e. error_kind e ≡ kind) → IsSameRead a b
same_read kind (Ok s) b h k = absurd h
same_read kind (Err d) (Ok s) h k = absurd k
same_read kind (Err d) (Err e) h k = h ∙ sym k

pub same_list : (kind : ErrorKind) (a b : Result (Vec Entry) Error) → IsErrAnd a (λ e. error_kind e ≡ kind)
    → IsErrAnd b (λ e. error_kind e ≡ kind) → IsSameList a b
same_list kind (Ok s) b h k = absurd h
same_list kind (Err d) (Ok s) h k = absurd k
same_list kind (Err d) (Err e) h k = h ∙ sym k
