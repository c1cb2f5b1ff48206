-- Which files of a folder are registered, and in which order.
use Rattle.std.specs.Global.{Global, Vec}
use Rattle.std.specs.IoError.{error_kind}
use Rattle.std.specs.List.{ends_with}
use Rattle.std.specs.List.Sorted.{IsPermutation, IsSortedBy, IsStableBy}
use Rattle.std.specs.Ordering.{is_lt}
use Rattle.std.specs.Prelude.{◌≡◌, ◌≢◌, ℕ, ◌+◌, ◌-◌, ◌==◌, Bool, true, false, not, ◌&&◌, ◌||◌, if◌then◌else◌, List, [], ◌∷◌, ◌++◌, length, take, codes, Result, Ok, Err, String, string_bytes}
use Rattle.std.specs.String.{string_cmp}
use Rattle.std.specs.declared.io.Error.{Error}
use Rattle.std.specs.declared.io.ErrorKind.TheVariants.{OutOfMemory}
use Rattle.handlebars_base.specs.Bytes.{Text}
use Rattle.handlebars_template.specs.Tree.{Tree}
use Rattle.handlebars_base.specs.declared.error.template_error.TemplateError.{TemplateError}
use Rattle.handlebars.specs.Files.{HasLoaded, Stop, no_memory, Loaded, LoadsFile, ReportsOutcome}
use Rattle.handlebars.specs.View.{modes_of}
use Rattle.handlebars.specs.declared.registry.RegistryOf.{RegistryOf}
use Rattle.handlebars.specs.declared.sources.EntryKind.{EntryKind}
use Rattle.handlebars.specs.declared.sources.EntryKind.TheVariants.{File, Folder}
use Rattle.handlebars.specs.declared.sources.options.DirectorySourceOptions.{DirectorySourceOptions}

-- ---- which files

-- the extension in which the path of a template ends, and whether hidden files are taken, and temporary ones
pub record FileFilter : Type 0 where
  pub extension : Text
  pub hidden : Bool
  pub temporary : Bool

abbrev pub filter_of : DirectorySourceOptions → FileFilter
filter_of o = record { extension = o.tpl_extension.now; hidden = o.hidden; temporary = o.temporary }

-- whether a text ends in another
abbrev pub has_end : Text → Text → Bool
has_end text end = ends_with (λ a b. a == b) text end

-- whether a text begins with this byte
abbrev pub has_first : ℕ → Text → Bool
has_first byte [] = false
has_first byte (b ∷ bs) = b == byte

-- A file is taken if its path ends in the extension and its own name doesn't begin with `.`, unless hidden files are taken,
-- nor with `#`, unless temporary files are taken.
abbrev pub is_taken : FileFilter → Text → Text → Bool
is_taken c path name =
    has_end path c.extension && (c.hidden || not (has_first 46 name)) && (c.temporary || not (has_first 35 name))

-- The name of a template is its path below the folder, without the extension.
abbrev pub name_in : FileFilter → Text → Text
name_in c below =
    if has_end below c.extension then take (length below - length c.extension) below else below

-- ---- entries of a folder

abbrev pub Entry : Type 0
Entry = String Global × EntryKind

abbrev pub comes_before : Entry → Entry → Bool
comes_before a b = is_lt (string_cmp a.0 b.0)

-- The entries are in byte order of name, equal ones as they were listed.
pub record IsInOrder (listed entries : List Entry) : Type 0 where
  pub same : IsPermutation listed entries
  pub rising : IsSortedBy comes_before entries
  pub stable : IsStableBy comes_before listed entries

-- A folder on the way: its path, the prefix of the names of its entries below the folder that is registered, and how many
-- levels of folders are walked below it.
pub record WalkedFolder : Type 0 where
  pub path : Text
  pub prefix : Text
  pub levels : ℕ

abbrev pub child_path : WalkedFolder → Text → Text
child_path p name = p.path ++ codes "/" ++ name

abbrev pub below_at : WalkedFolder → Text → Text
below_at p name = p.prefix ++ name

-- the folder of a name in a folder, with so many levels below it
abbrev pub folder_at : WalkedFolder → Text → ℕ → WalkedFolder
folder_at p name levels = record { path = child_path p name; prefix = below_at p name ++ codes "/"; levels = levels }

-- what is walked: a folder, entries of one, or an entry
pub data Walkable : Type 0 where
  a_folder : WalkedFolder → Walkable
  entries_of : WalkedFolder → List Entry → Walkable
  an_entry : WalkedFolder → Entry → Walkable

-- ---- the walk

module _ {S : Type 0} (reads : S → Text → Result (String Global) Error → S → Type 0)
    (lists : S → Text → Result (Vec Entry) Error → S → Type 0) (prevent_indent : Bool) (c : FileFilter) where
  -- The file of a name in a folder is read and compiled.
  abbrev pub LoadsAt : WalkedFolder → Text → S → Result Tree Stop → S → Type 0
  LoadsAt p name = LoadsFile reads prevent_indent (name_in c (below_at p name)) (child_path p name)

  abbrev pub loaded_at : WalkedFolder → Text → Tree → Loaded
  loaded_at p name t = record { name = name_in c (below_at p name); path = child_path p name; tree = t }

  -- From a state of the reader the walk registers these templates, in this order. It gives this end, and leaves the reader in
  -- this state.
  pub data Walks : Walkable → S → List Loaded → Result (Unit {0}) Stop → S → Type 0 where
    -- A folder is listed, and its entries are walked in order. One that can't be listed counts as empty.
    listed : {p : WalkedFolder} {es : Vec Entry} {xs : List Entry} {s t u : S} {ls : List Loaded} {o : Result (Unit {0}) Stop}
        → lists s p.path (Ok es) t → IsInOrder es.items xs → Walks (entries_of p xs) t ls o u
        → Walks (a_folder p) s ls o u
    unlisted : {p : WalkedFolder} {e : Error} {s t : S} → lists s p.path (Err e) t → error_kind e ≢ OutOfMemory
        → Walks (a_folder p) s [] (Ok tt) t
    listed_alloc_fails : {p : WalkedFolder} {answer : Result (Vec Entry) Error} {s t : S} → lists s p.path answer t
        → Walks (a_folder p) s [] (Err no_memory) t
    -- An entry is walked, and then the rest; if one fails, nothing follows.
    no_entry : {p : WalkedFolder} {s : S} → Walks (entries_of p []) s [] (Ok tt) s
    goes_on : {p : WalkedFolder} {x : Entry} {xs : List Entry} {s t u : S} {ls ms : List Loaded} {o : Result (Unit {0}) Stop}
        → Walks (an_entry p x) s ls (Ok tt) t → Walks (entries_of p xs) t ms o u
        → Walks (entries_of p (x ∷ xs)) s (ls ++ ms) o u
    ends : {p : WalkedFolder} {x : Entry} {xs : List Entry} {s t : S} {ls : List Loaded} {why : Stop}
        → Walks (an_entry p x) s ls (Err why) t → Walks (entries_of p (x ∷ xs)) s ls (Err why) t
    -- A file that is taken is registered, or fails.
    takes : {p : WalkedFolder} {name : String Global} {s t : S} {tree : Tree}
        → is_taken c (child_path p (string_bytes name)) (string_bytes name) ≡ true → LoadsAt p (string_bytes name) s (Ok tree) t
        → Walks (an_entry p (name, File)) s (loaded_at p (string_bytes name) tree ∷ []) (Ok tt) t
    fails : {p : WalkedFolder} {name : String Global} {s t : S} {why : Stop}
        → is_taken c (child_path p (string_bytes name)) (string_bytes name) ≡ true → LoadsAt p (string_bytes name) s (Err why) t
        → Walks (an_entry p (name, File)) s [] (Err why) t
    passes : {p : WalkedFolder} {name : String Global} {s : S}
        → is_taken c (child_path p (string_bytes name)) (string_bytes name) ≡ false
        → Walks (an_entry p (name, File)) s [] (Ok tt) s
    -- A folder is walked when its entry is met, unless it is too deep.
    enters : {p : WalkedFolder} {name : String Global} {levels : ℕ} {s t : S} {ls : List Loaded} {o : Result (Unit {0}) Stop}
        → p.levels ≡ levels + 1 → Walks (a_folder (folder_at p (string_bytes name) levels)) s ls o t
        → Walks (an_entry p (name, Folder)) s ls o t
    too_deep : {p : WalkedFolder} {name : String Global} {s : S} → p.levels ≡ 0 → Walks (an_entry p (name, Folder)) s [] (Ok tt) s
    -- Memory may run out on the way.
    alloc_fails : {k : Walkable} {s : S} → Walks k s [] (Err no_memory) s

-- the folder that is registered, with 64 levels below it
abbrev pub whole_folder : Text → WalkedFolder
whole_folder path = record { path = path; prefix = []; levels = 64 }

-- A walk of the task registers what is loaded on the way, as the result reports; all else is unchanged.
pub record Registers {S : Type 0} (reads : S → Text → Result (String Global) Error → S → Type 0)
    (lists : S → Text → Result (Vec Entry) Error → S → Type 0) (c : FileFilter) (k : Walkable) {E : Type 0} (old new : RegistryOf E)
    (before after : S) (answer : Result (Unit {0}) TemplateError) : Type 0 where
  pub loaded : List Loaded
  pub end : Result (Unit {0}) Stop
  pub walks : Walks reads lists (modes_of old).prevent_indent c k before loaded end after
  pub reports : ReportsOutcome (λ u. u) answer end
  pub has : HasLoaded loaded old new
