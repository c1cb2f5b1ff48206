-- What stands at the paths of a store.
use Rattle.std.specs.Prelude.{◌≡◌, ◌≢◌, ◌⊎◌, ℕ, Bool, true, false, List}
use Rattle.hb_build.specs.Name.{Name, IsFolderOf}
use Rattle.hb_build.specs.declared.files.Standing.{Standing}
use Rattle.hb_build.specs.declared.files.Standing.TheVariants.{Nothing, File, Folder, Other}

-- the text of a file: bytes of UTF-8
abbrev pub Text : Type 0
Text = List ℕ

-- What stands at a path: nothing, a file with its text, a folder, or something else, as a link.
pub data Entry : Type 0 where
  nothing : Entry
  file : Text → Entry
  folder : Entry
  other : Entry

-- a store: what stands at each path
abbrev pub Entries : Type 0
Entries = Name → Entry

-- what a look answers for an entry
abbrev pub standing : Entry → Standing
standing nothing = Nothing
standing (file _) = File
standing folder = Folder
standing other = Other

-- both have the same at each path
abbrev pub AreSame : Entries → Entries → Type 0
AreSame before after = (path : Name) → after path ≡ before path

-- the entry stands at the path now, and everything else is as before
pub record Puts (path : Name) (entry : Entry) (before after : Entries) : Type 0 where
  pub put : after path ≡ entry
  pub others : (q : Name) → q ≢ path → after q ≡ before q

-- each folder of the path is there
abbrev pub HasFolders : Entries → Name → Type 0
HasFolders entries path = (f : Name) → IsFolderOf f path → entries f ≡ folder

-- A file may stand at the path: nothing or a file stands there now.
abbrev pub IsFileOrFree : Entry → Type 0
IsFileOrFree entry = (entry ≡ nothing) ⊎ ((text : Text) × (entry ≡ file text))

-- A folder may stand at the path: nothing or a folder stands there now.
abbrev pub IsFolderOrFree : Entry → Type 0
IsFolderOrFree entry = (entry ≡ nothing) ⊎ (entry ≡ folder)

-- a file may be written at the path, with the folders of its name
pub record IsClear (entries : Entries) (path : Name) : Type 0 where
  pub at_path : IsFileOrFree (entries path)
  pub at_folders : (f : Name) → IsFolderOf f path → IsFolderOrFree (entries f)

-- some of these folders are made where nothing stood, and nothing else is changed
abbrev pub MakesFolders : (Name → Type 0) → Entries → Entries → Type 0
MakesFolders these before after =
    (q : Name) → (after q ≡ before q) ⊎ ((before q ≡ nothing) × (after q ≡ folder) × these q)

-- the file has the text now, folders of its name are made where nothing stood, and nothing else is changed
pub record Writes (name : Name) (text : Text) (before after : Entries) : Type 0 where
  pub put : after name ≡ file text
  pub others : (q : Name) → q ≢ name → (after q ≡ before q) ⊎ ((before q ≡ nothing) × (after q ≡ folder) × IsFolderOf q name)

-- in a dry run nothing is changed
abbrev pub WritesUnless : Bool → Name → Text → Entries → Entries → Type 0
WritesUnless true name text before after = AreSame before after
WritesUnless false name text before after = Writes name text before after
