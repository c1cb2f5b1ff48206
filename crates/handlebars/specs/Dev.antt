-- Dev mode: the files that a rendering reads, and what it returns with their trees.
use Rattle.std.specs.BTreeMap.{BTreeMap}
use Rattle.std.specs.Global.{Global}
use Rattle.std.specs.List.{filter}
use Rattle.std.specs.Prelude.{◌≡◌, Bool, true, false, not, ◌||◌, if◌then◌else◌, is_some, List, [], ◌∷◌, ◌++◌, Option, None, Some, Result, Ok, Err, String}
use Rattle.std.specs.Str.{bytes_eq}
use Rattle.std.specs.declared.io.Error.{Error}
use Rattle.handlebars_base.specs.Bytes.{Text}
use Rattle.handlebars_base.specs.Reasons.{Refusal, TemplateRefusal, of_template}
use Rattle.handlebars_base.specs.RenderRefusals.{plain_refusal, refusal_of}
use Rattle.handlebars_base.specs.declared.error.render_error.RenderError.{RenderError}
use Rattle.handlebars_base.specs.declared.error.template_error.TemplateError.{TemplateError}
use Rattle.handlebars_lexer.specs.Options.{Options}
use Rattle.handlebars_template.specs.Compile.{Compiles, compiled, rejected}
use Rattle.handlebars_template.specs.Tree.{Tree}
use Rattle.handlebars_template.specs.declared.template.tree.Template.{Template}
use Rattle.handlebars.specs.Files.{IsStopFor, Stop, ReportsStop, no_memory, Loaded, LoadsFile, files_of, overlaid_on, remembered_path, tree_among, tree_in}
use Rattle.handlebars.specs.View.{stored_tree}
use Rattle.handlebars.specs.declared.registry.RegistryOf.{RegistryOf}

-- ---- which files

-- whether it is the name that is asked for, if one is
abbrev pub is_asked : Option Text → Text → Bool
is_asked None name = false
is_asked (Some asked) name = bytes_eq asked name

abbrev pub file_at : Text → Option Text → List (Text × Text)
file_at name None = []
file_at name (Some path) = (name, path) ∷ []

-- the file of the name that is asked for, if there is one
abbrev pub asked_file : Option Text → (Text → Option Text) → List (Text × Text)
asked_file None paths = []
asked_file (Some name) paths = file_at name (paths name)

-- the files of all other names
abbrev pub others : Option Text → List (Text × Text) → List (Text × Text)
others asked fs = filter (λ f. not (is_asked asked f.0)) fs

module _ {E : Type 0} (r : RegistryOf E) where
  -- whether a template is registered or a file is remembered under the name that is asked for, if one is
  abbrev pub is_known : Option Text → Bool
  is_known None = true
  is_known (Some name) = is_some (stored_tree r name) || is_some (remembered_path r name)

  -- The files that a rendering reads: first that of the name that is asked for, then all others in byte order of name. If
  -- nothing is registered under that name, no file is read.
  abbrev pub files_for : Option Text → List (Text × Text)
  files_for asked =
      if is_known asked
      then asked_file asked (remembered_path r) ++ others asked (files_of r)
      else []

-- ---- reading them

-- Under each name a map has the tree that was read for it, if one was.
abbrev pub HoldsTrees : List Loaded → BTreeMap (String Global) Template → Type 0
HoldsTrees read trees = (name : Text) → tree_in trees name ≡ tree_among read name

module _ {S : Type 0} (reads : S → Text → Result (String Global) Error → S → Type 0) (prevent_indent : Bool) where
  abbrev pub loaded_from : Text × Text → Tree → Loaded
  loaded_from f t = record { name = f.0; path = f.1; tree = t }

  -- From a state of the reader the files are read and compiled in order, up to the first that fails. This gives these trees
  -- and this end, and leaves the reader in this state. Memory may run out on the way.
  pub data ReadsFiles : List (Text × Text) → S → List Loaded → Result (Unit {0}) Stop → S → Type 0 where
    no_file : {s : S} → ReadsFiles [] s [] (Ok tt) s
    loads : {f : Text × Text} {fs : List (Text × Text)} {s t u : S} {tree : Tree} {ls : List Loaded} {o : Result (Unit {0}) Stop}
        → LoadsFile reads prevent_indent f.0 f.1 s (Ok tree) t → ReadsFiles fs t ls o u
        → ReadsFiles (f ∷ fs) s (loaded_from f tree ∷ ls) o u
    fails : {f : Text × Text} {fs : List (Text × Text)} {s t : S} {why : Stop}
        → LoadsFile reads prevent_indent f.0 f.1 s (Err why) t → ReadsFiles (f ∷ fs) s [] (Err why) t
    alloc_fails : {fs : List (Text × Text)} {s : S} → ReadsFiles fs s [] (Err no_memory) s

  -- The files are read and compiled in order, and their trees are put into a map.
  pub record ReadsInto (fs : List (Text × Text)) (before after : S) (old new : BTreeMap (String Global) Template) : Type 0 where
    pub read : List Loaded
    pub reads_all : ReadsFiles fs before read (Ok tt) after
    pub holds : (ls : List Loaded) → HoldsTrees ls old → HoldsTrees (ls ++ read) new

  -- The files are read and compiled in order, up to the first that fails, as the error reports.
  pub record StopsReading {X : Type 0} (Reports : X → Stop → Type 0) (fs : List (Text × Text)) (before after : S) (e : X)
      : Type 0 where
    pub read : List Loaded
    pub why : Stop
    pub reads_up_to : ReadsFiles fs before read (Err why) after
    pub stop : Reports e why

  -- The error is one of a template, or one of a rendering.
  abbrev pub FailsReading : List (Text × Text) → S → S → TemplateError → Type 0
  FailsReading = StopsReading (λ e why. IsStopFor e why)

  abbrev pub FailsRendering : List (Text × Text) → S → S → RenderError → Type 0
  FailsRendering = StopsReading (λ e why. ReportsStop why e)

-- ---- what is returned

module _ {E : Type 0} where
  -- trees that were read, overlaid on those that are stored
  abbrev pub stored_under : List Loaded → RegistryOf E → Text → Option Tree
  stored_under read r = overlaid_on (tree_among read) (stored_tree r)

module _ {S : Type 0} (reads : S → Text → Result (String Global) Error → S → Type 0) {E : Type 0} (r : RegistryOf E)
    (asked : Option Text) (before after : S) where
  -- the files of a rendering are read so
  abbrev pub ReadsFor : List Loaded → Result (Unit {0}) Stop → Type 0
  ReadsFor read o = ReadsFiles reads r.prevent_indent (files_for r asked) before read o after

  -- Whatever the call returns, the files were asked for in order: all of them, or those up to one that failed.
  pub record AsksFor : Type 0 where
    pub read : List Loaded
    pub end : Result (Unit {0}) Stop
    pub reads_up_to : ReadsFor read end

  -- All files are read and compiled, and this holds of their trees.
  pub record HasRead (Holds : List Loaded → Type 0) : Type 0 where
    pub read : List Loaded
    pub reads_all : ReadsFor read (Ok tt)
    pub holds : Holds read

  -- The error reports a file that failed, or it is an error of the rendering after all files were read, with their trees.
  pub data FailsWithFiles (Fails : List Loaded → Refusal → Type 0) : RenderError → Type 0 where
    at_a_file : {read : List Loaded} {why : Stop} {e : RenderError} → ReadsFor read (Err why) → ReportsStop why e
        → FailsWithFiles Fails e
    after_all : {read : List Loaded} {e : RenderError} → ReadsFor read (Ok tt) → Fails read (refusal_of e)
        → FailsWithFiles Fails e

-- ---- renderings of a source

module _ {S : Type 0} (reads : S → Text → Result (String Global) Error → S → Type 0) {E : Type 0} (r : RegistryOf E)
    (options : Options) (source : Text) (before after : S) (Fails : List Loaded → Refusal → Type 0) where
  -- If the source doesn't compile, the error is that of the source, and no file is asked for. Otherwise the error reports a
  -- file that failed, or it is an error of the rendering after all files were read, with their trees.
  pub data FailsWithSource : RenderError → Type 0 where
    not_compiled : {f : TemplateRefusal} {e : RenderError} → Compiles source options (rejected f) → after ≡ before
        → refusal_of e ≡ plain_refusal (of_template f) → FailsWithSource e
    is_compiled : {t : Tree} {e : RenderError} → Compiles source options (compiled t)
        → FailsWithFiles reads r None before after Fails e → FailsWithSource e
