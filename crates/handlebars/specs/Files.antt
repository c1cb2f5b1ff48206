-- Files of templates: the outcome of reading and compiling one, and what a registry has of them.
use Rattle.std.specs.BTreeMap.{BTreeMap, get_by_text}
use Rattle.std.specs.Cmp.Lexicographic.{slice_cmp}
use Rattle.std.specs.Global.{Global}
use Rattle.std.specs.IoError.{error_kind}
use Rattle.std.specs.List.Sorted.{IsStrictlySortedBy}
use Rattle.std.specs.Map.{keys_of, lookup}
use Rattle.std.specs.Ordering.{nat_cmp}
use Rattle.std.specs.Prelude.{◌≡◌, ◌≢◌, Bool, cond, List, [], ◌∷◌, map, Option, None, Some, option_map, is_some, Result, Ok, Err, String, string_bytes}
use Rattle.std.specs.Str.{bytes_eq}
use Rattle.std.specs.declared.io.Error.{Error}
use Rattle.std.specs.declared.io.ErrorKind.{ErrorKind}
use Rattle.std.specs.declared.io.ErrorKind.TheVariants.{OutOfMemory}
use Rattle.handlebars_base.specs.Bytes.{Text}
use Rattle.handlebars_base.specs.Reasons.{TemplateRefusal, of_template, out_of_memory, template_io_error, template_out_of_memory}
use Rattle.handlebars_base.specs.RenderRefusals.{cause_of, plain_refusal, reason_in, refusal_of}
use Rattle.handlebars_base.specs.TemplateRefusals.{template_cause_of, template_refusal_of}
use Rattle.handlebars_base.specs.declared.error.render_error.RenderError.{RenderError}
use Rattle.handlebars_base.specs.declared.error.render_error.RenderErrorReason.TheVariants as reasons
use Rattle.handlebars_base.specs.declared.error.template_error.TemplateError.{TemplateError}
use Rattle.handlebars_base.specs.declared.error.template_error.TemplateErrorReason.TheVariants.{IoError}
use Rattle.std.specs.Option.{option_or}
use Rattle.handlebars_template.specs.Compile.{Compiles, compiled, rejected}
use Rattle.handlebars_template.specs.Tree.{Tree}
use Rattle.handlebars_template.specs.TreeView.{tree_view}
use Rattle.handlebars_template.specs.declared.template.tree.Template.{Template}
use Rattle.handlebars.specs.View.{modes_of, registered_options, stored_tree}
use Rattle.handlebars.specs.declared.registry.RegistryOf.{RegistryOf}

-- ---- reading and compiling one

-- Why there is no tree: the source is rejected for a reason, the file of the template of this name can't be read, with an
-- error of this kind, or memory ran out.
pub data Stop : Type 0 where
  refusal : TemplateRefusal → Stop
  not_read : Text → ErrorKind → Stop
  no_memory : Stop

-- a file can't be read: the reason has the name of its template
abbrev pub unreadable_file : Text → TemplateRefusal
unreadable_file name = record { reason = template_io_error name; name = None; position = None }

-- The error holds an error of the system, of this kind.
abbrev pub HoldsKind : ErrorKind → TemplateError → Type 0
HoldsKind kind e = (cause : Error) × (name : String Global) × (template_cause_of e ≡ IoError cause name) × (error_kind cause ≡ kind)

abbrev pub IsStopFor : TemplateError → Stop → Type 0
IsStopFor e (refusal r) = template_refusal_of e ≡ r
IsStopFor e (not_read name kind) = (template_refusal_of e ≡ unreadable_file name) × HoldsKind kind e
IsStopFor e no_memory = (template_refusal_of e).reason ≡ template_out_of_memory

-- A result reports an outcome: the same value, or why there is none.
abbrev pub ReportsOutcome : {X Y : Type 0} → (X → Y) → Result X TemplateError → Result Y Stop → Type 0
ReportsOutcome view (Ok x) (Ok y) = view x ≡ y
ReportsOutcome view (Ok x) (Err s) = ⊥
ReportsOutcome view (Err e) (Ok y) = ⊥
ReportsOutcome view (Err e) (Err s) = IsStopFor e s

-- The error of a rendering wraps an error of a template, which holds an error of the system, of this kind.
abbrev pub WrapsKind : ErrorKind → RenderError → Type 0
WrapsKind kind e = (cause : TemplateError) × (cause_of e ≡ reasons.TemplateError cause) × HoldsKind kind cause

-- The error of a rendering reports a stop, with no location.
abbrev pub ReportsStop : Stop → RenderError → Type 0
ReportsStop (refusal r) e = refusal_of e ≡ plain_refusal (of_template r)
ReportsStop (not_read name kind) e = (refusal_of e ≡ plain_refusal (of_template (unreadable_file name))) × WrapsKind kind e
ReportsStop no_memory e = reason_in e ≡ out_of_memory

module _ {S : Type 0} (reads : S → Text → Result (String Global) Error → S → Type 0) (prevent_indent : Bool) where
  -- The file at a path is read for the template of a name, and its text is compiled. Memory may run out on the way; if the
  -- reader runs out of memory, so does the load.
  pub data LoadsFile (name path : Text) (before : S) : Result Tree Stop → S → Type 0 where
    compiles : {text : String Global} {t : Tree} {after : S} → reads before path (Ok text) after
        → Compiles (string_bytes text) (registered_options prevent_indent name) (compiled t) → LoadsFile name path before (Ok t) after
    does_not : {text : String Global} {r : TemplateRefusal} {after : S} → reads before path (Ok text) after
        → Compiles (string_bytes text) (registered_options prevent_indent name) (rejected r)
        → LoadsFile name path before (Err (refusal r)) after
    unreadable : {e : Error} {after : S} → reads before path (Err e) after → error_kind e ≢ OutOfMemory
        → LoadsFile name path before (Err (not_read name (error_kind e))) after
    alloc_fails : {answer : Result (String Global) Error} {after : S} → reads before path answer after
        → LoadsFile name path before (Err no_memory) after

-- ---- trees of files

-- a template of a file: its name, the path of the file, and its tree
pub record Loaded : Type 0 where
  pub name : Text
  pub path : Text
  pub tree : Tree

-- of what was put under names in this order, what is registered under a name: what was put there last
abbrev pub last_under : {X : Type 0} → (Loaded → X) → List Loaded → Text → Option X
last_under of [] name = None
last_under of (l ∷ ls) name = option_or (last_under of ls name) (cond (bytes_eq l.name name) (Some (of l)) None)

abbrev pub tree_among : List Loaded → Text → Option Tree
tree_among = last_under (λ l. l.tree)

abbrev pub path_among : List Loaded → Text → Option Text
path_among = last_under (λ l. l.path)

-- one map overlaid on another
abbrev pub overlaid_on : {X : Type 0} → (Text → Option X) → (Text → Option X) → Text → Option X
overlaid_on above below name = option_or (above name) (below name)

-- the tree under a name of a map
abbrev pub tree_in : BTreeMap (String Global) Template → Text → Option Tree
tree_in trees name = option_map tree_view (get_by_text trees name)

-- ---- what is remembered

-- the path under a name, if there are paths and one is registered under it
abbrev pub source_path : Option (BTreeMap (String Global) (String Global)) → Text → Option Text
source_path None name = None
source_path (Some paths) name = option_map string_bytes (get_by_text paths name)

abbrev pub file_of : String Global × String Global → Text × Text
file_of f = (string_bytes f.0, string_bytes f.1)

-- all names with a path each, in byte order of name
abbrev pub files_in : Option (BTreeMap (String Global) (String Global)) → List (Text × Text)
files_in None = []
files_in (Some paths) = map file_of paths.entries

-- The names of files are in byte order, each of them once.
abbrev pub IsByName : List (Text × Text) → Type 0
IsByName fs = IsStrictlySortedBy (slice_cmp nat_cmp) (keys_of fs)

-- the path under a name of files, if there is one
abbrev pub path_under : List (Text × Text) → Text → Option Text
path_under fs name = lookup (bytes_eq name) fs

-- In dev mode this path, or none, replaces the one under the name.
abbrev pub path_put : Bool → Text → Option Text → (Text → Option Text) → Text → Option Text
path_put dev name path old other = cond dev (cond (bytes_eq name other) path (old other)) (old other)

module _ {E : Type 0} where
  -- whether dev mode is on
  abbrev pub is_dev : RegistryOf E → Bool
  is_dev r = is_some r.dev.paths

  -- the path of the file under a name, if one is remembered
  abbrev pub remembered_path : RegistryOf E → Text → Option Text
  remembered_path r = source_path r.dev.paths

  -- the files that are remembered, in byte order of the names of their templates
  abbrev pub files_of : RegistryOf E → List (Text × Text)
  files_of r = files_in r.dev.paths

  -- These were registered, in this order; all else is unchanged.
  pub record HasLoaded (loaded : List Loaded) (old new : RegistryOf E) : Type 0 where
    pub trees : (name : Text) → stored_tree new name ≡ overlaid_on (tree_among loaded) (stored_tree old) name
    pub files : (name : Text) → remembered_path new name
        ≡ cond (is_dev old) (overlaid_on (path_among loaded) (remembered_path old) name) (remembered_path old name)
    pub entries : new.entries ≡ old.entries
    pub modes : modes_of new ≡ modes_of old
    pub dev : is_dev new ≡ is_dev old
