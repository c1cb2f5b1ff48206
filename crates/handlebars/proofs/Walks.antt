-- What a walk of a folder registers.
use Rattle.std.proofs.Common.{◌≡◌, ◌≢◌, ◌+◌, ◌<◌, ◌≤◌, ℕ, zero, suc, arith, add-one, drop, drop-cons, get_or, length, Bool, true, false, List, [], ◌∷◌, ◌++◌, Result, Ok, Err, String, Global, refl, sym, ap, ◌∙◌, subst, append-nil, append_assoc}
use Rattle.std.proofs.Math.ListN.{drop_of_length-le}
use Rattle.std.specs.Global.{Vec}
use Rattle.std.specs.IoError.{error_kind}
use Rattle.std.specs.Prelude.{IfErr, OnErr, OnOk, codes, string_bytes}
use Rattle.std.specs.declared.io.Error.{Error}
use Rattle.std.specs.declared.io.ErrorKind.TheVariants.{OutOfMemory}
use Rattle.handlebars_base.specs.Bytes.{Text}
use Rattle.handlebars_base.specs.Reasons.{template_out_of_memory}
use Rattle.handlebars_base.specs.TemplateRefusals.{template_refusal_of}
use Rattle.handlebars_base.specs.declared.error.template_error.TemplateError.{TemplateError}
use Rattle.handlebars_template.specs.Tree.{Tree}
use Rattle.handlebars.specs.Files.{HasLoaded, IsStopFor, Loaded, LoadsFile, Stop, no_memory, ReportsOutcome}
use Rattle.handlebars.specs.Folder.{FileFilter, Entry, IsInOrder, WalkedFolder, Registers, Walkable, a_folder, an_entry, entries_of, Walks, listed, unlisted, listed_alloc_fails, no_entry, goes_on, ends, takes, fails, passes, enters, too_deep, alloc_fails, below_at, is_taken, name_in, child_path}
use Rattle.handlebars.specs.View.{modes_of}
use Rattle.handlebars.specs.declared.registry.RegistryOf.{RegistryOf}
use Rattle.handlebars.specs.declared.sources.EntryKind.{EntryKind}
use Rattle.handlebars.specs.declared.sources.EntryKind.TheVariants.{File, Folder}
use Rattle.handlebars.proofs.Loaded.{loaded-none, loaded-then}

-- The outcome of the rest of a folder's entries, after these, is the outcome of all.
abbrev pub ExtendsWalk : {S : Type 0} → (S → Text → Result (String Global) Error → S → Type 0)
    → (S → Text → Result (Vec Entry) Error → S → Type 0) → Bool → FileFilter → List Loaded → WalkedFolder → List Entry → List Entry → S → S → Type 0
ExtendsWalk {S} reads lists prevents c loaded p xs rest s t = (ls : List Loaded) (o : Result (Unit {0}) Stop) (u : S)
    → Walks reads lists prevents c (entries_of p rest) t ls o u → Walks reads lists prevents c (entries_of p xs) s (loaded ++ ls) o u

module _ {S : Type 0} (reads : S → Text → Result (String Global) Error → S → Type 0)
    (lists : S → Text → Result (Vec Entry) Error → S → Type 0) (c : FileFilter) {E : Type 0} where
  pub registers-alloc_fails : (k : Walkable) (r : RegistryOf E) (s : S) (e : TemplateError)
      → (template_refusal_of e).reason ≡ template_out_of_memory → Registers reads lists c k r r s s (Err e)
  registers-alloc_fails k r s e m = record { loaded = []; end = Err no_memory; walks = alloc_fails; reports = m; has = loaded-none r }

  -- ---- files

  FileClaim : (p : WalkedFolder) (name : String Global) (old new : RegistryOf E) (s t : S) (answer : Result (Unit {0}) TemplateError)
      (path below : Text) → Type 0
  FileClaim p name old new s t answer path below =
      is_taken c path (string_bytes name) ≡ true
      → OnOk answer ((tree : Tree) × LoadsFile reads (modes_of old).prevent_indent (name_in c below) path s (Ok tree) t
      × HasLoaded (record { name = name_in c below; path = path; tree = tree } ∷ []) old new)
      → IfErr answer (λ e. (why : Stop) × IsStopFor e why
      × LoadsFile reads (modes_of old).prevent_indent (name_in c below) path s (Err why) t)
      → OnErr answer (HasLoaded [] old new)
      → Registers reads lists c (an_entry p (name, File)) old new s t answer

  file-here : (p : WalkedFolder) (name : String Global) (old new : RegistryOf E) (s t : S) (answer : Result (Unit {0}) TemplateError)
      → FileClaim p name old new s t answer (child_path p (string_bytes name)) (below_at p (string_bytes name))
  unfolding FileClaim
  file-here p name old new s t (Ok u) taken ok err unchanged = record {
    loaded = record { name = name_in c (below_at p (string_bytes name)); path = child_path p (string_bytes name); tree = ok.0 } ∷ [];
    end = Ok tt;
    walks = takes taken ok.1;
    reports = refl;
    has = ok.2;
  }
  file-here p name old new s t (Err e) taken ok err unchanged = record {
    loaded = [];
    end = Err err.0;
    walks = fails taken err.2;
    reports = err.1;
    has = unchanged;
  }

  pub file-registers : (p : WalkedFolder) (name : String Global) (path below : Text) (old new : RegistryOf E) (s t : S)
      (answer : Result (Unit {0}) TemplateError) → path ≡ child_path p (string_bytes name) → below ≡ below_at p (string_bytes name)
      → is_taken c path (string_bytes name) ≡ true
      → OnOk answer ((tree : Tree) × LoadsFile reads (modes_of old).prevent_indent (name_in c below) path s (Ok tree) t
      × HasLoaded (record { name = name_in c below; path = path; tree = tree } ∷ []) old new)
      → IfErr answer (λ e. (why : Stop) × IsStopFor e why
      × LoadsFile reads (modes_of old).prevent_indent (name_in c below) path s (Err why) t)
      → OnErr answer (HasLoaded [] old new)
      → Registers reads lists c (an_entry p (name, File)) old new s t answer
  unfolding FileClaim
  file-registers p name path below old new s t answer is_path is_below =
      subst (λ z. FileClaim p name old new s t answer z below) (sym is_path)
      (subst (λ z. FileClaim p name old new s t answer (child_path p (string_bytes name)) z) (sym is_below)
      (file-here p name old new s t answer))

  -- the same under another spelling of the name
  pub file-named : (p : WalkedFolder) (name : String Global) (given path below : Text) (old new : RegistryOf E) (s t : S)
      (answer : Result (Unit {0}) TemplateError) → path ≡ child_path p (string_bytes name) → below ≡ below_at p (string_bytes name)
      → given ≡ name_in c below → is_taken c path (string_bytes name) ≡ true
      → OnOk answer ((tree : Tree) × LoadsFile reads (modes_of old).prevent_indent given path s (Ok tree) t
      × HasLoaded (record { name = given; path = path; tree = tree } ∷ []) old new)
      → IfErr answer (λ e. (why : Stop) × IsStopFor e why
      × LoadsFile reads (modes_of old).prevent_indent given path s (Err why) t)
      → OnErr answer (HasLoaded [] old new)
      → Registers reads lists c (an_entry p (name, File)) old new s t answer
  file-named p name given path below old new s t answer is_path is_below is_name taken =
      subst (λ z. OnOk answer ((tree : Tree) × LoadsFile reads (modes_of old).prevent_indent z path s (Ok tree) t
      × HasLoaded (record { name = z; path = path; tree = tree } ∷ []) old new)
      → IfErr answer (λ e. (why : Stop) × IsStopFor e why
      × LoadsFile reads (modes_of old).prevent_indent z path s (Err why) t)
      → OnErr answer (HasLoaded [] old new)
      → Registers reads lists c (an_entry p (name, File)) old new s t answer) (sym is_name)
      (file-registers p name path below old new s t answer is_path is_below taken)

  pub file-passes : (p : WalkedFolder) (name : String Global) (path : Text) (r : RegistryOf E) (s : S)
      → path ≡ child_path p (string_bytes name) → is_taken c path (string_bytes name) ≡ false
      → Registers reads lists c (an_entry p (name, File)) r r s s (Ok tt)
  file-passes p name path r s is_path passed = record {
    loaded = [];
    end = Ok tt;
    walks = passes (subst (λ z. is_taken c z (string_bytes name) ≡ false) is_path passed);
    reports = refl;
    has = loaded-none r;
  }

  -- ---- folders

  pub folder-listed : (p : WalkedFolder) (es : Vec Entry) (xs : List Entry) (old new : RegistryOf E) (s t u : S)
      (answer : Result (Unit {0}) TemplateError) → lists s p.path (Ok es) t → IsInOrder es.items xs
      → Registers reads lists c (entries_of p xs) old new t u answer → Registers reads lists c (a_folder p) old new s u answer
  folder-listed p es xs old new s t u answer l o r = record {
    loaded = r.loaded;
    end = r.end;
    walks = listed l o r.walks;
    reports = r.reports;
    has = r.has;
  }

  pub folder-alloc_fails : (p : WalkedFolder) (given : Result (Vec Entry) Error) (r : RegistryOf E) (s t : S) (e : TemplateError)
      → lists s p.path given t → (template_refusal_of e).reason ≡ template_out_of_memory
      → Registers reads lists c (a_folder p) r r s t (Err e)
  folder-alloc_fails p given r s t e l m = record {
    loaded = [];
    end = Err no_memory;
    walks = listed_alloc_fails l;
    reports = m;
    has = loaded-none r;
  }

  pub folder-unlisted : (p : WalkedFolder) (cause : Error) (r : RegistryOf E) (s t : S) (answer : Result (Unit {0}) TemplateError)
      → lists s p.path (Err cause) t → OnOk answer (error_kind cause ≢ OutOfMemory)
      → IfErr answer (λ e. (template_refusal_of e).reason ≡ template_out_of_memory)
      → Registers reads lists c (a_folder p) r r s t answer
  folder-unlisted p cause r s t (Ok u) l ok err =
      record { loaded = []; end = Ok tt; walks = unlisted l ok; reports = refl; has = loaded-none r }
  folder-unlisted p cause r s t (Err e) l ok err = folder-alloc_fails p (Err cause) r s t e l err

  pub folder-enters : (p : WalkedFolder) (name : String Global) (levels : ℕ) (path prefix : Text) (old new : RegistryOf E) (s t : S)
      (answer : Result (Unit {0}) TemplateError) → path ≡ child_path p (string_bytes name)
      → prefix ≡ below_at p (string_bytes name) ++ codes "/" → p.levels ≡ levels + 1
      → Registers reads lists c (a_folder (record { path = path; prefix = prefix; levels = levels })) old new s t answer
      → Registers reads lists c (an_entry p (name, Folder)) old new s t answer
  folder-enters p name levels path prefix old new s t answer is_path is_prefix deeper r =
      let r' = subst (λ z. Registers reads lists c
      (a_folder (record { path = child_path p (string_bytes name); prefix = z; levels = levels })) old new s t answer) is_prefix
      (subst (λ z. Registers reads lists c (a_folder (record { path = z; prefix = prefix; levels = levels })) old new s t answer)
      is_path r) in
      record { loaded = r'.loaded; end = r'.end; walks = enters deeper r'.walks; reports = r'.reports; has = r'.has }

  pub folder-too_deep : (p : WalkedFolder) (name : String Global) (r : RegistryOf E) (s : S) → p.levels ≡ 0
      → Registers reads lists c (an_entry p (name, Folder)) r r s s (Ok tt)
  folder-too_deep p name r s deep =
      record { loaded = []; end = Ok tt; walks = too_deep deep; reports = refl; has = loaded-none r }

  -- ---- entries

  over-walk : {k : Walkable} {s t : S} {ls : List Loaded} {o : Result (Unit {0}) Stop} (old mid : RegistryOf E)
      → modes_of mid ≡ modes_of old → Walks reads lists (modes_of mid).prevent_indent c k s ls o t
      → Walks reads lists (modes_of old).prevent_indent c k s ls o t
  over-walk {k = k} {s = s} {t = t} {ls = ls} {o = o} old mid same w =
      subst (λ m. Walks reads lists m.prevent_indent c k s ls o t) same w

  pub entries-begin : (p : WalkedFolder) (xs : List Entry) (old : RegistryOf E) (s : S) → (ls : List Loaded) × HasLoaded ls old old
      × ExtendsWalk reads lists (modes_of old).prevent_indent c ls p xs xs s s
  entries-begin p xs old s = ([], loaded-none old, λ ms o u w. w)

  next-entry : (p : WalkedFolder) (x : Entry) (xs : List Entry) (i : ℕ) (old mid : RegistryOf E) (s t : S) → i < length xs
      → x ≡ get_or xs i x
      → ((ls : List Loaded) × HasLoaded ls old mid × ExtendsWalk reads lists (modes_of old).prevent_indent c ls p xs (drop i xs) s t)
      → (ls : List Loaded) × HasLoaded ls old mid
      × ExtendsWalk reads lists (modes_of old).prevent_indent c ls p xs (x ∷ drop (i + 1) xs) s t
  next-entry p x xs i old mid s t within is before =
      subst (λ zs. (ls : List Loaded) × HasLoaded ls old mid
      × ExtendsWalk reads lists (modes_of old).prevent_indent c ls p xs zs s t)
      (drop-cons xs i x within ∙ ap (λ z. z ∷ drop (suc i) xs) (sym is) ∙ ap (λ n. x ∷ drop n xs) (sym (add-one i))) before

  entry-went : (p : WalkedFolder) (x : Entry) (xs rest : List Entry) (old mid new : RegistryOf E) (s t u : S) (done : Unit {0})
      → ((ls : List Loaded) × HasLoaded ls old mid × ExtendsWalk reads lists (modes_of old).prevent_indent c ls p xs (x ∷ rest) s t)
      → (loaded : List Loaded) → HasLoaded loaded mid new
      → (end : Result (Unit {0}) Stop) → ReportsOutcome (λ (z : Unit {0}). z) (Ok done) end
      → Walks reads lists (modes_of mid).prevent_indent c (an_entry p x) t loaded end u
      → (ls : List Loaded) × HasLoaded ls old new × ExtendsWalk reads lists (modes_of old).prevent_indent c ls p xs rest s u
  entry-went p x xs rest old mid new s t u done before loaded has (Ok v) reports w = (
    before.0 ++ loaded,
    loaded-then old mid new before.1 has,
    λ ms o z rests. subst (λ ls. Walks reads lists (modes_of old).prevent_indent c (entries_of p xs) s ls o z)
        (sym (append_assoc before.0 loaded ms))
        (before.2 (loaded ++ ms) o z (goes_on (over-walk old mid before.1.modes w) rests)),
  )
  entry-went p x xs rest old mid new s t u done before loaded has (Err why) reports w = absurd reports

  pub entry-goes_on : (p : WalkedFolder) (x : Entry) (xs : List Entry) (i : ℕ) (old mid new : RegistryOf E) (s t u : S) (done : Unit {0})
      → i < length xs → x ≡ get_or xs i x
      → ((ls : List Loaded) × HasLoaded ls old mid × ExtendsWalk reads lists (modes_of old).prevent_indent c ls p xs (drop i xs) s t)
      → Registers reads lists c (an_entry p x) mid new t u (Ok done)
      → (ls : List Loaded) × HasLoaded ls old new
      × ExtendsWalk reads lists (modes_of old).prevent_indent c ls p xs (drop (i + 1) xs) s u
  entry-goes_on p x xs i old mid new s t u done within is left r =
      entry-went p x xs (drop (i + 1) xs) old mid new s t u done (next-entry p x xs i old mid s t within is left) r.loaded r.has r.end
      r.reports r.walks

  entry-ended : (p : WalkedFolder) (x : Entry) (xs rest : List Entry) (old mid new : RegistryOf E) (s t u : S) (e : TemplateError)
      → ((ls : List Loaded) × HasLoaded ls old mid × ExtendsWalk reads lists (modes_of old).prevent_indent c ls p xs (x ∷ rest) s t)
      → (loaded : List Loaded) → HasLoaded loaded mid new
      → (end : Result (Unit {0}) Stop) → ReportsOutcome (λ (z : Unit {0}). z) (Err e) end
      → Walks reads lists (modes_of mid).prevent_indent c (an_entry p x) t loaded end u
      → Registers reads lists c (entries_of p xs) old new s u (Err e)
  entry-ended p x xs rest old mid new s t u e before loaded has (Ok v) reports w = absurd reports
  entry-ended p x xs rest old mid new s t u e before loaded has (Err why) reports w = record {
    loaded = before.0 ++ loaded;
    end = Err why;
    walks = before.2 loaded (Err why) u (ends (over-walk old mid before.1.modes w));
    reports = reports;
    has = loaded-then old mid new before.1 has;
  }

  pub entry-ends : (p : WalkedFolder) (x : Entry) (xs : List Entry) (i : ℕ) (old mid new : RegistryOf E) (s t u : S) (e : TemplateError)
      → i < length xs → x ≡ get_or xs i x
      → ((ls : List Loaded) × HasLoaded ls old mid × ExtendsWalk reads lists (modes_of old).prevent_indent c ls p xs (drop i xs) s t)
      → Registers reads lists c (an_entry p x) mid new t u (Err e) → Registers reads lists c (entries_of p xs) old new s u (Err e)
  entry-ends p x xs i old mid new s t u e within is left r =
      entry-ended p x xs (drop (i + 1) xs) old mid new s t u e (next-entry p x xs i old mid s t within is left) r.loaded r.has r.end
      r.reports r.walks

  pub entries-end : (p : WalkedFolder) (xs : List Entry) (i : ℕ) (old mid : RegistryOf E) (s t : S) → length xs ≤ i
      → ((ls : List Loaded) × HasLoaded ls old mid × ExtendsWalk reads lists (modes_of old).prevent_indent c ls p xs (drop i xs) s t)
      → Registers reads lists c (entries_of p xs) old mid s t (Ok tt)
  entries-end p xs i old mid s t over before = record {
    loaded = before.0;
    end = Ok tt;
    walks = subst (λ ls. Walks reads lists (modes_of old).prevent_indent c (entries_of p xs) s ls (Ok tt) t)
        (append-nil before.0) (before.2 [] (Ok tt) t
        (subst (λ zs. Walks reads lists (modes_of old).prevent_indent c (entries_of p zs) t [] (Ok tt) t) (sym (drop_of_length-le xs over))
        no_entry));
    reports = refl;
    has = before.1;
  }

  -- an entry of that kind
  pub entry-of-kind : (p : WalkedFolder) (x : Entry) (kind : EntryKind) (old new : RegistryOf E) (s t : S)
      (answer : Result (Unit {0}) TemplateError) → x.1 ≡ kind → Registers reads lists c (an_entry p (x.0, kind)) old new s t answer
      → Registers reads lists c (an_entry p x) old new s t answer
  entry-of-kind p x kind old new s t answer is r =
      subst (λ z. Registers reads lists c (an_entry p (x.0, z)) old new s t answer) (sym is) r

pub zero-from : (n : ℕ) → (1 ≤ n → ⊥) → n ≡ 0
zero-from zero small = refl
zero-from (suc n) small = absurd (small (omega arith))
