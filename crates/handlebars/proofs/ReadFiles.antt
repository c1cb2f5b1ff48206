-- What reading files in order gives.
use Rattle.std.proofs.Common.{◌≡◌, ◌≢◌, Bool, true, false, cond, not, map, List, [], ◌∷◌, ◌++◌, Option, Some, None, Result, Ok, Err, String, Global, refl, sym, ap, ◌∙◌, subst, append-nil, append_assoc}
use Rattle.std.specs.BTreeMap.{BTreeMap}
use Rattle.std.specs.Prelude.{IfErr, OnOk, is_some, string_bytes}
use Rattle.std.specs.Str.{bytes_eq}
use Rattle.std.specs.declared.io.Error.{Error}
use Rattle.handlebars_base.specs.Bytes.{Text}
use Rattle.handlebars_base.specs.Reasons.{Refusal, TemplateReason, TemplateRefusal, of_template, out_of_memory, reason_for, template_error, template_out_of_memory}
use Rattle.handlebars_base.specs.RenderRefusals.{cause_of, plain_refusal, reason_in, refusal_of}
use Rattle.handlebars_base.specs.TemplateRefusals.{template_refusal_of}
use Rattle.handlebars_base.specs.declared.error.render_error.RenderError.{RenderError}
use Rattle.handlebars_base.specs.declared.error.render_error.RenderErrorReason.TheVariants as reasons
use Rattle.handlebars_base.specs.declared.error.template_error.TemplateError.{TemplateError}
use Rattle.handlebars_template.specs.Tree.{Tree}
use Rattle.handlebars_template.specs.declared.template.tree.Template.{Template}
use Rattle.handlebars.specs.Dev.{FailsReading, FailsRendering, HoldsTrees, ReadsFiles, ReadsInto, no_file, loads, fails, alloc_fails, is_asked, others}
use Rattle.handlebars.specs.Files.{IsStopFor, Loaded, LoadsFile, Stop, ReportsStop, file_of, no_memory, not_read, source_path, refusal, tree_among, tree_in, unreadable_file}
use Rattle.handlebars.proofs.Loaded.{last_under-append, put-overlaid}
use Rattle.handlebars.proofs.Loads.{loads-alloc_fails}

module _ {S : Type 0} (reads : S → Text → Result (String Global) Error → S → Type 0) (prevents : Bool) where
  -- Some of the files are read and compiled in order, and put into a map. The outcome of the rest after them is the outcome
  -- of all.
  pub record HasReadSome (fs rest : List (Text × Text)) (before after : S) (old new : BTreeMap (String Global) Template) : Type 0 where
    pub read : List Loaded
    pub holds : (ls : List Loaded) → HoldsTrees ls old → HoldsTrees (ls ++ read) new
    pub goes_on : (ls : List Loaded) (o : Result (Unit {0}) Stop) (u : S) → ReadsFiles reads prevents rest after ls o u
        → ReadsFiles reads prevents fs before (read ++ ls) o u

module _ {S : Type 0} (reads : S → Text → Result (String Global) Error → S → Type 0) (prevents : Bool) where
  reads-then : {fs gs : List (Text × Text)} {s t u : S} {ls ms : List Loaded} {o q : Result (Unit {0}) Stop} → o ≡ Ok tt
      → ReadsFiles reads prevents fs s ls o t → ReadsFiles reads prevents gs t ms q u
      → ReadsFiles reads prevents (fs ++ gs) s (ls ++ ms) q u
  reads-then same no_file w = w
  reads-then same (loads l r) w = loads l (reads-then same r w)
  reads-then same (fails l) w = cc
  reads-then same alloc_fails w = cc

  reads-first : {fs : List (Text × Text)} {s t : S} {ls : List Loaded} {o : Result (Unit {0}) Stop} {why : Stop}
      (gs : List (Text × Text)) → o ≡ Err why → ReadsFiles reads prevents fs s ls o t
      → ReadsFiles reads prevents (fs ++ gs) s ls o t
  reads-first gs same no_file = cc
  reads-first gs same (loads l r) = loads l (reads-first gs same r)
  reads-first gs same (fails l) = fails l
  reads-first gs same alloc_fails = alloc_fails

  pub into-nothing : (s : S) (a : BTreeMap (String Global) Template) → ReadsInto reads prevents [] s s a a
  into-nothing s a = record {
    read = [];
    reads_all = no_file;
    holds = λ ls h n. h n ∙ ap (λ z. tree_among z n) (sym (append-nil ls));
  }

  pub into-then : {fs gs : List (Text × Text)} {s t u : S} {a b d : BTreeMap (String Global) Template}
      → ReadsInto reads prevents fs s t a b → ReadsInto reads prevents gs t u b d → ReadsInto reads prevents (fs ++ gs) s u a d
  into-then x y = record {
    read = x.read ++ y.read;
    reads_all = reads-then refl x.reads_all y.reads_all;
    holds = λ ls h n. y.holds (ls ++ x.read) (x.holds ls h) n ∙ ap (λ z. tree_among z n) (append_assoc ls x.read y.read);
  }

  pub into-then-fails : {fs gs : List (Text × Text)} {s t u : S} {a b : BTreeMap (String Global) Template} {e : TemplateError}
      → ReadsInto reads prevents fs s t a b → FailsReading reads prevents gs t u e → FailsReading reads prevents (fs ++ gs) s u e
  into-then-fails x y = record {
    read = x.read ++ y.read;
    why = y.why;
    reads_up_to = reads-then refl x.reads_all y.reads_up_to;
    stop = y.stop;
  }

  pub fails-first : {fs : List (Text × Text)} {s t : S} {e : TemplateError} (gs : List (Text × Text))
      → FailsReading reads prevents fs s t e → FailsReading reads prevents (fs ++ gs) s t e
  fails-first gs x = record { read = x.read; why = x.why; reads_up_to = reads-first gs refl x.reads_up_to; stop = x.stop }

  -- ---- one file

  pub into-one : (name path : Text) (made : Tree) {s t : S} (a b : BTreeMap (String Global) Template)
      → LoadsFile reads prevents name path s (Ok made) t
      → ((other : Text) → tree_in b other ≡ cond (bytes_eq name other) (Some made) (tree_in a other))
      → ReadsInto reads prevents ((name, path) ∷ []) s t a b
  into-one name path made a b l put =
      let one : Loaded = record { name = name; path = path; tree = made } in
      record {
        read = one ∷ [];
        reads_all = loads l no_file;
        holds = λ ls h n. put n ∙ ap (cond (bytes_eq name n) (Some made)) (h n)
            ∙ put-overlaid (bytes_eq name n) made (tree_among ls n) ∙ sym (last_under-append (λ x. x.tree) ls (one ∷ []) n);
      }

  pub fails-one : (name path : Text) {s t : S} (e : TemplateError)
      → ((why : Stop) × IsStopFor e why × LoadsFile reads prevents name path s (Err why) t)
      → FailsReading reads prevents ((name, path) ∷ []) s t e
  fails-one name path e f = record { read = []; why = f.0; reads_up_to = fails f.2; stop = f.1 }

  pub fails-after : (name path : Text) {s t : S} (e : TemplateError) (o : Result Tree Stop)
      → (template_refusal_of e).reason ≡ template_out_of_memory → LoadsFile reads prevents name path s o t
      → FailsReading reads prevents ((name, path) ∷ []) s t e
  fails-after name path {s = s} {t = t} e o m l =
      fails-one name path e (no_memory, m, loads-alloc_fails reads prevents name path s t o l)

  -- ---- file after file

  pub some-begin : (fs : List (Text × Text)) (s : S) (a : BTreeMap (String Global) Template) → HasReadSome reads prevents fs fs s s a a
  some-begin fs s a = record {
    read = [];
    holds = λ ls h n. h n ∙ ap (λ z. tree_among z n) (sym (append-nil ls));
    goes_on = λ ls o u w. w;
  }

  pub some-then : {fs rest : List (Text × Text)} {f : Text × Text} {s t u : S} {a b d : BTreeMap (String Global) Template}
      → HasReadSome reads prevents fs (f ∷ rest) s t a b → ReadsInto reads prevents (f ∷ []) t u b d
      → HasReadSome reads prevents fs rest s u a d
  some-then {fs = fs} {s = s} x y = record {
    read = x.read ++ y.read;
    holds = λ ls h n. y.holds (ls ++ x.read) (x.holds ls h) n ∙ ap (λ z. tree_among z n) (append_assoc ls x.read y.read);
    goes_on = λ ls o u w. subst (λ z. ReadsFiles reads prevents fs s z o u) (sym (append_assoc x.read y.read ls))
        (x.goes_on (y.read ++ ls) o u (reads-then refl y.reads_all w));
  }

  pub some-fails : {fs rest : List (Text × Text)} {f : Text × Text} {s t u : S} {a b : BTreeMap (String Global) Template}
      {e : TemplateError} → HasReadSome reads prevents fs (f ∷ rest) s t a b → FailsReading reads prevents (f ∷ []) t u e
      → FailsReading reads prevents fs s u e
  some-fails {rest = rest} {u = u} x y = record {
    read = x.read ++ y.read;
    why = y.why;
    reads_up_to = x.goes_on y.read (Err y.why) u (reads-first rest refl y.reads_up_to);
    stop = y.stop;
  }

  pub some-end : {fs : List (Text × Text)} {s t : S} {a b : BTreeMap (String Global) Template}
      → HasReadSome reads prevents fs [] s t a b → ReadsInto reads prevents fs s t a b
  some-end {fs = fs} {s = s} {t = t} x = record {
    read = x.read;
    reads_all = subst (λ z. ReadsFiles reads prevents fs s z (Ok tt) t) (append-nil x.read) (x.goes_on [] (Ok tt) t no_file);
    holds = x.holds;
  }

  -- ---- where the name that is asked for is known, or isn't

  pub read-known : (b : Bool) (fs : List (Text × Text)) {s t : S} {a d : BTreeMap (String Global) Template} → b ≡ true
      → HoldsTrees [] a → ReadsInto reads prevents fs s t a d
      → (read : List Loaded) × ReadsFiles reads prevents (cond b fs []) s read (Ok tt) t × HoldsTrees read d
  read-known true fs known empty x = (x.read, x.reads_all, x.holds [] empty)
  read-known false fs known empty x = cc

  pub read-unknown : (b : Bool) (fs : List (Text × Text)) (s : S) (a : BTreeMap (String Global) Template) → b ≡ false
      → HoldsTrees [] a → (read : List Loaded) × ReadsFiles reads prevents (cond b fs []) s read (Ok tt) s × HoldsTrees read a
  read-unknown true fs s a unknown empty = cc
  read-unknown false fs s a unknown empty = ([], no_file, empty)

  pub fails-known : (b : Bool) (fs : List (Text × Text)) {s t : S} {e : TemplateError} → b ≡ true
      → FailsReading reads prevents fs s t e → FailsReading reads prevents (cond b fs []) s t e
  fails-known true fs known x = x
  fails-known false fs known x = cc

-- ---- the files of all names but the one that is asked for

others-next : (asked : Option Text) (f : Text × Text) (fs : List (Text × Text)) → is_asked asked f.0 ≡ false
    → others asked (f ∷ fs) ≡ f ∷ others asked fs
others-next asked f fs un = ap (λ b. cond (not b) (f ∷ others asked fs) (others asked fs)) un

module _ {S : Type 0} (reads : S → Text → Result (String Global) Error → S → Type 0) (prevents : Bool) (asked : Option Text)
    (all : List (String Global × String Global)) where
  pub files-begin : (left : List (String Global × String Global)) (s : S) (a : BTreeMap (String Global) Template) → left ≡ all
      → HasReadSome reads prevents (others asked (map file_of all)) (others asked (map file_of left)) s s a a
  files-begin left s a same =
      subst (λ es. HasReadSome reads prevents (others asked (map file_of all)) (others asked (map file_of es)) s s a a) (sym same)
      (some-begin reads prevents (others asked (map file_of all)) s a)

  module _ (left rest : List (String Global × String Global)) (f : String Global × String Global) (name path : Text) (s t u : S)
      (a b : BTreeMap (String Global) Template) (same : left ≡ f ∷ rest) (is_name : name ≡ string_bytes f.0)
      (is_path : path ≡ string_bytes f.1) (un : is_asked asked (string_bytes f.0) ≡ false)
      (before : HasReadSome reads prevents (others asked (map file_of all)) (others asked (map file_of left)) s t a b) where
    next-file : HasReadSome reads prevents (others asked (map file_of all)) ((name, path) ∷ others asked (map file_of rest)) s t a b
    next-file =
        subst (λ fs. HasReadSome reads prevents (others asked (map file_of all)) fs s t a b)
        (ap (λ es. others asked (map file_of es)) same ∙ others-next asked (file_of f) (map file_of rest) un
        ∙ ap (λ z. (z, string_bytes f.1) ∷ others asked (map file_of rest)) (sym is_name)
        ∙ ap (λ z. (name, z) ∷ others asked (map file_of rest)) (sym is_path)) before

    pub files-next : (d : BTreeMap (String Global) Template) → ReadsInto reads prevents ((name, path) ∷ []) t u b d
        → HasReadSome reads prevents (others asked (map file_of all)) (others asked (map file_of rest)) s u a d
    files-next d y = some-then reads prevents next-file y

    pub files-fail : (e : TemplateError) → FailsReading reads prevents ((name, path) ∷ []) t u e
        → FailsReading reads prevents (others asked (map file_of all)) s u e
    files-fail e y = some-fails reads prevents next-file y

  pub files-end : (left : List (String Global × String Global)) (s t : S) (a b : BTreeMap (String Global) Template) → left ≡ []
      → HasReadSome reads prevents (others asked (map file_of all)) (others asked (map file_of left)) s t a b
      → ReadsInto reads prevents (others asked (map file_of all)) s t a b
  files-end left s t a b same x = some-end reads prevents
      (subst (λ es. HasReadSome reads prevents (others asked (map file_of all)) (others asked (map file_of es)) s t a b) same x)

-- ---- the same files otherwise written

module _ {S : Type 0} (reads : S → Text → Result (String Global) Error → S → Type 0) (prevents : Bool) (s t : S) where
  pub into-along : {fs gs : List (Text × Text)} (a b : BTreeMap (String Global) Template)
      (answer : Result (Unit {0}) TemplateError) → fs ≡ gs
      → OnOk answer (ReadsInto reads prevents fs s t a b) → OnOk answer (ReadsInto reads prevents gs s t a b)
  into-along a b answer same x = subst (λ fs. OnOk answer (ReadsInto reads prevents fs s t a b)) same x

  pub fails-along : {fs gs : List (Text × Text)} (answer : Result (Unit {0}) TemplateError) → fs ≡ gs
      → IfErr answer (λ e. FailsReading reads prevents fs s t e) → IfErr answer (λ e. FailsReading reads prevents gs s t e)
  fails-along answer same x = subst (λ fs. IfErr answer (λ e. FailsReading reads prevents fs s t e)) same x

-- ---- without dev mode

pub source_path-off : (paths : Option (BTreeMap (String Global) (String Global))) (name path : Text) → is_some paths ≡ false
    → Some path ≡ source_path paths name → ⊥
source_path-off None name path off there = cc
source_path-off (Some m) name path off there = cc

-- ---- the error of a rendering

template_error≢out_of_memory : {f : TemplateRefusal} → template_error f ≡ out_of_memory → ⊥
template_error≢out_of_memory e = cc

module _ (e : TemplateError) (d : RenderError) (is : refusal_of d ≡ plain_refusal (of_template (template_refusal_of e)))
    (cause : reason_in d ≢ out_of_memory → cause_of d ≡ reasons.TemplateError e) where
  reports-stop : (why : Stop) → IsStopFor e why → ReportsStop why d
  reports-stop (refusal f) stop = is ∙ ap (λ z. plain_refusal (of_template z)) stop
  reports-stop (not_read name kind) stop =
      let so : refusal_of d ≡ plain_refusal (of_template (unreadable_file name)) = is ∙ ap (λ z. plain_refusal (of_template z)) stop.0 in
      let unchanged : cause_of d ≡ reasons.TemplateError e =
      cause (λ memory. template_error≢out_of_memory (ap (λ (z : Refusal). z.reason) (sym so) ∙ memory)) in
      (so, (e, unchanged, stop.1))
  reports-stop no_memory stop =
      ap (λ (z : Refusal). z.reason) is ∙ ap (λ (z : TemplateReason). reason_for (template_refusal_of e) z) stop

  pub fails-rendering : {S : Type 0} (reads : S → Text → Result (String Global) Error → S → Type 0) {prevents : Bool}
      {fs : List (Text × Text)} {before after : S} → FailsReading reads prevents fs before after e
      → FailsRendering reads prevents fs before after d
  fails-rendering reads x =
      record { read = x.read; why = x.why; reads_up_to = x.reads_up_to; stop = reports-stop x.why x.stop }
