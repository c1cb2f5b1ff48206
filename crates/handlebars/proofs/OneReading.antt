-- What is read of files is determined, if a reader gives one answer.
use Rattle.std.proofs.Common.{◌≡◌, ◌≢◌, Bool, List, ◌∷◌, Result, Ok, Err, String, Global, refl, sym, ap, ◌∙◌, subst}
use Rattle.std.specs.declared.io.Error.{Error}
use Rattle.handlebars_base.specs.Bytes.{Text}
use Rattle.handlebars_base.specs.Reasons.{TemplateRefusal}
use Rattle.handlebars_lexer.specs.Options.{Options}
use Rattle.handlebars_template.specs.Compile.{Compilation, Compiles, compiled, rejected}
use Rattle.handlebars_template.specs.Tree.{Tree}
use Rattle.handlebars_template.proofs.One.{one_compilation}
use Rattle.handlebars.specs.Dev.{ReadsFiles, loaded_from, no_file, loads, fails, alloc_fails}
use Rattle.handlebars.specs.Files.{Loaded, LoadsFile, Stop, compiles, does_not, alloc_fails as load_alloc_fails, no_memory, not_read, refusal, unreadable}
use Rattle.handlebars.specs.Readers.{GivesOneAnswer, HasOneEnd, IsSameRead}

-- ---- outcomes

tree_or : Tree → Compilation → Tree
tree_or d (compiled t) = t
tree_or d (rejected f) = d

refusal_or : TemplateRefusal → Compilation → TemplateRefusal
refusal_or d (compiled t) = d
refusal_or d (rejected f) = f

compiled-injective : {t u : Tree} → compiled t ≡ compiled u → t ≡ u
unfolding tree_or
compiled-injective {t = t} e = ap (tree_or t) e

rejected-injective : {f g : TemplateRefusal} → rejected f ≡ rejected g → f ≡ g
unfolding refusal_or
rejected-injective {f = f} e = ap (refusal_or f) e

compiled≢rejected : {t : Tree} {f : TemplateRefusal} → compiled t ≡ rejected f → ⊥
compiled≢rejected e = cc

value_or : {X : Type 0} → X → Result X Stop → X
value_or d (Ok x) = x
value_or d (Err why) = d

pub Ok-injective : {X : Type 0} {x y : X} (a b : Result X Stop) → a ≡ Ok x → b ≡ Ok y → a ≡ b → x ≡ y
unfolding value_or
Ok-injective {x = x} a b is so same = ap (value_or x) (sym is ∙ same ∙ so)

stop_or : {X : Type 0} → Stop → Result X Stop → Stop
stop_or d (Ok x) = d
stop_or d (Err why) = why

Err-injective : {X : Type 0} {why other : Stop} (a b : Result X Stop) → a ≡ Err why → b ≡ Err other → a ≡ b → why ≡ other
unfolding stop_or
Err-injective {why = why} a b is so same = ap (stop_or why) (sym is ∙ same ∙ so)

pub Ok≢Err : {X : Type 0} {x : X} {why : Stop} (a b : Result X Stop) → a ≡ Ok x → b ≡ Err why → a ≡ b → ⊥
Ok≢Err a b is so same = cc

-- a stop of one result that isn't out of memory isn't out of memory in another result either
pub other-stop : {X Y : Type 0} {why : Stop} (a : Result X Stop) (b : Result Y Stop) → a ≡ Err why → b ≡ Err why
    → a ≢ Err no_memory → b ≢ Err no_memory
other-stop a b is so other e = other (is ∙ ap Err (Err-injective b (Err no_memory) so refl e))

pub same-stop : {X Y : Type 0} {why other : Stop} (a b : Result X Stop) → a ≡ Err why → b ≡ Err other → a ≡ b
    → (c d : Result Y Stop) → c ≡ Err why → d ≡ Err other → c ≡ d
same-stop a b is so same c d has hold = has ∙ ap Err (Err-injective a b is so same) ∙ sym hold

-- ---- a file

module _ {S : Type 0} (reads : S → Text → Result (String Global) Error → S → Type 0) (one : GivesOneAnswer IsSameRead reads)
    (prevents : Bool) where
  one-source : {source other : Text} {options : Options} {c d : Compilation} → source ≡ other → Compiles source options c
      → Compiles other options d → c ≡ d
  one-source {other = other} {options = options} {c = c} {d = d} same x y =
      one_compilation other options c d (subst (λ z. Compiles z options c) same x) y

  pub one-load : {name path : Text} {s t u : S} {a b : Result Tree Stop} → LoadsFile reads prevents name path s a t
      → LoadsFile reads prevents name path s b u → a ≢ Err no_memory → b ≢ Err no_memory → (a ≡ b) × (t ≡ u)
  one-load (compiles r c) (compiles q d) m n =
      let same = one _ _ _ _ _ _ r q in (ap Ok (compiled-injective (one-source same.0 c d)), same.1)
  one-load (compiles r c) (does_not q d) m n = absurd (compiled≢rejected (one-source (one _ _ _ _ _ _ r q).0 c d))
  one-load (compiles r c) (unreadable q d) m n = absurd (one _ _ _ _ _ _ r q).0
  one-load (does_not r c) (compiles q d) m n = absurd (compiled≢rejected (sym (one-source (one _ _ _ _ _ _ r q).0 c d)))
  one-load (does_not r c) (does_not q d) m n =
      let same = one _ _ _ _ _ _ r q in (ap (λ f. Err (refusal f)) (rejected-injective (one-source same.0 c d)), same.1)
  one-load (does_not r c) (unreadable q d) m n = absurd (one _ _ _ _ _ _ r q).0
  one-load (unreadable r c) (compiles q d) m n = absurd (one _ _ _ _ _ _ r q).0
  one-load (unreadable r c) (does_not q d) m n = absurd (one _ _ _ _ _ _ r q).0
  one-load {name = name} (unreadable r c) (unreadable q d) m n =
      let same = one _ _ _ _ _ _ r q in (ap (λ kind. Err (not_read name kind)) same.0, same.1)
  one-load (load_alloc_fails r) l m n = absurd (m refl)
  one-load (compiles r c) (load_alloc_fails q) m n = absurd (n refl)
  one-load (does_not r c) (load_alloc_fails q) m n = absurd (n refl)
  one-load (unreadable r c) (load_alloc_fails q) m n = absurd (n refl)

  -- ---- files in order

  next-same : (f : Text × Text) {a b : Tree} {ls ms : List Loaded} → a ≡ b → ls ≡ ms
      → loaded_from reads prevents f a ∷ ls ≡ loaded_from reads prevents f b ∷ ms
  next-same f {b = b} {ls = ls} same rest =
      ap (λ z. loaded_from reads prevents f z ∷ ls) same ∙ ap (λ z. loaded_from reads prevents f b ∷ z) rest

  pub one-reading : {fs : List (Text × Text)} {s t u : S} {ls ms : List Loaded} {o q : Result (Unit {0}) Stop}
      → ReadsFiles reads prevents fs s ls o t → ReadsFiles reads prevents fs s ms q u → o ≢ Err no_memory → q ≢ Err no_memory
      → (ls ≡ ms) × (o ≡ q) × (t ≡ u)
  one-reading no_file no_file m n = (refl, refl, refl)
  one-reading no_file alloc_fails m n = absurd (n refl)
  one-reading (loads {f = f} {fs = fs} {u = u} {ls = ls} l w) (loads {u = last} {ls = ms} {o = q} k v) m n =
      let same = one-load l k (λ e. cc) (λ e. cc) in
      let rest = one-reading w (subst (λ z. ReadsFiles reads prevents fs z ms q last) (sym same.1) v) m n in
      (next-same f (Ok-injective _ _ refl refl same.0) rest.0, rest.1, rest.2)
  one-reading (loads l w) (fails k) m n =
      absurd (Ok≢Err _ _ refl refl (one-load l k (λ e. cc) (other-stop _ _ refl refl n)).0)
  one-reading (loads l w) alloc_fails m n = absurd (n refl)
  one-reading (fails l) (loads k v) m n =
      absurd (Ok≢Err _ _ refl refl (sym (one-load l k (other-stop _ _ refl refl m) (λ e. cc)).0))
  one-reading (fails l) (fails k) m n =
      let same = one-load l k (other-stop _ _ refl refl m) (other-stop _ _ refl refl n) in
      (refl, same-stop _ _ refl refl same.0 _ _ refl refl, same.1)
  one-reading (fails l) alloc_fails m n = absurd (n refl)
  one-reading alloc_fails v m n = absurd (m refl)

  pub read-once : (fs : List (Text × Text)) (s : S) → HasOneEnd (ReadsFiles reads prevents fs s)
  read-once fs s ls ms o q t u w v m n = one-reading w v m n
