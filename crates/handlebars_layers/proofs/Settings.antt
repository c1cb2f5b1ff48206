-- Setting a partial in the frame at a depth, once the entries of deeper layers are dropped: in the last entry, if it is of that
-- layer, and otherwise in an entry after it.
use Rattle.std.proofs.Common.{◌≡◌, ◌<◌, ◌≤◌, ℕ, zero, suc, ◌-◌, ◌==◌, arith, Bool, true, false, if◌then◌else◌, get_or, slice_set, length, take, List, [], ◌∷◌, ◌++◌, Result, Ok, Err, OnErr, refl, sym, ap, ◌∙◌, subst}
use Rattle.std.proofs.lemmas.Bool.Decides.{nat_tests}
use Rattle.std.specs.Prelude.{Some, String, option_map, slice_get, string_bytes}
use Rattle.std.specs.BTreeMap.{BTreeMap, is_at}
use Rattle.std.specs.Cmp.Lexicographic.{slice_cmp}
use Rattle.std.specs.Map.{lookup}
use Rattle.std.specs.Ordering.{nat_cmp}
use Rattle.std.specs.declared.alloc.Global.{Global}
use Rattle.std.specs.declared.rc.Rc.{Rc}
use Rattle.handlebars_base.specs.Bytes.{Text}
use Rattle.handlebars_template.specs.Tree.{Tree}
use Rattle.handlebars_template.specs.TreeView.{tree_view}
use Rattle.handlebars_template.specs.declared.template.tree.Template.{Template}
use Rattle.handlebars_scope.specs.Scopes.{nothing_at, put_at}
use Rattle.handlebars_scope.specs.ScopeView.{partials_named}
use Rattle.handlebars_layers.specs.PartialsByDepth.{ends_at, kept_to, partials_at, partials_in}
use Rattle.handlebars_layers.specs.PartialsView.{partials_of}
use Rattle.handlebars_layers.specs.RisingDepths.{AllBefore, Rises, depths_of}
use Rattle.handlebars_layers.specs.declared.partials.OfFrame.{OfFrame}
use Rattle.handlebars_layers.specs.declared.partials.Partials.{Partials}
use Rattle.handlebars_layers.proofs.Depths.{before-kept, before-split, drops, keeps, last-at, last-set, last-split, none-from, other-at, rises-last, rises-rest, split-at}

-- what holds whatever is returned
pub on-err : {T E P : Type 0} (r : Result T E) → P → OnErr r P
on-err (Ok x) p = tt
on-err (Err e) p = p

-- the partials of a layer
pub layer-of : (p : Partials) (d : ℕ) → 0 < d → partials_of p d ≡ partials_at p.all.items d
layer-of p zero layer = absurd (omega arith)
layer-of p (suc d) layer = refl

-- ---- entries of deeper layers are dropped

module _ (new old : Partials) (depth : ℕ) (ground : new.ground ≡ old.ground) (all : new.all.items ≡ kept_to depth old.all.items) where
  pub outer-kept : (d : ℕ) → d ≤ depth → partials_of new d ≡ partials_of old d
  outer-kept zero near = ap partials_named ground
  outer-kept (suc d) near =
      ap (λ (fs : List OfFrame). partials_at fs (suc d)) all ∙ keeps old.all.items depth (suc d) old.rising near

  pub deeper-dropped : (d : ℕ) → depth < d → partials_of new d ≡ nothing_at
  deeper-dropped zero deep = absurd (omega arith)
  deeper-dropped (suc d) deep =
      ap (λ (fs : List OfFrame). partials_at fs (suc d)) all ∙ drops old.all.items depth (suc d) deep

  pub deepest-kept : AllBefore (suc depth) new.all.items
  deepest-kept = subst (λ (fs : List OfFrame). AllBefore (suc depth) fs) (sym all) (before-kept old.all.items depth)

-- an entry of a layer comes after those that are kept
pub outer-pushed : (new kept : Partials) (within : ℕ) → new.ground ≡ kept.ground
    → ((d : ℕ) → d < within → partials_at new.all.items d ≡ partials_at kept.all.items d)
    → (d : ℕ) → d < within → partials_of new d ≡ partials_of kept d
outer-pushed new kept within ground outer zero less = ap partials_named ground
outer-pushed new kept within ground outer (suc d) less = outer (suc d) less

-- if no entry is changed, no frame's partials are
pub entries-unchanged : (new kept : Partials) → new.ground ≡ kept.ground → new.all.items ≡ kept.all.items
    → (d : ℕ) → partials_of new d ≡ partials_of kept d
entries-unchanged new kept ground all zero = ap partials_named ground
entries-unchanged new kept ground all (suc d) = ap (λ (fs : List OfFrame). partials_at fs (suc d)) all

-- a map without entries has no partial
pub none-named : (by_name : BTreeMap (String Global) (Rc Template Global)) → by_name.entries ≡ [] → partials_named by_name ≡ nothing_at
none-named by_name empty = λ i name.
    ap (λ es. option_map (λ t. tree_view t.value) (lookup (is_at (λ k. slice_cmp nat_cmp name (string_bytes k))) es)) empty i

-- ---- whether the last entry is of the layer

ends-last : (depth : ℕ) (fs : List OfFrame) (f : OfFrame) → ends_at depth (fs ++ f ∷ []) ≡ (f.depth == depth)
ends-last depth [] f = refl
ends-last depth (g ∷ []) f = refl
ends-last depth (g ∷ (h ∷ fs)) f = ends-last depth (h ∷ fs) f

ends-at : (depth : ℕ) (es : List OfFrame) (n : ℕ) (f : OfFrame) → n ≡ length es → 0 < n → f ≡ get_or es (n - 1) f
    → ends_at depth es ≡ (f.depth == depth)
ends-at depth es n f count some is = ap (ends_at depth) (last-split es n f count some is) ∙ ends-last depth (take (n - 1) es) f

-- the same, of the item before the end
pub ends-get : (depth : ℕ) (es : List OfFrame) (f : OfFrame) → Some f ≡ slice_get es (length es - 1)
    → (f.depth == depth) ≡ ends_at depth es
ends-get depth [] f is = absurd (cc)
ends-get depth (e ∷ []) f is = let same : f ≡ e = cc in ap (λ (g : OfFrame). g.depth == depth) same
ends-get depth (e ∷ (g ∷ es)) f is =
    let all : suc (suc (length es)) - 1 ≡ suc (length es) = omega arith in
    let rest : suc (length es) - 1 ≡ length es = omega arith in
    ends-get depth (g ∷ es) f (is ∙ ap (slice_get (e ∷ (g ∷ es))) all ∙ sym (ap (slice_get (g ∷ es)) rest))

pub ends-here : (depth : ℕ) (es : List OfFrame) (n : ℕ) (f : OfFrame) → n ≡ length es → 0 < n → f ≡ get_or es (n - 1) f
    → ends_at depth es ≡ true → f.depth ≡ depth
ends-here depth es n f count some is ends =
    let same : (f.depth == depth) ≡ true = sym (ends-at depth es n f count some is) ∙ ends in
    grind (arith, nat_tests)

single-before : (f : OfFrame) (depth : ℕ) → f.depth < suc depth → (f.depth == depth) ≡ false → f.depth < depth
single-before f depth near differ = grind (arith, nat_tests)

-- if it is not, all entries are of less deep layers
pub ends-before : (low depth : ℕ) (es : List OfFrame) → Rises low (depths_of es) → AllBefore (suc depth) es
    → ends_at depth es ≡ false → AllBefore depth es
ends-before low depth [] rising before ends = tt
ends-before low depth (f ∷ []) rising before ends = (single-before f depth before.0 ends, tt)
ends-before low depth (f ∷ (g ∷ fs)) rising before ends =
    let rest = ends-before (suc f.depth) depth (g ∷ fs) rising.1 before.1 ends in
    let above : suc f.depth ≤ g.depth = rising.1.0 in
    let less : g.depth < depth = rest.0 in
    (omega arith, rest)

-- ---- the last entry is changed

module _ (es : List OfFrame) (depth : ℕ) (rising : Rises 1 (depths_of es)) (layer : 0 < depth)
    (n : ℕ) (last own : OfFrame) (count : n ≡ length es) (some : 0 < n) (is : last ≡ get_or es (n - 1) last)
    (here : last.depth ≡ depth) (same : own.depth ≡ last.depth) where
  split : es ≡ take (n - 1) es ++ last ∷ []
  split = last-split es n last count some is

  before-changed : AllBefore own.depth (take (n - 1) es)
  before-changed = subst (λ (d : ℕ). AllBefore d (take (n - 1) es)) (sym same) (before-split es _ last split rising)

  pub rises-changed : Rises 1 (depths_of (slice_set es (n - 1) own))
  rises-changed =
      subst (λ (fs : List OfFrame). Rises 1 (depths_of fs)) (sym (last-set es n own count some))
      (rises-last (take (n - 1) es) own (omega arith) before-changed (rises-rest es _ last split rising))

  pub outer-changed : (d : ℕ) → d < depth → partials_at (slice_set es (n - 1) own) d ≡ partials_at es d
  outer-changed d outer =
      ap (λ (fs : List OfFrame). partials_at fs d) (last-set es n own count some)
      ∙ other-at (take (n - 1) es) own d (λ e. omega arith)
      ∙ sym (ap (λ (fs : List OfFrame). partials_at fs d) split ∙ other-at (take (n - 1) es) last d (λ e. omega arith))

  at-changed : partials_at (slice_set es (n - 1) own) depth ≡ partials_in own
  at-changed =
      ap (λ (fs : List OfFrame). partials_at fs depth) (last-set es n own count some)
      ∙ ap (partials_at (take (n - 1) es ++ own ∷ [])) (sym (same ∙ here))
      ∙ last-at (take (n - 1) es) own before-changed

  at-last : partials_in last ≡ partials_at es depth
  at-last = sym (split-at es _ last split rising) ∙ ap (partials_at es) here

  pub own-changed : (name : Text) (t : Tree) → partials_in own ≡ put_at name t (partials_in last)
      → partials_at (slice_set es (n - 1) own) depth ≡ put_at name t (partials_at es depth)
  own-changed name t put = at-changed ∙ put ∙ ap (put_at name t) at-last

  pub own-unchanged : partials_in own ≡ partials_in last → partials_at (slice_set es (n - 1) own) depth ≡ partials_at es depth
  own-unchanged unchanged = at-changed ∙ unchanged ∙ at-last

  pub deeper-changed : (d : ℕ) → depth < d → partials_at (slice_set es (n - 1) own) d ≡ nothing_at
  deeper-changed d deep =
      ap (λ (fs : List OfFrame). partials_at fs d) (last-set es n own count some)
      ∙ other-at (take (n - 1) es) own d (λ e. omega arith)
      ∙ none-from (take (n - 1) es) own.depth d before-changed (omega arith)

-- ---- an entry is added

module _ (es : List OfFrame) (depth : ℕ) (rising : Rises 1 (depths_of es)) (layer : 0 < depth) (before : AllBefore depth es)
    (own : OfFrame) (here : own.depth ≡ depth) where
  before-own : AllBefore own.depth es
  before-own = subst (λ (d : ℕ). AllBefore d es) (sym here) before

  pub rises-added : (b : Bool) (new : List OfFrame) → new ≡ (if b then es ++ own ∷ [] else es) → Rises 1 (depths_of new)
  rises-added true new is =
      subst (λ (fs : List OfFrame). Rises 1 (depths_of fs)) (sym is) (rises-last es own (omega arith) before-own rising)
  rises-added false new is = subst (λ (fs : List OfFrame). Rises 1 (depths_of fs)) (sym is) rising

  pub outer-added : (d : ℕ) → d < depth → partials_at (es ++ own ∷ []) d ≡ partials_at es d
  outer-added d outer = other-at es own d (λ e. omega arith)

  pub own-added : partials_at (es ++ own ∷ []) depth ≡ partials_in own
  own-added = ap (partials_at (es ++ own ∷ [])) (sym here) ∙ last-at es own before-own

  pub deeper-added : (d : ℕ) → depth < d → partials_at (es ++ own ∷ []) d ≡ nothing_at
  deeper-added d deep = other-at es own d (λ e. omega arith) ∙ none-from es depth d before (omega arith)
