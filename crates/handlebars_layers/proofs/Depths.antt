-- Entries whose depths rise: the last one of them, and which of them are kept.
use Rattle.std.proofs.Common.{◌≡◌, ◌≢◌, inl, inr, ◌<◌, ◌≤◌, ℕ, suc, ◌+◌, ◌-◌, arith, if◌then◌else◌, nat_le, ◌==◌, get_or, slice_set, length, take, List, [], ◌∷◌, ◌++◌, refl, sym, ap, ◌∙◌, subst}
use Rattle.std.proofs.lemmas.Bool.{cases_lt}
use Rattle.std.proofs.lemmas.Bool.Decides.{nat_tests}
use Rattle.std.proofs.lemmas.List.{length-set, length-take-le, take-take, take_all, take_more, take_more_set}
use Rattle.handlebars_scope.specs.Scopes.{nothing_at}
use Rattle.handlebars_layers.specs.PartialsByDepth.{kept_to, partials_at, partials_in}
use Rattle.handlebars_layers.specs.RisingDepths.{AllBefore, Rises, depths_of}
use Rattle.handlebars_layers.specs.declared.partials.OfFrame.{OfFrame}

-- ---- the tests of one entry

here-at : (f : OfFrame) (fs : List OfFrame) (d : ℕ) → d ≡ f.depth → partials_at (f ∷ fs) d ≡ partials_in f
here-at f fs d same = grind (arith, nat_tests)

past-at : (f : OfFrame) (fs : List OfFrame) (d : ℕ) → d ≢ f.depth → partials_at (f ∷ fs) d ≡ partials_at fs d
past-at f fs d differ = grind (arith, nat_tests)

kept-more : (f : OfFrame) (fs : List OfFrame) (k : ℕ) → f.depth ≤ k → kept_to k (f ∷ fs) ≡ f ∷ kept_to k fs
kept-more f fs k near = grind (arith, nat_tests)

kept-none : (f : OfFrame) (fs : List OfFrame) (k : ℕ) → k < f.depth → kept_to k (f ∷ fs) ≡ []
kept-none f fs k deep = grind (arith, nat_tests)

-- ---- depths that rise

low-last : (low : ℕ) (fs : List OfFrame) (f : OfFrame) → Rises low (depths_of (fs ++ f ∷ [])) → low ≤ f.depth
low-last low [] f rising = rising.0
low-last low (g ∷ gs) f rising =
    let above : low ≤ g.depth = rising.0 in
    let next : suc g.depth ≤ f.depth = low-last (suc g.depth) gs f rising.1 in
    omega arith

rises-prefix : (low : ℕ) (fs : List OfFrame) (f : OfFrame) → Rises low (depths_of (fs ++ f ∷ []))
    → Rises low (depths_of fs)
rises-prefix low [] f rising = tt
rises-prefix low (g ∷ gs) f rising = (rising.0, rises-prefix (suc g.depth) gs f rising.1)

before-last : (low : ℕ) (fs : List OfFrame) (f : OfFrame) → Rises low (depths_of (fs ++ f ∷ [])) → AllBefore f.depth fs
before-last low [] f rising = tt
before-last low (g ∷ gs) f rising =
    let next : suc g.depth ≤ f.depth = low-last (suc g.depth) gs f rising.1 in
    (omega arith, before-last (suc g.depth) gs f rising.1)

rises-then : (low : ℕ) (fs : List OfFrame) (f : OfFrame) → low ≤ f.depth → AllBefore f.depth fs
    → Rises low (depths_of fs) → Rises low (depths_of (fs ++ f ∷ []))
rises-then low [] f above before rising = (above, tt)
rises-then low (g ∷ gs) f above before rising =
    let less : g.depth < f.depth = before.0 in
    (rising.0, rises-then (suc g.depth) gs f (omega arith) before.1 rising.1)

pub rises-last : (fs : List OfFrame) (f : OfFrame) → 0 < f.depth → AllBefore f.depth fs → Rises 1 (depths_of fs)
    → Rises 1 (depths_of (fs ++ f ∷ []))
rises-last fs f layer before rising = rises-then 1 fs f (omega arith) before rising

-- ---- what frames have

pub none-from : (fs : List OfFrame) (k d : ℕ) → AllBefore k fs → k ≤ d → partials_at fs d ≡ nothing_at
none-from [] k d before deep = refl
none-from (g ∷ gs) k d before deep =
    let less : g.depth < k = before.0 in
    let differ : d ≢ g.depth = λ e. omega arith in
    past-at g gs d differ ∙ none-from gs k d before.1 deep

pub none-below : (low : ℕ) (fs : List OfFrame) (d : ℕ) → Rises low (depths_of fs) → d < low → partials_at fs d ≡ nothing_at
none-below low [] d rising less = refl
none-below low (g ∷ gs) d rising less =
    let above : low ≤ g.depth = rising.0 in
    let differ : d ≢ g.depth = λ e. omega arith in
    past-at g gs d differ ∙ none-below (suc g.depth) gs d rising.1 (omega arith)

-- the frame of the last entry
pub last-at : (fs : List OfFrame) (f : OfFrame) → AllBefore f.depth fs → partials_at (fs ++ f ∷ []) f.depth ≡ partials_in f
last-at [] f before = here-at f [] f.depth refl
last-at (g ∷ gs) f before =
    let less : g.depth < f.depth = before.0 in
    let differ : f.depth ≢ g.depth = λ e. omega arith in
    past-at g (gs ++ f ∷ []) f.depth differ ∙ last-at gs f before.1

-- any other frame
pub other-at : (fs : List OfFrame) (f : OfFrame) (d : ℕ) → d ≢ f.depth → partials_at (fs ++ f ∷ []) d ≡ partials_at fs d
other-at [] f d differ = past-at f [] d differ
other-at (g ∷ gs) f d differ = ap (λ rest. if d == g.depth then partials_in g else rest) (other-at gs f d differ)

-- ---- the entries that are kept

kept-prefix : (fs : List OfFrame) (f : OfFrame) (k : ℕ) → k < f.depth → kept_to k (fs ++ f ∷ []) ≡ kept_to k fs
kept-prefix [] f k deep = kept-none f [] k deep
kept-prefix (g ∷ gs) f k deep = ap (λ rest. if nat_le g.depth k then g ∷ rest else []) (kept-prefix gs f k deep)

kept-all : (fs : List OfFrame) (f : OfFrame) (k : ℕ) → AllBefore f.depth fs → f.depth ≤ k
    → kept_to k (fs ++ f ∷ []) ≡ fs ++ f ∷ []
kept-all [] f k before near = kept-more f [] k near
kept-all (g ∷ gs) f k before near =
    let less : g.depth < f.depth = before.0 in
    kept-more g (gs ++ f ∷ []) k (omega arith) ∙ ap (λ rest. g ∷ rest) (kept-all gs f k before.1 near)

pub before-kept : (fs : List OfFrame) (k : ℕ) → AllBefore (suc k) (kept_to k fs)
before-kept [] k = tt
before-kept (g ∷ gs) k = elim (cases_lt k g.depth) [
  | inl deep ↦ subst (λ (es : List OfFrame). AllBefore (suc k) es) (sym (kept-none g gs k deep)) tt
  | inr near ↦
      subst (λ (es : List OfFrame). AllBefore (suc k) es) (sym (kept-more g gs k near)) (omega arith, before-kept gs k)
]

rises-kept_from : (low : ℕ) (fs : List OfFrame) (k : ℕ) → Rises low (depths_of fs) → Rises low (depths_of (kept_to k fs))
rises-kept_from low [] k rising = tt
rises-kept_from low (g ∷ gs) k rising = elim (cases_lt k g.depth) [
  | inl deep ↦ subst (λ (es : List OfFrame). Rises low (depths_of es)) (sym (kept-none g gs k deep)) tt
  | inr near ↦
      subst (λ (es : List OfFrame). Rises low (depths_of es)) (sym (kept-more g gs k near))
      (rising.0, rises-kept_from (suc g.depth) gs k rising.1)
]

pub rises-kept : (fs : List OfFrame) (k : ℕ) → Rises 1 (depths_of fs) → Rises 1 (depths_of (kept_to k fs))
rises-kept fs k rising = rises-kept_from 1 fs k rising

keeps-from : (low : ℕ) (fs : List OfFrame) (k d : ℕ) → Rises low (depths_of fs) → d ≤ k
    → partials_at (kept_to k fs) d ≡ partials_at fs d
keeps-from low [] k d rising near = refl
keeps-from low (g ∷ gs) k d rising near = elim (cases_lt k g.depth) [
  | inl deep ↦
      let differ : d ≢ g.depth = λ e. omega arith in
      ap (λ (es : List OfFrame). partials_at es d) (kept-none g gs k deep)
      ∙ sym (past-at g gs d differ ∙ none-below (suc g.depth) gs d rising.1 (omega arith))
  | inr in_it ↦
      ap (λ (es : List OfFrame). partials_at es d) (kept-more g gs k in_it)
      ∙ ap (λ rest. if d == g.depth then partials_in g else rest) (keeps-from (suc g.depth) gs k d rising.1 near)
]

-- frames that are no deeper have what they had
pub keeps : (fs : List OfFrame) (k d : ℕ) → Rises 1 (depths_of fs) → d ≤ k
    → partials_at (kept_to k fs) d ≡ partials_at fs d
keeps fs k d rising near = keeps-from 1 fs k d rising near

-- deeper frames have nothing
pub drops : (fs : List OfFrame) (k d : ℕ) → k < d → partials_at (kept_to k fs) d ≡ nothing_at
drops fs k d deep = none-from (kept_to k fs) (suc k) d (before-kept fs k) (omega arith)

-- ---- the last of n entries

pub last-split : (es : List OfFrame) (n : ℕ) (f : OfFrame) → n ≡ length es → 0 < n → f ≡ get_or es (n - 1) f
    → es ≡ take (n - 1) es ++ f ∷ []
last-split es n f count some is =
    sym (take_all (n - 1 + 1) es (omega arith))
    ∙ take_more es (n - 1) f (omega arith)
    ∙ ap (λ (g : OfFrame). take (n - 1) es ++ g ∷ []) (sym is)

pub last-set : (es : List OfFrame) (n : ℕ) (g : OfFrame) → n ≡ length es → 0 < n
    → slice_set es (n - 1) g ≡ take (n - 1) es ++ g ∷ []
last-set es n g count some =
    let long : length (slice_set es (n - 1) g) ≡ length es = length-set es (n - 1) g in
    sym (take_all (n - 1 + 1) (slice_set es (n - 1) g) (omega arith)) ∙ take_more_set es (n - 1) g (omega arith)

pub prefix-shorter : (all es : List OfFrame) (n : ℕ) → take (length es) all ≡ es → n ≤ length es
    → take (length (take n es)) all ≡ take n es
prefix-shorter all es n prefix less =
    ap (λ m. take m all) (length-take-le n es less) ∙ sym (take-take n (length es) all less) ∙ ap (take n) prefix

-- ---- entries, split into the last one and those before it

module _ (es fs : List OfFrame) (f : OfFrame) (split : es ≡ fs ++ f ∷ []) (rising : Rises 1 (depths_of es)) where
  rises-split : Rises 1 (depths_of (fs ++ f ∷ []))
  rises-split = subst (λ (gs : List OfFrame). Rises 1 (depths_of gs)) split rising

  pub rises-rest : Rises 1 (depths_of fs)
  rises-rest = rises-prefix 1 fs f rises-split

  pub before-split : AllBefore f.depth fs
  before-split = before-last 1 fs f rises-split

  -- no entry is of the ground
  pub layer-split : 0 < f.depth
  layer-split = let low : 1 ≤ f.depth = low-last 1 fs f rises-split in omega arith

  pub split-at : partials_at es f.depth ≡ partials_in f
  split-at = ap (λ (gs : List OfFrame). partials_at gs f.depth) split ∙ last-at fs f before-split

  -- if the frame of the last entry is no deeper, all are kept
  pub kept-whole : (k : ℕ) → f.depth ≤ k → kept_to k es ≡ es
  kept-whole k near = ap (kept_to k) split ∙ kept-all fs f k before-split near ∙ sym split

  -- if it is deeper, the last entry decides nothing
  pub kept-rest : (k : ℕ) → k < f.depth → kept_to k fs ≡ kept_to k es
  kept-rest k deep = sym (ap (kept_to k) split ∙ kept-prefix fs f k deep)
