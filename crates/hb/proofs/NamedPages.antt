-- The pages that are named are among the files.
use Rattle.std.proofs.Common.{arith, ◌≡◌, ℕ, zero, suc, ◌+◌, ◌<◌, add-one, List, [], ◌∷◌, ◌++◌, map, length, drop, get_or, refl, sym, ap, ◌∙◌, subst, append_assoc}
use Rattle.std.proofs.Math.Seq.{drop-cons}
use Rattle.std.proofs.lemmas.List.{length-map, map-append}
use Rattle.std.proofs.lemmas.List.Elements.{Contains-append_left, Contains-append_right, Contains-get_or}
use Rattle.std.specs.List.{AllZip, Contains}
use denote.Ref.{Bor}
use Rattle.handlebars_base.specs.Bytes.{Text}
use Rattle.hb.specs.Checks.{FileText, IsFileAt, IsPageAt, owned_text}
use Rattle.hb.specs.declared.gathering.OwnedFile.{OwnedFile}

-- More files have the pages of the files before.
pub page-more : (fs more : List FileText) (name path : Text) → IsPageAt fs name path → IsPageAt (fs ++ more) name path
page-more fs more name path p = (p.0, Contains-append_left fs more p.0 p.1, p.2, p.3)

zip-map : {A B : Type 0} (R S : A → B → Type 0) → ((x : A) (y : B) → R x y → S x y) → (xs : List A) (ys : List B) → AllZip R xs ys → AllZip S xs ys
zip-map R S f [] [] h = tt
zip-map R S f [] (y ∷ ys) h = h
zip-map R S f (x ∷ xs) [] h = h
zip-map R S f (x ∷ xs) (y ∷ ys) h = (f x y h.0, zip-map R S f xs ys h.1)

zip-push : {A B : Type 0} (R : A → B → Type 0) (xs : List A) (ys : List B) (x : A) (y : B) → AllZip R xs ys → R x y
    → AllZip R (xs ++ x ∷ []) (ys ++ y ∷ [])
zip-push R [] [] x y h r = (r, tt)
zip-push R [] (z ∷ ys) x y h r = elim h [ ]
zip-push R (z ∷ xs) [] x y h r = elim h [ ]
zip-push R (z ∷ xs) (w ∷ ys) x y h r = (h.0, zip-push R xs ys x y h.1 r)

-- A page is added to those that are there, and files may be, behind those that are there.
pub pages-more : (fs gs more : List FileText) (ns ms : List Text) (paths : List Text) (name path : Text)
    → gs ≡ fs ++ more → ms ≡ ns ++ name ∷ [] → AllZip (IsPageAt fs) ns paths → IsPageAt gs name path
    → AllZip (IsPageAt gs) ms (paths ++ path ∷ [])
pages-more fs gs more ns ms paths name path files pages h p =
    subst (λ (zs : List Text). AllZip (IsPageAt gs) zs (paths ++ path ∷ [])) (sym pages)
    (zip-push (IsPageAt gs) ns paths name path
    (zip-map (IsPageAt fs) (IsPageAt gs)
    (λ n q r. subst (λ (zs : List FileText). IsPageAt zs n q) (sym files) (page-more fs more n q r)) ns paths h) p)

-- One argument more is read.
pub read-more : (done : List Text) (ts : List (Bor Text)) (i : ℕ) (d : Bor Text) → i < length ts
    → done ++ map (λ t. t.now) (drop i ts) ≡ map (λ t. t.now) ts
    → (done ++ (get_or ts i d).now ∷ []) ++ map (λ t. t.now) (drop (i + 1) ts) ≡ map (λ t. t.now) ts
read-more done ts i d h is =
    append_assoc done ((get_or ts i d).now ∷ []) (map (λ t. t.now) (drop (i + 1) ts))
    ∙ rw (add-one) (ap (λ (zs : List (Bor Text)). done ++ map (λ t. t.now) zs) (sym (drop-cons ts i d h)))
    ∙ is

get_or-map : (os : List OwnedFile) (i : ℕ) (o : OwnedFile) → get_or (map owned_text os) i (owned_text o) ≡ owned_text (get_or os i o)
get_or-map [] i o = refl
get_or-map (x ∷ os) zero o = refl
get_or-map (x ∷ os) (suc i) o = get_or-map os i o

-- a file among these
pub page-among : (os : List OwnedFile) (i : ℕ) (o : OwnedFile) (name path : Text) → i < length os → o ≡ get_or os i o
    → (owned_text o).name ≡ name → IsFileAt path (owned_text o) → IsPageAt (map owned_text os) name path
page-among os i o name path h is named at =
    let there : Contains (map owned_text os) (owned_text o) =
    subst (Contains (map owned_text os)) (get_or-map os i o ∙ ap owned_text (sym is))
    (Contains-get_or (map owned_text os) i (owned_text o) (subst (λ (n : ℕ). i < n) (sym (length-map os owned_text)) h)) in
    (owned_text o, there, named, at)

-- a file behind the others
pub page-behind : (os ps : List OwnedFile) (o : OwnedFile) (name path : Text) → ps ≡ os ++ o ∷ []
    → (owned_text o).name ≡ name → IsFileAt path (owned_text o) → IsPageAt (map owned_text ps) name path
page-behind os ps o name path is named at =
    let there : Contains (map owned_text os ++ owned_text o ∷ []) (owned_text o) =
    Contains-append_right (map owned_text os) (owned_text o ∷ []) (owned_text o) (0, omega arith, refl) in
    subst (λ (zs : List FileText). IsPageAt zs name path) (sym (ap (map owned_text) is ∙ map-append owned_text os (o ∷ [])))
    (owned_text o, there, named, at)

pub files-behind : (os ps : List OwnedFile) (o : OwnedFile) → ps ≡ os ++ o ∷ []
    → (more : List FileText) × (map owned_text ps ≡ map owned_text os ++ more)
files-behind os ps o is = (owned_text o ∷ [], ap (map owned_text) is ∙ map-append owned_text os (o ∷ []))
