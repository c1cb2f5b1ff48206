-- The longest prefix of a base path under which a name has a value.
use Rattle.std.proofs.Common.{◌≡◌, ◌⊎◌, inl, inr, ℕ, zero, suc, ◌+◌, ◌<◌, ◌≤◌, List, [], ◌∷◌, ◌++◌, length, take, drop, get_or, Option, Some, None, option_map, true, IfSome, String, Global, Bor, string_bytes, rules, refl, sym, ap, ◌∙◌, subst, arith, add-one, drop-cons}
use Rattle.std.proofs.lemmas.List.{take-map}
use Rattle.serde_json.specs.Data.{Data}
use Rattle.serde_json.specs.declared.value.Value.{Value}
use Rattle.handlebars_base.specs.Answers.{Answer, gives, fails}
use Rattle.handlebars_base.specs.Bytes.{Text}
use Rattle.handlebars_base.specs.Path.{named}
use Rattle.handlebars_base.specs.Optional.{◌>>=◌, with_or}
use Rattle.handlebars_base.specs.Scoped.{walked, missing}
use Rattle.handlebars_scope.specs.Scopes.{Frame}
use Rattle.handlebars_scope.specs.Resolve.{member_at, value_at, then_at, if_any, count_one_name, or_else, longest, found_by, found_prefix, bound_resolution, unbound_resolution, resolution_from, in_block_value, names_of, navigate}
use Rattle.handlebars_scope.specs.ResolutionView.{hit_of, names_in}
use Rattle.handlebars_scope.specs.Prefixes.{prefix, IsLongest, HasNoPrefix, TakesLongest}

-- ---- the walk along a base path, which remembers what was found last

-- the prefix has this many more names
abbrev pub added : ℕ → Option (ℕ × Data) → Option (ℕ × Data)
added i None = None
added i (Some found) = Some (i + found.0, found.1)

-- what a name leads to from a value, after this many names
abbrev pub hit : ℕ → Data → Text → Option (ℕ × Data)
hit i d name = option_map (λ e. (i, e)) (if_any (member_at d name))

-- what is found from here on, or was found before
abbrev pub or_before : ℕ → Data → List Text → Text → Option (ℕ × Data) → Option (ℕ × Data)
or_before i d names name before = or_else (added i (longest d names name)) before

or_else-one_more : (i : ℕ) (further : Option (ℕ × Data)) (here : Option Data) (before : Option (ℕ × Data))
    → or_else (added i (or_else (count_one_name further) (option_map (λ e. (0, e)) here))) before
    ≡ or_else (added (i + 1) further) (or_else (option_map (λ e. (i, e)) here) before)
or_else-one_more i (Some found) here before =
    let count : i + (found.0 + 1) ≡ i + 1 + found.0 = omega arith in
    ap (λ n. Some (n, found.1)) count
or_else-one_more i None (Some e) before =
    let count : i + 0 ≡ i = omega arith in
    ap (λ n. Some (n, e)) count
or_else-one_more i None None before = refl

-- past a name that leads to a value
or_before-on : (i : ℕ) (d e : Data) (n : Text) (ns : List Text) (name : Text) (before : Option (ℕ × Data))
    → if_any (member_at d n) ≡ Some e
    → or_before i d (n ∷ ns) name before ≡ or_before (i + 1) e ns name (or_else (hit i d name) before)
or_before-on i d e n ns name before is =
    ap (λ o. or_else (added i (or_else (o >>= λ x. count_one_name (longest x ns name)) (hit 0 d name))) before) is
    ∙ or_else-one_more i (longest e ns name) (if_any (member_at d name)) before

-- past a name of the code's path
pub or_before-past : (i : ℕ) (d e : Data) (base : List (String Global)) (link : String Global) (name : Text)
    (before after : Option (ℕ × Data)) → i < length base → link ≡ get_or base i link
    → Some e ≡ if_any (member_at d (string_bytes link)) → after ≡ or_else (hit i d name) before
    → or_before (i + 1) e (names_in (drop (i + 1) base)) name after ≡ or_before i d (names_in (drop i base)) name before
or_before-past i d e base link name before after inside is_link leads is =
    let rest = names_in (drop (suc i) base) in
    let from_link : drop i base ≡ link ∷ drop (suc i) base =
    drop-cons base i link inside ∙ ap (λ s. s ∷ drop (suc i) base) (sym is_link) in
    ap (or_before (i + 1) e (names_in (drop (i + 1) base)) name) is
    ∙ ap (λ j. or_before (i + 1) e (names_in (drop j base)) name (or_else (hit i d name) before)) (add-one i)
    ∙ sym (or_before-on i d e (string_bytes link) rest name before (sym leads))
    ∙ sym (ap (λ ss. or_before i d (names_in ss) name before) from_link)

-- the prefix that is found has no more names than there are
pub retained-within : (n i : ℕ) (here : Option Data) (result before : Option (ℕ × Bor Value))
    → option_map hit_of result ≡ or_else (option_map (λ d. (i, d)) here) (option_map hit_of before)
    → i ≤ n → IfSome before (λ found. found.0 ≤ n) → IfSome result (λ found. found.0 ≤ n)
retained-within n i here None before is fits retained = search rules
retained-within n i (Some d) (Some found) before is fits retained =
    let same : found.0 ≡ i = ap (λ o. with_or o (λ hit. hit.0) 0) is in
    subst (λ m. m ≤ n) (sym same) fits
retained-within n i None (Some found) None is fits retained = cc
retained-within n i None (Some found) (Some earlier) is fits retained =
    let same : found.0 ≡ earlier.0 = ap (λ o. with_or o (λ hit. hit.0) 0) is in
    subst (λ m. m ≤ n) (sym same) retained

-- the full path of what is found
pub found_prefix-retained : (base : List (String Global)) (retained : ℕ) (names : List Text) (name : Text) (d : Data)
    → names ≡ names_in (take retained base) ++ name ∷ []
    → found_prefix (names_in base) name (Some (retained, d)) ≡ walked d names
found_prefix-retained base retained names name d is =
    ap (λ (ns : List Text). walked d (ns ++ name ∷ [])) (take-map string_bytes retained base) ∙ ap (walked d) (sym is)

-- ---- the law

-- the last of the n + 1 options that has a value, by its number, or none
abbrev IsLast : (ℕ → Option Data) → ℕ → Option (ℕ × Data) → Type 0
IsLast at n None = (m : ℕ) → m ≤ n → at m ≡ None
IsLast at n (Some found) =
    (found.0 ≤ n) × (at found.0 ≡ Some found.1) × ((m : ℕ) → found.0 < m → m ≤ n → at m ≡ None)

-- one more option before the others
last-more : (at : ℕ → Option Data) (n : ℕ) (further : Option (ℕ × Data)) (first : Option Data) → at 0 ≡ first
    → IsLast (λ m. at (suc m)) n further
    → IsLast at (suc n) (or_else (count_one_name further) (option_map (λ e. (0, e)) first))
last-more at n None None is last = elim [
  | zero ↦ λ inside. is
  | suc m ↦ λ inside. last m (omega arith)
]
last-more at n None (Some e) is last = (
  omega arith,
  is,
  elim [
    | zero ↦ λ above inside. absurd (omega arith)
    | suc m ↦ λ above inside. last m (omega arith)
  ],
)
last-more at n (Some found) first is last = (
  omega (arith, last.0),
  ap at (add-one found.0) ∙ last.1,
  elim [
    | zero ↦ λ above inside. absurd (omega arith)
    | suc m ↦ λ above inside. last.2 m (omega arith) (omega arith)
  ],
)

if_any-then_at : (a : Answer (Option Data)) (next : Data → Answer (Option Data))
    → if_any (then_at a next) ≡ (if_any a >>= λ e. if_any (next e))
if_any-then_at (gives (Some d)) next = refl
if_any-then_at (gives None) next = refl
if_any-then_at (fails r) next = refl

some-itself : (o : Option Data) → (o >>= λ e. Some e) ≡ o
some-itself (Some e) = refl
some-itself None = refl

-- what a name leads to under the prefix of this many names
abbrev under : Data → List Text → Text → ℕ → Option Data
under d base name n = if_any (value_at d (prefix n base name))

under-none : (d : Data) (base : List Text) (name : Text) → under d base name 0 ≡ if_any (member_at d name)
under-none d base name =
    if_any-then_at (member_at d name) (λ e. gives (Some e)) ∙ some-itself (if_any (member_at d name))

under-more : (d : Data) (n : Text) (ns : List Text) (name : Text) (m : ℕ)
    → under d (n ∷ ns) name (suc m) ≡ (if_any (member_at d n) >>= λ e. under e ns name m)
under-more d n ns name m = if_any-then_at (member_at d n) (λ e. value_at e (prefix m ns name))

longest-is_last : (base : List Text) (d : Data) (name : Text)
    → IsLast (under d base name) (length base) (longest d base name)
longest-is_last [] d name =
    let go : (r : Option Data) → if_any (member_at d name) ≡ r
    → IsLast (under d [] name) 0 (option_map (λ e. (0, e)) r) = elim [
      | None ↦ λ e m inside. let z : m ≡ 0 = omega arith in ap (under d [] name) z ∙ under-none d [] name ∙ e
      | Some v ↦ λ e. (omega arith, under-none d [] name ∙ e, λ m above inside. absurd (omega arith))
    ] in go _ refl
longest-is_last (n ∷ ns) d name =
    let at = under d (n ∷ ns) name in
    let look = if_any (member_at d name) in
    let go : (link : Option Data) → if_any (member_at d n) ≡ link
    → IsLast at (suc (length ns))
    (or_else (link >>= λ e. count_one_name (longest e ns name)) (option_map (λ e. (0, e)) look)) = elim [
      | None ↦ λ e. last-more at (length ns) None look (under-none d (n ∷ ns) name)
          (λ m inside. under-more d n ns name m ∙ ap (λ o. o >>= λ x. under x ns name m) e)
      | Some x ↦ λ e.
          let each : (m : ℕ) → at (suc m) ≡ under x ns name m = λ m.
          under-more d n ns name m ∙ ap (λ o. o >>= λ y. under y ns name m) e in
          let all : (λ m. at (suc m)) ≡ under x ns name = λ i m. each m i in
          last-more at (length ns) (longest x ns name) look (under-none d (n ∷ ns) name)
          (subst (λ f. IsLast f (length ns) (longest x ns name)) (sym all) (longest-is_last ns x name))
    ] in go _ refl

-- if no block binds the name and the nearest block has no base value, the name is looked up under the prefixes
navigate-under_prefix : (d : Data) (f : Frame) (fs : List Frame) (name : Text)
    → bound_resolution (f ∷ fs) (named name ∷ []) ≡ None → f.base_value ≡ None
    → navigate true (f ∷ fs) (named name ∷ []) d ≡ gives (found_prefix f.base_path name (longest d f.base_path name))
navigate-under_prefix d f fs name unbound no_value =
    let segments = named name ∷ [] in
    ap (λ o. found_by (with_or o (λ resolution. resolution) (unbound_resolution true (f ∷ fs) segments)) d) unbound
    ∙ ap (λ o. found_by (with_or o (λ v. in_block_value v (names_of segments))
    (resolution_from true f.base_path segments (Some name))) d) no_value

pub takes_longest : TakesLongest
takes_longest d f fs name unbound no_value =
    let is = navigate-under_prefix d f fs name unbound no_value in
    let go : (r : Option (ℕ × Data)) → IsLast (under d f.base_path name) (length f.base_path) r
    → navigate true (f ∷ fs) (named name ∷ []) d ≡ gives (found_prefix f.base_path name r)
    → ((n : ℕ) × (v : Data) × IsLongest d f.base_path name n v
    × (navigate true (f ∷ fs) (named name ∷ []) d ≡ gives (walked v (prefix n f.base_path name))))
    ⊎ (HasNoPrefix d f.base_path name × (navigate true (f ∷ fs) (named name ∷ []) d ≡ gives missing)) = elim [
      | None ↦ λ last e. inr (last, e)
      | Some found ↦ λ last e. inl (found.0, found.1, record { is_prefix = last.0; leads = last.1; longer = last.2 }, e)
    ] in go (longest d f.base_path name) (longest-is_last f.base_path d name) is
