-- Paths at the start of longer texts, as they are read.
use Rattle.std.proofs.Common.{◌≡◌, ℕ, ◌+◌, ◌-◌, ◌<◌, ◌≤◌, Bool, true, List, [], ◌++◌, length, take, drop, Option, Some, None, refl, sym, ap, subst, ◌∙◌, arith, inl, inr, append-nil, length-append}
use Rattle.std.specs.Prelude.{◌↔◌}
use Rattle.std.specs.Option.{option_map}
use Rattle.std.specs.Str.{IsCharBoundary}
use Rattle.std.proofs.lemmas.List.{take-append-drop, take_at, drop_at, length-take, nil_from_length}
use Rattle.std.proofs.lemmas.Option.{same_Some, none-some}
use Rattle.handlebars_base.specs.Path.{Reference, raw_of, IsPath, meaning, Link, Shape, itself, at_root, at_name, in_parts, spelled_path}
use Rattle.handlebars_base.specs.PathReading.{Start, here, from_root, from_variable, from_part, start_at, links_after, is_dotted, shape_from, start_segments, start_meaning, shape_at, path_of, path_at, path_token_at, reference_from, reference_len}
use Rattle.handlebars_base.specs.Optional.{◌>>=◌}
use Rattle.handlebars_base.specs.Laws.{IsPathPrefix}
use Rattle.handlebars_base.proofs.OptionBinds.{bind_some, map_some, none_or_some}
use Rattle.handlebars_base.proofs.PathShapes.{shape_at_takes, shape_at_again, path_known, path_is}
use Rattle.handlebars_base.proofs.ReferenceLength.{reference_len-le, reference_len_boundary}
use Rattle.handlebars_base.proofs.References.{reference_len-append, reference_len-stops, ends_reference}

-- ---- a path, and what follows it

prefix_ends : (t : List ℕ) (means : Reference) → IsPath (take (reference_len t) t) means →
    reference_len (drop (reference_len t) t) ≡ 0
prefix_ends t means h =
    let prefix = take (reference_len t) t in
    let back = drop (reference_len t) t in
    let goes : reference_len t ≡ length prefix + reference_len back =
    ap reference_len (sym (take-append-drop (reference_len t) t)) ∙ reference_len-append prefix back means h in
    omega (arith, goes, reference_len-le t, length-take (reference_len t) t)

raw_of-meaning : (t : List ℕ) (s : Shape) → raw_of (meaning t s) ≡ t
raw_of-meaning t itself = refl
raw_of-meaning t (at_root ss) = refl
raw_of-meaning t (at_name n name ss) = refl
raw_of-meaning t (in_parts dotted p ss) = refl

raw_of-path : (t : List ℕ) (means : Reference) → IsPath t means → raw_of means ≡ t
raw_of-path t means h = ap raw_of h.gives ∙ raw_of-meaning t h.shape

-- what is found is a path, and ends where the reference ends
pub path_at-some : (t : List ℕ) (p : Reference × List ℕ) → path_at t ≡ Some p → IsPathPrefix t p.0 p.1
unfolding path_at
path_at-some t p e =
    let prefix = take (reference_len t) t in
    let back = drop (reference_len t) t in
    let b = bind_some (path_of prefix) (λ m. Some (m, back)) p e in
    let is = path_is prefix b.0 b.1 in
    let raw = raw_of-path prefix b.0 is in
    subst (λ (z : Reference × List ℕ). IsPathPrefix t z.0 z.1) (same_Some _ p b.2) (record {
      whole = sym (take-append-drop (reference_len t) t) ∙ ap (λ (z : List ℕ). z ++ back) (sym raw);
      path = subst (λ (z : List ℕ). IsPath z b.0) (sym raw) is;
      ends = prefix_ends t b.0 is;
    })

abbrev pub with_rest : List ℕ → Option Reference → Option (Reference × List ℕ)
with_rest rest o = o >>= λ m. Some (m, rest)

path_found : (t rest : List ℕ) (means : Reference) (n : ℕ) → IsPath t means → length t ≡ n →
    with_rest (drop n (t ++ rest)) (path_of (take n (t ++ rest))) ≡ Some (means, rest)
path_found t rest means n h e = rw (take_at t rest n e, drop_at t rest n e, path_known t means h) refl

-- a path is found before a rest in which no reference continues
pub path_at-append : (t rest : List ℕ) (means : Reference) → IsPath t means → reference_len rest ≡ 0 →
    path_at (t ++ rest) ≡ Some (means, rest)
unfolding path_at
path_at-append t rest means h e =
    path_found t rest means (reference_len (t ++ rest)) h (omega (arith, e, reference_len-append t rest means h))

pub path_at-stops : (t rest : List ℕ) (means : Reference) → IsPath t means → ends_reference rest ≡ true →
    path_at (t ++ rest) ≡ Some (means, rest)
path_at-stops t rest means h stop = path_at-append t rest means h (reference_len-stops rest stop)

pub path_prefixes : (t : List ℕ) (means : Reference) (rest : List ℕ) →
    (path_at t ≡ Some (means, rest)) ↔ IsPathPrefix t means rest
path_prefixes t means rest = (
  path_at-some t (means, rest),
  λ h. ap path_at h.whole ∙ path_at-append (raw_of means) rest means h.path h.ends,
)

-- ---- as it is read from left to right

-- a path that is found is the shape that is read
shape_at-path : (t : List ℕ) (p : Reference × List ℕ) (h : IsPathPrefix t p.0 p.1) → shape_at t ≡ Some (h.path.shape, p.1)
shape_at-path t p h =
    ap shape_at (h.whole ∙ ap (λ (z : List ℕ). z ++ p.1) h.path.spells) ∙
    shape_at_again h.path.shape p.1 h.path.fits h.ends

pub path_at-none : (t : List ℕ) → shape_at t ≡ None → path_at t ≡ None
path_at-none t none =
    elim (none_or_some (path_at t)) [
      | inl nothing ↦ nothing
      | inr some ↦ absurd (none-some _ (sym none ∙ shape_at-path t some.0 (path_at-some t some.0 some.1)))
    ]

-- a reference continues after the shape
pub path_at-goes : (t : List ℕ) (s : Shape) (rest : List ℕ) → shape_at t ≡ Some (s, rest) → 0 < reference_len rest →
    path_at t ≡ None
path_at-goes t s rest read more =
    elim (none_or_some (path_at t)) [
      | inl nothing ↦ nothing
      | inr some ↦
          let h = path_at-some t some.0 some.1 in
          let same = same_Some (s, rest) (h.path.shape, some.0.1) (sym read ∙ shape_at-path t some.0 h) in
          let ends : reference_len rest ≡ reference_len some.0.1 = ap (λ (x : Shape × List ℕ). reference_len x.1) same in
          absurd (omega (arith, h.ends))
    ]

-- no reference continues after the shape
pub path_at-ends : (t : List ℕ) (s : Shape) (rest : List ℕ) → shape_at t ≡ Some (s, rest) → reference_len rest ≡ 0 →
    path_at t ≡ Some (meaning (spelled_path s) s, rest)
path_at-ends t s rest read e =
    let taken = shape_at_takes t (s, rest) read in
    let is : IsPath (spelled_path s) (meaning (spelled_path s) s) = record { shape = s; fits = taken.fits; spells = refl; gives = refl } in
    ap path_at taken.parts ∙ path_at-append (spelled_path s) rest (meaning (spelled_path s) s) is e

-- ---- where the text is split

abbrev pub raw_with_rest : Option (Reference × List ℕ) → Option (List ℕ × List ℕ)
raw_with_rest o = option_map (λ p. (raw_of p.0, p.1)) o

pub path_token_at-none : (t : List ℕ) → shape_at t ≡ None → path_token_at t ≡ None
path_token_at-none t none = ap raw_with_rest (path_at-none t none)

pub path_token_at-goes : (t : List ℕ) (s : Shape) (rest : List ℕ) → shape_at t ≡ Some (s, rest) → 0 < reference_len rest →
    path_token_at t ≡ None
path_token_at-goes t s rest read more = ap raw_with_rest (path_at-goes t s rest read more)

-- what is left is no longer than the text
pub left_length : (t : List ℕ) (s : Shape) (rest : List ℕ) → shape_at t ≡ Some (s, rest) → length rest ≤ length t
left_length t s rest read =
    let taken = shape_at_takes t (s, rest) read in
    omega (arith, ap length taken.parts, length-append (spelled_path s) rest)

prefix_length : (t : List ℕ) (s : Shape) (rest : List ℕ) → shape_at t ≡ Some (s, rest) →
    length t - length rest ≡ length (spelled_path s)
prefix_length t s rest read =
    let taken = shape_at_takes t (s, rest) read in
    omega (arith, ap length taken.parts, length-append (spelled_path s) rest)

pub boundary_before : (t : List ℕ) (s : Shape) (rest : List ℕ) → shape_at t ≡ Some (s, rest) → reference_len rest ≡ 0 →
    IsCharBoundary t (length t - length rest)
boundary_before t s rest read e =
    let taken = shape_at_takes t (s, rest) read in
    let is : IsPath (spelled_path s) (meaning (spelled_path s) s) = record { shape = s; fits = taken.fits; spells = refl; gives = refl } in
    let goes : reference_len t ≡ length (spelled_path s) =
    ap reference_len taken.parts ∙ omega (arith, reference_len-append (spelled_path s) rest (meaning (spelled_path s) s) is) in
    subst (λ (n : ℕ). IsCharBoundary t n) (goes ∙ sym (prefix_length t s rest read)) (reference_len_boundary t)

pub path_token_before : (t : List ℕ) (s : Shape) (rest : List ℕ) → shape_at t ≡ Some (s, rest) → reference_len rest ≡ 0 →
    path_token_at t ≡ Some (take (length t - length rest) t, drop (length t - length rest) t)
path_token_before t s rest read e =
    let taken = shape_at_takes t (s, rest) read in
    let n = length t - length rest in
    let long : length (spelled_path s) ≡ n = sym (prefix_length t s rest read) in
    let prefix : take n t ≡ spelled_path s = ap (take n) taken.parts ∙ take_at (spelled_path s) rest n long in
    let back : drop n t ≡ rest = ap (drop n) taken.parts ∙ drop_at (spelled_path s) rest n long in
    ap raw_with_rest (path_at-ends t s rest read e) ∙
    rw (raw_of-meaning (spelled_path s) s, prefix, back) refl

-- ---- the path that is created

meaning-start : (text : List ℕ) (dotted : Bool) (s : Start) (ss : List Link) →
    meaning text (shape_from dotted s ss) ≡ start_meaning text s (start_segments s ss)
meaning-start text dotted here ss = refl
meaning-start text dotted from_root ss = refl
meaning-start text dotted (from_variable level name) ss = refl
meaning-start text dotted (from_part p) ss = refl

pub shape_at-start : (t : List ℕ) (s : Start) (r : List ℕ) → start_at t ≡ Some (s, r) →
    shape_at t ≡ Some (shape_from (is_dotted t) s (links_after s r).0, (links_after s r).1)
unfolding shape_at
shape_at-start t s r e = rw e refl

-- what follows the links is left
pub is_left : (t : List ℕ) (s : Start) (r rest : List ℕ) → start_at t ≡ Some (s, r) → rest ≡ (links_after s r).1 →
    (shape : Shape) × (shape_at t ≡ Some (shape, rest))
is_left t s r rest start same =
    (shape_from (is_dotted t) s (links_after s r).0, shape_at-start t s r start ∙ rw same refl)

pub shape_at-no_start : (t : List ℕ) → start_at t ≡ None → shape_at t ≡ None
unfolding shape_at
shape_at-no_start t e = rw e refl

some_pair : (p : Reference × List ℕ) (m : Reference) (rest : List ℕ) → p.0 ≡ m → p.1 ≡ rest → Some p ≡ Some (m, rest)
some_pair p m rest a b = ap (λ (x : Reference). Some (x, p.1)) a ∙ ap (λ (r : List ℕ). Some (m, r)) b

pub path_at-start : (t : List ℕ) (s : Start) (r raw rest : List ℕ) → start_at t ≡ Some (s, r) → path_token_at t ≡ Some (raw, rest) →
    path_at t ≡ Some (start_meaning raw s (start_segments s (links_after s r).0), rest)
path_at-start t s r raw rest start cut =
    let p = map_some (λ (p : Reference × List ℕ). (raw_of p.0, p.1)) (path_at t) (raw, rest) cut in
    let h = path_at-some t p.0 p.1 in
    let ss = (links_after s r).0 in
    let shape = same_Some _ _ (sym (shape_at-path t p.0 h) ∙ shape_at-start t s r start) in
    let means : p.0.0 ≡ start_meaning raw s (start_segments s ss) =
    h.path.gives ∙ ap (λ (x : Shape × List ℕ). meaning (raw_of p.0.0) x.0) shape ∙
    ap (λ (x : List ℕ × List ℕ). meaning x.0 (shape_from (is_dotted t) s ss)) p.2 ∙ meaning-start raw (is_dotted t) s ss in
    p.1 ∙ some_pair p.0 _ rest means (ap (λ (x : List ℕ × List ℕ). x.1) p.2)

-- ---- as the contract for whole texts states it

pub is_whole : (t : List ℕ) (p : Reference × List ℕ) → path_at t ≡ Some p → length p.1 ≡ 0 → IsPath t p.0
is_whole t p e none =
    let h = path_at-some t p e in
    let raw = raw_of p.0 in
    let all : t ≡ raw = h.whole ∙ ap (λ (z : List ℕ). raw ++ z) (nil_from_length p.1 none) ∙ append-nil raw in
    subst (λ (z : List ℕ). IsPath z p.0) (sym all) h.path

whole_at : (t : List ℕ) (means : Reference) → IsPath t means → path_at t ≡ Some (means, [])
unfolding reference_from
whole_at t means h = ap path_at (sym (append-nil t)) ∙ path_at-append t [] means h refl

pub is_no_whole : (t : List ℕ) (p : Reference × List ℕ) → path_at t ≡ Some p → 0 < length p.1 →
    (means : Reference) → IsPath t means → ⊥
is_no_whole t p e more means h =
    let none : length p.1 ≡ 0 = ap (λ (x : Reference × List ℕ). length x.1) (same_Some p (means, []) (sym e ∙ whole_at t means h)) in
    absurd (omega arith)

pub is_no_path : (t : List ℕ) → path_at t ≡ None → (means : Reference) → IsPath t means → ⊥
is_no_path t e means h = none-some (means, []) (sym e ∙ whole_at t means h)
