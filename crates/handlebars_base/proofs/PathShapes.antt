-- A path at the start of a text: the text spells what is read, and what a text spells is read if no reference continues
-- after it.
use Rattle.std.proofs.Common.{◌≡◌, ℕ, zero, suc, ◌+◌, Bool, true, false, cond, List, [], ◌∷◌, ◌++◌, length, Option, Some, None, refl, sym, ap, subst, ◌∙◌, append_assoc, append-nil, arith, inl, inr}
use Rattle.std.specs.Prelude.{codes, ◌==◌, ◌&&◌, ◌||◌}
use Rattle.std.specs.List.{prefix_len}
use Rattle.std.specs.Str.{bytes_eq}
use Rattle.std.specs.Option.{option_map}
use Rattle.std.proofs.Math.Dec.{eqb-suc-zero}
use Rattle.std.proofs.lemmas.Bool.{or_parts, and_parts, eqb-true, cases_Bool, both_ways, false_from_ne_true}
use Rattle.std.proofs.lemmas.Option.{same_Some, cond_some}
use Rattle.std.proofs.lemmas.List.{take-append-drop, take_at, drop_at, nil_from_length}
use Rattle.std.proofs.lemmas.Slice.Eq.{bytes_eq-Decides}
use Rattle.handlebars_base.specs.Path.{Reference, meaning, IsPath, IsIdentifier, PathPart, dots, plain, bracketed, spelled_part, IsPathPart, is_dots, Link, spelled_links, AreLinks, ups, Shape, itself, at_root, at_name, in_parts, spelled_path, IsShape}
use Rattle.handlebars_base.specs.PathReading.{is_up_mark, after_up, ups_at, part_at, link_at, links_of, Start, here, from_root, from_variable, from_part, named_start, at_sign_start, part_start, start_without_at_sign, start_at, links_after, is_dotted, shape_from, shape_at, shape_of, path_of, reference_from, reference_len}
use Rattle.handlebars_base.specs.Optional.{◌>>=◌, with_or}
use Rattle.handlebars_base.specs.Texts.{after_byte, symbols_of, after_symbols}
use Rattle.handlebars_base.specs.Bytes.{is_symbol}
use Rattle.handlebars_base.proofs.OptionBinds.{bind_some, with_or_is, guard_some, map_some}
use Rattle.handlebars_base.proofs.PathMarks.{ups_again, after_up_other}
use Rattle.handlebars_base.proofs.PathParts.{part_takes, part_again}
use Rattle.handlebars_base.proofs.ReferenceLength.{prefix_len-end, after_byte-end}
use Rattle.handlebars_base.proofs.PathLinks.{links_of_take, links_stop, links_of_again}
use Rattle.handlebars_base.proofs.Prefixes.{after_byte_takes, after_byte_other}
use Rattle.handlebars_base.proofs.Runs.{prefix_pass, prefix_again}
use Rattle.handlebars_base.proofs.Bytes.{other_byte}

-- ---- the text spells what is read: the start

ups_take : (n : ℕ) (t : List ℕ) → (k : ℕ) × (t ≡ ups k ++ (ups_at n t).1) × ((ups_at n t).0 ≡ n + k)
unfolding ups_at
ups_take n [] = (0, refl, omega arith)
ups_take n (a ∷ []) = (0, refl, omega arith)
ups_take n (a ∷ b ∷ []) = (0, refl, omega arith)
ups_take n (a ∷ b ∷ c ∷ t) =
    elim (cases_Bool (is_up_mark a b c)) [
      | inl all ↦
          let p = and_parts (a == 46) _ all in
          let q = and_parts (b == 46) (c == 47) p.1 in
          let first : a ≡ 46 = eqb-true a 46 p.0 in
          let second : b ≡ 46 = eqb-true b 46 q.0 in
          let third : c ≡ 47 = eqb-true c 47 q.1 in
          let more : (k : ℕ) × (t ≡ ups k ++ (ups_at (n + 1) t).1) × ((ups_at (n + 1) t).0 ≡ n + 1 + k) =
          ups_take (n + 1) t in
          let prefix = more.1 in
          rw all (suc more.0, (cc), omega (arith, more.2))
      | inr none ↦ rw none (0, refl, omega arith)
    ]

-- a shape at the start of a text, and what follows it
pub record TakesPrefix (t : List ℕ) (x : Shape × List ℕ) : Type 0 where
  pub parts : t ≡ spelled_path x.0 ++ x.1
  pub fits : IsShape x.0

-- the shape that a start and what follows it make
abbrev pub shape_after : Bool → Start × List ℕ → Shape × List ℕ
shape_after dotted s = (shape_from dotted s.0 (links_after s.0 s.1).0, (links_after s.0 s.1).1)

-- ---- the text spells what is read: names after an `@`

spelled_path_name : (n : ℕ) (name : List ℕ) (ss : List Link) (rest : List ℕ) →
    64 ∷ (ups n ++ (name ++ (spelled_links ss ++ rest))) ≡ spelled_path (at_name n name ss) ++ rest
spelled_path_name n name ss rest =
    ap (λ (r : List ℕ). 64 ∷ (ups n ++ r)) (sym (append_assoc name (spelled_links ss) rest)) ∙
    ap (λ (r : List ℕ). 64 ∷ r) (sym (append_assoc (ups n) (name ++ spelled_links ss) rest))

root_or_name : (b dotted : Bool) (name : List ℕ) (ss : List Link) (rest : List ℕ) → bytes_eq name (codes "root") ≡ b →
    IsIdentifier name → bytes_eq name (codes "this") ≡ false → AreLinks false ss →
    TakesPrefix (64 ∷ (name ++ (spelled_links ss ++ rest))) (shape_from dotted (cond b from_root (from_variable 0 name)) ss, rest)
root_or_name true dotted name ss rest is_root id this fits =
    let root = (bytes_eq-Decides name (codes "root")).0 is_root in
    record { parts = ap (λ (n : List ℕ). 64 ∷ (n ++ (spelled_links ss ++ rest))) root; fits = fits }
root_or_name false dotted name ss rest is_root id this fits =
    record { parts = spelled_path_name 0 name ss rest; fits = (id, this, is_root, fits) }

name_fits : (dotted : Bool) (n : ℕ) (name : List ℕ) (ss : List Link) (rest : List ℕ) → IsIdentifier name →
    bytes_eq name (codes "this") ≡ false → AreLinks false ss →
    TakesPrefix (64 ∷ (ups n ++ (name ++ (spelled_links ss ++ rest)))) (shape_from dotted (named_start n name) ss, rest)
name_fits dotted zero name ss rest id this fits =
    root_or_name (bytes_eq name (codes "root")) dotted name ss rest refl id this fits
name_fits dotted (suc n) name ss rest id this fits =
    rw (eqb-suc-zero n) (record { parts = spelled_path_name (suc n) name ss rest; fits = (id, this, fits) })

links_after-named : (n : ℕ) (name t : List ℕ) → links_after (named_start n name) t ≡ links_of false t
links_after-named n name t =
    elim ((n == 0) && bytes_eq name (codes "root")) as (λ b. links_after (cond b from_root (from_variable n name)) t ≡ links_of false t) [
      | true ↦ refl
      | false ↦ refl
    ]

name_takes : (dotted : Bool) (n : ℕ) (r : List ℕ) (x : Start × List ℕ) → at_sign_start (n, r) ≡ Some x →
    TakesPrefix (64 ∷ (ups n ++ r)) (shape_after dotted x)
unfolding at_sign_start
name_takes dotted n r x e =
    let name = symbols_of r in
    let g = guard_some (bytes_eq name [] || bytes_eq name (codes "this")) (named_start n name, after_symbols r) x e in
    let tests = or_parts (bytes_eq name []) (bytes_eq name (codes "this")) g.0 in
    let others = links_of_take false (after_symbols r) in
    let read = links_of false (after_symbols r) in
    let id : IsIdentifier name =
    (λ none. both_ways (bytes_eq name []) tests.0 ((bytes_eq-Decides name []).1 none), prefix_pass is_symbol r) in
    let whole : r ≡ name ++ (spelled_links read.0 ++ read.1) =
    sym (take-append-drop (prefix_len is_symbol r) r) ∙ ap (λ (z : List ℕ). name ++ z) others.parts in
    let fits = name_fits dotted n name read.0 read.1 id tests.1 others.fits in
    subst (λ (y : Start × List ℕ). TakesPrefix (64 ∷ (ups n ++ r)) (shape_after dotted y)) g.1
    (subst (λ (q : List Link × List ℕ). TakesPrefix (64 ∷ (ups n ++ r)) (shape_from dotted (named_start n name) q.0, q.1)) (sym (links_after-named n name (after_symbols r)))
    (subst (λ (z : List ℕ). TakesPrefix (64 ∷ (ups n ++ z)) (shape_from dotted (named_start n name) read.0, read.1)) (sym whole) fits))

at_takes : (dotted : Bool) (t : List ℕ) (x : Start × List ℕ) → at_sign_start (ups_at 0 t) ≡ Some x →
    TakesPrefix (64 ∷ t) (shape_after dotted x)
at_takes dotted t x e =
    let u = ups_take 0 t in
    let level : u.0 ≡ (ups_at 0 t).0 = omega (arith, u.2) in
    let whole : t ≡ ups (ups_at 0 t).0 ++ (ups_at 0 t).1 = u.1 ∙ ap (λ (k : ℕ). ups k ++ (ups_at 0 t).1) level in
    subst (λ (z : List ℕ). TakesPrefix (64 ∷ z) (shape_after dotted x)) (sym whole)
    (name_takes dotted (ups_at 0 t).0 (ups_at 0 t).1 x e)

-- ---- the text spells what is read: parts

record TakesParts (t : List ℕ) (p : PathPart) (q : List Link × List ℕ) : Type 0 where
  pub parts : t ≡ (spelled_part p ++ spelled_links q.0) ++ q.1
  pub fits : IsPathPart p
  pub links : AreLinks (is_dots p) q.0

parts_take : (t : List ℕ) (p : PathPart × List ℕ) → part_at t ≡ Some p → TakesParts t p.0 (links_of (is_dots p.0) p.1)
parts_take t p e =
    let first = part_takes t p e in
    let others = links_of_take (is_dots p.0) p.1 in
    let read = links_of (is_dots p.0) p.1 in
    record {
      parts = first.parts ∙ ap (λ (r : List ℕ). spelled_part p.0 ++ r) others.parts ∙ sym (append_assoc (spelled_part p.0) (spelled_links read.0) read.1);
      fits = first.fits;
      links = others.fits;
    }

-- a text that starts with a part doesn't start with `./`
is_dotted-part : (p : PathPart) (rest : List ℕ) → IsPathPart p → is_dotted (spelled_part p ++ rest) ≡ false
unfolding after_byte
is_dotted-part dots rest fits = refl
is_dotted-part (plain []) rest fits = absurd (fits.0 refl)
is_dotted-part (plain (x ∷ xs)) rest fits = rw (other_byte is_symbol 46 refl x fits.1.0) refl
is_dotted-part (bracketed n) rest fits = refl

is_dotted-dot : (t : List ℕ) → is_dotted (46 ∷ 47 ∷ t) ≡ true
unfolding after_byte
is_dotted-dot t = refl

undotted_takes : (t : List ℕ) (p : PathPart × List ℕ) → part_at t ≡ Some p →
    TakesPrefix t (shape_after (is_dotted t) (from_part p.0, p.1))
undotted_takes t p e =
    let first = part_takes t p e in
    let taken = parts_take t p e in
    let no : is_dotted t ≡ false = ap is_dotted first.parts ∙ is_dotted-part p.0 p.1 first.fits in
    rw no (record { parts = taken.parts; fits = (taken.fits, taken.links) })

dotted_takes : (t : List ℕ) (p : PathPart × List ℕ) → part_at t ≡ Some p →
    TakesPrefix (46 ∷ 47 ∷ t) (shape_after (is_dotted (46 ∷ 47 ∷ t)) (from_part p.0, p.1))
unfolding after_byte
dotted_takes t p e =
    let taken = parts_take t p e in
    record { parts = ap (λ (r : List ℕ). 46 ∷ 47 ∷ r) taken.parts; fits = (taken.fits, taken.links) }

-- after a `.`
abbrev dot_start : List ℕ → Option (Start × List ℕ)
dot_start r = with_or (after_byte 47 r) (λ r. part_at r >>= part_start) (Some (here, r))

dot_takes : (r : List ℕ) (x : Start × List ℕ) → dot_start r ≡ Some x →
    TakesPrefix (46 ∷ r) (shape_after (is_dotted (46 ∷ r)) x)
dot_takes r x e =
    elim (with_or_is (after_byte 47 r) (λ z. part_at z >>= part_start) (Some (here, r)) (Some x) e) [
      | inl slash ↦
          let b = bind_some (part_at slash.0) part_start x slash.2 in
          let whole = after_byte_takes 47 r slash.0 slash.1 in
          subst (λ (y : Start × List ℕ). TakesPrefix (46 ∷ r) (shape_after (is_dotted (46 ∷ r)) y)) (same_Some _ x b.2)
          (subst (λ (z : List ℕ). TakesPrefix (46 ∷ z) (shape_after (is_dotted (46 ∷ z)) (from_part b.0.0, b.0.1))) (sym whole) (dotted_takes slash.0 b.0 b.1))
      | inr alone ↦
          subst (λ (y : Start × List ℕ). TakesPrefix (46 ∷ r) (shape_after (is_dotted (46 ∷ r)) y)) (same_Some (here, r) x alone.1)
          (record { parts = refl; fits = tt })
    ]

without_at_sign_takes : (t : List ℕ) (x : Start × List ℕ) → start_without_at_sign t ≡ Some x → TakesPrefix t (shape_after (is_dotted t) x)
unfolding start_without_at_sign
without_at_sign_takes t x e =
    elim (with_or_is (part_at t) part_start (after_byte 46 t >>= dot_start) (Some x) e) [
      | inl first ↦
          subst (λ (y : Start × List ℕ). TakesPrefix t (shape_after (is_dotted t) y)) (same_Some _ x first.2)
          (undotted_takes t first.0 first.1)
      | inr other ↦
          let b = bind_some (after_byte 46 t) dot_start x other.1 in
          rw (after_byte_takes 46 t b.0 b.1) (dot_takes b.0 x b.2)
    ]

-- ---- the text spells what is read: all

start_takes : (t : List ℕ) (x : Start × List ℕ) → start_at t ≡ Some x → TakesPrefix t (shape_after (is_dotted t) x)
unfolding start_at
start_takes t x e =
    elim (with_or_is (after_byte 64 t) (λ r. at_sign_start (ups_at 0 r)) (start_without_at_sign t) (Some x) e) [
      | inl at ↦ rw (after_byte_takes 64 t at.0 at.1) (at_takes (is_dotted (64 ∷ at.0)) at.0 x at.2)
      | inr other ↦ without_at_sign_takes t x other.1
    ]

pub shape_at_takes : (t : List ℕ) (x : Shape × List ℕ) → shape_at t ≡ Some x → TakesPrefix t x
unfolding shape_at
shape_at_takes t x e =
    let b = bind_some (start_at t) (λ s. Some (shape_after (is_dotted t) s)) x e in
    subst (λ (y : Shape × List ℕ). TakesPrefix t y) (same_Some _ x b.2) (start_takes t b.0 b.1)

-- a shape that the text spells
pub record TakesShape (t : List ℕ) (s : Shape) : Type 0 where
  pub spells : t ≡ spelled_path s
  pub fits : IsShape s

whole_is : (x : Shape × List ℕ) (s : Shape) → cond (length x.1 == 0) (Some x.0) None ≡ Some s →
    (x.1 ≡ []) × (x.0 ≡ s)
whole_is x s e =
    let g = cond_some (length x.1 == 0) x.0 s e in
    (nil_from_length x.1 (eqb-true (length x.1) 0 g.0), g.1)

pub shape_takes : (t : List ℕ) (s : Shape) → shape_of t ≡ Some s → TakesShape t s
unfolding shape_of
shape_takes t s e =
    let b = bind_some (shape_at t) (λ x. cond (length x.1 == 0) (Some x.0) None) s e in
    let all = whole_is b.0 s b.2 in
    let taken = shape_at_takes t b.0 b.1 in
    subst (λ (v : Shape). TakesShape t v) all.1 (record {
      spells = taken.parts ∙ ap (λ (r : List ℕ). spelled_path b.0.0 ++ r) all.0 ∙ append-nil (spelled_path b.0.0);
      fits = taken.fits;
    })

-- ---- what a text spells is read

-- there is no link where no reference continues
link_at-end : (before : Bool) (t : List ℕ) → reference_len t ≡ 0 → link_at before t ≡ None
unfolding link_at
link_at-end before t e = rw (after_byte-end 47 t refl refl e, after_byte-end 46 t refl refl e) refl

-- links up to where no reference continues
links_end : (before : Bool) (ss : List Link) (rest : List ℕ) → AreLinks before ss → reference_len rest ≡ 0 →
    links_of before (spelled_links ss ++ rest) ≡ (ss, rest)
links_end before ss rest fits e =
    links_of_again before ss rest fits (prefix_len-end rest e) (λ b. link_at-end b rest e)

stop_end : (before : Bool) (ss : List Link) (rest : List ℕ) → AreLinks before ss → reference_len rest ≡ 0 →
    prefix_len is_symbol (spelled_links ss ++ rest) ≡ 0
stop_end before ss rest fits e = links_stop before ss rest fits (prefix_len-end rest e)

-- a shape is read if its start and its links are
by_start : (t : List ℕ) (s : Start) (r : List ℕ) (ss : List Link) (rest : List ℕ) → start_at t ≡ Some (s, r) →
    links_after s r ≡ (ss, rest) → shape_at t ≡ Some (shape_from (is_dotted t) s ss, rest)
unfolding shape_at
by_start t s r ss rest start links = rw (start, links) refl

not_up : (name rest : List ℕ) → IsIdentifier name → after_up (name ++ rest) ≡ None
not_up [] rest id = absurd (id.0 refl)
not_up (x ∷ xs) rest id = after_up_other x (xs ++ rest) (other_byte is_symbol 46 refl x id.1.0)

named_again : (n : ℕ) (name rest : List ℕ) → IsIdentifier name → bytes_eq name (codes "this") ≡ false →
    prefix_len is_symbol rest ≡ 0 → at_sign_start (n, name ++ rest) ≡ Some (named_start n name, rest)
unfolding at_sign_start
named_again n name rest id this stop =
    let len = prefix_again is_symbol name rest id.1 stop in
    let prefix = take_at name rest (length name) refl in
    let back = drop_at name rest (length name) refl in
    let some : bytes_eq name [] ≡ false =
    false_from_ne_true (bytes_eq name []) (λ e. id.0 ((bytes_eq-Decides name []).0 e)) in
    rw (len, prefix, back, some, this) refl

at_again : (n : ℕ) (name rest : List ℕ) → IsIdentifier name → bytes_eq name (codes "this") ≡ false →
    prefix_len is_symbol rest ≡ 0 → start_at (64 ∷ (ups n ++ (name ++ rest))) ≡ Some (named_start n name, rest)
unfolding start_at after_byte
at_again n name rest id this stop =
    let level = ups_again n 0 (name ++ rest) (not_up name rest id) ∙ ap (λ (m : ℕ). (m, name ++ rest)) (omega arith) in
    ap at_sign_start level ∙ named_again n name rest id this stop

name_again : (n : ℕ) (name : List ℕ) (ss : List Link) (rest : List ℕ) → IsIdentifier name →
    bytes_eq name (codes "this") ≡ false → AreLinks false ss → reference_len rest ≡ 0 →
    shape_at (spelled_path (at_name n name ss) ++ rest) ≡ Some (shape_from false (named_start n name) ss, rest)
unfolding after_byte
name_again n name ss rest id this fits e =
    let after = spelled_links ss ++ rest in
    let start = at_again n name after id this (stop_end false ss rest fits e) in
    let links = links_after-named n name after ∙ links_end false ss rest fits e in
    ap shape_at (sym (spelled_path_name n name ss rest)) ∙ by_start _ (named_start n name) after ss rest start links

no_at : (p : PathPart) (rest : List ℕ) → IsPathPart p → after_byte 64 (spelled_part p ++ rest) ≡ None
unfolding after_byte
no_at dots rest fits = refl
no_at (plain []) rest fits = absurd (fits.0 refl)
no_at (plain (x ∷ xs)) rest fits = after_byte_other 64 x (xs ++ rest) (other_byte is_symbol 64 refl x fits.1.0)
no_at (bracketed n) rest fits = refl

start_part : (p : PathPart) (rest : List ℕ) → IsPathPart p → prefix_len is_symbol rest ≡ 0 →
    start_at (spelled_part p ++ rest) ≡ Some (from_part p, rest)
unfolding start_at start_without_at_sign
start_part p rest fits stop = rw (no_at p rest fits, part_again p rest fits stop) refl

start_dotted : (p : PathPart) (rest : List ℕ) → IsPathPart p → prefix_len is_symbol rest ≡ 0 →
    start_at (46 ∷ 47 ∷ (spelled_part p ++ rest)) ≡ Some (from_part p, rest)
unfolding start_at start_without_at_sign part_at after_byte
start_dotted p rest fits stop = ap (λ o. o >>= part_start) (part_again p rest fits stop)

start_itself : (rest : List ℕ) → reference_len rest ≡ 0 → start_at (46 ∷ rest) ≡ Some (here, rest)
unfolding start_at start_without_at_sign part_at after_byte
start_itself rest e = rw (after_byte-end 46 rest refl refl e, after_byte-end 47 rest refl refl e) refl

pub shape_at_again : (s : Shape) (rest : List ℕ) → IsShape s → reference_len rest ≡ 0 →
    shape_at (spelled_path s ++ rest) ≡ Some (s, rest)
shape_at_again itself rest fits e = by_start _ here rest [] rest (start_itself rest e) refl
shape_at_again (at_root ss) rest fits e =
    name_again 0 (codes "root") ss rest (λ e. absurd cc, (refl, (refl, (refl, (refl, tt))))) refl fits e
shape_at_again (at_name zero name ss) rest fits e =
    name_again 0 name ss rest fits.0 fits.1 fits.3 e ∙ rw (fits.2) refl
shape_at_again (at_name (suc n) name ss) rest fits e =
    name_again (suc n) name ss rest fits.0 fits.1 fits.2 e ∙ rw (eqb-suc-zero n) refl
shape_at_again (in_parts true p ss) rest fits e =
    let after = spelled_links ss ++ rest in
    let start = start_dotted p after fits.0 (stop_end (is_dots p) ss rest fits.1 e) in
    let whole = ap (λ (r : List ℕ). 46 ∷ 47 ∷ r) (append_assoc (spelled_part p) (spelled_links ss) rest) in
    ap shape_at whole ∙ by_start _ (from_part p) after ss rest start (links_end (is_dots p) ss rest fits.1 e) ∙
    ap (λ b. Some (in_parts b p ss, rest)) (is_dotted-dot (spelled_part p ++ after))
shape_at_again (in_parts false p ss) rest fits e =
    let after = spelled_links ss ++ rest in
    let start = start_part p after fits.0 (stop_end (is_dots p) ss rest fits.1 e) in
    let whole = append_assoc (spelled_part p) (spelled_links ss) rest in
    let no = is_dotted-part p after fits.0 in
    ap shape_at whole ∙ by_start _ (from_part p) after ss rest start (links_end (is_dots p) ss rest fits.1 e) ∙ rw no refl

pub shape_again : (s : Shape) → IsShape s → shape_of (spelled_path s) ≡ Some s
unfolding shape_of reference_from
shape_again s fits =
    let read : shape_at (spelled_path s) ≡ Some (s, []) = ap shape_at (sym (append-nil (spelled_path s))) ∙ shape_at_again s [] fits refl in
    rw read refl

-- ---- whole texts and their meanings

pub path_known : (t : List ℕ) (means : Reference) → IsPath t means → path_of t ≡ Some means
path_known t means h =
    let shape : shape_of t ≡ Some h.shape = ap shape_of h.spells ∙ shape_again h.shape h.fits in
    ap (option_map (meaning t)) shape ∙ ap Some (sym h.gives)

pub path_is : (t : List ℕ) (means : Reference) → path_of t ≡ Some means → IsPath t means
path_is t means e =
    let s = map_some (meaning t) (shape_of t) means e in
    let taken = shape_takes t s.0 s.1 in
    record { shape = s.0; fits = taken.fits; spells = taken.spells; gives = sym s.2 }

-- a text has at most one meaning
pub one_meaning : (text : List ℕ) (a b : Reference) → IsPath text a → IsPath text b → a ≡ b
one_meaning text a b p q = same_Some a b (sym (path_known text a p) ∙ path_known text b q)
