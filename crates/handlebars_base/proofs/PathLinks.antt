-- Links after a part, as many as fit: read one after the other, spelled, and read again.
use Rattle.std.proofs.Common.{◌≡◌, ℕ, zero, suc, ◌<◌, ◌≤◌, Bool, List, [], ◌∷◌, ◌++◌, length, Some, None, refl, sym, ap, subst, ◌∙◌, append_assoc, arith, inl, inr, length-append}
use Rattle.std.specs.List.{prefix_len}
use Rattle.std.specs.Option.{option_map}
use Rattle.handlebars_base.specs.Path.{PathPart, spelled_part, is_dots, Link, spelled_links, AreLinks, Segment, part_segments, link_segments}
use Rattle.handlebars_base.specs.PathReading.{link_at, part_of_link, with_link, links_at, links_of}
use Rattle.handlebars_base.specs.Bytes.{is_symbol}
use Rattle.handlebars_base.proofs.OptionBinds.{none_or_some, map_some, map_none}
use Rattle.handlebars_base.proofs.PathParts.{link_takes, joins_cases, link_again}

-- ---- one link, and the others

at_link : (n : ℕ) (before : Bool) (t : List ℕ) (q : Link × List ℕ) → link_at before t ≡ Some q →
    links_at (suc n) before t ≡ with_link q.0 (links_at n (is_dots q.0.part) q.1)
unfolding links_at
at_link n before t q e = rw e refl

at_none : (n : ℕ) (before : Bool) (t : List ℕ) → link_at before t ≡ None → links_at n before t ≡ ([], t)
unfolding links_at
at_none zero before t e = refl
at_none (suc n) before t e = rw e refl

shorter_link : (before : Bool) (t : List ℕ) (q : Link × List ℕ) → link_at before t ≡ Some q → length q.1 < length t
shorter_link before t q e =
    omega (arith, ap length (link_takes before t q e).parts, length-append (spelled_part q.0.part) q.1)

-- a bound above the length of the text changes nothing
enough : (n m : ℕ) (before : Bool) (t : List ℕ) → length t ≤ n → length t ≤ m → links_at n before t ≡ links_at m before t
enough zero zero before t a b = refl
enough zero (suc m) before t a b =
    elim (none_or_some (link_at before t)) [
      | inl none ↦ at_none zero before t none ∙ sym (at_none (suc m) before t none)
      | inr some ↦ let less = shorter_link before t some.0 some.1 in absurd (omega arith)
    ]
enough (suc n) zero before t a b =
    elim (none_or_some (link_at before t)) [
      | inl none ↦ at_none (suc n) before t none ∙ sym (at_none zero before t none)
      | inr some ↦ let less = shorter_link before t some.0 some.1 in absurd (omega arith)
    ]
enough (suc n) (suc m) before t a b =
    elim (none_or_some (link_at before t)) [
      | inl none ↦ at_none (suc n) before t none ∙ sym (at_none (suc m) before t none)
      | inr some ↦
          let less = shorter_link before t some.0 some.1 in
          let others = enough n m (is_dots some.0.0.part) some.0.1 (omega arith) (omega arith) in
          at_link n before t some.0 some.1 ∙ ap (with_link some.0.0) others ∙ sym (at_link m before t some.0 some.1)
    ]

links_of-some : (before : Bool) (t : List ℕ) (q : Link × List ℕ) → link_at before t ≡ Some q →
    links_of before t ≡ with_link q.0 (links_of (is_dots q.0.part) q.1)
unfolding links_of
links_of-some before t q e =
    let less = shorter_link before t q e in
    let others = enough (length t) (length q.1) (is_dots q.0.part) q.1 (omega arith) (omega arith) in
    enough (length t) (suc (length t)) before t (omega arith) (omega arith) ∙ at_link (length t) before t q e ∙
    ap (with_link q.0) others

pub links_of-none : (before : Bool) (t : List ℕ) → link_at before t ≡ None → links_of before t ≡ ([], t)
unfolding links_of
links_of-none before t e = at_none (length t) before t e

-- ---- as a loop reads them, which sees no separator

-- no link is at the start
pub loop-none : (before : Bool) (t : List ℕ) → None ≡ option_map part_of_link (link_at before t) → links_of before t ≡ ([], t)
loop-none before t none = links_of-none before t (map_none part_of_link (link_at before t) (sym none))

pub loop-shorter : (before : Bool) (t : List ℕ) (p : PathPart) (r : List ℕ) →
    Some (p, r) ≡ option_map part_of_link (link_at before t) → length r < length t
loop-shorter before t p r e =
    let q = map_some part_of_link (link_at before t) (p, r) (sym e) in
    subst (λ (x : PathPart × List ℕ). length x.1 < length t) q.2 (shorter_link before t q.0 q.1)

pub loop-rest : (before : Bool) (t : List ℕ) (p : PathPart) (r : List ℕ) →
    Some (p, r) ≡ option_map part_of_link (link_at before t) → (links_of before t).1 ≡ (links_of (is_dots p) r).1
loop-rest before t p r e =
    let q = map_some part_of_link (link_at before t) (p, r) (sym e) in
    subst (λ (x : PathPart × List ℕ). (links_of before t).1 ≡ (links_of (is_dots x.0) x.1).1) q.2
    (ap (λ (x : List Link × List ℕ). x.1) (links_of-some before t q.0 q.1))

segments_of-some : (prefix : List Segment) (before : Bool) (t : List ℕ) (q : Link × List ℕ) → link_at before t ≡ Some q →
    (prefix ++ part_segments q.0.part) ++ link_segments (links_of (is_dots q.0.part) q.1).0 ≡
    prefix ++ link_segments (links_of before t).0
segments_of-some prefix before t q e =
    append_assoc prefix (part_segments q.0.part) (link_segments (links_of (is_dots q.0.part) q.1).0) ∙
    ap (λ (x : List Link × List ℕ). prefix ++ link_segments x.0) (sym (links_of-some before t q e))

pub loop-segments : (prefix : List Segment) (before : Bool) (t : List ℕ) (p : PathPart) (r : List ℕ) →
    Some (p, r) ≡ option_map part_of_link (link_at before t) →
    (prefix ++ part_segments p) ++ link_segments (links_of (is_dots p) r).0 ≡ prefix ++ link_segments (links_of before t).0
loop-segments prefix before t p r e =
    let q = map_some part_of_link (link_at before t) (p, r) (sym e) in
    let segments : PathPart × List ℕ → List Segment = λ x. (prefix ++ part_segments x.0) ++ link_segments (links_of (is_dots x.0) x.1).0 in
    subst (λ (x : PathPart × List ℕ). segments x ≡ prefix ++ link_segments (links_of before t).0) q.2
    (segments_of-some prefix before t q.0 q.1)

-- ---- the text spells what is read

pub record TakesLinks (before : Bool) (t : List ℕ) (q : List Link × List ℕ) : Type 0 where
  pub parts : t ≡ spelled_links q.0 ++ q.1
  pub fits : AreLinks before q.0

links_take : (n : ℕ) (before : Bool) (t : List ℕ) → TakesLinks before t (links_at n before t)
unfolding links_at
links_take zero before t = record { parts = refl; fits = tt }
links_take (suc n) before t =
    elim (none_or_some (link_at before t)) [
      | inl none ↦ rw none (record { parts = refl; fits = tt })
      | inr some ↦
          let taken = link_takes before t some.0 some.1 in
          let others = links_take n (is_dots some.0.0.part) some.0.1 in
          let read = links_at n (is_dots some.0.0.part) some.0.1 in
          let after : spelled_part some.0.0.part ++ some.0.1 ≡ (spelled_part some.0.0.part ++ spelled_links read.0) ++ read.1 =
          ap (λ (r : List ℕ). spelled_part some.0.0.part ++ r) others.parts ∙ sym (append_assoc (spelled_part some.0.0.part) (spelled_links read.0) read.1) in
          rw (some.1) (record {
            parts = taken.parts ∙ ap (λ (r : List ℕ). some.0.0.sep ∷ r) after;
            fits = (taken.joined, taken.fits, others.fits);
          })
    ]

pub links_of_take : (before : Bool) (t : List ℕ) → TakesLinks before t (links_of before t)
unfolding links_of
links_of_take before t = links_take (length t) before t

-- ---- what a text spells is read

-- no link begins with a symbol, so a name before a link ends there
pub links_stop : (before : Bool) (ss : List Link) (rest : List ℕ) → AreLinks before ss → prefix_len is_symbol rest ≡ 0 →
    prefix_len is_symbol (spelled_links ss ++ rest) ≡ 0
links_stop before [] rest fits stop = stop
links_stop before (s ∷ ss) rest fits stop =
    elim (joins_cases before s.sep (is_dots s.part) fits.0) [
      | inl slash ↦ rw slash refl
      | inr point ↦ rw point.0 refl
    ]

links_again : (n : ℕ) (before : Bool) (ss : List Link) (rest : List ℕ) → length ss ≤ n → AreLinks before ss →
    prefix_len is_symbol rest ≡ 0 → ((b : Bool) → link_at b rest ≡ None) → links_at n before (spelled_links ss ++ rest) ≡ (ss, rest)
links_again n before [] rest le fits stop none = at_none n before rest (none before)
links_again zero before (s ∷ ss) rest le fits stop none = absurd (omega arith)
links_again (suc n) before (s ∷ ss) rest le fits stop none =
    let after = spelled_links ss ++ rest in
    let first = link_again before s after fits.0 fits.1 (links_stop (is_dots s.part) ss rest fits.2 stop) in
    let whole : s.sep ∷ (spelled_part s.part ++ after) ≡ spelled_links (s ∷ ss) ++ rest =
    ap (λ (r : List ℕ). s.sep ∷ r) (sym (append_assoc (spelled_part s.part) (spelled_links ss) rest)) in
    ap (links_at (suc n) before) (sym whole) ∙ at_link n before _ (s, after) first ∙
    ap (with_link s) (links_again n (is_dots s.part) ss rest (omega arith) fits.2 stop none)

-- each link takes at least one byte, so the reader's bound is enough
links_long : (ss : List Link) → length ss ≤ length (spelled_links ss)
links_long [] = omega arith
links_long (s ∷ ss) = omega (arith, links_long ss, length-append (spelled_part s.part) (spelled_links ss))

pub links_of_again : (before : Bool) (ss : List Link) (rest : List ℕ) → AreLinks before ss →
    prefix_len is_symbol rest ≡ 0 → ((b : Bool) → link_at b rest ≡ None) → links_of before (spelled_links ss ++ rest) ≡ (ss, rest)
unfolding links_of
links_of_again before ss rest fits stop none =
    let long : length ss ≤ length (spelled_links ss ++ rest) = omega (arith, links_long ss, length-append (spelled_links ss) rest) in
    links_again (length (spelled_links ss ++ rest)) before ss rest long fits stop none
