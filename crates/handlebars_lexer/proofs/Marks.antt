-- Marks of several bytes: where they occur, and texts without them.
use Rattle.std.proofs.Common.{◌≡◌, ◌≢◌, ℕ, zero, suc, ◌+◌, ◌<◌, ◌≤◌, [], ◌∷◌, ◌++◌, length, reverse, drop, List, Option, Some, None, IfSome, MatchOption, option_map, refl, sym, ap, ◌∙◌, arith, inl, inr, length-append, length-drop}
use Rattle.std.proofs.lemmas.Option.{same_Some, none-some}
use Rattle.std.proofs.lemmas.List.{reverse-append, reverse-reverse, length-reverse}
use Rattle.std.specs.Str.Pattern.{FindsText, SplitsAroundMatch, StripsPrefix, FindsTextPrefix, FindsTextSuffix, LacksTextAt, CutsPrefixes, CutsSuffixes, IsTrimStartMatches, IsTrimEndMatches}
use denote.Ref.{Bor}
use Rattle.handlebars_base.specs.Bytes.{Text}
use Rattle.handlebars_base.specs.Texts.{after_byte}
use Rattle.handlebars_base.proofs.OptionBinds.{none_or_some, bind_some, with_or_is}
use Rattle.handlebars_base.proofs.Prefixes.{after_byte_takes, after_byte-same}
use Rattle.handlebars_lexer.specs.Kind.{after_text}
use Rattle.handlebars_lexer.specs.Comment.{after_mark, without_prefixes, without_prefix, without_back}

-- ---- a mark at the start

pub after_text-append : (mark t : Text) → after_text mark (mark ++ t) ≡ Some t
after_text-append [] t = refl
after_text-append (c ∷ mark) t = rw (after_byte-same c (mark ++ t)) (after_text-append mark t)

pub after_text-takes : (mark t r : Text) → after_text mark t ≡ Some r → t ≡ mark ++ r
after_text-takes [] t r e = same_Some t r e
after_text-takes (c ∷ mark) t r e =
    let b = bind_some (after_byte c t) (after_text mark) r e in
    after_byte_takes c t b.0 b.1 ∙ ap (λ (z : Text). c ∷ z) (after_text-takes mark b.0 r b.2)

pub after_text-None : (mark t : Text) → ((r : Text) → t ≢ mark ++ r) → after_text mark t ≡ None
after_text-None mark t lacks = elim (none_or_some (after_text mark t)) [
  | inl none ↦ none
  | inr some ↦ absurd (lacks some.0 (after_text-takes mark t some.0 some.1))
]

-- what stripping it from the start yields
pub after_text-stripped : (mark t : Text) (r : Option (Bor Text)) → MatchOption r (FindsTextPrefix mark t None) (λ x. StripsPrefix (FindsTextPrefix mark) t x.now)
    → option_map (λ (x : Bor Text). x.now) r ≡ after_text mark t
after_text-stripped mark t None h = sym (after_text-None mark t h)
after_text-stripped mark t (Some x) h =
    let whole : t ≡ mark ++ x.now = h.1.1 ∙ ap (λ (z : Text). mark ++ z) (sym h.2) in
    sym (ap (after_text mark) whole ∙ after_text-append mark x.now)

-- ---- the next mark

pub after_mark-found : (mark t rest : Text) (i : ℕ) → 0 < length mark → ((k : ℕ) → k < i → LacksTextAt mark t k) → drop i t ≡ mark ++ rest → after_mark mark t ≡ Some rest
after_mark-found mark [] rest i long lacks e = absurd (omega (arith, ap length e, length-drop {A = ℕ} i [], length-append mark rest))
after_mark-found mark (b ∷ t) rest zero long lacks e =
    let here : after_text mark (b ∷ t) ≡ Some rest = ap (after_text mark) e ∙ after_text-append mark rest in
    rw here refl
after_mark-found mark (b ∷ t) rest (suc i) long lacks e =
    let here : after_text mark (b ∷ t) ≡ None = after_text-None mark (b ∷ t) (lacks 0 (omega arith)) in
    rw here (after_mark-found mark t rest i long (λ k lt. lacks (suc k) (omega arith)) e)

pub after_mark-lacks : (mark t : Text) → ((k : ℕ) → k ≤ length t → LacksTextAt mark t k) → after_mark mark t ≡ None
after_mark-lacks mark [] lacks = refl
after_mark-lacks mark (b ∷ t) lacks =
    let here : after_text mark (b ∷ t) ≡ None = after_text-None mark (b ∷ t) (lacks 0 (omega arith)) in
    rw here (after_mark-lacks mark t (λ k le. lacks (suc k) (omega arith)))

pub after_mark-split : (mark t prefix back : Text) → 0 < length mark → SplitsAroundMatch (FindsText mark) t prefix back → Some back ≡ after_mark mark t
after_mark-split mark t prefix back long h =
    let whole : drop h.0 t ≡ mark ++ back = h.2.1.split ∙ ap (λ (z : Text). mark ++ z) (sym h.4) in
    sym (after_mark-found mark t back h.0 long h.2.0 whole)

-- what precedes the text after the mark, including the mark
pub after_mark-cut : (mark t rest : Text) → after_mark mark t ≡ Some rest → (prefix : Text) × (t ≡ prefix ++ rest)
after_mark-cut mark [] rest e = absurd (none-some rest e)
after_mark-cut mark (b ∷ t) rest e = elim (with_or_is (after_text mark (b ∷ t)) Some (after_mark mark t) (Some rest) e) [
  | inl here ↦ (mark, after_text-takes mark (b ∷ t) here.0 here.1 ∙ ap (λ (z : Text). mark ++ z) (same_Some here.0 rest here.2))
  | inr later ↦ let more = after_mark-cut mark t rest later.1 in (b ∷ more.0, ap (λ (z : Text). b ∷ z) more.1)
]

-- if a mark does not occur in a text, it does not occur further on
pub after_mark-end : (mark x y : Text) → after_mark mark (x ++ y) ≡ None → after_mark mark y ≡ None
after_mark-end mark [] y e = e
after_mark-end mark (b ∷ x) y e = elim (with_or_is (after_text mark (b ∷ (x ++ y))) Some (after_mark mark (x ++ y)) None e) [
  | inl here ↦ absurd (none-some here.0 (sym here.2))
  | inr later ↦ after_mark-end mark x y later.1
]

-- ---- without the marks at the start

without_prefixes-none : (n : ℕ) (mark t : Text) → after_text mark t ≡ None → without_prefixes n mark t ≡ t
without_prefixes-none zero mark t none = refl
without_prefixes-none (suc n) mark t none = rw none refl

after_text-length : (mark t r : Text) → after_text mark t ≡ Some r → length t ≡ length mark + length r
after_text-length mark t r e = ap length (after_text-takes mark t r e) ∙ length-append mark r

enough : (n m : ℕ) (mark t : Text) → 0 < length mark → length t ≤ n → length t ≤ m → without_prefixes n mark t ≡ without_prefixes m mark t
enough zero m mark t long le le' = elim (none_or_some (after_text mark t)) [
  | inl none ↦ sym (without_prefixes-none m mark t none)
  | inr some ↦ absurd (omega (arith, after_text-length mark t some.0 some.1))
]
enough (suc n) zero mark t long le le' = elim (none_or_some (after_text mark t)) [
  | inl none ↦ without_prefixes-none (suc n) mark t none
  | inr some ↦ absurd (omega (arith, after_text-length mark t some.0 some.1))
]
enough (suc n) (suc m) mark t long le le' = elim (none_or_some (after_text mark t)) [
  | inl none ↦ rw none refl
  | inr some ↦
      let len = after_text-length mark t some.0 some.1 in
      rw some.1 (enough n m mark some.0 long (omega arith) (omega arith))
]

without_prefixes-some : (n : ℕ) (mark t r : Text) → 0 < length mark → length t ≤ n → after_text mark t ≡ Some r → without_prefixes n mark t ≡ without_prefix mark r
without_prefixes-some zero mark t r long le e = absurd (omega (arith, after_text-length mark t r e))
without_prefixes-some (suc n) mark t r long le e =
    let len = after_text-length mark t r e in
    rw e (enough n (length r) mark r long (omega arith) (omega arith))

without_prefix-append : (mark t r : Text) → 0 < length mark → t ≡ mark ++ r → without_prefix mark t ≡ without_prefix mark r
without_prefix-append mark t r long e = without_prefixes-some (length t) mark t r long (omega arith) (ap (after_text mark) e ∙ after_text-append mark r)

cuts_prefixes : (mark s r : Text) (ns : List ℕ) → 0 < length mark → CutsPrefixes (FindsTextPrefix mark) s ns r → without_prefix mark s ≡ without_prefix mark r
cuts_prefixes mark s r [] long h = ap (without_prefix mark) (sym h)
cuts_prefixes mark s r (n ∷ ns) long h =
    let e : h.0 ≡ mark ++ r = h.2.1 ∙ ap (λ (z : Text). mark ++ z) (sym h.3) in
    cuts_prefixes mark s h.0 ns long h.1 ∙ without_prefix-append mark h.0 r long e

no_prefix : (mark r : Text) (o : Option ℕ) → 0 < length mark → FindsTextPrefix mark r o → IfSome o (λ n. n ≡ 0) → after_text mark r ≡ None
no_prefix mark r None long h stop = after_text-None mark r h
no_prefix mark r (Some n) long h stop = absurd (omega (arith, h.0))

pub without_prefix-trimmed : (mark s r : Text) → 0 < length mark → IsTrimStartMatches (FindsTextPrefix mark) s r → r ≡ without_prefix mark s
without_prefix-trimmed mark s r long h =
    let stop = no_prefix mark r h.1.0 long h.1.1 h.1.2 in
    sym (without_prefixes-none (length r) mark r stop) ∙ sym (cuts_prefixes mark s r h.0.0 long h.0.1)

-- ---- without the marks at the end

reverse-ends : (mark m r : Text) → m ≡ r ++ mark → reverse m ≡ reverse mark ++ reverse r
reverse-ends mark m r e = ap reverse e ∙ reverse-append r mark

cuts_backs : (mark s r : Text) (ns : List ℕ) → 0 < length mark → CutsSuffixes (FindsTextSuffix mark) s ns r → without_prefix (reverse mark) (reverse s) ≡ without_prefix (reverse mark) (reverse r)
cuts_backs mark s r [] long h = ap (λ (z : Text). without_prefix (reverse mark) (reverse z)) (sym h)
cuts_backs mark s r (n ∷ ns) long h =
    let e : h.0 ≡ r ++ mark = h.2.1 ∙ ap (λ (z : Text). z ++ mark) (sym h.3) in
    let long' : 0 < length (reverse mark) = omega (arith, length-reverse mark) in
    cuts_backs mark s h.0 ns long h.1 ∙ without_prefix-append (reverse mark) (reverse h.0) (reverse r) long' (reverse-ends mark h.0 r e)

no_back : (mark r : Text) (o : Option ℕ) → 0 < length mark → FindsTextSuffix mark r o → IfSome o (λ n. n ≡ 0) → after_text (reverse mark) (reverse r) ≡ None
no_back mark r None long h stop = after_text-None (reverse mark) (reverse r) (λ x e. h (reverse x) (sym (reverse-reverse r) ∙ ap reverse e ∙ reverse-append (reverse mark) x ∙ ap (λ (z : Text). reverse x ++ z) (reverse-reverse mark)))
no_back mark r (Some n) long h stop = absurd (omega (arith, h.0))

pub without_back-trimmed : (mark s r : Text) → 0 < length mark → IsTrimEndMatches (FindsTextSuffix mark) s r → r ≡ without_back mark s
without_back-trimmed mark s r long h =
    let stop = no_back mark r h.1.0 long h.1.1 h.1.2 in
    let one = without_prefixes-none (length (reverse r)) (reverse mark) (reverse r) stop in
    sym (reverse-reverse r) ∙ ap reverse (sym one) ∙ ap reverse (sym (cuts_backs mark s r h.0.0 long h.0.1))
