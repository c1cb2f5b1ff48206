-- What is read here and what serde_json reads.
use Rattle.std.proofs.Common.{◌≡◌, ◌↔◌, ℕ, List, Bool, true, false, ◌||◌, Option, Some, None, option_map, option_and_then, Ordering, Less, Equal, Greater, refl, ap, ap₂, ◌∙◌, subst}
use Rattle.std.specs.Prelude.{⊤}
use Rattle.std.specs.Ordering.{nat_cmp, match_ordering}
use Rattle.std.specs.Cmp.Lexicographic.{slice_cmp}
use Rattle.json.specs.Json as json
use Rattle.serde_json.specs.Data.{Num, unsigned, negative, float, Data, number, array, object, Items, item, Members, no_members, member, put}
use Rattle.serde_json.specs.Read.{number_of, of_json, of_items, of_members, read}
use Rattle.serde_json.specs.Written.{has_float, items_have_float, members_have_float}
use Rattle.handlebars_data.specs.JsonText.{spelled_as, integer, number_data, data_of, items_data, members_data, json_of, text_data}
use Rattle.handlebars_data.specs.JsonLaws.{IsSpelledOut, same_null, same_boolean, same_unsigned, same_negative, spelled_float, same_string, each_item, each_member, AreSpelledOut, no_more_items, next_item, AreMembersSpelledOut, no_more_members, next_member, RefusesAsSerdeJson, SpellsOutNumbers, RefusingChangesNothing, HasNoFloat}
use Rattle.handlebars_data.specs.declared.json_text.Numbers.{Numbers}
use Rattle.handlebars_data.specs.declared.json_text.Numbers.TheVariants.{Spelled, Refused}

-- ---- both read, or neither does

abbrev Both : {A B : Type 0} → (A → B → Type 0) → Option A → Option B → Type 0
Both R None None = ⊤
Both R None (Some b) = ⊥
Both R (Some a) None = ⊥
Both R (Some a) (Some b) = R a b

Both-map : {A B C D : Type 0} (R : A → B → Type 0) (S : C → D → Type 0) (f : A → C) (g : B → D) → ((a : A) (b : B) → R a b → S (f a) (g b))
    → (x : Option A) (y : Option B) → Both R x y → Both S (option_map f x) (option_map g y)
Both-map R S f g k None None h = tt
Both-map R S f g k None (Some b) h = h
Both-map R S f g k (Some a) None h = h
Both-map R S f g k (Some a) (Some b) h = k a b h

Both-and_then : {A B C D : Type 0} (R : A → B → Type 0) (S : C → D → Type 0) (f : A → Option C) (g : B → Option D) → ((a : A) (b : B) → R a b → Both S (f a) (g b))
    → (x : Option A) (y : Option B) → Both R x y → Both S (option_and_then f x) (option_and_then g y)
Both-and_then R S f g k None None h = tt
Both-and_then R S f g k None (Some b) h = absurd h
Both-and_then R S f g k (Some a) None h = absurd h
Both-and_then R S f g k (Some a) (Some b) h = k a b h

-- ---- numbers with their spelling

number-spelled : (s : List ℕ) (x : Option Num) → number_of s ≡ x → Both IsSpelledOut (option_map number x) (option_map (spelled_as s) x)
number-spelled s None e = tt
number-spelled s (Some (unsigned n)) e = same_unsigned n
number-spelled s (Some (negative z)) e = same_negative z
number-spelled s (Some (float x)) e = spelled_float x s e

members-match_ordering : (o : Ordering) (a b c d e f : Members) → AreMembersSpelledOut a d → AreMembersSpelledOut b e → AreMembersSpelledOut c f
    → AreMembersSpelledOut (match_ordering o a b c) (match_ordering o d e f)
members-match_ordering Less a b c d e f p q r = p
members-match_ordering Equal a b c d e f p q r = q
members-match_ordering Greater a b c d e f p q r = r

put-spelled : (k : List ℕ) (d e : Data) → IsSpelledOut d e → (ms ns : Members) → AreMembersSpelledOut ms ns → AreMembersSpelledOut (put k d ms) (put k e ns)
put-spelled k d e h _ _ no_more_members = next_member k d e no_members no_members h no_more_members
put-spelled k d e h _ _ (next_member l a b ms ns p q) =
    members-match_ordering (slice_cmp nat_cmp k l) _ _ _ _ _ _ (next_member k d e (member l a ms) (member l b ns) h (next_member l a b ms ns p q)) (next_member l d e ms ns h q)
    (next_member l a b (put k d ms) (put k e ns) p (put-spelled k d e h ms ns q))

mutual
  data-spelled : (j : json.Json) → Both IsSpelledOut (of_json j) (data_of Spelled j)
  data-spelled json.null = same_null
  data-spelled (json.boolean b) = same_boolean b
  data-spelled (json.number s) = number-spelled s (number_of s) refl
  data-spelled (json.string s) = same_string s
  data-spelled (json.array js) = Both-map AreSpelledOut IsSpelledOut array array each_item (of_items js) (items_data Spelled js) (items-spelled js)
  data-spelled (json.object ms) = Both-map AreMembersSpelledOut IsSpelledOut object object each_member (of_members ms no_members) (members_data Spelled ms no_members) (members-spelled ms no_members no_members no_more_members)

  items-spelled : (js : json.Items) → Both AreSpelledOut (of_items js) (items_data Spelled js)
  items-spelled json.no_items = no_more_items
  items-spelled (json.item j js) =
      Both-and_then IsSpelledOut AreSpelledOut _ _ (λ d e h. Both-map AreSpelledOut AreSpelledOut (item d) (item e) (λ ds es hs. next_item d e ds es h hs) (of_items js) (items_data Spelled js) (items-spelled js))
      (of_json j) (data_of Spelled j) (data-spelled j)

  members-spelled : (ms : json.Members) (found known : Members) → AreMembersSpelledOut found known → Both AreMembersSpelledOut (of_members ms found) (members_data Spelled ms known)
  members-spelled json.no_members found known h = h
  members-spelled (json.member k j ms) found known h =
      Both-and_then IsSpelledOut AreMembersSpelledOut _ _ (λ d e same. members-spelled ms (put k d found) (put k e known) (put-spelled k d e same found known h)) (of_json j) (data_of Spelled j) (data-spelled j)

text-spelled : (o : Option json.Json) → Both IsSpelledOut (option_and_then of_json o) (option_and_then (data_of Spelled) o)
text-spelled None = tt
text-spelled (Some j) = data-spelled j

both_none : {A B : Type 0} (R : A → B → Type 0) (x : Option A) (y : Option B) → Both R x y → (y ≡ None) ↔ (x ≡ None)
both_none R None None h = (λ e. refl, λ e. refl)
both_none R None (Some b) h = absurd h
both_none R (Some a) None h = absurd h
both_none R (Some a) (Some b) h = (λ e. absurd (cc), λ e. absurd (cc))

pub refuses_as_serde_json : RefusesAsSerdeJson
refuses_as_serde_json text = both_none IsSpelledOut (read text) (text_data Spelled text) (text-spelled (json_of text))

pub spells_out_numbers : SpellsOutNumbers
spells_out_numbers text d e f g = subst (λ y. Both IsSpelledOut (Some d) y) g (subst (λ x. Both IsSpelledOut x (text_data Spelled text)) f (text-spelled (json_of text)))

-- ---- where other numbers are refused

-- what is read first is read the other way too
abbrev Keeps : {A : Type 0} → Option A → Option A → Type 0
Keeps {A} x y = (a : A) → x ≡ Some a → y ≡ Some a

Keeps-map : {A B : Type 0} (f : A → B) (x y : Option A) → Keeps x y → Keeps (option_map f x) (option_map f y)
Keeps-map f None y h b e = absurd (cc)
Keeps-map f (Some a) y h b e = ap (option_map f) (h a refl) ∙ e

Keeps-and_then : {A B : Type 0} (f g : A → Option B) → ((a : A) → Keeps (f a) (g a)) → (x y : Option A) → Keeps x y → Keeps (option_and_then f x) (option_and_then g y)
Keeps-and_then f g k None y h b e = absurd (cc)
Keeps-and_then f g k (Some a) y h b e = ap (option_and_then g) (h a refl) ∙ k a b e

integer-kept : (s : List ℕ) (x : Option Num) → Keeps (option_and_then integer x) (option_map number x)
integer-kept s None d e = absurd (cc)
integer-kept s (Some (unsigned n)) d e = e
integer-kept s (Some (negative z)) d e = e
integer-kept s (Some (float x)) d e = absurd (cc)

mutual
  data-kept : (j : json.Json) → Keeps (data_of Refused j) (of_json j)
  data-kept json.null d e = e
  data-kept (json.boolean b) d e = e
  data-kept (json.number s) d e = integer-kept s (number_of s) d e
  data-kept (json.string s) d e = e
  data-kept (json.array js) d e = Keeps-map array (items_data Refused js) (of_items js) (items-kept js) d e
  data-kept (json.object ms) d e = Keeps-map object (members_data Refused ms no_members) (of_members ms no_members) (members-kept ms no_members) d e

  items-kept : (js : json.Items) → Keeps (items_data Refused js) (of_items js)
  items-kept json.no_items ds e = e
  items-kept (json.item j js) ds e =
      Keeps-and_then _ _ (λ d. Keeps-map (item d) (items_data Refused js) (of_items js) (items-kept js)) (data_of Refused j) (of_json j) (data-kept j) ds e

  members-kept : (ms : json.Members) (found : Members) → Keeps (members_data Refused ms found) (of_members ms found)
  members-kept json.no_members found ns e = e
  members-kept (json.member k j ms) found ns e = Keeps-and_then _ _ (λ d. members-kept ms (put k d found)) (data_of Refused j) (of_json j) (data-kept j) ns e

text-kept : (o : Option json.Json) → Keeps (option_and_then (data_of Refused) o) (option_and_then of_json o)
text-kept None d e = absurd (cc)
text-kept (Some j) d e = data-kept j d e

-- ---- no float

abbrev HasNone : {A : Type 0} → (A → Bool) → Option A → Type 0
HasNone f None = ⊤
HasNone f (Some a) = f a ≡ false

HasNone-map : {A B : Type 0} (f : A → Bool) (g : B → Bool) (h : A → B) → ((a : A) → f a ≡ false → g (h a) ≡ false) → (x : Option A) → HasNone f x → HasNone g (option_map h x)
HasNone-map f g h k None e = tt
HasNone-map f g h k (Some a) e = k a e

HasNone-and_then : {A B : Type 0} (f : A → Bool) (g : B → Bool) (h : A → Option B) → ((a : A) → f a ≡ false → HasNone g (h a)) → (x : Option A) → HasNone f x → HasNone g (option_and_then h x)
HasNone-and_then f g h k None e = tt
HasNone-and_then f g h k (Some a) e = k a e

spelled-no_float : (s : List ℕ) (x : Option Num) → HasNone has_float (option_map (spelled_as s) x)
spelled-no_float s None = tt
spelled-no_float s (Some (unsigned n)) = refl
spelled-no_float s (Some (negative z)) = refl
spelled-no_float s (Some (float x)) = refl

integer-no_float : (x : Option Num) → HasNone has_float (option_and_then integer x)
integer-no_float None = tt
integer-no_float (Some (unsigned n)) = refl
integer-no_float (Some (negative z)) = refl
integer-no_float (Some (float x)) = tt

number-no_float : (numbers : Numbers) (s : List ℕ) → HasNone has_float (number_data numbers s)
number-no_float Spelled s = spelled-no_float s (number_of s)
number-no_float Refused s = integer-no_float (number_of s)

match_ordering-no_float : (o : Ordering) (a b c : Members) → members_have_float a ≡ false → members_have_float b ≡ false → members_have_float c ≡ false → members_have_float (match_ordering o a b c) ≡ false
match_ordering-no_float Less a b c p q r = p
match_ordering-no_float Equal a b c p q r = q
match_ordering-no_float Greater a b c p q r = r

neither : (a b : Bool) → a ≡ false → b ≡ false → (a || b) ≡ false
neither a b p q = ap (λ x. x || b) p ∙ q

first_of : (a b : Bool) → (a || b) ≡ false → a ≡ false
first_of true b e = e
first_of false b e = refl

second_of : (a b : Bool) → (a || b) ≡ false → b ≡ false
second_of true b e = absurd (cc)
second_of false b e = e

put-no_float : (k : List ℕ) (d : Data) (ms : Members) → has_float d ≡ false → members_have_float ms ≡ false → members_have_float (put k d ms) ≡ false
put-no_float k d no_members p q = neither (has_float d) false p refl
put-no_float k d (member l e ms) p q =
    let at = first_of (has_float e) (members_have_float ms) q in
    let after = second_of (has_float e) (members_have_float ms) q in
    match_ordering-no_float (slice_cmp nat_cmp k l) (member k d (member l e ms)) (member l d ms) (member l e (put k d ms)) (neither (has_float d) _ p q) (neither (has_float d) _ p after)
    (neither (has_float e) _ at (put-no_float k d ms p after))

module _ (numbers : Numbers) where
  mutual
    data-no_float : (j : json.Json) → HasNone has_float (data_of numbers j)
    data-no_float json.null = refl
    data-no_float (json.boolean b) = refl
    data-no_float (json.number s) = number-no_float numbers s
    data-no_float (json.string s) = refl
    data-no_float (json.array js) = HasNone-map items_have_float has_float array (λ ds e. e) (items_data numbers js) (items-no_float js)
    data-no_float (json.object ms) = HasNone-map members_have_float has_float object (λ ns e. e) (members_data numbers ms no_members) (members-no_float ms no_members refl)

    items-no_float : (js : json.Items) → HasNone items_have_float (items_data numbers js)
    items-no_float json.no_items = refl
    items-no_float (json.item j js) =
        HasNone-and_then has_float items_have_float (λ d. option_map (item d) (items_data numbers js))
        (λ d p. HasNone-map items_have_float items_have_float (item d) (λ ds q. neither (has_float d) (items_have_float ds) p q) (items_data numbers js) (items-no_float js)) (data_of numbers j) (data-no_float j)

    members-no_float : (ms : json.Members) (found : Members) → members_have_float found ≡ false → HasNone members_have_float (members_data numbers ms found)
    members-no_float json.no_members found q = q
    members-no_float (json.member k j ms) found q =
        HasNone-and_then has_float members_have_float (λ d. members_data numbers ms (put k d found)) (λ d p. members-no_float ms (put k d found) (put-no_float k d found p q)) (data_of numbers j) (data-no_float j)

  text-no_float : (o : Option json.Json) → HasNone has_float (option_and_then (data_of numbers) o)
  text-no_float None = tt
  text-no_float (Some j) = data-no_float j

pub has_no_float : HasNoFloat
has_no_float numbers text d e = subst (HasNone has_float) e (text-no_float numbers (json_of text))

-- ---- data with no float

mutual
  data-same : (d e : Data) → IsSpelledOut d e → has_float d ≡ false → e ≡ d
  data-same _ _ same_null h = refl
  data-same _ _ (same_boolean b) h = refl
  data-same _ _ (same_unsigned n) h = refl
  data-same _ _ (same_negative z) h = refl
  data-same _ _ (spelled_float x s e) h = absurd (cc)
  data-same _ _ (same_string s) h = refl
  data-same _ _ (each_item ds es all) h = ap array (items-same ds es all h)
  data-same _ _ (each_member ms ns all) h = ap object (members-same ms ns all h)

  items-same : (ds es : Items) → AreSpelledOut ds es → items_have_float ds ≡ false → es ≡ ds
  items-same _ _ no_more_items h = refl
  items-same _ _ (next_item d e ds es p q) h = ap₂ item (data-same d e p (first_of (has_float d) (items_have_float ds) h)) (items-same ds es q (second_of (has_float d) (items_have_float ds) h))

  members-same : (ms ns : Members) → AreMembersSpelledOut ms ns → members_have_float ms ≡ false → ns ≡ ms
  members-same _ _ no_more_members h = refl
  members-same _ _ (next_member k d e ms ns p q) h = ap₂ (member k) (data-same d e p (first_of (has_float d) (members_have_float ms) h)) (members-same ms ns q (second_of (has_float d) (members_have_float ms) h))

spelled-same : (x : Option Data) (d : Data) → Both IsSpelledOut (Some d) x → has_float d ≡ false → x ≡ Some d
spelled-same None d h f = absurd h
spelled-same (Some e) d h f = ap Some (data-same d e h f)

pub refusing_changes_nothing : RefusingChangesNothing
refusing_changes_nothing text d e =
    let as_read : read text ≡ Some d = text-kept (json_of text) d e in
    let both = subst (λ x. Both IsSpelledOut x (text_data Spelled text)) as_read (text-spelled (json_of text)) in
    (as_read, spelled-same (text_data Spelled text) d both (has_no_float Refused text d e))
