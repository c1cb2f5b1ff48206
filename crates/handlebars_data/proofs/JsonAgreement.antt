-- A reading agrees with the grammar of `json`, and with what its values are as data.
use Rattle.std.proofs.Common.{◌≡◌, ℕ, zero, suc, ◌-◌, ◌<◌, ◌≤◌, List, [], ◌∷◌, ◌++◌, length, Option, Some, None, option_map, option_and_then, refl, sym, ap, ◌∙◌, subst, arith}
use Rattle.json.specs.Token.{Token}
use Rattle.json.specs.Json as json
use Rattle.json.specs.Json.{Parse, parse_map, after_end_array, read_key, items, members, value}
use Rattle.json.proofs.Grammar.{items_end, items_fail, items_more, members_end, members_fail, members_no_key, members_more, skip_value-shorter, read_key-shorter}
use Rattle.serde_json.specs.Data.{Num, unsigned, negative, float, Data, array, object, Items, no_items, item, Members, no_members, put}
use Rattle.serde_json.specs.Read.{number_of, converted}
use Rattle.serde_json.specs.View.{items_of}
use Rattle.handlebars_data.specs.JsonText.{data_of, items_data, members_data}
use Rattle.handlebars_data.specs.JsonReading.{Reading, done, stopped, reading_map, and_then, Reads, items_step, items_from, members_step, members_from, number_reading, value_with, all_items, all_members, value_from}
use Rattle.handlebars_data.specs.declared.json_text.Numbers.{Numbers}
use Rattle.handlebars_data.specs.declared.json_text.Numbers.TheVariants.{Spelled, Refused}
use Rattle.handlebars_data.specs.declared.json_value.Fault.{Fault}
use Rattle.handlebars_data.specs.declared.json_value.Fault.TheVariants.{NotJson, TooDeep, NumberTooLarge, NumberNotInteger}

-- A reading stops for the grammar or for a number.
abbrev pub StopsFor : {A B : Type 0} → (A → Option B) → Option (A × List Token) → Fault → Type 0
StopsFor f o NotJson = o ≡ None
StopsFor f o TooDeep = o ≡ None
StopsFor f o NumberTooLarge = converted f o ≡ None
StopsFor f o NumberNotInteger = converted f o ≡ None

-- what the grammar reads, as data by `f`, is what the reading says
abbrev pub Agrees : {A B : Type 0} → (A → Option B) → Option (A × List Token) → Reading B → Type 0
Agrees f o (done b r) = converted f o ≡ Some (b, r)
Agrees f o (stopped why) = StopsFor f o why

-- ---- under a map

found_as : {B : Type 0} (s r : List Token) (b : B) (x : Option B) → option_map {U = B × List Token} (λ y. (y, s)) x ≡ Some (b, r) → (x ≡ Some b) × (s ≡ r)
found_as s r b None e = absurd (cc)
found_as {B = B} s r b (Some y) e =
    let same : ◌≡◌ {A = B × List Token} (y, s) (b, r) = cc in
    (ap (λ p. Some p.0) same, ap (λ p. p.1) same)

-- what was read as data was read by the grammar
pub converted-Some : {A B : Type 0} (f : A → Option B) (o : Option (A × List Token)) (b : B) (r : List Token) → converted f o ≡ Some (b, r)
    → (a : A) × (o ≡ Some (a, r)) × (f a ≡ Some b)
converted-Some f None b r e = absurd (cc)
converted-Some f (Some p) b r e = let found = found_as p.1 r b (f p.0) e in (p.0, ap (λ t. Some (p.0, t)) found.1, found.0)

-- what is no data with the tokens after it is none
pub without_rest : {B : Type 0} (r : List Token) (x : Option B) → option_map {U = B × List Token} (λ b. (b, r)) x ≡ None → x ≡ None
without_rest r None e = refl
without_rest r (Some b) e = absurd (cc)

module _ {A B C D : Type 0} (f : A → Option B) (g : C → Option D) (h : A → C) (k : B → D) (fits : (a : A) → g (h a) ≡ option_map k (f a)) where
  abbrev onto : B × List Token → D × List Token
  onto p = (k p.0, p.1)

  one_map : (x : Option B) (r : List Token) → option_map {U = D × List Token} (λ d. (d, r)) (option_map k x) ≡ option_map onto (option_map (λ b. (b, r)) x)
  one_map None r = refl
  one_map (Some b) r = refl

  converted-parse_map : (o : Option (A × List Token)) → converted g (parse_map h o) ≡ option_map onto (converted f o)
  converted-parse_map None = refl
  converted-parse_map (Some p) = ap (option_map {U = D × List Token} (λ d. (d, p.1))) (fits p.0) ∙ one_map (f p.0) p.1

  -- what was read within an array or an object, and the array or the object
  Agrees-reading_map : (o : Option (A × List Token)) (x : Reading B) → Agrees f o x → Agrees g (parse_map h o) (reading_map k x)
  Agrees-reading_map o (done b r) e = converted-parse_map o ∙ ap (option_map onto) e
  Agrees-reading_map o (stopped NotJson) e = ap (parse_map h) e
  Agrees-reading_map o (stopped TooDeep) e = ap (parse_map h) e
  Agrees-reading_map o (stopped NumberTooLarge) e = converted-parse_map o ∙ ap (option_map onto) e
  Agrees-reading_map o (stopped NumberNotInteger) e = converted-parse_map o ∙ ap (option_map onto) e

-- what is read after another part
module _ {A C D : Type 0} (f : A → Option D) (g : C → Option D) (h : C → A) (fits : (c : C) → f (h c) ≡ g c) where
  converted-under : (o : Option (C × List Token)) → converted f (parse_map h o) ≡ converted g o
  converted-under None = refl
  converted-under (Some p) = ap (option_map {U = D × List Token} (λ d. (d, p.1))) (fits p.0)

  Agrees-under : (o : Option (C × List Token)) (x : Reading D) → Agrees g o x → Agrees f (parse_map h o) x
  Agrees-under o (done b r) e = converted-under o ∙ e
  Agrees-under o (stopped NotJson) e = ap (parse_map h) e
  Agrees-under o (stopped TooDeep) e = ap (parse_map h) e
  Agrees-under o (stopped NumberTooLarge) e = converted-under o ∙ e
  Agrees-under o (stopped NumberNotInteger) e = converted-under o ∙ e

-- two ways to say what is data
module _ {A D : Type 0} (f g : A → Option D) (same : (a : A) → f a ≡ g a) where
  converted-same : (o : Option (A × List Token)) → converted g o ≡ converted f o
  converted-same None = refl
  converted-same (Some p) = ap (option_map {U = D × List Token} (λ d. (d, p.1))) (sym (same p.0))

  Agrees-same : (o : Option (A × List Token)) (x : Reading D) → Agrees f o x → Agrees g o x
  Agrees-same o (done b r) e = converted-same o ∙ e
  Agrees-same o (stopped NotJson) e = e
  Agrees-same o (stopped TooDeep) e = e
  Agrees-same o (stopped NumberTooLarge) e = converted-same o ∙ e
  Agrees-same o (stopped NumberNotInteger) e = converted-same o ∙ e

-- ---- numbers

number_data-agrees : (numbers : Numbers) (s : List ℕ) (ts : List Token) (x : Option Num) → number_of s ≡ x → Agrees (data_of numbers) (Some (json.number s, ts)) (number_reading numbers s x ts)
number_data-agrees Spelled s ts None e = rw e
number_data-agrees Spelled s ts (Some (unsigned n)) e = rw e
number_data-agrees Spelled s ts (Some (negative z)) e = rw e
number_data-agrees Spelled s ts (Some (float x)) e = rw e
number_data-agrees Refused s ts None e = rw e
number_data-agrees Refused s ts (Some (unsigned n)) e = rw e
number_data-agrees Refused s ts (Some (negative z)) e = rw e
number_data-agrees Refused s ts (Some (float x)) e = rw e

-- ---- arrays

abbrev items_before : List Data → Items → Items
items_before [] rest = rest
items_before (d ∷ ds) rest = item d (items_before ds rest)

items_before-no_items : (ds : List Data) → items_before ds no_items ≡ items_of ds
items_before-no_items [] = refl
items_before-no_items (d ∷ ds) = ap (item d) (items_before-no_items ds)

items_before-push : (ds : List Data) (d : Data) (rest : Items) → items_before ds (item d rest) ≡ items_before (ds ++ d ∷ []) rest
items_before-push [] d rest = refl
items_before-push (e ∷ ds) d rest = ap (item e) (items_before-push ds d rest)

one_more : (found : List Data) (d : Data) (x : Option Items) → option_map (items_before found) (option_map (item d) x) ≡ option_map (items_before (found ++ d ∷ [])) x
one_more found d None = refl
one_more found d (Some rest) = ap Some (items_before-push found d rest)

as_it_is : (x : Option Items) → option_map (items_before []) x ≡ x
as_it_is None = refl
as_it_is (Some rest) = refl

module _ (numbers : Numbers) where
  -- the items that were found and those of the grammar, as data
  abbrev with_items : List Data → json.Items → Option Items
  with_items found js = option_map (items_before found) (items_data numbers js)

  with_items-item : (found : List Data) (j : json.Json) (d : Data) → data_of numbers j ≡ Some d → (js : json.Items) → with_items found (json.item j js) ≡ with_items (found ++ d ∷ []) js
  with_items-item found j d e js =
      ap (λ x. option_map (items_before found) (option_and_then (λ y. option_map (item y) (items_data numbers js)) x)) e ∙ one_more found d (items_data numbers js)

  no_items_without : (found : List Data) (j : json.Json) → data_of numbers j ≡ None → (o : Option (json.Items × List Token)) → converted (with_items found) (parse_map (json.item j) o) ≡ None
  no_items_without found j e None = refl
  no_items_without found j e (Some q) =
      ap (λ x. option_map {U = Items × List Token} (λ b. (b, q.1)) (option_map (items_before found) (option_and_then (λ y. option_map (item y) (items_data numbers q.0)) x))) e

  no_items_from : (found : List Data) (more : Parse json.Items) (o : Option (json.Json × List Token)) → converted (data_of numbers) o ≡ None
      → converted (with_items found) (option_and_then (λ q. parse_map (json.item q.0) (more q.1)) o) ≡ None
  no_items_from found more None e = refl
  no_items_from found more (Some q) e = no_items_without found q.0 (without_rest q.1 (data_of numbers q.0) e) (more q.1)

  -- ---- objects

  abbrev with_members : Members → json.Members → Option Members
  with_members found ms = members_data numbers ms found

  with_members-member : (found : Members) (k : List ℕ) (j : json.Json) (d : Data) → data_of numbers j ≡ Some d → (ms : json.Members)
      → with_members found (json.member k j ms) ≡ with_members (put k d found) ms
  with_members-member found k j d e ms = ap (option_and_then (λ y. members_data numbers ms (put k y found))) e

  no_members_without : (found : Members) (k : List ℕ) (j : json.Json) → data_of numbers j ≡ None → (o : Option (json.Members × List Token))
      → converted (with_members found) (parse_map (json.member k j) o) ≡ None
  no_members_without found k j e None = refl
  no_members_without found k j e (Some q) = ap (λ x. option_map {U = Members × List Token} (λ b. (b, q.1)) (option_and_then (λ y. members_data numbers q.0 (put k y found)) x)) e

  no_members_from : (found : Members) (k : List ℕ) (more : Parse json.Members) (o : Option (json.Json × List Token)) → converted (data_of numbers) o ≡ None
      → converted (with_members found) (option_and_then (λ q. parse_map (json.member k q.0) (more q.1)) o) ≡ None
  no_members_from found k more None e = refl
  no_members_from found k more (Some q) e = no_members_without found k q.0 (without_rest q.1 (data_of numbers q.0) e) (more q.1)

  module _ (depth : ℕ) (agrees : (ts : List Token) → Agrees (data_of numbers) (value depth ts) (value_from numbers depth ts)) where
    abbrev p : Parse json.Json
    p = value depth

    abbrev v : Reads Data
    v = value_from numbers depth

    shorter : (ts r : List Token) (j : json.Json) → p ts ≡ Some (j, r) → length r < length ts
    shorter ts r j e = skip_value-shorter depth ts r (ap (option_map (λ q. q.1)) e)

    no_items_after : (n : ℕ) (found : List Data) (ts : List Token) → after_end_array ts ≡ None → converted (data_of numbers) (p ts) ≡ None → converted (with_items found) (items p n ts) ≡ None
    unfolding items
    no_items_after zero found ts going e = refl
    no_items_after (suc n) found ts going e = ap (λ o. converted (with_items found) (json.items_step p (items p n) ts o)) going ∙ no_items_from found (items p n) (p ts) e

    abbrev AgreesOnItems : ℕ → Type 0
    AgreesOnItems m = (n : ℕ) (found : List Data) (ts : List Token) → length ts < m → length ts ≤ n → Agrees (with_items found) (items p n ts) (items_from v m found ts)

    item_agrees : (m n : ℕ) (found : List Data) (ts : List Token) (x : Reading Data) → AgreesOnItems m → length ts < suc m → length ts ≤ n → after_end_array ts ≡ None
        → Agrees (data_of numbers) (p ts) x → Agrees (with_items found) (items p n ts) (and_then (λ d rest. items_from v m (found ++ d ∷ []) rest) x)
    item_agrees m n found ts (done d r) more a b going e =
        let j = converted-Some (data_of numbers) (p ts) d r e in
        let less = shorter ts r j.0 j.1 in
        let whole = items_more p n ts r j.0 (omega arith) going j.1 in
        let rest = more (n - 1) (found ++ d ∷ []) r (omega arith) (omega arith) in
        subst (λ o. Agrees (with_items found) o (items_from v m (found ++ d ∷ []) r)) (sym whole)
        (Agrees-under (with_items found) (with_items (found ++ d ∷ [])) (json.item j.0) (with_items-item found j.0 d j.2) (items p (n - 1) r) _ rest)
    item_agrees m n found ts (stopped NotJson) more a b going e = items_fail p n ts going e
    item_agrees m n found ts (stopped TooDeep) more a b going e = items_fail p n ts going e
    item_agrees m n found ts (stopped NumberTooLarge) more a b going e = no_items_after n found ts going e
    item_agrees m n found ts (stopped NumberNotInteger) more a b going e = no_items_after n found ts going e

    items_step-agrees : (m n : ℕ) (found : List Data) (ts : List Token) (o : Option (List Token)) → AgreesOnItems m → length ts < suc m → length ts ≤ n → after_end_array ts ≡ o
        → Agrees (with_items found) (items p n ts) (items_step v (items_from v m) found ts o)
    items_step-agrees m n found ts (Some r) more a b e =
        ap (converted (with_items found)) (items_end p n ts r b e) ∙ ap (λ ds. Some (ds, r)) (items_before-no_items found)
    items_step-agrees m n found ts None more a b e = item_agrees m n found ts (v ts) more a b e (agrees ts)

    items_from-agrees : (m : ℕ) → AgreesOnItems m
    unfolding items_from
    items_from-agrees zero n found ts a b = absurd (omega arith)
    items_from-agrees (suc m) n found ts a b = items_step-agrees m n found ts (after_end_array ts) (items_from-agrees m) a b refl

    no_members_after : (n : ℕ) (found : Members) (k : List ℕ) (ts s : List Token) → read_key ts ≡ Some (Some k, s) → converted (data_of numbers) (p s) ≡ None
        → converted (with_members found) (members p n ts) ≡ None
    unfolding members
    no_members_after zero found k ts s key e = refl
    no_members_after (suc n) found k ts s key e =
        ap (λ o. converted (with_members found) (option_and_then (λ q. json.members_step p (members p n) q.0 q.1) o)) key ∙ no_members_from found k (members p n) (p s) e

    abbrev AgreesOnMembers : ℕ → Type 0
    AgreesOnMembers m = (n : ℕ) (found : Members) (ts : List Token) → length ts < m → length ts ≤ n → Agrees (with_members found) (members p n ts) (members_from v m found ts)

    member_agrees : (m n : ℕ) (found : Members) (k : List ℕ) (ts s : List Token) (x : Reading Data) → AgreesOnMembers m → length ts < suc m → length ts ≤ n → read_key ts ≡ Some (Some k, s)
        → Agrees (data_of numbers) (p s) x → Agrees (with_members found) (members p n ts) (and_then (λ d rest. members_from v m (put k d found) rest) x)
    member_agrees m n found k ts s (done d r) more a b key e =
        let j = converted-Some (data_of numbers) (p s) d r e in
        let less = shorter s r j.0 j.1 in
        let lesser = read_key-shorter ts (Some k) s key in
        let whole = members_more p n k ts s r j.0 (omega arith) key j.1 in
        let rest = more (n - 1) (put k d found) r (omega arith) (omega arith) in
        subst (λ o. Agrees (with_members found) o (members_from v m (put k d found) r)) (sym whole)
        (Agrees-under (with_members found) (with_members (put k d found)) (json.member k j.0) (with_members-member found k j.0 d j.2) (members p (n - 1) r) _ rest)
    member_agrees m n found k ts s (stopped NotJson) more a b key e = members_fail p n k ts s key e
    member_agrees m n found k ts s (stopped TooDeep) more a b key e = members_fail p n k ts s key e
    member_agrees m n found k ts s (stopped NumberTooLarge) more a b key e = no_members_after n found k ts s key e
    member_agrees m n found k ts s (stopped NumberNotInteger) more a b key e = no_members_after n found k ts s key e

    members_step-agrees : (m n : ℕ) (found : Members) (ts : List Token) (o : Option (Option (List ℕ) × List Token)) → AgreesOnMembers m → length ts < suc m → length ts ≤ n → read_key ts ≡ o
        → Agrees (with_members found) (members p n ts) (members_step v (members_from v m) found o)
    members_step-agrees m n found ts None more a b e = members_no_key p n ts e
    members_step-agrees m n found ts (Some (None, r)) more a b e = ap (converted (with_members found)) (members_end p n ts r b e)
    members_step-agrees m n found ts (Some (Some k, s)) more a b e = member_agrees m n found k ts s (v s) more a b e (agrees s)

    members_from-agrees : (m : ℕ) → AgreesOnMembers m
    unfolding members_from
    members_from-agrees zero n found ts a b = absurd (omega arith)
    members_from-agrees (suc m) n found ts a b = members_step-agrees m n found ts (read_key ts) (members_from-agrees m) a b refl

    all_items-agree : (ts : List Token) → Agrees (items_data numbers) (items p (length ts) ts) (all_items v ts)
    all_items-agree ts =
        Agrees-same (with_items []) (items_data numbers) (λ js. as_it_is (items_data numbers js)) (items p (length ts) ts) (all_items v ts)
        (items_from-agrees (suc (length ts)) (length ts) [] ts (omega arith) (omega arith))

    all_members-agree : (ts : List Token) → Agrees (with_members no_members) (members p (length ts) ts) (all_members v ts)
    all_members-agree ts = members_from-agrees (suc (length ts)) (length ts) no_members ts (omega arith) (omega arith)

  -- ---- values

  number-agrees : (s : List ℕ) (ts : List Token) (x : Option Num) → number_of s ≡ x → Agrees (data_of numbers) (Some (json.number s, ts)) (number_reading numbers s x ts)
  number-agrees s ts x e = number_data-agrees numbers s ts x e

  value_with-agrees : (a : Parse json.Items) (o : Parse json.Members) (b : Reads Items) (q : Reads Members)
      → ((ts : List Token) → Agrees (items_data numbers) (a ts) (b ts)) → ((ts : List Token) → Agrees (with_members no_members) (o ts) (q ts))
      → (ts : List Token) → Agrees (data_of numbers) (json.value_with a o ts) (value_with numbers b q ts)
  value_with-agrees a o b q f g [] = refl
  value_with-agrees a o b q f g (Token.begin_object ∷ ts) = Agrees-reading_map (with_members no_members) (data_of numbers) json.object object (λ ms. refl) (o ts) (q ts) (g ts)
  value_with-agrees a o b q f g (Token.end_object ∷ ts) = refl
  value_with-agrees a o b q f g (Token.begin_array ∷ ts) = Agrees-reading_map (items_data numbers) (data_of numbers) json.array array (λ js. refl) (a ts) (b ts) (f ts)
  value_with-agrees a o b q f g (Token.end_array ∷ ts) = refl
  value_with-agrees a o b q f g (Token.key s ∷ ts) = refl
  value_with-agrees a o b q f g (Token.string s ∷ ts) = refl
  value_with-agrees a o b q f g (Token.number s ∷ ts) = number-agrees s ts (number_of s) refl
  value_with-agrees a o b q f g (Token.boolean x ∷ ts) = refl
  value_with-agrees a o b q f g (Token.null ∷ ts) = refl
  value_with-agrees a o b q f g (Token.bad ∷ ts) = refl

  pub value_from-agrees : (depth : ℕ) (ts : List Token) → Agrees (data_of numbers) (value depth ts) (value_from numbers depth ts)
  unfolding value value_from
  value_from-agrees zero ts = value_with-agrees (λ ts. None) (λ ts. None) (λ ts. stopped TooDeep) (λ ts. stopped TooDeep) (λ ts. refl) (λ ts. refl) ts
  value_from-agrees (suc depth) ts =
      value_with-agrees (λ ts. items (value depth) (length ts) ts) (λ ts. members (value depth) (length ts) ts) (all_items (value_from numbers depth)) (all_members (value_from numbers depth))
      (all_items-agree depth (value_from-agrees depth)) (all_members-agree depth (value_from-agrees depth)) ts
