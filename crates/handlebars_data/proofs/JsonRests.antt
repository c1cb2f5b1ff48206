-- What a reading leaves of the tokens, and what it stops for.
use Rattle.std.proofs.Common.{◌≡◌, ℕ, zero, suc, ◌<◌, ◌≤◌, List, [], ◌∷◌, ◌++◌, length, Option, Some, None, Contains, refl, sym, subst, arith}
use Rattle.json.specs.Token.{Token}
use Rattle.json.specs.Json.{after_end_array, read_key}
use Rattle.json.proofs.Grammar.{closed_array, read_key_is}
use Rattle.serde_json.specs.Data.{Num, unsigned, negative, float, Data, array, object, Items, Members, no_members, put}
use Rattle.serde_json.specs.Read.{number_of}
use Rattle.handlebars_data.specs.JsonReading.{Reading, done, stopped, reading_map, and_then, Reads, items_step, items_from, members_step, members_from, number_reading, value_with, all_items, all_members, value_from}
use Rattle.handlebars_data.specs.JsonFaults.{nesting, HasNumberTooLarge, HasFloat}
use Rattle.handlebars_data.specs.declared.json_text.Numbers.{Numbers}
use Rattle.handlebars_data.specs.declared.json_text.Numbers.TheVariants.{Spelled, Refused}
use Rattle.handlebars_data.specs.declared.json_value.Fault.{Fault}
use Rattle.handlebars_data.specs.declared.json_value.Fault.TheVariants.{NotJson, TooDeep, NumberTooLarge, NumberNotInteger}

-- ---- the tokens that are left

abbrev IsRest : List Token → List Token → Type 0
IsRest r ts = (t : Token) → Contains r t → Contains ts t

Contains-first : (t : Token) (ts : List Token) → Contains (t ∷ ts) t
Contains-first t ts = (0, omega arith, refl)

Contains-later : (u : Token) (ts : List Token) (t : Token) → Contains ts t → Contains (u ∷ ts) t
Contains-later u ts t (k, below, is) = (suc k, omega arith, is)

-- what a fault says of the tokens
abbrev pub Shows : Numbers → ℕ → List Token → Fault → Type 0
Shows numbers depth ts NotJson = Unit {0}
Shows numbers depth ts TooDeep = depth < nesting ts
Shows numbers depth ts NumberTooLarge = HasNumberTooLarge ts
Shows numbers depth ts NumberNotInteger = (numbers ≡ Refused) × HasFloat ts

Shows-rest : (numbers : Numbers) (depth : ℕ) (r ts : List Token) → IsRest r ts → nesting r ≤ nesting ts → (why : Fault) → Shows numbers depth r why → Shows numbers depth ts why
Shows-rest numbers depth r ts rest nests NotJson h = tt
Shows-rest numbers depth r ts rest nests TooDeep h = omega arith
Shows-rest numbers depth r ts rest nests NumberTooLarge (s, has, is) = (s, rest (Token.number s) has, is)
Shows-rest numbers depth r ts rest nests NumberNotInteger (refused, (s, x, has, is)) = (refused, (s, x, rest (Token.number s) has, is))

-- A value nests no deeper than its tokens, and it is closed at its end.
abbrev pub Leaves : {A : Type 0} → Numbers → ℕ → List Token → Reading A → Type 0
Leaves numbers depth ts (done a r) = IsRest r ts × (nesting r ≤ nesting ts)
Leaves numbers depth ts (stopped why) = Shows numbers depth ts why

-- The end of an array or an object closes what began before it.
abbrev LeavesOpen : {A : Type 0} → Numbers → ℕ → List Token → Reading A → Type 0
LeavesOpen numbers depth ts (done a r) = IsRest r ts × (nesting r ≤ suc (nesting ts))
LeavesOpen numbers depth ts (stopped why) = Shows numbers depth ts why

LeavesOpen-rest : {A : Type 0} (numbers : Numbers) (depth : ℕ) (r ts : List Token) → IsRest r ts → nesting r ≤ nesting ts → (x : Reading A) → LeavesOpen numbers depth r x → LeavesOpen numbers depth ts x
LeavesOpen-rest numbers depth r ts rest nests (done a s) h = (λ t has. rest t (h.0 t has), omega arith)
LeavesOpen-rest numbers depth r ts rest nests (stopped why) h = Shows-rest numbers depth r ts rest nests why h

-- ---- arrays and objects

nesting-end_array : (ts r : List Token) → after_end_array ts ≡ Some r → IsRest r ts × (nesting r ≤ suc (nesting ts))
nesting-end_array ts r e =
    let is = closed_array ts r e in
    subst (λ us. IsRest r us × (nesting r ≤ suc (nesting us))) (sym is) (λ t has. Contains-later Token.end_array r t has, omega arith)

IsRest-key : (ts r : List Token) (k : List ℕ) → read_key ts ≡ Some (Some k, r) → IsRest r ts × (nesting r ≤ nesting ts)
IsRest-key ts r k e =
    let is = read_key_is ts (Some k) r e in
    subst (λ us. IsRest r us × (nesting r ≤ nesting us)) (sym is) (λ t has. Contains-later (Token.key k) r t has, omega arith)

nesting-end_object : (ts r : List Token) → read_key ts ≡ Some (None, r) → IsRest r ts × (nesting r ≤ suc (nesting ts))
nesting-end_object ts r e =
    let is = read_key_is ts None r e in
    subst (λ us. IsRest r us × (nesting r ≤ suc (nesting us))) (sym is) (λ t has. Contains-later Token.end_object r t has, omega arith)

module _ (numbers : Numbers) (depth : ℕ) (v : Reads Data) (leaves : (ts : List Token) → Leaves numbers depth ts (v ts)) where
  abbrev LeavesItems : ℕ → Type 0
  LeavesItems m = (found : List Data) (ts : List Token) → LeavesOpen numbers depth ts (items_from v m found ts)

  item_leaves : (m : ℕ) (found : List Data) (ts : List Token) (x : Reading Data) → LeavesItems m → Leaves numbers depth ts x
      → LeavesOpen numbers depth ts (and_then (λ d rest. items_from v m (found ++ d ∷ []) rest) x)
  item_leaves m found ts (done d r) more h = LeavesOpen-rest numbers depth r ts h.0 h.1 (items_from v m (found ++ d ∷ []) r) (more (found ++ d ∷ []) r)
  item_leaves m found ts (stopped why) more h = h

  items_step-leaves : (m : ℕ) (found : List Data) (ts : List Token) (o : Option (List Token)) → LeavesItems m → after_end_array ts ≡ o → LeavesOpen numbers depth ts (items_step v (items_from v m) found ts o)
  items_step-leaves m found ts (Some r) more e = nesting-end_array ts r e
  items_step-leaves m found ts None more e = item_leaves m found ts (v ts) more (leaves ts)

  items_from-leaves : (m : ℕ) → LeavesItems m
  unfolding items_from
  items_from-leaves zero found ts = tt
  items_from-leaves (suc m) found ts = items_step-leaves m found ts (after_end_array ts) (items_from-leaves m) refl

  abbrev LeavesMembers : ℕ → Type 0
  LeavesMembers m = (found : Members) (ts : List Token) → LeavesOpen numbers depth ts (members_from v m found ts)

  member_leaves : (m : ℕ) (found : Members) (k : List ℕ) (ts : List Token) (x : Reading Data) → LeavesMembers m → Leaves numbers depth ts x
      → LeavesOpen numbers depth ts (and_then (λ d rest. members_from v m (put k d found) rest) x)
  member_leaves m found k ts (done d r) more h = LeavesOpen-rest numbers depth r ts h.0 h.1 (members_from v m (put k d found) r) (more (put k d found) r)
  member_leaves m found k ts (stopped why) more h = h

  members_step-leaves : (m : ℕ) (found : Members) (ts : List Token) (o : Option (Option (List ℕ) × List Token)) → LeavesMembers m → read_key ts ≡ o → LeavesOpen numbers depth ts (members_step v (members_from v m) found o)
  members_step-leaves m found ts None more e = tt
  members_step-leaves m found ts (Some (None, r)) more e = nesting-end_object ts r e
  members_step-leaves m found ts (Some (Some k, s)) more e =
      let passed = IsRest-key ts s k e in
      LeavesOpen-rest numbers depth s ts passed.0 passed.1 (and_then (λ d rest. members_from v m (put k d found) rest) (v s)) (member_leaves m found k s (v s) more (leaves s))

  members_from-leaves : (m : ℕ) → LeavesMembers m
  unfolding members_from
  members_from-leaves zero found ts = tt
  members_from-leaves (suc m) found ts = members_step-leaves m found ts (read_key ts) (members_from-leaves m) refl

-- ---- values

module _ (numbers : Numbers) (depth : ℕ) where
  -- what is read within, and the token that began it
  Leaves-opened : {A : Type 0} (t : Token) (ts : List Token) → nesting (t ∷ ts) ≡ suc (nesting ts) → (f : A → Data) (x : Reading A) → LeavesOpen numbers depth ts x → Leaves numbers (suc depth) (t ∷ ts) (reading_map f x)
  Leaves-opened t ts opens f (done a r) h = (λ u has. Contains-later t ts u (h.0 u has), omega arith)
  Leaves-opened t ts opens f (stopped NotJson) h = tt
  Leaves-opened t ts opens f (stopped TooDeep) h = omega arith
  Leaves-opened t ts opens f (stopped NumberTooLarge) (s, has, is) = (s, Contains-later t ts (Token.number s) has, is)
  Leaves-opened t ts opens f (stopped NumberNotInteger) (refused, (s, x, has, is)) = (refused, (s, x, Contains-later t ts (Token.number s) has, is))

after_token : (t : Token) (ts : List Token) → nesting (t ∷ ts) ≡ nesting ts → IsRest ts (t ∷ ts) × (nesting ts ≤ nesting (t ∷ ts))
after_token t ts same = (λ u has. Contains-later t ts u has, omega arith)

Leaves-number : (numbers : Numbers) (depth : ℕ) (s : List ℕ) (ts : List Token) (x : Option Num) → number_of s ≡ x → Leaves numbers depth (Token.number s ∷ ts) (number_reading numbers s x ts)
Leaves-number numbers depth s ts None e = (s, Contains-first (Token.number s) ts, e)
Leaves-number numbers depth s ts (Some (unsigned n)) e = after_token (Token.number s) ts refl
Leaves-number numbers depth s ts (Some (negative z)) e = after_token (Token.number s) ts refl
Leaves-number Spelled depth s ts (Some (float x)) e = after_token (Token.number s) ts refl
Leaves-number Refused depth s ts (Some (float x)) e = (refl, (s, x, Contains-first (Token.number s) ts, e))

value_with-leaves : (numbers : Numbers) (depth : ℕ) (a : Reads Items) (o : Reads Members)
    → ((ts : List Token) → Leaves numbers depth (Token.begin_array ∷ ts) (reading_map array (a ts)))
    → ((ts : List Token) → Leaves numbers depth (Token.begin_object ∷ ts) (reading_map object (o ts)))
    → (ts : List Token) → Leaves numbers depth ts (value_with numbers a o ts)
value_with-leaves numbers depth a o f g [] = tt
value_with-leaves numbers depth a o f g (Token.begin_object ∷ ts) = g ts
value_with-leaves numbers depth a o f g (Token.end_object ∷ ts) = tt
value_with-leaves numbers depth a o f g (Token.begin_array ∷ ts) = f ts
value_with-leaves numbers depth a o f g (Token.end_array ∷ ts) = tt
value_with-leaves numbers depth a o f g (Token.key s ∷ ts) = tt
value_with-leaves numbers depth a o f g (Token.string s ∷ ts) = after_token (Token.string s) ts refl
value_with-leaves numbers depth a o f g (Token.number s ∷ ts) = Leaves-number numbers depth s ts (number_of s) refl
value_with-leaves numbers depth a o f g (Token.boolean x ∷ ts) = after_token (Token.boolean x) ts refl
value_with-leaves numbers depth a o f g (Token.null ∷ ts) = after_token Token.null ts refl
value_with-leaves numbers depth a o f g (Token.bad ∷ ts) = tt

pub value_from-leaves : (numbers : Numbers) (depth : ℕ) (ts : List Token) → Leaves numbers depth ts (value_from numbers depth ts)
unfolding value_from
value_from-leaves numbers zero ts = value_with-leaves numbers 0 (λ us. stopped TooDeep) (λ us. stopped TooDeep) (λ us. omega arith) (λ us. omega arith) ts
value_from-leaves numbers (suc depth) ts =
    let v = value_from numbers depth in
    value_with-leaves numbers (suc depth) (all_items v) (all_members v)
    (λ us. Leaves-opened numbers depth Token.begin_array us refl array (all_items v us) (items_from-leaves numbers depth v (value_from-leaves numbers depth) (suc (length us)) [] us))
    (λ us. Leaves-opened numbers depth Token.begin_object us refl object (all_members v us) (members_from-leaves numbers depth v (value_from-leaves numbers depth) (suc (length us)) no_members us)) ts
