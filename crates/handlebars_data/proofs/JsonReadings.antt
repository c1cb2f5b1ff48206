-- The readings of values, arrays and objects, a token at a time.
use Rattle.std.proofs.Common.{◌≡◌, ℕ, zero, suc, ◌-◌, ◌<◌, List, [], ◌∷◌, ◌++◌, Some, None, refl, ap, ◌∙◌, arith}
use Rattle.json.specs.Token.{Token}
use Rattle.json.specs.Json.{after_end_array, read_key}
use Rattle.serde_json.specs.Data.{Data, array, object, Items, Members, put}
use Rattle.serde_json.specs.View.{items_of}
use Rattle.handlebars_data.specs.JsonReading.{done, stopped, and_then, reading_map, Reads, items_step, items_from, members_step, members_from, value_with, all_items, all_members, value_from}
use Rattle.handlebars_data.specs.declared.json_text.Numbers.{Numbers}
use Rattle.handlebars_data.specs.declared.json_value.Fault.{Fault}
use Rattle.handlebars_data.specs.declared.json_value.Fault.TheVariants.{NotJson, TooDeep}

module _ (value : Reads Data) where
  -- ---- arrays

  pub items_over : (n : ℕ) (found : List Data) (ts r : List Token) → 0 < n → after_end_array ts ≡ Some r → items_from value n found ts ≡ done (items_of found) r
  unfolding items_from
  items_over zero found ts r some e = absurd (omega arith)
  items_over (suc n) found ts r some e = ap (items_step value (items_from value n) found ts) e

  pub items_next : (n : ℕ) (found : List Data) (ts r : List Token) (d : Data) → 0 < n → after_end_array ts ≡ None → value ts ≡ done d r
      → items_from value n found ts ≡ items_from value (n - 1) (found ++ d ∷ []) r
  unfolding items_from
  items_next zero found ts r d some e f = absurd (omega arith)
  items_next (suc n) found ts r d some e f =
      let less : n ≡ suc n - 1 = omega arith in
      ap (items_step value (items_from value n) found ts) e ∙ ap (and_then (λ x rest. items_from value n (found ++ x ∷ []) rest)) f
      ∙ ap (λ m. items_from value m (found ++ d ∷ []) r) less

  pub items_stop : (n : ℕ) (found : List Data) (ts : List Token) (why : Fault) → 0 < n → after_end_array ts ≡ None → value ts ≡ stopped why
      → items_from value n found ts ≡ stopped why
  unfolding items_from
  items_stop zero found ts why some e f = absurd (omega arith)
  items_stop (suc n) found ts why some e f =
      ap (items_step value (items_from value n) found ts) e ∙ ap (and_then (λ x rest. items_from value n (found ++ x ∷ []) rest)) f

  -- ---- objects

  pub members_over : (n : ℕ) (found : Members) (ts r : List Token) → 0 < n → read_key ts ≡ Some (None, r) → members_from value n found ts ≡ done found r
  unfolding members_from
  members_over zero found ts r some e = absurd (omega arith)
  members_over (suc n) found ts r some e = ap (members_step value (members_from value n) found) e

  pub members_no_key : (n : ℕ) (found : Members) (ts : List Token) → read_key ts ≡ None → members_from value n found ts ≡ stopped NotJson
  unfolding members_from
  members_no_key zero found ts e = refl
  members_no_key (suc n) found ts e = ap (members_step value (members_from value n) found) e

  pub members_next : (n : ℕ) (found : Members) (k : List ℕ) (ts s r : List Token) (d : Data) → 0 < n → read_key ts ≡ Some (Some k, s) → value s ≡ done d r
      → members_from value n found ts ≡ members_from value (n - 1) (put k d found) r
  unfolding members_from
  members_next zero found k ts s r d some e f = absurd (omega arith)
  members_next (suc n) found k ts s r d some e f =
      let less : n ≡ suc n - 1 = omega arith in
      ap (members_step value (members_from value n) found) e ∙ ap (and_then (λ x rest. members_from value n (put k x found) rest)) f
      ∙ ap (λ m. members_from value m (put k d found) r) less

  pub members_stop : (n : ℕ) (found : Members) (k : List ℕ) (ts s : List Token) (why : Fault) → 0 < n → read_key ts ≡ Some (Some k, s) → value s ≡ stopped why
      → members_from value n found ts ≡ stopped why
  unfolding members_from
  members_stop zero found k ts s why some e f = absurd (omega arith)
  members_stop (suc n) found k ts s why some e f =
      ap (members_step value (members_from value n) found) e ∙ ap (and_then (λ x rest. members_from value n (put k x found) rest)) f

-- ---- values

module _ (numbers : Numbers) where
  abbrev nested_items : ℕ → Reads Items
  nested_items zero ts = stopped TooDeep
  nested_items (suc depth) ts = all_items (value_from numbers depth) ts

  abbrev nested_members : ℕ → Reads Members
  nested_members zero ts = stopped TooDeep
  nested_members (suc depth) ts = all_members (value_from numbers depth) ts

  -- The depth matters only where an array or an object begins.
  pub value_from-tokens : (depth : ℕ) (ts : List Token) → value_from numbers depth ts ≡ value_with numbers (nested_items depth) (nested_members depth) ts
  unfolding value_from
  value_from-tokens zero ts = refl
  value_from-tokens (suc depth) ts = refl

  pub value_from-begin_array : (depth : ℕ) (ts : List Token) → value_from numbers (suc depth) (Token.begin_array ∷ ts) ≡ reading_map array (all_items (value_from numbers depth) ts)
  unfolding value_from
  value_from-begin_array depth ts = refl

  pub value_from-begin_object : (depth : ℕ) (ts : List Token) → value_from numbers (suc depth) (Token.begin_object ∷ ts) ≡ reading_map object (all_members (value_from numbers depth) ts)
  unfolding value_from
  value_from-begin_object depth ts = refl

  pub value_from-too_deep-array : (ts : List Token) → value_from numbers 0 (Token.begin_array ∷ ts) ≡ stopped TooDeep
  unfolding value_from
  value_from-too_deep-array ts = refl

  pub value_from-too_deep-object : (ts : List Token) → value_from numbers 0 (Token.begin_object ∷ ts) ≡ stopped TooDeep
  unfolding value_from
  value_from-too_deep-object ts = refl
