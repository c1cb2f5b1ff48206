use Rattle.std.proofs.Common.{◌≡◌, ◌-◌, ◌<◌, [], ◌∷◌, ◌++◌, length, map, Some, None, string_bytes, sym, ap, ap₂, ◌∙◌, arith, rules, suc}
use Rattle.json.specs.Token.{Token}
use Rattle.json.specs.Json.{after_end_array, read_key}
use Rattle.json.specs.Reads.{token_of}
use Rattle.json.proofs.Grammar.{read_key-shorter}
use Rattle.std.proofs.lemmas.List.{map-append}
use Rattle.std.proofs.lemmas.Result.{IfOk-weaker}
use Rattle.serde_json.specs.Data.{null, boolean, string, array, object, put}
use Rattle.serde_json.specs.View.{view, members_view}
use Rattle.serde_json.specs.declared.value.Value.{String, Bool, Null, the_lemmas}
use Rattle.serde_json.proofs.Views.{view-Array, view-Object, members_view-insert_entry}
use Rattle.handlebars_data.specs.JsonReading.{done, stopped, reading_map, value_from, items_from, members_from}
use Rattle.handlebars_data.proofs.JsonReadings.{items_over, items_next, items_stop, members_over, members_no_key, members_next, members_stop, value_from-tokens, value_from-begin_array, value_from-begin_object, value_from-too_deep-array, value_from-too_deep-object}
use Rattle.handlebars_data.specs.declared.json_value.Fault.TheVariants.{NotJson, TooDeep}
use Rattle.handlebars_data.proofs.json_value.+value.Goals as goal

pub read_value-returns-in_err-token-clause-stop : goal.read_value-returns-in_err-token-clause-stop
read_value-returns-in_err-token-clause-stop t c why e =
    let empty : c.args.reader.now ≡ [] = grind arith in
    let is : NotJson ≡ why = grind arith in
    ap (value_from c.args.numbers c.args.depth) empty ∙ value_from-tokens c.args.numbers c.args.depth [] ∙ ap stopped is

pub read_value-returns-in_ok-from_str-in-String-clause-ok : goal.read_value-returns-in_ok-from_str-in-String-clause-ok
read_value-returns-in_ok-from_str-in-String-clause-ok t c =
    let first : c.args.reader.now ≡ token_of c.in_ok-token.token ∷ c.next.new.self = grind arith in
    let is : c.args.reader.now ≡ Token.string c.in-String.text.now ∷ c.next.new.self = grind (arith, first) in
    let seen : view (String c.in_ok-from_str-in-String.field-0) ≡ string c.in-String.text.now = search (rules, the_lemmas) in
    ap (value_from c.args.numbers c.args.depth) is ∙ value_from-tokens c.args.numbers c.args.depth _ ∙ ap (λ d. done d c.next.new.self) (sym seen)

pub read_value-returns-in-Bool-clause-ok : goal.read_value-returns-in-Bool-clause-ok
read_value-returns-in-Bool-clause-ok t c =
    let first : c.args.reader.now ≡ token_of c.in_ok-token.token ∷ c.next.new.self = grind arith in
    let is : c.args.reader.now ≡ Token.boolean c.in-Bool.b ∷ c.next.new.self = grind (arith, first) in
    let seen : view (Bool c.in-Bool.b) ≡ boolean c.in-Bool.b = search (rules, the_lemmas) in
    ap (value_from c.args.numbers c.args.depth) is ∙ value_from-tokens c.args.numbers c.args.depth _ ∙ ap (λ d. done d c.next.new.self) (sym seen)

pub read_value-returns-in-Null-clause-ok : goal.read_value-returns-in-Null-clause-ok
read_value-returns-in-Null-clause-ok t c =
    let first : c.args.reader.now ≡ token_of c.in_ok-token.token ∷ c.next.new.self = grind arith in
    let is : c.args.reader.now ≡ Token.null ∷ c.next.new.self = grind (arith, first) in
    let seen : view (Null) ≡ null = search (rules, the_lemmas) in
    ap (value_from c.args.numbers c.args.depth) is ∙ value_from-tokens c.args.numbers c.args.depth _ ∙ ap (λ d. done d c.next.new.self) (sym seen)

pub read_value-returns-in-Number-clause-ok : goal.read_value-returns-in-Number-clause-ok
read_value-returns-in-Number-clause-ok t c =
    let first : c.args.reader.now ≡ token_of c.in_ok-token.token ∷ c.next.new.self = grind arith in
    let is : c.args.reader.now ≡ Token.number c.in-Number.text.now ∷ c.next.new.self = grind (arith, first) in
    let begins = ap (value_from c.args.numbers c.args.depth) is ∙ value_from-tokens c.args.numbers c.args.depth _ in
    IfOk-weaker c.read_number.result _ _ (λ v h. begins ∙ h c.next.new.self) c.read_number.ensures.ok

pub read_value-returns-in-Number-clause-stop : goal.read_value-returns-in-Number-clause-stop
read_value-returns-in-Number-clause-stop t c why e =
    let first : c.args.reader.now ≡ token_of c.in_ok-token.token ∷ c.next.new.self = grind arith in
    let is : c.args.reader.now ≡ Token.number c.in-Number.text.now ∷ c.next.new.self = grind (arith, first) in
    let begins = ap (value_from c.args.numbers c.args.depth) is ∙ value_from-tokens c.args.numbers c.args.depth _ in
    begins ∙ c.read_number.ensures.stop why c.next.new.self e

pub read_value-returns-in-EndObject-clause-stop : goal.read_value-returns-in-EndObject-clause-stop
read_value-returns-in-EndObject-clause-stop t c why e =
    let first : c.args.reader.now ≡ token_of c.in_ok-token.token ∷ c.next.new.self = grind arith in
    let is : NotJson ≡ why = cc in
    value_from-tokens c.args.numbers c.args.depth c.args.reader.now ∙ rw first (grind arith)

pub read_value-returns-in_err-depth-in-BeginArray-clause-stop : goal.read_value-returns-in_err-depth-in-BeginArray-clause-stop
read_value-returns-in_err-depth-in-BeginArray-clause-stop t c why e =
    let first : c.args.reader.now ≡ token_of c.in_ok-token.token ∷ c.next.new.self = grind arith in
    let is : c.args.reader.now ≡ Token.begin_array ∷ c.next.new.self = first ∙ ap (λ k. token_of k ∷ c.next.new.self) c.in-BeginArray.is in
    let zero_depth : c.args.depth ≡ 0 = grind arith in
    let same : TooDeep ≡ why = grind arith in
    ap₂ (value_from c.args.numbers) zero_depth is ∙ value_from-too_deep-array c.args.numbers c.next.new.self ∙ ap stopped same

pub read_value-returns-in_err-read_items-in-BeginArray-clause-stop : goal.read_value-returns-in_err-read_items-in-BeginArray-clause-stop
read_value-returns-in_err-read_items-in-BeginArray-clause-stop t c why e =
    let first : c.args.reader.now ≡ token_of c.in_ok-token.token ∷ c.next.new.self = grind arith in
    let is : c.args.reader.now ≡ Token.begin_array ∷ c.next.new.self = first ∙ ap (λ k. token_of k ∷ c.next.new.self) c.in-BeginArray.is in
    let within : c.args.depth ≡ suc c.in_ok-depth-in-BeginArray.depth = grind arith in
    let begins = ap₂ (value_from c.args.numbers) within is ∙ value_from-begin_array c.args.numbers c.in_ok-depth-in-BeginArray.depth c.next.new.self in
    begins ∙ ap (reading_map array) (c.read_items.ensures.stop why (grind arith))

pub read_value-returns-in_ok-read_items-in-BeginArray-clause-ok : goal.read_value-returns-in_ok-read_items-in-BeginArray-clause-ok
read_value-returns-in_ok-read_items-in-BeginArray-clause-ok t c =
    let first : c.args.reader.now ≡ token_of c.in_ok-token.token ∷ c.next.new.self = grind arith in
    let is : c.args.reader.now ≡ Token.begin_array ∷ c.next.new.self = first ∙ ap (λ k. token_of k ∷ c.next.new.self) c.in-BeginArray.is in
    let within : c.args.depth ≡ suc c.in_ok-depth-in-BeginArray.depth = grind arith in
    let begins = ap₂ (value_from c.args.numbers) within is ∙ value_from-begin_array c.args.numbers c.in_ok-depth-in-BeginArray.depth c.next.new.self in
    let found = c.in_ok-read_items-in-BeginArray in
    begins ∙ ap (reading_map array) found.ensures.ok ∙ ap (λ d. done d c.read_items.new.reader) (sym (view-Array found.field-0))

pub read_value-returns-in_err-depth-in-BeginObject-clause-stop : goal.read_value-returns-in_err-depth-in-BeginObject-clause-stop
read_value-returns-in_err-depth-in-BeginObject-clause-stop t c why e =
    let first : c.args.reader.now ≡ token_of c.in_ok-token.token ∷ c.next.new.self = grind arith in
    let is : c.args.reader.now ≡ Token.begin_object ∷ c.next.new.self = first ∙ ap (λ k. token_of k ∷ c.next.new.self) c.in-BeginObject.is in
    let zero_depth : c.args.depth ≡ 0 = grind arith in
    let same : TooDeep ≡ why = grind arith in
    ap₂ (value_from c.args.numbers) zero_depth is ∙ value_from-too_deep-object c.args.numbers c.next.new.self ∙ ap stopped same

pub read_value-returns-in_err-read_members-in-BeginObject-clause-stop : goal.read_value-returns-in_err-read_members-in-BeginObject-clause-stop
read_value-returns-in_err-read_members-in-BeginObject-clause-stop t c why e =
    let first : c.args.reader.now ≡ token_of c.in_ok-token.token ∷ c.next.new.self = grind arith in
    let is : c.args.reader.now ≡ Token.begin_object ∷ c.next.new.self = first ∙ ap (λ k. token_of k ∷ c.next.new.self) c.in-BeginObject.is in
    let within : c.args.depth ≡ suc c.in_ok-depth-in-BeginObject.depth = grind arith in
    let begins = ap₂ (value_from c.args.numbers) within is ∙ value_from-begin_object c.args.numbers c.in_ok-depth-in-BeginObject.depth c.next.new.self in
    begins ∙ ap (reading_map object) (c.read_members.ensures.stop why (grind arith))

pub read_value-returns-in_ok-read_members-in-BeginObject-clause-ok : goal.read_value-returns-in_ok-read_members-in-BeginObject-clause-ok
read_value-returns-in_ok-read_members-in-BeginObject-clause-ok t c =
    let first : c.args.reader.now ≡ token_of c.in_ok-token.token ∷ c.next.new.self = grind arith in
    let is : c.args.reader.now ≡ Token.begin_object ∷ c.next.new.self = first ∙ ap (λ k. token_of k ∷ c.next.new.self) c.in-BeginObject.is in
    let within : c.args.depth ≡ suc c.in_ok-depth-in-BeginObject.depth = grind arith in
    let begins = ap₂ (value_from c.args.numbers) within is ∙ value_from-begin_object c.args.numbers c.in_ok-depth-in-BeginObject.depth c.next.new.self in
    let found = c.in_ok-read_members-in-BeginObject in
    begins ∙ ap (reading_map object) found.ensures.ok ∙ ap (λ d. done d c.read_members.new.reader) (sym (view-Object found.field-0))

pub read_items-returns-in_err-read_value-clause-stop : goal.read_items-returns-in_err-read_value-clause-stop
read_items-returns-in_err-read_value-clause-stop t c why e =
    let l = c.items in
    let going : (after_end_array l.reader ≡ None) × (c.take_end_array.new.self ≡ l.reader) = grind arith in
    let n = l.invariant.0 in
    l.invariant.3 ∙ items_stop (value_from c.args.numbers c.args.depth) n (map view l.found.items) l.reader why (omega (arith, l.invariant.1)) going.0 (rw (← going.1) (c.read_value.ensures.stop why (grind arith)))

pub read_items-items-preserved : goal.read_items-items-preserved
read_items-items-preserved t c =
    let value = value_from c.args.numbers c.args.depth in
    let l = c.items in
    let n = l.invariant.0 in
    let going : (after_end_array l.reader ≡ None) × (c.take_end_array.new.self ≡ l.reader) = grind arith in
    let item = c.in_ok-read_value in
    let r = c.read_value.new.reader in
    let less : length r < length l.reader = rw (← going.1) item.ensures.shorter in
    let next = items_next value n (map view l.found.items) l.reader r (view item.field-0) (omega (arith, l.invariant.1)) going.0 (rw (← going.1) item.ensures.ok) in
    let pushed : map view l.found.items ++ view item.field-0 ∷ [] ≡ map view c.push.new.self.items = sym (ap (map view) c.in_ok-push.ensures.items ∙ map-append view l.found.items (item.field-0 ∷ [])) in (
      n - 1,
      omega (arith, l.invariant.1),
      omega (arith, l.invariant.2),
      l.invariant.3 ∙ next ∙ ap (λ vs. items_from value (n - 1) vs r) pushed,
    )

pub read_items-returns-clause-ok : goal.read_items-returns-clause-ok
read_items-returns-clause-ok t c =
    let l = c.items in
    let n = l.invariant.0 in
    l.invariant.3 ∙ items_over (value_from c.args.numbers c.args.depth) n (map view l.found.items) l.reader c.take_end_array.new.self (omega (arith, l.invariant.1)) (grind arith)

pub read_members-returns-in_err-key-clause-stop : goal.read_members-returns-in_err-key-clause-stop
read_members-returns-in_err-key-clause-stop t c why e =
    let l = c.members in
    let same : NotJson ≡ why = grind arith in
    l.invariant.3 ∙ members_no_key (value_from c.args.numbers c.args.depth) l.invariant.0 (members_view l.found.entries) l.reader c.in_err-key.ensures.value ∙ ap stopped same

pub read_members-returns-in_err-value-clause-stop : goal.read_members-returns-in_err-value-clause-stop
read_members-returns-in_err-value-clause-stop t c why e =
    let l = c.members in
    let k = c.in-Some.key.now in
    let s = c.next_key.new.self in
    let named : read_key l.reader ≡ Some (Some k, s) = grind arith in
    let n = l.invariant.0 in
    l.invariant.3 ∙ members_stop (value_from c.args.numbers c.args.depth) n (members_view l.found.entries) k l.reader s why (omega (arith, l.invariant.1)) named (c.read_value.ensures.stop why (grind arith))

pub read_members-members-preserved : goal.read_members-members-preserved
read_members-members-preserved t c =
    let l = c.members in
    let k = c.in-Some.key.now in
    let s = c.next_key.new.self in
    let named : read_key l.reader ≡ Some (Some k, s) = grind arith in
    let value = value_from c.args.numbers c.args.depth in
    let n = l.invariant.0 in
    let read = c.in_ok-value in
    let r = c.read_value.new.reader in
    let less = read_key-shorter l.reader (Some k) s named in
    let lesser = read.ensures.shorter in
    let copied : string_bytes c.in_ok-key-2.key ≡ k = search rules in
    let next = members_next value n (members_view l.found.entries) k l.reader s r (view read.value) (omega (arith, l.invariant.1)) named read.ensures.ok in
    let put_in : put k (view read.value) (members_view l.found.entries) ≡ members_view c.insert.new.self.entries =
    sym (ap members_view c.in_ok-insert.ensures.entries ∙ members_view-insert_entry l.found.entries c.in_ok-key-2.key read.value ∙ ap (λ b. put b (view read.value) (members_view l.found.entries)) copied) in (
      n - 1,
      omega (arith, l.invariant.1),
      omega (arith, l.invariant.2),
      l.invariant.3 ∙ next ∙ ap (λ ms. members_from value (n - 1) ms r) put_in,
    )

pub read_members-returns-clause-ok : goal.read_members-returns-clause-ok
read_members-returns-clause-ok t c =
    let l = c.members in
    let n = l.invariant.0 in
    l.invariant.3 ∙ members_over (value_from c.args.numbers c.args.depth) n (members_view l.found.entries) l.reader c.next_key.new.self (omega (arith, l.invariant.1)) (grind arith)
