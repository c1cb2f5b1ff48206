-- The text of a value, escaped, part by part.
use Rattle.std.proofs.Common.{◌≡◌, ℕ, suc, ◌+◌, ◌<◌, ◌≤◌, Bool, true, false, List, [], ◌++◌, drop, get_or, length, codes, Some, refl, sym, rules, ap, ap₂, ◌∙◌, add-one, drop-cons, ℤ, None, String, Global, Vec, BTreeMap, string_bytes}
use Rattle.std.proofs.lemmas.List.{drop_all}
use Rattle.std.specs.Prelude.{decimal}
use Rattle.std.specs.Fmt.{signed_decimal}
use Rattle.serde_json.specs.Data.{Num, unsigned, negative, float, Data, null, boolean, number, string, array, object, Items, item}
use Rattle.serde_json.specs.Find.{as_u64, as_i64}
use Rattle.serde_json.specs.View.{view, items_view, members_view, number_view}
use Rattle.serde_json.specs.declared.value.Value.{Value, Null, Bool as BoolOf, Number as NumberOf, String as StringOf, Array, Object, the_lemmas}
use Rattle.serde_json.specs.declared.number.Number.{Number}
use Rattle.handlebars_base.specs.Values.{rendered, rendered_items, rendered_number, boolean_text, separator}
use Rattle.handlebars_base.specs.Escape.{escaped}
use Rattle.handlebars_base.specs.Shown.{escaped_if, shown}
use Rattle.handlebars_base.proofs.EscapedBytes.{escaped-append}
use Rattle.handlebars_base.proofs.EscapedNumbers.{escaped-numeric, numeric-decimal, numeric-signed_decimal}

-- a value by its variant in the code
pub view-Null : view Null ≡ null
view-Null = search (rules, the_lemmas)

pub view-Bool : (b : Bool) → view (BoolOf b) ≡ boolean b
view-Bool b = search (rules, the_lemmas)

view-Object : (m : BTreeMap (String Global) Value) → view (Object m) ≡ object (members_view m.entries)
view-Object m = search (rules, the_lemmas)

pub view-Number : (n : Number) → view (NumberOf n) ≡ number (number_view n)
view-Number n = search (rules, the_lemmas)

view-String : (s : String Global) → view (StringOf s) ≡ string (string_bytes s)
view-String s = search (rules, the_lemmas)

pub view-Array : (a : Vec Value Global) → view (Array a) ≡ array (items_view a.items)
view-Array a = search (rules, the_lemmas)

pub rendered-string : (v : Value) (s : String Global) → v ≡ StringOf s → rendered (view v) ≡ string_bytes s
rendered-string v s e = ap rendered (ap view e ∙ view-String s)

pub escaped-null : (v : Value) → v ≡ Null → escaped (rendered (view v)) ≡ []
unfolding escaped
escaped-null v e = ap (λ d. escaped (rendered d)) (ap view e ∙ view-Null)

escaped-boolean_text : (b : Bool) → escaped (boolean_text b) ≡ boolean_text b
unfolding escaped
escaped-boolean_text true = refl
escaped-boolean_text false = refl

pub escaped-bool : (v : Value) (b is : Bool) → v ≡ BoolOf b → b ≡ is → escaped (rendered (view v)) ≡ boolean_text is
escaped-bool v b is e f = ap (λ d. escaped (rendered d)) (ap view e ∙ view-Bool b ∙ ap boolean f) ∙ escaped-boolean_text is

pub escaped-object : (v : Value) (m : BTreeMap (String Global) Value) → v ≡ Object m → escaped (rendered (view v)) ≡ codes "[object]"
unfolding escaped
escaped-object v m e = ap (λ d. escaped (rendered d)) (ap view e ∙ view-Object m)

escaped-separator : (first : Bool) → escaped (separator first) ≡ separator first
unfolding escaped
escaped-separator true = refl
escaped-separator false = refl

pub escaped-array : (ds : Items) → escaped (rendered (array ds)) ≡ codes "[" ++ (escaped (rendered_items true ds) ++ codes "]")
unfolding escaped
escaped-array ds = ap (λ t. codes "[" ++ t) (escaped-append (rendered_items true ds) (codes "]"))

-- the members from one on: what is written before it, the member, and the others
pub escaped-items : (first : Bool) (d : Data) (ds : Items)
    → escaped (rendered_items first (item d ds)) ≡ separator first ++ (escaped (rendered d) ++ escaped (rendered_items false ds))
escaped-items first d ds =
    escaped-append (separator first) (rendered d ++ rendered_items false ds)
    ∙ ap₂ (λ s t. s ++ t) (escaped-separator first) (escaped-append (rendered d) (rendered_items false ds))

pub escaped-items_from : (first : Bool) (vs : List Value) (i : ℕ) (v : Value) → i < length vs → v ≡ get_or vs i v
    → escaped (rendered_items first (items_view (drop i vs)))
    ≡ separator first ++ (escaped (rendered (view v)) ++ escaped (rendered_items false (items_view (drop (i + 1) vs))))
escaped-items_from first vs i v l e =
    let tail = λ (j : ℕ). escaped (rendered_items false (items_view (drop j vs))) in
    ap (λ ws. escaped (rendered_items first (items_view ws))) (drop-cons vs i v l)
    ∙ escaped-items first (view (get_or vs i v)) (items_view (drop (suc i) vs))
    ∙ ap₂ (λ w j. separator first ++ (escaped (rendered (view w)) ++ tail j)) (sym e) (sym (add-one i))

pub escaped-items_end : (first : Bool) (vs : List Value) (i : ℕ) → length vs ≤ i
    → escaped (rendered_items first (items_view (drop i vs))) ≡ []
unfolding escaped
escaped-items_end first vs i l = ap (λ ws. escaped (rendered_items first (items_view ws))) (drop_all i vs l)

pub escaped-unsigned : (x : Num) (n : ℕ) → Some n ≡ as_u64 x → escaped (rendered_number x) ≡ decimal n
escaped-unsigned (unsigned m) n e =
    let is : m ≡ n = cc in
    escaped-numeric (decimal m) (numeric-decimal m) ∙ ap decimal is
escaped-unsigned (negative z) n e = cc
escaped-unsigned (float f) n e = cc

pub escaped-negative : (x : Num) (z : ℤ) → None ≡ as_u64 x → Some z ≡ as_i64 x
    → escaped (rendered_number x) ≡ signed_decimal z
escaped-negative (unsigned m) z n e = cc
escaped-negative (negative y) z n e =
    let is : y ≡ z = cc in
    escaped-numeric (signed_decimal y) (numeric-signed_decimal y) ∙ ap signed_decimal is
escaped-negative (float f) z n e = cc

pub escaped-float : (x : Num) → None ≡ as_u64 x → None ≡ as_i64 x → escaped (rendered_number x) ≡ []
unfolding escaped
escaped-float (unsigned m) n e = cc
escaped-float (negative y) n e = cc
escaped-float (float f) n e = refl

-- ---- the same with escaping on or off

pub shown-null : (escapes : Bool) (v : Value) → v ≡ Null → shown escapes (view v) ≡ []
shown-null true v e = escaped-null v e
shown-null false v e = ap rendered (ap view e ∙ view-Null)

pub shown-bool : (escapes : Bool) (v : Value) (b is : Bool) → v ≡ BoolOf b → b ≡ is → shown escapes (view v) ≡ boolean_text is
shown-bool true v b is e f = escaped-bool v b is e f
shown-bool false v b is e f = ap rendered (ap view e ∙ view-Bool b ∙ ap boolean f)

pub shown-object : (escapes : Bool) (v : Value) (m : BTreeMap (String Global) Value) → v ≡ Object m → shown escapes (view v) ≡ codes "[object]"
shown-object true v m e = escaped-object v m e
shown-object false v m e = ap rendered (ap view e ∙ view-Object m)

pub shown-array : (escapes : Bool) (ds : Items)
    → shown escapes (array ds) ≡ codes "[" ++ (escaped_if escapes (rendered_items true ds) ++ codes "]")
shown-array true ds = escaped-array ds
shown-array false ds = refl

pub shown-items_from : (escapes first : Bool) (vs : List Value) (i : ℕ) (v : Value) → i < length vs → v ≡ get_or vs i v
    → escaped_if escapes (rendered_items first (items_view (drop i vs)))
    ≡ separator first ++ (shown escapes (view v) ++ escaped_if escapes (rendered_items false (items_view (drop (i + 1) vs))))
shown-items_from true first vs i v l e = escaped-items_from first vs i v l e
shown-items_from false first vs i v l e =
    ap (λ ws. rendered_items first (items_view ws)) (drop-cons vs i v l)
    ∙ ap₂ (λ w j. separator first ++ (rendered (view w) ++ rendered_items false (items_view (drop j vs)))) (sym e) (sym (add-one i))

pub shown-items_end : (escapes first : Bool) (vs : List Value) (i : ℕ) → length vs ≤ i
    → escaped_if escapes (rendered_items first (items_view (drop i vs))) ≡ []
shown-items_end true first vs i l = escaped-items_end first vs i l
shown-items_end false first vs i l = ap (λ ws. rendered_items first (items_view ws)) (drop_all i vs l)

-- digits need no escaping
pub shown-unsigned : (escapes : Bool) (x : Num) (n : ℕ) → Some n ≡ as_u64 x → escaped_if escapes (rendered_number x) ≡ decimal n
shown-unsigned true x n e = escaped-unsigned x n e
shown-unsigned false (unsigned m) n e = let is : m ≡ n = cc in ap decimal is
shown-unsigned false (negative z) n e = cc
shown-unsigned false (float f) n e = cc

pub shown-negative : (escapes : Bool) (x : Num) (z : ℤ) → None ≡ as_u64 x → Some z ≡ as_i64 x
    → escaped_if escapes (rendered_number x) ≡ signed_decimal z
shown-negative true x z n e = escaped-negative x z n e
shown-negative false (unsigned m) z n e = cc
shown-negative false (negative y) z n e = let is : y ≡ z = cc in ap signed_decimal is
shown-negative false (float f) z n e = cc

pub shown-float : (escapes : Bool) (x : Num) → None ≡ as_u64 x → None ≡ as_i64 x → escaped_if escapes (rendered_number x) ≡ []
shown-float true x n e = escaped-float x n e
shown-float false (unsigned m) n e = cc
shown-float false (negative y) n e = cc
shown-float false (float f) n e = refl
