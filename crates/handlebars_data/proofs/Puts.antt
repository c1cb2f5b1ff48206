-- A value written over another one in an object.
use Rattle.std.proofs.Common.{◌≡◌, ℕ, List, [], ◌∷◌, Some, None, String, Global, Ordering, Less, Equal, Greater, string_bytes, string_cmp, nat_cmp, true, is_some, true≢false, refl, sym, ap, ◌∙◌}
use Rattle.std.proofs.lemmas.Cmp.{nat_list_cmp_total, tied_itself}
use Rattle.std.specs.Cmp.Lexicographic.{slice_cmp}
use Rattle.std.specs.List.{AllByRecursion}
use Rattle.std.specs.List.Sorted.{IsStrictlySortedBy}
use Rattle.std.specs.Map.{keys_of, lookup, set_value}
use Rattle.std.specs.Ordering.{match_ordering}
use Rattle.std.specs.BTreeMap.{is_at}
use Rattle.serde_json.specs.Data.{Data, null, Members, no_members, member, put}
use Rattle.serde_json.specs.Find.{get_member}
use Rattle.serde_json.specs.View.{view, members_view}
use Rattle.serde_json.proofs.Views.{Entry, view-lookup}
use Rattle.handlebars_data.specs.Merge.{merged, with_merged, without_value}
use Rattle.serde_json.specs.declared.value.Value.{Value}

-- whether a key has these bytes
abbrev pub at_text : List ℕ → String Global → Ordering
at_text k x = slice_cmp nat_cmp k (string_bytes x)

same_text : (k : List ℕ) → slice_cmp nat_cmp k k ≡ Equal
same_text k = tied_itself nat_list_cmp_total k

put-put_at : (o : Ordering) (k l : List ℕ) (d e f : Data) (ms : Members) → slice_cmp nat_cmp k l ≡ o → put k d (put k e ms) ≡ put k d ms
    → put k d (match_ordering o (member k e (member l f ms)) (member l e ms) (member l f (put k e ms)))
    ≡ match_ordering o (member k d (member l f ms)) (member l d ms) (member l f (put k d ms))
put-put_at Less k l d e f ms is later = rw same_text
put-put_at Equal k l d e f ms is later = rw is
put-put_at Greater k l d e f ms is later = rw (is, later)

-- of two values put at a key, the later one stays
pub put-put : (k : List ℕ) (d e : Data) (ms : Members) → put k d (put k e ms) ≡ put k d ms
put-put k d e no_members = rw same_text
put-put k d e (member l f ms) = put-put_at _ k l d e f ms refl (put-put k d e ms)

-- a text below a key is below those after it
none_below : (k : List ℕ) (o : String Global) (es : List Entry) → slice_cmp nat_cmp k (string_bytes o) ≡ Less
    → AllByRecursion (λ y. string_cmp o y ≡ Less) (keys_of es) → lookup (is_at (at_text k)) es ≡ None
none_below k o [] less above = refl
none_below k o (e ∷ es) less above =
    let here : slice_cmp nat_cmp k (string_bytes e.0) ≡ Less = nat_list_cmp_total.trans k (string_bytes o) (string_bytes e.0) less above.0 in
    rw here (none_below k o es less above.1)

set_value-put_at : (o : Ordering) (k : List ℕ) (e : Entry) (es : List Entry) (w : Value) → slice_cmp nat_cmp k (string_bytes e.0) ≡ o
    → AllByRecursion (λ y. string_cmp e.0 y ≡ Less) (keys_of es) → is_some (lookup (is_at (at_text k)) (e ∷ es)) ≡ true
    → (is_some (lookup (is_at (at_text k)) es) ≡ true → members_view (set_value (is_at (at_text k)) es w) ≡ put k (view w) (members_view es))
    → members_view (set_value (is_at (at_text k)) (e ∷ es) w) ≡ put k (view w) (members_view (e ∷ es))
set_value-put_at Less k e es w is above found later =
    absurd (true≢false (sym found ∙ rw (is, none_below k e.0 es is above)))
set_value-put_at Equal k e es w is above found later = rw is
set_value-put_at Greater k e es w is above found later =
    let there : is_some (lookup (is_at (at_text k)) es) ≡ true = sym (rw is) ∙ found in
    rw (is, later there)

-- a value that is written in the place of a key's value is put at the key
pub set_value-put : (k : List ℕ) (es : List Entry) (w : Value) → IsStrictlySortedBy string_cmp (keys_of es) → is_some (lookup (is_at (at_text k)) es) ≡ true
    → members_view (set_value (is_at (at_text k)) es w) ≡ put k (view w) (members_view es)
unfolding IsStrictlySortedBy
set_value-put k [] w sorted found = absurd (true≢false (sym found))
set_value-put k (e ∷ es) w sorted found =
    set_value-put_at _ k e es w refl sorted.0 found (set_value-put k es w sorted.1)

-- a value that was found and written over
pub written_over : (k : List ℕ) (es new : List Entry) (v w : Value) (d : Data) → IsStrictlySortedBy string_cmp (keys_of es) → Some v ≡ lookup (is_at (at_text k)) es
    → view w ≡ d → new ≡ set_value (is_at (at_text k)) es w → members_view new ≡ put k d (members_view es)
written_over k es new v w d sorted found made is =
    ap members_view is ∙ set_value-put k es w sorted (ap is_some (sym found)) ∙ ap (λ e. put k e (members_view es)) made

-- a value that was found and taken leaves null
pub taken_from : (k : List ℕ) (es new : List Entry) (v w : Value) → IsStrictlySortedBy string_cmp (keys_of es) → Some v ≡ lookup (is_at (at_text k)) es
    → view w ≡ null → new ≡ set_value (is_at (at_text k)) es w → members_view new ≡ without_value k (members_view es)
taken_from k es new v w sorted found left is =
    let written : members_view new ≡ put k null (members_view es) = written_over k es new v w null sorted found left is in
    rw (written, ← view-lookup k es, ← found)

-- where none is found, none is taken
pub none_taken : (k : List ℕ) (es : List Entry) → None ≡ lookup (is_at (at_text k)) es → members_view es ≡ without_value k (members_view es)
none_taken k es none = rw (← view-lookup k es, ← none)

-- the two values merged, put in the place of the null that was left
pub put_over : (k : List ℕ) (ms left new : Members) (v w : Value) (d : Data) → Some (view v) ≡ get_member k ms → left ≡ without_value k ms
    → view w ≡ merged (view v) d → new ≡ put k (view w) left → new ≡ with_merged k d ms
put_over k ms left new v w d found taken both is =
    let null_left : left ≡ put k null ms = taken ∙ rw (← found) in
    let over : with_merged k d ms ≡ put k (merged (view v) d) ms = rw (← found) in
    is ∙ rw (null_left, both, over) (put-put k (merged (view v) d) null ms)
