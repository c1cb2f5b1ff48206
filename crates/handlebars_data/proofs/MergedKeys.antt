-- What stands at a key of merged objects.
use Rattle.std.proofs.Common.{◌≡◌, ℕ, List, Some, None, Ordering, Less, Equal, Greater, nat_cmp, is_eq, refl, sym, ap, ◌∙◌}
use Rattle.std.proofs.lemmas.Cmp.{nat_list_cmp_total, tied_itself}
use Rattle.std.proofs.lemmas.Map.Text.{is_eq-slice_cmp}
use Rattle.std.proofs.lemmas.Slice.Eq.{bytes_eq-Decides}
use Rattle.std.specs.Cmp.Lexicographic.{slice_cmp}
use Rattle.std.specs.Option.{option_map_or}
use Rattle.std.specs.Ordering.{match_ordering}
use Rattle.serde_json.specs.Data.{Data, Members, no_members, member}
use Rattle.serde_json.specs.Find.{get_member}
use Rattle.serde_json.proofs.Views.{get_member-put, get_member-put_other}
use Rattle.handlebars_data.specs.Merge.{merged, merged_members, with_merged}
use Rattle.handlebars_data.specs.MergeLaws.{MergesByKey, merged_at}

same_text : (k : List ℕ) → slice_cmp nat_cmp k k ≡ Equal
same_text k = tied_itself nat_list_cmp_total k

differ : (k l : List ℕ) (o : Ordering) → slice_cmp nat_cmp k l ≡ o → (o ≡ Equal → ⊥) → k ≡ l → ⊥
differ k l o is apart same = apart (sym is ∙ ap (λ t. slice_cmp nat_cmp k t) (sym same) ∙ same_text k)

-- at another key than that of the later member
at_other : (k l : List ℕ) (d : Data) (earlier rest : Members) → (k ≡ l → ⊥)
    → get_member k (merged_members (with_merged l d earlier) rest) ≡ merged_at (get_member k (with_merged l d earlier)) (get_member k rest)
    → get_member k (merged_members (with_merged l d earlier) rest) ≡ merged_at (get_member k earlier) (get_member k rest)
at_other k l d earlier rest apart later =
    later ∙ ap (λ r. merged_at r (get_member k rest)) (get_member-put_other k l (option_map_or (λ e. merged e d) (get_member l earlier) d) earlier apart)

at_key : (o : Ordering) (k l : List ℕ) (d : Data) (earlier rest : Members) → slice_cmp nat_cmp k l ≡ o → get_member l rest ≡ None
    → get_member k (merged_members (with_merged l d earlier) rest) ≡ merged_at (get_member k (with_merged l d earlier)) (get_member k rest)
    → get_member k (merged_members (with_merged l d earlier) rest) ≡ merged_at (get_member k earlier) (match_ordering o (get_member k rest) (Some d) (get_member k rest))
at_key Less k l d earlier rest is once later = at_other k l d earlier rest (differ k l Less is (λ e. cc e)) later
at_key Greater k l d earlier rest is once later = at_other k l d earlier rest (differ k l Greater is (λ e. cc e)) later
at_key Equal k l d earlier rest is once later =
    let same : k ≡ l = (bytes_eq-Decides k l).0 (sym (is_eq-slice_cmp k l) ∙ ap is_eq is) in
    let none : get_member k rest ≡ None = ap (λ t. get_member t rest) same ∙ once in
    let m = option_map_or (λ e. merged e d) (get_member l earlier) d in
    let found : get_member k (with_merged l d earlier) ≡ Some (option_map_or (λ e. merged e d) (get_member l earlier) d) =
    ap (λ t. get_member t (with_merged l d earlier)) same ∙ get_member-put l (option_map_or (λ e. merged e d) (get_member l earlier) d) earlier in
    later ∙ ap (merged_at (get_member k (with_merged l d earlier))) none ∙ found
    ∙ ap (λ t. Some (option_map_or (λ e. merged e d) (get_member t earlier) d)) (sym same)

pub merges_by_key : MergesByKey
merges_by_key earlier no_members once k = refl
merges_by_key earlier (member l d rest) once k =
    at_key _ k l d earlier rest refl once.0 (merges_by_key (with_merged l d earlier) rest once.1 k)
