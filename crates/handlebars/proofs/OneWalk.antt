-- What a walk of a folder registers is determined, if the reader gives one answer.
use Rattle.std.proofs.Common.{◌≡◌, ◌≢◌, ◌+◌, ℕ, arith, Bool, true, false, List, [], ◌∷◌, ◌++◌, map, Result, Err, String, Global, refl, sym, ap, ◌∙◌, subst}
use Rattle.std.proofs.lemmas.List.Sorted.{ranks_by}
use Rattle.std.specs.Cmp.Lexicographic.{slice_cmp}
use Rattle.std.specs.Global.{Vec}
use Rattle.std.specs.List.{filter}
use Rattle.std.specs.List.Sorted.{ties}
use Rattle.std.specs.Ordering.{is_lt, nat_cmp}
use Rattle.std.specs.Prelude.{not, ◌&&◌, string_bytes}
use Rattle.std.specs.String.{string_cmp_total}
use Rattle.std.specs.declared.io.Error.{Error}
use Rattle.handlebars_base.specs.Bytes.{Text}
use Rattle.handlebars_template.specs.Tree.{Tree}
use Rattle.handlebars.specs.Files.{Loaded, Stop, no_memory}
use Rattle.handlebars.specs.Folder.{FileFilter, Entry, IsInOrder, WalkedFolder, Walkable, a_folder, an_entry, entries_of, Walks, LoadsAt, loaded_at, listed, unlisted, listed_alloc_fails, no_entry, goes_on, ends, takes, fails, passes, enters, too_deep, alloc_fails, comes_before, folder_at, is_taken, child_path}
use Rattle.handlebars.specs.Readers.{GivesOneAnswer, HasOneEnd, IsSameList, IsSameRead, entry_seen}
use Rattle.handlebars.specs.declared.sources.EntryKind.{EntryKind}
use Rattle.handlebars.specs.declared.sources.EntryKind.TheVariants.{File, Folder}
use Rattle.handlebars.proofs.OneOrder.{map-filter, one-order}
use Rattle.handlebars.proofs.OneReading.{Ok≢Err, Ok-injective, one-load, other-stop, same-stop}

-- ---- the order of a folder's entries

-- whether an entry that is seen so has the same name
has_name : Text → Text × EntryKind → Bool
has_name name v = not (is_lt (slice_cmp nat_cmp name v.0)) && not (is_lt (slice_cmp nat_cmp v.0 name))

ties-seen : (e : Entry) (es fs : List Entry) → map entry_seen es ≡ map entry_seen fs
    → map entry_seen (filter (ties comes_before e) es) ≡ map entry_seen (filter (ties comes_before e) fs)
unfolding has_name
ties-seen e es fs same =
    map-filter entry_seen (ties comes_before e) (has_name (string_bytes e.0)) (λ x. refl) es
    ∙ ap (filter (has_name (string_bytes e.0))) same
    ∙ sym (map-filter entry_seen (ties comes_before e) (has_name (string_bytes e.0)) (λ x. refl) fs)

in-one-order : {es fs xs ys : List Entry} → map entry_seen es ≡ map entry_seen fs → IsInOrder es xs → IsInOrder fs ys
    → map entry_seen xs ≡ map entry_seen ys
in-one-order {es = es} {fs = fs} {xs = xs} {ys = ys} same x y =
    one-order comes_before (ranks_by string_cmp_total (λ (e : Entry). e.0)) entry_seen xs ys x.rising y.rising
    (λ e. ap (map entry_seen) (x.stable e) ∙ ties-seen e es fs same ∙ sym (ap (map entry_seen) (y.stable e)))

-- ---- walks that are equal

-- the same tasks, up to how entries are viewed
pub data AreSameWalks : Walkable → Walkable → Type 0 where
  folders : {p q : WalkedFolder} → p ≡ q → AreSameWalks (a_folder p) (a_folder q)
  all_entries : {p : WalkedFolder} {xs ys : List Entry} → map entry_seen xs ≡ map entry_seen ys → AreSameWalks (entries_of p xs) (entries_of p ys)
  one_entry : {p : WalkedFolder} {x y : Entry} → entry_seen x ≡ entry_seen y → AreSameWalks (an_entry p x) (an_entry p y)

true≢false : true ≡ false → ⊥
true≢false e = cc

none≢some : {V : Type 0} {v : V} {vs : List V} → [] ≡ v ∷ vs → ⊥
none≢some e = cc

first-same : {V : Type 0} {v w : V} {vs ws : List V} → v ∷ vs ≡ w ∷ ws → v ≡ w
first-same e = cc

rest-same : {V : Type 0} {v w : V} {vs ws : List V} → v ∷ vs ≡ w ∷ ws → vs ≡ ws
rest-same e = cc

file≢folder : File ≡ Folder → ⊥
file≢folder e = cc

fewer : {n a b : ℕ} → n ≡ a + 1 → n ≡ b + 1 → a ≡ b
fewer e d = omega arith

deep≢level : {n : ℕ} (a : ℕ) → n ≡ 0 → n ≡ a + 1 → ⊥
deep≢level a e d = omega arith

folder-same : (p : WalkedFolder) {a b : Text} {m n : ℕ} → a ≡ b → m ≡ n → folder_at p a m ≡ folder_at p b n
folder-same p {b = b} {m = m} same levels = ap (λ z. folder_at p z m) same ∙ ap (folder_at p b) levels

module _ {S : Type 0} (reads : S → Text → Result (String Global) Error → S → Type 0)
    (lists : S → Text → Result (Vec Entry) Error → S → Type 0) (one_read : GivesOneAnswer IsSameRead reads)
    (one_list : GivesOneAnswer IsSameList lists) (prevents : Bool) (c : FileFilter) where
  list-at : {p q : WalkedFolder} {s t : S} {answer : Result (Vec Entry) Error} → p ≡ q → lists s q.path answer t
      → lists s p.path answer t
  list-at {s = s} {t = t} {answer = answer} same l = subst (λ z. lists s z.path answer t) (sym same) l

  load-at : (p : WalkedFolder) {a b : Text} {s t : S} {answer : Result Tree Stop} → a ≡ b
      → LoadsAt reads lists prevents c p b s answer t → LoadsAt reads lists prevents c p a s answer t
  load-at p {s = s} {t = t} {answer = answer} same l = subst (λ z. LoadsAt reads lists prevents c p z s answer t) (sym same) l

  loaded-same : (p : WalkedFolder) {a b : Text} {t u : Tree} → a ≡ b → t ≡ u
      → loaded_at reads lists prevents c p a t ∷ [] ≡ loaded_at reads lists prevents c p b u ∷ []
  loaded-same p {b = b} {t = t} same tree_same =
      ap (λ z. loaded_at reads lists prevents c p z t ∷ []) same ∙ ap (λ z. loaded_at reads lists prevents c p b z ∷ []) tree_same

  taken≢passed : (p : WalkedFolder) {a b : Text} → a ≡ b → is_taken c (child_path p a) a ≡ true → is_taken c (child_path p b) b ≡ false → ⊥
  taken≢passed p same g h =
      let here = sym g ∙ ap (λ z. is_taken c (child_path p z) z) same ∙ h in true≢false here

  one-walk : {k j : Walkable} {s t u : S} {ls ms : List Loaded} {o q : Result (Unit {0}) Stop} → AreSameWalks k j
      → Walks reads lists prevents c k s ls o t → Walks reads lists prevents c j s ms q u → o ≢ Err no_memory → q ≢ Err no_memory
      → (ls ≡ ms) × (o ≡ q) × (t ≡ u)
  -- a folder
  one-walk (folders {p = p} same) (listed l i w) (listed {xs = ys} {t = mid} {u = last} {ls = ms} {o = q} k j v) m n =
      let here = one_list _ _ _ _ _ _ l (list-at same k) in
      one-walk (all_entries (in-one-order here.0 i j)) w
      (subst (λ z. Walks reads lists prevents c (entries_of p ys) z ms q last) (sym here.1)
      (subst (λ z. Walks reads lists prevents c (entries_of z ys) mid ms q last) (sym same) v)) m n
  one-walk (folders same) (listed l i w) (unlisted k j) m n = absurd (one_list _ _ _ _ _ _ l (list-at same k)).0
  one-walk (folders same) (unlisted l i) (listed k j v) m n = absurd (one_list _ _ _ _ _ _ l (list-at same k)).0
  one-walk (folders same) (unlisted l i) (unlisted k j) m n = (refl, refl, (one_list _ _ _ _ _ _ l (list-at same k)).1)
  one-walk (folders same) (listed l i w) (listed_alloc_fails k) m n = absurd (n refl)
  one-walk (folders same) (listed l i w) alloc_fails m n = absurd (n refl)
  one-walk (folders same) (unlisted l i) (listed_alloc_fails k) m n = absurd (n refl)
  one-walk (folders same) (unlisted l i) alloc_fails m n = absurd (n refl)
  one-walk (folders same) (listed_alloc_fails l) w m n = absurd (m refl)
  one-walk (folders same) alloc_fails w m n = absurd (m refl)
  -- entries
  one-walk (all_entries same) no_entry no_entry m n = (refl, refl, refl)
  one-walk (all_entries same) no_entry (goes_on w v) m n = absurd (none≢some same)
  one-walk (all_entries same) no_entry (ends w) m n = absurd (none≢some same)
  one-walk (all_entries same) no_entry alloc_fails m n = absurd (n refl)
  one-walk (all_entries same) (goes_on w v) no_entry m n = absurd (none≢some (sym same))
  one-walk (all_entries {p = p} same) (goes_on {ls = ls} {ms = ms} w v) (goes_on {xs = ys} {u = last} {ls = hs} {ms = rs} {o = q} x y) m n =
      let first = one-walk (one_entry (first-same same)) w x (λ e. cc) (λ e. cc) in
      let rest = one-walk (all_entries (rest-same same)) v
      (subst (λ z. Walks reads lists prevents c (entries_of p ys) z rs q last) (sym first.2) y) m n in
      (ap (λ z. z ++ ms) first.0 ∙ ap (λ z. hs ++ z) rest.0, rest.1, rest.2)
  one-walk (all_entries same) (goes_on w v) (ends x) m n =
      absurd (Ok≢Err _ _ refl refl (one-walk (one_entry (first-same same)) w x (λ e. cc) n).1)
  one-walk (all_entries same) (goes_on w v) alloc_fails m n = absurd (n refl)
  one-walk (all_entries same) (ends w) no_entry m n = absurd (none≢some (sym same))
  one-walk (all_entries same) (ends w) (goes_on x y) m n =
      absurd (Ok≢Err _ _ refl refl (sym (one-walk (one_entry (first-same same)) w x m (λ e. cc)).1))
  one-walk (all_entries same) (ends w) (ends x) m n = one-walk (one_entry (first-same same)) w x m n
  one-walk (all_entries same) (ends w) alloc_fails m n = absurd (n refl)
  one-walk (all_entries same) alloc_fails w m n = absurd (m refl)
  -- an entry
  one-walk (one_entry {p = p} same) (takes g l) (takes h k) m n =
      let load = one-load reads one_read prevents l (load-at p (ap (λ v. v.0) same) k) (λ e. cc) (λ e. cc) in
      (loaded-same p (ap (λ v. v.0) same) (Ok-injective _ _ refl refl load.0), refl, load.1)
  one-walk (one_entry {p = p} same) (takes g l) (fails h k) m n =
      absurd (Ok≢Err _ _ refl refl (one-load reads one_read prevents l (load-at p (ap (λ v. v.0) same) k) (λ e. cc)
      (other-stop _ _ refl refl n)).0)
  one-walk (one_entry {p = p} same) (takes g l) (passes h) m n = absurd (taken≢passed p (ap (λ v. v.0) same) g h)
  one-walk (one_entry same) (takes g l) (enters d w) m n = absurd (file≢folder (ap (λ v. v.1) same))
  one-walk (one_entry same) (takes g l) (too_deep d) m n = absurd (file≢folder (ap (λ v. v.1) same))
  one-walk (one_entry same) (takes g l) alloc_fails m n = absurd (n refl)
  one-walk (one_entry {p = p} same) (fails g l) (takes h k) m n =
      absurd (Ok≢Err _ _ refl refl (sym (one-load reads one_read prevents l (load-at p (ap (λ v. v.0) same) k)
      (other-stop _ _ refl refl m) (λ e. cc)).0))
  one-walk (one_entry {p = p} same) (fails g l) (fails h k) m n =
      let load = one-load reads one_read prevents l (load-at p (ap (λ v. v.0) same) k) (other-stop _ _ refl refl m)
      (other-stop _ _ refl refl n) in
      (refl, same-stop _ _ refl refl load.0 _ _ refl refl, load.1)
  one-walk (one_entry {p = p} same) (fails g l) (passes h) m n = absurd (taken≢passed p (ap (λ v. v.0) same) g h)
  one-walk (one_entry same) (fails g l) (enters d w) m n = absurd (file≢folder (ap (λ v. v.1) same))
  one-walk (one_entry same) (fails g l) (too_deep d) m n = absurd (file≢folder (ap (λ v. v.1) same))
  one-walk (one_entry same) (fails g l) alloc_fails m n = absurd (n refl)
  one-walk (one_entry {p = p} same) (passes g) (takes h k) m n = absurd (taken≢passed p (sym (ap (λ v. v.0) same)) h g)
  one-walk (one_entry {p = p} same) (passes g) (fails h k) m n = absurd (taken≢passed p (sym (ap (λ v. v.0) same)) h g)
  one-walk (one_entry same) (passes g) (passes h) m n = (refl, refl, refl)
  one-walk (one_entry same) (passes g) (enters d w) m n = absurd (file≢folder (ap (λ v. v.1) same))
  one-walk (one_entry same) (passes g) (too_deep d) m n = absurd (file≢folder (ap (λ v. v.1) same))
  one-walk (one_entry same) (passes g) alloc_fails m n = absurd (n refl)
  one-walk (one_entry same) (enters e v) (takes h k) m n = absurd (file≢folder (sym (ap (λ v. v.1) same)))
  one-walk (one_entry same) (enters e v) (fails h k) m n = absurd (file≢folder (sym (ap (λ v. v.1) same)))
  one-walk (one_entry same) (enters e v) (passes h) m n = absurd (file≢folder (sym (ap (λ v. v.1) same)))
  one-walk (one_entry {p = p} same) (enters e v) (enters d w) m n =
      one-walk (folders (folder-same p (ap (λ v. v.0) same) (fewer e d))) v w m n
  one-walk (one_entry same) (enters e v) (too_deep d) m n = absurd (deep≢level _ d e)
  one-walk (one_entry same) (enters e v) alloc_fails m n = absurd (n refl)
  one-walk (one_entry same) (too_deep e) (takes h k) m n = absurd (file≢folder (sym (ap (λ v. v.1) same)))
  one-walk (one_entry same) (too_deep e) (fails h k) m n = absurd (file≢folder (sym (ap (λ v. v.1) same)))
  one-walk (one_entry same) (too_deep e) (passes h) m n = absurd (file≢folder (sym (ap (λ v. v.1) same)))
  one-walk (one_entry same) (too_deep e) (enters d w) m n = absurd (deep≢level _ e d)
  one-walk (one_entry same) (too_deep e) (too_deep d) m n = (refl, refl, refl)
  one-walk (one_entry same) (too_deep e) alloc_fails m n = absurd (n refl)
  one-walk (one_entry same) alloc_fails w m n = absurd (m refl)

  pub walk-once : (k : Walkable) (s : S) → HasOneEnd (Walks reads lists prevents c k s)
  walk-once (a_folder p) s ls ms o q t u w v m n = one-walk (folders refl) w v m n
  walk-once (entries_of p xs) s ls ms o q t u w v m n = one-walk (all_entries refl) w v m n
  walk-once (an_entry p x) s ls ms o q t u w v m n = one-walk (one_entry refl) w v m n
