-- One more item is written.
use Rattle.std.proofs.Common.{◌≡◌, ◌≢◌, ◌∙◌, Bool, true, false, List, [], ◌∷◌, ◌++◌, Option, Some, None, OnSome, IfSome, sym, subst, inl, inr}
use Rattle.std.specs.List.{AllByRecursion}
use Rattle.hb_build.specs.Name.{Name, IsFolderOf}
use Rattle.hb_build.specs.Entries.{Entries, Text, AreSame, IsFileOrFree, IsFolderOrFree, file}
use Rattle.hb_build.specs.Items.{Fate, Item, built_text, created, changed, unchanged, failed, IsElsewhere, IsFolderOfSome, IsHeld, IsStored, IsWritten, WasFound}
use Rattle.hb_build.specs.declared.outcome.Cause.TheVariants as causes
use Rattle.hb_build.proofs.Each.{each_append, each_front, each_back, each_weaker, each_from_both}

OnSome-from : {X : Type 0} (o : Option X) (A : Type 0) → A → OnSome o A
OnSome-from None A h = tt
OnSome-from (Some x) A h = h

IsFolderOfSome-front : (f : Name) (items more : List Item) → IsFolderOfSome f items → IsFolderOfSome f (items ++ more)
IsFolderOfSome-front f [] more h = absurd h
IsFolderOfSome-front f (i ∷ items) more h = elim h [ inl here ↦ inl here | inr there ↦ inr (IsFolderOfSome-front f items more there) ]

IsFolderOfSome-back : (f : Name) (items more : List Item) → IsFolderOfSome f more → IsFolderOfSome f (items ++ more)
IsFolderOfSome-back f [] more h = h
IsFolderOfSome-back f (i ∷ items) more h = inr (IsFolderOfSome-back f items more h)

-- what was held before another item was written is held
held_still : (b c : Entries) (i : Item) → IsWritten (i ∷ []) b c → (j : Item) → j.name ≢ i.name → IsHeld b j → IsHeld c j
held_still b c i v j apart = go (built_text j) where
  go : (o : Option Text) → IfSome o (λ text. b j.name ≡ file text) → IfSome o (λ text. c j.name ≡ file text)
  go None h = tt
  go (Some text) h = elim (v.others j.name (OnSome-from (built_text i) (j.name ≢ i.name) apart, tt)) [
    | inl e ↦ e ∙ h
    | inr n ↦ (let free = n.free in absurd cc)
  ]

IsWritten-push : (items : List Item) (i : Item) (a b c : Entries) → AllByRecursion (λ j. j.name ≢ i.name) items → IsWritten items a b
    → IsWritten (i ∷ []) b c → IsWritten (items ++ i ∷ []) a c
IsWritten-push items i a b c apart w v = record {
  held = each_append (IsHeld c) items (i ∷ []) (each_from_both (λ j. j.name ≢ i.name) (IsHeld b) (IsHeld c) items (held_still b c i v) apart w.held) v.held;
  others = λ path h.
      elim (w.others path (each_front (IsElsewhere path) items (i ∷ []) h)) [
        | inl e ↦ elim (v.others path (each_back (IsElsewhere path) items (i ∷ []) h)) [
          | inl f ↦ inl (f ∙ e)
          | inr n ↦ inr (record { free = sym e ∙ n.free; made = n.made; of_item = IsFolderOfSome-back path items (i ∷ []) n.of_item })
        ]
        | inr m ↦ elim (v.others path (each_back (IsElsewhere path) items (i ∷ []) h)) [
          | inl f ↦ inr (record { free = m.free; made = f ∙ m.made; of_item = IsFolderOfSome-front path items (i ∷ []) m.of_item })
          | inr n ↦ inr (record { free = m.free; made = n.made; of_item = IsFolderOfSome-front path items (i ∷ []) m.of_item })
        ]
      ];
}

pub IsStored-push : (dry : Bool) (items : List Item) (i : Item) (a b c : Entries) → AllByRecursion (λ j. j.name ≢ i.name) items → IsStored dry items a b
    → IsStored dry (i ∷ []) b c → IsStored dry (items ++ i ∷ []) a c
IsStored-push true items i a b c apart w v = λ path. v path ∙ w path
IsStored-push false items i a b c apart w v = IsWritten-push items i a b c apart w v

-- what is found in a store that has the same
pub WasFound-same : (name : Name) (a b : Entries) → AreSame a b → (fate : Fate) → WasFound b name fate → WasFound a name fate
WasFound-same name a b same (created text) h = sym (same name) ∙ h
WasFound-same name a b same (changed text) h = (h.0, sym (same name) ∙ h.1, h.2)
WasFound-same name a b same (unchanged text) h = sym (same name) ∙ h
WasFound-same name a b same (failed (causes.Text _)) h = tt
WasFound-same name a b same (failed causes.NotAFile) h = λ free. h (subst IsFileOrFree (sym (same name)) free)
WasFound-same name a b same (failed causes.NotAFolder) h = (h.0, h.1, λ free. h.2 (subst IsFolderOrFree (sym (same h.0)) free))
WasFound-same name a b same (failed (causes.Store _)) h = tt

-- what is stored in a store that has the same
pub IsStored-same : (dry : Bool) (items : List Item) (a b c : Entries) → AreSame a b → IsStored dry items b c → IsStored dry items a c
IsStored-same true items a b c same h = λ path. h path ∙ same path
IsStored-same false items a b c same h = record {
  held = h.held;
  others = λ path elsewhere. elim (h.others path elsewhere) [
    | inl e ↦ inl (e ∙ same path)
    | inr n ↦ inr (record { free = sym (same path) ∙ n.free; made = n.made; of_item = n.of_item })
  ];
}

-- The name has no file and is no folder of these items, and none of them is a folder of it.
pub record IsApart (name : Name) (j : Item) : Type 0 where
  pub other : j.name ≢ name
  pub no_folder : IsFolderOf name j.name → ⊥
  pub no_file : IsFolderOf j.name name → ⊥

module _ (name : Name) (items : List Item) (apart : AllByRecursion (IsApart name) items) (a b : Entries) where
  not_of_some : (js : List Item) → AllByRecursion (IsApart name) js → IsFolderOfSome name js → ⊥
  not_of_some [] h k = k
  not_of_some (j ∷ js) h k = elim k [ inl here ↦ h.0.no_folder here.1 | inr there ↦ not_of_some js h.1 there ]

  -- the name has what it had
  same_at_name : IsWritten items a b → b name ≡ a name
  same_at_name w = elim (w.others name (each_weaker (IsApart name) (IsElsewhere name) items
      (λ j h. OnSome-from (built_text j) (name ≢ j.name) (λ e. h.other (sym e))) apart)) [
        | inl e ↦ e
        | inr n ↦ absurd (not_of_some items apart n.of_item)
      ]

  -- what is no folder now was none
  no_folder_before : IsWritten items a b → (f : Name) → IsFolderOf f name → (IsFolderOrFree (b f) → ⊥) → IsFolderOrFree (a f) → ⊥
  no_folder_before w f is_folder blocked free = elim (w.others f (each_weaker (IsApart name) (IsElsewhere f) items
      (λ j h. OnSome-from (built_text j) (f ≢ j.name) (λ e. h.no_file (subst (λ x. IsFolderOf x name) e is_folder))) apart)) [
        | inl e ↦ blocked (subst IsFolderOrFree (sym e) free)
        | inr n ↦ blocked (inr n.made)
      ]

  found_before : IsWritten items a b → (fate : Fate) → WasFound b name fate → WasFound a name fate
  found_before w (created text) h = sym (same_at_name w) ∙ h
  found_before w (changed text) h = (h.0, sym (same_at_name w) ∙ h.1, h.2)
  found_before w (unchanged text) h = sym (same_at_name w) ∙ h
  found_before w (failed (causes.Text _)) h = tt
  found_before w (failed causes.NotAFile) h = λ free. h (subst IsFileOrFree (sym (same_at_name w)) free)
  found_before w (failed causes.NotAFolder) h = (h.0, h.1, no_folder_before w h.0 h.1 h.2)
  found_before w (failed (causes.Store _)) h = tt

  -- what an item finds after others were built is what it would have found before
  pub WasFound-before : (dry : Bool) → IsStored dry items a b → (fate : Option Fate) → IfSome fate (WasFound b name) → IfSome fate (WasFound a name)
  WasFound-before dry w None h = tt
  WasFound-before true w (Some fate) h = WasFound-same name a b w fate h
  WasFound-before false w (Some fate) h = found_before w fate h
