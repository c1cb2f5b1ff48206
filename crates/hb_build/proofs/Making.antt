-- Folders that are made.
use Rattle.std.proofs.Common.{◌≡◌, ◌∙◌, sym, inl, inr}
use Rattle.hb_build.specs.Name.{Name}
use Rattle.hb_build.specs.Entries.{Entries, AreSame, MakesFolders, Puts, folder, nothing}
use Rattle.hb_build.specs.Passes.{Changes}
use Rattle.hb_build.specs.declared.files.Store as stores
use Rattle.hb_build.proofs.Bytes.{bytes_cases}

pub MakesFolders-same : (Q : Name → Type 0) (a b : Entries) → AreSame a b → MakesFolders Q a b
MakesFolders-same Q a b same q = inl (same q)

pub MakesFolders-weaker : (Q R : Name → Type 0) (a b : Entries) → ((q : Name) → Q q → R q) → MakesFolders Q a b → MakesFolders R a b
MakesFolders-weaker Q R a b w m q = elim (m q) [ inl h ↦ inl h | inr h ↦ inr (h.0, h.1, w q h.2) ]

pub MakesFolders-trans : (Q : Name → Type 0) (a b c : Entries) → MakesFolders Q a b → MakesFolders Q b c → MakesFolders Q a c
MakesFolders-trans Q a b c m n q = elim (m q) [
  | inl h ↦ elim (n q) [ inl k ↦ inl (k ∙ h) | inr k ↦ inr (sym h ∙ k.0, k.1, k.2) ]
  | inr h ↦ elim (n q) [ inl k ↦ inr (h.0, k ∙ h.1, h.2) | inr k ↦ inr (h.0, k.1, h.2) ]
]

-- a folder that is there stays there
pub MakesFolders-stays : (Q : Name → Type 0) (a b : Entries) (f : Name) → MakesFolders Q a b → a f ≡ folder → b f ≡ folder
MakesFolders-stays Q a b f m e = elim (m f) [ inl h ↦ h ∙ e | inr h ↦ h.1 ]

pub MakesFolders-put : (path : Name) (a b c : Entries) → AreSame a b → a path ≡ nothing → Puts path folder b c → MakesFolders (λ q. q ≡ path) a c
MakesFolders-put path a b c same free p q = elim (bytes_cases q path) [
  | inl h ↦ inr (rw h.1 free, rw h.1 p.put, h.1)
  | inr h ↦ inl (p.others q h.1 ∙ same q)
]

pub Changes-trans : {S : Type 0} (s : stores.Ghosts S) (Q R T : Entries → Entries → Type 0) (a b c : S)
    → ((x y z : Entries) → Q x y → R y z → T x z) → Changes s Q a b → Changes s R b c → Changes s T a c
Changes-trans s Q R T a b c join h k = record {
  was_reliable = λ r. h.was_reliable (k.was_reliable r);
  change = λ r. join (s.entries a) (s.entries b) (s.entries c) (h.change (k.was_reliable r)) (k.change r);
}

pub Changes-weaker : {S : Type 0} (s : stores.Ghosts S) (Q R : Entries → Entries → Type 0) (a b : S)
    → ((x y : Entries) → Q x y → R x y) → Changes s Q a b → Changes s R a b
Changes-weaker s Q R a b w h = record { was_reliable = h.was_reliable; change = λ r. w (s.entries a) (s.entries b) (h.change r) }
