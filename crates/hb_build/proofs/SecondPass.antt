-- One more item in the second pass.
use Rattle.std.proofs.Common.{◌≡◌, ◌≢◌, ◌∙◌, ℕ, suc, ◌+◌, ◌<◌, Bool, true, false, List, [], ◌∷◌, ◌++◌, Option, Some, None, MatchOption, IfSome, length, slice_get, refl, sym, ap, subst, inl, arith, length-append}
use Rattle.std.specs.List.{AllByRecursion, Contains}
use Rattle.std.specs.Option.{option_map_or}
use Rattle.std.proofs.lemmas.Option.{get_or_from_slice_get, slice_get_within}
use Rattle.hb_build.specs.Name.{Name, AreAcceptable}
use Rattle.hb_build.specs.Entries.{Entries, Text, AreSame}
use Rattle.hb_build.specs.Items.{Fate, Item, Counts, IsStored, WasFound, empty_summary, fate_of, is_failed, outcome_of}
use Rattle.hb_build.specs.Passes.{HasItems, IsCause, IsFate, IsInShard, IsStoreCause, IsPreserved, IsDone, IsReported, IsSecondPass, IsStep}
use Rattle.hb_build.specs.declared.source.Pages as pages
use Rattle.hb_build.specs.declared.files.Store as stores
use Rattle.hb_build.specs.declared.outcome.Report as reports
use Rattle.hb_build.specs.declared.outcome.Outcome.{Outcome}
use Rattle.hb_build.specs.declared.outcome.Outcome.TheVariants as outcomes
use Rattle.hb_build.specs.declared.outcome.Cause.{Cause}
use Rattle.hb_build.specs.declared.outcome.Cause.TheVariants as causes
use Rattle.hb_build.specs.declared.options.Settings.{Settings}
use Rattle.hb_build.specs.declared.outcome.Summary.{Summary}
use Rattle.hb_build.specs.Build.{HasNoFailure}
use Rattle.hb_build.proofs.Counting.{Counts-push, count_of-push, counted_with}
use Rattle.hb_build.proofs.Each.{each_append, each_weaker}
use Rattle.hb_build.proofs.Making.{Changes-trans}
use Rattle.hb_build.proofs.OneItem.{Changes-none}
use Rattle.hb_build.proofs.Written.{IsApart, IsStored-push, IsStored-same, WasFound-before, WasFound-same}

module _ {P S R : Type 0} (p : pages.Ghosts P) (s : stores.Ghosts S) (r : reports.Ghosts R) (settings : Settings) (names : List Name) where
  HasItems-push : (k : ℕ) (t v u : P) (items : List Item) (i : Item) → HasItems p s settings names k t items v
      → IsStep p s settings names (k + length items) v i u → HasItems p s settings names k t (items ++ i ∷ []) u
  HasItems-push k t v u [] i e step =
      (u, subst (λ n. IsStep p s settings names n t i u) (omega arith) (subst (λ x. IsStep p s settings names (k + 0) x i u) (sym e) step), refl)
  HasItems-push k t v u (j ∷ items) i h step =
      (h.0, h.1, HasItems-push (k + 1) h.0 v u items i h.2 (subst (λ n. IsStep p s settings names n v i u) (omega arith) step))

  IsReported-push : (k : ℕ) (a b c : R) (items : List Item) (i : Item) → IsReported r names k a items b
      → IsReported r names (k + length items) b (i ∷ []) c → IsReported r names k a (items ++ i ∷ []) c
  IsReported-push k a b c [] i e h =
      subst (λ n. IsReported r names n a (i ∷ []) c) (omega arith) (subst (λ x. IsReported r names (k + 0) x (i ∷ []) c) (sym e) h)
  IsReported-push k a b c (j ∷ items) i h more = go
      (λ d later. IsReported-push (k + 1) d b c items i later (subst (λ n. IsReported r names n b (i ∷ []) c) (omega arith) more)) j.fate h
    where
      go : ((d : R) → IsReported r names (k + 1) d items b → IsReported r names (k + 1) d (items ++ i ∷ []) c) → (fate : Option Fate)
          → MatchOption fate (IsReported r names (k + 1) a items b)
          (λ f. (next : R) × r.reports a k (length names) j.name (outcome_of f) next × IsReported r names (k + 1) next items b)
          → MatchOption fate (IsReported r names (k + 1) a (items ++ i ∷ []) c)
          (λ f. (next : R) × r.reports a k (length names) j.name (outcome_of f) next × IsReported r names (k + 1) next (items ++ i ∷ []) c)
      go rest None now = rest a now
      go rest (Some f) now = (now.0, now.1, rest now.0 now.2)

  -- the item has a number below n
  IsNumbered : ℕ → Item → Type 0
  IsNumbered n j = (m : ℕ) × (m < n) × (slice_get names m ≡ Some j.name)

  numbered : (k : ℕ) (t v : P) (items : List Item) → HasItems p s settings names k t items v → AllByRecursion (IsNumbered (k + length items)) items
  unfolding IsNumbered
  numbered k t v [] h = tt
  numbered k t v (j ∷ items) h = (
    (k, omega arith, h.1.same_name),
    each_weaker (IsNumbered (k + 1 + length items)) (IsNumbered (k + suc (length items))) items
        (λ x n. (n.0, omega (arith, n.1), n.2)) (numbered (k + 1) h.0 v items h.2),
  )

  -- items before this one are apart from it
  apart_from : AreAcceptable names → (n : ℕ) (name : Name) → slice_get names n ≡ Some name → (j : Item) → IsNumbered n j → IsApart name j
  unfolding IsNumbered
  apart_from ok n name at j h = record {
    other = λ e. ok.distinct h.0 n name h.1 (slice_get_within names n name at)
        (get_or_from_slice_get names h.0 j.name name h.2 ∙ e ∙ sym (get_or_from_slice_get names n name name at));
    no_folder = ok.no_folder name j.name (contains n name at) (contains h.0 j.name h.2);
    no_file = ok.no_folder j.name name (contains h.0 j.name h.2) (contains n name at);
  } where
    contains : (m : ℕ) (x : Name) → slice_get names m ≡ Some x → Contains names x
    contains m x e = (m, slice_get_within names m x e, get_or_from_slice_get names m x x e)

  pub IsSecondPass-push : AreAcceptable names → (first t u : P) (old mid new : S) (before between after : R) (items : List Item) (i : Item)
      → IsSecondPass p s r settings names first t old mid before between items → IsStep p s settings names (length items) t i u
      → IsDone s r settings names (length items) i mid new between after
      → IsSecondPass p s r settings names first u old new before after (items ++ i ∷ [])
  IsSecondPass-push ok first t u old mid new before between after items i pass step done =
      let zero_add : 0 + length items ≡ length items = omega arith in
      let apart : AllByRecursion (IsApart i.name) items = each_weaker (IsNumbered (0 + length items)) (IsApart i.name) items
      (apart_from ok (0 + length items) i.name (subst (λ n. slice_get names n ≡ Some i.name) (sym zero_add) step.same_name))
      (numbered 0 first t items pass.given) in
      record {
        given = HasItems-push 0 first t u items i pass.given (subst (λ n. IsStep p s settings names n t i u) (sym zero_add) step);
        found = λ r. each_append (λ item. IfSome item.fate (WasFound (s.entries old) item.name)) items (i ∷ []) (pass.found (done.stored.was_reliable r))
            (WasFound-before i.name items apart (s.entries old) (s.entries mid) settings.dry_run (pass.stored.change (done.stored.was_reliable r)) i.fate (done.found r), tt);
        stored = Changes-trans s (IsStored settings.dry_run items) (IsStored settings.dry_run (i ∷ [])) (IsStored settings.dry_run (items ++ i ∷ []))
            old mid new (λ x y z. IsStored-push settings.dry_run items i x y z (each_weaker (IsApart i.name) (λ j. j.name ≢ i.name) items (λ j h. h.other) apart))
            pass.stored done.stored;
        reported = IsReported-push 0 before between after items i pass.reported (subst (λ n. IsReported r names n between (i ∷ []) after) (sym zero_add) done.reported);
      }

-- the fate of an item that has a text
pub IsFate-from : {P S : Type 0} (p : pages.Ghosts P) (s : stores.Ghosts S) (u : P) (text : Text) (outcome : Outcome) → p.texts u (Some text)
    → ((cause : Cause) → outcome ≡ outcomes.Failed cause → IsStoreCause s cause) → IsFate p s u (fate_of text outcome)
IsFate-from p s u text outcomes.Created t h = t
IsFate-from p s u text outcomes.Changed t h = t
IsFate-from p s u text outcomes.Unchanged t h = t
IsFate-from p s u text (outcomes.Failed cause) t h = go cause (h cause refl) where
  go : (c : Cause) → IsStoreCause s c → IsCause p s u c
  go (causes.Text _) k = absurd k
  go causes.NotAFile k = tt
  go causes.NotAFolder k = tt
  go (causes.Store _) k = k

module _ {P S R : Type 0} (p : pages.Ghosts P) (s : stores.Ghosts S) (r : reports.Ghosts R) (settings : Settings) (names : List Name) where
  -- The second pass, with so many items behind it, which are counted. It hasn't stopped for one of them.
  pub record IsSofar (first last : P) (old new : S) (before after : R) (k : ℕ) (summary : Summary) : Type 0 where
    pub items : List Item
    pub pass : IsSecondPass p s r settings names first last old new before after items
    pub number : length items ≡ k
    pub counted : Counts items summary
    pub no_failure : HasNoFailure settings items

  none_stored : (dry : Bool) (a : Entries) → IsStored dry [] a a
  none_stored true a = λ path. refl
  none_stored false a = record { held = tt; others = λ path _. inl refl }

  pub IsSofar-begin : (first : P) (store : S) (report : R) (summary : Summary) → summary ≡ empty_summary → IsSofar first first store store report report 0 summary
  IsSofar-begin first store report summary empty = record {
    items = [];
    pass = record {
      given = refl;
      found = λ _. tt;
      stored = record { was_reliable = λ h. h; change = λ _. none_stored settings.dry_run (s.entries store) };
      reported = refl;
    };
    number = refl;
    counted = rw empty (record { created = refl; changed = refl; unchanged = refl; failed = refl });
    no_failure = λ _. refl;
  }

  -- one item more
  pub IsSofar-push : AreAcceptable names → (first t u : P) (old mid new : S) (before between after : R) (k : ℕ) (was now : Summary) (i : Item)
      → IsSofar first t old mid before between k was → IsStep p s settings names k t i u → IsDone s r settings names k i mid new between after
      → now ≡ counted_with i.fate was → (settings.keep_going ≡ false → option_map_or is_failed i.fate false ≡ false)
      → IsSofar first u old new before after (k + 1) now
  IsSofar-push ok first t u old mid new before between after k was now i h step done counted goes_on = record {
    items = h.items ++ i ∷ [];
    pass = IsSecondPass-push p s r settings names ok first t u old mid new before between after h.items i h.pass
        (subst (λ n. IsStep p s settings names n t i u) (sym h.number) step)
        (subst (λ n. IsDone s r settings names n i mid new between after) (sym h.number) done);
    number = length-append h.items (i ∷ []) ∙ ap (λ n. n + 1) h.number;
    counted = Counts-push h.items i was now h.counted counted;
    no_failure = λ stops. count_of-push is_failed h.items i ∙ rw (goes_on stops, h.no_failure stops) refl;
  }

  -- the step to an item of the shard
  pub IsStep-from : (k : ℕ) (t u : P) (name other : Name) (fate : Fate) → slice_get names k ≡ Some name → slice_get names k ≡ Some other
      → IsInShard settings.shard k → p.advances t (Some true) u → p.names u (Some other) → IsFate p s u fate
      → IsStep p s settings names k t (record { name = name; fate = Some fate }) u
  IsStep-from k t u name other fate at here in_shard advanced named is_fate =
      let same : other ≡ name = cc in
      record { same_name = at; passed = (in_shard, advanced, subst (λ n. p.names u (Some n)) same named, is_fate) }

  -- one item more, which is skipped
  pub IsSofar-skip : AreAcceptable names → (first t u : P) (old mid : S) (before between : R) (k : ℕ) (summary : Summary) (name : Name)
      → IsSofar first t old mid before between k summary → slice_get names k ≡ Some name → (IsInShard settings.shard k → ⊥) → p.skips t (Some true) u
      → IsSofar first u old mid before between (k + 1) summary
  IsSofar-skip ok first t u old mid before between k summary name h at outside skipped =
      IsSofar-push ok first t u old mid mid before between between k summary summary (record { name = name; fate = None }) h
      (record { same_name = at; passed = (outside, skipped) })
      (record { found = λ _. tt; stored = Changes-none s settings.dry_run name mid; reported = refl }) refl (λ _. refl)

  -- the second pass over a store that has what the store before had
  pub IsSecondPass-same : (first last : P) (a b c : S) (before after : R) (items : List Item) → IsPreserved s a b
      → IsSecondPass p s r settings names first last b c before after items → IsSecondPass p s r settings names first last a c before after items
  IsSecondPass-same first last a b c before after items kept pass = record {
    given = pass.given;
    found = λ reliable. each_weaker (λ item. IfSome item.fate (WasFound (s.entries b) item.name)) (λ item. IfSome item.fate (WasFound (s.entries a) item.name)) items
        (λ item. found_same item.name (kept.change (pass.stored.was_reliable reliable)) item.fate) (pass.found reliable);
    stored = Changes-trans s AreSame (IsStored settings.dry_run items) (IsStored settings.dry_run items) a b c
        (λ x y z. IsStored-same settings.dry_run items x y z) kept pass.stored;
    reported = pass.reported;
  } where
    found_same : (name : Name) → AreSame (s.entries a) (s.entries b) → (fate : Option Fate) → IfSome fate (WasFound (s.entries b) name) → IfSome fate (WasFound (s.entries a) name)
    found_same name same None h = tt
    found_same name same (Some fate) h = WasFound-same name (s.entries a) (s.entries b) same fate h
