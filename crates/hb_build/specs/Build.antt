-- What a build does: two passes, or a part of them.
use Rattle.std.specs.Prelude.{◌≡◌, ◌≢◌, ◌⊎◌, ℕ, ◌+◌, ◌<◌, Bool, true, false, List, [], ◌∷◌, ◌++◌, Some, None, Result, IfErr, OnOk, length, slice_get, string_bytes}
use Rattle.hb_build.specs.Name.{Name, AreAcceptable}
use Rattle.hb_build.specs.NameErrors.{IsNameError}
use Rattle.hb_build.specs.Given.{IfFault}
use Rattle.hb_build.specs.Items.{Item, Counts, Fate, count_of, counted, failed, is_failed, outcome_of}
use Rattle.hb_build.specs.Passes.{AreClear, IsDone, IsFate, IsFirstPass, IsInShard, IsPreserved, IsPagesError, IsSecondPass, IsWayError, share_of}
use Rattle.hb_build.specs.declared.source.Pages as pages
use Rattle.hb_build.specs.declared.files.Store as stores
use Rattle.hb_build.specs.declared.outcome.Report as reports
use Rattle.hb_build.specs.declared.outcome.Cause.{Cause}
use Rattle.hb_build.specs.declared.outcome.Outcome.{Outcome}
use Rattle.hb_build.specs.declared.outcome.Outcome.TheVariants as outcomes
use Rattle.hb_build.specs.declared.outcome.Summary.{Summary}
use Rattle.hb_build.specs.declared.options.Settings.{Settings}
use Rattle.hb_build.specs.declared.error.BuildError.{BuildError}
use Rattle.hb_build.specs.declared.error.BuildError.TheVariants as errors

-- unless the build is to keep going, no item has failed
abbrev pub HasNoFailure : Settings → List Item → Type 0
HasNoFailure settings items = settings.keep_going ≡ false → count_of is_failed items ≡ 0

-- The item of this number and name has failed for this cause, and the build is not to keep going. There may be no memory to say so.
abbrev pub IsFailure : Bool → ℕ → Name → Outcome → BuildError → Type 0
IsFailure keep_going item name outcome errors.OutOfMemory = (keep_going ≡ false) × (cause : Cause) × (outcome ≡ outcomes.Failed cause)
IsFailure keep_going item name outcome (errors.Failed k text cause) =
    (keep_going ≡ false) × (k ≡ item) × (string_bytes text ≡ name) × (outcome ≡ outcomes.Failed cause)
IsFailure keep_going item name outcome _ = ⊥

-- the same of an item of which this has become
abbrev pub IsItemFailure : Bool → ℕ → Item → BuildError → Type 0
IsItemFailure keep_going k item errors.OutOfMemory = (keep_going ≡ false) × (cause : Cause) × (item.fate ≡ Some (failed cause))
IsItemFailure keep_going k item (errors.Failed number text cause) =
    (keep_going ≡ false) × (number ≡ k) × (string_bytes text ≡ item.name) × (item.fate ≡ Some (failed cause))
IsItemFailure keep_going k item _ = ⊥

module _ {P : Type 0} (p : pages.Ghosts P) where
  -- The item of this number and name isn't reached from the old state: the pages fail, or end, or have another name.
  abbrev pub IsUnreached : P → ℕ → Name → P → BuildError → Type 0
  IsUnreached old item name now (errors.Items k cause) = (k ≡ item) × IfFault cause (p.advances old None now)
  IsUnreached old item name now (errors.Name k cause) = (k ≡ item) × p.advances old (Some true) now × IfFault cause (p.names now None)
  IsUnreached old item name now (errors.Renamed k) = (k ≡ item)
      × (p.advances old (Some false) now ⊎ (p.advances old (Some true) now × (other : Name) × p.names now (Some other) × (other ≢ name)))
  IsUnreached old item name now _ = ⊥

  -- the item of this number can't be skipped: the pages fail, or end
  abbrev pub IsUnskipped : P → ℕ → P → BuildError → Type 0
  IsUnskipped old item now (errors.Items k cause) = (k ≡ item) × IfFault cause (p.skips old None now)
  IsUnskipped old item now (errors.Renamed k) = (k ≡ item) × p.skips old (Some false) now
  IsUnskipped old item now _ = ⊥

  -- so many items are not all that there are: the pages fail, or have one more
  abbrev pub IsNoEnd : P → ℕ → P → BuildError → Type 0
  IsNoEnd old items now (errors.Items k cause) = (k ≡ items) × IfFault cause (p.skips old None now)
  IsNoEnd old items now (errors.Renamed k) = (k ≡ items) × p.skips old (Some true) now
  IsNoEnd old items now _ = ⊥

module _ {P S R : Type 0} (p : pages.Ghosts P) (s : stores.Ghosts S) (r : reports.Ghosts R) (settings : Settings) (names : List Name) where
  -- The item of this number is built, reported and counted. There is an error just if it has failed and the build is not to keep
  -- going.
  pub record IsItemBuilt {X : Type 0} (k : ℕ) (u : P) (old new : S) (before after : R) (counts now : Summary) (result : Result X BuildError) : Type 0 where
    pub name : Name
    pub fate : Fate
    pub same_name : slice_get names k ≡ Some name
    pub is_fate : IsFate p s u fate
    pub done : IsDone s r settings names k (record { name = name; fate = Some fate }) old new before after
    pub counts_it : now ≡ counted (outcome_of fate) counts
    pub goes_on : OnOk result (settings.keep_going ≡ false → is_failed fate ≡ false)
    pub stops : IfErr result (IsItemFailure settings.keep_going k (record { name = name; fate = Some fate }))

  -- The second pass is over: each item of the shard has been built, and counted.
  pub record IsWhole (first now : P) (old new : S) (before after : R) (summary : Summary) : Type 0 where
    pub items : List Item
    pub last : P
    pub pass : IsSecondPass p s r settings names first last old new before after items
    pub ended : p.skips last (Some false) now
    pub each : length items ≡ length names
    pub counted : Counts items summary
    pub total : summary.created + summary.changed + summary.unchanged + summary.failed ≡ share_of settings.shard 0 (length names)
    pub no_failure : HasNoFailure settings items

  -- Why the second pass goes no further at the item of this number: the item is of the shard and isn't reached, or it is another
  -- one and can't be skipped, or the first pass ended here and this one doesn't.
  abbrev pub IsStuck : P → ℕ → P → BuildError → Type 0
  IsStuck last k now e = ((name : Name) × (slice_get names k ≡ Some name) × IsInShard settings.shard k × IsUnreached p last k name now e)
      ⊎ ((k < length names) × (IsInShard settings.shard k → ⊥) × IsUnskipped p last k now e)
      ⊎ ((k ≡ length names) × IsNoEnd p last k now e)

  -- the last of these items has failed, and none before it, and the build is not to keep going
  abbrev pub HasFailed : List Item → BuildError → Type 0
  HasFailed items e = (done : List Item) × (item : Item) × (items ≡ done ++ item ∷ []) × HasNoFailure settings done
      × IsItemFailure settings.keep_going (length done) item e

  -- Why the second pass stops after these items: it goes no further at the next one, or the last of these has failed.
  abbrev pub IsStop : P → P → List Item → BuildError → Type 0
  IsStop last now items e = (HasNoFailure settings items × IsStuck last (length items) now e) ⊎ HasFailed items e

  -- The second pass stops: of these items, those of the shard have been built.
  pub record IsPart (first now : P) (old new : S) (before after : R) (e : BuildError) : Type 0 where
    pub items : List Item
    pub last : P
    pub pass : IsSecondPass p s r settings names first last old new before after items
    pub stop : IsStop last now items e

module _ {P S R : Type 0} (p : pages.Ghosts P) (s : stores.Ghosts S) (r : reports.Ghosts R) (settings : Settings) where
  -- What comes before anything is written: the pages have these names, which are acceptable, and nothing is in the way of the
  -- files. Then the pages are rewound.
  pub record IsReady (old first : P) (store new : S) (names : List Name) : Type 0 where
    pub mid : P
    pub given : IsFirstPass p old names mid
    pub acceptable : AreAcceptable names
    pub clear : s.reliable new → AreClear settings.shard (s.entries store) names
    pub rewound : p.rewinds mid true first

  -- Each item of the shard has been built, but for those that have failed.
  pub record IsBuilt (old now : P) (store new : S) (before after : R) (summary : Summary) : Type 0 where
    pub names : List Name
    pub first : P
    pub ready : IsReady old first store new names
    pub whole : IsWhole p s r settings names first now store new before after summary

  -- The build stops after some items.
  pub record IsBuiltInPart (old now : P) (store new : S) (before after : R) (e : BuildError) : Type 0 where
    pub names : List Name
    pub first : P
    pub ready : IsReady old first store new names
    pub part : IsPart p s r settings names first now store new before after e

  -- Why a build stops before the second pass: the pages fail, the names are not acceptable, something is in the way, or the pages
  -- can't be rewound.
  abbrev pub IsEarly : P → P → S → S → BuildError → Type 0
  IsEarly old now store new e = IsPagesError p old now e
      ⊎ ((names : List Name) × IsFirstPass p old names now × (IsNameError names e ⊎ IsWayError s settings.shard store new names e))
      ⊎ ((names : List Name) × (mid : P) × IsFirstPass p old names mid × CannotRewind mid now e)
    where
      CannotRewind : P → P → BuildError → Type 0
      CannotRewind mid now (errors.Items item cause) = (item ≡ 0) × IfFault cause (p.rewinds mid false now)
      CannotRewind mid now _ = ⊥

  -- The build stops before the second pass, and changes and reports nothing.
  pub record IsRefused (old now : P) (store new : S) (before after : R) (e : BuildError) : Type 0 where
    pub early : IsEarly old now store new e
    pub preserved : IsPreserved s store new
    pub unreported : after ≡ before
