-- The inclusions by which templates are reached from pages, and the notes that name them.
use Rattle.std.specs.Prelude.{◌≡◌, ℕ, ◌+◌, ◌<◌, ◌++◌, Bool, true, false, List, [], ◌∷◌, Option, None, Some, length, option_and_then, slice_get}
use Rattle.std.specs.List.{AllZip, Contains}
use Rattle.handlebars_base.specs.Bytes.{Text}
use Rattle.handlebars_includes.specs.Graph.{ArePages, Graph, Includes, index_of, inclusions_at}
use Rattle.handlebars_includes.specs.View.{position_in}
use Rattle.handlebars_names.specs.Faults.{Fault}
use Rattle.handlebars_names.specs.Search.{Verdict, no_faults, some_faults, undecided}
use Rattle.handlebars_report.specs.Problem.{Note, Place, Problem}
use Rattle.hb_check.specs.Place.{IsPlaced}
use Rattle.hb_check.specs.Several.{column_of, line_of}
use Rattle.hb_check.specs.Reported.{One}
use Rattle.hb_check.specs.declared.chains.Includer.{Includer}
use Rattle.hb_check.specs.declared.chains.Way.{Way}
use Rattle.hb_check.specs.declared.chains.Way.TheVariants.{Unreached, Page, Included}
use Rattle.hb_check.specs.declared.sources.Sources.{Sources}

-- ---- how templates are reached

-- the inclusion by which a template is first reached; a page has none, nor has one that isn't reached
abbrev pub includer_in : Way → Option Includer
includer_in Unreached = None
includer_in Page = None
includer_in (Included x) = Some x

abbrev pub includer_at : List Way → ℕ → Option Includer
includer_at ways i = option_and_then includer_in (slice_get ways i)

-- A template has a tag there that includes the template of this index.
abbrev pub IsInclusion : Graph → ℕ → Includer → Type 0
IsInclusion g i x =
    (always : Bool) × Contains (inclusions_at g x.template) (record { target = i; position = position_in x.position; always = always })

abbrev pub is_unreached : Way → Bool
is_unreached Unreached = true
is_unreached Page = false
is_unreached (Included x) = false

abbrev pub IsReached : List Way → ℕ → Type 0
IsReached ways i = (w : Way) × (slice_get ways i ≡ Some w) × (is_unreached w ≡ false)

-- What a template includes that is reached is reached.
abbrev pub IsClosed : Graph → List Way → Type 0
IsClosed g ways = (i j : ℕ) → IsReached ways i → Includes g i j → j < length ways → IsReached ways j

-- The named pages, and those by which all other templates are reached, are reached as pages, and what is included is reached from
-- these: each inclusion by which a template is reached is one of the graph.
pub record AreWays (g : Graph) (named : List ℕ) (ways : List Way) : Type 0 where
  pub indices : List ℕ
  pub pages : ArePages g indices
  pub starts : (i : ℕ) → Contains (named ++ indices) i → i < length ways → slice_get ways i ≡ Some Page
  pub closed : IsClosed g ways
  pub inclusions : (i : ℕ) (x : Includer) → includer_at ways i ≡ Some x → IsInclusion g i x

-- ---- notes

-- The note's place is the tag of the inclusion.
abbrev pub IsNoteOf : Sources → List Text → Includer → Note → Type 0
IsNoteOf ss names x n =
    (p : Place) × (n.place ≡ Some p)
    × IsPlaced ss (slice_get names x.template) (line_of (position_in x.position)) (column_of (position_in x.position)) p

-- The notes of a template, in so many steps at most: the tag by which it is reached, and then the notes of the template that has
-- this tag. They end where no tag is known.
pub data IsChain (ss : Sources) (names : List Text) (ways : List Way) : ℕ → ℕ → List Note → Type 0 where
  full : {i : ℕ} → IsChain ss names ways 0 i []
  ends : {k i : ℕ} → includer_at ways i ≡ None → IsChain ss names ways k i []
  step : {k i : ℕ} {x : Includer} {n : Note} {ns : List Note} → includer_at ways i ≡ Some x → IsNoteOf ss names x n
      → IsChain ss names ways k x.template ns → IsChain ss names ways (k + 1) i (n ∷ ns)

-- What is no template has no notes. A chain has as many as there are templates, at most.
abbrev pub AreNotesAt : Sources → List Text → List Way → Option ℕ → List Note → Type 0
AreNotesAt ss names ways None ns = ns ≡ []
AreNotesAt ss names ways (Some i) ns = IsChain ss names ways (length names) i ns

-- the notes of the template of this name
abbrev pub AreNotes : Sources → List Text → List Way → Option Text → List Note → Type 0
AreNotes ss names ways n ns = AreNotesAt ss names ways (option_and_then (index_of names) n) ns

-- ---- faults of names

abbrev pub IsChained : Sources → List Text → List Way → Fault → Problem → Type 0
IsChained ss names ways f p = AreNotes ss names ways f.template_name p.notes

abbrev pub HasNotes : List Note → Problem → Type 0
HasNotes ns p = p.notes ≡ ns

-- Each fault of a verdict is reported with the notes of its template.
abbrev pub AreChained : Sources → List Text → List Way → Verdict → List Problem → Type 0
AreChained ss names ways no_faults ps = ps ≡ []
AreChained ss names ways (some_faults fs) ps = AllZip (IsChained ss names ways) fs ps
AreChained ss names ways undecided ps = One (HasNotes []) ps
