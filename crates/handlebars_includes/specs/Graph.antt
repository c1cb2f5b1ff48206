-- Which templates include which: templates are numbered, and each has its inclusions.
use Rattle.std.specs.Prelude.{◌≡◌, ◌≢◌, ℕ, ◌+◌, ◌<◌, Bool, true, false, if◌then◌else◌, List, [], ◌∷◌, ◌++◌, length, map, Option, None, Some, slice_get, unwrap_or, is_some}
use Rattle.std.specs.List.{Contains, list_any}
use Rattle.std.specs.Str.{bytes_eq}
use Rattle.handlebars_base.specs.Bytes.{Text}
use Rattle.handlebars_template.specs.Position.{Position}
use Rattle.handlebars_template.specs.Tree.{Tree}
use Rattle.handlebars_includes.specs.Mentions.{Mention, includes, sets, mentions_in}

-- A template that is included, the position of the tag, and whether the tag is always rendered when its template is.
pub record Inclusion : Type 0 where
  pub target : ℕ
  pub position : Option Position
  pub always : Bool

-- the inclusions of each template
abbrev pub Graph : Type 0
Graph = List (List Inclusion)

-- ---- the graph of templates

-- The index of a name among the names from an index on, or else what was found before: of equal names the last one counts.
abbrev pub index_among : ℕ → List Text → Text → Option ℕ → Option ℕ
index_among i [] n found = found
index_among i (x ∷ xs) n found = index_among (i + 1) xs n (if bytes_eq x n then Some i else found)

abbrev pub index_of : List Text → Text → Option ℕ
index_of names n = index_among 0 names n None

abbrev pub inclusion_of : Option ℕ → Option Position → Bool → List Inclusion
inclusion_of None p always = []
inclusion_of (Some i) p always = record { target = i; position = p; always = always } ∷ []

-- A name that no template has is no inclusion.
abbrev pub inclusion_in : List Text → Mention → List Inclusion
inclusion_in names (includes n p always) = inclusion_of (index_of names n) p always
inclusion_in names (sets o) = []

abbrev pub inclusions_of : List Text → List Mention → List Inclusion
inclusions_of names [] = []
inclusions_of names (m ∷ ms) = inclusion_in names m ++ inclusions_of names ms

abbrev pub graph_of : List Text → List Tree → Graph
graph_of names trees = map (λ t. inclusions_of names (mentions_in t)) trees

-- Whether a tag may set an inline partial that takes the place of a template: one of a template's name, or of a name that isn't
-- known.
abbrev pub replaces : List Text → Mention → Bool
replaces names (includes n p always) = false
replaces names (sets None) = true
replaces names (sets (Some n)) = is_some (index_of names n)

abbrev pub replaces_in : List Text → Tree → Bool
replaces_in names t = list_any (replaces names) (mentions_in t)

-- Whether some template has such a tag.
abbrev pub are_replaced : List Text → List Tree → Bool
are_replaced names trees = list_any (replaces_in names) trees

-- ---- what is reached

abbrev pub targets : List Inclusion → List ℕ
targets xs = map (λ x. x.target) xs

abbrev pub inclusions_at : Graph → ℕ → List Inclusion
inclusions_at g i = unwrap_or (slice_get g i) []

-- the templates that a template includes
abbrev pub targets_at : Graph → ℕ → List ℕ
targets_at g i = targets (inclusions_at g i)

abbrev pub Includes : Graph → ℕ → ℕ → Type 0
Includes g i j = Contains (targets_at g i) j

-- A template is one of these, or one that is reached from them includes it.
pub data Reaches (g : Graph) (starts : List ℕ) : ℕ → Type 0 where
  start : {i : ℕ} → Contains starts i → Reaches g starts i
  next : {i : ℕ} {j : ℕ} → Reaches g starts i → Includes g i j → Reaches g starts j

-- The marks are of all templates, and true of those that are reached from these.
pub record MarksReached (g : Graph) (starts : List ℕ) (marks : List Bool) : Type 0 where
  pub each : length marks ≡ length g
  pub marked : (i : ℕ) → slice_get marks i ≡ Some true → Reaches g starts i
  pub reached : (i : ℕ) → i < length g → Reaches g starts i → slice_get marks i ≡ Some true

abbrev pub unless_marked : Bool → ℕ → List ℕ
unless_marked true i = []
unless_marked false i = i ∷ []

-- the indices of those that aren't marked, from an index on
abbrev pub unmarked_from : ℕ → List Bool → List ℕ
unmarked_from i [] = []
unmarked_from i (m ∷ ms) = unless_marked m i ++ unmarked_from (i + 1) ms

-- These are the templates that none of the starts reaches, in order.
abbrev pub AreUnreached : Graph → List ℕ → List ℕ → Type 0
AreUnreached g starts xs = (marks : List Bool) × MarksReached g starts marks × (xs ≡ unmarked_from 0 marks)

-- ---- pages

-- The marks are of all templates, and true of those that another one includes.
pub record MarksIncluded (g : Graph) (marks : List Bool) : Type 0 where
  pub each : length marks ≡ length g
  pub marked : (j : ℕ) → slice_get marks j ≡ Some true → (i : ℕ) × (i ≢ j) × Includes g i j
  pub included : (i : ℕ) (j : ℕ) → j < length g → i ≢ j → Includes g i j → slice_get marks j ≡ Some true

-- From an index up to the number of templates: each template that isn't reached from the pages before it is one more page.
pub data AddsPages (g : Graph) : ℕ → List ℕ → List ℕ → Type 0 where
  done : {i : ℕ} {pages : List ℕ} → i ≡ length g → AddsPages g i pages pages
  reached : {i : ℕ} {pages : List ℕ} {all : List ℕ} → i < length g → Reaches g pages i → AddsPages g (i + 1) pages all
      → AddsPages g i pages all
  unreached : {i : ℕ} {pages : List ℕ} {all : List ℕ} → i < length g → (Reaches g pages i → ⊥)
      → AddsPages g (i + 1) (pages ++ i ∷ []) all → AddsPages g i pages all

-- The pages are the templates that no other one includes, in order, and then the first of those that these don't reach, and so
-- on. They reach each template.
pub record ArePages (g : Graph) (pages : List ℕ) : Type 0 where
  pub marks : List Bool
  pub included : MarksIncluded g marks
  pub adds : AddsPages g 0 (unmarked_from 0 marks) pages
  pub reach : (i : ℕ) → i < length g → Reaches g pages i
