-- Templates that include each other without end, by tags that are always rendered.
use Rattle.std.specs.Prelude.{◌≡◌, ℕ, ◌+◌, ◌<◌, ◌≤◌, Bool, true, false, List, [], ◌∷◌, ◌++◌, length, map}
use Rattle.handlebars_includes.specs.Graph.{Graph, Inclusion, Reaches, inclusions_at}

-- ---- tags that are always rendered

abbrev pub if_always : Bool → Inclusion → List Inclusion
if_always true x = x ∷ []
if_always false x = []

abbrev pub always_among : List Inclusion → List Inclusion
always_among [] = []
always_among (x ∷ xs) = if_always x.always x ++ always_among xs

-- the inclusions that are always rendered when their template is
abbrev pub always_in : Graph → Graph
always_in g = map always_among g

-- ---- circles

-- a tag of the template of this index
pub record Tag : Type 0 where
  pub template : ℕ
  pub inclusion : Inclusion

-- A tag closes a circle if it includes an earlier template that reaches its own.
pub data ClosesCircle (g : Graph) (i : ℕ) (x : Inclusion) : List Tag → Type 0 where
  closes : x.target < i → Reaches g (x.target ∷ []) i → ClosesCircle g i x (record { template = i; inclusion = x } ∷ [])
  later : i ≤ x.target → ClosesCircle g i x []
  ends : (Reaches g (x.target ∷ []) i → ⊥) → ClosesCircle g i x []

-- those of these tags of a template that close circles, in order
pub data CircleTags (g : Graph) (i : ℕ) : List Inclusion → List Tag → Type 0 where
  no_tags : CircleTags g i [] []
  tag_more : {xs : List Inclusion} {x : Inclusion} {before : List Tag} {here : List Tag} → CircleTags g i xs before
      → ClosesCircle g i x here → CircleTags g i (xs ++ x ∷ []) (before ++ here)

-- those of the templates before an index
pub data CirclesBefore (g : Graph) : ℕ → List Tag → Type 0 where
  no_templates : CirclesBefore g 0 []
  template_more : {i : ℕ} {before : List Tag} {here : List Tag} → CirclesBefore g i before → CircleTags g i (inclusions_at g i) here
      → CirclesBefore g (i + 1) (before ++ here)

-- The tags that close circles of what is always rendered. None does where an inline partial may take the place of a template.
abbrev pub AreCircles : Graph → Bool → List Tag → Type 0
AreCircles g true tags = tags ≡ []
AreCircles g false tags = CirclesBefore (always_in g) (length g) tags
