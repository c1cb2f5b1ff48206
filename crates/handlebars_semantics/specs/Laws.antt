-- Laws of every run at one setting.
use Rattle.std.specs.Prelude.{◌≡◌, ◌≢◌, ◌≤◌, ℕ, Bool, true, false, List, [], length, Option, None}
use Rattle.std.specs.List.{AllByRecursion}
use Rattle.handlebars_template.specs.Tree.{Tree, tree, no_elements, element, Element}
use Rattle.handlebars_base.specs.Bytes.{Text}
use Rattle.handlebars_base.specs.Outputs.{IsPrefix}
use Rattle.handlebars_base.specs.Reasons.{helper_not_found, inclusion_limit}
use Rattle.handlebars_semantics.specs.Pieces.{Piece, join}
use Rattle.handlebars_semantics.specs.State.{CapturedBlocks, Setting, State}
use Rattle.handlebars_semantics.specs.Steps.{Steps}
use Rattle.handlebars_semantics.specs.Means.{render_alone}
use Rattle.handlebars_semantics.specs.Names.{included_names}
use Rattle.handlebars_semantics.specs.Runs.{Outcome, Ended, Failed, WriteFailed, NoMemory, IsStop, Runs, Means}
use Rattle.handlebars_semantics.specs.Origins.{HaveOrigins, OccurInTrees}
use Rattle.handlebars_semantics.specs.Visits.{visits, ComeOnce}

-- Two runs of the same steps that don't stop early have the same pieces, the same outcome and the same names of inclusions.
-- The statement is a mere proposition.
abbrev pub OneRun : Setting → Type 0
OneRun p = (k : Steps) (s : State) (ps qs : List Piece) (o q : Outcome) (a : Runs p k s ps o) (b : Runs p k s qs q)
    → (IsStop o → ⊥) → (IsStop q → ⊥) → ∥ (ps ≡ qs) × (o ≡ q) × (included_names a ≡ included_names b) ∥₁

-- What a run that stops early writes is a prefix of what the whole run writes.
abbrev pub StopsInBeginning : Setting → Type 0
StopsInBeginning p = (k : Steps) (s : State) (ps qs : List Piece) (o q : Outcome)
    → Runs p k s ps o → Runs p k s qs q → IsStop o → (IsStop q → ⊥) → ∥ IsPrefix (join ps) (join qs) ∥₁

-- ---- where pieces come from

-- A tree's run visits no occurrence twice.
abbrev pub ComesOnce : Setting → Type 0
ComesOnce p = (t : Tree) (s : State) (ps : List Piece) (o : Outcome) (r : Means p t s ps o) → ComeOnce (visits r)

-- Escaping is on, no indentation is in force, and nothing is captured, as when a run begins.
pub record IsPlain (s : State) : Type 0 where
  pub escapes : s.escapes ≡ true
  pub indent : s.indent ≡ None
  pub captured : s.captured ≡ []

-- If a tree's run begins plainly, all that it writes has an origin in a tree of the run, where the run visits it.
abbrev pub AllHaveOrigins : Setting → Type 0
AllHaveOrigins p = (t : Tree) (s : State) (ps : List Piece) (o : Outcome)
    → IsPlain s → (r : Means p t s ps o) → HaveOrigins p t (visits r) ps

-- All the occurrences that it visits are in trees of the run.
abbrev pub ComesInTrees : Setting → Type 0
ComesInTrees p = (t : Tree) (s : State) (ps : List Piece) (o : Outcome)
    → IsPlain s → (r : Means p t s ps o) → OccurInTrees p t s.blocks (visits r) (visits r)

-- an element alone, as a tree of its own
abbrev pub alone : Element → Tree
alone e = tree None (element e no_elements) []

-- If an element's run begins plainly, all that it writes has an origin in a tree of the run.
abbrev pub ElementHasOrigins : Setting → Type 0
ElementHasOrigins p = (e : Element) (s : State) (ps : List Piece) (o : Outcome)
    → IsPlain s → (r : Runs p (render_alone e) s ps o) → HaveOrigins p (alone e) (visits r) ps

-- ---- what is preserved

-- What surrounds all that is rendered: how many scope frames there are, whether lookup is recursive and escaping is on, the
-- indentation in force, what is captured, and how many inclusions are being rendered.
pub record PreservedPart : Type 0 where
  pub blocks : ℕ
  pub recursive : Bool
  pub escapes : Bool
  pub indent : Option Text
  pub captured : CapturedBlocks
  pub inclusions : ℕ

abbrev pub preserved_part : State → PreservedPart
preserved_part s = record {
  blocks = length s.blocks;
  recursive = s.recursive;
  escapes = s.escapes;
  indent = s.indent;
  captured = s.captured;
  inclusions = s.inclusions;
}

-- A tree's run that ends without an error preserves it.
abbrev pub LeavesAround : Setting → Type 0
LeavesAround p = (t : Tree) (s n : State) (ps : List Piece) → Means p t s ps (Ended n) → preserved_part n ≡ preserved_part s

-- ---- other limits and other templates

-- the outcome is no error for this limit
abbrev pub IsNotForLimit : ℕ → Outcome → Type 0
IsNotForLimit n (Ended s) = Unit {0}
IsNotForLimit n (Failed r) = r.reason ≢ inclusion_limit n
IsNotForLimit n (WriteFailed f) = Unit {0}
IsNotForLimit n NoMemory = Unit {0}

abbrev pub with_limit : ℕ → Setting → Setting
with_limit n p = record p { parts = record p.parts { limit = n } }

-- Raising the inclusion limit does not change a run that doesn't fail for the limit.
abbrev pub SameUnderLarger : Setting → Type 0
SameUnderLarger p = (n : ℕ) (k : Steps) (s : State) (ps : List Piece) (o : Outcome) → p.parts.limit ≤ n
    → Runs p k s ps o → IsNotForLimit p.parts.limit o → Runs (with_limit n p) k s ps o

abbrev pub with_templates : (Text → Option Tree) → Setting → Setting
with_templates template p = record p { parts = record p.parts { template = template } }

-- A run is the same whatever is registered under names that none of its inclusions has.
abbrev pub OnlyNamedCount : Setting → Type 0
OnlyNamedCount p = (k : Steps) (s : State) (ps : List Piece) (o : Outcome) (r : Runs p k s ps o)
    (template : Text → Option Tree)
    → AllByRecursion (λ n. template n ≡ p.parts.template n) (included_names r) → Runs (with_templates template p) k s ps o

-- ---- sections

-- the outcome is no error of a call whose name has no helper
abbrev pub IsNotForHelper : Outcome → Type 0
IsNotForHelper (Ended s) = Unit {0}
IsNotForHelper (Failed r) = (n : Text) → r.reason ≢ helper_not_found n
IsNotForHelper (WriteFailed f) = Unit {0}
IsNotForHelper NoMemory = Unit {0}

-- with sections or without
abbrev pub with_sections : Bool → Setting → Setting
with_sections on p = record p { parts = record p.parts { sections = on } }

-- A tree's run without sections that doesn't fail for a name without a helper is the same with sections.
abbrev pub SameWithSections : Setting → Type 0
SameWithSections p = (t : Tree) (s : State) (ps : List Piece) (o : Outcome)
    → Means (with_sections false p) t s ps o → IsNotForHelper o → Means (with_sections true p) t s ps o
