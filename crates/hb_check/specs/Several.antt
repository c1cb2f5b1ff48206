-- Problems of several templates together.
use Rattle.std.specs.Prelude.{◌≡◌, ℕ, Bool, List, [], ◌∷◌, Option, None, length, map, option_map, slice_get, unwrap_or}
use Rattle.std.specs.List.{AllZip}
use Rattle.handlebars_base.specs.Bytes.{Text}
use Rattle.handlebars_includes.specs.Circles.{AreCircles, Tag}
use Rattle.handlebars_includes.specs.Graph.{AreUnreached, Graph, index_of}
use Rattle.handlebars_includes.specs.Hidden.{HiddenName}
use Rattle.handlebars_report.specs.Problem.{Problem}
use Rattle.handlebars_report.specs.declared.problem.Severity.TheVariants.{Error, Warning}
use Rattle.handlebars_template.specs.Position.{Position}
use Rattle.hb_check.specs.Place.{IsPlaced}
use Rattle.hb_check.specs.Reported.{IsKind}
use Rattle.hb_check.specs.declared.code.Code.TheVariants as code
use Rattle.hb_check.specs.declared.sources.Sources.{Sources}

-- ---- positions of tags

abbrev pub line_of : Option Position → Option ℕ
line_of p = option_map (λ (q : Position). q.line) p

abbrev pub column_of : Option Position → Option ℕ
column_of p = option_map (λ (q : Position). q.column) p

-- ---- templates that no page includes

-- The template of this name is reported.
pub record IsUnused (ss : Sources) (n : Option Text) (p : Problem) : Type 0 where
  pub is : IsKind Warning code.UnusedTemplate p
  pub at : IsPlaced ss n None None p.place

-- The template of this index is reported.
abbrev pub ReportsUnusedAt : Sources → List Text → ℕ → Problem → Type 0
ReportsUnusedAt ss names i p = IsUnused ss (slice_get names i) p

-- the index of each of these names; one that no template has reaches nothing
abbrev pub indices_of : List Text → List Text → List ℕ
indices_of names ns = map (λ n. unwrap_or (index_of names n) (length names)) ns

-- Each template that these pages don't reach is reported once, in order. Without a page nothing is.
abbrev pub ReportsUnused : Sources → List Text → Graph → List Text → List Problem → Type 0
ReportsUnused ss names g [] ps = ps ≡ []
ReportsUnused ss names g (n ∷ ns) ps =
    (is : List ℕ) × AreUnreached g (indices_of names (n ∷ ns)) is × AllZip (ReportsUnusedAt ss names) is ps

-- ---- templates that include each other without end

-- The tag is reported, at its position in its template.
pub record ReportsCircle (ss : Sources) (names : List Text) (t : Tag) (p : Problem) : Type 0 where
  pub is : IsKind Error code.IncludesItself p
  pub at : IsPlaced ss (slice_get names t.template) (line_of t.inclusion.position) (column_of t.inclusion.position) p.place

-- Each tag that closes a circle is reported once, in order.
abbrev pub ReportsCircles : Sources → List Text → Graph → Bool → List Problem → Type 0
ReportsCircles ss names g replaced ps = (ts : List Tag) × AreCircles g replaced ts × AllZip (ReportsCircle ss names) ts ps

-- ---- names that hash arguments hide

pub record ReportsHidden (ss : Sources) (names : List Text) (h : HiddenName) (p : Problem) : Type 0 where
  pub is : IsKind Warning code.HiddenName p
  pub at : IsPlaced ss (slice_get names h.location.template) (line_of h.location.position) (column_of h.location.position) p.place
