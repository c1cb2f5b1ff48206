-- How the definitions view what the code has found, and where.
use Rattle.std.specs.Prelude.{◌≡◌, if◌then◌else◌, List, [], ◌∷◌, ◌++◌, None, map, option_map}
use Rattle.handlebars_template.specs.TreeView.{position_of}
use Rattle.handlebars_html.specs.Check.{Findings, found_faults, Ends}
use Rattle.handlebars_html.specs.Faults.{Why, Fault, faults_at, with_faults}
use Rattle.handlebars_html.specs.Html as html
use Rattle.handlebars_html.specs.HtmlView.{html_of}
use Rattle.handlebars_html.specs.Rows.{Row, has_row}
use Rattle.handlebars_html.specs.RowsView.{row_of, fault_of}
use Rattle.handlebars_html.specs.declared.found.Found.{Found}
use Rattle.handlebars_html.specs.declared.found.Location.{Location}
use Rattle.handlebars_html.specs.declared.fault.HtmlFault.{HtmlFault}
use Rattle.handlebars_html.specs.declared.html.Html.{Html}

abbrev pub found_of : Found → Findings
found_of f = record { rows = map row_of f.rows.items; faults = map fault_of f.faults.items }

module _ (table : List Row) where
  -- Those of the other rows are added that the table lacks.
  abbrev pub with_missing : List Row → List Row → List Row
  with_missing rows [] = rows
  with_missing rows (r ∷ rs) = with_missing (if has_row table r then rows else rows ++ r ∷ []) rs

  -- what was found so far, and of these findings the rows that the table lacks, and each fault once
  abbrev pub with_findings : Findings → Findings → Findings
  with_findings x y = record { rows = with_missing x.rows y.rows; faults = with_faults x.faults y.faults }

  -- These findings are added to what was found before.
  abbrev pub AddsFindings : Found → Found → Findings → Type 0
  AddsFindings before after x = found_of after ≡ with_findings (found_of before) x

  -- A part ends in these states, and what is found on it is added.
  abbrev pub EndsIn : Found → Found → List Html → Ends → Type 0
  EndsIn before after hs x = (map html_of hs ≡ x.states) × AddsFindings before after x.findings

  -- what was found so far, and then these findings: the rows that the table lacks, and the faults
  abbrev pub collected : Findings → Findings → Findings
  collected x y = record { rows = x.rows ++ with_missing [] y.rows; faults = x.faults ++ y.faults }

  -- These findings come after what was found before.
  abbrev pub Collects : Found → Found → Findings → Type 0
  Collects before after x = found_of after ≡ collected (found_of before) x

-- ---- faults alone

-- all at this location
abbrev pub faults_in : Location → List Why → List Fault
faults_in s ws = faults_at (option_map (λ n. n.now) s.template_name) (option_map position_of s.position) ws

-- these reasons, at this location
abbrev pub findings_in : Location → List Why → Findings
findings_in s ws = found_faults (faults_in s ws)

-- These faults are added, and no row.
abbrev pub AddsFaults : Found → Found → Location → List Why → Type 0
AddsFaults before after s ws = AddsFindings [] before after (findings_in s ws)

-- A part ends in these states, and these faults are added.
abbrev pub EndsWith : Found → Found → List Html → List html.Html → Location → List Why → Type 0
EndsWith before after hs gs s ws = (map html_of hs ≡ gs) × AddsFaults before after s ws

-- These faults, which are in no template, come after those that were found before.
abbrev pub AppendsFaults : List HtmlFault → List HtmlFault → List Why → Type 0
AppendsFaults before after ws = map fault_of after ≡ map fault_of before ++ faults_at None None ws
