-- Faults of what is user-defined, one after another.
use Rattle.std.proofs.Common.{◌≡◌, List, ◌++◌, map, None}
use Rattle.handlebars_html.specs.Faults.{Why, faults_at}
use Rattle.handlebars_html.specs.RowsView.{fault_of}
use Rattle.handlebars_html.specs.declared.fault.HtmlFault.{HtmlFault}

-- What was found so far, with the rest, is what there was first, with all.
abbrev pub AppendsFrom : List HtmlFault → List HtmlFault → List Why → List Why → Type 0
AppendsFrom first now rest all =
    map fault_of now ++ faults_at None None rest ≡ map fault_of first ++ faults_at None None all
