use Rattle.std.proofs.Common.{◌≡◌, ◌++◌, flat_map, map, take}
use Rattle.handlebars_html.specs.SearchView.{template_of}
use Rattle.handlebars_markup.specs.Faults.{faults_of_parts}
use Rattle.handlebars_markup.specs.FaultsView.{fault_of}
use Rattle.hb_check.specs.Says.{faults_of_template}
use Rattle.hb_check.proofs.markup.markup_faults.Given as goal

abbrev pub invariant-templates : goal.invariant-templates
invariant-templates g l =
    map fault_of l.faults.items
    ≡ faults_of_parts (g.E.UserParts.registered l.entries)
    ++ flat_map (faults_of_template (g.E.UserParts.registered l.entries)) (map template_of (take l.named-index l.named-items))
