use Rattle.std.proofs.Common.{◌∙◌, ap, Some, option_map}
use Rattle.serde_json.specs.View.{members_view, view}
use Rattle.serde_json.proofs.Views.{view-lookup}
use Rattle.handlebars_data.proofs.Puts.{none_taken, taken_from}
use Rattle.handlebars_data.proofs.merging.take_value.Goals as goal

pub returns-in-Some-clause-value : goal.returns-in-Some-clause-value
returns-in-Some-clause-value c =
    ap (λ v. Some (view v)) c.take.ensures.taken ∙ ap (option_map view) c.in-Some.ensures.value ∙ view-lookup c.args.key.now c.args.members.now.entries

pub returns-in-Some-clause-left : goal.returns-in-Some-clause-left
returns-in-Some-clause-left c =
    taken_from c.args.key.now c.args.members.now.entries _ c.in-Some.value.now c.take.new.self c.in-Some.ensures.ordered c.in-Some.ensures.value c.take.ensures.left
    (c.get_mut.follows.holds c.take.new.self).0

pub returns-in-None-clause-value : goal.returns-in-None-clause-value
returns-in-None-clause-value c =
    ap (option_map view) c.in-None.ensures.value ∙ view-lookup c.args.key.now c.args.members.now.entries

pub returns-in-None-clause-left : goal.returns-in-None-clause-left
returns-in-None-clause-left c =
    ap (λ m. members_view m.entries) c.get_mut.follows.holds-at-none ∙ none_taken c.args.key.now c.args.members.now.entries c.in-None.ensures.value
