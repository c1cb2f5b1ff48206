use Rattle.std.proofs.Common.{◌∙◌, ap, string_bytes}
use Rattle.std.proofs.lemmas.Result.{on_ok_weaker}
use Rattle.serde_json.specs.Find.{get_member}
use Rattle.serde_json.specs.View.{members_view, view}
use Rattle.handlebars_data.specs.Merge.{without_value}
use Rattle.handlebars_data.proofs.Puts.{put_over}
use Rattle.handlebars_data.proofs.merging.+merge.Goals as goal

pub merge_member-returns-in_ok-merge-in-Some : goal.merge_member-returns-in_ok-merge-in-Some
merge_member-returns-in_ok-merge-in-Some t c =
    let ms = members_view c.args.members.now.entries in
    on_ok_weaker c.put.result
    (put_over (string_bytes c.args.key) _ _ _ c.in-Some.earlier _ (view c.args.value) (c.in-Some.ensures.value ∙ ap (λ k. get_member k ms) c.as_str.ensures.value)
    (c.in-Some.ensures.left ∙ ap (λ k. without_value k ms) c.as_str.ensures.value) c.in_ok-merge-in-Some.ensures)
    c.put.ensures.ok
