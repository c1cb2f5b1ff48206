use Rattle.std.proofs.Common.{ap, rules, ◌+◌, ◌∙◌}
use Rattle.hb_build.proofs.FirstPass.{IsBegun-push}
use Rattle.hb_build.proofs.NamesOf.{length-names_of-push}
use Rattle.hb_build.proofs.first.collect_names.Goals as goal

pub loop-item-preserved : goal.loop-item-preserved
loop-item-preserved g c =
    let xs = c.loop-item.names.items in
    let x = c.in_ok-current_name.field-0 in
    rw c.in_ok-push.ensures.items (record {
      begun = IsBegun-push g.P.Pages c.args.pages.now c.loop-item.pages c.advance.new.pages xs x c.loop-item.invariant.begun
          (search rules) (search rules);
      number = length-names_of-push xs x ∙ ap (λ n. n + 1) c.loop-item.invariant.number;
    })
