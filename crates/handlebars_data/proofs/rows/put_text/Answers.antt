use Rattle.std.proofs.lemmas.Result.{on_ok_weaker}
use Rattle.serde_json.specs.Data.{string}
use Rattle.handlebars_data.proofs.Puts.{written_over}
use Rattle.handlebars_data.proofs.rows.put_text.Goals as goal

pub returns-in-Some : goal.returns-in-Some
returns-in-Some c =
    on_ok_weaker _ (λ made. written_over c.args.key.now c.args.members.now.entries _ c.in-Some.value.now c.write_text.new.value (string c.args.text.now)
    c.in-Some.ensures.ordered c.in-Some.ensures.value made (c.get_mut.follows.holds c.write_text.new.value).0) c.write_text.ensures
