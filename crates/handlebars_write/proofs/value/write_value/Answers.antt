use Rattle.serde_json.specs.View.{view}
use Rattle.handlebars_base.specs.Values.{rendered}
use Rattle.handlebars_write.specs.Shows.{value_origin}
use Rattle.handlebars_write.proofs.Shows.{user_asked, value-provenance, value_known}
use Rattle.handlebars_write.proofs.value.write_value.Goals as goal

pub returns-in-Some-clause-shows : goal.returns-in-Some-clause-shows
returns-in-Some-clause-shows g c = λ occurrence location found is path given s indent same on.
    value_known _ _ occurrence found c.in-Some.entities c.args.escapes (rendered (view c.args.value.now))
    (rw c.escape.ensures at c.in-Some.ensures) is on
    (c.put_value.ensures.puts (value_origin occurrence found c.args.escapes)
    (λ asks. value-provenance occurrence found c.args.escapes (location asks) (path asks)) s indent same)

pub returns-in-None-clause-shows : goal.returns-in-None-clause-shows
returns-in-None-clause-shows g c =
    let asked = user_asked (g.P.Registered.parts c.args.parts.now).escape c.args.escapes (rw c.escape.ensures at c.in-None.ensures) in
    rw asked.1 (c.show_by_user.ensures.shows asked.0)
