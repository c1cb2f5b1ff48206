use Rattle.std.proofs.lemmas.Str.Pattern.{ends_text}
use Rattle.handlebars_data.proofs.format.ends_with.Goals as goal

pub returns : goal.returns
returns c = ends_text _ c.args.end.now c.args.text.now c.ends_with.ensures.cases
