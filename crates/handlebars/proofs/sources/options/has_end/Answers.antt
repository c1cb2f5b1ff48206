use Rattle.std.proofs.lemmas.Str.Pattern.{ends_text}
use Rattle.handlebars.proofs.sources.options.has_end.Goals as goal

pub returns : goal.returns
returns c = ends_text _ _ _ c.ends_with.ensures.cases
