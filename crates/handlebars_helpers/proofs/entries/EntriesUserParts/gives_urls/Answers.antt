use Rattle.std.proofs.Common.{sym}
use Rattle.handlebars_helpers.proofs.SafeUrls.{safe_url_helper-gives}
use Rattle.handlebars_helpers.proofs.entries.EntriesUserParts.gives_urls.Goals as goal

pub returns-in-Some-SafeUrl : goal.returns-in-Some-SafeUrl
returns-in-Some-SafeUrl g c = rw (sym c.get.ensures, c.in-Some-SafeUrl.is, c.in-Some-SafeUrl.field-0-is) safe_url_helper-gives
