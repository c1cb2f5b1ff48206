use Rattle.std.proofs.Common.{◌≡◌, length}
use denote.Text.{Utf8}
use denote.Shadow.{shadow}
use Rattle.handlebars_base.specs.PathReading.{links_of}
use Rattle.handlebars_base.proofs.json.path.links.after_links.Given as goal

abbrev pub invariant-loop-found : goal.invariant-loop-found
invariant-loop-found l = shadow (Utf8 l.rest) × ((links_of l.before_up l.rest).1 ≡ (links_of l.up l.text).1)

abbrev pub decreases-loop-found : goal.decreases-loop-found
decreases-loop-found l = length l.rest
