use Rattle.handlebars_base.proofs.EscapedBytes.{escaped-append}
use Rattle.handlebars_base.proofs.EscapeLaws.{escaped_is_injective, escaped_is_unmarked, escaped_begins_entities}
use Rattle.handlebars_base.proofs.laws.escape_laws.Goals as goal

pub returns : goal.returns
returns c = record { joins = escaped-append; injective = escaped_is_injective; unmarked = escaped_is_unmarked; entities = escaped_begins_entities }
