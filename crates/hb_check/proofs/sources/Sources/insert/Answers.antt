use Rattle.std.proofs.Common.{Some, string_bytes}
use Rattle.std.proofs.lemmas.Map.Text.{btree_map_updates_text}
use Rattle.hb_check.proofs.sources.Sources.insert.Goals as goal

pub returns : goal.returns
returns c n =
    btree_map_updates_text (string_bytes c.args.name) c.args.self.now.by_name c.insert.new.self (Some c.args.source)
    c.in_ok-insert.ensures.updates n
