use Rattle.std.proofs.Common.{rules, inr}
use Rattle.hb.proofs.NamedPages.{files-behind, page-behind}
use Rattle.hb.proofs.gathering.Gathered.read_page.Goals as goal

pub returns-clause-files : goal.returns-clause-files
returns-clause-files g c = files-behind c.args.self.now.files.items c.push.new.self.items _ c.in_ok-push.ensures.items

pub returns-clause-page : goal.returns-clause-page
returns-clause-page g c =
    page-behind c.args.self.now.files.items c.push.new.self.items _ _ c.args.path.now c.in_ok-push.ensures.items
    (search rules) (inr (search rules))
