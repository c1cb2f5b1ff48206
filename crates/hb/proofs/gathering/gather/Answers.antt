use Rattle.std.proofs.Common.{◌∷◌, ◌++◌, [], get_or}
use Rattle.hb.specs.Checks.{files_of, pages_of}
use Rattle.hb.proofs.NamedPages.{pages-more, read-more}
use Rattle.hb.proofs.gathering.gather.Goals as goal

pub templates-preserved : goal.templates-preserved
templates-preserved g c =
    let before = c.templates.invariant in
    let files = c.in_ok-add_page.ensures.files in
    let page = c.in_ok-add_page.ensures.page in
    let path = (get_or c.args.templates.now c.templates.path-index (record { ref_ptr = (0, 0); now = [] })).now in (
      before.0 ++ path ∷ [],
      read-more before.0 c.args.templates.now c.templates.path-index _ c.templates-test.true before.1,
      pages-more (files_of c.templates.gathered) (files_of c.add_page.new.self) files.0 (pages_of c.templates.gathered)
          (pages_of c.add_page.new.self) before.0 page.0 path files.1 page.1 before.2 page.2,
    )
