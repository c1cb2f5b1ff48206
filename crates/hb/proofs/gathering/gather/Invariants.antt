use Rattle.std.proofs.Common.{◌≡◌, List, [], ◌++◌, drop, map}
use Rattle.std.specs.List.{AllZip}
use Rattle.handlebars_base.specs.Bytes.{Text}
use Rattle.hb.specs.Checks.{IsPageAt, files_of, pages_of}
use Rattle.hb.proofs.gathering.gather.Given as goal

abbrev pub invariant-folders : goal.invariant-folders
invariant-folders g l = pages_of l.gathered ≡ []

-- The pages are those of the arguments so far.
abbrev pub invariant-templates : goal.invariant-templates
invariant-templates g l = (done : List Text)
    × (done ++ map (λ t. t.now) (drop l.path-index l.templates) ≡ map (λ t. t.now) l.templates)
    × AllZip (IsPageAt (files_of l.gathered)) (pages_of l.gathered) done
