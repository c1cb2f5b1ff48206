use Rattle.std.proofs.Common.{ap, refl, sym, ◌∙◌}
use Rattle.handlebars_expand.specs.PiecesView.{kind_seen}
use Rattle.handlebars_write.specs.LocationView.{provenance_in}
use Rattle.handlebars_write.proofs.each_piece.put_within.Goals as goal

pub returns-clause-puts : goal.returns-clause-puts
returns-clause-puts g c = λ known o is s indent same.
    c.put_from.ensures.puts o (is refl ∙ sym (c.origin-origin.ensures known
    ∙ ap (provenance_in c.args.at (kind_seen c.args.kind)) c.path-full_path.ensures)) s indent same
