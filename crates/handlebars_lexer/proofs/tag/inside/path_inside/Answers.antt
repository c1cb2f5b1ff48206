use Rattle.handlebars_lexer.specs.KindView.{kind_of}
use Rattle.handlebars_lexer.proofs.PathsRead.{path_read}
use Rattle.handlebars_lexer.proofs.tag.inside.path_inside.Goals as goal

pub returns-clause-reads : goal.returns-clause-reads
returns-clause-reads c text is name =
    path_read (kind_of c.args.kind) (record { raw = c.args.path.raw; is_name = c.args.path.is_name; is_escaped = c.is_escaped_kind.result }) text c.args.path.rest.now c.closed.result c.requires c.is_escaped_kind.ensures (record { is = is; name = name }) c.closed.ensures
