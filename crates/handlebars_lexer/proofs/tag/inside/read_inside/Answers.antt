use Rattle.handlebars_lexer.proofs.tag.inside.read_inside.Goals as goal

pub path_inside-requires : goal.path_inside-requires
path_inside-requires c = rw c.in-Some.is at c.lone_path.ensures.kind

pub returns-in-Some-clause-reads : goal.returns-in-Some-clause-reads
returns-in-Some-clause-reads c =
    c.path_inside.ensures.reads c.args.begins.inside.now (rw c.in-Some.is at c.lone_path.ensures.alone) (rw c.in-Some.is at c.lone_path.ensures.name)
