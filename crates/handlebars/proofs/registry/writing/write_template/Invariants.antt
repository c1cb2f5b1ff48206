use Rattle.handlebars.proofs.registry.writing.write_template.Given as goal

-- the writer is identified by its name, and by what it reports at first
abbrev pub ghosts-render_named : goal.ghosts-render_named
ghosts-render_named g a = record { name = a.out.writer.ghost_name; first = g.W.Write.contents a.out.writer.now }
