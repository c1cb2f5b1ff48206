use Rattle.std.proofs.Common.{map, option_map}
use Rattle.handlebars.specs.Dev.{others}
use Rattle.handlebars.specs.Files.{file_of}
use Rattle.handlebars.specs.View.{modes_of}
use Rattle.handlebars.proofs.ReadFiles.{HasReadSome}
use Rattle.handlebars.proofs.registry.RegistryOf.read_all_but.Given as goal

abbrev pub invariant-paths : goal.invariant-paths
invariant-paths g l = HasReadSome g.R.TemplateReader.reads (modes_of l.self).prevent_indent
    (others (option_map (λ s. s.now) l.asked) (map file_of l.paths.entries))
    (others (option_map (λ s. s.now) l.asked) (map file_of l.name-iterator)) l.fn.files l.files l.fn.trees l.trees
