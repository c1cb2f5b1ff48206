use Rattle.std.proofs.Common.{Some, cond, ap, ◌∙◌}
use Rattle.std.specs.Prelude.{string_bytes}
use Rattle.std.specs.Str.{bytes_eq}
use Rattle.handlebars.specs.Files.{source_path}
use Rattle.handlebars.proofs.Paths.{source_path-updates}
use Rattle.handlebars.proofs.registry.dev.put.Goals as goal

pub returns-clause-ok : goal.returns-clause-ok
returns-clause-ok c = λ other.
    source_path-updates (string_bytes c.in_ok-key.key) c.args.paths.now c.insert.new.self (Some c.in_ok-value.value) c.in_ok-insert.ensures.updates other
    ∙ ap (λ z. cond (bytes_eq z other) (Some (string_bytes c.in_ok-value.value)) (source_path (Some c.args.paths.now) other)) c.in_ok-key.ensures.ok
    ∙ ap (λ z. cond (bytes_eq c.args.name.now other) (Some z) (source_path (Some c.args.paths.now) other)) c.in_ok-value.ensures.ok
