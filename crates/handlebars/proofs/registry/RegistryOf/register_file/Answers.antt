use Rattle.std.proofs.Common.{option_map, refl, sym, ap, ◌∙◌}
use Rattle.std.specs.Prelude.{is_some, string_bytes}
use Rattle.std.specs.Str.{bytes_eq}
use Rattle.std.proofs.lemmas.Result.{err_from_is_err_and}
use Rattle.handlebars_template.specs.TreeView.{tree_view}
use Rattle.handlebars.specs.Files.{is_dev, source_path, remembered_path}
use Rattle.handlebars.specs.View.{stored_tree}
use Rattle.handlebars.proofs.Loaded.{cond-same, put-overlaid, path_put-overlaid}
use Rattle.handlebars.proofs.TakenBack.{taken-back}
use Rattle.handlebars.proofs.registry.RegistryOf.register_file.Goals as goal

pub returns-in_err-before-clause-unchanged : goal.returns-in_err-before-clause-unchanged
returns-in_err-before-clause-unchanged g c =
    let p = err_from_is_err_and c.from_residual.result c.from_residual.ensures.1 in
    rw p.1 (record {
      trees = λ n. refl;
      files = λ n. c.in_err-before.ensures.err n ∙ sym (cond-same (is_dev c.args.self.now) (remembered_path c.args.self.now n));
      entries = refl;
      modes = refl;
      dev = c.in_err-before.ensures.on;
    })

pub returns-in-Ok-clause-ok : goal.returns-in-Ok-clause-ok
returns-in-Ok-clause-ok g c = record {
  trees = λ n. c.in-Ok.ensures.ok n ∙ put-overlaid (bytes_eq c.args.name.now n) (tree_view c.args.template) (stored_tree c.args.self.now n);
  files = λ n. ap (λ d. source_path d.paths n) c.in-Ok.ensures.dev ∙ c.in_ok-before.ensures.ok n
      ∙ path_put-overlaid (is_dev c.args.self.now)
      (record { name = c.args.name.now; path = c.args.path.now; tree = tree_view c.args.template }) (remembered_path c.args.self.now) n;
  entries = c.in-Ok.ensures.entries;
  modes = c.in-Ok.ensures.modes;
  dev = ap (λ d. is_some d.paths) c.in-Ok.ensures.dev ∙ c.in_ok-before.ensures.on;
}

pub returns-in-Err-clause-unchanged : goal.returns-in-Err-clause-unchanged
returns-in-Err-clause-unchanged g c = record {
  trees = λ n. c.in-Err.ensures.unchanged n;
  files = λ n. taken-back c.args.self.now.dev.paths c.remember.new.self.paths c.register_template.new.self.dev.paths
      c.take_back.new.self.paths c.args.name.now c.args.path.now n (option_map string_bytes c.in_ok-before.before)
      (ap (λ d. d.paths) c.in-Err.ensures.dev) c.in_ok-before.ensures.on c.in_ok-before.ensures.before c.in_ok-before.ensures.ok
      c.take_back.ensures.back
      ∙ sym (cond-same (is_dev c.args.self.now) (remembered_path c.args.self.now n));
  entries = c.in-Err.ensures.entries;
  modes = c.in-Err.ensures.modes;
  dev = c.take_back.ensures.on ∙ ap (λ d. is_some d.paths) c.in-Err.ensures.dev ∙ c.in_ok-before.ensures.on;
}
