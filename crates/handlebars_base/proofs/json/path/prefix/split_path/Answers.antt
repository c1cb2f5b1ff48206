use Rattle.std.proofs.Common.{sym}
use Rattle.handlebars_base.proofs.PathPrefixes.{path_token_at-none, is_left, shape_at-no_start}
use Rattle.handlebars_base.proofs.json.path.prefix.split_path.Goals as goal

pub returns-in_err-start : goal.returns-in_err-start
returns-in_err-start c = rw (c.from_residual.ensures) (sym (path_token_at-none c.args.text.now (shape_at-no_start c.args.text.now (sym c.in_err-start.ensures))))

pub token_before-requires : goal.token_before-requires
token_before-requires c = is_left c.args.text.now _ _ _ (sym c.in_ok-start.ensures) c.after_start.ensures
