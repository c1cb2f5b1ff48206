use Rattle.std.proofs.Common.{sym}
use Rattle.handlebars_base.proofs.PathPrefixes.{path_at-none, is_left, shape_at-no_start, path_at-start}
use Rattle.handlebars_base.proofs.json.path.prefix.read_prefix.Goals as goal

pub returns-in_default : goal.returns-in_default
returns-in_default c = sym (path_at-none c.args.text.now (shape_at-no_start c.args.text.now (sym c.in_default.ensures)))

pub token_before-requires : goal.token_before-requires
token_before-requires c = is_left c.args.text.now _ _ _ (sym c.in-Some.ensures) c.in_ok-segs.ensures.rest

pub returns : goal.returns
returns c =
    rw (c.in_ok-path.ensures, c.in_ok-segs.ensures.segments)
    (sym (path_at-start c.args.text.now _ _ _ _ (sym c.in-Some.ensures) (sym c.in-Some-token_before.ensures)))
