use Rattle.std.proofs.Common.{rules, inl, sym, subst}
use Rattle.handlebars_base.specs.Bytes.{Text}
use Rattle.hb.specs.Checks.{IsSamePath}
use Rattle.hb.proofs.NamedPages.{page-among}
use Rattle.hb.proofs.gathering.Gathered.name_at.Goals as goal

pub returns-then-is_same_path : goal.returns-then-is_same_path
returns-then-is_same_path c =
    page-among c.args.self.now.files.items c.files.file-index c.file-item.result _ c.args.path.now
    (search rules) (search rules) (sym c.as_str-then-is_same_path.ensures.value)
    (inl (subst (λ (z : Text). IsSamePath z c.args.path.now) c.as_str.ensures.value (c.is_same_path.ensures c.if-is_same_path.true)))
