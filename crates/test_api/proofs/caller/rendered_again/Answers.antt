use Rattle.std.proofs.Common.{[], ◌∙◌, sym, ap}
use Rattle.handlebars_semantics.specs.Pieces.{join}
use Rattle.handlebars.proofs.WithoutFiles.{without-files}
use Rattle.test_api.proofs.Texts.{same_text-merely}
use Rattle.test_api.proofs.caller.rendered_again.Goals as goal

pub returns : goal.returns
returns g c =
    let a = without-files _ (λ s t path text h. h.0) _ c.in_ok-first.ensures.ok in
    let b = without-files _ (λ s t path text h. h.0) _ c.in_ok-second.ensures.ok in
    same_text-merely _ _ ((c.in_ok-second.ensures.laws _ []).one b.pieces a.pieces _ _ b.answers a.answers (λ stops. stops) (λ stops. stops))
    (λ same. b.is ∙ ap join same.0 ∙ sym a.is)
