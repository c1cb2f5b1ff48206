use Rattle.std.proofs.Common.{[], ◌∙◌, sym, ap}
use Rattle.handlebars_base.specs.EscapeLaws.{marks_in}
use Rattle.handlebars_scope.specs.Contexts.{data_of}
use Rattle.handlebars.proofs.WithoutFiles.{without-files}
use Rattle.test_api.proofs.Texts.{same_text-merely}
use Rattle.test_api.proofs.strangers.rendered_alike.Goals as goal

pub returns : goal.returns
returns g c alike =
    let fixed = without-files _ (λ s t path text h. h.0) _ c.in_ok-template_markup_is_fixed.ensures.ok in
    let blind = rw c.in-Fixed.is at fixed in
    let a = without-files _ (λ s t path text h. h.0) _ c.in_ok-text.ensures.ok in
    let b = without-files _ (λ s t path text h. h.0) _ c.in_ok-with_other.ensures.ok in
    same_text-merely _ _ ((c.in_ok-text.ensures.laws (data_of c.args.one.now) []).agree blind.registered blind.source (data_of c.args.other.now) alike a.pieces b.pieces
    _ _ a.answers b.answers (λ stops. stops) (λ stops. stops))
    (λ same. ap marks_in a.is ∙ same.0.marks ∙ sym (ap marks_in b.is))
