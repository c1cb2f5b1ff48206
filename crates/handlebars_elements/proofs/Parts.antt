-- The body and the inverse of a call, as the code has them.
use Rattle.std.proofs.Common.{◌≡◌, Option, None, Some, option_map, sym, ap, ◌∙◌}
use denote.Ref.{Bor}
use Rattle.handlebars_template.specs.Tree.{call_body, call_inverse}
use Rattle.handlebars_template.specs.TreeView.{body_view, call_view}
use Rattle.handlebars_template.specs.declared.template.tree.HelperTemplate.{HelperTemplate, out-HelperTemplate}
use Rattle.handlebars_template.specs.declared.template.tree.Template.{Template}
use Rattle.handlebars_template.proofs.Levels.{call_body-view, call_inverse-view}
use Rattle.handlebars_elements.specs.Left.{part_view}

pub body-seen : (h : HelperTemplate) (o : Option (Bor Template)) → option_map (λ b. b.now) o ≡ (out-HelperTemplate h).template
    → part_view o ≡ call_body (call_view h)
body-seen h None is = ap body_view is ∙ sym (call_body-view h)
body-seen h (Some t) is = ap body_view is ∙ sym (call_body-view h)

pub inverse-seen : (h : HelperTemplate) (o : Option (Bor Template)) → option_map (λ b. b.now) o ≡ (out-HelperTemplate h).inverse
    → part_view o ≡ call_inverse (call_view h)
inverse-seen h None is = ap body_view is ∙ sym (call_inverse-view h)
inverse-seen h (Some t) is = ap body_view is ∙ sym (call_inverse-view h)
