-- The marks of tags, and their indentations.
use Rattle.std.proofs.Common.{◌≡◌, Option, None, Some, option_map, rules, sym, ap, ◌∙◌, String, Global, string_bytes}
use denote.Ref.{Bor}
use Rattle.handlebars_base.specs.Bytes.{Text}
use Rattle.handlebars_template.specs.Tree.{Body, DecoratorMarks, decorator_marks}
use Rattle.handlebars_template.specs.TreeView.{decorator_view}
use Rattle.handlebars_template.specs.declared.template.tree.BlockParam.{the_lemmas}
use Rattle.handlebars_template.specs.declared.template.tree.DecoratorTemplate.{DecoratorTemplate, out-DecoratorTemplate}
use Rattle.handlebars_helpers.specs.CallView.{CallView}
use Rattle.handlebars_helpers.specs.Decoration.{DecoratorView}

pub decorator_marks-view : (t : DecoratorTemplate) → decorator_marks (decorator_view t)
    ≡ record { indent = option_map string_bytes (out-DecoratorTemplate t).indent; indent_before_write = (out-DecoratorTemplate t).indent_before_write }
decorator_marks-view t = search (rules, the_lemmas)

-- the indentation of a tag, as it is borrowed
pub indent-seen : (t : DecoratorTemplate) (o : Option (Bor (String Global)))
    → option_map (λ s. s.now) o ≡ (out-DecoratorTemplate t).indent
    → option_map (λ s. string_bytes s.now) o ≡ (decorator_marks (decorator_view t)).indent
indent-seen t None is = ap (option_map string_bytes) is ∙ sym (ap (λ (m : DecoratorMarks). m.indent) (decorator_marks-view t))
indent-seen t (Some s) is = ap (option_map string_bytes) is ∙ sym (ap (λ (m : DecoratorMarks). m.indent) (decorator_marks-view t))

-- a view of a tag, by its parts
abbrev pub tag_of : CallView → Body → Option Text → DecoratorView
tag_of v b indent = record { call = v; body = b; indent = indent }
