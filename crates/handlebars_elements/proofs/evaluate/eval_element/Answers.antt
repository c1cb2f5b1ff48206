use Rattle.handlebars_template.proofs.Levels.{element_view-DecoratorBlock, element_view-DecoratorExpression}
use Rattle.handlebars_elements.proofs.evaluate.eval_element.Goals as goal

pub returns-in-DecoratorExpression-clause-does : goal.returns-in-DecoratorExpression-clause-does
returns-in-DecoratorExpression-clause-does g c = λ occurrence captured.
    rw (c.in-DecoratorExpression.is, element_view-DecoratorExpression c.in-DecoratorExpression.tag)
    (rw c.deref.ensures at (c.render_decorator.ensures.does captured))

pub returns-in-DecoratorBlock-clause-does : goal.returns-in-DecoratorBlock-clause-does
returns-in-DecoratorBlock-clause-does g c = λ occurrence captured.
    rw (c.in-DecoratorBlock.is, element_view-DecoratorBlock c.in-DecoratorBlock.tag)
    (rw c.deref-in-DecoratorBlock.ensures at (c.render_decorator-in-DecoratorBlock.ensures.does captured))
