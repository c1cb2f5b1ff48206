use Rattle.std.proofs.lemmas.Result.{on_ok_weaker}
use Rattle.handlebars_expressions.specs.Expression.{value_name, close_name}
use Rattle.handlebars_lexer.specs.Tag.{escaped_tag, html_tag, block_tag, chain_tag, raw_tag, decorator_tag, decorator_block_tag, partial_tag, partial_block_tag}
use Rattle.handlebars_lexer.specs.TrimView.{control_view}
use Rattle.handlebars_template.specs.OptionsView.{options_view}
use Rattle.handlebars_template.specs.TreeView.{position_of}
use Rattle.handlebars_template.proofs.TagsBuilt.{AppliesPiece-expression, AppliesPiece-path, AppliesPiece-block}
use Rattle.handlebars_template.proofs.template.tags.take_tag.Goals as goal

pub returns-in-Expression : goal.returns-in-Expression
returns-in-Expression c = on_ok_weaker c.add_terms.result (λ does tag holds. AppliesPiece-expression (options_view c.args.options.now) c.args.nesting.now c.add_terms.new.nesting (position_of c.args.at) (control_view c.args.control) value_name escaped_tag _ tag (rw c.in-Expression.is at holds) does) c.add_terms.ensures

pub returns-in-Html : goal.returns-in-Html
returns-in-Html c = on_ok_weaker c.add_terms-in-Html.result (λ does tag holds. AppliesPiece-expression (options_view c.args.options.now) c.args.nesting.now c.add_terms-in-Html.new.nesting (position_of c.args.at) (control_view c.args.control) value_name html_tag _ tag (rw c.in-Html.is at holds) does) c.add_terms-in-Html.ensures

pub returns-in-Block : goal.returns-in-Block
returns-in-Block c = on_ok_weaker c.begin.result (λ does tag holds. AppliesPiece-block (options_view c.args.options.now) c.args.nesting.now c.begin.new.nesting (position_of c.args.at) (control_view c.args.control) block_tag _ tag (rw c.in-Block.is at holds) does) c.begin.ensures

pub returns-in-Chain : goal.returns-in-Chain
returns-in-Chain c = on_ok_weaker c.chain.result (λ does tag holds. AppliesPiece-block (options_view c.args.options.now) c.args.nesting.now c.chain.new.nesting (position_of c.args.at) (control_view c.args.control) chain_tag _ tag (rw c.in-Chain.is at holds) (does (options_view c.args.options.now))) c.chain.ensures

pub returns-in-RawBlock : goal.returns-in-RawBlock
returns-in-RawBlock c = on_ok_weaker c.begin-in-RawBlock.result (λ does tag holds. AppliesPiece-block (options_view c.args.options.now) c.args.nesting.now c.begin-in-RawBlock.new.nesting (position_of c.args.at) (control_view c.args.control) raw_tag _ tag (rw c.in-RawBlock.is at holds) does) c.begin-in-RawBlock.ensures

pub returns-in-Decorator : goal.returns-in-Decorator
returns-in-Decorator c = on_ok_weaker c.add_decorator.result (λ does tag holds. AppliesPiece-block (options_view c.args.options.now) c.args.nesting.now c.add_decorator.new.nesting (position_of c.args.at) (control_view c.args.control) decorator_tag _ tag (rw c.in-Decorator.is at holds) (does (options_view c.args.options.now))) c.add_decorator.ensures

pub returns-in-DecoratorBlock : goal.returns-in-DecoratorBlock
returns-in-DecoratorBlock c = on_ok_weaker c.begin-in-DecoratorBlock.result (λ does tag holds. AppliesPiece-block (options_view c.args.options.now) c.args.nesting.now c.begin-in-DecoratorBlock.new.nesting (position_of c.args.at) (control_view c.args.control) decorator_block_tag _ tag (rw c.in-DecoratorBlock.is at holds) does) c.begin-in-DecoratorBlock.ensures

pub returns-in-Partial : goal.returns-in-Partial
returns-in-Partial c = on_ok_weaker c.add_partial.result (λ does tag holds. AppliesPiece-expression (options_view c.args.options.now) c.args.nesting.now c.add_partial.new.nesting (position_of c.args.at) (control_view c.args.control) close_name partial_tag _ tag (rw c.in-Partial.is at holds) does) c.add_partial.ensures

pub returns-in-PartialBlock : goal.returns-in-PartialBlock
returns-in-PartialBlock c = on_ok_weaker c.begin_partial.result (λ does tag holds. AppliesPiece-expression (options_view c.args.options.now) c.args.nesting.now c.begin_partial.new.nesting (position_of c.args.at) (control_view c.args.control) close_name partial_block_tag _ tag (rw c.in-PartialBlock.is at holds) (does (options_view c.args.options.now))) c.begin_partial.ensures

pub add_path-requires : goal.add_path-requires
add_path-requires c = rw c.in-Path.is at c.requires

pub returns-in-Path : goal.returns-in-Path
returns-in-Path c = on_ok_weaker c.add_path.result (λ does tag holds. AppliesPiece-path (options_view c.args.options.now) c.args.nesting.now c.add_path.new.nesting (position_of c.args.at) (control_view c.args.control) c.in-Path.token tag (rw c.in-Path.is at holds) does) c.add_path.ensures
