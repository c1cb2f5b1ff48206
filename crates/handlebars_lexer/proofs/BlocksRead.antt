-- The tags that the expressions of blocks make.
use Rattle.std.proofs.Common.{◌≡◌, ◌∙◌, None, refl}
use Rattle.handlebars_base.specs.Bytes.{Text, after_white, is_white}
use Rattle.handlebars_base.specs.Texts.{starts}
use Rattle.std.proofs.Common.{true}
use Rattle.handlebars_expressions.specs.Binding.{unbound}
use Rattle.handlebars_expressions.specs.Expression.{identifier_name, opening_name}
use Rattle.handlebars_expressions.specs.BindingView.{bound_names_of}
use Rattle.handlebars_lexer.specs.Kind.{block_kind, else_kind, raw_kind, decorator_kind, decorator_block_kind, closing_of}
use Rattle.handlebars_lexer.specs.Tag.{block_tag, chain_tag, raw_tag, decorator_tag, decorator_block_tag, a_block, a_chain, a_raw_block, a_decorator, a_decorator_block}
use Rattle.handlebars_lexer.specs.declared.tag.inside.BlockRead.{BlockRead}
use Rattle.handlebars_lexer.specs.declared.tag.inside.Content.TheVariants.{Block, Chain, RawBlock, Decorator, DecoratorBlock}
use Rattle.handlebars_lexer.proofs.Insides.{only_block, only_raw, only_chain, only_decorator, only_decorator_block}
use Rattle.handlebars_lexer.proofs.InsidesRead.{Blocks}

pub blocks : (t : Text) (read : BlockRead) → Blocks block_kind opening_name block_tag t t (Block read.token) read
blocks t read = record { only = only_block t; deep = λ expression. refl; says = λ expression rest is binds. a_block is; holds = λ tag holds. holds }

pub raw_blocks : (t : Text) (read : BlockRead) → Blocks raw_kind identifier_name raw_tag t t (RawBlock read.token) read
raw_blocks t read = record { only = only_raw t; deep = λ expression. refl; says = λ expression rest is binds. a_raw_block is; holds = λ tag holds. holds }

pub chain_blocks : (t : Text) (read : BlockRead) → closing_of else_kind t ≡ None → starts is_white t ≡ true → Blocks else_kind identifier_name chain_tag (after_white t) t (Chain read.token) read
chain_blocks t read none white = record { only = only_chain t none; deep = λ expression. refl; says = λ expression rest is binds. a_chain white is; holds = λ tag holds. holds }

pub decorators : (t : Text) (read : BlockRead) → bound_names_of read.token.binding ≡ unbound → Blocks decorator_kind identifier_name decorator_tag t t (Decorator read.token) read
decorators t read none = record { only = only_decorator t; deep = λ expression. refl; says = λ expression rest is binds. a_decorator (record { is_expression = is; binds_none = binds ∙ none }); holds = λ tag holds. holds }

pub decorator_blocks : (t : Text) (read : BlockRead) → bound_names_of read.token.binding ≡ unbound → Blocks decorator_block_kind identifier_name decorator_block_tag t t (DecoratorBlock read.token) read
decorator_blocks t read none = record { only = only_decorator_block t; deep = λ expression. refl; says = λ expression rest is binds. a_decorator_block (record { is_expression = is; binds_none = binds ∙ none }); holds = λ tag holds. holds }
