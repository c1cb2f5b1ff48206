-- What the program's open blocks stand for.
use Rattle.std.specs.Prelude.{◌≡◌, List, [], ◌∷◌, map, reverse, Option, None, Some, option_map}
use Rattle.std.specs.Option.{option_or}
use Rattle.handlebars_template.specs.Position.{Position}
use Rattle.handlebars_template.specs.Tree.{name, Binding, no_binding, single, both}
use Rattle.handlebars_template.specs.TreeView.{text, position_of, element_view, param_view, arguments_view}
use Rattle.handlebars_template.specs.Nest.{BlockKind, helper_opening, raw_opening, decorator_opening, partial_opening, Opening, SourcePiece, NestingError, unexpected, too_deep, mismatched, no_value, PositionedElement, Branch}
use Rattle.handlebars_template.specs.Machine.{Stage, in_first, in_branch, in_inverse, BlockSoFar, open_in, goes, after_piece, early_in, late_in}
use Rattle.handlebars_template.specs.declared.template.tree.TemplateMapping.{TemplateMapping}
use Rattle.handlebars_template.specs.declared.template.tree.TemplateElement.{TemplateElement}
use Rattle.handlebars_template.specs.declared.template.positioned.PositionedElements.{PositionedElements}
use Rattle.handlebars_template.specs.declared.template.chain.BlockNames.{BlockNames}
use Rattle.handlebars_template.specs.declared.template.chain.BlockNames.TheVariants as names
use Rattle.handlebars_template.specs.declared.template.chain.BlockKind.{BlockKind as BuiltKind}
use Rattle.handlebars_template.specs.declared.template.chain.BlockKind.TheVariants as kind
use Rattle.handlebars_template.specs.declared.template.chain.BlockOpening.{BlockOpening}
use Rattle.handlebars_template.specs.declared.template.chain.Branch.{Branch as BuiltBranch}
use Rattle.handlebars_template.specs.declared.template.chain.Stage.{Stage as BuiltStage}
use Rattle.handlebars_template.specs.declared.template.chain.Stage.TheVariants as stage
use Rattle.handlebars_template.specs.declared.template.nest.OpenBlock.{OpenBlock as BuiltBlock}
use Rattle.handlebars_template.specs.declared.template.nest.SyntaxError.{SyntaxError}
use Rattle.handlebars_template.specs.declared.template.nest.SyntaxError.TheVariants as syntax
use Rattle.handlebars_template.specs.declared.template.nest.Late.{Late}
use Rattle.handlebars_template.specs.declared.template.nest.Late.TheVariants as late
use Rattle.handlebars_template.specs.declared.template.nest.Nesting.{Nesting}

-- each element with its position
abbrev pub paired : List TemplateElement → List TemplateMapping → List PositionedElement
paired [] ms = []
paired (e ∷ es) [] = []
paired (e ∷ es) (m ∷ ms) = record { position = position_of m; element = element_view e } ∷ paired es ms

abbrev pub positioned_view : PositionedElements → List PositionedElement
positioned_view b = paired b.elements.items b.mapping.items

abbrev pub names_view : BlockNames → Binding
names_view names.Unbound = no_binding
names_view (names.Bound x) = single (name (text x))
names_view (names.BothBound x y) = both (name (text x)) (name (text y))

abbrev pub kind_view : BuiltKind → BlockKind
kind_view kind.Helper = helper_opening
kind_view kind.Raw = raw_opening
kind_view kind.Decorator = decorator_opening
kind_view kind.Partial = partial_opening

abbrev pub opening_view : BlockOpening → Opening
opening_view o = record {
  kind = kind_view o.kind;
  name = param_view o.name;
  closing = text o.closing;
  arguments = arguments_view o.arguments;
  binding = names_view o.names;
  indent = o.indent_before_write;
}

abbrev pub branch_view : BuiltBranch → Branch
branch_view b = record { opening = opening_view b.opening; elements = positioned_view b.elements }

abbrev pub stage_view : BuiltStage → Stage
stage_view stage.First = in_first
stage_view (stage.Chained o) = in_branch (opening_view o)
stage_view stage.Inverse = in_inverse

abbrev pub open_block_view : BuiltBlock → BlockSoFar
open_block_view b = record {
  position = position_of b.position;
  opening = opening_view b.opening;
  around = b.around;
  first = positioned_view b.first;
  branches = map branch_view b.branches.items;
  stage = stage_view b.stage;
  outside = positioned_view b.outside;
}

-- the innermost first
abbrev pub stack_view : List BuiltBlock → List BlockSoFar
stack_view bs = reverse (map open_block_view bs)

abbrev pub late_nesting_error : Late → NestingError
late_nesting_error (late.NoValue raw) = no_value (text raw)
late_nesting_error (late.Mismatched k opened closing p) = mismatched (kind_view k) (text opened) (text closing) (position_of p)

abbrev pub late_view : Option Late → Option NestingError
late_view None = None
late_view (Some l) = Some (late_nesting_error l)

abbrev pub open_blocks : Nesting → List BlockSoFar
open_blocks state = stack_view state.stack.items

abbrev pub late_of : Nesting → Option NestingError
late_of state = late_view state.late

-- why the syntax rejects a piece, if it does
abbrev pub early : Nesting → SourcePiece → Option NestingError
early state x = early_in state.depth (open_in (open_blocks state)) x

abbrev pub nesting_error : Position → SyntaxError → NestingError
nesting_error p syntax.Unexpected = unexpected p
nesting_error p syntax.TooDeep = too_deep p

-- what the check of a piece at this position returns, before the piece is added
abbrev pub Looks : Position → Option NestingError → Option SyntaxError → Type 0
Looks p error seen = option_map (nesting_error p) seen ≡ error

-- the state after a piece
pub record IsAfter (old : Nesting) (x : SourcePiece) (new : Nesting) : Type 0 where
  pub goes_on : after_piece x old.depth (open_blocks old) (positioned_view old.elements)
      ≡ goes new.depth (open_blocks new) (positioned_view new.elements)
  pub late : late_of new ≡ option_or (late_of old) (late_in (open_in (open_blocks old)) x)

-- If the piece is allowed, the new state is the one after it.
abbrev pub AppliesPiece : Nesting → SourcePiece → Nesting → Type 0
AppliesPiece old x new = early old x ≡ None → IsAfter old x new
