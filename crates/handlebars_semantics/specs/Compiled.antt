-- Trees as compiling gives them, as far as that matters for the markup characters of html.
use Rattle.std.specs.Prelude.{◌≡◌, true, List, [], Some, unwrap_or}
use Rattle.std.specs.List.{list_all, Contains}
use Rattle.handlebars_base.specs.Answers.{gives}
use Rattle.handlebars_base.specs.Bytes.{Text}
use Rattle.handlebars_lexer.specs.Options.{Options}
use Rattle.handlebars_lexer.specs.Trim.{is_blank}
use Rattle.handlebars_template.specs.Compile.{Compiles, compiled}
use Rattle.handlebars_template.specs.Tree.{Tree, tree, Elements, no_elements, element, Element, raw_string, html_expression, escaped_expression, helper_block, decorator_expression, decorator_block, partial_expression, partial_block, comment, Call, call, call_bodies, Decorator, decorator, Bodies, bodies, Body, no_body, body}
use Rattle.handlebars_scope.specs.Scopes.{Frame}
use Rattle.handlebars_helpers.specs.UserHelper.{HelperQuestion, Step, renders_body_in, UserHelper}

-- a text of spaces and tabs alone
abbrev pub IsBlank : Text → Type 0
IsBlank t = list_all is_blank t ≡ true

-- An html expression has neither a body nor an inverse, and each indentation consists of spaces and tabs. The same holds in
-- bodies and inverses.
abbrev mutual
  pub IsAsCompiled : Tree → Type 0
  IsAsCompiled (tree n es positions) = AreAsCompiled es

  pub AreAsCompiled : Elements → Type 0
  AreAsCompiled no_elements = Unit {0}
  AreAsCompiled (element e es) = IsElementAsCompiled e × AreAsCompiled es

  pub IsElementAsCompiled : Element → Type 0
  IsElementAsCompiled (raw_string t) = Unit {0}
  IsElementAsCompiled (html_expression c) = call_bodies c ≡ bodies no_body no_body
  IsElementAsCompiled (escaped_expression c) = IsCallAsCompiled c
  IsElementAsCompiled (helper_block c) = IsCallAsCompiled c
  IsElementAsCompiled (decorator_expression t) = IsTagAsCompiled t
  IsElementAsCompiled (decorator_block t) = IsTagAsCompiled t
  IsElementAsCompiled (partial_expression t) = IsTagAsCompiled t
  IsElementAsCompiled (partial_block t) = IsTagAsCompiled t
  IsElementAsCompiled (comment t) = Unit {0}

  pub IsCallAsCompiled : Call → Type 0
  IsCallAsCompiled (call n xs b t marks) = AreBodiesAsCompiled t

  pub IsTagAsCompiled : Decorator → Type 0
  IsTagAsCompiled (decorator n xs b marks) = IsBodyAsCompiled b × IsBlank (unwrap_or marks.indent [])

  pub AreBodiesAsCompiled : Bodies → Type 0
  AreBodiesAsCompiled (bodies b i) = IsBodyAsCompiled b × IsBodyAsCompiled i

  pub IsBodyAsCompiled : Body → Type 0
  IsBodyAsCompiled no_body = Unit {0}
  IsBodyAsCompiled (body t) = IsAsCompiled t

-- Each tree that a source compiles to is so.
abbrev pub CompilesSo : Type 0
CompilesSo = (source : Text) (options : Options) (t : Tree) → Compiles source options (compiled t) → IsAsCompiled t

-- So are the local partials of each scope frame that a user-defined helper passes to its body.
abbrev pub PassesCompiled : UserHelper → Type 0
PassesCompiled user = (q : HelperQuestion) (steps : List Step) (f : Frame) → user.has_steps q (gives (Some steps))
    → Contains steps (renders_body_in f) → (n : Text) (t : Tree) → f.partial n ≡ Some t → IsAsCompiled t
