-- A run over the frames from outside.
use Rattle.std.specs.Prelude.{◌≡◌, List, [], map, None, unwrap_or}
use denote.Ref.{Bor}
use Rattle.serde_json.specs.Data.{Data}
use Rattle.handlebars_base.specs.Answers.{Answer}
use Rattle.handlebars_base.specs.Bytes.{Text}
use Rattle.handlebars_base.specs.Path.{Reference}
use Rattle.handlebars_base.specs.PathAndData.{PathAndData, path_and_data}
use Rattle.handlebars_base.specs.Scoped.{Found, data_in}
use Rattle.handlebars_base.specs.declared.json.value.path_and_json.PathAndJson.{PathAndJson}
use Rattle.handlebars_scope.specs.Contexts.{data_of}
use Rattle.handlebars_scope.specs.Resolve.{resolve}
use Rattle.handlebars_scope.specs.ScopeView.{frames_of}
use Rattle.handlebars_scope.specs.declared.block.BlockContext.{BlockContext}
use Rattle.handlebars_helpers.specs.CallView.{CallView}
use Rattle.handlebars_semantics.specs.Inclusion.{hash_data}
use Rattle.handlebars_semantics.specs.Occurrences.{Around, TreeOccurrence, around}
use Rattle.handlebars_semantics.specs.State.{Parts, Setting, State}
use Rattle.handlebars_semantics.specs.Values.{as_read}
use Rattle.handlebars_layers.specs.Chain.{outside}
use Rattle.handlebars_layers.specs.LayerView.{chain_of}
use Rattle.handlebars_layers.specs.declared.innermost.Innermost.{Innermost}
use Rattle.handlebars_expand.specs.PiecesView.{template_seen}
use Rattle.handlebars_expand.specs.declared.pieces.TemplateReference.TheVariants.{First}
use Rattle.handlebars_values.specs.View.{Within, within}
use Rattle.handlebars_values.specs.declared.environment.Inclusion.{Inclusion}
use Rattle.handlebars_values.specs.declared.environment.Environment as declared
use Rattle.handlebars_write.specs.LocationView.{indexes_of}
use Rattle.handlebars_write.specs.declared.location.IterationsAround.{IterationsAround}
use Rattle.handlebars_context.specs.View.{has_failed, root_of, state_of}
use Rattle.handlebars_context.specs.declared.context.RenderContext.{RenderContext}
use Rattle.handlebars_elements.specs.View.{around_in}

-- the setting of a run over these data, with what is registered
abbrev pub over : Parts → Data → Setting
over parts d = record { given = d; parts = parts }

-- what is around the first tree of a run
abbrev pub around_first : Around
around_first = record { template = template_seen First; iterations = [] }

-- The tree is the first one of a run, with no iteration around it.
abbrev pub IsFirst : TreeOccurrence → Type 0
IsFirst at = around at ≡ around_first

-- what holds outside of every inclusion, over these frames from outside
abbrev pub within_none : List BlockContext → Within
within_none blocks = record { captured = None; inclusions = 0; indent = None; layers = outside (frames_of blocks) }

-- These are the layers of a run over these data and frames from outside that has entered none, with no iterations around it.
pub record IsOutside (blocks : List BlockContext) (d : Data) (x : Innermost) (around_it : IterationsAround) : Type 0 where
  pub given : data_of x.given.now ≡ d
  pub nearest : chain_of x.nearest.now ≡ outside (frames_of blocks)
  pub iterations : indexes_of around_it ≡ []

-- what is constant outside of every inclusion, with these registered parts
pub record IsNoInclusion {P : Type 0} (registered : P) (x : Inclusion P) : Type 0 where
  pub parts : x.parts.now ≡ registered
  pub captured : x.captured ≡ None
  pub inclusions : x.inclusions ≡ 0
  pub indent : x.placement.indent ≡ None
  pub template : x.placement.template ≡ First

-- The environment is one outside of every inclusion, over these parts, data and frames from outside.
pub record IsOutermost {P : Type 0} (x : declared.Environment P) (registered : P) (d : Data) (blocks : List BlockContext) : Type 0 where
  pub parts : x.inclusion.now.parts.now ≡ registered
  pub given : data_of x.innermost.given.now ≡ d
  pub within : within x ≡ within_none blocks
  pub around : around_in x ≡ around_first

-- what a path leads to, as it is read in a state over these given data
abbrev pub read_over : Data → State → Reference → Answer Found
read_over d s r = as_read s.changed (resolve s.recursive s.blocks r (unwrap_or s.changed d))

-- ---- contexts

-- Two contexts have the same state and the same name of the first template, and both have failed or none has.
pub record HasSameState (before after : RenderContext) : Type 0 where
  pub state : state_of after ≡ state_of before
  pub root : root_of after ≡ root_of before
  pub failed : has_failed after ≡ has_failed before

-- ---- the call of a tag, as its caller views it

abbrev pub passed_seen : List (Bor Text × PathAndJson) → List (Text × PathAndData)
passed_seen hs = map (λ h. (h.0.now, path_and_data h.1)) hs

-- The calls have one name, and the values of their parameters and hash arguments are the same data, whatever texts and paths they
-- have.
pub record HasSameData (v w : CallView) : Type 0 where
  pub name : v.name ≡ w.name
  pub params : map (λ p. data_in p.found) v.params ≡ map (λ p. data_in p.found) w.params
  pub hash : hash_data v.hash ≡ hash_data w.hash
