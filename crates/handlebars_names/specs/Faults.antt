-- What the check of names finds.
use Rattle.std.specs.Prelude.{ℕ, List, Option, map, option_map}
use Rattle.handlebars_base.specs.Bytes.{Text}
use Rattle.handlebars_template.specs.Position.{Position}
use Rattle.handlebars_names.specs.Scopes.{Scope}

-- Why a name isn't known:
-- - a call has no helper, and there is no hook, and it is no section and no expression without arguments;
-- - a built-in helper needs this many parameters, and has fewer;
-- - a name is made when the template is rendered;
-- - a tag has no decorator, or a user-defined one, which may change what names stand for;
-- - the name of an inline partial isn't written as a text;
-- - an inline partial has no body;
-- - a partial isn't registered, may not be set where it is included, and its tag has no block; or a page isn't registered;
-- - a template includes itself;
-- - `@partial-block` stands where no block may have been captured, and its tag has none;
-- - a body has a name of its own, as only a hand-built template has.
pub data Why : Type 0 where
  missing_helper : Text → Why
  missing_params : Text → ℕ → Why
  made_name : Why
  other_decorator : Text → Why
  unnamed_inline : Why
  empty_inline : Text → Why
  missing_partial : Text → Why
  includes_itself : Text → Why
  missing_block : Why
  named_body : Text → Why

-- in the template of this name, if it has one, at which line and column, if they are known; and why
pub record Fault : Type 0 where
  pub template_name : Option Text
  pub line : Option ℕ
  pub column : Option ℕ
  pub why : Why

-- A fault; or a name is included where this is known.
pub data Finding : Type 0 where
  fault : Fault → Finding
  includes : Text → Scope → Finding

abbrev pub faults_at : Option Text → Option Position → List Why → List Finding
faults_at t p whys = map (λ w. fault (record {
  template_name = t;
  line = option_map (λ (q : Position). q.line) p;
  column = option_map (λ (q : Position). q.column) p;
  why = w;
})) whys
