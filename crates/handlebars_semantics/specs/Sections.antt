-- Sections: blocks whose name has no helper, which act on the value of that name.
use Rattle.std.specs.Prelude.{Bool, true, false, [], ◌∷◌}
use Rattle.serde_json.specs.Data.{Data, null, boolean, number, string, array, object}
use Rattle.handlebars_base.specs.Answers.{Answer, gives, fails_for}
use Rattle.handlebars_base.specs.Bytes.{Text}
use Rattle.handlebars_base.specs.Path.{Reference, IsPath}
use Rattle.handlebars_base.specs.Reasons.{helper_not_found}
use Rattle.handlebars_base.specs.Scoped.{Found, data_in}
use Rattle.handlebars_template.specs.Tree.{Param, name, path, literal, subexpression}
use Rattle.handlebars_helpers.specs.CallView.{CallView}
use Rattle.handlebars_helpers.specs.Callee.{built, Target, calls_registered}
use Rattle.handlebars_helpers.specs.Choice.{BuiltInKind, kind_if, kind_each, kind_with}
use Rattle.handlebars_semantics.specs.Asks.{Asks, only, ◌>>=◌}
use Rattle.handlebars_semantics.specs.State.{Setting, State}
use Rattle.handlebars_semantics.specs.Values.{as_written, path_value}

-- A section is `each` for an array, `if` for a boolean, and `with` for any other value, including a missing one.
abbrev pub section_kind : Data → BuiltInKind
section_kind null = kind_with
section_kind (boolean b) = kind_if
section_kind (number n) = kind_with
section_kind (string t) = kind_with
section_kind (array ds) = kind_each
section_kind (object ms) = kind_with

-- It is called with its value as the one parameter, whose text as written is the name's.
abbrev pub section_call : Param → CallView → Found → Target × CallView
section_call q v found =
    (calls_registered (built (section_kind (data_in found))), record v { params = as_written q found ∷ [] })

-- A call by a name that has no helper and is no section fails with `helper_not_found` for the name.
abbrev pub without_helper : {A : Type 0} → CallView → Answer A
without_helper v = fails_for (helper_not_found v.name)

-- A name that reads as a path is that path. A block with another name is no section.
pub data ReadsAsPath (n : Text) (v : CallView) : Answer Reference → Type 0 where
  reads : {r : Reference} → IsPath n r → ReadsAsPath n v (gives r)
  reads_not : ((r : Reference) → IsPath n r → ⊥) → ReadsAsPath n v (without_helper v)

-- the path of a section, by its name; a literal has none, nor has a call in parentheses
abbrev pub HasSectionPath : Param → CallView → Asks Reference
HasSectionPath (name n) v = ReadsAsPath n v
HasSectionPath (path r) v = only (gives r)
HasSectionPath (literal d) v = only (without_helper v)
HasSectionPath (subexpression e) v = only (without_helper v)

-- A section acts on what its path leads to.
abbrev pub HasSection : Setting → State → Param → CallView → Asks (Target × CallView)
HasSection p s q v =
    HasSectionPath q v >>= (λ r. only (path_value p s r) >>= (λ found. only (gives (section_call q v found))))

-- If sections are not allowed, the call fails.
abbrev pub HasSectionIf : Bool → Setting → State → Param → CallView → Asks (Target × CallView)
HasSectionIf true p s q v = HasSection p s q v
HasSectionIf false p s q v = only (without_helper v)
