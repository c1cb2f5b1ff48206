-- The loop that builds the call of an expression: its invariant, and its result.
use Rattle.std.proofs.Common.{◌≡◌, ◌∙◌, Bool, true, false, List, [], Option, Some, None, length, refl, sym, ap, subst, arith}
use Rattle.std.specs.List.{list_all}
use Rattle.std.proofs.lemmas.List.{append-nil}
use Rattle.std.proofs.lemmas.Option.{same_Some, none-some}
use Rattle.std.specs.Prelude.{◌==◌, option_map, Result, Ok, Err, IfOk, IfSome}
use Rattle.handlebars_base.specs.PathView.{reference_of}
use Rattle.handlebars_base.specs.declared.json.path.Path.{Path}
use Rattle.handlebars_base.specs.Bytes.{Text, is_symbol}
use Rattle.handlebars_base.specs.Path.{Segment, Reference, relative, IsIdentifier, plain, in_parts, meaning, name_segments}
use Rattle.handlebars_base.proofs.PathShapes.{path_known}
use Rattle.handlebars_base.proofs.OptionBinds.{nonempty}
use Rattle.handlebars_base.specs.PathReading.{path_of}
use Rattle.handlebars_base.specs.Optional.{◌>>=◌}
use Rattle.handlebars_expressions.specs.Runs.{goes, ends, stuck}
use Rattle.handlebars_expressions.specs.Expression.{NameMode, opening_name, value_name, Enclosure, Expression, IsExpression}
use Rattle.handlebars_expressions.specs.Parameter.{path_term, name_term, Terms, no_terms, term}
use Rattle.handlebars_expressions.specs.Alone.{IsAlone, IsNamed}
use Rattle.handlebars_expressions.proofs.Alone.{name_path, alone_expression, named_expression}
use Rattle.handlebars_expressions.proofs.OpeningNames.{pass_symbols, expression_stays}
use Rattle.handlebars_expressions.specs.ExpressionReading.{Event, at_name, ExpressionState, expression_state, expression_step, OpenExpressions, first_expressions, build}
use Rattle.handlebars_expressions.proofs.ExpressionEvents.{build_all}
use Rattle.handlebars_expressions.proofs.Endings.{Through, through-goes, runs-goes, runs-ends, runs-stuck}
use Rattle.handlebars_expressions.proofs.Expressions.{expression_found, one_expression}
use Rattle.handlebars_template.specs.ExpressionBuildingView.{OpenCalls, AreCallsOf, IsTaken, whole_expression, IsPathAlone, HasArguments}
use Rattle.handlebars_template.specs.Tree.{Args, no_arguments, path}
use Rattle.handlebars_template.specs.Calls.{add_argument, arguments_in, literals_in, first_rejected}

-- ---- what the steps so far have built

-- What all the steps build is what the steps from here on build from these open expressions.
abbrev pub BuildsRest : NameMode → Enclosure → Text → ExpressionState → Text → OpenExpressions → Type 0
BuildsRest mode around t s rest expressions =
    Through (expression_step around) (expression_state (at_name mode) 0) t (build_all first_expressions) s rest (build_all expressions)

pub leads-goes : (mode : NameMode) (around : Enclosure) (t : Text) (s : ExpressionState) (rest : Text) (expressions : OpenExpressions) (x : Event) (s' : ExpressionState) (rest' : Text) (expressions' : OpenExpressions)
    → goes x s' rest' ≡ expression_step around s rest → build expressions x ≡ Some expressions' → BuildsRest mode around t s rest expressions → BuildsRest mode around t s' rest' expressions'
leads-goes mode around t s rest expressions x s' rest' expressions' is built h =
    through-goes (expression_step around) (expression_state (at_name mode) 0) t (build_all first_expressions) s rest (build_all expressions) x s' rest' (build_all expressions') (sym is)
    (λ xs. ap (λ (z : Option OpenExpressions). z >>= λ gs. build_all gs xs) built) h

abbrev pub whole_expressions : Expression → OpenExpressions
whole_expressions expression = record { top = whole_expression expression; around = [] }

-- where the steps end, the open expressions are the expression
leads-ends : (mode : NameMode) (around : Enclosure) (t : Text) (s : ExpressionState) (rest : Text) (expressions : OpenExpressions) → ends ≡ expression_step around s rest → BuildsRest mode around t s rest expressions
    → (expression : Expression) (left : Text) → IsExpression mode around t expression left → expressions ≡ whole_expressions expression
leads-ends mode around t s rest expressions is h expression left l =
    let f = expression_found mode around t expression left l in
    let p = h.passes f.events left f.runs in
    let over = runs-ends (expression_step around) s rest p.0 left p.1 (sym is) in
    same_Some expressions (whole_expressions expression) (ap (build_all expressions) (sym over.0) ∙ sym p.2 ∙ f.built)

-- ---- the invariant of the loop

-- Some open expressions are built so far, and the calls are what they stand for.
pub record Builds (mode : NameMode) (around : Enclosure) (t : Text) (s : ExpressionState) (rest : Text) (calls : OpenCalls) : Type 0 where
  pub expressions : OpenExpressions
  pub leads : BuildsRest mode around t s rest expressions
  pub are_calls : AreCallsOf expressions calls

-- the result of taking an event, for any open expressions that the calls stand for
abbrev pub Takes : OpenCalls → Event → Bool → OpenCalls → Type 0
Takes calls x taken calls' = (expressions : OpenExpressions) → AreCallsOf expressions calls → IsTaken (build expressions x) taken calls'

pub builds-goes : (mode : NameMode) (around : Enclosure) (t : Text) (s : ExpressionState) (rest : Text) (calls : OpenCalls) (x : Event) (s' : ExpressionState) (rest' : Text) (calls' : OpenCalls)
    → goes x s' rest' ≡ expression_step around s rest → Takes calls x true calls' → Builds mode around t s rest calls → Builds mode around t s' rest' calls'
builds-goes mode around t s rest calls x s' rest' calls' is takes b = on (build b.expressions x) refl (takes b.expressions b.are_calls)
  where
    on : (o : Option OpenExpressions) → build b.expressions x ≡ o → IsTaken o true calls' → Builds mode around t s' rest' calls'
    on None e h = absurd cc
    on (Some expressions') e h =
        record { expressions = expressions'; leads = leads-goes mode around t s rest b.expressions x s' rest' expressions' is e b.leads; are_calls = h.1 }

pub builds-stuck : {A : Type 0} (mode : NameMode) (around : Enclosure) (t : Text) (s : ExpressionState) (rest : Text) (calls : OpenCalls) (expression : Expression) (left : Text)
    → stuck ≡ expression_step around s rest → Builds mode around t s rest calls → IsExpression mode around t expression left → A
builds-stuck mode around t s rest calls expression left is b l =
    let f = expression_found mode around t expression left l in
    let p = b.leads.passes f.events left f.runs in
    runs-stuck (expression_step around) s rest p.0 left p.1 (sym is)

pub builds-lost : {A : Type 0} (mode : NameMode) (around : Enclosure) (t : Text) (s : ExpressionState) (rest : Text) (calls : OpenCalls) (x : Event) (s' : ExpressionState) (rest' : Text) (calls' : OpenCalls) (expression : Expression) (left : Text)
    → goes x s' rest' ≡ expression_step around s rest → Takes calls x false calls' → Builds mode around t s rest calls → IsExpression mode around t expression left → A
builds-lost {A} mode around t s rest calls x s' rest' calls' expression left is takes b l = on (build b.expressions x) refl (takes b.expressions b.are_calls)
  where
    on : (o : Option OpenExpressions) → build b.expressions x ≡ o → IsTaken o false calls' → A
    on (Some expressions') e h = absurd (let no = h.0 in cc)
    on None e h =
        let f = expression_found mode around t expression left l in
        let p = b.leads.passes f.events left f.runs in
        let r = runs-goes (expression_step around) s rest p.0 left x s' rest' p.1 (sym is) in
        let nothing : build_all b.expressions p.0 ≡ None = ap (build_all b.expressions) r.1 ∙ ap (λ (z : Option OpenExpressions). z >>= λ gs. build_all gs r.0) e in
        absurd (none-some (whole_expressions expression) (sym nothing ∙ sym p.2 ∙ f.built))

pub builds-ends : (mode : NameMode) (around : Enclosure) (t : Text) (s : ExpressionState) (rest : Text) (calls : OpenCalls) → ends ≡ expression_step around s rest → Builds mode around t s rest calls
    → (expression : Expression) (left : Text) → IsExpression mode around t expression left → AreCallsOf (whole_expressions expression) calls
builds-ends mode around t s rest calls is b expression left l =
    subst (λ (z : OpenExpressions). AreCallsOf z calls) (leads-ends mode around t s rest b.expressions is b.leads expression left l) b.are_calls

-- ---- a path alone

-- the path that is alone at the start of the text, if it is read as one
pub lone-path : (around : Enclosure) (t raw rest : Text) (means : Reference) → IsAlone around t raw rest → Some means ≡ path_of raw
    → (expression : Expression) (left : Text) → IsExpression value_name around t expression left → IsPathAlone expression means
lone-path around t raw rest means h found expression left l =
    let alone : Expression = record { name = path_term h.means; terms = no_terms; depth = 0 } in
    let same : expression ≡ alone = (one_expression value_name around t expression alone left rest l (alone_expression around t raw rest h)).0 in
    let path : means ≡ h.means = same_Some means h.means (found ∙ path_known raw h.means h.is_path) in
    record {
      name = ap (λ (z : Expression). z.name) same ∙ ap path_term (sym path);
      terms = ap (λ (z : Expression). z.terms) same;
    }

pub lone-none : {A : Type 0} (around : Enclosure) (t raw rest : Text) → IsAlone around t raw rest → None ≡ path_of raw → A
lone-none around t raw rest h none = absurd (none-some h.means (none ∙ path_known raw h.means h.is_path))

pub lone-read : {E : Type 0} (around : Enclosure) (t raw rest : Text) → IsAlone around t raw rest
    → (r : Result (Option Path) E) → IfOk r (λ read. option_map reference_of read ≡ path_of raw)
    → IfOk r (λ read. IfSome read (λ p. (expression : Expression) (left : Text) → IsExpression value_name around t expression left → IsPathAlone expression (reference_of p)))
lone-read around t raw rest h (Ok None) found = tt
lone-read around t raw rest h (Ok (Some p)) found = lone-path around t raw rest (reference_of p) h found
lone-read around t raw rest h (Err e) found = tt

-- ---- one path after a name

pub named-path : (around : Enclosure) (t name raw rest : Text) (means : Reference) → IsNamed around t name raw rest → Some means ≡ path_of raw
    → (xs : Args) → xs ≡ add_argument None (path means) no_arguments → (expression : Expression) (left : Text) → IsExpression opening_name around t expression left → HasArguments expression xs
named-path around t name raw rest means h found xs is expression left l =
    let one : Expression = record { name = name_term name; terms = term None (path_term h.means) no_terms; depth = 0 } in
    let same : expression ≡ one = (one_expression opening_name around t expression one left rest l (expression_stays around t one rest (named_expression around t name raw rest h))).0 in
    let read : means ≡ h.means = same_Some means h.means (found ∙ path_known raw h.means h.is_path) in
    let terms : expression.terms ≡ term None (path_term means) no_terms = ap (λ (z : Expression). z.terms) same ∙ ap (λ (z : Reference). term None (path_term z) no_terms) (sym read) in
    record {
      name = name;
      is_name = ap (λ (z : Expression). z.name) same;
      arguments = is ∙ ap (arguments_in no_arguments) (sym terms);
      rejected = ap (λ (z : Terms). first_rejected (literals_in z)) (sym terms);
    }

-- a name alone
pub path_of-name : (raw : Text) → IsIdentifier raw → Some (relative (name_segments raw) raw) ≡ path_of raw
path_of-name raw id =
    ap (λ (z : List Segment). Some (relative z raw)) (sym (append-nil (name_segments raw)))
    ∙ sym (path_known raw (meaning raw (in_parts false (plain raw) [])) (name_path raw id))

pub identifier : (raw : Text) → false ≡ (length raw == 0) → list_all is_symbol raw ≡ true → IsIdentifier raw
identifier raw some all = ((λ e. absurd (omega (arith, nonempty raw some, ap length e))), pass_symbols raw all)
