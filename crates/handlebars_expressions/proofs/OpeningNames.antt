-- The names of blocks: an identifier is one by its text, whether by its symbols or by the path that it is.
use Rattle.std.proofs.Common.{◌≡◌, ◌≢◌, ℕ, true, false, List, [], ◌∷◌, length, Some, refl, sym, ap, ◌∙◌}
use Rattle.std.specs.Prelude.{◌==◌}
use Rattle.std.specs.List.{list_all, AllByRecursion}
use Rattle.std.proofs.Math.Dec.{eqb-suc-zero}
use Rattle.std.proofs.lemmas.Bool.{and_parts, false≢true}
use Rattle.handlebars_base.specs.Bytes.{is_symbol}
use Rattle.handlebars_base.specs.Path.{IsIdentifier, Reference, IsPath}
use Rattle.handlebars_base.specs.PathReading.{path_token_at}
use Rattle.handlebars_base.specs.Texts.{starts}
use Rattle.handlebars_expressions.specs.Expression.{identifier_name, opening_name, NameShape, plain_name, term_name, IsName, Enclosure, Expression, IsExpression}
use Rattle.handlebars_expressions.specs.Parameter.{Items}
use Rattle.handlebars_expressions.specs.ExpressionReading.{plain_step, name_step}
use Rattle.handlebars_expressions.proofs.ExpressionPrefixes.{begins_single, path_begins}

pub symbols_pass : (t : List ℕ) → AllByRecursion (λ b. is_symbol b ≡ true) t → list_all is_symbol t ≡ true
symbols_pass [] all = refl
symbols_pass (b ∷ t) all = rw all.0 (symbols_pass t all.1)

pub pass_symbols : (t : List ℕ) → list_all is_symbol t ≡ true → AllByRecursion (λ b. is_symbol b ≡ true) t
pass_symbols [] h = tt
pass_symbols (b ∷ t) h = let both = and_parts (is_symbol b) (list_all is_symbol t) h in (both.0, pass_symbols t both.1)

path_some : (t : List ℕ) (means : Reference) → IsPath t means → t ≢ []
path_some t means is none = false≢true (ap (starts begins_single) (sym none) ∙ path_begins t means is)

-- a path of symbols alone
pub path_identifier : (t : List ℕ) (means : Reference) → IsPath t means → list_all is_symbol t ≡ true → IsIdentifier t
path_identifier t means is all = (path_some t means is, pass_symbols t all)

pub not_empty : (t : List ℕ) → t ≢ [] → (length t == 0) ≡ false
not_empty [] some = absurd (some refl)
not_empty (b ∷ t) some = eqb-suc-zero (length t)

-- the step over a name that is the path at the start
pub name_stepped : (n : ℕ) (t name rest : List ℕ) → path_token_at t ≡ Some (name, rest) → IsIdentifier name → plain_step n (name, rest) ≡ name_step opening_name n t
unfolding name_step
name_stepped n t name rest e id = rw (e, symbols_pass name id.1, not_empty name id.0) refl

-- The expression of a name alone is also one where a section may be opened.
name_stays : (name : NameShape) (items : Items) (rest : List ℕ) → IsName identifier_name name items rest → IsName opening_name name items rest
name_stays (plain_name t) items rest h = h
name_stays (term_name p) items rest h = absurd (false≢true h.0)

pub expression_stays : (around : Enclosure) (text : List ℕ) (expression : Expression) (left : List ℕ) → IsExpression identifier_name around text expression left → IsExpression opening_name around text expression left
expression_stays around text expression left h = record {
  name = h.name;
  items = h.items;
  whole = h.whole;
  is_name = name_stays h.name h.items _ h.is_name;
  are_items = h.are_items;
  closes = h.closes;
  gives = h.gives;
}
