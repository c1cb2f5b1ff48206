-- The call that an expression is, and the first of its literals that is rejected.
use Rattle.std.specs.Prelude.{ℕ, false, if◌then◌else◌, List, [], ◌∷◌, ◌++◌, Option, Some, None, unwrap_or, is_some}
use Rattle.std.specs.Cmp.Lexicographic.{slice_cmp}
use Rattle.std.specs.Ordering.{match_ordering, nat_cmp}
use Rattle.serde_json.specs.Data.{null}
use Rattle.handlebars_base.specs.Bytes.{Text}
use Rattle.handlebars_base.specs.Path.{raw_of}
use Rattle.handlebars_base.specs.Reasons.{TemplateRefusal, invalid_param}
use Rattle.handlebars_expressions.specs.Parameter.{Term, literal_term, path_term, name_term, call_term, Terms, no_terms, term}
use Rattle.handlebars_expressions.specs.Expression.{Expression}
use Rattle.handlebars_expressions.specs.LiteralValueReading.{literal_value_of}
use Rattle.handlebars_template.specs.Tree.{CallMarks, escaped_expression, Call, call, Args, args, no_arguments, lacks_arguments, bodies, Param, name, path, literal, subexpression, Params, no_params, param, Hash, no_hash, hash_pair, no_binding, no_body}

-- no block, in no chain, and with no indentation before its output
abbrev pub plain_marks : CallMarks
plain_marks = record { block = false; chain = false; indent_before_write = false }

-- an expression with this name and these arguments
abbrev pub plain_call : Param → Args → Call
plain_call n xs = call n xs no_binding (bodies no_body no_body) plain_marks

-- the most blocks, chained inverses, parentheses and brackets of literals that may be open at once
abbrev pub max_nesting : ℕ
max_nesting = 200

-- ---- arguments

abbrev pub with_param : Params → Param → Params
with_param no_params p = param p no_params
with_param (param q more) p = param q (with_param more p)

-- The hash with the parameter under its key, in place of an earlier one with the same key. The keys are in the order of
-- their bytes.
abbrev pub put_hash_pair : Text → Param → Hash → Hash
put_hash_pair key p no_hash = hash_pair key p no_hash
put_hash_pair key p (hash_pair k q more) =
    match_ordering (slice_cmp nat_cmp key k)
    (hash_pair key p (hash_pair k q more)) (hash_pair k p more) (hash_pair k q (put_hash_pair key p more))

-- one more argument after these: a hash argument if it has a key, a parameter otherwise
abbrev pub add_argument : Option Text → Param → Args → Args
add_argument None p (args ps hs) = args (with_param ps p) hs
add_argument (Some key) p (args ps hs) = args ps (put_hash_pair key p hs)

-- ---- calls

abbrev pub named_param : Param → Param
named_param (name n) = name n
named_param (path r) = name (raw_of r)
named_param (literal d) = literal d
named_param (subexpression e) = subexpression e

-- A path with arguments after it is a name. Alone it is a path.
abbrev pub name_before : Args → Param → Param
name_before xs p = if lacks_arguments xs then p else named_param p

abbrev pub call_with : Param → Args → Call
call_with p xs = plain_call (name_before xs p) xs

-- A literal that is rejected has no value. It is null in a tree that is never returned.
abbrev pub literal_param : Text → Param
literal_param raw = literal (unwrap_or (literal_value_of raw) null)

-- An expression in parentheses is a separate expression. Of two hash arguments with the same key, the later one counts.
abbrev mutual
  pub param_of : Term → Param
  param_of (literal_term raw) = literal_param raw
  param_of (path_term r) = path r
  param_of (name_term t) = name t
  param_of (call_term t terms) = subexpression (escaped_expression (call_with (param_of t) (arguments_in no_arguments terms)))

  -- these arguments, and after them the terms
  pub arguments_in : Args → Terms → Args
  arguments_in xs no_terms = xs
  arguments_in xs (term key t more) = arguments_in (add_argument key (param_of t) xs) more

abbrev pub call_of : Term → Terms → Call
call_of t terms = call_with (param_of t) (arguments_in no_arguments terms)

-- ---- literals

-- the literals of a term, in the order of the text
abbrev mutual
  pub literals_of : Term → List Text
  literals_of (literal_term raw) = raw ∷ []
  literals_of (path_term r) = []
  literals_of (name_term t) = []
  literals_of (call_term t terms) = literals_of t ++ literals_in terms

  pub literals_in : Terms → List Text
  literals_in no_terms = []
  literals_in (term key t more) = literals_of t ++ literals_in more

-- the first literal that has no value
abbrev pub first_rejected : List Text → Option Text
first_rejected [] = None
first_rejected (raw ∷ raws) = if is_some (literal_value_of raw) then first_rejected raws else Some raw

abbrev pub expression_literals : Expression → List Text
expression_literals expression = literals_of expression.name ++ literals_in expression.terms

-- the error of a text that is no parameter, and of a literal that has no value: its text, without name and position
abbrev pub invalid : Text → TemplateRefusal
invalid raw = record { reason = invalid_param raw; name = None; position = None }
