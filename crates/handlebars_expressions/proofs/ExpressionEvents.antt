-- What the steps find of an expression determines how deep it is, and what it means.
use Rattle.std.proofs.Common.{◌≡◌, ℕ, suc, ◌+◌, ◌≤◌, List, [], ◌∷◌, ◌++◌, Option, Some, None, refl, sym, ap, ◌∙◌, append_assoc, arith, max}
use Rattle.handlebars_base.proofs.PathShapes.{path_known}
use Rattle.handlebars_expressions.specs.Parameter.{Term, Terms, no_terms, term, name_term, TermShape, literal_shape, path_shape, nested_shape, Items, no_items, parameter_item, hash_item, Fits, AreItems, term_of, terms_of, depth_of, items_depth}
use Rattle.handlebars_expressions.specs.Expression.{NameMode, NameShape, plain_name, term_name, IsName, term_of_name, name_depth, Expression}
use Rattle.handlebars_expressions.specs.ExpressionReading.{Event, closed, OpenExpression, joined, begun_expression, add_term, OpenExpressions, first_expressions, height, build}
use Rattle.handlebars_expressions.proofs.ExpressionsRead.{events, item_events, name_events}
use Rattle.handlebars_base.specs.Optional.{◌>>=◌}
use Rattle.std.specs.Option.{option_map}

-- ---- what steps find

-- the greatest number of parentheses and brackets open at once
abbrev pub most_open : ℕ → List Event → ℕ
most_open m [] = m
most_open m (x ∷ xs) = most_open (max m (height x)) xs

abbrev pub build_all : OpenExpressions → List Event → Option OpenExpressions
build_all fs [] = Some fs
build_all fs (x ∷ xs) = build fs x >>= λ gs. build_all gs xs

-- the expression that the events are
abbrev pub built_expression : ℕ → OpenExpressions → Option Expression
built_expression depth fs = option_map (λ name. record { name = name; terms = fs.top.terms; depth = depth }) fs.top.name

abbrev pub expression_from : List Event → Option Expression
expression_from xs = build_all first_expressions xs >>= built_expression (most_open 0 xs)

-- ---- what is found of an expression in parentheses, before more

nested_events : (n : ℕ) (name : TermShape) (items : Items) (xs : List Event) →
    (events (suc n) None name ++ (item_events (suc n) items ++ closed ∷ [])) ++ xs ≡ events (suc n) None name ++ (item_events (suc n) items ++ closed ∷ xs)
nested_events n name items xs =
    append_assoc (events (suc n) None name) (item_events (suc n) items ++ closed ∷ []) xs
    ∙ ap (λ (z : List Event). events (suc n) None name ++ z) (append_assoc (item_events (suc n) items) (closed ∷ []) xs)

-- ---- how deep it is

mutual
  most_open-shape : (p : TermShape) (key : Option (List ℕ)) (n m : ℕ) (xs : List Event) → most_open m (events n key p ++ xs) ≡ most_open (max m (n + depth_of p)) xs
  most_open-shape (literal_shape l) key n m xs = refl
  most_open-shape (path_shape t means) key n m xs = ap (λ (z : ℕ). most_open (max m z) xs) (let e : n ≡ n + 0 = omega arith in e)
  most_open-shape (nested_shape w name items v) key n m xs =
      let e : max (max (max (max m (suc n)) (suc n + depth_of name)) (suc n + items_depth items)) 0 ≡ max m (n + suc (max (depth_of name) (items_depth items))) = omega arith in
      ap (most_open (max m (suc n))) (nested_events n name items xs)
      ∙ most_open-shape name None (suc n) (max m (suc n)) (item_events (suc n) items ++ closed ∷ xs)
      ∙ most_open-items items (suc n) (max (max m (suc n)) (suc n + depth_of name)) (closed ∷ xs) (omega arith)
      ∙ ap (λ (z : ℕ). most_open z xs) e

  most_open-items : (items : Items) (n m : ℕ) (xs : List Event) → n ≤ m → most_open m (item_events n items ++ xs) ≡ most_open (max m (n + items_depth items)) xs
  most_open-items no_items n m xs le = ap (λ (z : ℕ). most_open z xs) (let e : m ≡ max m (n + 0) = omega arith in e)
  most_open-items (parameter_item w p more) n m xs le =
      let e : max (max m (n + depth_of p)) (n + items_depth more) ≡ max m (n + max (depth_of p) (items_depth more)) = omega arith in
      ap (most_open m) (append_assoc (events n None p) (item_events n more) xs)
      ∙ most_open-shape p None n m (item_events n more ++ xs)
      ∙ most_open-items more n (max m (n + depth_of p)) xs (omega arith)
      ∙ ap (λ (z : ℕ). most_open z xs) e
  most_open-items (hash_item w key u v p more) n m xs le =
      let e : max (max m (n + depth_of p)) (n + items_depth more) ≡ max m (n + max (depth_of p) (items_depth more)) = omega arith in
      ap (most_open m) (append_assoc (events n (Some key) p) (item_events n more) xs)
      ∙ most_open-shape p (Some key) n m (item_events n more ++ xs)
      ∙ most_open-items more n (max m (n + depth_of p)) xs (omega arith)
      ∙ ap (λ (z : ℕ). most_open z xs) e

pub most_open-expression : (name : NameShape) (items : Items) → most_open 0 (name_events 0 name ++ (item_events 0 items ++ [])) ≡ max (name_depth name) (items_depth items)
most_open-expression (plain_name t) items =
    let e : max 0 (0 + items_depth items) ≡ max 0 (items_depth items) = omega arith in
    most_open-items items 0 0 [] (omega arith) ∙ e
most_open-expression (term_name p) items =
    let e : max (max 0 (0 + depth_of p)) (0 + items_depth items) ≡ max (depth_of p) (items_depth items) = omega arith in
    most_open-shape p None 0 0 (item_events 0 items ++ [])
    ∙ most_open-items items 0 (max 0 (0 + depth_of p)) [] (omega arith)
    ∙ e

-- ---- what it means

abbrev expressions_around : OpenExpression → List OpenExpression → OpenExpressions
expressions_around f fs = record { top = f; around = fs }

-- a call with its name and these terms
abbrev pub named_expression : Option (List ℕ) → Term → Terms → OpenExpression
named_expression key name terms = record { key = key; name = Some name; terms = terms }

-- the open expressions of a whole expression
abbrev pub whole_expressions : Term → Terms → OpenExpressions
whole_expressions name terms = expressions_around (named_expression None name terms) []

joined-assoc : (a b c : Terms) → joined (joined a b) c ≡ joined a (joined b c)
joined-assoc no_terms b c = refl
joined-assoc (term key t a) b c = ap (term key t) (joined-assoc a b c)

joined-none : (a : Terms) → joined a no_terms ≡ a
joined-none no_terms = refl
joined-none (term key t a) = ap (term key t) (joined-none a)

mutual
  build-shape : (p : TermShape) (rest : List ℕ) → Fits p rest → (key : Option (List ℕ)) (n : ℕ) (f : OpenExpression) (fs : List OpenExpression) (xs : List Event) → build_all (expressions_around f fs) (events n key p ++ xs) ≡ build_all (expressions_around (add_term key (term_of p) f) fs) xs
  build-shape (literal_shape l) rest fits key n f fs xs = refl
  build-shape (path_shape t means) rest fits key n f fs xs = rw (path_known t means fits) refl
  build-shape (nested_shape w name items v) rest fits key n f fs xs =
      ap (build_all (expressions_around (begun_expression key) (f ∷ fs))) (nested_events n name items xs)
      ∙ build-shape name _ fits.2 None (suc n) (begun_expression key) (f ∷ fs) (item_events (suc n) items ++ closed ∷ xs)
      ∙ build-items items _ fits.3 (suc n) key (term_of name) no_terms (f ∷ fs) (closed ∷ xs)

  build-items : (items : Items) (rest : List ℕ) → AreItems items rest → (n : ℕ) (key : Option (List ℕ)) (name : Term) (terms : Terms) (fs : List OpenExpression) (xs : List Event)
      → build_all (expressions_around (named_expression key name terms) fs) (item_events n items ++ xs) ≡ build_all (expressions_around (named_expression key name (joined terms (terms_of items))) fs) xs
  build-items no_items rest fits n key name terms fs xs = ap (λ (z : Terms). build_all (expressions_around (named_expression key name z) fs) xs) (sym (joined-none terms))
  build-items (parameter_item w p more) rest fits n key name terms fs xs =
      ap (build_all (expressions_around (named_expression key name terms) fs)) (append_assoc (events n None p) (item_events n more) xs)
      ∙ build-shape p _ fits.4 None n (named_expression key name terms) fs (item_events n more ++ xs)
      ∙ build-items more rest fits.5 n key name (joined terms (term None (term_of p) no_terms)) fs xs
      ∙ ap (λ (z : Terms). build_all (expressions_around (named_expression key name z) fs) xs) (joined-assoc terms (term None (term_of p) no_terms) (terms_of more))
  build-items (hash_item w k u v p more) rest fits n key name terms fs xs =
      ap (build_all (expressions_around (named_expression key name terms) fs)) (append_assoc (events n (Some k) p) (item_events n more) xs)
      ∙ build-shape p _ fits.6 (Some k) n (named_expression key name terms) fs (item_events n more ++ xs)
      ∙ build-items more rest fits.7 n key name (joined terms (term (Some k) (term_of p) no_terms)) fs xs
      ∙ ap (λ (z : Terms). build_all (expressions_around (named_expression key name z) fs) xs) (joined-assoc terms (term (Some k) (term_of p) no_terms) (terms_of more))

pub build-expression : (mode : NameMode) (name : NameShape) (items : Items) (t left : List ℕ) → IsName mode name items t → AreItems items left → build_all first_expressions (name_events 0 name ++ (item_events 0 items ++ [])) ≡ Some (whole_expressions (term_of_name name) (terms_of items))
build-expression mode (plain_name raw) items t left named are_items = build-items items left are_items 0 None (name_term raw) no_terms [] []
build-expression mode (term_name p) items t left named are_items =
    build-shape p t named.1 None 0 (begun_expression None) [] (item_events 0 items ++ [])
    ∙ build-items items left are_items 0 None (term_of p) no_terms [] []
