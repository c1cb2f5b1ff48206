-- Expressions: what is spelled so is read.
use Rattle.std.proofs.Common.{◌≡◌, ◌≢◌, ℕ, zero, suc, ◌+◌, ◌-◌, Bool, true, false, List, [], ◌∷◌, ◌++◌, Option, Some, None, refl, sym, ap, subst, ◌∙◌, append_assoc, arith}
use Rattle.std.specs.Prelude.{◌==◌, not}
use Rattle.std.specs.List.{list_all, prefix_len}
use Rattle.std.proofs.Math.Dec.{eqb-suc-zero}
use Rattle.std.proofs.lemmas.Bool.{eqb-true, false≢true, and_parts, not-true}
use Rattle.handlebars_base.specs.Bytes.{is_white, after_white, is_symbol}
use Rattle.handlebars_base.specs.Path.{IsIdentifier, Reference, IsPath, plain, in_parts, meaning}
use Rattle.handlebars_base.specs.Texts.{IsWhite, starts, after_byte}
use Rattle.handlebars_base.proofs.Prefixes.{after_white-skips, after_white-append, starts-other, starts-append, after_byte-not, after_byte-same}
use Rattle.handlebars_base.proofs.Bytes.{other_byte}
use Rattle.handlebars_base.proofs.Ends.{regroup_four}
use Rattle.handlebars_base.proofs.Runs.{prefix_len-none, run-prefix, run-rest}
use Rattle.handlebars_expressions.specs.Runs.{goes, ends}
use Rattle.handlebars_expressions.specs.Literal.{Literal, spelled_literal, IsLiteral, literal_depth, continues_literal}
use Rattle.handlebars_expressions.specs.Parameter.{TermShape, literal_shape, path_shape, nested_shape, Items, no_items, parameter_item, hash_item, spelled_shape, spelled_items, is_name, IsChosen, Fits, AreItems}
use Rattle.handlebars_expressions.specs.Expression.{NameMode, identifier_name, value_name, close_name, opening_name, NameShape, plain_name, term_name, spelled_name, IsPlainName, opens_section, IsName, Enclosure, in_parentheses, is_end, Closes}
use Rattle.handlebars_expressions.specs.ExpressionReading.{Event, opened, literal_event, path_event, name_event, closed, Phase, at_name, at_items, at_end, ExpressionState, expression_state, after_name, name_step, is_excluded, parameter_step, item_step, after_step, expression_step}
use Rattle.handlebars_expressions.proofs.Stepping.{StepsTo, last, onward}
use Rattle.handlebars_expressions.specs.CloseName.{is_close_name}
use Rattle.handlebars_expressions.proofs.CloseNames.{close_name-parenthesis}
use Rattle.handlebars_expressions.proofs.ExpressionSteps.{takes_parentheses, is_at_name}
use Rattle.handlebars_expressions.proofs.ExpressionMarks.{path_token_at-stops, literal_at-finds, literal_at-missing, key_and_equals_at-append}
use Rattle.handlebars_expressions.proofs.ExpressionPrefixes.{follows_no_symbol, begins, begins_single, begins_no_white, path_begins, literal_begins, shape_starts, key_starts, single_no_parenthesis, Follows, follows_stops, closing_follows, items_follow, no_key}
use Rattle.handlebars_expressions.proofs.ExpressionEnds.{item_no_end}
use Rattle.handlebars_expressions.proofs.ExpressionsRead.{events, item_events, name_events, IsAllowed, nested_group, events_group, hash_group}
use Rattle.handlebars_expressions.proofs.Alone.{name_path}
use Rattle.handlebars_expressions.proofs.OpeningNames.{not_empty, symbols_pass}

-- ---- steps: a parenthesis, a literal, a path

parameter_opens : (key : Option (List ℕ)) (n : ℕ) (w t : List ℕ) → IsWhite w → starts begins t ≡ true → parameter_step key n (40 ∷ (w ++ t)) ≡ goes (opened key (suc n)) (expression_state (at_name value_name) (suc n)) t
unfolding parameter_step
parameter_opens key n w t white start =
    rw (after_byte-same 40 (w ++ t), after_white-append w t white (begins_no_white t start)) refl

name_opens : (around : Enclosure) (mode : NameMode) (n : ℕ) (w t : List ℕ) → takes_parentheses mode ≡ true → IsWhite w → starts begins t ≡ true → expression_step around (expression_state (at_name mode) n) (40 ∷ (w ++ t)) ≡ goes (opened None (suc n)) (expression_state (at_name value_name) (suc n)) t
unfolding expression_step name_step
name_opens around identifier_name n w t takes white start = absurd cc
name_opens around value_name n w t takes white start =
    rw (after_byte-same 40 (w ++ t), after_white-append w t white (begins_no_white t start)) refl
name_opens around close_name n w t takes white start =
    rw (after_byte-same 40 (w ++ t), after_white-append w t white (begins_no_white t start)) refl
name_opens around opening_name n w t takes white start = absurd cc

path_no_parenthesis : (t rest : List ℕ) (means : Reference) → IsPath t means → after_byte 40 (t ++ rest) ≡ None
path_no_parenthesis t rest means h = single_no_parenthesis (t ++ rest) (starts-append begins_single t rest (path_begins t means h))

literal_no_parenthesis : (l : Literal) (rest : List ℕ) → IsLiteral l → after_byte 40 (spelled_literal l ++ rest) ≡ None
literal_no_parenthesis l rest fits =
    single_no_parenthesis (spelled_literal l ++ rest) (starts-append begins_single (spelled_literal l) rest (literal_begins l fits))

name_goes_on : (around : Enclosure) (n : ℕ) (t rest : List ℕ) (means : Reference) → IsPath t means → Follows rest → expression_step around (expression_state (at_name value_name) n) (t ++ rest) ≡ goes (path_event None t n) (expression_state (after_name t) n) rest
unfolding expression_step name_step
name_goes_on around n t rest means h f =
    rw (path_no_parenthesis t rest means h, path_token_at-stops t rest means h (follows_stops rest f)) refl

plain_goes_on : (around : Enclosure) (mode : NameMode) (n : ℕ) (t rest : List ℕ) → IsPlainName mode t rest → Follows rest → expression_step around (expression_state (at_name mode) n) (t ++ rest) ≡ goes (name_event t) (expression_state at_items n) rest
unfolding expression_step name_step
plain_goes_on around identifier_name n t rest h f =
    let stop : prefix_len is_symbol rest ≡ 0 = prefix_len-none is_symbol rest (follows_no_symbol rest f) in
    rw (run-prefix is_symbol t rest h.1 stop, run-rest is_symbol t rest h.1 stop, not_empty t h.0) refl
plain_goes_on around value_name n t rest h f = absurd h
plain_goes_on around close_name n t rest h f =
    rw (close_name-parenthesis (t ++ rest) t rest h.1 h.0, h.1, not_empty t h.0) refl
plain_goes_on around opening_name n t rest h f =
    let is = name_path t h in
    rw (path_token_at-stops t rest (meaning t (in_parts false (plain t) [])) is (follows_stops rest f), symbols_pass t h.1) refl

literal_goes_on : (key : Option (List ℕ)) (n : ℕ) (l : Literal) (rest : List ℕ) → IsLiteral l → starts continues_literal rest ≡ false → parameter_step key n (spelled_literal l ++ rest) ≡ goes (literal_event key (spelled_literal l) (n + literal_depth l)) (expression_state at_items n) rest
unfolding parameter_step
literal_goes_on key n l rest fits stop =
    let f = literal_at-finds (spelled_literal l ++ rest) l rest (record { whole = refl; fits = fits; stops = stop }) in
    rw (literal_no_parenthesis l rest fits, f.found, f.raw, f.rest, f.depth) refl

not_excluded : (key : Option (List ℕ)) (t : List ℕ) (means : Reference) → IsAllowed key (path_shape t means) → is_excluded key t ≡ false
not_excluded None t means e = e
not_excluded (Some key) t means e = refl

path_goes_on : (key : Option (List ℕ)) (n : ℕ) (t rest : List ℕ) (means : Reference) → IsPath t means → IsChosen (path_shape t means) rest → IsAllowed key (path_shape t means) → Follows rest
    → parameter_step key n (t ++ rest) ≡ goes (path_event key t n) (expression_state at_items n) rest
unfolding parameter_step
path_goes_on key n t rest means h chosen allowed f =
    rw (path_no_parenthesis t rest means h, literal_at-missing (t ++ rest) chosen, path_token_at-stops t rest means h (follows_stops rest f), not_excluded key t means allowed) refl

-- ---- steps: an item

white_first : (w t : List ℕ) → IsWhite w → w ≢ [] → starts is_white (w ++ t) ≡ true
white_first [] t white some = absurd (some refl)
white_first (b ∷ w) t white some = white.0

-- where the step of an item goes on, so does that of the expression
item_at : (around : Enclosure) (n : ℕ) (w t : List ℕ) (x : Event) (s' : ExpressionState) (t' : List ℕ) → IsWhite w → w ≢ [] → starts begins t ≡ true → item_step n t ≡ goes x s' t' → expression_step around (expression_state at_items n) (w ++ t) ≡ goes x s' t'
unfolding expression_step after_step
item_at around zero w t x s' t' white some start e =
    let dark = after_white-append w t white (begins_no_white t start) in
    rw (item_no_end around 0 w t x s' t' white start e, dark, white_first w t white some) e
item_at around (suc n) w t x s' t' white some start e =
    let dark = after_white-append w t white (begins_no_white t start) in
    let no_shut = after_byte-not 41 t (starts-other begins (λ b. b == 41) t (other_byte begins 41 refl) start) in
    rw (eqb-suc-zero n, dark, no_shut, white_first w t white some) e

-- where the step of a parameter goes on, so does that of the expression
abbrev GoesAt : Enclosure → ExpressionState → List ℕ → Option (List ℕ) → ℕ → List ℕ → Type 0
GoesAt around s from key n t = (x : Event) (s' : ExpressionState) (t' : List ℕ) → parameter_step key n t ≡ goes x s' t' → expression_step around s from ≡ goes x s' t'

parameter_at : (around : Enclosure) (n : ℕ) (w : List ℕ) (p : TermShape) (rest : List ℕ) → IsWhite w → w ≢ [] → Fits p rest → Follows rest → GoesAt around (expression_state at_items n) (w ++ (spelled_shape p ++ rest)) None n (spelled_shape p ++ rest)
unfolding item_step
parameter_at around n w p rest white some fits f x s' t' e =
    item_at around n w (spelled_shape p ++ rest) x s' t' white some (shape_starts p rest rest fits) (rw (no_key p rest fits f) e)

hash_at : (around : Enclosure) (n : ℕ) (w key u v : List ℕ) (p : TermShape) (rest : List ℕ) → IsWhite w → w ≢ [] → IsIdentifier key → IsWhite u → IsWhite v → Fits p rest
    → GoesAt around (expression_state at_items n) (w ++ (key ++ (u ++ 61 ∷ (v ++ (spelled_shape p ++ rest))))) (Some key) n (spelled_shape p ++ rest)
unfolding item_step
hash_at around n w key u v p rest white some id white-u white-v fits x s' t' e =
    let t : List ℕ = spelled_shape p ++ rest in
    let dark = begins_no_white t (shape_starts p rest rest fits) in
    item_at around n w (key ++ (u ++ 61 ∷ (v ++ t))) x s' t' white some (key_starts key (u ++ 61 ∷ (v ++ t)) id)
    (rw (key_and_equals_at-append key u v t id white-u white-v dark) e)

-- ---- steps: what closes

closed_at : (around : Enclosure) (st : Phase) (n : ℕ) (v r : List ℕ) → is_at_name st ≡ false → IsWhite v → expression_step around (expression_state st (suc n)) (v ++ 41 ∷ r) ≡ goes closed (expression_state at_items n) r
unfolding expression_step after_step
closed_at around (at_name mode) n v r other white = absurd cc
closed_at around at_items n v r other white =
    let less : suc n - 1 ≡ n = omega arith in
    rw (eqb-suc-zero n, after_white-append v (41 ∷ r) white refl, after_byte-same 41 r, less) refl
closed_at around at_end n v r other white =
    let less : suc n - 1 ≡ n = omega arith in
    rw (eqb-suc-zero n, after_white-append v (41 ∷ r) white refl, after_byte-same 41 r, less) refl

end_at : (around : Enclosure) (t : List ℕ) → Closes around t → expression_step around (expression_state at_items 0) t ≡ ends
unfolding expression_step after_step
end_at around t h = let is : is_end around t ≡ true = h in rw is refl

-- what closes here, with this many parentheses open
abbrev pub enclosed : Enclosure → ℕ → Enclosure
enclosed around zero = around
enclosed around (suc n) = in_parentheses

starts-mark : (c : ℕ) (t : List ℕ) → starts (λ b. b == c) t ≡ true → (r : List ℕ) × (t ≡ c ∷ r)
starts-mark c [] h = absurd cc
starts-mark c (b ∷ t) h = let same : b ≡ c = eqb-true b c h in (t, ap (λ (z : ℕ). z ∷ t) same)

-- where an expression closes, it doesn't matter whether items may follow
same_end : (around : Enclosure) (n : ℕ) (t : List ℕ) → Closes (enclosed around n) t → expression_step around (expression_state at_end n) t ≡ expression_step around (expression_state at_items n) t
unfolding expression_step after_step
same_end around zero t h = let is : is_end around t ≡ true = h in rw is refl
same_end around (suc n) t h =
    let prefix = after_white-skips t in
    let mark = starts-mark 41 (after_white t) h in
    let whole : t ≡ prefix.white ++ 41 ∷ mark.0 = prefix.whole ∙ ap (λ (z : List ℕ). prefix.white ++ z) mark.1 in
    let same : (st : Phase) → is_at_name st ≡ false → expression_step around (expression_state st (suc n)) t ≡ goes closed (expression_state at_items n) mark.0 =
    λ st other. ap (expression_step around (expression_state st (suc n))) whole ∙ closed_at around st n prefix.white mark.0 other prefix.is in
    same at_end refl ∙ sym (same at_items refl)

end_runs : (around : Enclosure) (n : ℕ) (t : List ℕ) (xs : List Event) (e : List ℕ) → Closes (enclosed around n) t → StepsTo (expression_step around) (expression_state at_items n) t xs e → StepsTo (expression_step around) (expression_state at_end n) t xs e
end_runs around n t _ _ c (last is) = last (same_end around n t c ∙ is)
end_runs around n t _ _ c (onward x s' t' {xs} {e} is h) = onward x s' t' (same_end around n t c ∙ is) h

-- ---- after a name

abbrev pub phase_after : TermShape → Phase
phase_after (literal_shape l) = at_items
phase_after (path_shape t means) = after_name t
phase_after (nested_shape w name items v) = at_items

path_phase : (around : Enclosure) (n : ℕ) (t : List ℕ) (means : Reference) (items : Items) (rest : List ℕ) (xs : List Event) (e : List ℕ) → is_name (path_shape t means) items ≡ true → Closes (enclosed around n) rest
    → StepsTo (expression_step around) (expression_state at_items n) (spelled_items items ++ rest) xs e → StepsTo (expression_step around) (expression_state (after_name t) n) (spelled_items items ++ rest) xs e
path_phase around n t means items rest xs e named closes runs = on (list_all is_symbol t) items refl named runs
  where
    on : (c : Bool) (items : Items) → list_all is_symbol t ≡ c → is_name (path_shape t means) items ≡ true → StepsTo (expression_step around) (expression_state at_items n) (spelled_items items ++ rest) xs e → StepsTo (expression_step around) (expression_state (after_name t) n) (spelled_items items ++ rest) xs e
    on true items all named runs = rw all runs
    on false no_items all named runs = rw all (end_runs around n rest xs e closes runs)
    on false (parameter_item w p more) all named runs = let never : false ≡ true = rw all at named in absurd cc
    on false (hash_item w key u v p more) all named runs = let never : false ≡ true = rw all at named in absurd cc

to_phase : (around : Enclosure) (name : TermShape) (items : Items) (n : ℕ) (rest : List ℕ) (xs : List Event) (e : List ℕ) → is_name name items ≡ true → Closes (enclosed around n) rest
    → StepsTo (expression_step around) (expression_state at_items n) (spelled_items items ++ rest) xs e → StepsTo (expression_step around) (expression_state (phase_after name) n) (spelled_items items ++ rest) xs e
to_phase around (literal_shape l) items n rest xs e named closes runs = absurd cc
to_phase around (path_shape t means) items n rest xs e named closes runs = path_phase around n t means items rest xs e named closes runs
to_phase around (nested_shape w name inner v) items n rest xs e named closes runs = runs

-- ---- whole expressions

-- what is known of a name, and of items
abbrev NameRuns : Enclosure → TermShape → Type 0
NameRuns around name = (n : ℕ) (t : List ℕ) (xs : List Event) (e : List ℕ) (items : Items) → is_name name items ≡ true → Fits name t → Follows t → StepsTo (expression_step around) (expression_state (phase_after name) n) t xs e
    → StepsTo (expression_step around) (expression_state (at_name value_name) n) (spelled_shape name ++ t) (events n None name ++ xs) e

abbrev ItemsRun : Enclosure → Items → Type 0
ItemsRun around items = (n : ℕ) (rest : List ℕ) (xs : List Event) (e : List ℕ) → AreItems items rest → Closes (enclosed around n) rest → StepsTo (expression_step around) (expression_state at_items n) rest xs e
    → StepsTo (expression_step around) (expression_state at_items n) (spelled_items items ++ rest) (item_events n items ++ xs) e

-- an expression in parentheses, after the opening one
inner_runs : (around : Enclosure) (name : TermShape) (items : Items) → NameRuns around name → ItemsRun around items → (n : ℕ) (v t : List ℕ) (xs : List Event) (e : List ℕ) → is_name name items ≡ true → Fits name (spelled_items items ++ (v ++ 41 ∷ t)) → AreItems items (v ++ 41 ∷ t) → IsWhite v
    → StepsTo (expression_step around) (expression_state at_items n) t xs e → StepsTo (expression_step around) (expression_state (at_name value_name) (suc n)) (spelled_shape name ++ (spelled_items items ++ (v ++ 41 ∷ t))) (events (suc n) None name ++ (item_events (suc n) items ++ closed ∷ xs)) e
inner_runs around name items name_run items_run n v t xs e named fits are_items white runs =
    let after : List ℕ = v ++ 41 ∷ t in
    let closes : Closes in_parentheses after = rw (after_white-append v (41 ∷ t) white refl) refl in
    let shuts = onward closed (expression_state at_items n) t (closed_at around at_items n v t refl white) runs in
    let others = items_run (suc n) after (closed ∷ xs) e are_items closes shuts in
    name_run (suc n) (spelled_items items ++ after) (item_events (suc n) items ++ closed ∷ xs) e items named fits (items_follow in_parentheses items after are_items closes)
    (to_phase around name items (suc n) after (item_events (suc n) items ++ closed ∷ xs) e named closes others)

-- an expression in parentheses that is a name
nested_runs : (around : Enclosure) (mode : NameMode) → takes_parentheses mode ≡ true → (w : List ℕ) (name : TermShape) (inner : Items) (v : List ℕ) → NameRuns around name → ItemsRun around inner → (n : ℕ) (t : List ℕ) (xs : List Event) (e : List ℕ) → Fits (nested_shape w name inner v) t
    → StepsTo (expression_step around) (expression_state at_items n) t xs e → StepsTo (expression_step around) (expression_state (at_name mode) n) (spelled_shape (nested_shape w name inner v) ++ t) (events n None (nested_shape w name inner v) ++ xs) e
nested_runs around mode takes w name inner v name_run items_run n t xs e fits runs =
    let after : List ℕ = v ++ 41 ∷ t in
    let inside : List ℕ = spelled_shape name ++ (spelled_items inner ++ after) in
    let go = inner_runs around name inner name_run items_run n v t xs e fits.1 fits.2 fits.3 fits.4 runs in
    let start = shape_starts name (spelled_items inner ++ after) (spelled_items inner ++ after) fits.2 in
    let whole = onward (opened None (suc n)) (expression_state (at_name value_name) (suc n)) inside (name_opens around mode n w inside takes fits.0 start) go in
    subst (λ (z : List ℕ). StepsTo (expression_step around) (expression_state (at_name mode) n) (40 ∷ z) (events n None (nested_shape w name inner v) ++ xs) e) (nested_group w (spelled_shape name) (spelled_items inner) v t)
    (subst (λ (z : List Event). StepsTo (expression_step around) (expression_state (at_name mode) n) (40 ∷ (w ++ inside)) (opened None (suc n) ∷ z) e) (events_group (events (suc n) None name) (item_events (suc n) inner) xs) whole)

mutual
  -- a name, and what follows it
  name_runs : (around : Enclosure) (name : TermShape) → NameRuns around name
  name_runs around (literal_shape l) n t xs e items named fits f runs = absurd cc
  name_runs around (path_shape p means) n t xs e items named fits f runs = onward (path_event None p n) (expression_state (after_name p) n) t (name_goes_on around n p t means fits f) runs
  name_runs around (nested_shape w name inner v) n t xs e items named fits f runs =
      nested_runs around value_name refl w name inner v (name_runs around name) (items_run around inner) n t xs e fits runs

  -- a parameter, from where its step is taken
  parameter_runs : (around : Enclosure) (p : TermShape) (key : Option (List ℕ)) (n : ℕ) (t : List ℕ) (xs : List Event) (e : List ℕ) (s : ExpressionState) (from : List ℕ) → IsChosen p t → IsAllowed key p → Fits p t → Follows t
      → StepsTo (expression_step around) (expression_state at_items n) t xs e → GoesAt around s from key n (spelled_shape p ++ t) → StepsTo (expression_step around) s from (events n key p ++ xs) e
  parameter_runs around (literal_shape l) key n t xs e s from chosen allowed fits f runs step = onward (literal_event key (spelled_literal l) (n + literal_depth l)) (expression_state at_items n) t (step (literal_event key (spelled_literal l) (n + literal_depth l)) (expression_state at_items n) t (literal_goes_on key n l t fits chosen)) runs
  parameter_runs around (path_shape p means) key n t xs e s from chosen allowed fits f runs step = onward (path_event key p n) (expression_state at_items n) t (step (path_event key p n) (expression_state at_items n) t (path_goes_on key n p t means fits chosen allowed f)) runs
  parameter_runs around (nested_shape w name inner v) key n t xs e s from chosen allowed fits f runs step =
      let after : List ℕ = v ++ 41 ∷ t in
      let inside : List ℕ = spelled_shape name ++ (spelled_items inner ++ after) in
      let go = inner_runs around name inner (name_runs around name) (items_run around inner) n v t xs e fits.1 fits.2 fits.3 fits.4 runs in
      let start = shape_starts name (spelled_items inner ++ after) (spelled_items inner ++ after) fits.2 in
      let same : 40 ∷ (w ++ inside) ≡ spelled_shape (nested_shape w name inner v) ++ t = ap (λ (z : List ℕ). 40 ∷ z) (nested_group w (spelled_shape name) (spelled_items inner) v t) in
      let taken : expression_step around s from ≡ goes (opened key (suc n)) (expression_state (at_name value_name) (suc n)) inside =
      step (opened key (suc n)) (expression_state (at_name value_name) (suc n)) inside (ap (parameter_step key n) (sym same) ∙ parameter_opens key n w inside fits.0 start) in
      let whole = onward (opened key (suc n)) (expression_state (at_name value_name) (suc n)) inside taken go in
      subst (λ (z : List Event). StepsTo (expression_step around) s from (opened key (suc n) ∷ z) e) (events_group (events (suc n) None name) (item_events (suc n) inner) xs) whole

  items_run : (around : Enclosure) (items : Items) → ItemsRun around items
  items_run around no_items n rest xs e fits closes runs = runs
  items_run around (parameter_item w p more) n rest xs e fits closes runs =
      let after : List ℕ = spelled_items more ++ rest in
      let follow = items_follow (enclosed around n) more rest fits.5 closes in
      let others = items_run around more n rest xs e fits.5 closes runs in
      let first = parameter_runs around p None n after (item_events n more ++ xs) e (expression_state at_items n) (w ++ (spelled_shape p ++ after)) fits.3 fits.2 fits.4 follow others (parameter_at around n w p after fits.0 fits.1 fits.4 follow) in
      subst (λ (z : List ℕ). StepsTo (expression_step around) (expression_state at_items n) z (item_events n (parameter_item w p more) ++ xs) e) (regroup_four w (spelled_shape p) (spelled_items more) rest)
      (subst (λ (z : List Event). StepsTo (expression_step around) (expression_state at_items n) (w ++ (spelled_shape p ++ after)) z e) (sym (append_assoc (events n None p) (item_events n more) xs)) first)
  items_run around (hash_item w key u v p more) n rest xs e fits closes runs =
      let after : List ℕ = spelled_items more ++ rest in
      let from : List ℕ = w ++ (key ++ (u ++ 61 ∷ (v ++ (spelled_shape p ++ after)))) in
      let follow = items_follow (enclosed around n) more rest fits.7 closes in
      let others = items_run around more n rest xs e fits.7 closes runs in
      let first = parameter_runs around p (Some key) n after (item_events n more ++ xs) e (expression_state at_items n) from fits.5 tt fits.6 follow others (hash_at around n w key u v p after fits.0 fits.1 fits.2 fits.3 fits.4 fits.6) in
      subst (λ (z : List ℕ). StepsTo (expression_step around) (expression_state at_items n) z (item_events n (hash_item w key u v p more) ++ xs) e) (hash_group w key u v (spelled_shape p) (spelled_items more) rest)
      (subst (λ (z : List Event). StepsTo (expression_step around) (expression_state at_items n) from z e) (sym (append_assoc (events n (Some key) p) (item_events n more) xs)) first)

-- a path that opens a section
section_goes_on : (around : Enclosure) (n : ℕ) (t rest : List ℕ) (means : Reference) → IsPath t means → opens_section (path_shape t means) no_items ≡ true → Follows rest
    → expression_step around (expression_state (at_name opening_name) n) (t ++ rest) ≡ goes (path_event None t n) (expression_state at_end n) rest
unfolding expression_step name_step
section_goes_on around n t rest means h opens f =
    let both = and_parts (not (list_all is_symbol t)) (is_close_name t) opens in
    rw (path_token_at-stops t rest means h (follows_stops rest f), not-true (list_all is_symbol t) both.0, both.1) refl

section_runs : (around : Enclosure) (r : List ℕ) (means : Reference) (items : Items) (t : List ℕ) (xs : List Event) (e : List ℕ) → opens_section (path_shape r means) items ≡ true → IsPath r means → Closes around t
    → StepsTo (expression_step around) (expression_state at_items 0) (spelled_items items ++ t) xs e → StepsTo (expression_step around) (expression_state (at_name opening_name) 0) (r ++ (spelled_items items ++ t)) (path_event None r 0 ∷ xs) e
section_runs around r means no_items t xs e opens h closes runs =
    onward (path_event None r 0) (expression_state at_end 0) t (section_goes_on around 0 r t means h opens (closing_follows around t closes)) (end_runs around 0 t xs e closes runs)
section_runs around r means (parameter_item w p more) t xs e opens h closes runs = absurd (false≢true opens)
section_runs around r means (hash_item w key u v p more) t xs e opens h closes runs = absurd (false≢true opens)

-- a name that is no plain text, of this mode
term_runs : (around : Enclosure) (mode : NameMode) (p : TermShape) (items : Items) (t : List ℕ) (xs : List Event) (e : List ℕ) → IsName mode (term_name p) items (spelled_items items ++ t) → AreItems items t → Closes around t
    → StepsTo (expression_step around) (expression_state at_items 0) (spelled_items items ++ t) xs e → StepsTo (expression_step around) (expression_state (at_name mode) 0) (spelled_shape p ++ (spelled_items items ++ t)) (events 0 None p ++ xs) e
term_runs around identifier_name p items t xs e named are_items closes runs = absurd (false≢true named.0)
term_runs around value_name p items t xs e named are_items closes runs =
    name_runs around p 0 (spelled_items items ++ t) xs e items named.0 named.1 (items_follow around items t are_items closes) (to_phase around p items 0 t xs e named.0 closes runs)
term_runs around close_name (literal_shape l) items t xs e named are_items closes runs = absurd (false≢true named.0)
term_runs around close_name (path_shape r means) items t xs e named are_items closes runs = absurd (false≢true named.0)
term_runs around close_name (nested_shape w name inner v) items t xs e named are_items closes runs =
    nested_runs around close_name refl w name inner v (name_runs around name) (items_run around inner) 0 (spelled_items items ++ t) xs e named.1 runs
term_runs around opening_name (literal_shape l) items t xs e named are_items closes runs = absurd (false≢true named.0)
term_runs around opening_name (path_shape r means) items t xs e named are_items closes runs = section_runs around r means items t xs e named.0 named.1 closes runs
term_runs around opening_name (nested_shape w name inner v) items t xs e named are_items closes runs = absurd (false≢true named.0)

pub expression_runs : (around : Enclosure) (mode : NameMode) (name : NameShape) (items : Items) (t : List ℕ) → IsName mode name items (spelled_items items ++ t) → AreItems items t → Closes around t
    → StepsTo (expression_step around) (expression_state (at_name mode) 0) (spelled_name name ++ (spelled_items items ++ t)) (name_events 0 name ++ (item_events 0 items ++ [])) t
expression_runs around mode name items t named are_items closes = on name named
  where
    after : StepsTo (expression_step around) (expression_state at_items 0) (spelled_items items ++ t) (item_events 0 items ++ []) t
    after = items_run around items 0 t [] t are_items closes (last (end_at around t closes))

    on : (name : NameShape) → IsName mode name items (spelled_items items ++ t)
        → StepsTo (expression_step around) (expression_state (at_name mode) 0) (spelled_name name ++ (spelled_items items ++ t)) (name_events 0 name ++ (item_events 0 items ++ [])) t
    on (plain_name raw) named = onward (name_event raw) (expression_state at_items 0) (spelled_items items ++ t) (plain_goes_on around mode 0 raw (spelled_items items ++ t) named (items_follow around items t are_items closes)) after
    on (term_name p) named = term_runs around mode p items t (item_events 0 items ++ []) t named are_items closes after
