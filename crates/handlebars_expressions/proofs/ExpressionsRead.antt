-- Expressions: from what the steps take to what is at the start.
use Rattle.std.proofs.Common.{◌≡◌, ◌≢◌, ℕ, zero, suc, ◌+◌, Bool, true, false, cond, List, [], ◌∷◌, ◌++◌, Option, Some, None, refl, sym, ap, subst, ◌∙◌, append_assoc}
use Rattle.std.specs.List.{list_all}
use Rattle.std.proofs.Math.Bool.{or-true}
use Rattle.std.proofs.lemmas.Option.{none-some}
use Rattle.handlebars_base.specs.Path.{IsIdentifier, Reference, IsPath}
use Rattle.handlebars_base.specs.Bytes.{is_symbol}
use Rattle.handlebars_base.specs.Texts.{IsWhite, starts}
use Rattle.handlebars_base.proofs.Ends.{regroup_four}
use Rattle.handlebars_expressions.specs.Runs.{ends}
use Rattle.handlebars_expressions.specs.Literal.{Literal, spelled_literal, literal_depth, continues_literal}
use Rattle.handlebars_expressions.specs.LiteralReading.{literal_at}
use Rattle.handlebars_expressions.specs.Parameter.{TermShape, literal_shape, path_shape, nested_shape, Items, no_items, parameter_item, hash_item, spelled_shape, spelled_items, is_name, IsFree, IsChosen, Fits, AreItems}
use Rattle.handlebars_expressions.specs.Expression.{NameMode, value_name, close_name, identifier_name, opening_name, NameShape, plain_name, term_name, spelled_name, IsPlainName, IsName, Enclosure, Closes}
use Rattle.handlebars_expressions.specs.ExpressionReading.{Event, opened, literal_event, path_event, name_event, closed, Phase, at_name, at_items, at_end, ExpressionState, after_name, is_excluded, expression_step}
use Rattle.handlebars_expressions.proofs.Stepping.{StepsTo, last, onward}
use Rattle.handlebars_expressions.proofs.ExpressionMarks.{literal_at-finds}
use Rattle.handlebars_expressions.proofs.ExpressionSteps.{ParameterStepped, to_nested, to_literal, to_path, ExpressionStepped, takes_parentheses, is_at_name, to_inner, to_plain, to_name, to_section, to_parameter, to_hash_pair, to_closed, expression_stepped, expression_ends}

-- ---- what the steps find of an expression

abbrev mutual
  pub events : ℕ → Option (List ℕ) → TermShape → List Event
  events n key (literal_shape l) = literal_event key (spelled_literal l) (n + literal_depth l) ∷ []
  events n key (path_shape t means) = path_event key t n ∷ []
  events n key (nested_shape w name items v) =
      opened key (suc n) ∷ (events (suc n) None name ++ (item_events (suc n) items ++ closed ∷ []))

  pub item_events : ℕ → Items → List Event
  item_events n no_items = []
  item_events n (parameter_item w p more) = events n None p ++ item_events n more
  item_events n (hash_item w key u v p more) = events n (Some key) p ++ item_events n more

abbrev pub name_events : ℕ → NameShape → List Event
name_events n (plain_name t) = name_event t ∷ []
name_events n (term_name p) = events n None p

-- ---- what is left to be read

-- What is left closes this many parentheses, each after more items, and then the enclosure of the expression.
abbrev pub Shuts : Enclosure → ℕ → List ℕ → List Event → List ℕ → Type 0
Shuts around zero t xs e = Closes around t × (t ≡ e) × (xs ≡ [])
Shuts around (suc n) t xs e = (v : List ℕ) × (items : Items) × (t' : List ℕ) × (ys : List Event) × IsWhite v × AreItems items t'
    × (t ≡ v ++ 41 ∷ (spelled_items items ++ t')) × (xs ≡ closed ∷ (item_events n items ++ ys)) × Shuts around n t' ys e

pub record ItemsThen (around : Enclosure) (n : ℕ) (t : List ℕ) (xs : List Event) (e : List ℕ) : Type 0 where
  pub items : Items
  pub rest : List ℕ
  pub others : List Event
  pub are_items : AreItems items rest
  pub whole : t ≡ spelled_items items ++ rest
  pub found : xs ≡ item_events n items ++ others
  pub shuts : Shuts around n rest others e

-- an expression of this mode
pub record ExpressionThen (mode : NameMode) (around : Enclosure) (n : ℕ) (t : List ℕ) (xs : List Event) (e : List ℕ) : Type 0 where
  pub name : NameShape
  pub items : Items
  pub rest : List ℕ
  pub others : List Event
  pub is_name : IsName mode name items (spelled_items items ++ rest)
  pub are_items : AreItems items rest
  pub whole : t ≡ spelled_name name ++ (spelled_items items ++ rest)
  pub found : xs ≡ name_events n name ++ (item_events n items ++ others)
  pub shuts : Shuts around n rest others e

-- a value's expression
pub record ValueThen (around : Enclosure) (n : ℕ) (t : List ℕ) (xs : List Event) (e : List ℕ) : Type 0 where
  pub name : TermShape
  pub items : Items
  pub rest : List ℕ
  pub others : List Event
  pub is_name : is_name name items ≡ true
  pub fits : Fits name (spelled_items items ++ rest)
  pub are_items : AreItems items rest
  pub whole : t ≡ spelled_shape name ++ (spelled_items items ++ rest)
  pub found : xs ≡ events n None name ++ (item_events n items ++ others)
  pub shuts : Shuts around n rest others e

value_then : (around : Enclosure) (n : ℕ) (t : List ℕ) (xs : List Event) (e : List ℕ) → ExpressionThen value_name around n t xs e → ValueThen around n t xs e
value_then around n t xs e h = on h.name h.is_name h.whole h.found
  where
    on : (name : NameShape) → IsName value_name name h.items (spelled_items h.items ++ h.rest) → t ≡ spelled_name name ++ (spelled_items h.items ++ h.rest) → xs ≡ name_events n name ++ (item_events n h.items ++ h.others) → ValueThen around n t xs e
    on (plain_name raw) is whole found = absurd is
    on (term_name p) is whole found = record {
      name = p;
      items = h.items;
      rest = h.rest;
      others = h.others;
      is_name = is.0;
      fits = is.1;
      are_items = h.are_items;
      whole = whole;
      found = found;
      shuts = h.shuts;
    }

abbrev pub ReadsFrom : Enclosure → Phase → ℕ → List ℕ → List Event → List ℕ → Type 0
ReadsFrom around (at_name mode) n t xs e = ExpressionThen mode around n t xs e
ReadsFrom around at_items n t xs e = ItemsThen around n t xs e
ReadsFrom around at_end n t xs e = Shuts around n t xs e

abbrev pub ReadsAt : Enclosure → ExpressionState → List ℕ → List Event → List ℕ → Type 0
ReadsAt around s t xs e = ReadsFrom around s.phase s.level t xs e

-- a reserved word only after a key
abbrev pub IsAllowed : Option (List ℕ) → TermShape → Type 0
IsAllowed None p = IsFree p
IsAllowed (Some key) p = Unit {0}

-- a parameter, the items after it, and what closes
pub record ParameterThen (around : Enclosure) (key : Option (List ℕ)) (n : ℕ) (t : List ℕ) (xs : List Event) (e : List ℕ) : Type 0 where
  pub first : TermShape
  pub items : Items
  pub rest : List ℕ
  pub others : List Event
  pub chosen : IsChosen first (spelled_items items ++ rest)
  pub allowed : IsAllowed key first
  pub fits : Fits first (spelled_items items ++ rest)
  pub are_items : AreItems items rest
  pub whole : t ≡ spelled_shape first ++ (spelled_items items ++ rest)
  pub found : xs ≡ events n key first ++ (item_events n items ++ others)
  pub shuts : Shuts around n rest others e

-- ---- one step back: an expression in parentheses

pub record NestedThen (around : Enclosure) (key : Option (List ℕ)) (n : ℕ) (t : List ℕ) (xs : List Event) (e : List ℕ) : Type 0 where
  pub white : List ℕ
  pub name : TermShape
  pub inner : Items
  pub after : List ℕ
  pub items : Items
  pub rest : List ℕ
  pub others : List Event
  pub fits : Fits (nested_shape white name inner after) (spelled_items items ++ rest)
  pub are_items : AreItems items rest
  pub whole : t ≡ spelled_shape (nested_shape white name inner after) ++ (spelled_items items ++ rest)
  pub found : xs ≡ events n key (nested_shape white name inner after) ++ (item_events n items ++ others)
  pub shuts : Shuts around n rest others e

pub nested_group : (w name items v r : List ℕ) → w ++ (name ++ (items ++ (v ++ 41 ∷ r))) ≡ (w ++ (name ++ (items ++ (v ++ 41 ∷ [])))) ++ r
nested_group w name items v r = simp append_assoc

pub events_group : (a b c : List Event) → a ++ (b ++ closed ∷ c) ≡ (a ++ (b ++ closed ∷ [])) ++ c
events_group a b c = simp append_assoc

nested_then : (around : Enclosure) (key : Option (List ℕ)) (n : ℕ) (w t t' : List ℕ) (xs : List Event) (e : List ℕ) → IsWhite w → t ≡ 40 ∷ (w ++ t') → ExpressionThen value_name around (suc n) t' xs e → NestedThen around key n t (opened key (suc n) ∷ xs) e
nested_then around key n w t t' xs e white whole then =
    let expression = value_then around (suc n) t' xs e then in
    let c = expression.shuts in
    let after : expression.rest ≡ c.0 ++ 41 ∷ (spelled_items c.1 ++ c.2) = c.6 in
    record {
      white = w;
      name = expression.name;
      inner = expression.items;
      after = c.0;
      items = c.1;
      rest = c.2;
      others = c.3;
      fits = (white, expression.is_name, subst (λ (z : List ℕ). Fits expression.name (spelled_items expression.items ++ z)) after expression.fits, subst (AreItems expression.items) after expression.are_items, c.4);
      are_items = c.5;
      whole = whole
          ∙ ap (λ (z : List ℕ). 40 ∷ (w ++ z)) (expression.whole ∙ ap (λ (z : List ℕ). spelled_shape expression.name ++ (spelled_items expression.items ++ z)) after)
          ∙ ap (λ (z : List ℕ). 40 ∷ z) (nested_group w (spelled_shape expression.name) (spelled_items expression.items) c.0 (spelled_items c.1 ++ c.2));
      found = ap (λ (z : List Event). opened key (suc n) ∷ z) (expression.found
          ∙ ap (λ (z : List Event). events (suc n) None expression.name ++ (item_events (suc n) expression.items ++ z)) c.7
          ∙ events_group (events (suc n) None expression.name) (item_events (suc n) expression.items) (item_events n c.1 ++ c.3));
      shuts = c.8;
    }

-- ---- one step back: a parameter

allowed_path : (key : Option (List ℕ)) (raw : List ℕ) (means : Reference) → is_excluded key raw ≡ false → IsAllowed key (path_shape raw means)
allowed_path None raw means e = e
allowed_path (Some key) raw means e = tt

allowed_literal : (key : Option (List ℕ)) (l : Literal) → IsAllowed key (literal_shape l)
allowed_literal None l = tt
allowed_literal (Some key) l = tt

allowed_nested : (key : Option (List ℕ)) (w : List ℕ) (name : TermShape) (items : Items) (v : List ℕ) → IsAllowed key (nested_shape w name items v)
allowed_nested None w name items v = tt
allowed_nested (Some key) w name items v = tt

pub path_chosen : (raw rest : List ℕ) (means : Reference) → literal_at (raw ++ rest) ≡ None → IsChosen (path_shape raw means) rest
path_chosen raw rest means none l after at = none-some _ (sym none ∙ (literal_at-finds (raw ++ rest) l after at).found)

parameter_then : (around : Enclosure) (key : Option (List ℕ)) (n : ℕ) (t : List ℕ) (x : Event) (s' : ExpressionState) (t' : List ℕ) (xs : List Event) (e : List ℕ) → ParameterStepped key n t x s' t' → ReadsAt around s' t' xs e → ParameterThen around key n t (x ∷ xs) e
parameter_then around key n t x s' t' xs e (to_nested w is ev white whole) after =
    let expression : ExpressionThen value_name around (suc n) t' xs e = subst (λ (z : ExpressionState). ReadsAt around z t' xs e) is after in
    let h = nested_then around key n w t t' xs e white whole expression in
    record {
      first = nested_shape h.white h.name h.inner h.after;
      items = h.items;
      rest = h.rest;
      others = h.others;
      chosen = tt;
      allowed = allowed_nested key h.white h.name h.inner h.after;
      fits = h.fits;
      are_items = h.are_items;
      whole = h.whole;
      found = ap (λ (z : Event). z ∷ xs) ev ∙ h.found;
      shuts = h.shuts;
    }
parameter_then around key n t x s' t' xs e (to_literal l is ev at) after =
    let then : ItemsThen around n t' xs e = subst (λ (z : ExpressionState). ReadsAt around z t' xs e) is after in
    record {
      first = literal_shape l;
      items = then.items;
      rest = then.rest;
      others = then.others;
      chosen = ap (starts continues_literal) (sym then.whole) ∙ at.stops;
      allowed = allowed_literal key l;
      fits = at.fits;
      are_items = then.are_items;
      whole = at.whole ∙ ap (λ (z : List ℕ). spelled_literal l ++ z) then.whole;
      found = ap (λ (z : Event). z ∷ xs) ev ∙ ap (λ (z : List Event). literal_event key (spelled_literal l) (n + literal_depth l) ∷ z) then.found;
      shuts = then.shuts;
    }
parameter_then around key n t x s' t' xs e (to_path raw means is ev whole h none fine) after =
    let then : ItemsThen around n t' xs e = subst (λ (z : ExpressionState). ReadsAt around z t' xs e) is after in
    let all : t ≡ raw ++ (spelled_items then.items ++ then.rest) = whole ∙ ap (λ (z : List ℕ). raw ++ z) then.whole in
    record {
      first = path_shape raw means;
      items = then.items;
      rest = then.rest;
      others = then.others;
      chosen = path_chosen raw (spelled_items then.items ++ then.rest) means (ap literal_at (sym all) ∙ none);
      allowed = allowed_path key raw means fine;
      fits = h;
      are_items = then.are_items;
      whole = all;
      found = ap (λ (z : Event). z ∷ xs) ev ∙ ap (λ (z : List Event). path_event key raw n ∷ z) then.found;
      shuts = then.shuts;
    }

-- ---- one step back: a name

name_then : (around : Enclosure) (n : ℕ) (raw t t' : List ℕ) (means : Reference) (xs : List Event) (e : List ℕ) → t ≡ raw ++ t' → IsPath raw means → ReadsFrom around (after_name raw) n t' xs e → ExpressionThen value_name around n t (path_event None raw n ∷ xs) e
name_then around n raw t t' means xs e whole h after = on (list_all is_symbol raw) refl after
  where
    on : (c : Bool) → list_all is_symbol raw ≡ c → ReadsFrom around (cond c at_items at_end) n t' xs e → ExpressionThen value_name around n t (path_event None raw n ∷ xs) e
    on true is then = record {
      name = term_name (path_shape raw means);
      items = then.items;
      rest = then.rest;
      others = then.others;
      is_name = (rw is refl, h);
      are_items = then.are_items;
      whole = whole ∙ ap (λ (z : List ℕ). raw ++ z) then.whole;
      found = ap (λ (z : List Event). path_event None raw n ∷ z) then.found;
      shuts = then.shuts;
    }
    on false is then = record {
      name = term_name (path_shape raw means);
      items = no_items;
      rest = t';
      others = xs;
      is_name = (or-true (list_all is_symbol raw), h);
      are_items = tt;
      whole = whole;
      found = refl;
      shuts = then;
    }

-- ---- one step back: an item

pub hash_group : (w key u v p items rest : List ℕ) → w ++ (key ++ (u ++ 61 ∷ (v ++ (p ++ (items ++ rest))))) ≡ (w ++ (key ++ (u ++ 61 ∷ (v ++ (p ++ items))))) ++ rest
hash_group w key u v p items rest = simp append_assoc

parameter_item_then : (around : Enclosure) (n : ℕ) (w r t : List ℕ) (xs : List Event) (e : List ℕ) → IsWhite w → w ≢ [] → t ≡ w ++ r → ParameterThen around None n r xs e → ItemsThen around n t xs e
parameter_item_then around n w r t xs e white some whole p = record {
  items = parameter_item w p.first p.items;
  rest = p.rest;
  others = p.others;
  are_items = (white, some, p.allowed, p.chosen, p.fits, p.are_items);
  whole = whole ∙ ap (λ (z : List ℕ). w ++ z) p.whole ∙ regroup_four w (spelled_shape p.first) (spelled_items p.items) p.rest;
  found = p.found ∙ sym (append_assoc (events n None p.first) (item_events n p.items) p.others);
  shuts = p.shuts;
}

hash_item_then : (around : Enclosure) (n : ℕ) (w key u v r t : List ℕ) (xs : List Event) (e : List ℕ) → IsWhite w → w ≢ [] → IsIdentifier key → IsWhite u → IsWhite v → t ≡ w ++ (key ++ (u ++ 61 ∷ (v ++ r))) → ParameterThen around (Some key) n r xs e → ItemsThen around n t xs e
hash_item_then around n w key u v r t xs e white some id white-u white-v whole p = record {
  items = hash_item w key u v p.first p.items;
  rest = p.rest;
  others = p.others;
  are_items = (white, some, id, white-u, white-v, p.chosen, p.fits, p.are_items);
  whole = whole ∙ ap (λ (z : List ℕ). w ++ (key ++ (u ++ 61 ∷ (v ++ z)))) p.whole ∙ hash_group w key u v (spelled_shape p.first) (spelled_items p.items) p.rest;
  found = p.found ∙ sym (append_assoc (events n (Some key) p.first) (item_events n p.items) p.others);
  shuts = p.shuts;
}

-- ---- one step back: any

closed_then : (around : Enclosure) (n : ℕ) (w t t' : List ℕ) (xs : List Event) (e : List ℕ) → IsWhite w → t ≡ w ++ 41 ∷ t' → ItemsThen around n t' xs e → Shuts around (suc n) t (closed ∷ xs) e
closed_then around n w t t' xs e white whole i = (
  w,
  i.items,
  i.rest,
  i.others,
  white,
  i.are_items,
  whole ∙ ap (λ (z : List ℕ). w ++ 41 ∷ z) i.whole,
  ap (λ (z : List Event). closed ∷ z) i.found,
  i.shuts,
)

shuts_read : (around : Enclosure) (st : Phase) (n : ℕ) (t : List ℕ) (xs : List Event) (e : List ℕ) → is_at_name st ≡ false → Shuts around n t xs e → ReadsFrom around st n t xs e
shuts_read around (at_name mode) n t xs e other h = absurd cc
shuts_read around at_items n t xs e other h = record { items = no_items; rest = t; others = xs; are_items = tt; whole = refl; found = refl; shuts = h }
shuts_read around at_end n t xs e other h = h

nested_named : (mode : NameMode) (w : List ℕ) (name : TermShape) (inner : Items) (v : List ℕ) (items : Items) (rest : List ℕ) → takes_parentheses mode ≡ true → Fits (nested_shape w name inner v) rest → IsName mode (term_name (nested_shape w name inner v)) items rest
nested_named identifier_name w name inner v items rest takes fits = absurd cc
nested_named value_name w name inner v items rest takes fits = (refl, fits)
nested_named close_name w name inner v items rest takes fits = (refl, fits)
nested_named opening_name w name inner v items rest takes fits = absurd cc

step_read : (around : Enclosure) (s : ExpressionState) (t : List ℕ) (x : Event) (s' : ExpressionState) (t' : List ℕ) (xs : List Event) (e : List ℕ) → ExpressionStepped s t x s' t' → ReadsAt around s' t' xs e → ReadsAt around s t (x ∷ xs) e
step_read around s t x s' t' xs e (to_inner mode n w takes is is' ev white whole) after =
    let expression : ExpressionThen value_name around (suc n) t' xs e = subst (λ (z : ExpressionState). ReadsAt around z t' xs e) is' after in
    let h = nested_then around None n w t t' xs e white whole expression in
    subst (λ (z : ExpressionState). ReadsAt around z t (x ∷ xs) e) (sym is) (record {
      name = term_name (nested_shape h.white h.name h.inner h.after);
      items = h.items;
      rest = h.rest;
      others = h.others;
      is_name = nested_named mode h.white h.name h.inner h.after h.items _ takes h.fits;
      are_items = h.are_items;
      whole = h.whole;
      found = ap (λ (z : Event). z ∷ xs) ev ∙ h.found;
      shuts = h.shuts;
    })
step_read around s t x s' t' xs e (to_plain mode n raw is is' ev whole h) after =
    let then : ItemsThen around n t' xs e = subst (λ (z : ExpressionState). ReadsAt around z t' xs e) is' after in
    subst (λ (z : ExpressionState). ReadsAt around z t (x ∷ xs) e) (sym is) (record {
      name = plain_name raw;
      items = then.items;
      rest = then.rest;
      others = then.others;
      is_name = subst (IsPlainName mode raw) then.whole h;
      are_items = then.are_items;
      whole = whole ∙ ap (λ (z : List ℕ). raw ++ z) then.whole;
      found = ap (λ (z : Event). z ∷ xs) ev ∙ ap (λ (z : List Event). name_event raw ∷ z) then.found;
      shuts = then.shuts;
    })
step_read around s t x s' t' xs e (to_name n raw means is is' ev whole h) after =
    let then : ReadsFrom around (after_name raw) n t' xs e = subst (λ (z : ExpressionState). ReadsAt around z t' xs e) is' after in
    let expression = name_then around n raw t t' means xs e whole h then in
    subst (λ (z : ExpressionState). ReadsAt around z t (x ∷ xs) e) (sym is) (subst (λ (z : Event). ExpressionThen value_name around n t (z ∷ xs) e) (sym ev) expression)
step_read around s t x s' t' xs e (to_section n raw means is is' ev whole h opens) after =
    let then : Shuts around n t' xs e = subst (λ (z : ExpressionState). ReadsAt around z t' xs e) is' after in
    subst (λ (z : ExpressionState). ReadsAt around z t (x ∷ xs) e) (sym is) (record {
      name = term_name (path_shape raw means);
      items = no_items;
      rest = t';
      others = xs;
      is_name = (opens, h);
      are_items = tt;
      whole = whole;
      found = ap (λ (z : Event). z ∷ xs) ev;
      shuts = then;
    })
step_read around s t x s' t' xs e (to_parameter n w r is white some whole p) after =
    subst (λ (z : ExpressionState). ReadsAt around z t (x ∷ xs) e) (sym is)
    (parameter_item_then around n w r t (x ∷ xs) e white some whole (parameter_then around None n r x s' t' xs e p after))
step_read around s t x s' t' xs e (to_hash_pair n w key u v r is white some id white-u white-v whole p) after =
    subst (λ (z : ExpressionState). ReadsAt around z t (x ∷ xs) e) (sym is)
    (hash_item_then around n w key u v r t (x ∷ xs) e white some id white-u white-v whole (parameter_then around (Some key) n r x s' t' xs e p after))
step_read around s t x s' t' xs e (to_closed n st w is other is' ev white whole) after =
    let then : ItemsThen around n t' xs e = subst (λ (z : ExpressionState). ReadsAt around z t' xs e) is' after in
    let h = shuts_read around st (suc n) t (closed ∷ xs) e other (closed_then around n w t t' xs e white whole then) in
    subst (λ (z : ExpressionState). ReadsAt around z t (x ∷ xs) e) (sym is) (subst (λ (z : Event). ReadsFrom around st (suc n) t (z ∷ xs) e) (sym ev) h)

end_read : (around : Enclosure) (s : ExpressionState) (t : List ℕ) → expression_step around s t ≡ ends → ReadsAt around s t [] t
end_read around s t e =
    let h = expression_ends around s t e in
    shuts_read around s.phase s.level t [] t h.other (subst (λ (z : ℕ). Shuts around z t [] t) (sym h.level) (h.closes, refl, refl))

pub runs_read : (around : Enclosure) (s : ExpressionState) (t : List ℕ) (xs : List Event) (e : List ℕ) → StepsTo (expression_step around) s t xs e → ReadsAt around s t xs e
runs_read around s t _ _ (last is) = end_read around s t is
runs_read around s t _ _ (onward x s' t' {xs} {e} is h) = step_read around s t x s' t' xs e (expression_stepped around s t x s' t' is) (runs_read around s' t' xs e h)
