-- What each step of an expression takes from the text, and how far it goes.
use Rattle.std.proofs.Common.{◌≡◌, ◌≢◌, ℕ, zero, suc, ◌+◌, ◌-◌, Bool, true, false, cond, List, [], ◌∷◌, ◌++◌, length, Option, Some, None, refl, sym, ap, subst, ◌∙◌, arith, inl, inr}
use Rattle.std.specs.Prelude.{◌==◌}
use Rattle.std.specs.List.{prefix_len, list_all}
use Rattle.std.proofs.lemmas.Bool.{false≢true}
use Rattle.std.proofs.lemmas.List.{take-append-drop}
use Rattle.std.proofs.Math.Dec.{eqb-suc-zero}
use Rattle.handlebars_base.specs.Bytes.{is_white, after_white, is_symbol}
use Rattle.handlebars_base.specs.Path.{IsIdentifier, Reference, IsPath}
use Rattle.handlebars_base.specs.PathReading.{path_token_at}
use Rattle.handlebars_base.specs.Optional.{with_or}
use Rattle.handlebars_base.proofs.OptionBinds.{with_or_is, cond_is}
use Rattle.handlebars_base.proofs.Prefixes.{after_byte_takes, after_white-skips, white_some, dark_after}
use Rattle.handlebars_base.specs.Texts.{IsWhite, starts, after_byte, symbols_of, after_symbols}
use Rattle.handlebars_base.proofs.Runs.{prefix_pass}
use Rattle.handlebars_expressions.specs.Runs.{ReadingStep, goes, ends, stuck}
use Rattle.handlebars_expressions.specs.Literal.{Literal, spelled_literal, literal_depth, IsLiteralAt}
use Rattle.handlebars_expressions.specs.LiteralReading.{LiteralToken, literal_at}
use Rattle.handlebars_expressions.specs.Expression.{NameMode, identifier_name, value_name, close_name, opening_name, IsPlainName, opens_section, Enclosure, is_end, Closes}
use Rattle.handlebars_expressions.specs.ExpressionReading.{Event, opened, literal_event, path_event, name_event, closed, Phase, at_name, at_items, at_end, ExpressionState, expression_state, key_and_equals_at, after_name, open_step, plain_step, section_step, opening_step, name_step, is_excluded, parameter_step, item_step, next_step, after_step, expression_step}
use Rattle.handlebars_expressions.specs.CloseName.{close_name_at, is_close_name}
use Rattle.handlebars_expressions.specs.Parameter.{path_shape, no_items}
use Rattle.handlebars_expressions.proofs.CloseNames.{close_name-whole}
use Rattle.handlebars_expressions.proofs.Stepping.{goes-parts}
use Rattle.handlebars_expressions.proofs.Endings.{goes-not_stuck, goes-not_ends}
use Rattle.handlebars_expressions.proofs.LiteralsFound.{literal_at-some}
use Rattle.handlebars_expressions.proofs.ExpressionMarks.{path_token_at-some, key_and_equals_at-some}
use Rattle.handlebars_expressions.proofs.OpeningNames.{path_identifier}

-- ---- what a step takes

pub data ParameterStepped (key : Option (List ℕ)) (n : ℕ) (t : List ℕ) (x : Event) (s' : ExpressionState) (t' : List ℕ) : Type 0 where
  to_nested : (w : List ℕ) → s' ≡ expression_state (at_name value_name) (suc n) → x ≡ opened key (suc n) → IsWhite w → t ≡ 40 ∷ (w ++ t') → ParameterStepped key n t x s' t'
  to_literal : (l : Literal) → s' ≡ expression_state at_items n → x ≡ literal_event key (spelled_literal l) (n + literal_depth l) → IsLiteralAt t l t' → ParameterStepped key n t x s' t'
  to_path : (raw : List ℕ) (means : Reference) → s' ≡ expression_state at_items n → x ≡ path_event key raw n → t ≡ raw ++ t' → IsPath raw means → literal_at t ≡ None → is_excluded key raw ≡ false → ParameterStepped key n t x s' t'

-- an expression in parentheses may be the name
abbrev pub takes_parentheses : NameMode → Bool
takes_parentheses identifier_name = false
takes_parentheses value_name = true
takes_parentheses close_name = true
takes_parentheses opening_name = false

abbrev pub is_at_name : Phase → Bool
is_at_name (at_name mode) = true
is_at_name at_items = false
is_at_name at_end = false

pub data ExpressionStepped (s : ExpressionState) (t : List ℕ) (x : Event) (s' : ExpressionState) (t' : List ℕ) : Type 0 where
  to_inner : (mode : NameMode) (n : ℕ) (w : List ℕ) → takes_parentheses mode ≡ true → s ≡ expression_state (at_name mode) n → s' ≡ expression_state (at_name value_name) (suc n) → x ≡ opened None (suc n) → IsWhite w → t ≡ 40 ∷ (w ++ t') → ExpressionStepped s t x s' t'
  to_plain : (mode : NameMode) (n : ℕ) (raw : List ℕ) → s ≡ expression_state (at_name mode) n → s' ≡ expression_state at_items n → x ≡ name_event raw → t ≡ raw ++ t' → IsPlainName mode raw t' → ExpressionStepped s t x s' t'
  to_name : (n : ℕ) (raw : List ℕ) (means : Reference) → s ≡ expression_state (at_name value_name) n → s' ≡ expression_state (after_name raw) n → x ≡ path_event None raw n → t ≡ raw ++ t' → IsPath raw means → ExpressionStepped s t x s' t'
  to_section : (n : ℕ) (raw : List ℕ) (means : Reference) → s ≡ expression_state (at_name opening_name) n → s' ≡ expression_state at_end n → x ≡ path_event None raw n → t ≡ raw ++ t' → IsPath raw means → opens_section (path_shape raw means) no_items ≡ true → ExpressionStepped s t x s' t'
  to_parameter : (n : ℕ) (w r : List ℕ) → s ≡ expression_state at_items n → IsWhite w → w ≢ [] → t ≡ w ++ r → ParameterStepped None n r x s' t' → ExpressionStepped s t x s' t'
  to_hash_pair : (n : ℕ) (w key u v r : List ℕ) → s ≡ expression_state at_items n → IsWhite w → w ≢ [] → IsIdentifier key → IsWhite u → IsWhite v → t ≡ w ++ (key ++ (u ++ 61 ∷ (v ++ r))) → ParameterStepped (Some key) n r x s' t' → ExpressionStepped s t x s' t'
  to_closed : (n : ℕ) (st : Phase) (w : List ℕ) → s ≡ expression_state st (suc n) → is_at_name st ≡ false → s' ≡ expression_state at_items n → x ≡ closed → IsWhite w → t ≡ w ++ 41 ∷ t' → ExpressionStepped s t x s' t'

abbrev literal_goes : Option (List ℕ) → ℕ → LiteralToken → ReadingStep Event ExpressionState
literal_goes key n l = goes (literal_event key l.raw (n + l.depth)) (expression_state at_items n) l.rest

abbrev path_goes : Option (List ℕ) → ℕ → List ℕ × List ℕ → ReadingStep Event ExpressionState
path_goes key n p = goes (path_event key p.0 n) (expression_state at_items n) p.1

abbrev name_goes : ℕ → List ℕ × List ℕ → ReadingStep Event ExpressionState
name_goes n p = goes (path_event None p.0 n) (expression_state (after_name p.0) n) p.1

-- ---- parts of steps

abbrev value_step : ℕ → List ℕ → ReadingStep Event ExpressionState
value_step n t = with_or (path_token_at t) (name_goes n) stuck

abbrev path_step : Option (List ℕ) → ℕ → List ℕ → ReadingStep Event ExpressionState
path_step key n t = with_or (path_token_at t) (λ p. cond (is_excluded key p.0) stuck (path_goes key n p)) stuck

abbrev outer_step : Enclosure → Phase → List ℕ → ReadingStep Event ExpressionState
outer_step around s t = cond (is_end around t) ends (next_step s 0 t)

abbrev inner_step : Phase → ℕ → List ℕ → ReadingStep Event ExpressionState
inner_step s n t = with_or (after_byte 41 (after_white t)) (λ r. goes closed (expression_state at_items (n - 1)) r) (next_step s n t)

path_stepped : (key : Option (List ℕ)) (n : ℕ) (t : List ℕ) (x : Event) (s' : ExpressionState) (t' : List ℕ) → literal_at t ≡ None → path_step key n t ≡ goes x s' t' → ParameterStepped key n t x s' t'
path_stepped key n t x s' t' none e = elim (with_or_is (path_token_at t) (λ p. cond (is_excluded key p.0) stuck (path_goes key n p)) stuck (goes x s' t') e) [
  | inl found ↦ elim (cond_is (is_excluded key found.0.0) stuck (path_goes key n found.0) (goes x s' t') found.2) [
    | inl fails ↦ goes-not_stuck (goes x s' t') x s' t' refl (sym fails.1)
    | inr fine ↦
        let p = path_token_at-some t found.0 found.1 in
        let same = goes-parts (path_event key found.0.0 n) x (expression_state at_items n) s' found.0.1 t' fine.1 in
        to_path found.0.0 p.means (sym same.states) (sym same.events) (p.whole ∙ ap (λ (z : List ℕ). found.0.0 ++ z) same.lefts) p.is none fine.0
  ]
  | inr fails ↦ goes-not_stuck (goes x s' t') x s' t' refl (sym fails.1)
]

parameter_stepped : (key : Option (List ℕ)) (n : ℕ) (t : List ℕ) (x : Event) (s' : ExpressionState) (t' : List ℕ) → parameter_step key n t ≡ goes x s' t' → ParameterStepped key n t x s' t'
unfolding parameter_step
parameter_stepped key n t x s' t' e = elim (with_or_is (after_byte 40 t) (open_step key n) (with_or (literal_at t) (literal_goes key n) (path_step key n t)) (goes x s' t') e) [
  | inl inner ↦
      let same = goes-parts (opened key (suc n)) x (expression_state (at_name value_name) (suc n)) s' (after_white inner.0) t' inner.2 in
      let white = after_white-skips inner.0 in
      to_nested white.white (sym same.states) (sym same.events) white.is
      (after_byte_takes 40 t inner.0 inner.1 ∙ ap (λ (z : List ℕ). 40 ∷ z) (white.whole ∙ ap (λ (z : List ℕ). white.white ++ z) same.lefts))
  | inr other ↦ elim (with_or_is (literal_at t) (literal_goes key n) (path_step key n t) (goes x s' t') other.1) [
    | inl found ↦
        let f = found.0 in
        let l = literal_at-some t f found.1 in
        let same = goes-parts (literal_event key f.raw (n + f.depth)) x (expression_state at_items n) s' f.rest t' found.2 in
        to_literal l.literal (sym same.states)
        (sym same.events ∙ ap (λ (z : List ℕ). literal_event key z (n + f.depth)) l.raw ∙ ap (λ (z : ℕ). literal_event key (spelled_literal l.literal) (n + z)) l.depth)
        (subst (λ (z : List ℕ). IsLiteralAt t l.literal z) same.lefts l.is)
    | inr name ↦ path_stepped key n t x s' t' name.0 name.1
  ]
]

opened_stepped : (mode : NameMode) (n : ℕ) (t r : List ℕ) (x : Event) (s' : ExpressionState) (t' : List ℕ) → takes_parentheses mode ≡ true → after_byte 40 t ≡ Some r → open_step None n r ≡ goes x s' t' → ExpressionStepped (expression_state (at_name mode) n) t x s' t'
opened_stepped mode n t r x s' t' takes is e =
    let same = goes-parts (opened None (suc n)) x (expression_state (at_name value_name) (suc n)) s' (after_white r) t' e in
    let white = after_white-skips r in
    to_inner mode n white.white takes refl (sym same.states) (sym same.events) white.is
    (after_byte_takes 40 t r is ∙ ap (λ (z : List ℕ). 40 ∷ z) (white.whole ∙ ap (λ (z : List ℕ). white.white ++ z) same.lefts))

plain_stepped : (mode : NameMode) (n : ℕ) (t : List ℕ) (p : List ℕ × List ℕ) (x : Event) (s' : ExpressionState) (t' : List ℕ) → t ≡ p.0 ++ p.1 → (p.0 ≢ [] → IsPlainName mode p.0 p.1) → plain_step n p ≡ goes x s' t' → ExpressionStepped (expression_state (at_name mode) n) t x s' t'
plain_stepped mode n t p x s' t' whole is e = elim (cond_is (length p.0 == 0) stuck (goes (name_event p.0) (expression_state at_items n) p.1) (goes x s' t') e) [
  | inl fails ↦ goes-not_stuck (goes x s' t') x s' t' refl (sym fails.1)
  | inr found ↦
      let same = goes-parts (name_event p.0) x (expression_state at_items n) s' p.1 t' found.1 in
      let some : p.0 ≢ [] = λ none. false≢true (sym found.0 ∙ ap (λ (z : List ℕ). length z == 0) none) in
      to_plain mode n p.0 refl (sym same.states) (sym same.events) (whole ∙ ap (λ (z : List ℕ). p.0 ++ z) same.lefts)
      (subst (IsPlainName mode p.0) same.lefts (is some))
]

value_stepped : (n : ℕ) (t : List ℕ) (x : Event) (s' : ExpressionState) (t' : List ℕ) → value_step n t ≡ goes x s' t' → ExpressionStepped (expression_state (at_name value_name) n) t x s' t'
value_stepped n t x s' t' e = elim (with_or_is (path_token_at t) (name_goes n) stuck (goes x s' t') e) [
  | inl found ↦
      let p = path_token_at-some t found.0 found.1 in
      let same = goes-parts (path_event None found.0.0 n) x (expression_state (after_name found.0.0) n) s' found.0.1 t' found.2 in
      to_name n found.0.0 p.means refl (sym same.states) (sym same.events) (p.whole ∙ ap (λ (z : List ℕ). found.0.0 ++ z) same.lefts) p.is
  | inr fails ↦ goes-not_stuck (goes x s' t') x s' t' refl (sym fails.1)
]

-- the two parts of what begins with a close name
close_parts : (t name rest : List ℕ) → close_name_at t ≡ (name, rest) → t ≡ name ++ rest
close_parts t name rest e = close_name-whole t ∙ ap (λ (z : List ℕ × List ℕ). z.0 ++ z.1) e

close_is : (t : List ℕ) (p : List ℕ × List ℕ) → close_name_at t ≡ p → p.0 ≢ [] → IsPlainName close_name p.0 p.1
close_is t p e some = (some, ap close_name_at (sym (close_parts t p.0 p.1 e)) ∙ e)

-- a path, and what follows it
record PathFound (t : List ℕ) (p : List ℕ × List ℕ) : Type 0 where
  means : Reference
  whole : t ≡ p.0 ++ p.1
  is : IsPath p.0 means

opens : (raw : List ℕ) (means : Reference) → list_all is_symbol raw ≡ false → is_close_name raw ≡ true → opens_section (path_shape raw means) no_items ≡ true
opens raw means mark closes = rw (mark, closes) refl

section_stepped : (n : ℕ) (t : List ℕ) (p : List ℕ × List ℕ) (x : Event) (s' : ExpressionState) (t' : List ℕ) → PathFound t p → list_all is_symbol p.0 ≡ false → section_step n p ≡ goes x s' t' → ExpressionStepped (expression_state (at_name opening_name) n) t x s' t'
section_stepped n t p x s' t' found mark e = elim (cond_is (is_close_name p.0) (goes (path_event None p.0 n) (expression_state at_end n) p.1) stuck (goes x s' t') e) [
  | inl closes ↦
      let same = goes-parts (path_event None p.0 n) x (expression_state at_end n) s' p.1 t' closes.1 in
      to_section n p.0 found.means refl (sym same.states) (sym same.events) (found.whole ∙ ap (λ (z : List ℕ). p.0 ++ z) same.lefts) found.is (opens p.0 found.means mark closes.0)
  | inr fails ↦ goes-not_stuck (goes x s' t') x s' t' refl (sym fails.1)
]

opening_stepped : (n : ℕ) (t : List ℕ) (p : List ℕ × List ℕ) (x : Event) (s' : ExpressionState) (t' : List ℕ) → PathFound t p → opening_step n p ≡ goes x s' t' → ExpressionStepped (expression_state (at_name opening_name) n) t x s' t'
opening_stepped n t p x s' t' found e = elim (cond_is (list_all is_symbol p.0) (goes (name_event p.0) (expression_state at_items n) p.1) (section_step n p) (goes x s' t') e) [
  | inl name ↦
      let same = goes-parts (name_event p.0) x (expression_state at_items n) s' p.1 t' name.1 in
      to_plain opening_name n p.0 refl (sym same.states) (sym same.events) (found.whole ∙ ap (λ (z : List ℕ). p.0 ++ z) same.lefts) (path_identifier p.0 found.means found.is name.0)
  | inr other ↦ section_stepped n t p x s' t' found other.0 other.1
]

name_stepped : (mode : NameMode) (n : ℕ) (t : List ℕ) (x : Event) (s' : ExpressionState) (t' : List ℕ) → name_step mode n t ≡ goes x s' t' → ExpressionStepped (expression_state (at_name mode) n) t x s' t'
unfolding name_step
name_stepped identifier_name n t x s' t' e =
    plain_stepped identifier_name n t (symbols_of t, after_symbols t) x s' t' (sym (take-append-drop (prefix_len is_symbol t) t)) (λ some. (some, prefix_pass is_symbol t)) e
name_stepped value_name n t x s' t' e = elim (with_or_is (after_byte 40 t) (open_step None n) (value_step n t) (goes x s' t') e) [
  | inl inner ↦ opened_stepped value_name n t inner.0 x s' t' refl inner.1 inner.2
  | inr name ↦ value_stepped n t x s' t' name.1
]
name_stepped close_name n t x s' t' e = elim (with_or_is (after_byte 40 t) (open_step None n) (plain_step n (close_name_at t)) (goes x s' t') e) [
  | inl inner ↦ opened_stepped close_name n t inner.0 x s' t' refl inner.1 inner.2
  | inr name ↦ plain_stepped close_name n t (close_name_at t) x s' t' (close_name-whole t) (close_is t (close_name_at t) refl) name.1
]
name_stepped opening_name n t x s' t' e = elim (with_or_is (path_token_at t) (opening_step n) stuck (goes x s' t') e) [
  | inl found ↦
      let p = path_token_at-some t found.0 found.1 in
      opening_stepped n t found.0 x s' t' (record { means = p.means; whole = p.whole; is = p.is }) found.2
  | inr fails ↦ goes-not_stuck (goes x s' t') x s' t' refl (sym fails.1)
]

-- ---- after whitespace

item_stepped : (n : ℕ) (t : List ℕ) (x : Event) (s' : ExpressionState) (t' : List ℕ) → starts is_white t ≡ true → item_step n (after_white t) ≡ goes x s' t' → ExpressionStepped (expression_state at_items n) t x s' t'
unfolding item_step
item_stepped n t x s' t' white e =
    let prefix = after_white-skips t in
    let some = white_some t prefix.white (after_white t) white prefix.whole (dark_after t) in
    elim (with_or_is (key_and_equals_at (after_white t)) (λ k. parameter_step (Some k.0) n k.1) (parameter_step None n (after_white t)) (goes x s' t') e) [
      | inl pair ↦
          let key = key_and_equals_at-some (after_white t) pair.0 pair.1 in
          to_hash_pair n prefix.white pair.0.0 key.before key.after pair.0.1 refl prefix.is some key.is key.white_before key.white_after
          (prefix.whole ∙ ap (λ (z : List ℕ). prefix.white ++ z) key.whole)
          (parameter_stepped (Some pair.0.0) n pair.0.1 x s' t' pair.2)
      | inr alone ↦ to_parameter n prefix.white (after_white t) refl prefix.is some prefix.whole (parameter_stepped None n (after_white t) x s' t' alone.1)
    ]

next_stepped : (st : Phase) (n : ℕ) (t : List ℕ) (x : Event) (s' : ExpressionState) (t' : List ℕ) → next_step st n t ≡ goes x s' t' → ExpressionStepped (expression_state st n) t x s' t'
next_stepped (at_name mode) n t x s' t' e = goes-not_stuck (goes x s' t') x s' t' refl (sym e)
next_stepped at_end n t x s' t' e = goes-not_stuck (goes x s' t') x s' t' refl (sym e)
next_stepped at_items n t x s' t' e = on (starts is_white t) refl e
  where
    on : (c : Bool) → starts is_white t ≡ c → cond c (item_step n (after_white t)) stuck ≡ goes x s' t' → ExpressionStepped (expression_state at_items n) t x s' t'
    on true is e = item_stepped n t x s' t' is e
    on false is e = goes-not_stuck (goes x s' t') x s' t' refl (sym e)

-- ---- after a name or an item

outer_stepped : (around : Enclosure) (st : Phase) (t : List ℕ) (x : Event) (s' : ExpressionState) (t' : List ℕ) → outer_step around st t ≡ goes x s' t' → ExpressionStepped (expression_state st 0) t x s' t'
outer_stepped around st t x s' t' e = elim (cond_is (is_end around t) ends (next_step st 0 t) (goes x s' t') e) [
  | inl over ↦ goes-not_ends (goes x s' t') x s' t' refl (sym over.1)
  | inr item ↦ next_stepped st 0 t x s' t' item.1
]

inner_stepped : (st : Phase) (n : ℕ) (t : List ℕ) (x : Event) (s' : ExpressionState) (t' : List ℕ) → is_at_name st ≡ false → inner_step st (suc n) t ≡ goes x s' t' → ExpressionStepped (expression_state st (suc n)) t x s' t'
inner_stepped st n t x s' t' other e = elim (with_or_is (after_byte 41 (after_white t)) (λ r. goes closed (expression_state at_items (suc n - 1)) r) (next_step st (suc n) t) (goes x s' t') e) [
  | inl shut ↦
      let same = goes-parts closed x (expression_state at_items (suc n - 1)) s' shut.0 t' shut.2 in
      let prefix = after_white-skips t in
      let less : suc n - 1 ≡ n = omega arith in
      to_closed n st prefix.white refl other (sym same.states ∙ ap (expression_state at_items) less) (sym same.events) prefix.is
      (prefix.whole ∙ ap (λ (z : List ℕ). prefix.white ++ z) (after_byte_takes 41 (after_white t) shut.0 shut.1 ∙ ap (λ (z : List ℕ). 41 ∷ z) same.lefts))
  | inr item ↦ next_stepped st (suc n) t x s' t' item.1
]

after_stepped : (around : Enclosure) (st : Phase) (n : ℕ) (t : List ℕ) (x : Event) (s' : ExpressionState) (t' : List ℕ) → is_at_name st ≡ false → after_step around st n t ≡ goes x s' t' → ExpressionStepped (expression_state st n) t x s' t'
unfolding after_step
after_stepped around st zero t x s' t' other e = outer_stepped around st t x s' t' e
after_stepped around st (suc n) t x s' t' other e = inner_stepped st n t x s' t' other (rw (eqb-suc-zero n) at e)

pub expression_stepped : (around : Enclosure) (s : ExpressionState) (t : List ℕ) (x : Event) (s' : ExpressionState) (t' : List ℕ) → expression_step around s t ≡ goes x s' t' → ExpressionStepped s t x s' t'
unfolding expression_step
expression_stepped around s t x s' t' e = on s.phase s.level e
  where
    on : (st : Phase) (n : ℕ) → expression_step around (expression_state st n) t ≡ goes x s' t' → ExpressionStepped (expression_state st n) t x s' t'
    on (at_name mode) n e = name_stepped mode n t x s' t' e
    on at_items n e = after_stepped around at_items n t x s' t' refl e
    on at_end n e = after_stepped around at_end n t x s' t' refl e

-- ---- the end

abbrev is_ends : {E S : Type 0} → ReadingStep E S → Bool
is_ends (goes x s t) = false
is_ends ends = true
is_ends stuck = false

never_ends : {E S A : Type 0} (n : ReadingStep E S) → n ≡ ends → is_ends n ≡ false → A
never_ends n e h = let no : true ≡ false = sym (ap is_ends e) ∙ h in absurd cc

path_goes_on : (key : Option (List ℕ)) (n : ℕ) (p : List ℕ × List ℕ) (c : Bool) → is_ends (cond c stuck (path_goes key n p)) ≡ false
path_goes_on key n p true = refl
path_goes_on key n p false = refl

parameter_ends : (key : Option (List ℕ)) (n : ℕ) (t : List ℕ) → is_ends (parameter_step key n t) ≡ false
unfolding parameter_step
parameter_ends key n t = on (after_byte 40 t) (literal_at t) (path_token_at t)
  where
    on : (o : Option (List ℕ)) (f : Option LiteralToken) (q : Option (List ℕ × List ℕ))
        → is_ends (with_or o (open_step key n) (with_or f (literal_goes key n) (with_or q (λ p. cond (is_excluded key p.0) stuck (path_goes key n p)) stuck))) ≡ false
    on (Some r) f q = refl
    on None (Some l) q = refl
    on None None None = refl
    on None None (Some p) = path_goes_on key n p (is_excluded key p.0)

plain_ends : (n : ℕ) (p : List ℕ × List ℕ) → is_ends (plain_step n p) ≡ false
plain_ends n p = on (length p.0 == 0)
  where
    on : (c : Bool) → is_ends (cond c stuck (goes (name_event p.0) (expression_state at_items n) p.1)) ≡ false
    on true = refl
    on false = refl

value_ends : (n : ℕ) (t : List ℕ) → is_ends (value_step n t) ≡ false
value_ends n t = on (path_token_at t)
  where
    on : (q : Option (List ℕ × List ℕ)) → is_ends (with_or q (name_goes n) stuck) ≡ false
    on None = refl
    on (Some p) = refl

opened_ends : (n : ℕ) (o : Option (List ℕ)) (other : ReadingStep Event ExpressionState) → is_ends other ≡ false → is_ends (with_or o (open_step None n) other) ≡ false
opened_ends n None other h = h
opened_ends n (Some r) other h = refl

opening_ends : (n : ℕ) (q : Option (List ℕ × List ℕ)) → is_ends (with_or q (opening_step n) stuck) ≡ false
opening_ends n None = refl
opening_ends n (Some p) = on (list_all is_symbol p.0) (is_close_name p.0)
  where
    on : (c d : Bool) → is_ends (cond c (goes (name_event p.0) (expression_state at_items n) p.1) (cond d (goes (path_event None p.0 n) (expression_state at_end n) p.1) stuck)) ≡ false
    on true d = refl
    on false true = refl
    on false false = refl

name_ends : (mode : NameMode) (n : ℕ) (t : List ℕ) → is_ends (name_step mode n t) ≡ false
unfolding name_step
name_ends identifier_name n t = plain_ends n (symbols_of t, after_symbols t)
name_ends value_name n t = opened_ends n (after_byte 40 t) (value_step n t) (value_ends n t)
name_ends close_name n t = opened_ends n (after_byte 40 t) (plain_step n (close_name_at t)) (plain_ends n (close_name_at t))
name_ends opening_name n t = opening_ends n (path_token_at t)

item_ends : (n : ℕ) (t : List ℕ) → is_ends (item_step n t) ≡ false
unfolding item_step
item_ends n t = on (key_and_equals_at t)
  where
    on : (o : Option (List ℕ × List ℕ)) → is_ends (with_or o (λ k. parameter_step (Some k.0) n k.1) (parameter_step None n t)) ≡ false
    on None = parameter_ends None n t
    on (Some k) = parameter_ends (Some k.0) n k.1

next_ends : (st : Phase) (n : ℕ) (t : List ℕ) → is_ends (next_step st n t) ≡ false
next_ends (at_name mode) n t = refl
next_ends at_end n t = refl
next_ends at_items n t = on (starts is_white t)
  where
    on : (c : Bool) → is_ends (cond c (item_step n (after_white t)) stuck) ≡ false
    on true = item_ends n (after_white t)
    on false = refl

inner_ends : (st : Phase) (n : ℕ) (t : List ℕ) → is_ends (inner_step st n t) ≡ false
inner_ends st n t = on (after_byte 41 (after_white t))
  where
    on : (o : Option (List ℕ)) → is_ends (with_or o (λ r. goes closed (expression_state at_items (n - 1)) r) (next_step st n t)) ≡ false
    on None = next_ends st n t
    on (Some r) = refl

outer_ends : (around : Enclosure) (st : Phase) (t : List ℕ) → outer_step around st t ≡ ends → Closes around t
outer_ends around st t e = elim (cond_is (is_end around t) ends (next_step st 0 t) ends e) [
  | inl over ↦ over.0
  | inr item ↦ never_ends (next_step st 0 t) item.1 (next_ends st 0 t)
]

after_ends : (around : Enclosure) (st : Phase) (n : ℕ) (t : List ℕ) → after_step around st n t ≡ ends → Closes around t × (n ≡ 0)
unfolding after_step
after_ends around st zero t e = (outer_ends around st t e, refl)
after_ends around st (suc n) t e = never_ends (inner_step st (suc n) t) (rw (eqb-suc-zero n) at e) (inner_ends st (suc n) t)

-- At the end no parenthesis is open, no name is awaited, and what is left closes.
pub record ExpressionEnds (around : Enclosure) (s : ExpressionState) (t : List ℕ) : Type 0 where
  pub other : is_at_name s.phase ≡ false
  pub level : s.level ≡ 0
  pub closes : Closes around t

pub expression_ends : (around : Enclosure) (s : ExpressionState) (t : List ℕ) → expression_step around s t ≡ ends → ExpressionEnds around s t
unfolding expression_step
expression_ends around s t e = on s.phase s.level e
  where
    on : (st : Phase) (n : ℕ) → expression_step around (expression_state st n) t ≡ ends → ExpressionEnds around (expression_state st n) t
    on (at_name mode) n e = never_ends (name_step mode n t) e (name_ends mode n t)
    on at_items n e = let h = after_ends around at_items n t e in record { other = refl; level = h.1; closes = h.0 }
    on at_end n e = let h = after_ends around at_end n t e in record { other = refl; level = h.1; closes = h.0 }
