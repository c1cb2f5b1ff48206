-- The law of data: where a template leads as the rule has it, data stands only where it may.
use Rattle.std.proofs.Common.{◌≡◌, ℕ, Bool, true, false, if◌then◌else◌, ◌&&◌, ◌||◌, List, [], ◌∷◌, ◌++◌, refl, sym, ap, ◌∙◌, subst, Option, unwrap_or, arith}
use Rattle.std.specs.List.{list_all}
use Rattle.std.proofs.lemmas.Bool.Decides.{nat_tests}
use Rattle.std.proofs.lemmas.List.Folds.{list_all-append}
use Rattle.handlebars_base.specs.Answers.{gives}
use Rattle.handlebars_base.specs.Bytes.{Text}
use Rattle.handlebars_base.specs.Escape.{escaped_byte, escaped}
use Rattle.handlebars_base.specs.Scoped.{Found, present_in}
use Rattle.handlebars_base.specs.Values.{boolean_text}
use Rattle.handlebars_base.proofs.EscapedBytes.{IsOther, by_bytes, escaped_byte-other}
use Rattle.handlebars_scope.specs.LineState.{LineState}
use Rattle.handlebars_helpers.specs.Escaping.{Escaping, for_html, HasEscaped}
use Rattle.handlebars_helpers.specs.SafeUrl.{is_safe_url}
use Rattle.handlebars_semantics.specs.Occurrences.{Occurrence}
use Rattle.handlebars_semantics.specs.Pieces.{Origin, of_text, of_value, of_boolean_text, Piece, join, pieces_put}
use Rattle.handlebars_semantics.specs.Runs.{Prefix}
use Rattle.handlebars_semantics.specs.State.{Setting}
use Rattle.handlebars_semantics.specs.Writing.{rendered_if_any}
use Rattle.handlebars_semantics.proofs.Runs.{join-append}
use Rattle.handlebars_html.specs.Tokenizer.{stuck, is_refused, begins_url, after_address}
use Rattle.handlebars_html.specs.Html.{Html, beginning, step, after, is_safe, after_data, may_hold_url, after_url, is_unmarked, is_blank}
use Rattle.handlebars_html.specs.Safety.{html_rule, DataStandsSafely}
use Rattle.handlebars_html.proofs.Covers.{Covers, Covers-self, Covers-safe, after-covers, Stays-covers}
use Rattle.handlebars_html.proofs.Urls.{put-url, Covers-begins, address-covers, stays-here}
use Rattle.handlebars_html.proofs.Data.{after-append, Stays-self}
use Rattle.handlebars_html.proofs.Effects.{gives-same}
use Rattle.handlebars_html.proofs.Pieces.{AreSafe, AreSafe-append, AreSafe-prefix, stand_safely, calm, put-data, put-free, put-text}
use Rattle.handlebars_html.proofs.Plans.{Meaning}
use Rattle.handlebars_html.proofs.Walk.{Means-obeys}

-- ---- escaped texts

byte-unmarked : (b : ℕ) → list_all is_unmarked (escaped_byte b) ≡ true
unfolding is_unmarked
byte-unmarked = by_bytes (λ b. list_all is_unmarked (escaped_byte b) ≡ true) refl refl refl refl refl refl refl
    (λ b o. ap (list_all is_unmarked) (escaped_byte-other b o) ∙ other b o)
  where
    single : (b : ℕ) → is_unmarked b ≡ true → list_all is_unmarked (b ∷ []) ≡ true
    single b is = rw is refl

    other : (b : ℕ) → IsOther b → list_all is_unmarked (b ∷ []) ≡ true
    other b o = single b (let h0 = o.less in let h1 = o.greater in let h2 = o.quote in let h3 = o.apostrophe in let h4 = o.back in
        let h5 = o.equals in grind (arith, nat_tests))

pub escaped-unmarked : (t : Text) → list_all is_unmarked (escaped t) ≡ true
unfolding escaped
escaped-unmarked [] = refl
escaped-unmarked (b ∷ t) =
    list_all-append is_unmarked (escaped_byte b) (escaped t)
    ∙ ap (λ (x : Bool). x && list_all is_unmarked (escaped t)) (byte-unmarked b) ∙ escaped-unmarked t

boolean-unmarked : (b : Bool) → list_all is_unmarked (boolean_text b) ≡ true
unfolding is_unmarked
boolean-unmarked true = refl
boolean-unmarked false = refl

-- ---- what the rule says of pieces

-- From each state that is covered they stand safely, and lead to one that is covered.
abbrev Emits : Html → List Piece → Html → Type 0
Emits h ps g = (a : Html) → Covers h a → AreSafe a ps × Covers g (after a (join ps))

emits-join : (h m g : Html) (xs ys : List Piece) → Emits h xs m → Emits m ys g → Emits h (xs ++ ys) g
emits-join h m g xs ys first second a c =
    let x = first a c in
    let y = second (after a (join xs)) x.1 in (
      AreSafe-append a xs ys x.0 y.0,
      subst (Covers g) (sym (ap (after a) (join-append xs ys) ∙ after-append a (join xs) (join ys))) y.1,
    )

-- A run may stop within a piece, and nothing more is said of where.
emits-prefix : (h g : Html) (xs ys : List Piece) → Prefix xs ys → Emits h ys g → (m : Html) × Emits h xs m
emits-prefix h g xs ys f emits =
    (record beginning { tokenizer = stuck }, λ a c. (AreSafe-prefix f a (emits a c).0, tt))

false-true : {P : Type 0} → false ≡ true → P
false-true e = cc

or-false : (x : Bool) → (x || false) ≡ true → x ≡ true
or-false true is = refl
or-false false is = cc

-- An address that is put at the beginning of one stands safely, and leads to what is known after one.
put-there : (h a : Html) → begins_url h.tokenizer ≡ true → Covers h a → (o : Origin) (i : Option Text) (u : Text) (line : LineState)
    → list_all is_blank (unwrap_or i []) ≡ true → is_safe_url u ≡ true
    → AreSafe a (pieces_put o i (escaped u) line)
    × Covers (record h { tokenizer = after_address h.tokenizer }) (after a (join (pieces_put o i (escaped u) line)))
put-there h a begins c o i u line blank safe =
    let there = put-url a (Covers-begins h a begins c) o i u line blank safe (escaped-unmarked u) in
    (there.0, address-covers h a _ begins c there.1)

html_meaning : (p : Setting) → p.parts.escape ≡ for_html → Meaning p html_rule
html_meaning p for = record {
  Emits = Emits;
  nothing = λ h a c. (tt, c);
  join = λ first second. emits-join _ _ _ _ _ first second;
  prefix = λ f emits. emits-prefix _ _ _ _ f emits;
  text = text;
  value = value;
  raw = λ occurrence found i line h blank may. false-true may.0;
  url = url;
  boolean = boolean;
  no_value = λ escapes h may a c. (tt, Stays-covers h a a may.1 c (Stays-self a));
  no_url = no_url;
  no_indent = refl;
  join_indent = λ i j x y. list_all-append is_blank i j ∙ ap (λ (b : Bool). b && list_all is_blank j) x ∙ y;
}
  where
    text : (occurrence : Occurrence) (i : Option Text) (t : Text) (line : LineState) (h : Html)
        → list_all is_blank (unwrap_or i []) ≡ true → (after (step h 32) t ≡ after h t) × (is_refused (after h t).tokenizer ≡ false)
        → Emits h (pieces_put (of_text occurrence) i t line) (after h t)
    text occurrence i t line h blank may a c = (
      put-free occurrence i t line a,
      subst (λ (g : Html). Covers g (after a (join (pieces_put (of_text occurrence) i t line))))
          (put-text (of_text occurrence) i t line h blank may.0)
          (after-covers h a (join (pieces_put (of_text occurrence) i t line)) c),
    )

    escaped-is : (e : Escaping) → e ≡ for_html → (t a : Text) → HasEscaped e p.parts.user_escape t (gives a) → a ≡ escaped t
    escaped-is e is t a has =
        gives-same a (escaped t) (subst (λ (x : Escaping). HasEscaped x p.parts.user_escape t (gives a)) is has)

    value : (occurrence : Occurrence) (found : Found) (i : Option Text) (t : Text) (line : LineState) (h : Html)
        → list_all is_blank (unwrap_or i []) ≡ true → (true ≡ true) × (is_safe h ≡ true)
        → HasEscaped p.parts.escape p.parts.user_escape (rendered_if_any (present_in found)) (gives t)
        → Emits h (pieces_put (of_value occurrence found) i t line) (after_data h)
    value occurrence found i t line h blank may has a c =
        let unmarked = ap (list_all is_unmarked) (escaped-is p.parts.escape for (rendered_if_any (present_in found)) t has)
        ∙ escaped-unmarked (rendered_if_any (present_in found)) in
        let there = put-data (of_value occurrence found) i t line a blank (Covers-safe h a may.1 c) unmarked in
        (there.0, Stays-covers h a _ may.1 c there.1)

    url : (occurrence : Occurrence) (found : Found) (i : Option Text) (t : Text) (line : LineState) (h : Html)
        → list_all is_blank (unwrap_or i []) ≡ true → may_hold_url h ≡ true
        → is_safe_url (rendered_if_any (present_in found)) ≡ true
        → HasEscaped p.parts.escape p.parts.user_escape (rendered_if_any (present_in found)) (gives t)
        → Emits h (pieces_put (of_value occurrence found) i t line) (after_url h)
    url occurrence found i t line h blank may safe has = by (begins_url h.tokenizer) refl may
      where
        u : Text
        u = rendered_if_any (present_in found)

        is : t ≡ escaped u
        is = escaped-is p.parts.escape for u t has

        by : (x : Bool) → begins_url h.tokenizer ≡ x → (is_safe h || x) ≡ true
            → Emits h (pieces_put (of_value occurrence found) i t line)
            (if x then record h { tokenizer = after_address h.tokenizer } else after_data h)
        by true begins m = λ a c. subst
            (λ (z : Text). AreSafe a (pieces_put (of_value occurrence found) i z line)
            × Covers (record h { tokenizer = after_address h.tokenizer }) (after a (join (pieces_put (of_value occurrence found) i z line))))
            (sym is) (put-there h a begins c (of_value occurrence found) i u line blank safe)
        by false begins m = value occurrence found i t line h blank (refl, or-false (is_safe h) m) has

    no_url : (h : Html) → may_hold_url h ≡ true → Emits h [] (after_url h)
    no_url h may = by (begins_url h.tokenizer) refl may
      where
        by : (x : Bool) → begins_url h.tokenizer ≡ x → (is_safe h || x) ≡ true
            → Emits h [] (if x then record h { tokenizer = after_address h.tokenizer } else after_data h)
        by true begins m a c = (tt, address-covers h a a begins c (stays-here a (Covers-begins h a begins c)))
        by false begins m a c = (tt, Stays-covers h a a (or-false (is_safe h) m) c (Stays-self a))

    boolean : (occurrence : Occurrence) (b escapes : Bool) (h : Html) → (escapes ≡ true) × (is_safe h ≡ true)
        → Emits h (record { origin = of_boolean_text occurrence b; text = boolean_text b } ∷ []) (after_data h)
    boolean occurrence b escapes h may a c =
        let there = calm a (Covers-safe h a may.1 c) (record { origin = of_boolean_text occurrence b; text = boolean_text b } ∷ [])
        (boolean-unmarked b, tt) in
        (there.0, Stays-covers h a _ may.1 c there.1)

-- ---- the law

pub data_stands_safely : (p : Setting) → DataStandsSafely p
unfolding html_meaning
data_stands_safely p for table usual closed t leads recursive ps o r =
    let obeys = Means-obeys p html_rule table (html_meaning p for) usual closed t beginning (λ g. Unit {0}) leads recursive ps o r in
    stand_safely ps (obeys.0.emits beginning (Covers-self beginning)).0
