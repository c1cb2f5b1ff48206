-- Values that are written, escaped or not.
use Rattle.std.proofs.Common.{◌≡◌, ◌≢◌, Bool, true, false, List, Option, Some, None, Err, refl, sym, ap, ap₂, subst}
use Rattle.std.specs.Prelude.{unwrap_or}
use Rattle.std.specs.declared.io.Error.{Error}
use Rattle.handlebars_base.specs.Answers.{gives, fails}
use Rattle.handlebars_base.specs.Bytes.{Text}
use Rattle.handlebars_base.specs.Reasons.{out_of_memory}
use Rattle.handlebars_base.specs.RenderRefusals.{reason_in, refusal_of}
use Rattle.handlebars_base.specs.Scoped.{Found, path_in, present_in}
use Rattle.handlebars_base.specs.Shown.{escaped_if}
use Rattle.handlebars_base.specs.declared.error.render_error.RenderError.{RenderError}
use Rattle.handlebars_helpers.specs.Escaping.{Escaping, UserEscape, HasEscaped, for_html, for_plain, by_user}
use Rattle.handlebars_semantics.specs.Pieces.{of_value, of_raw}
use Rattle.handlebars_semantics.specs.Questions.{escape_of}
use Rattle.handlebars_semantics.specs.Occurrences.{Occurrence, Whereabouts, whereabouts}
use Rattle.handlebars_semantics.specs.State.{Setting, State}
use Rattle.handlebars_semantics.specs.Steps.{ask}
use Rattle.handlebars_semantics.specs.Emitted.{escaped_value, provenance, raw_value}
use Rattle.handlebars_semantics.specs.Writing.{rendered_if_any, write_rendered, write_text, write_value}
use Rattle.handlebars_expand.specs.Boxed.{IsPropagated}
use Rattle.handlebars_write.specs.Shows.{entities_by, value_kind, value_origin}
use Rattle.handlebars_write.specs.View.{Answered, RefinesProg, Holding, Moment, moment_at}
use Rattle.handlebars_write.specs.Writes.{Puts}
use Rattle.handlebars_expand.proofs.Asked.{gives-ask, fails-ask}
use Rattle.handlebars_write.proofs.Refinement.{refines_prog-get, refines_prog-propagated, refines_prog-no_value, refines_prog-puts, refines_prog-value}

Some≢None : {A : Type 0} {x : A} → Some x ≡ None → ⊥
Some≢None e = cc

-- the result of escaping without a function, if escaping is on
has_escaped : (k : Escaping) (user : UserEscape) (entities : Bool) (t : Text) → Some entities ≡ entities_by k true
    → HasEscaped k user t (gives (escaped_if entities t))
has_escaped for_html user entities t is =
    ap (λ (b : Bool). gives (escaped_if b t)) (ap (λ (o : Option Bool). unwrap_or o true) is)
has_escaped for_plain user entities t is =
    ap (λ (b : Bool). gives (escaped_if b t)) (ap (λ (o : Option Bool). unwrap_or o true) is)
has_escaped by_user user entities t is = absurd (Some≢None is)

-- and if it is off
no_entities : (k : Escaping) (entities : Bool) → Some entities ≡ entities_by k false → entities ≡ false
no_entities for_html entities is = ap (λ (o : Option Bool). unwrap_or o true) is
no_entities for_plain entities is = ap (λ (o : Option Bool). unwrap_or o true) is
no_entities by_user entities is = ap (λ (o : Option Bool). unwrap_or o true) is

-- a function has to be asked only if it is user-defined and escaping is on
pub user_asked : (k : Escaping) (escapes : Bool) → None ≡ entities_by k escapes → (by_user ≡ k) × (escapes ≡ true)
user_asked for_html escapes is = cc
user_asked for_plain escapes is = cc
user_asked by_user true is = (refl, refl)
user_asked by_user false is = cc

-- what is emitted of a value's origin
pub value-provenance : (occurrence : Occurrence) (v : Found) (escapes : Bool) {w : Whereabouts} {path : Option (List Text)}
    → whereabouts occurrence ≡ w → path_in v ≡ path
    → provenance (value_origin occurrence v escapes) ≡ record { kind = value_kind escapes; location = w; path = path }
value-provenance occurrence v true at_occurrence path = ap₂ (λ w p. record { kind = escaped_value; location = w; path = p }) at_occurrence path
value-provenance occurrence v false at_occurrence path = ap₂ (λ w p. record { kind = raw_value; location = w; path = p }) at_occurrence path

module _ (p : Setting) (may : Error → Type 0) (occurrence : Occurrence) (v : Found) where
  shows_known : (entities escapes : Bool) {s next : State} {h new : Holding} {r : Answered}
      → Some entities ≡ entities_by p.parts.escape escapes
      → Puts (value_origin occurrence v escapes) (escaped_if entities (rendered_if_any (present_in v))) may (moment_at s h) r (moment_at next new)
      → RefinesProg p (write_rendered occurrence v escapes) may (moment_at s h) r (moment_at next new)
  shows_known entities true is puts =
      let t = rendered_if_any (present_in v) in
      refines_prog-value p may (ask (escape_of t)) (write_text (of_value occurrence v))
      (gives-ask p (escape_of t) (escaped_if entities t) (has_escaped p.parts.escape p.parts.user_escape entities t is))
      (refines_prog-puts p may (of_value occurrence v) (escaped_if entities t) puts)
  shows_known entities false {s = s} {next = next} {h = h} {new = new} {r = r} is puts =
      let t = rendered_if_any (present_in v) in
      refines_prog-puts p may (of_raw occurrence v) t
      (subst (λ (b : Bool). Puts (of_raw occurrence v) (escaped_if b t) may (moment_at s h) r (moment_at next new)) (no_entities p.parts.escape entities is) puts)

  -- a value that is written with entities or without
  pub value_known : (entities escapes : Bool) (t : Text) {s next : State} {h new : Holding} {r : Answered}
      → Some entities ≡ entities_by p.parts.escape escapes → rendered_if_any (present_in v) ≡ t → s.escapes ≡ escapes
      → Puts (value_origin occurrence v escapes) (escaped_if entities t) may (moment_at s h) r (moment_at next new)
      → RefinesProg p (write_value occurrence v) may (moment_at s h) r (moment_at next new)
  value_known entities escapes t {s = s} {next = next} {h = h} {new = new} {r = r} is same on puts =
      refines_prog-get p may (λ z. write_rendered occurrence v z.escapes)
      (subst (λ (b : Bool). RefinesProg p (write_rendered occurrence v b) may (moment_at s h) r (moment_at next new)) (sym on)
      (shows_known entities escapes is
      (subst (λ (z : Text). Puts (value_origin occurrence v escapes) (escaped_if entities z) may (moment_at s h) r (moment_at next new)) (sym same) puts)))

  -- ---- by a user-defined escape function

  asks_user_escape : {s : State} {h : Holding} {after : Moment} {r : Answered} → s.escapes ≡ true
      → RefinesProg p (write_rendered occurrence v true) may (moment_at s h) r after → RefinesProg p (write_value occurrence v) may (moment_at s h) r after
  asks_user_escape {s = s} {h = h} {after = after} {r = r} on a = refines_prog-get p may (λ z. write_rendered occurrence v z.escapes)
      (subst (λ (b : Bool). RefinesProg p (write_rendered occurrence v b) may (moment_at s h) r after) (sym on) a)

  module _ (t : Text) (user : by_user ≡ p.parts.escape) (same : rendered_if_any (present_in v) ≡ t) where
    -- what it answers is written
    pub user_text : (x : Text) {s next : State} {h new : Holding} {r : Answered} → s.escapes ≡ true
        → p.parts.user_escape t (gives x) → Puts (of_value occurrence v) x may (moment_at s h) r (moment_at next new)
        → RefinesProg p (write_value occurrence v) may (moment_at s h) r (moment_at next new)
    user_text x on has puts =
        let of = rendered_if_any (present_in v) in
        asks_user_escape on (refines_prog-value p may (ask (escape_of of)) (write_text (of_value occurrence v))
        (gives-ask p (escape_of of) x
        (subst (λ (k : Escaping). HasEscaped k p.parts.user_escape of (gives x)) user
        (subst (λ (z : Text). p.parts.user_escape z (gives x)) (sym same) has)))
        (refines_prog-puts p may (of_value occurrence v) x puts))

    -- and if it fails, the program fails
    pub user_failed : (e d : RenderError) {s next : State} {h : Holding} → s.escapes ≡ true → IsPropagated e d
        → (reason_in e ≢ out_of_memory → p.parts.user_escape t (fails (refusal_of e)))
        → RefinesProg p (write_value occurrence v) may (moment_at s h) (Err d) (moment_at next h)
    user_failed e d on propagated is =
        let of = rendered_if_any (present_in v) in
        asks_user_escape on (refines_prog-propagated p may e d propagated
        (refines_prog-no_value p may (ask (escape_of of)) (write_text (of_value occurrence v)) e
        (λ other. fails-ask p (escape_of of)
        (subst (λ (k : Escaping). HasEscaped k p.parts.user_escape of (fails (refusal_of e))) user
        (subst (λ (z : Text). p.parts.user_escape z (fails (refusal_of e))) (sym same) (is other))))))
