-- The inside of a tag is a suffix of its source after some braces, and that of a comment follows `{{!`.
use Rattle.std.proofs.Common.{◌≡◌, ◌≢◌, ◌<◌, Bool, true, false, cond, List, [], ◌∷◌, length, Option, Some, None, refl, ap, subst, ◌∙◌, codes, inl, inr, arith, length-append}
use Rattle.std.specs.List.{AllByRecursion}
use Rattle.std.proofs.lemmas.Option.{same_Some, none-some}
use Rattle.handlebars_base.specs.Bytes.{Text, after_white}
use Rattle.handlebars_base.specs.Optional.{◌>>=◌}
use Rattle.handlebars_base.proofs.OptionBinds.{bind_some, with_or_is, cond_is}
use Rattle.handlebars_base.specs.Texts.{IsSuffix, after_byte}
use Rattle.handlebars_base.proofs.Ends.{end-all, end-after, end-white, end-after_white, length-end}
use Rattle.handlebars_expressions.specs.Expression.{tilde}
use Rattle.handlebars_lexer.specs.Kind.{TagKind, escaped_kind, html_kind, html_sign_kind, block_kind, close_kind, inverse_kind, else_kind, raw_kind, raw_close_kind, decorator_kind, decorator_block_kind, partial_kind, partial_block_kind, comment_kind, after_text, TagBeginning, beginning, tilde_at, Tilde, maybe_tilde, a_tilde, no_tilde, Sign, no_sign, mark, word, Row, row, rows, after_tilde, ends_word, after_sign, row_at, first_of, beginning_of}
use Rattle.handlebars_lexer.proofs.Marks.{after_text-takes}

-- ---- suffixes of a text

pub end-after_text : (m t r : Text) → after_text m t ≡ Some r → IsSuffix t r
end-after_text m t r e = (m, after_text-takes m t r e)

pub end-tilde : (t : Text) → IsSuffix t (tilde_at t).1
end-tilde t = elim (with_or_is (after_byte tilde (after_white t)) (λ r. (true, after_white r)) (false, after_white t) (tilde_at t) refl) [
  | inl some ↦ subst (λ (p : Bool × Text). IsSuffix t p.1) some.2 (end-after t (after_white t) (after_white some.0) (end-white t) (end-after_white tilde (after_white t) some.0 some.1))
  | inr none ↦ subst (λ (p : Bool × Text). IsSuffix t p.1) none.1 (end-white t)
]

end-after_tilde : (m : Tilde) (t : Text) (p : Bool × Text) → after_tilde m t ≡ Some p → IsSuffix t p.1
end-after_tilde maybe_tilde t p e = subst (λ (q : Bool × Text). IsSuffix t q.1) (same_Some (tilde_at t) p e) (end-tilde t)
end-after_tilde a_tilde t p e =
    let h = bind_some (after_byte tilde (after_white t)) (λ r. Some (true, after_white r)) p e in
    subst (λ (q : Bool × Text). IsSuffix t q.1) (same_Some (true, after_white h.0) p h.2)
    (end-after t (after_white t) (after_white h.0) (end-white t) (end-after_white tilde (after_white t) h.0 h.1))
end-after_tilde no_tilde t p e = subst (λ (q : Bool × Text). IsSuffix t q.1) (same_Some (false, t) p e) (end-all t)

end-after_sign : (s : Sign) (t r : Text) → after_sign s t ≡ Some r → IsSuffix t r
end-after_sign no_sign t r e = subst (IsSuffix t) (same_Some t r e) (end-all t)
end-after_sign (mark m) t r e =
    let h = bind_some (after_text m t) (λ s. Some (after_white s)) r e in
    subst (IsSuffix t) (same_Some (after_white h.0) r h.2) (end-after t h.0 (after_white h.0) (end-after_text m t h.0 h.1) (end-white h.0))
end-after_sign (word w) t r e =
    let h = bind_some (after_text w t) (λ s. cond (ends_word s) (Some s) None) r e in
    elim (cond_is (ends_word h.0) (Some h.0) None (Some r) h.2) [
      | inl there ↦ subst (IsSuffix t) (same_Some h.0 r there.1) (end-after_text w t h.0 h.1)
      | inr none ↦ absurd (none-some r none.1)
    ]

-- ---- what begins a tag

-- The braces of a tag precede its inside, and `{{!` precedes that of a comment.
pub record Begun (left : Text) (b : TagBeginning) : Type 0 where
  pub end : IsSuffix left b.inside
  pub shorter : length b.inside < length left
  pub comment : b.kind ≡ comment_kind → after_text (codes "{{!") left ≡ Some b.inside

-- what a row reads at the start of a text: its braces, what is after them, and its kind
record RowRead (r : Row) (t : Text) (b : TagBeginning) : Type 0 where
  after : Text
  read : Bool × Text
  braces : after_text r.braces t ≡ Some after
  tilde : after_tilde r.tilde after ≡ Some read
  sign : after_sign r.sign read.1 ≡ Some b.inside
  kind : r.kind ≡ b.kind

row-read : (r : Row) (t : Text) (b : TagBeginning) → row_at r t ≡ Some b → RowRead r t b
row-read r t b e =
    let last : Bool × Text → Option TagBeginning = λ p. after_sign r.sign p.1 >>= λ inside. Some (beginning r.kind p.0 inside) in
    let h = bind_some (after_text r.braces t >>= after_tilde r.tilde) last b e in
    let k = bind_some (after_text r.braces t) (after_tilde r.tilde) h.0 h.1 in
    let l = bind_some (after_sign r.sign h.0.1) (λ inside. Some (beginning r.kind h.0.0 inside)) b h.2 in
    let same = same_Some (beginning r.kind h.0.0 l.0) b l.2 in
    record {
      after = k.0;
      read = h.0;
      braces = k.1;
      tilde = k.2;
      sign = l.1 ∙ ap (λ (c : TagBeginning). Some c.inside) same;
      kind = ap (λ (c : TagBeginning). c.kind) same;
    }

-- what begins by this row is `Begun`
record IsBegun (r : Row) : Type 0 where
  begins : (t : Text) (b : TagBeginning) → row_at r t ≡ Some b → Begun t b

begun-row : (r : Row) → 0 < length r.braces → ((t : Text) (b : TagBeginning) → RowRead r t b → b.kind ≡ comment_kind → after_text (codes "{{!") t ≡ Some b.inside) → IsBegun r
begun-row r long comment = record {
  begins = λ t b e.
      let x = row-read r t b e in
      let inner : IsSuffix x.after b.inside = end-after x.after x.read.1 b.inside (end-after_tilde r.tilde x.after x.read x.tilde) (end-after_sign r.sign x.read.1 b.inside x.sign) in
      record {
        end = end-after t x.after b.inside (end-after_text r.braces t x.after x.braces) inner;
        shorter = omega (arith, long, ap length (after_text-takes r.braces t x.after x.braces), length-append r.braces x.after, length-end x.after b.inside inner);
        comment = comment t b x;
      };
}

comment : IsBegun (row (codes "{{!") no_tilde no_sign comment_kind)
comment = begun-row (row (codes "{{!") no_tilde no_sign comment_kind) (omega arith)
    (λ t b x k. x.braces ∙ ap (λ (p : Bool × Text). Some p.1) (same_Some (false, x.after) x.read x.tilde) ∙ x.sign)

-- one row, and more after it
infixr 10 ◌&◌
◌&◌ : {A B : Type 0} → A → B → A × B
h & k = (h, k)

-- a row of another kind
other : (braces : Text) (tilde : Tilde) (sign : Sign) (kind : TagKind) → 0 < length braces → kind ≢ comment_kind → IsBegun (row braces tilde sign kind)
other braces tilde sign kind long plain = begun-row (row braces tilde sign kind) long (λ t b x k. absurd (plain (x.kind ∙ k)))

begun-rows : AllByRecursion IsBegun rows
begun-rows =
    other _ _ _ raw_close_kind (omega arith) (λ e. cc) &
    other _ _ _ raw_kind (omega arith) (λ e. cc) &
    other _ _ _ html_kind (omega arith) (λ e. cc) &
    comment &
    other _ _ _ html_kind (omega arith) (λ e. cc) &
    other _ _ _ html_sign_kind (omega arith) (λ e. cc) &
    other _ _ _ decorator_block_kind (omega arith) (λ e. cc) &
    other _ _ _ partial_block_kind (omega arith) (λ e. cc) &
    other _ _ _ block_kind (omega arith) (λ e. cc) &
    other _ _ _ close_kind (omega arith) (λ e. cc) &
    other _ _ _ inverse_kind (omega arith) (λ e. cc) &
    other _ _ _ decorator_kind (omega arith) (λ e. cc) &
    other _ _ _ partial_kind (omega arith) (λ e. cc) &
    other _ _ _ else_kind (omega arith) (λ e. cc) &
    other _ _ _ escaped_kind (omega arith) (λ e. cc) &
    record {}

begun-first : (rs : List Row) (t : Text) (b : TagBeginning) → AllByRecursion IsBegun rs → first_of rs t ≡ Some b → Begun t b
begun-first [] t b h e = absurd (none-some b e)
begun-first (r ∷ rs) t b h e = elim (with_or_is (row_at r t) Some (first_of rs t) (Some b) e) [
  | inl here ↦ h.0.begins t b (here.1 ∙ here.2)
  | inr later ↦ begun-first rs t b h.1 later.1
]

pub begun : (left : Text) (b : TagBeginning) → beginning_of left ≡ Some b → Begun left b
unfolding beginning_of
begun left b e = begun-first rows left b begun-rows e
