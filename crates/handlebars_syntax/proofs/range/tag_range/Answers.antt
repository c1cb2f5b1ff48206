use Rattle.std.proofs.Common.{◌≡◌, ℕ, ◌+◌, drop, arith, rules, sym, ap, ◌∙◌, subst, IsCharBoundary, IsUtf8}
use Rattle.std.proofs.Common.{true, max}
use Rattle.handlebars_lexer.specs.Tag.{NoTag}
use Rattle.handlebars_report.specs.Position.{IsOffsetOf}
use Rattle.handlebars_report.specs.declared.position.Position.{Position}
use Rattle.handlebars_syntax.proofs.Ranges.{line_len, line-within, LiesIn-line, LiesIn-tag, IsTagFrom-tag, IsTagFrom-none}
use Rattle.handlebars_syntax.proofs.range.tag_range.Goals as goal

pub overflow_add-end : goal.overflow_add-end
overflow_add-end c =
    let source = c.args.source.now in
    let start = c.start-start.result.offset in
    let starts : IsCharBoundary source start = subst (λ (p : Position). IsCharBoundary source p.offset) (sym c.start-start.ensures) c.in_ok-at_position.ensures.lies.starts in
    let len : c.line_len.result ≡ line_len (drop start source) = c.line_len.ensures ∙ ap line_len (c.as_bytes.ensures.value ∙ c.split_at.ensures.back) in
    omega (arith, line-within source start starts.0)

pub returns-in-Some-clause-tag : goal.returns-in-Some-clause-tag
returns-in-Some-clause-tag c =
    let source = c.args.source.now in
    let start = c.start-start.result.offset in
    let starts : IsCharBoundary source start = subst (λ (p : Position). IsCharBoundary source p.offset) (sym c.start-start.ensures) c.in_ok-at_position.ensures.lies.starts in
    let f = rw c.in-Some.is at c.in_ok-tag.ensures.reads in
    record {
      at = subst (λ (p : Position). IsOffsetOf source (max c.args.line 1) (max c.args.column 1) p.offset) (sym c.start-start.ensures) c.in_ok-at_position.ensures.at;
      tag = IsTagFrom-tag source f.token c.in-Some.tag.rest.now start f.tag _ starts.0 (sym c.split_at.ensures.back ∙ f.whole) f.is_tag;
    }

pub returns-in-Some-clause-lies : goal.returns-in-Some-clause-lies
returns-in-Some-clause-lies c =
    let source = c.args.source.now in
    let start = c.start-start.result.offset in
    let starts : IsCharBoundary source start = subst (λ (p : Position). IsCharBoundary source p.offset) (sym c.start-start.ensures) c.in_ok-at_position.ensures.lies.starts in
    let f = rw c.in-Some.is at c.in_ok-tag.ensures.reads in
    let utf8 : IsUtf8 c.in-Some.tag.rest.now = search rules in
    LiesIn-tag source f.token c.in-Some.tag.rest.now start utf8 starts (sym c.split_at.ensures.back ∙ f.whole)

pub returns-in-None-clause-tag : goal.returns-in-None-clause-tag
returns-in-None-clause-tag c =
    let source = c.args.source.now in
    let start = c.start-start.result.offset in
    let len : c.line_len.result ≡ line_len (drop start source) = c.line_len.ensures ∙ ap line_len (c.as_bytes.ensures.value ∙ c.split_at.ensures.back) in
    let none = rw c.in-None.is at c.in_ok-tag.ensures.reads in
    record {
      at = subst (λ (p : Position). IsOffsetOf source (max c.args.line 1) (max c.args.column 1) p.offset) (sym c.start-start.ensures) c.in_ok-at_position.ensures.at;
      tag = IsTagFrom-none source start _ (subst (NoTag true) c.split_at.ensures.back none) (ap (λ (n : ℕ). start + n) len);
    }

pub returns-in-None-clause-lies : goal.returns-in-None-clause-lies
returns-in-None-clause-lies c =
    let source = c.args.source.now in
    let start = c.start-start.result.offset in
    let starts : IsCharBoundary source start = subst (λ (p : Position). IsCharBoundary source p.offset) (sym c.start-start.ensures) c.in_ok-at_position.ensures.lies.starts in
    let len : c.line_len.result ≡ line_len (drop start source) = c.line_len.ensures ∙ ap line_len (c.as_bytes.ensures.value ∙ c.split_at.ensures.back) in
    LiesIn-line source start _ starts (ap (λ (n : ℕ). start + n) len)
