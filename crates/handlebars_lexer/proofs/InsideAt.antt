-- Reading the inside of a tag, where memory may run out.
use Rattle.std.proofs.Common.{◌≡◌, true, Option, Some, None, Result, Ok, Err, ap, codes, drop}
use Rattle.std.specs.Prelude.{IfOk}
use Rattle.std.specs.Option.{MatchOption}
use denote.Ref.{Bor}
use Rattle.handlebars_base.specs.Bytes.{Text}
use Rattle.handlebars_expressions.specs.Expression.{value_name, close_name}
use Rattle.handlebars_lexer.specs.Kind.{TagKind, escaped_kind, html_kind, html_sign_kind, partial_kind, partial_block_kind, after_text}
use Rattle.handlebars_lexer.specs.TagView.{NoClosedExpression, NoneClosed, HasClosedExpression, HasInside}
use Rattle.handlebars_lexer.specs.declared.tag.inside.Inside.{Inside}
use Rattle.handlebars_lexer.specs.declared.tag.inside.Content.TheVariants.{Expression, Html, Partial, PartialBlock}
use Rattle.handlebars_lexer.proofs.Marks.{after_text-takes}
use Rattle.handlebars_lexer.proofs.InsidesRead.{escaped_read, html_read, html_sign_read, partial_read, partial_block_read}

abbrev pub ReadsInside : TagKind → Text → Option Inside → Type 0
ReadsInside k t r = MatchOption r (NoneClosed k t) (λ i. HasInside k t i)

abbrev pub ReadsPlain : TagKind → Text → Option Inside → Type 0
ReadsPlain k t r = MatchOption r (NoneClosed k t) (λ i. HasInside k t i × (i.long_ahead ≡ true))

pub plain_reads : (k : TagKind) (t : Text) (r : Option Inside) → ReadsPlain k t r → ReadsInside k t r
plain_reads k t None h = h
plain_reads k t (Some i) h = h.0

pub plain_reads-Ok : {E : Type 0} (k : TagKind) (t : Text) (r : Result (Option Inside) E) → IfOk r (ReadsPlain k t) → IfOk r (ReadsInside k t)
plain_reads-Ok k t (Ok r) h = plain_reads k t r h
plain_reads-Ok k t (Err e) h = h

pub escaped_reads : {E : Type 0} (t : Bor Text) (r : Result (Option Inside) E) → IfOk r (λ o. MatchOption o (NoClosedExpression escaped_kind value_name t.now) (λ i. HasClosedExpression escaped_kind value_name t.now (Expression t) i))
    → IfOk r (ReadsInside escaped_kind t.now)
escaped_reads t (Ok r) h = escaped_read t r h
escaped_reads t (Err e) h = h

pub html_reads : {E : Type 0} (t : Bor Text) (r : Result (Option Inside) E) → IfOk r (λ o. MatchOption o (NoClosedExpression html_kind value_name t.now) (λ i. HasClosedExpression html_kind value_name t.now (Html t) i))
    → IfOk r (ReadsInside html_kind t.now)
html_reads t (Ok r) h = html_read t r h
html_reads t (Err e) h = h

pub html_sign_reads : {E : Type 0} (t : Bor Text) (r : Result (Option Inside) E) → IfOk r (λ o. MatchOption o (NoClosedExpression html_sign_kind value_name t.now) (λ i. HasClosedExpression html_sign_kind value_name t.now (Html t) i))
    → IfOk r (ReadsInside html_sign_kind t.now)
html_sign_reads t (Ok r) h = html_sign_read t r h
html_sign_reads t (Err e) h = h

pub partial_reads : {E : Type 0} (t : Bor Text) (r : Result (Option Inside) E) → IfOk r (λ o. MatchOption o (NoClosedExpression partial_kind close_name t.now) (λ i. HasClosedExpression partial_kind close_name t.now (Partial t) i))
    → IfOk r (ReadsInside partial_kind t.now)
partial_reads t (Ok r) h = partial_read t r h
partial_reads t (Err e) h = h

pub partial_block_reads : {E : Type 0} (t : Bor Text) (r : Result (Option Inside) E) → IfOk r (λ o. MatchOption o (NoClosedExpression partial_block_kind close_name t.now) (λ i. HasClosedExpression partial_block_kind close_name t.now (PartialBlock t) i))
    → IfOk r (ReadsInside partial_block_kind t.now)
partial_block_reads t (Ok r) h = partial_block_read t r h
partial_block_reads t (Err e) h = h

pub after_braces : (left inside : Text) → after_text (codes "{{!") left ≡ Some inside → drop 3 left ≡ inside
after_braces left inside e = ap (drop 3) (after_text-takes (codes "{{!") left inside e)
