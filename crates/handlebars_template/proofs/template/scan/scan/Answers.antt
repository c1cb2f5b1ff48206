use Rattle.std.proofs.Common.{◌≡◌, true, None, ◌≤◌, arith, rules, sym, ap, ◌∙◌, length, string_bytes}
use Rattle.std.specs.List.{fold}
use Rattle.std.specs.Str.{IsUtf8}
use Rattle.handlebars_base.proofs.OptionBinds.{is_empty_length, nonempty}
use Rattle.handlebars_base.proofs.Ends.{take-prefix}
use Rattle.handlebars_lexer.specs.Trim.{is_fresh_after}
use Rattle.handlebars_lexer.specs.TrimView.{control_view}
use Rattle.handlebars_lexer.proofs.OneTag.{one_tag}
use Rattle.handlebars_template.specs.Position.{position_after}
use Rattle.handlebars_template.specs.OptionsView.{options_view}
use Rattle.handlebars_template.specs.TreeView.{position_of}
use Rattle.handlebars_template.specs.Machine.{open_in, early_in}
use Rattle.handlebars_template.specs.Compile.{tag_piece}
use Rattle.handlebars_template.specs.NestView.{positioned_view, open_blocks, late_of, nesting_error}
use Rattle.handlebars_template.specs.ScanView.{nested_outcome}
use Rattle.handlebars_template.proofs.NestsFits.{apply-early, apply-stops}
use Rattle.handlebars_template.proofs.Scan.{HasNoLong-after, Scans-at, Scans-fits, Scans-fits_after, Scans-step, Scans-end, Compiles-unreadable, Compiles-misplaced, NoTagAfter-none, NoTagAfter-other, IsCharBoundary-seam, IsUtf8-prefix, length-rest, fresh-split, control-split}
use Rattle.handlebars_template.proofs.TagsBuilt.{knows_name}
use Rattle.handlebars_template.proofs.template.scan.scan.Goals as goal

pub tags-init : goal.tags-init
tags-init c =
    let prefix = c.in_ok-prefix.prefix in
    record {
      token_utf8 = search rules;
      rest_utf8 = search rules;
      no_long = λ e. cc;
      scans = Scans-at c.args.source.now (options_view c.args.options.now) prefix.token.now (string_bytes prefix.unescaped) prefix.rest.now (control_view c.no_control-control.result) _ _ _ _ c.no_control-control.ensures c.in_ok-prefix.ensures.whole
          (rw c.braces_after.ensures at c.in_ok-prefix.ensures.reads) c.new-nesting.ensures.late c.new-nesting.ensures.depth c.new-nesting.ensures.open_blocks c.new-nesting.ensures.elements;
    }

pub advance-at-requires-clause-line : goal.advance-at-requires-clause-line
advance-at-requires-clause-line c = omega (arith, Scans-fits c.tags.invariant.scans)

pub advance-at-requires-clause-column : goal.advance-at-requires-clause-column
advance-at-requires-clause-column c = omega (arith, Scans-fits c.tags.invariant.scans)

pub returns-in_default : goal.returns-in_default
returns-in_default c =
    let left = c.tags.prefix.rest.now in
    Compiles-unreadable c.tags.invariant.scans (nonempty left c.tags-test.ensures) (NoTagAfter-none (options_view c.args.options.now) (control_view c.tags.control) left (rw c.in_default.is at c.in_ok-tag.ensures.reads)) (position_of c.advance-at.result) c.advance-at.ensures

pub returns-then-not-may_follow : goal.returns-then-not-may_follow
returns-then-not-may_follow c =
    let left = c.tags.prefix.rest.now in
    let f = rw c.in-Some.is at c.in_ok-tag.ensures.reads in
    let other = sym (c.may_follow.ensures f.tag f.holds) ∙ c.if-not-may_follow.true in
    Compiles-unreadable c.tags.invariant.scans (nonempty left c.tags-test.ensures) (NoTagAfter-other one_tag (options_view c.args.options.now) (control_view c.tags.control) left f.token c.in-Some.tag.rest.now f.tag _ f.whole f.is_tag other) (position_of c.advance-at.result) c.advance-at.ensures

pub split_at-requires : goal.split_at-requires
split_at-requires c =
    let f = rw c.in-Some.is at c.in_ok-tag.ensures.reads in
    IsCharBoundary-seam c.tags.prefix.rest.now f.token c.in-Some.tag.rest.now f.whole (search rules)

pub returns-in-Some-look : goal.returns-in-Some-look
returns-in-Some-look c =
    let f = rw c.in-Some.is at c.in_ok-tag.ensures.reads in
    let at = position_of c.advance-at.result in
    let next = control_view c.control_after-next.result in
    let state = c.add_text.new.nesting in
    Compiles-misplaced c.tags.invariant.scans f.tag _ f.token c.in-Some.tag.rest.now at c.fresh_after-fresh_here.result next
    (record {
      here = record { whole = f.whole; is_tag = f.is_tag; follows = sym (c.may_follow.ensures f.tag f.holds) ∙ c.if-not-may_follow.false };
      there = c.advance-at.ensures;
      lines = fresh-split c.tags.fresh c.fresh_after-fresh_here.result c.tags.prefix.token.now c.split_blanks.result.0.now c.split_blanks.ensures.prefix c.fresh_after-fresh_here.ensures;
      control = control-split c.fresh_after-fresh_here.result c.tags.prefix.token.now c.split_blanks.result.1.now f.tag _ c.in-Some.tag.rest.now next c.split_blanks.ensures.blanks (c.control_after-next.ensures f.tag f.holds);
    })
    (late_of state) state.depth (open_blocks state) (positioned_view state.elements)
    (record { depth = c.in_ok-add_text.ensures.depth; open_blocks = c.in_ok-add_text.ensures.open_blocks; late_unchanged = c.in_ok-add_text.ensures.late; elements = c.in_ok-add_text.ensures.elements })
    (nesting_error at c.in-Some-look.error)
    (apply-stops (tag_piece (options_view c.args.options.now) at next f.tag) state.depth (open_blocks state) (positioned_view state.elements) (nesting_error at c.in-Some-look.error)
    (sym (rw c.in-Some-look.is at (c.look.ensures (options_view c.args.options.now) at next f.tag f.holds f.deep))))

pub take_tag-requires : goal.take_tag-requires
take_tag-requires c =
    let f = rw c.in-Some.is at c.in_ok-tag.ensures.reads in
    knows_name c.in-Some.tag.content f.tag f.holds

pub advance-position-requires-clause-line : goal.advance-position-requires-clause-line
advance-position-requires-clause-line c =
    let le : length c.split_at.result.0.now ≤ length c.tags.prefix.rest.now = omega arith in
    omega (arith, Scans-fits_after c.tags.invariant.scans c.tags.invariant.token_utf8 (position_of c.advance-at.result) c.advance-at.ensures (length c.split_at.result.0.now) le)

pub advance-position-requires-clause-column : goal.advance-position-requires-clause-column
advance-position-requires-clause-column c =
    let le : length c.split_at.result.0.now ≤ length c.tags.prefix.rest.now = omega arith in
    omega (arith, Scans-fits_after c.tags.invariant.scans c.tags.invariant.token_utf8 (position_of c.advance-at.result) c.advance-at.ensures (length c.split_at.result.0.now) le)

pub tags-smaller : goal.tags-smaller
tags-smaller c =
    let f = rw c.in-Some.is at c.in_ok-tag.ensures.reads in
    let prefix = c.in_ok-prefix-2.prefix in
    length-rest true c.tags.prefix.rest.now f.token c.in-Some.tag.rest.now prefix.token.now prefix.rest.now f.tag _ f.whole f.is_tag c.in_ok-prefix-2.ensures.whole

pub tags-preserved : goal.tags-preserved
tags-preserved c =
    let f = rw c.in-Some.is at c.in_ok-tag.ensures.reads in
    let left = c.tags.prefix.rest.now in
    let rest = c.in-Some.tag.rest.now in
    let prefix = c.in_ok-prefix-2.prefix in
    let at = position_of c.advance-at.result in
    let mid = c.fresh_after-fresh_here.result in
    let next = control_view c.control_after-next.result in
    let state = c.add_text.new.nesting in
    let last = c.take_tag.new.nesting in
    let rest_utf8 : IsUtf8 rest = search rules in
    let early : early_in state.depth (open_in (open_blocks state)) (tag_piece (options_view c.args.options.now) at next f.tag) ≡ None = sym (rw c.in_default-look.is at (c.look.ensures (options_view c.args.options.now) at next f.tag f.holds f.deep)) in
    let done = c.in_ok-take_tag.ensures f.tag f.holds early in
    let same : c.split_at.result.0.now ≡ f.token = c.split_at.ensures.front ∙ take-prefix left f.token rest f.whole in
    record {
      token_utf8 = search rules;
      rest_utf8 = search rules;
      no_long = HasNoLong-after c.in-Some.tag.long_ahead rest prefix.token.now prefix.rest.now c.in_ok-prefix-2.ensures.whole (rw c.in-Some.is at c.in_ok-tag.ensures.ahead);
      scans = Scans-step c.tags.invariant.scans f.tag _ f.token rest at mid next
          (record {
            here = record { whole = f.whole; is_tag = f.is_tag; follows = sym (c.may_follow.ensures f.tag f.holds) ∙ c.if-not-may_follow.false };
            there = c.advance-at.ensures;
            lines = fresh-split c.tags.fresh c.fresh_after-fresh_here.result c.tags.prefix.token.now c.split_blanks.result.0.now c.split_blanks.ensures.prefix c.fresh_after-fresh_here.ensures;
            control = control-split c.fresh_after-fresh_here.result c.tags.prefix.token.now c.split_blanks.result.1.now f.tag _ c.in-Some.tag.rest.now next c.split_blanks.ensures.blanks (c.control_after-next.ensures f.tag f.holds);
          })
          (late_of state) state.depth (open_blocks state) (positioned_view state.elements)
          (record { depth = c.in_ok-add_text.ensures.depth; open_blocks = c.in_ok-add_text.ensures.open_blocks; late_unchanged = c.in_ok-add_text.ensures.late; elements = c.in_ok-add_text.ensures.elements })
          (late_of last) last.depth (open_blocks last) (positioned_view last.elements)
          (apply-early (tag_piece (options_view c.args.options.now) at next f.tag) state.depth (open_blocks state) (positioned_view state.elements) _ early done.goes_on) done.late
          prefix.token.now (string_bytes prefix.unescaped) prefix.rest.now (position_of c.advance-position.result) c.fresh_after-fresh.result
          (record {
            parts = c.in_ok-prefix-2.ensures.whole;
            is_text = rw c.braces_after-in-tags.ensures at c.in_ok-prefix-2.ensures.reads;
            there = c.advance-position.ensures ∙ ap (position_after at) same;
            lines = c.fresh_after-fresh.ensures ∙ ap (fold is_fresh_after mid) same;
          })
          c.tags.invariant.token_utf8 (IsUtf8-prefix left f.token rest f.whole c.tags.invariant.rest_utf8 rest_utf8);
    }

pub returns : goal.returns
returns c =
    let state = c.add_text-2.new.nesting in
    Scans-end c.tags.invariant.scans (is_empty_length c.tags.prefix.rest.now c.tags-test.ensures) (control_view c.no_control.result) c.no_control.ensures (late_of state) state.depth (open_blocks state) (positioned_view state.elements)
    (record { depth = c.in_ok-add_text-2.ensures.depth; open_blocks = c.in_ok-add_text-2.ensures.open_blocks; late_unchanged = c.in_ok-add_text-2.ensures.late; elements = c.in_ok-add_text-2.ensures.elements })
    (nested_outcome (options_view c.args.options.now) c.finish.result) (c.finish.ensures (options_view c.args.options.now))
