use Rattle.std.proofs.Common.{true, rules}
use Rattle.handlebars_template.proofs.Scan.{HasNoLong-after, length-rest}
use Rattle.handlebars_syntax.proofs.tags.tags_of.Goals as goal

pub tags-init : goal.tags-init
tags-init c = record { token_utf8 = search rules; rest_utf8 = search rules; no_long = λ e. cc }

pub tags-smaller : goal.tags-smaller
tags-smaller c =
    let f = rw c.in-Some.is at c.in_ok-tag.ensures.reads in
    let prefix = c.in_ok-prefix-2.prefix in
    length-rest true c.tags.prefix.rest.now f.token c.in-Some.tag.rest.now prefix.token.now prefix.rest.now f.tag _ f.whole f.is_tag c.in_ok-prefix-2.ensures.whole

pub tags-preserved : goal.tags-preserved
tags-preserved c =
    let prefix = c.in_ok-prefix-2.prefix in
    record {
      token_utf8 = search rules;
      rest_utf8 = search rules;
      no_long = HasNoLong-after c.in-Some.tag.long_ahead c.in-Some.tag.rest.now prefix.token.now prefix.rest.now c.in_ok-prefix-2.ensures.whole (rw c.in-Some.is at c.in_ok-tag.ensures.ahead);
    }
