use Rattle.std.proofs.Common.{◌≡◌, ◌+◌, ◌<◌, ◌≤◌, length, take, get_or, true}
use Rattle.std.specs.List.{suffix_len}
use Rattle.handlebars_lexer.specs.Trim.{is_blank}
use Rattle.handlebars_lexer.proofs.trim.dark_len.Given as goal

abbrev pub invariant-blanks : goal.invariant-blanks
invariant-blanks l = record {
  within : l.n ≤ length l.bytes;
  len : l.n + suffix_len is_blank l.bytes ≡ length l.bytes + suffix_len is_blank (take l.n l.bytes);
  blank : l.n < length l.bytes → is_blank (get_or l.bytes l.n 0) ≡ true;
}

abbrev pub decreases-blanks : goal.decreases-blanks
decreases-blanks l = l.n
