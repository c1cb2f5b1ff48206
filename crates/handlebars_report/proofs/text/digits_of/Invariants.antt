use Rattle.std.proofs.Common.{◌+◌, ◌≡◌, ◌<◌, ◌^◌, decimal, length}
use Rattle.handlebars_report.proofs.text.digits_of.Given as goal

-- the digits so far, and those of the rest, of which the first is counted already
abbrev pub invariant-digits : goal.invariant-digits
invariant-digits l = record {
  counted : l.digits + length (decimal l.rest) ≡ length (decimal l.number) + 1;
  in_range : l.rest < 2 ^ 64;
}

abbrev pub decreases-digits : goal.decreases-digits
decreases-digits l = l.rest
