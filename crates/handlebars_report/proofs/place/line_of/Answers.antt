use Rattle.std.proofs.Common.{◌≡◌, ap, ◌∙◌, unwrap_or, option_map, Some, None, Option, Bor, List, ℕ, [], refl, slice_get}
use Rattle.std.proofs.lemmas.Iterator.Consumers.{nth_from_yields_List}
use Rattle.std.proofs.lemmas.Iterator.Splits.{YieldsList-from_lines}
use Rattle.std.specs.Str.Lines.{lines}
use Rattle.handlebars_report.proofs.place.line_of.Goals as goal

now-unwrap_or : (line : Option (Bor (List ℕ))) (other : Bor (List ℕ)) → (unwrap_or line other).now ≡ unwrap_or (option_map (λ x. x.now) line) other.now
now-unwrap_or None other = refl
now-unwrap_or (Some line) other = refl

pub returns : goal.returns
returns c =
    let found = nth_from_yields_List _ _ _ c.nth.ensures.ran (YieldsList-from_lines c.args.text.now c.lines.ensures.rest) in
    ap (λ x. x.now) c.unwrap_or.ensures ∙ now-unwrap_or c.nth.result _ ∙ ap (λ line. unwrap_or line []) found
    ∙ ap (λ n. unwrap_or (slice_get (lines c.args.text.now) n) []) c.saturating_sub.ensures
