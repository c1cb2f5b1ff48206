use Rattle.std.proofs.Common.{rules, arith, refl, sym, ◌&&◌, ◌∙◌, ap, ◌≡◌, ◌+◌, ◌≤◌, length, suc, ◌-◌, ℕ, List, [], ◌∷◌, take, vec_len, length-append}
use Rattle.std.proofs.lemmas.List.{length-take}
use Rattle.handlebars_expressions.specs.Runs.{goes}
use Rattle.handlebars_expressions.specs.Literal.{Bracket}
use Rattle.handlebars_expressions.specs.LiteralReading.{outer, opened_brackets, unbracketed_read, unbracketed, empty_brackets, opening_bracket, another_entry, closing_bracket, literal_end, no_token, ahead, after}
use Rattle.handlebars_expressions.specs.LiteralView.{bracket_of, stack_of}
use Rattle.handlebars_expressions.proofs.LiteralsFound.{step_shorter, and_true}
use Rattle.handlebars_expressions.proofs.LiteralLoop.{stack-push, stack-pop, stack-length, loop_step, loop_goes, loop_ends, ends_within, loop_misfit, reading_position}
use Rattle.handlebars_expressions.proofs.literal.literal_throughout.Goals as goal

pub reading-smaller-in-Unbracketed : goal.reading-smaller-in-Unbracketed
reading-smaller-in-Unbracketed c =
    let at = loop_step c.reading.ahead c.reading.around.items c.reading.rest.now (unbracketed c.in-Unbracketed.within_range c.in-Unbracketed.after.now) c.in-Unbracketed.ensures in
    (step_shorter (reading_position c.reading.ahead c.reading.around.items) c.reading.rest.now (unbracketed_read c.in-Unbracketed.within_range) (after (stack_of c.reading.around.items)) c.in-Unbracketed.after.now at).shorter

pub reading-preserved-in-Unbracketed : goal.reading-preserved-in-Unbracketed
reading-preserved-in-Unbracketed c =
    let at = loop_step c.reading.ahead c.reading.around.items c.reading.rest.now (unbracketed c.in-Unbracketed.within_range c.in-Unbracketed.after.now) c.in-Unbracketed.ensures in
    let h = loop_goes c.args.text.now (reading_position c.reading.ahead c.reading.around.items) (length c.reading.around.items) c.reading.rest.now c.reading.depth c.reading.in_range (unbracketed_read c.in-Unbracketed.within_range) (after (stack_of c.reading.around.items)) (length c.reading.around.items) c.in-Unbracketed.after.now c.reading.depth (c.reading.in_range && c.in-Unbracketed.within_range) at (omega arith) refl (omega arith) (omega arith) c.reading.invariant.holds in
    record { text = search rules; holds = h }

pub reading-smaller-in-EmptyBrackets : goal.reading-smaller-in-EmptyBrackets
reading-smaller-in-EmptyBrackets c =
    let at = loop_step c.reading.ahead c.reading.around.items c.reading.rest.now (empty_brackets c.in-EmptyBrackets.after.now) c.in-EmptyBrackets.ensures in
    (step_shorter (reading_position c.reading.ahead c.reading.around.items) c.reading.rest.now (opened_brackets (suc (length (stack_of c.reading.around.items)))) (after (stack_of c.reading.around.items)) c.in-EmptyBrackets.after.now at).shorter

pub reading-preserved-in-EmptyBrackets : goal.reading-preserved-in-EmptyBrackets
reading-preserved-in-EmptyBrackets c =
    let at = loop_step c.reading.ahead c.reading.around.items c.reading.rest.now (empty_brackets c.in-EmptyBrackets.after.now) c.in-EmptyBrackets.ensures in
    let long = stack-length c.reading.around.items in
    let deeper = c.larger-depth.ensures in
    let count = c.len.ensures in
    let h = loop_goes c.args.text.now (reading_position c.reading.ahead c.reading.around.items) (length c.reading.around.items) c.reading.rest.now c.reading.depth c.reading.in_range (opened_brackets (suc (length (stack_of c.reading.around.items)))) (after (stack_of c.reading.around.items)) (length c.reading.around.items) c.in-EmptyBrackets.after.now c.larger-depth.result c.reading.in_range at (omega arith) (sym (and_true c.reading.in_range)) (omega arith) (omega arith) c.reading.invariant.holds in
    record { text = search rules; holds = h }

pub reading-smaller-in-OpeningBracket : goal.reading-smaller-in-OpeningBracket
reading-smaller-in-OpeningBracket c =
    let at = loop_step c.reading.ahead c.reading.around.items c.reading.rest.now (opening_bracket (bracket_of c.in-OpeningBracket.bracket) c.in-OpeningBracket.after.now) c.in-OpeningBracket.ensures in
    (step_shorter (reading_position c.reading.ahead c.reading.around.items) c.reading.rest.now (opened_brackets (suc (length (stack_of c.reading.around.items)))) (ahead (bracket_of c.in-OpeningBracket.bracket ∷ (stack_of c.reading.around.items))) c.in-OpeningBracket.after.now at).shorter

pub reading-preserved-in-OpeningBracket : goal.reading-preserved-in-OpeningBracket
reading-preserved-in-OpeningBracket c =
    let at = loop_step c.reading.ahead c.reading.around.items c.reading.rest.now (opening_bracket (bracket_of c.in-OpeningBracket.bracket) c.in-OpeningBracket.after.now) c.in-OpeningBracket.ensures in
    let long = stack-length c.reading.around.items in
    let pushed : stack_of c.open_bracket.new.around.items ≡ bracket_of c.in-OpeningBracket.bracket ∷ (stack_of c.reading.around.items) = ap stack_of c.in_ok-depth-in-OpeningBracket.ensures.around ∙ stack-push c.reading.around.items c.in-OpeningBracket.bracket in
    let longer : length c.open_bracket.new.around.items ≡ length c.reading.around.items + 1 = ap length c.in_ok-depth-in-OpeningBracket.ensures.around ∙ length-append c.reading.around.items (c.in-OpeningBracket.bracket ∷ []) in
    let deeper = c.in_ok-depth-in-OpeningBracket.ensures.depth in
    let h = loop_goes c.args.text.now (reading_position c.reading.ahead c.reading.around.items) (length c.reading.around.items) c.reading.rest.now c.reading.depth c.reading.in_range (opened_brackets (suc (length (stack_of c.reading.around.items)))) (ahead (stack_of c.open_bracket.new.around.items)) (length c.open_bracket.new.around.items) c.in-OpeningBracket.after.now c.in_ok-depth-in-OpeningBracket.depth c.reading.in_range (at ∙ ap (λ (z : List Bracket). goes (opened_brackets (suc (length (stack_of c.reading.around.items)))) (ahead z) c.in-OpeningBracket.after.now) (sym pushed)) (omega arith) (sym (and_true c.reading.in_range)) (omega arith) (omega arith) c.reading.invariant.holds in
    record { text = search rules; holds = h }

pub reading-smaller-in-AnotherEntry : goal.reading-smaller-in-AnotherEntry
reading-smaller-in-AnotherEntry c =
    let at = loop_step c.reading.ahead c.reading.around.items c.reading.rest.now (another_entry c.in-AnotherEntry.after.now) c.in-AnotherEntry.ensures in
    (step_shorter (reading_position c.reading.ahead c.reading.around.items) c.reading.rest.now (opened_brackets 0) (ahead (stack_of c.reading.around.items)) c.in-AnotherEntry.after.now at).shorter

pub reading-preserved-in-AnotherEntry : goal.reading-preserved-in-AnotherEntry
reading-preserved-in-AnotherEntry c =
    let at = loop_step c.reading.ahead c.reading.around.items c.reading.rest.now (another_entry c.in-AnotherEntry.after.now) c.in-AnotherEntry.ensures in
    let h = loop_goes c.args.text.now (reading_position c.reading.ahead c.reading.around.items) (length c.reading.around.items) c.reading.rest.now c.reading.depth c.reading.in_range (opened_brackets 0) (ahead (stack_of c.reading.around.items)) (length c.reading.around.items) c.in-AnotherEntry.after.now c.reading.depth c.reading.in_range at (omega arith) (sym (and_true c.reading.in_range)) (omega arith) (omega arith) c.reading.invariant.holds in
    record { text = search rules; holds = h }

pub reading-smaller : goal.reading-smaller
reading-smaller c =
    let at = loop_step c.reading.ahead c.reading.around.items c.reading.rest.now (closing_bracket c.in-ClosingBracket.after.now) c.in-ClosingBracket.ensures in
    (step_shorter (reading_position c.reading.ahead c.reading.around.items) c.reading.rest.now (opened_brackets 0) (after (outer (stack_of c.reading.around.items))) c.in-ClosingBracket.after.now at).shorter

pub reading-preserved : goal.reading-preserved
reading-preserved c =
    let at = loop_step c.reading.ahead c.reading.around.items c.reading.rest.now (closing_bracket c.in-ClosingBracket.after.now) c.in-ClosingBracket.ensures in
    let count : vec_len c.reading.around ≡ length c.reading.around.items = omega (arith, c.reading.around.ok.0) in
    let left : c.pop.new.self.items ≡ take (length c.reading.around.items - 1) c.reading.around.items = c.pop.ensures.rest ∙ ap (λ (z : ℕ). take (z - 1) c.reading.around.items) count in
    let popped : stack_of c.pop.new.self.items ≡ outer (stack_of c.reading.around.items) = ap stack_of left ∙ stack-pop c.reading.around.items in
    let fewer : length c.pop.new.self.items ≤ length c.reading.around.items = omega (arith, ap length left, length-take (length c.reading.around.items - 1) c.reading.around.items) in
    let h = loop_goes c.args.text.now (reading_position c.reading.ahead c.reading.around.items) (length c.reading.around.items) c.reading.rest.now c.reading.depth c.reading.in_range (opened_brackets 0) (after (stack_of c.pop.new.self.items)) (length c.pop.new.self.items) c.in-ClosingBracket.after.now c.reading.depth c.reading.in_range (at ∙ ap (λ (z : List Bracket). goes (opened_brackets 0) (after z) c.in-ClosingBracket.after.now) (sym popped)) (omega arith) (sym (and_true c.reading.in_range)) (omega arith) (omega arith) c.reading.invariant.holds in
    record { text = search rules; holds = h }

pub literal_token_to-requires : goal.literal_token_to-requires
literal_token_to-requires c = c.reading.invariant.holds.whole

pub returns-in-LiteralEnd-clause-reads : goal.returns-in-LiteralEnd-clause-reads
returns-in-LiteralEnd-clause-reads c =
    let at = loop_step c.reading.ahead c.reading.around.items c.reading.rest.now literal_end c.in-LiteralEnd.ensures in
    c.literal_token_to.ensures.reads ∙ sym (loop_ends c.args.text.now c.reading.rest.now (reading_position c.reading.ahead c.reading.around.items) c.reading.depth c.reading.in_range c.reading.invariant.holds.still at)

pub returns-in-LiteralEnd-clause-depth : goal.returns-in-LiteralEnd-clause-depth
returns-in-LiteralEnd-clause-depth c = ends_within (length c.args.text.now) c.reading.depth c.literal_token_to.result (omega (arith, c.reading.invariant.holds.deep)) c.literal_token_to.ensures.depth

pub returns-in-NoToken-clause-reads : goal.returns-in-NoToken-clause-reads
returns-in-NoToken-clause-reads c =
    let at = loop_step c.reading.ahead c.reading.around.items c.reading.rest.now no_token c.in-NoToken.ensures in
    sym (loop_misfit c.args.text.now c.reading.rest.now (reading_position c.reading.ahead c.reading.around.items) c.reading.depth c.reading.in_range c.reading.invariant.holds.still at)
