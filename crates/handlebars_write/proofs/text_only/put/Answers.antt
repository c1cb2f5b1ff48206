use Rattle.std.proofs.Common.{ap, option_map, ◌∙◌}
use Rattle.handlebars_write.proofs.text_only.put.Goals as goal

pub returns-in-None-clause-puts : goal.returns-in-None-clause-puts
returns-in-None-clause-puts g c = λ s indent same.
    c.put_plain.ensures.puts s (indent ∙ ap (option_map (λ t. t.now)) c.in-None.is) same

pub returns-in-Some-clause-puts : goal.returns-in-Some-clause-puts
returns-in-Some-clause-puts g c = λ s indent same.
    c.put_under.ensures.puts s (indent ∙ ap (option_map (λ t. t.now)) c.in-Some.is) same
