use Rattle.std.proofs.Common.{ap₂, string_bytes}
use Rattle.handlebars_semantics.specs.Pieces.{of_value}
use Rattle.handlebars_semantics.specs.Emitted.{escaped_value}
use Rattle.handlebars_expand.specs.Boxed.{error_of}
use Rattle.handlebars_write.proofs.Shows.{user_failed, user_text}
use Rattle.handlebars_write.proofs.value.show_by_user.Goals as goal

pub returns-in-Ok-clause-shows : goal.returns-in-Ok-clause-shows
returns-in-Ok-clause-shows g c = λ user occurrence location found is path given s indent same on.
    user_text _ _ occurrence found _ user is (string_bytes c.in-Ok.text) on c.in-Ok.ensures
    (rw c.as_str.ensures.value at (c.put_escaped.ensures.puts (of_value occurrence found)
    (λ asks. ap₂ (λ w p. record { kind = escaped_value; location = w; path = p }) (location asks) (path asks)) s indent same))

pub returns-in-Err-clause-shows : goal.returns-in-Err-clause-shows
returns-in-Err-clause-shows g c = λ user occurrence location found is path given s indent same on.
    rw c.from.ensures (user_failed _ _ occurrence found _ user is c.in-Err.e (error_of c.new.result) on c.new.ensures c.in-Err.ensures)
