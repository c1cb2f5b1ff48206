use Rattle.std.proofs.Common.{◌≡◌, ◌∙◌, false, cond, List, [], ◌∷◌, ◌++◌, Result, Ok, Err, sym}
use Rattle.std.specs.Result.{is_ok, is_err}
use Rattle.handlebars_template.proofs.NestsBuilt.{paired_push}
use Rattle.handlebars_template.proofs.template.positioned.PositionedElements.push.Goals as goal

pushed : {X A E : Type 0} (r : Result A E) (new old : List X) (x : X) → new ≡ cond (is_ok r) (old ++ x ∷ []) old → is_err r ≡ false → new ≡ old ++ x ∷ []
pushed (Ok a) new old x e h = e
pushed (Err a) new old x e h = absurd cc

pub returns : goal.returns
returns c =
    rw (c.in_ok-push.ensures.items, pushed c.push-2.result _ _ c.args.position c.push-2.ensures.items (sym c.is_err.ensures.value ∙ c.if-is_err.false))
    (paired_push c.args.self.now.elements.items c.args.self.now.mapping.items c.args.element c.args.position c.args.self.now.as_many)
