use Rattle.std.proofs.Common.{sym, ◌∙◌}
use Rattle.std.proofs.lemmas.Str.{IsUtf8-past_char}
use Rattle.serde_json.specs.View.{view}
use Rattle.handlebars_values.proofs.Merging.{with_characters-more, with_characters-done}
use Rattle.handlebars_values.proofs.merge.characters_by_position.Goals as goal

pub characters-preserved : goal.characters-preserved
characters-preserved c =
    let step = c.in-Some.ensures.steps in
    record {
      utf8 = IsUtf8-past_char _ _ c.in-Some.character c.characters.invariant.utf8 step.0.0;
      left = with_characters-more _ _ c.in-Some.index _ _ c.in-Some.character (view c.in_ok-character_alone.field-0) _ _
          c.characters.invariant.utf8 step.0.0 step.1 step.2 c.in_ok-character_alone.ensures c.in_ok-put_at.ensures
          ∙ c.characters.invariant.left;
    }

pub returns : goal.returns
returns c =
    sym (with_characters-done c.characters.index-iterator.count _ _ c.in-None.ensures.steps.0.0.0) ∙ c.characters.invariant.left
